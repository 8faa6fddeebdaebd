use Rattle.std.proofs.Common.{rules, ◌≡◌, ◌<◌, ◌≤◌, ℕ, ◌+◌, ◌-◌, true, false, length, drop, List, arith, sym, ap, ◌∙◌, subst}
use Rattle.std.specs.Prelude.{pos}
use Rattle.std.proofs.lemmas.Bool.Decides.{nat_tests}
use Rattle.session_values.specs.declared.value.Value.{Value}
use Rattle.session_values.specs.declared.value.Value.TheVariants.{Num}
use Rattle.check_meaning.specs.declared.tree.CheckedExpr.{CheckedExpr}
use Rattle.check_meaning.specs.declared.tree.CheckedStmt.{CheckedStmt}
use Rattle.check_meaning.specs.Ahead.{Ahead, passing, run_then}
use Rattle.check_meaning.specs.Code.{block_code, expr_term, stmt_code}
use Rattle.check_meaning.specs.Dialogue.{Env, env_of, with_reply}
use Rattle.handler_machine.specs.Rounds.{rounds_then}
use Rattle.handler_machine.specs.Runnable.{IsRunnable}
use Rattle.handler_machine.proofs.Answering.{lengths_once}
use Rattle.handler_machine.proofs.Steps.{item_at, code_at, within_stmt, within_choose, within_repeat, within_answer, block_ahead, end_ahead, ask_ahead, yes_ahead, no_ahead, loop_ahead, round_ahead, rounds_end, leads_on, leads_answered, leads_stopped, leads_err, call_stopped, size_at, size_choose, size_repeat}
use Rattle.handler_machine.proofs.walk.+walk.Goals as goal

pub walk_block-walk_stmt-requires : goal.walk_block-walk_stmt-requires
walk_block-walk_stmt-requires g t c κs within =
    let ss = c.args.block.now in
    let i = c.loop-s.s-index in
    let s = c.s-item.result in
    let rest = block_code (drop (i + 1) ss) in
    let at = item_at ss c.as_slice-s-items.result.now i s s c.as_slice-s-items.ensures c.loop-s-test.true c.s-item.is in
    let w : IsRunnable (length c.loop-s.env) (stmt_code s rest) = subst (IsRunnable (length c.loop-s.env)) (code_at ss i s s at.0 at.1) (subst (λ (n : ℕ). IsRunnable n (block_code (drop i ss))) (sym c.loop-s.auto.env) c.loop-s.invariant.within) in
    let r = c.requires.serves in
    let h = c.loop-s.invariant.serves r.0 r.1 r.2 r.3 in
    (omega (arith, c.decreases, size_at ss i s s at.0 at.1), (search rules, (search rules, (subst (λ (n : ℕ). g.G.Guide.variables ≤ n) (sym c.loop-s.auto.env) c.requires.variables, ((within_stmt (length c.loop-s.env) s rest w).0, (r.0, r.1, run_then rest r.2, block_ahead (g.G.Guide.Serves c.loop-s.guide r.0 r.1 c.loop-s.host) r.2 ss i s s (env_of c.loop-s.env) at.0 at.1 (h)))))))

pub walk_block-returns-in_err-walk_stmt : goal.walk_block-returns-in_err-walk_stmt
walk_block-returns-in_err-walk_stmt g t c whole start k now =
    let ss = c.args.block.now in
    let i = c.loop-s.s-index in
    let s = c.s-item.result in
    let rest = block_code (drop (i + 1) ss) in
    let at = item_at ss c.as_slice-s-items.result.now i s s c.as_slice-s-items.ensures c.loop-s-test.true c.s-item.is in
    let led = c.walk_stmt.ensures whole start (run_then rest k) (block_ahead (g.G.Guide.Serves c.loop-s.guide whole start c.loop-s.host) k ss i s s (env_of c.loop-s.env) at.0 at.1 (c.loop-s.invariant.serves whole start k now)) in
    leads_err (g.G.Guide.Serves c.walk_stmt.new.guide whole start c.walk_stmt.new.host) (g.G.Guide.Stops c.walk_stmt.new.guide whole start c.walk_stmt.new.host) k (env_of c.walk_stmt.new.env) c.walk_stmt.new.reply c.from_residual.result c.from_residual.ensures.0 (leads_stopped (g.G.Guide.Serves c.walk_stmt.new.guide whole start c.walk_stmt.new.host) (g.G.Guide.Stops c.walk_stmt.new.guide whole start c.walk_stmt.new.host) (run_then rest k) (env_of c.walk_stmt.new.env) c.walk_stmt.new.reply c.walk_stmt.result _ c.in_err-walk_stmt.was led)

pub walk_block-returns-in-Answered : goal.walk_block-returns-in-Answered
walk_block-returns-in-Answered g t c whole start k now =
    let ss = c.args.block.now in
    let i = c.loop-s.s-index in
    let s = c.s-item.result in
    let rest = block_code (drop (i + 1) ss) in
    let at = item_at ss c.as_slice-s-items.result.now i s s c.as_slice-s-items.ensures c.loop-s-test.true c.s-item.is in
    let led = c.walk_stmt.ensures whole start (run_then rest k) (block_ahead (g.G.Guide.Serves c.loop-s.guide whole start c.loop-s.host) k ss i s s (env_of c.loop-s.env) at.0 at.1 (c.loop-s.invariant.serves whole start k now)) in
    leads_answered (g.G.Guide.Serves c.walk_stmt.new.guide whole start c.walk_stmt.new.host) (g.G.Guide.Stops c.walk_stmt.new.guide whole start c.walk_stmt.new.host) (run_then rest k) (env_of c.walk_stmt.new.env) c.walk_stmt.new.reply _ c.walk_stmt.result c.in_ok-walk_stmt.was c.in-Answered.is led

pub walk_block-loop-s-preserved : goal.walk_block-loop-s-preserved
walk_block-loop-s-preserved g t c =
    let ss = c.args.block.now in
    let i = c.loop-s.s-index in
    let s = c.s-item.result in
    let rest = block_code (drop (i + 1) ss) in
    let at = item_at ss c.as_slice-s-items.result.now i s s c.as_slice-s-items.ensures c.loop-s-test.true c.s-item.is in
    let w : IsRunnable (length c.args.env.now) (stmt_code s rest) = subst (IsRunnable (length c.args.env.now)) (code_at ss i s s at.0 at.1) c.loop-s.invariant.within in
    record {
      within = (within_stmt (length c.args.env.now) s rest w).1;
      serves = λ whole start k h.
          leads_on (g.G.Guide.Serves c.walk_stmt.new.guide whole start c.walk_stmt.new.host) (g.G.Guide.Stops c.walk_stmt.new.guide whole start c.walk_stmt.new.host) (run_then rest k) (env_of c.walk_stmt.new.env) c.walk_stmt.new.reply _ c.walk_stmt.result c.in_ok-walk_stmt.was c.in-On.is
          (c.walk_stmt.ensures whole start (run_then rest k) (block_ahead (g.G.Guide.Serves c.loop-s.guide whole start c.loop-s.host) k ss i s s (env_of c.loop-s.env) at.0 at.1 (c.loop-s.invariant.serves whole start k h)));
    }

pub walk_stmt-call-requires : goal.walk_stmt-call-requires
walk_stmt-call-requires g t c =
    let r = c.requires.serves in
    let E = env_of c.args.env.now in
    let p = c.in-Perform in
    (r.0, r.1, (λ v. passing p.point (with_reply p.var v E) true (r.2 (with_reply p.var v E))), ask_ahead (g.G.Guide.Serves c.args.guide.now r.0 r.1 c.args.host.now) r.2 c.args.stmt.now p.at p.point p.var p.call E c.op_of-op.result p.is c.op_of-op.ensures r.3)

pub walk_stmt-returns-in_err-value-in-Perform : goal.walk_stmt-returns-in_err-value-in-Perform
walk_stmt-returns-in_err-value-in-Perform g t c whole start k now =
    let E = env_of c.args.env.now in
    let p = c.in-Perform in
    let next : Value → Ahead = λ v. passing p.point (with_reply p.var v E) true (k (with_reply p.var v E)) in
    let led = c.call.ensures whole start next (ask_ahead (g.G.Guide.Serves c.args.guide.now whole start c.args.host.now) k c.args.stmt.now p.at p.point p.var p.call E c.op_of-op.result p.is c.op_of-op.ensures now) in
    leads_err (g.G.Guide.Serves c.call.new.self whole start c.call.new.host) (g.G.Guide.Stops c.call.new.self whole start c.call.new.host) k E c.args.reply.now c.from_residual.result c.from_residual.ensures.0
    (call_stopped c.call.result _ (λ v. g.G.Guide.Waits c.call.new.self whole start c.call.new.host (next v)) (g.G.Guide.Stops c.call.new.self whole start c.call.new.host) c.in_err-value-in-Perform.was led)

pub walk_stmt-replied-requires-clause-waits : goal.walk_stmt-replied-requires-clause-waits
walk_stmt-replied-requires-clause-waits g t c =
    let r = c.requires.serves in
    let E = env_of c.args.env.now in
    let p = c.in-Perform in
    let next : Value → Ahead = λ v. passing p.point (with_reply p.var v E) true (r.2 (with_reply p.var v E)) in
    let v = c.in_ok-value-in-Perform.value in
    let h = c.in_ok-value-in-Perform.ensures r.0 r.1 next (ask_ahead (g.G.Guide.Serves c.args.guide.now r.0 r.1 c.args.host.now) r.2 c.args.stmt.now p.at p.point p.var p.call E c.op_of-op.result p.is c.op_of-op.ensures r.3) in
    (r.0, r.1, r.2 (with_reply p.var v E), subst (λ (e : Env). g.G.Guide.Waits c.call.new.self r.0 r.1 c.call.new.host (passing p.point e true (r.2 (with_reply p.var v E)))) (sym c.keep.ensures) h)

pub walk_stmt-returns-in_ok-value-in-Perform : goal.walk_stmt-returns-in_ok-value-in-Perform
walk_stmt-returns-in_ok-value-in-Perform g t c whole start k now =
    let E = env_of c.args.env.now in
    let p = c.in-Perform in
    let next : Value → Ahead = λ v. passing p.point (with_reply p.var v E) true (k (with_reply p.var v E)) in
    let v = c.in_ok-value-in-Perform.value in
    let h = c.in_ok-value-in-Perform.ensures whole start next (ask_ahead (g.G.Guide.Serves c.args.guide.now whole start c.args.host.now) k c.args.stmt.now p.at p.point p.var p.call E c.op_of-op.result p.is c.op_of-op.ensures now) in
    let r = c.replied.ensures whole start (k (with_reply p.var v E)) (subst (λ (e : Env). g.G.Guide.Waits c.call.new.self whole start c.call.new.host (passing p.point e true (k (with_reply p.var v E)))) (sym c.keep.ensures) h) in
    subst (λ (e : Env). g.G.Guide.Serves c.replied.new.self whole start c.replied.new.host (k e)) (sym c.keep.ensures) r

pub walk_stmt-passed-requires-clause-serves : goal.walk_stmt-passed-requires-clause-serves
walk_stmt-passed-requires-clause-serves g t c =
    let r = c.requires.serves in
    let E = env_of c.args.env.now in
    let p = c.in-Choose in
    let told = sym c.holds.ensures ∙ c.if-holds.true in
    (r.0, r.1, run_then (block_code p.yes) r.2 E, yes_ahead (g.G.Guide.Serves c.args.guide.now r.0 r.1 c.args.host.now) r.2 c.args.stmt.now p.at p.yes_point p.no_point p.cond p.yes p.no E p.is told r.3)

pub walk_stmt-walk_side-requires : goal.walk_stmt-walk_side-requires
walk_stmt-walk_side-requires g t c κs within =
    let r = c.requires.serves in
    let E = env_of c.args.env.now in
    let p = c.in-Choose in
    let told = sym c.holds.ensures ∙ c.if-holds.true in
    let w = within_choose (length c.args.env.now) c.args.stmt.now p.at p.yes_point p.no_point p.cond p.yes p.no p.is c.requires.within in
    let less = size_choose c.args.stmt.now p.at p.yes_point p.no_point p.cond p.yes p.no p.is in
    let h = c.passed.ensures r.0 r.1 (run_then (block_code p.yes) r.2 E) (yes_ahead (g.G.Guide.Serves c.args.guide.now r.0 r.1 c.args.host.now) r.2 c.args.stmt.now p.at p.yes_point p.no_point p.cond p.yes p.no E p.is told r.3) in
    (omega (arith, c.decreases, less.0), (search rules, (search rules, (c.requires.variables, (w.2, (r.0, r.1, r.2, h))))))

pub walk_stmt-returns-then-holds : goal.walk_stmt-returns-then-holds
walk_stmt-returns-then-holds g t c whole start k now =
    let E = env_of c.args.env.now in
    let p = c.in-Choose in
    let told = sym c.holds.ensures ∙ c.if-holds.true in
    let h = yes_ahead (g.G.Guide.Serves c.args.guide.now whole start c.args.host.now) k c.args.stmt.now p.at p.yes_point p.no_point p.cond p.yes p.no E p.is told now in
    c.walk_side.ensures whole start k (c.passed.ensures whole start (run_then (block_code p.yes) k E) h)

pub walk_stmt-passed-requires-else-holds-clause-serves : goal.walk_stmt-passed-requires-else-holds-clause-serves
walk_stmt-passed-requires-else-holds-clause-serves g t c =
    let r = c.requires.serves in
    let E = env_of c.args.env.now in
    let p = c.in-Choose in
    let told = sym c.holds.ensures ∙ c.if-holds.false in
    (r.0, r.1, run_then (block_code p.no) r.2 E, no_ahead (g.G.Guide.Serves c.args.guide.now r.0 r.1 c.args.host.now) r.2 c.args.stmt.now p.at p.yes_point p.no_point p.cond p.yes p.no E p.is told r.3)

pub walk_stmt-walk_side-requires-else-holds : goal.walk_stmt-walk_side-requires-else-holds
walk_stmt-walk_side-requires-else-holds g t c κs within =
    let r = c.requires.serves in
    let E = env_of c.args.env.now in
    let p = c.in-Choose in
    let told = sym c.holds.ensures ∙ c.if-holds.false in
    let w = within_choose (length c.args.env.now) c.args.stmt.now p.at p.yes_point p.no_point p.cond p.yes p.no p.is c.requires.within in
    let less = size_choose c.args.stmt.now p.at p.yes_point p.no_point p.cond p.yes p.no p.is in
    let h = c.passed-else-holds.ensures r.0 r.1 (run_then (block_code p.no) r.2 E) (no_ahead (g.G.Guide.Serves c.args.guide.now r.0 r.1 c.args.host.now) r.2 c.args.stmt.now p.at p.yes_point p.no_point p.cond p.yes p.no E p.is told r.3) in
    (omega (arith, c.decreases, less.1), (search rules, (search rules, (c.requires.variables, (w.3, (r.0, r.1, r.2, h))))))

pub walk_stmt-returns-else-holds : goal.walk_stmt-returns-else-holds
walk_stmt-returns-else-holds g t c whole start k now =
    let E = env_of c.args.env.now in
    let p = c.in-Choose in
    let told = sym c.holds.ensures ∙ c.if-holds.false in
    let h = no_ahead (g.G.Guide.Serves c.args.guide.now whole start c.args.host.now) k c.args.stmt.now p.at p.yes_point p.no_point p.cond p.yes p.no E p.is told now in
    c.walk_side-else-holds.ensures whole start k (c.passed-else-holds.ensures whole start (run_then (block_code p.no) k E) h)

pub walk_stmt-walk_rounds-requires : goal.walk_stmt-walk_rounds-requires
walk_stmt-walk_rounds-requires g t c κs within =
    let r = c.requires.serves in
    let E = env_of c.args.env.now in
    let p = c.in-Repeat in
    let w = within_repeat (length c.args.env.now) c.args.stmt.now p.at p.point p.turns p.var p.body p.is c.requires.within in
    let h = loop_ahead (g.G.Guide.Serves c.args.guide.now r.0 r.1 c.args.host.now) r.2 c.args.stmt.now p.at p.point p.turns p.var p.body E p.is r.3 in
    (omega (arith, c.decreases, size_repeat c.args.stmt.now p.at p.point p.turns p.var p.body p.is), (search rules, (search rules, (w.0, (c.requires.variables, (w.1, (r.0, r.1, (λ e. passing p.point e false (r.2 e)), h)))))))

pub walk_stmt-returns-in_err-walk_rounds-in-Repeat : goal.walk_stmt-returns-in_err-walk_rounds-in-Repeat
walk_stmt-returns-in_err-walk_rounds-in-Repeat g t c whole start k now =
    let E = env_of c.args.env.now in
    let p = c.in-Repeat in
    let to : Env → Ahead = λ e. passing p.point e false (k e) in
    let led = c.walk_rounds.ensures whole start to (loop_ahead (g.G.Guide.Serves c.args.guide.now whole start c.args.host.now) k c.args.stmt.now p.at p.point p.turns p.var p.body E p.is now) in
    leads_err (g.G.Guide.Serves c.walk_rounds.new.guide whole start c.walk_rounds.new.host) (g.G.Guide.Stops c.walk_rounds.new.guide whole start c.walk_rounds.new.host) k (env_of c.walk_rounds.new.env) c.walk_rounds.new.reply c.from_residual-in_err-walk_rounds-in-Repeat.result c.from_residual-in_err-walk_rounds-in-Repeat.ensures.0 (leads_stopped (g.G.Guide.Serves c.walk_rounds.new.guide whole start c.walk_rounds.new.host) (g.G.Guide.Stops c.walk_rounds.new.guide whole start c.walk_rounds.new.host) to (env_of c.walk_rounds.new.env) c.walk_rounds.new.reply c.walk_rounds.result _ c.in_err-walk_rounds-in-Repeat.was led)

pub walk_stmt-passed-requires-in-On-clause-serves : goal.walk_stmt-passed-requires-in-On-clause-serves
walk_stmt-passed-requires-in-On-clause-serves g t c =
    let r = c.requires.serves in
    let E = env_of c.args.env.now in
    let p = c.in-Repeat in
    let to : Env → Ahead = λ e. passing p.point e false (r.2 e) in
    let led = c.walk_rounds.ensures r.0 r.1 to (loop_ahead (g.G.Guide.Serves c.args.guide.now r.0 r.1 c.args.host.now) r.2 c.args.stmt.now p.at p.point p.turns p.var p.body E p.is r.3) in
    (r.0, r.1, r.2 (env_of c.walk_rounds.new.env), leads_on (g.G.Guide.Serves c.walk_rounds.new.guide r.0 r.1 c.walk_rounds.new.host) (g.G.Guide.Stops c.walk_rounds.new.guide r.0 r.1 c.walk_rounds.new.host) to (env_of c.walk_rounds.new.env) c.walk_rounds.new.reply _ c.walk_rounds.result c.in_ok-walk_rounds-in-Repeat.was c.in-On.is led)

pub walk_stmt-returns-in-On : goal.walk_stmt-returns-in-On
walk_stmt-returns-in-On g t c whole start k now =
    let E = env_of c.args.env.now in
    let p = c.in-Repeat in
    let to : Env → Ahead = λ e. passing p.point e false (k e) in
    let led = c.walk_rounds.ensures whole start to (loop_ahead (g.G.Guide.Serves c.args.guide.now whole start c.args.host.now) k c.args.stmt.now p.at p.point p.turns p.var p.body E p.is now) in
    c.passed-in-On.ensures whole start (k (env_of c.walk_rounds.new.env)) (leads_on (g.G.Guide.Serves c.walk_rounds.new.guide whole start c.walk_rounds.new.host) (g.G.Guide.Stops c.walk_rounds.new.guide whole start c.walk_rounds.new.host) to (env_of c.walk_rounds.new.env) c.walk_rounds.new.reply _ c.walk_rounds.result c.in_ok-walk_rounds-in-Repeat.was c.in-On.is led)

pub walk_stmt-returns-in-Answered : goal.walk_stmt-returns-in-Answered
walk_stmt-returns-in-Answered g t c whole start k now =
    let E = env_of c.args.env.now in
    let p = c.in-Repeat in
    let to : Env → Ahead = λ e. passing p.point e false (k e) in
    let led = c.walk_rounds.ensures whole start to (loop_ahead (g.G.Guide.Serves c.args.guide.now whole start c.args.host.now) k c.args.stmt.now p.at p.point p.turns p.var p.body E p.is now) in
    leads_answered (g.G.Guide.Serves c.walk_rounds.new.guide whole start c.walk_rounds.new.host) (g.G.Guide.Stops c.walk_rounds.new.guide whole start c.walk_rounds.new.host) to (env_of c.walk_rounds.new.env) c.walk_rounds.new.reply _ c.walk_rounds.result c.in_ok-walk_rounds-in-Repeat.was c.in-Answered.is led

pub walk_stmt-put_reply-requires-clause-some : goal.walk_stmt-put_reply-requires-clause-some
walk_stmt-put_reply-requires-clause-some g t c =
    let p = c.in-Answer in
    let w = within_answer (length c.args.env.now) c.args.stmt.now p.values p.is c.requires.within in
    subst (λ (es : List CheckedExpr). 0 < length es) (sym c.as_slice.ensures) (subst (λ (n : ℕ). 0 < n) (lengths_once expr_term p.values) w.some)

pub walk_stmt-put_reply-requires-clause-few : goal.walk_stmt-put_reply-requires-clause-few
walk_stmt-put_reply-requires-clause-few g t c =
    let p = c.in-Answer in
    let w = within_answer (length c.args.env.now) c.args.stmt.now p.values p.is c.requires.within in
    subst (λ (es : List CheckedExpr). length es ≤ 4) (sym c.as_slice.ensures) (subst (λ (n : ℕ). n ≤ 4) (lengths_once expr_term p.values) w.few)

pub walk_side-returns-then-is_empty : goal.walk_side-returns-then-is_empty
walk_side-returns-then-is_empty g t c whole start k now =
    let none : length c.as_slice.result.now ≡ 0 = grind (arith, nat_tests, c.is_empty.ensures, c.if-is_empty.true) in
    let few : length c.args.side.now ≤ 0 = subst (λ (ss : List CheckedStmt). length ss ≤ 0) c.as_slice.ensures (omega (arith, none)) in
    end_ahead (g.G.Guide.Serves c.args.guide.now whole start c.args.host.now) k c.args.side.now 0 (env_of c.args.env.now) few now

pub walk_side-walk_rounds-requires : goal.walk_side-walk_rounds-requires
walk_side-walk_rounds-requires g t c κs within =
    let r = c.requires.serves in
    (omega (arith, c.decreases), (search rules, (search rules, (tt, (c.requires.variables, (c.requires.within, (r.0, r.1, r.2, r.3)))))))

pub walk_rounds-walk_block-requires : goal.walk_rounds-walk_block-requires
walk_rounds-walk_block-requires g t c κs within =
    let r = c.requires.serves in
    let body = run_then (block_code c.args.block.now) in
    let to = rounds_then body c.args.var (c.args.rounds - (c.loop-round.round + 1)) (c.loop-round.round + 1) r.2 in
    let put : env_of c.keep.new.env ≡ with_reply c.args.var (Num (pos c.loop-round.round)) (env_of c.loop-round.env) = c.keep.ensures ∙ ap (λ (v : Value). with_reply c.args.var v (env_of c.loop-round.env)) c.turn_number.ensures in
    let h = round_ahead (g.G.Guide.Serves c.loop-round.guide r.0 r.1 c.loop-round.host) r.2 body c.args.var c.args.rounds c.loop-round.round (env_of c.loop-round.env) c.loop-round-test.true (c.loop-round.invariant r.0 r.1 r.2 r.3) in
    (omega (arith, c.decreases), (search rules, (search rules, (subst (λ (n : ℕ). g.G.Guide.variables ≤ n) (sym (c.keep.auto.env ∙ c.loop-round.auto.env)) c.requires.variables, (subst (λ (n : ℕ). IsRunnable n (block_code c.args.block.now)) (sym (c.keep.auto.env ∙ c.loop-round.auto.env)) c.requires.within, (r.0, r.1, to, subst (λ (e : Env). g.G.Guide.Serves c.loop-round.guide r.0 r.1 c.loop-round.host (body to e)) (sym put) h))))))

pub walk_rounds-returns-in_err-walk_block : goal.walk_rounds-returns-in_err-walk_block
walk_rounds-returns-in_err-walk_block g t c whole start k now =
    let body = run_then (block_code c.args.block.now) in
    let to = rounds_then body c.args.var (c.args.rounds - (c.loop-round.round + 1)) (c.loop-round.round + 1) k in
    let put : env_of c.keep.new.env ≡ with_reply c.args.var (Num (pos c.loop-round.round)) (env_of c.loop-round.env) = c.keep.ensures ∙ ap (λ (v : Value). with_reply c.args.var v (env_of c.loop-round.env)) c.turn_number.ensures in
    let h = round_ahead (g.G.Guide.Serves c.loop-round.guide whole start c.loop-round.host) k body c.args.var c.args.rounds c.loop-round.round (env_of c.loop-round.env) c.loop-round-test.true (c.loop-round.invariant whole start k now) in
    let led = c.walk_block.ensures whole start to (subst (λ (e : Env). g.G.Guide.Serves c.loop-round.guide whole start c.loop-round.host (body to e)) (sym put) h) in
    leads_err (g.G.Guide.Serves c.walk_block.new.guide whole start c.walk_block.new.host) (g.G.Guide.Stops c.walk_block.new.guide whole start c.walk_block.new.host) k (env_of c.walk_block.new.env) c.walk_block.new.reply c.from_residual.result c.from_residual.ensures.0 (leads_stopped (g.G.Guide.Serves c.walk_block.new.guide whole start c.walk_block.new.host) (g.G.Guide.Stops c.walk_block.new.guide whole start c.walk_block.new.host) to (env_of c.walk_block.new.env) c.walk_block.new.reply c.walk_block.result _ c.in_err-walk_block.was led)

pub walk_rounds-returns-in-Answered : goal.walk_rounds-returns-in-Answered
walk_rounds-returns-in-Answered g t c whole start k now =
    let body = run_then (block_code c.args.block.now) in
    let to = rounds_then body c.args.var (c.args.rounds - (c.loop-round.round + 1)) (c.loop-round.round + 1) k in
    let put : env_of c.keep.new.env ≡ with_reply c.args.var (Num (pos c.loop-round.round)) (env_of c.loop-round.env) = c.keep.ensures ∙ ap (λ (v : Value). with_reply c.args.var v (env_of c.loop-round.env)) c.turn_number.ensures in
    let h = round_ahead (g.G.Guide.Serves c.loop-round.guide whole start c.loop-round.host) k body c.args.var c.args.rounds c.loop-round.round (env_of c.loop-round.env) c.loop-round-test.true (c.loop-round.invariant whole start k now) in
    let led = c.walk_block.ensures whole start to (subst (λ (e : Env). g.G.Guide.Serves c.loop-round.guide whole start c.loop-round.host (body to e)) (sym put) h) in
    leads_answered (g.G.Guide.Serves c.walk_block.new.guide whole start c.walk_block.new.host) (g.G.Guide.Stops c.walk_block.new.guide whole start c.walk_block.new.host) to (env_of c.walk_block.new.env) c.walk_block.new.reply _ c.walk_block.result c.in_ok-walk_block.was c.in-Answered.is led

pub walk_rounds-loop-round-preserved : goal.walk_rounds-loop-round-preserved
walk_rounds-loop-round-preserved g t c whole start k now =
    let body = run_then (block_code c.args.block.now) in
    let to = rounds_then body c.args.var (c.args.rounds - (c.loop-round.round + 1)) (c.loop-round.round + 1) k in
    let put : env_of c.keep.new.env ≡ with_reply c.args.var (Num (pos c.loop-round.round)) (env_of c.loop-round.env) = c.keep.ensures ∙ ap (λ (v : Value). with_reply c.args.var v (env_of c.loop-round.env)) c.turn_number.ensures in
    let h = round_ahead (g.G.Guide.Serves c.loop-round.guide whole start c.loop-round.host) k body c.args.var c.args.rounds c.loop-round.round (env_of c.loop-round.env) c.loop-round-test.true (c.loop-round.invariant whole start k now) in
    let led = c.walk_block.ensures whole start to (subst (λ (e : Env). g.G.Guide.Serves c.loop-round.guide whole start c.loop-round.host (body to e)) (sym put) h) in
    leads_on (g.G.Guide.Serves c.walk_block.new.guide whole start c.walk_block.new.host) (g.G.Guide.Stops c.walk_block.new.guide whole start c.walk_block.new.host) to (env_of c.walk_block.new.env) c.walk_block.new.reply _ c.walk_block.result c.in_ok-walk_block.was c.in-On.is led

pub walk_rounds-returns : goal.walk_rounds-returns
walk_rounds-returns g t c whole start k now =
    rounds_end (g.G.Guide.Serves c.loop-round.guide whole start c.loop-round.host) k (run_then (block_code c.args.block.now)) c.args.var c.args.rounds c.loop-round.round (env_of c.loop-round.env) c.loop-round-test.false (c.loop-round.invariant whole start k now)
