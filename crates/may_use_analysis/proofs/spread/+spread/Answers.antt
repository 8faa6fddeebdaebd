use Rattle.std.proofs.Common.{ℕ, ◌+◌, ◌*◌, ◌-◌, ◌<◌, arith, rules, length, drop, List, sym, ap, ◌∙◌, subst, Contains, inl, inr, ◌⊎◌, ◌≤◌}
use Rattle.std.specs.Prelude.{IfOk, OnOk}
use Rattle.symbolic_ops.specs.declared.symbol.Symbol.{Symbol}
use Rattle.check_meaning.specs.declared.tree.CheckedStmt.{CheckedStmt}
use Rattle.check_meaning.specs.Code.{Code, Finish, Loop, IsNumbered, stmt_code, block_code, points}
use Rattle.check_meaning.proofs.Codes.{code_store, code_choose, code_repeat}
use Rattle.handler_check.proofs.Counting.{checked_size, checked_sizes, member_smaller, first_smaller, second_smaller}
use Rattle.may_use_analysis.specs.Flow.{Flow, Head}
use Rattle.may_use_analysis.specs.Ordered.{Are}
use Rattle.may_use_analysis.specs.Warm.{AreWarm, SameOutside, StaysWarm}
use Rattle.may_use_analysis.proofs.Finite.{flow_finite, members_of}
use Rattle.may_use_analysis.proofs.FlowLemmas.{Within, flow_within}
use Rattle.may_use_analysis.proofs.LoopLemmas.{head_start}
use Rattle.may_use_analysis.proofs.Records.{on_ok_map}
use Rattle.may_use_analysis.proofs.SpreadLemmas.{block_within, turn_within, head_wider, taken_warm, taken_outside, walked_warm, joined_within}
use Rattle.may_use_analysis.proofs.StillLemmas.{still_are}
use Rattle.may_use_analysis.proofs.WalkSteps.{drop_code}
use Rattle.may_use_analysis.proofs.WarmLemmas.{warm_below, warm_above, outside_trans, outside_wider, start_of, numbered_next, warm_next, warm_after, others_after}
use Rattle.may_use_analysis.proofs.spread.+spread.Goals as goal

pub spread_block-spread_stmt-requires : goal.spread_block-spread_stmt-requires
spread_block-spread_stmt-requires t c =
    let items = c.args.block.now in
    let x = c.index-block-i.result in
    let i = c.loop-i.i in
    let n = c.requires in
    let within : i - 1 < length items = omega arith in
    let smaller = member_smaller items (i - 1) x x within c.index-block-i.is in
    let double : 2 * checked_size x < 2 * checked_sizes items = omega arith in
    (search rules, (start_of items (i - 1) n.0, numbered_next items i x c.loop-i-test.true c.loop-i.auto.i c.index-block-i.is n.0 n.1))

pub spread_block-loop-i-preserved : goal.spread_block-loop-i-preserved
spread_block-loop-i-preserved t c =
    let items = c.args.block.now in
    let x = c.index-block-i.result in
    let i = c.loop-i.i in
    let n = c.requires in
    let rest = block_code (drop i items) in
    let after = Contains c.args.after in
    let some = c.loop-i-test.true in
    let le = c.loop-i.auto.i in
    let is = c.index-block-i.is in
    let old = c.loop-i.heads in
    let new = c.spread_stmt.new.heads in
    let e = c.in_ok-set.ensures in
    let v = c.loop-i.invariant in
    record {
      within = subst (λ (z : Code). Within (Contains c.in_ok-set.set) (Flow z after)) (sym (drop_code items i x some le is)) (block_within x rest after c.loop-i.set c.in_ok-set.set v.within e.within);
      warm = λ base h w.
          let all = flow_finite rest (Contains base) (members_of base) in
          let was = v.warm base h w in
          let begun = λ (s : Symbol) (m : Contains c.loop-i.set s). (all.1 s).1 (flow_within rest after (Contains base) h s (v.within s m)) in
          warm_after items i x some le is old new e.others (Contains base) all.0 n.0 n.1 all.1 (e.warm all.0 begun (warm_next items i x some le is old (Contains base) all.0 was all.1)) was;
      others = others_after items i x some le is old new e.others c.args.heads.now v.others;
    }

pub spread_stmt-returns-then-is_still-clause-within : goal.spread_stmt-returns-then-is_still-clause-within
spread_stmt-returns-then-is_still-clause-within t c = λ s m.
    (still_are c.vars-vars.result.bits (stmt_code c.args.stmt.now Finish) c.args.after c.if-is_still.ensures c.vars-vars.ensures s).0 m

pub spread_stmt-spread_block-requires : goal.spread_stmt-spread_block-requires
spread_stmt-spread_block-requires t c =
    let w = c.in-Choose in
    let xs = c.as_slice-in-Choose.result.now in
    let low = c.requires.0 in
    let same = ap (λ (z : CheckedStmt). stmt_code z Finish) w.is ∙ code_choose w.at w.yes_point w.no_point w.cond w.yes w.no Finish in
    let n = subst (λ (z : Code). IsNumbered z low) same c.requires.1 in
    let smaller = second_smaller c.args.stmt.now w.at w.yes_point w.no_point w.cond w.yes w.no xs w.is c.as_slice-in-Choose.ensures in
    let double : 2 * checked_sizes xs < 2 * checked_size c.args.stmt.now = omega arith in
    let start = low + 2 + points (block_code w.yes) in
    (search rules, (start, subst (λ (z : List CheckedStmt). IsNumbered (block_code z) start) (sym c.as_slice-in-Choose.ensures) n.3))

pub spread_stmt-spread_block-requires-in-Choose : goal.spread_stmt-spread_block-requires-in-Choose
spread_stmt-spread_block-requires-in-Choose t c =
    let w = c.in-Choose in
    let xs = c.as_slice-in-Choose-2.result.now in
    let low = c.requires.0 in
    let same = ap (λ (z : CheckedStmt). stmt_code z Finish) w.is ∙ code_choose w.at w.yes_point w.no_point w.cond w.yes w.no Finish in
    let n = subst (λ (z : Code). IsNumbered z low) same c.requires.1 in
    let smaller = first_smaller c.args.stmt.now w.at w.yes_point w.no_point w.cond w.yes w.no xs w.is c.as_slice-in-Choose-2.ensures in
    let double : 2 * checked_sizes xs < 2 * checked_size c.args.stmt.now = omega arith in
    (search rules, (low + 1, subst (λ (z : List CheckedStmt). IsNumbered (block_code z) (low + 1)) (sym c.as_slice-in-Choose-2.ensures) n.1))

pub spread_stmt-returns-in-Store-clause-within : goal.spread_stmt-returns-in-Store-clause-within
spread_stmt-returns-in-Store-clause-within t c =
    let same = ap (λ (z : CheckedStmt). stmt_code z Finish) c.in-Store.is ∙ code_store c.in-Store.var c.in-Store.right Finish in
    let are : Are c.carry.new.self (Flow (stmt_code c.args.stmt.now Finish) (Contains c.args.after)) = subst (λ (z : Code). Are c.carry.new.self (Flow z (Contains c.args.after))) (sym same) (rw (← c.store_of.ensures) c.carry.ensures) in
    λ s m. (are s).0 m

pub spread_stmt-returns-in_ok-join-in-Choose-clause-within : goal.spread_stmt-returns-in_ok-join-in-Choose-clause-within
spread_stmt-returns-in_ok-join-in-Choose-clause-within t c =
    let w = c.in-Choose in
    let after = Contains c.args.after in
    let a = block_code w.yes in
    let b = block_code w.no in
    let second = c.in_ok-second-in-Choose.second in
    let first = c.in_ok-first-in-Choose.first in
    let same = ap (λ (z : CheckedStmt). stmt_code z Finish) w.is ∙ code_choose w.at w.yes_point w.no_point w.cond w.yes w.no Finish in
    let in_b' = subst (λ (z : List Symbol). Within (Contains second) (Flow (block_code c.as_slice-in-Choose.result.now) (Contains z))) c.in_ok-copy-in-Choose.ensures c.in_ok-second-in-Choose.ensures.within in
    let in_b = subst (λ (z : List CheckedStmt). Within (Contains second) (Flow (block_code z) after)) c.as_slice-in-Choose.ensures in_b' in
    let in_a = subst (λ (z : List CheckedStmt). Within (Contains first) (Flow (block_code z) after)) c.as_slice-in-Choose-2.ensures c.in_ok-first-in-Choose.ensures.within in
    subst (λ (z : Code). Within (Contains c.join.new.self) (Flow z after)) (sym same) (joined_within (λ s. Flow a after s ⊎ Flow b after s) first second c.join.new.self c.in_ok-join-in-Choose.ensures.union (λ s m. inl (in_a s m)) (λ s m. inr (in_b s m)))

pub spread_stmt-returns-in_ok-join-in-Choose-clause-warm : goal.spread_stmt-returns-in_ok-join-in-Choose-clause-warm
spread_stmt-returns-in_ok-join-in-Choose-clause-warm t c = λ base h w'.
    let w = c.in-Choose in
    let low = c.requires.0 in
    let yes = block_code w.yes in
    let no = block_code w.no in
    let old = c.args.heads.now in
    let heads = c.spread_block.new.heads in
    let new = c.spread_block-in-Choose.new.heads in
    let same = ap (λ (z : CheckedStmt). stmt_code z Finish) w.is ∙ code_choose w.at w.yes_point w.no_point w.cond w.yes w.no Finish in
    let n = subst (λ (z : Code). IsNumbered z low) same c.requires.1 in
    let warm = subst (λ (z : Code). AreWarm old z (Contains base)) same w' in
    let start = low + 2 + points yes in
    let out_b = subst (λ (z : List CheckedStmt). (j : ℕ) → IsNumbered (block_code z) j → SameOutside old heads j (j + points (block_code z))) c.as_slice-in-Choose.ensures c.in_ok-second-in-Choose.ensures.others in
    let out_a = subst (λ (z : List CheckedStmt). (j : ℕ) → IsNumbered (block_code z) j → SameOutside heads new j (j + points (block_code z))) c.as_slice-in-Choose-2.ensures c.in_ok-first-in-Choose.ensures.others in
    let stays_b' = subst (λ (z : List Symbol). StaysWarm (block_code c.as_slice-in-Choose.result.now) z old heads) c.in_ok-copy-in-Choose.ensures c.in_ok-second-in-Choose.ensures.warm in
    let stays_b = subst (λ (z : List CheckedStmt). StaysWarm (block_code z) c.args.after old heads) c.as_slice-in-Choose.ensures stays_b' in
    let stays_a = subst (λ (z : List CheckedStmt). StaysWarm (block_code z) c.args.after heads new) c.as_slice-in-Choose-2.ensures c.in_ok-first-in-Choose.ensures.warm in
    let b = warm_above heads new no start (low + 1) (low + 1 + points yes) (Contains base) n.3 (out_a (low + 1) n.1) (omega arith) (stays_b base h warm.1) in
    let a = stays_a base h (warm_below old heads yes (low + 1) start (start + points no) (Contains base) n.1 (out_b start n.3) (omega arith) warm.0) in
    subst (λ (z : Code). AreWarm new z (Contains base)) (sym same) (a, b, tt)

pub spread_stmt-returns-in-Repeat-clause-within : goal.spread_stmt-returns-in-Repeat-clause-within
spread_stmt-returns-in-Repeat-clause-within t c =
    let w = c.in-Repeat in
    let same = ap (λ (z : CheckedStmt). stmt_code z Finish) w.is ∙ code_repeat w.at w.point w.turns w.var w.body Finish in
    let set = subst (λ (z : List CheckedStmt). IfOk c.spread_loop.result (λ r. (s : Symbol) → Contains r s → Head w.var (block_code z) (Contains c.args.after) s)) c.as_slice-in-Repeat.ensures c.spread_loop.ensures.within in
    subst (λ (z : Code). IfOk c.spread_loop.result (λ r. (s : Symbol) → Contains r s → Flow z (Contains c.args.after) s)) (sym same) set

pub spread_stmt-returns-in-Repeat-clause-warm : goal.spread_stmt-returns-in-Repeat-clause-warm
spread_stmt-returns-in-Repeat-clause-warm t c =
    let w = c.in-Repeat in
    let new = c.spread_loop.new.heads in
    let same = ap (λ (z : CheckedStmt). stmt_code z Finish) w.is ∙ code_repeat w.at w.point w.turns w.var w.body Finish in
    let warm = subst (λ (z : List CheckedStmt). OnOk c.spread_loop.result (StaysWarm (Loop 0 w.point 0 w.var (block_code z) Finish) c.args.after c.args.heads.now new)) c.as_slice-in-Repeat.ensures c.spread_loop.ensures.warm in
    subst (λ (z : Code). OnOk c.spread_loop.result (StaysWarm z c.args.after c.args.heads.now new)) (sym same) warm

pub spread_stmt-returns-in-Repeat-clause-others : goal.spread_stmt-returns-in-Repeat-clause-others
spread_stmt-returns-in-Repeat-clause-others t c =
    let w = c.in-Repeat in
    let old = c.args.heads.now in
    let new = c.spread_loop.new.heads in
    let same = ap (λ (z : CheckedStmt). stmt_code z Finish) w.is ∙ code_repeat w.at w.point w.turns w.var w.body Finish in
    let others = subst (λ (z : List CheckedStmt). OnOk c.spread_loop.result ((low : ℕ) → IsNumbered (Loop 0 w.point 0 w.var (block_code z) Finish) low → SameOutside old new low (low + points (block_code z) + 1))) c.as_slice-in-Repeat.ensures c.spread_loop.ensures.others in
    subst (λ (z : Code). OnOk c.spread_loop.result ((low : ℕ) → IsNumbered z low → SameOutside old new low (low + points z))) (sym same) (on_ok_map c.spread_loop.result _ _ (λ f low n i h. f low n i (over low (points (block_code w.body)) i h)) others)
  where
    over : (low k i : ℕ) → (i < low) ⊎ (low + (k + 1 + 0) ≤ i) → (i < low) ⊎ (low + k + 1 ≤ i)
    over low k i (inl l) = inl l
    over low k i (inr g) = inr (omega arith)

pub spread_loop-loop-init : goal.spread_loop-loop-init
spread_loop-loop-init t c =
    let x = c.args.parts.var in
    let body = block_code c.args.parts.body.now in
    let p = c.args.parts.point in
    let after = c.args.after in
    let n = c.requires in
    let taken = c.in_ok-fresh.ensures in
    let begin = λ (s : Symbol) (m : Contains after s). head_start x body (Contains after) s m in
    record {
      all = begin;
      fresh = λ s m. begin s (taken.given s m);
      kept = taken.there;
      warm = λ base h w. taken_warm c.args.heads.now c.take_in.new.self p x n.0 body base n.1.0 n.1.1 after c.in_ok-fresh.fresh taken (λ s m. head_start x body (Contains base) s (h s m)) w;
      others = λ low k. taken_outside c.args.heads.now c.take_in.new.self p x low body after k.0 k.1 after c.in_ok-fresh.fresh taken;
    }

pub spread_loop-loop-preserved : goal.spread_loop-loop-preserved
spread_loop-loop-preserved t c =
    let x = c.args.parts.var in
    let body = block_code c.args.parts.body.now in
    let p = c.args.parts.point in
    let after = c.args.after in
    let n = c.requires in
    let v = c.loop.invariant in
    let h1 = c.loop.heads in
    let h2 = c.spread_block.new.heads in
    let h3 = c.take_in-in-loop.new.self in
    let turn = c.carry.new.self in
    let fresh = c.in_ok-fresh-2.fresh in
    let taken = c.in_ok-fresh-2.ensures in
    let e = c.in_ok-turn.ensures in
    let in_turn = turn_within x body after c.loop.fresh c.in_ok-turn.turn turn e.within c.carry.ensures v.fresh in
    let in_fresh = λ (s : Symbol) (m : Contains fresh s). in_turn s (taken.given s m) in
    record {
      all = joined_within (Head x body (Contains after)) c.loop.all fresh c.join.new.self c.in_ok-join.ensures.union v.all in_fresh;
      fresh = in_fresh;
      kept = taken.there;
      warm = λ base h w.
          let was = v.warm base h w in
          let walked = walked_warm h1 h2 p x n.0 body base n.1.0 n.1.1 c.loop.fresh e.warm (e.others n.0 n.1.0) v.kept was in
          taken_warm h2 h3 p x n.0 body base n.1.0 n.1.1 turn fresh taken (λ s m. head_wider x body (Contains after) (Contains base) h s (in_turn s m)) walked;
      others = λ low k.
          let end' = low + points body + 1 in
          let one = outside_wider h1 h2 low (low + points body) low end' (e.others low k.0) (omega arith) (omega arith) in
          let two = taken_outside h2 h3 p x low body after k.0 k.1 turn fresh taken in
          outside_trans c.args.heads.now h1 h3 low end' (v.others low k) (outside_trans h1 h2 h3 low end' one two);
    }
