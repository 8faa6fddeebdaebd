use Rattle.std.proofs.Common.{ℕ, ◌+◌, ◌*◌, ◌-◌, ◌<◌, ◌∷◌, [], ◌++◌, append-nil, arith, rules, length, drop, List, refl, sym, ap, ◌∙◌, subst, Contains, inl, inr, ◌⊎◌}
use Rattle.std.specs.Prelude.{IfOk}
use Rattle.symbolic_ops.specs.declared.symbol.Symbol.{Symbol}
use Rattle.check_meaning.specs.declared.tree.CheckedStmt.{CheckedStmt}
use Rattle.check_meaning.specs.Code.{Code, Finish, Loop, IsNumbered, stmt_code, block_code, points}
use Rattle.check_meaning.proofs.Codes.{code_store, code_choose, code_repeat}
use Rattle.handler_check.proofs.Counting.{checked_size, checked_sizes, member_smaller, first_smaller, second_smaller, body_smaller}
use Rattle.may_use_analysis.specs.Flow.{Flow, Head}
use Rattle.may_use_analysis.specs.Ordered.{Are}
use Rattle.may_use_analysis.specs.Recorded.{Recorded}
use Rattle.may_use_analysis.specs.PointList.{PointList}
use Rattle.may_use_analysis.specs.Vars.{AllCovered}
use Rattle.may_use_analysis.specs.Warm.{HeadAt, AreWarm}
use Rattle.may_use_analysis.proofs.LoopLemmas.{head_start}
use Rattle.may_use_analysis.proofs.Records.{recorded_same, recorded_stmt, recorded_extends, head_lists, kept_lists}
use Rattle.may_use_analysis.proofs.Sets.{stored_lent}
use Rattle.may_use_analysis.proofs.StillLemmas.{still_are}
use Rattle.may_use_analysis.proofs.WalkSteps.{block_step, fork_step, turn_sound, turn_start, turn_least, turn_done, drop_code}
use Rattle.may_use_analysis.proofs.WarmLemmas.{warm_larger, start_of, numbered_next, warm_next}
use Rattle.may_use_analysis.proofs.walk.+walk.Goals as goal

-- what is behind a loop and what was kept lie within the set at its head
start_sound : (x : ℕ) (body : Code) (after : List Symbol) (heads : List (List Symbol)) (p : ℕ) → ((s : Symbol) → HeadAt heads p s → Head x body (Contains after) s) → (s : Symbol) → Contains after s ⊎ HeadAt heads p s → Head x body (Contains after) s
start_sound x body after heads p kept s (inl m) = head_start x body (Contains after) s m
start_sound x body after heads p kept s (inr m) = kept s m

pub before_block-before_stmt-requires : goal.before_block-before_stmt-requires
before_block-before_stmt-requires t c =
    let items = c.args.block.now in
    let x = c.index-block-i.result in
    let i = c.loop-i.i in
    let n = c.requires.numbered in
    let within : i - 1 < length items = omega arith in
    let smaller = member_smaller items (i - 1) x x within c.index-block-i.is in
    let double : 2 * checked_size x < 2 * checked_sizes items = omega arith in
    (search rules, ((start_of items (i - 1) n.0, numbered_next items i x c.loop-i-test.true c.loop-i.auto.i c.index-block-i.is n.0 n.1), warm_next items i x c.loop-i-test.true c.loop-i.auto.i c.index-block-i.is c.args.heads.now (Contains c.args.after) c.loop-i.set c.requires.warm c.loop-i.invariant.set))

pub before_block-loop-i-preserved : goal.before_block-loop-i-preserved
before_block-loop-i-preserved t c =
    let items = c.args.block.now in
    let x = c.index-block-i.result in
    let i = c.loop-i.i in
    let n = c.requires.numbered in
    let rest = block_code (drop i items) in
    let after = Contains c.args.after in
    let some = c.loop-i-test.true in
    let le = c.loop-i.auto.i in
    let is = c.index-block-i.is in
    let code = drop_code items i x some le is in
    let step = block_step x rest after c.loop-i.set c.in_ok-set.set c.loop-i.invariant.set c.in_ok-set.ensures.set in
    let lists = recorded_stmt rest after c.args.out.now c.loop-i.out c.before_stmt.new.out c.loop-i.invariant.lists x (recorded_same (stmt_code x Finish) (Contains c.loop-i.set) (Flow rest after) c.loop-i.out c.before_stmt.new.out c.loop-i.invariant.set c.in_ok-set.ensures.lists) in
    record {
      set = subst (λ (z : Code). Are c.in_ok-set.set (Flow z after)) (sym code) step;
      lists = subst (λ (z : Code). Recorded z after c.args.out.now c.before_stmt.new.out) (sym code) lists;
    }

pub before_loop-loop-init : goal.before_loop-loop-init
before_loop-loop-init t c =
    let x = c.args.parts.var in
    let body = block_code c.args.parts.body.now in
    let after = Contains c.args.after in
    let heads = c.args.heads.now in
    let head = c.add_to.new.head in
    let union = c.in_ok-add_to.ensures in
    record {
      sound = λ s m. start_sound x body c.args.after heads c.args.parts.point c.requires.warm.0 s ((union s).0 m);
      start = λ s m. (union s).1 (inl m);
      kept = ([], sym (append-nil c.args.out.now));
      warm = warm_larger heads body (HeadAt heads c.args.parts.point) (Contains head) (λ s m. (union s).1 (inr m)) c.requires.warm.1;
    }

pub before_loop-returns-then-not-branch-clause-set : goal.before_loop-returns-then-not-branch-clause-set
before_loop-returns-then-not-branch-clause-set t c =
    let body = block_code c.args.parts.body.now in
    let is_start = subst (λ (z : List Symbol). Are c.in_ok-turn.turn (Flow body (Contains z))) c.in_ok-copy.ensures c.in_ok-turn.ensures.set in
    let none = rw c.if-not-branch.true at c.in_ok-join.ensures.same in
    turn_done c.args.parts.var body c.args.after c.loop.head c.in_ok-turn.turn c.carry.new.self c.join.new.self is_start c.carry.ensures c.in_ok-join.ensures.union none c.loop.invariant.sound c.loop.invariant.start

pub before_loop-returns-then-not-branch-clause-lists : goal.before_loop-returns-then-not-branch-clause-lists
before_loop-returns-then-not-branch-clause-lists t c =
    let x = c.args.parts.var in
    let body = block_code c.args.parts.body.now in
    let after = c.args.after in
    let head = c.loop.head in
    let start = c.in_ok-turn.turn in
    let is_start = subst (λ (z : List Symbol). Are start (Flow body (Contains z))) c.in_ok-copy.ensures c.in_ok-turn.ensures.set in
    let none = rw c.if-not-branch.true at c.in_ok-join.ensures.same in
    let lists = subst (λ (z : List Symbol). Recorded body (Contains z) c.truncate.new.self c.before_block.new.out) c.in_ok-copy.ensures c.in_ok-turn.ensures.lists in
    let cut = kept_lists c.args.out.now c.loop.out c.truncate.new.self c.len-size.result c.loop.invariant.kept c.len-size.ensures c.truncate.ensures in
    let least = turn_least x body after head start c.carry.new.self c.join.new.self is_start c.carry.ensures none c.loop.invariant.start in
    head_lists x body after head c.args.out.now c.truncate.new.self c.before_block.new.out cut lists c.loop.invariant.sound least

pub before_loop-loop-preserved : goal.before_loop-loop-preserved
before_loop-loop-preserved t c =
    let x = c.args.parts.var in
    let body = block_code c.args.parts.body.now in
    let after = c.args.after in
    let head = c.loop.head in
    let start = c.in_ok-turn.turn in
    let turn = c.carry.new.self in
    let new = c.join.new.self in
    let is_start = subst (λ (z : List Symbol). Are start (Flow body (Contains z))) c.in_ok-copy.ensures c.in_ok-turn.ensures.set in
    let cut = kept_lists c.args.out.now c.loop.out c.truncate.new.self c.len-size.result c.loop.invariant.kept c.len-size.ensures c.truncate.ensures in
    let more = recorded_extends body (Contains c.in_ok-copy.copy) c.truncate.new.self c.before_block.new.out c.in_ok-turn.ensures.lists in
    record {
      sound = turn_sound x body after head start turn new is_start c.carry.ensures c.in_ok-join.ensures.union c.loop.invariant.sound;
      start = turn_start x body after head start turn new c.in_ok-join.ensures.union c.loop.invariant.start;
      kept = (more.0, more.1 ∙ ap (λ (z : List PointList). z ++ more.0) cut);
      warm = warm_larger c.args.heads.now body (Contains head) (Contains new) (λ s m. (c.in_ok-join.ensures.union s).1 (inl m)) c.loop.invariant.warm;
    }

pub before_stmt-before_block-requires : goal.before_stmt-before_block-requires
before_stmt-before_block-requires t c =
    let w = c.in-Choose in
    let after = Contains c.args.after in
    let xs = c.as_slice-in-Choose.result.now in
    let same = ap (λ (z : CheckedStmt). stmt_code z Finish) w.is ∙ code_choose w.at w.yes_point w.no_point w.cond w.yes w.no Finish in
    let n = subst (λ (z : Code). IsNumbered z c.requires.numbered.0) same c.requires.numbered.1 in
    let warm = subst (λ (z : Code). AreWarm c.args.heads.now z after) same c.requires.warm in
    let smaller = second_smaller c.args.stmt.now w.at w.yes_point w.no_point w.cond w.yes w.no xs w.is c.as_slice-in-Choose.ensures in
    let double : 2 * checked_sizes xs < 2 * checked_size c.args.stmt.now = omega arith in
    let start = c.requires.numbered.0 + 2 + points (block_code w.yes) in
    let there = subst (λ (z : List CheckedStmt). AreWarm c.args.heads.now (block_code z) after) (sym c.as_slice-in-Choose.ensures) warm.1 in
    (search rules, ((start, subst (λ (z : List CheckedStmt). IsNumbered (block_code z) start) (sym c.as_slice-in-Choose.ensures) n.3), subst (λ (z : List Symbol). AreWarm c.args.heads.now (block_code xs) (Contains z)) (sym c.in_ok-copy-in-Choose.ensures) there))

pub before_stmt-before_block-requires-in-Choose : goal.before_stmt-before_block-requires-in-Choose
before_stmt-before_block-requires-in-Choose t c =
    let w = c.in-Choose in
    let after = Contains c.args.after in
    let low = c.requires.numbered.0 in
    let xs = c.as_slice-in-Choose-3.result.now in
    let heads = c.args.heads.now in
    let same = ap (λ (z : CheckedStmt). stmt_code z Finish) w.is ∙ code_choose w.at w.yes_point w.no_point w.cond w.yes w.no Finish in
    let n = subst (λ (z : Code). IsNumbered z low) same c.requires.numbered.1 in
    let warm = subst (λ (z : Code). AreWarm heads z after) same c.requires.warm in
    let smaller = first_smaller c.args.stmt.now w.at w.yes_point w.no_point w.cond w.yes w.no xs w.is c.as_slice-in-Choose-3.ensures in
    let double : 2 * checked_sizes xs < 2 * checked_size c.args.stmt.now = omega arith in
    (search rules, ((low + 1, subst (λ (z : List CheckedStmt). IsNumbered (block_code z) (low + 1)) (sym c.as_slice-in-Choose-3.ensures) n.1), subst (λ (z : List CheckedStmt). AreWarm heads (block_code z) after) (sym c.as_slice-in-Choose-3.ensures) warm.0))

pub before_stmt-before_loop-requires : goal.before_stmt-before_loop-requires
before_stmt-before_loop-requires t c =
    let w = c.in-Repeat in
    let after = Contains c.args.after in
    let low = c.requires.numbered.0 in
    let xs = c.as_slice-in-Repeat-2.result.now in
    let same = ap (λ (z : CheckedStmt). stmt_code z Finish) w.is ∙ code_repeat w.at w.point w.turns w.var w.body Finish in
    let n = subst (λ (z : Code). IsNumbered z low) same c.requires.numbered.1 in
    let warm = subst (λ (z : Code). AreWarm c.args.heads.now z after) same c.requires.warm in
    let smaller = body_smaller c.args.stmt.now w.at w.point w.turns w.var w.body xs w.is c.as_slice-in-Repeat-2.ensures in
    let double : 2 * checked_sizes xs + 1 < 2 * checked_size c.args.stmt.now = omega arith in
    (search rules, ((low, subst (λ (z : List CheckedStmt). IsNumbered (Loop 0 w.point 0 w.var (block_code z) Finish) low) (sym c.as_slice-in-Repeat-2.ensures) n), subst (λ (z : List CheckedStmt). AreWarm c.args.heads.now (Loop 0 w.point 0 w.var (block_code z) Finish) after) (sym c.as_slice-in-Repeat-2.ensures) warm))

pub before_stmt-returns-in-Store-clause-set : goal.before_stmt-returns-in-Store-clause-set
before_stmt-returns-in-Store-clause-set t c =
    let same = ap (λ (z : CheckedStmt). stmt_code z Finish) c.in-Store.is ∙ code_store c.in-Store.var c.in-Store.right Finish in
    subst (λ (z : Code). Are c.carry.new.self (Flow z (Contains c.args.after))) (sym same) (rw (← c.store_of.ensures) c.carry.ensures)

pub before_stmt-returns-in_ok-join-in-Choose-clause-set : goal.before_stmt-returns-in_ok-join-in-Choose-clause-set
before_stmt-returns-in_ok-join-in-Choose-clause-set t c =
    let w = c.in-Choose in
    let after = Contains c.args.after in
    let second = c.in_ok-second-in-Choose.second in
    let first = c.in_ok-first-in-Choose.first in
    let same = ap (λ (z : CheckedStmt). stmt_code z Finish) w.is ∙ code_choose w.at w.yes_point w.no_point w.cond w.yes w.no Finish in
    let is_b' = subst (λ (z : List Symbol). Are second (Flow (block_code c.as_slice-in-Choose.result.now) (Contains z))) c.in_ok-copy-in-Choose.ensures c.in_ok-second-in-Choose.ensures.set in
    let is_b = subst (λ (z : List CheckedStmt). Are second (Flow (block_code z) after)) c.as_slice-in-Choose.ensures is_b' in
    let is_a = subst (λ (z : List CheckedStmt). Are first (Flow (block_code z) after)) c.as_slice-in-Choose-3.ensures c.in_ok-first-in-Choose.ensures.set in
    subst (λ (z : Code). Are c.join.new.self (Flow z after)) (sym same) (fork_step (Flow (block_code w.yes) after) (Flow (block_code w.no) after) first second c.join.new.self is_a is_b c.in_ok-join-in-Choose.ensures.union)

pub before_stmt-returns-in_ok-join-in-Choose-clause-lists : goal.before_stmt-returns-in_ok-join-in-Choose-clause-lists
before_stmt-returns-in_ok-join-in-Choose-clause-lists t c =
    let w = c.in-Choose in
    let after = Contains c.args.after in
    let second = c.in_ok-second-in-Choose.second in
    let first = c.in_ok-first-in-Choose.first in
    let same = ap (λ (z : CheckedStmt). stmt_code z Finish) w.is ∙ code_choose w.at w.yes_point w.no_point w.cond w.yes w.no Finish in
    let is_b' = subst (λ (z : List Symbol). Are second (Flow (block_code c.as_slice-in-Choose.result.now) (Contains z))) c.in_ok-copy-in-Choose.ensures c.in_ok-second-in-Choose.ensures.set in
    let is_b = subst (λ (z : List CheckedStmt). Are second (Flow (block_code z) after)) c.as_slice-in-Choose.ensures is_b' in
    let is_a = subst (λ (z : List CheckedStmt). Are first (Flow (block_code z) after)) c.as_slice-in-Choose-3.ensures c.in_ok-first-in-Choose.ensures.set in
    let k = c.in_ok-keep-in-Choose.ensures in
    let l = c.in_ok-keep-in-Choose-2.ensures in
    let m1 = c.args.out.now in
    let m2 = c.before_block.new.out in
    let m3 = c.before_block-in-Choose.new.out in
    let in_b' = subst (λ (z : List Symbol). Recorded (block_code c.as_slice-in-Choose.result.now) (Contains z) m1 m2) c.in_ok-copy-in-Choose.ensures c.in_ok-second-in-Choose.ensures.lists in
    let in_b = subst (λ (z : List CheckedStmt). Recorded (block_code z) after m1 m2) c.as_slice-in-Choose.ensures in_b' in
    let in_a' = subst (λ (z : List PointList). Recorded (block_code c.as_slice-in-Choose-3.result.now) after z m3) k.2 c.in_ok-first-in-Choose.ensures.lists in
    let in_a = subst (λ (z : List CheckedStmt). Recorded (block_code z) after (m2 ++ k.0 ∷ []) m3) c.as_slice-in-Choose-3.ensures in_a' in
    let is_second = stored_lent c.as_slice-in-Choose-2.result.now second k.0 (Flow (block_code w.no) after) c.as_slice-in-Choose-2.ensures.symbols k.1 c.as_slice-in-Choose-2.ensures.order is_b in
    let is_first = stored_lent c.as_slice-in-Choose-4.result.now first l.0 (Flow (block_code w.yes) after) c.as_slice-in-Choose-4.ensures.symbols l.1 c.as_slice-in-Choose-4.ensures.order is_a in
    subst (λ (z : Code). Recorded z after m1 c.keep-in-Choose-2.new.self) (sym same) (m1, m2, m3, k.0, l.0, refl, in_b, is_second, in_a, is_first, l.2)

pub before_stmt-returns-in_ok-keep-in-Repeat-clause-set : goal.before_stmt-returns-in_ok-keep-in-Repeat-clause-set
before_stmt-returns-in_ok-keep-in-Repeat-clause-set t c =
    let w = c.in-Repeat in
    let same = ap (λ (z : CheckedStmt). stmt_code z Finish) w.is ∙ code_repeat w.at w.point w.turns w.var w.body Finish in
    let set = subst (λ (z : List CheckedStmt). IfOk c.before_loop.result (λ r. Are r (Head w.var (block_code z) (Contains c.args.after)))) c.as_slice-in-Repeat-2.ensures c.before_loop.ensures.set in
    subst (λ (z : Code). IfOk c.before_loop.result (λ r. Are r (Flow z (Contains c.args.after)))) (sym same) set

pub before_stmt-returns-then-is_still-clause-set : goal.before_stmt-returns-then-is_still-clause-set
before_stmt-returns-then-is_still-clause-set t c =
    still_are c.vars-vars.result.bits (stmt_code c.args.stmt.now Finish) c.args.after c.if-is_still.ensures c.vars-vars.ensures

pub before_stmt-keep_stmt-requires-clause-covered : goal.before_stmt-keep_stmt-requires-clause-covered
before_stmt-keep_stmt-requires-clause-covered t c =
    subst (AllCovered c.vars-vars.result.bits) (sym c.as_slice.ensures.symbols) c.vars-vars.ensures
