use Rattle.std.proofs.Common.{◌-◌, ◌<◌, ◌++◌, ◌∷◌, [], List, length, drop, refl, sym, ap, ◌∙◌, subst, Contains, arith, rules}
use Rattle.check_meaning.specs.declared.tree.CheckedStmt.{CheckedStmt}
use Rattle.check_meaning.specs.Code.{Code, Finish, stmt_code, block_code}
use Rattle.check_meaning.proofs.Codes.{code_choose, code_repeat}
use Rattle.handler_check.proofs.Counting.{member_smaller}
use Rattle.may_use_analysis.specs.Flow.{Flow, Head}
use Rattle.may_use_analysis.specs.PointList.{PointList}
use Rattle.may_use_analysis.specs.Recorded.{Recorded}
use Rattle.may_use_analysis.specs.Vars.{IsStill}
use Rattle.may_use_analysis.proofs.Records.{recorded_same, recorded_stmt}
use Rattle.may_use_analysis.proofs.Sets.{stored_lists}
use Rattle.may_use_analysis.proofs.StillLemmas.{still_are, still_at, still_drop, still_same, head_still}
use Rattle.may_use_analysis.proofs.WalkSteps.{drop_code}
use Rattle.may_use_analysis.proofs.still.+keeping_still.Goals as goal

pub keep_block-keep_stmt-requires : goal.keep_block-keep_stmt-requires
keep_block-keep_stmt-requires t c =
    let items = c.args.block.now in
    let x = c.index-block-i.result in
    let i = c.loop-i.i in
    let within : i - 1 < length items = omega arith in
    let smaller = member_smaller items (i - 1) x x within c.index-block-i.is in
    (search rules, (subst (λ (z : CheckedStmt). IsStill c.args.vars.bits (stmt_code z Finish)) (sym c.index-block-i.is) (still_at c.args.vars.bits items (i - 1) x within c.requires.still), (c.requires.covered, c.requires.order)))

pub keep_block-loop-i-preserved : goal.keep_block-loop-i-preserved
keep_block-loop-i-preserved t c =
    let items = c.args.block.now in
    let x = c.index-block-i.result in
    let i = c.loop-i.i in
    let rest = block_code (drop i items) in
    let A = Contains c.args.list.now in
    let code = drop_code items i x c.loop-i-test.true c.loop-i.auto.i c.index-block-i.is in
    let same = still_same c.args.vars.bits rest A (still_drop c.args.vars.bits items i c.requires.still) c.requires.covered in
    let here = recorded_same (stmt_code x Finish) A (Flow rest A) c.loop-i.out c.keep_stmt.new.out (λ s. ((same s).1, (same s).0)) c.in_ok-keep_stmt.ensures in
    subst (λ (z : Code). Recorded z A c.args.out.now c.keep_stmt.new.out) (sym code) (recorded_stmt rest A c.args.out.now c.loop-i.out c.keep_stmt.new.out c.loop-i.invariant x here)

pub keep_stmt-returns-in_ok-keep-in-Choose-2 : goal.keep_stmt-returns-in_ok-keep-in-Choose-2
keep_stmt-returns-in_ok-keep-in-Choose-2 t c =
    let w = c.in-Choose in
    let bits = c.args.vars.bits in
    let list = c.args.list.now in
    let A = Contains list in
    let same = ap (λ (z : CheckedStmt). stmt_code z Finish) w.is ∙ code_choose w.at w.yes_point w.no_point w.cond w.yes w.no Finish in
    let still = subst (IsStill bits) same c.requires.still in
    let k = c.in_ok-keep-in-Choose.ensures in
    let l = c.in_ok-keep-in-Choose-2.ensures in
    let m1 = c.args.out.now in
    let m2 = c.keep_block.new.out in
    let m3 = c.keep_block-in-Choose.new.out in
    let in_b = subst (λ (z : List CheckedStmt). Recorded (block_code z) A m1 m2) c.as_slice.ensures c.in_ok-keep_block-in-Choose.ensures in
    let in_a' = subst (λ (z : List PointList). Recorded (block_code c.as_slice-in-Choose.result.now) A z m3) k.2 c.in_ok-keep_block-in-Choose-2.ensures in
    let in_a = subst (λ (z : List CheckedStmt). Recorded (block_code z) A (m2 ++ k.0 ∷ []) m3) c.as_slice-in-Choose.ensures in_a' in
    let second = stored_lists list k.0 (Flow (block_code w.no) A) k.1 (c.requires.order, still_are bits (block_code w.no) list still.1 c.requires.covered) in
    let first = stored_lists list l.0 (Flow (block_code w.yes) A) l.1 (c.requires.order, still_are bits (block_code w.yes) list still.0 c.requires.covered) in
    subst (λ (z : Code). Recorded z A m1 c.keep-in-Choose.new.self) (sym same) (m1, m2, m3, k.0, l.0, refl, in_b, second, in_a, first, l.2)

pub keep_stmt-returns-in_ok-keep_block-in-Repeat : goal.keep_stmt-returns-in_ok-keep_block-in-Repeat
keep_stmt-returns-in_ok-keep_block-in-Repeat t c =
    let w = c.in-Repeat in
    let bits = c.args.vars.bits in
    let list = c.args.list.now in
    let A = Contains list in
    let body = block_code w.body in
    let same = ap (λ (z : CheckedStmt). stmt_code z Finish) w.is ∙ code_repeat w.at w.point w.turns w.var w.body Finish in
    let still = subst (IsStill bits) same c.requires.still in
    let k = c.in_ok-keep-in-Repeat.ensures in
    let m1 = c.args.out.now in
    let new = c.keep_block-in-Repeat.new.out in
    let inside' = subst (λ (z : List PointList). Recorded (block_code c.as_slice-in-Repeat.result.now) A z new) k.2 c.in_ok-keep_block-in-Repeat.ensures in
    let inside = subst (λ (z : List CheckedStmt). Recorded (block_code z) A (m1 ++ k.0 ∷ []) new) c.as_slice-in-Repeat.ensures inside' in
    let at_head = recorded_same body A (Head w.var body A) (m1 ++ k.0 ∷ []) new (head_still bits w.at w.point w.turns w.var body A still c.requires.covered) inside in
    subst (λ (z : Code). Recorded z A m1 new) (sym same) (m1, k.0, refl, stored_lists list k.0 A k.1 (c.requires.order, λ s. (λ m. m, λ m. m)), at_head)
