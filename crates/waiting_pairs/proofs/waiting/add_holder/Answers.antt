use Rattle.std.proofs.Common.{◌≡◌, ℕ, ◌+◌, ◌-◌, ap, sym, subst, ◌∙◌, arith, List}
use Rattle.check_meaning.specs.Code.{points}
use Rattle.serve_reading.specs.Language.{File}
use Rattle.serve_reading.specs.Resolved.{code_at}
use Rattle.waiting_pairs.specs.Again.{AreAlike}
use Rattle.waiting_pairs.specs.declared.waiting.Wait.{Wait}
use Rattle.waiting_pairs.specs.Waits.{Adds, at_point, gather}
use Rattle.waiting_pairs.proofs.Adding.{adds_alike, adds_gather, adds_none}
use Rattle.waiting_pairs.proofs.waiting.add_holder.Goals as goal

pub loop-point-init : goal.loop-point-init
loop-point-init c = λ asked k. (k, adds_none c.args.out.now.items, λ l. absurd (omega (arith, l)))

pub loop-point-preserved : goal.loop-point-preserved
loop-point-preserved c = λ asked k.
    let so_far = c.loop-point.invariant asked k in
    let here : c.loop-point.point ≡ c.loop-point.point + 1 - 1 = omega arith in
    let found = c.in_ok-last.ensures asked so_far.0 so_far.2 in
    let alike : AreAlike c.args.program.now asked c.args.holder c.loop-point.point c.deref.result.now =
    subst (λ (z : List Wait). AreAlike c.args.program.now asked c.args.holder c.loop-point.point z) (sym c.deref.ensures.value) found.1 in
    let one = adds_alike c.args.program.now asked c.args.holder c.loop-point.point c.deref.result.now c.loop-point.out.items c.add_at.new.out.items alike c.in_ok-add_at.ensures in
    (found.0, adds_gather (at_point c.args.program.now asked c.args.holder) c.loop-point.point c.args.out.now.items c.loop-point.out.items c.add_at.new.out.items one so_far.1, λ _. subst (λ (n : ℕ). AreAlike c.args.program.now asked c.args.holder n c.in_ok-last.last.items) here found.1)

pub returns : goal.returns
returns c = λ asked k.
    let so_far = c.loop-point.invariant asked k in
    let count : c.handler.result.now.points ≡ 1 + points (code_at c.args.program.now.file c.args.holder) =
    c.handler.ensures.points ∙ ap (λ (f : File). 1 + points (code_at f c.args.holder)) c.checked.ensures.file in
    let all : c.loop-point.point ≡ 1 + points (code_at c.args.program.now.file c.args.holder) = omega (arith, count, c.loop-point-test.false, c.loop-point.auto.point-end) in
    (so_far.0, subst (λ (n : ℕ). Adds (gather (at_point c.args.program.now asked c.args.holder) n) c.args.out.now.items c.loop-point.out.items) all so_far.1)
