use Rattle.std.proofs.Common.{◌+◌, ◌*◌, sym, ap, ◌∙◌, subst, length, arith}
use Rattle.std.specs.Prelude.{slice_get}
use Rattle.hall_rule.specs.Halls.{first_content}
use Rattle.session_hall.specs.Openings.{AreEmpty}
use Rattle.session_hall.proofs.Opened.{few_turns, opened_here}
use Rattle.session_hall.proofs.hall.Hall.open.Goals as goal

pub open-requires-clause-turns : goal.open-requires-clause-turns
open-requires-clause-turns g c =
    let long = c.in_ok-values.ensures.long ∙ ap (λ l. 1 + length l * c.args.shards) (sym c.requires.shape) in
    let few = few_turns (length c.args.shape.now) c.args.shards (length c.in_ok-values.values.items) c.requires.tables c.requires.shards.1 long in
    let ok = c.in_ok-values.values.ok in
    omega (arith, few, ok)

pub new_callers-callers-requires-clause-hands : goal.new_callers-callers-requires-clause-hands
new_callers-callers-requires-clause-hands g c =
    let long = c.into_vec.result.ok.0 in
    subst (λ n. AreEmpty n c.in_ok-hands.hands.items) (sym (long ∙ ap length c.into_vec.ensures ∙ c.in-Ok.ensures.sizes.1)) c.in_ok-hands.ensures

pub returns-clause-callers : goal.returns-clause-callers
returns-clause-callers g c = λ i d e.
    let first = c.in_ok-values.ensures in
    let new = c.new_callers-callers.ensures.each i d (ap (λ l. slice_get l i) (sym c.from_vec.ensures) ∙ e) in
    let begins = c.in-Ok.ensures.each (first_content g.S.Script.meaning c.args.script c.args.callers) first.first i new.0 (ap (λ l. slice_get l i) (sym c.into_vec.ensures) ∙ new.1) in
    let long = first.long ∙ ap (λ l. 1 + length l * c.args.shards) (sym c.requires.shape) in
    let few = few_turns (length c.args.shape.now) c.args.shards (length c.in_ok-values.values.items) c.requires.tables c.requires.shards.1 long in
    let ok = c.in_ok-values.values.ok in
    let count = c.in-Ok.ensures.sizes.0 in
    opened_here g.S.Script.meaning _ c.args.script c.of-copy.ensures i d new.0 begins new.2 first.script_kept (ap length (sym c.requires.shape)) (omega (arith, c.requires.shards.0)) c.requires.shards.1 (omega (arith, count, ok, long)) (omega (arith, count, ok, few))
