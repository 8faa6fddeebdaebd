use Rattle.std.proofs.Common.{ap, ◌∙◌, ◌++◌, ◌∷◌, [], subst, arith}
use Rattle.std.specs.Prelude.{IfOk}
use Rattle.session_hall.proofs.Moving.{first_at}
use Rattle.tests_desks.specs.HallRows.{HasTwo, gets_and_puts}
use Rattle.tests_desks.proofs.HallCalls.{both_leave, second_at}
use Rattle.tests_desks.proofs.halls.served_by_two.Goals as goal

pub serve_both-requires-clause-script : goal.serve_both-requires-clause-script
serve_both-requires-clause-script g c = (subst (λ r. IfOk r (λ x. HasTwo gets_and_puts x.0 x.1.items)) c.expect-hall.ensures c.open_hall.ensures).script

pub serve_both-requires-clause-older : goal.serve_both-requires-clause-older
serve_both-requires-clause-older g c =
    let two = subst (λ r. IfOk r (λ x. HasTwo gets_and_puts x.0 x.1.items)) c.expect-hall.ensures c.open_hall.ensures in
    let long = two.two in
    let first = two.opens 0 c.remove-older.result (first_at c.expect-hall.result.1.items c.remove-older.result (omega (arith, long)) c.remove-older.ensures.value) in
    (first.caller, first.idle)

pub serve_both-requires-clause-younger : goal.serve_both-requires-clause-younger
serve_both-requires-clause-younger g c =
    let two = subst (λ r. IfOk r (λ x. HasTwo gets_and_puts x.0 x.1.items)) c.expect-hall.ensures c.open_hall.ensures in
    let second = two.opens 1 c.remove-younger.result (second_at c.expect-hall.result.1.items c.remove-older.new.self.items c.remove-younger.result two.two c.remove-older.ensures.items c.remove-younger.ensures.value) in
    (second.caller, second.idle)

pub close-requires-clause-callers : goal.close-requires-clause-callers
close-requires-clause-callers g c =
    let two = subst (λ r. IfOk r (λ x. HasTwo gets_and_puts x.0 x.1.items)) c.expect-hall.ensures c.open_hall.ensures in
    let long = two.two in
    let first = two.opens 0 c.remove-older.result (first_at c.expect-hall.result.1.items c.remove-older.result (omega (arith, long)) c.remove-older.ensures.value) in
    let second = two.opens 1 c.remove-younger.result (second_at c.expect-hall.result.1.items c.remove-older.new.self.items c.remove-younger.result two.two c.remove-older.ensures.items c.remove-younger.ensures.value) in
    both_leave c.expect-hall.result.0 c.expect-hall.result.1.items c.remove-older.new.self.items c.remove-younger.new.self.items c.from_vec.result c.serve_both.new.older c.serve_both.new.younger two.two c.remove-older.ensures.items c.remove-younger.ensures.items
    (c.from_vec.ensures ∙ c.push_reserved-2.ensures.items ∙ ap (λ l. l ++ c.serve_both.new.younger ∷ []) c.push_reserved.ensures.items)
    (record { caller = c.serve_both.ensures.older.0; number_is = c.serve_both.ensures.numbers.0 ∙ first.number_is; out = c.serve_both.ensures.older.1 })
    (record { caller = c.serve_both.ensures.younger.0; number_is = c.serve_both.ensures.numbers.1 ∙ second.number_is; out = c.serve_both.ensures.younger.1 })
