use Rattle.std.proofs.Common.{◌∙◌, arith}
use Rattle.session_hall.proofs.Moving.{first_at}
use Rattle.tests_threads.proofs.OneCaller.{between, one_leaves}
use Rattle.tests_threads.proofs.desk_callers.served_at_desks.Goals as goal

pub serve_both-requires-clause-caller : goal.serve_both-requires-clause-caller
serve_both-requires-clause-caller g c κs within =
    let one = c.requires.one in
    let long = one.count in
    (one.opens 0 c.remove-caller.result (first_at c.args.left.items c.remove-caller.result (omega (arith, long)) c.remove-caller.ensures.value)).caller

pub serve_both-requires-clause-stage : goal.serve_both-requires-clause-stage
serve_both-requires-clause-stage g c κs within =
    let one = c.requires.one in
    let long = one.count in
    between _ (one.opens 0 c.remove-caller.result (first_at c.args.left.items c.remove-caller.result (omega (arith, long)) c.remove-caller.ensures.value)).idle

pub serve_both-requires-clause-plan : goal.serve_both-requires-clause-plan
serve_both-requires-clause-plan g c κs within = c.requires.one.script

pub close-requires-clause-callers : goal.close-requires-clause-callers
close-requires-clause-callers g c =
    let one = c.requires.one in
    let long = one.count in
    let first = one.opens 0 c.remove-caller.result (first_at c.args.left.items c.remove-caller.result (omega (arith, long)) c.remove-caller.ensures.value) in
    one_leaves g.S.Tickets.meaning c.args.hall c.args.left.items c.remove-caller.new.self.items c.from_vec.result c.serve_both.new.caller one.count c.remove-caller.ensures.items
    (c.from_vec.ensures ∙ c.push_reserved.ensures.items)
    (record { caller = c.serve_both.ensures.caller; number_is = c.serve_both.ensures.same ∙ first.number_is; out = c.serve_both.ensures.out })
