use Rattle.std.proofs.Common.{◌∙◌, arith}
use Rattle.session_hall.proofs.Moving.{first_at}
use Rattle.tests_threads.proofs.OneCaller.{between, one_leaves}
use Rattle.tests_threads.proofs.next_callers.served_by_one.Goals as goal

pub serve_rest-back-requires-clause-caller : goal.serve_rest-back-requires-clause-caller
serve_rest-back-requires-clause-caller g c κs within =
    let one = c.requires.one in
    let long = one.count in
    (one.opens 0 c.remove-caller.result (first_at c.args.left.items c.remove-caller.result (omega (arith, long)) c.remove-caller.ensures.value)).caller

pub serve_rest-back-requires-clause-between : goal.serve_rest-back-requires-clause-between
serve_rest-back-requires-clause-between g c κs within =
    let one = c.requires.one in
    let long = one.count in
    between _ (one.opens 0 c.remove-caller.result (first_at c.args.left.items c.remove-caller.result (omega (arith, long)) c.remove-caller.ensures.value)).idle

pub serve_rest-back-requires-clause-plan : goal.serve_rest-back-requires-clause-plan
serve_rest-back-requires-clause-plan g c κs within = c.requires.one.script

pub close-requires-clause-callers : goal.close-requires-clause-callers
close-requires-clause-callers g c =
    let one = c.requires.one in
    let long = one.count in
    let first = one.opens 0 c.remove-caller.result (first_at c.args.left.items c.remove-caller.result (omega (arith, long)) c.remove-caller.ensures.value) in
    one_leaves g.S.Tickets.meaning c.args.hall c.args.left.items c.remove-caller.new.self.items c.from_vec.result c.serve_rest-back.result.0 one.count c.remove-caller.ensures.items
    (c.from_vec.ensures ∙ c.push_reserved.ensures.items)
    (record { caller = c.serve_rest-back.ensures.caller; number_is = c.serve_rest-back.ensures.number_is ∙ first.number_is; out = c.serve_rest-back.ensures.out })
