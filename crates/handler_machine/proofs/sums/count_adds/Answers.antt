use Rattle.std.proofs.Common.{arith}
use Rattle.handler_machine.proofs.Lawful.{request_is}
use Rattle.handler_machine.proofs.sums.count_adds.Goals as goal

pub bounds-adds-handler_of : goal.bounds-adds-handler_of
bounds-adds-handler_of c =
    let r = request_is c.args.checked.now c.args.requests.now c.loop-t.t (omega (arith, c.len-t-end.ensures, c.loop-t-test.true)) c.requires.each in
    let h = r.handler in
    let n = c.adds_by_handler-adds.ensures.count in
    let e = c.handler_of.ensures in
    omega arith
