use Rattle.std.proofs.Common.{◌≤◌, length, arith}
use Rattle.handler_machine.proofs.Answering.{all_held}
use Rattle.handler_machine.proofs.variables.put_args.Goals as goal

pub returns-clause-held : goal.returns-clause-held
returns-clause-held c =
    let past : length c.args.args.now ≤ c.loop-i.i = (let test = c.loop-i-test.false in omega arith) in
    all_held c.args.args.now c.loop-i.i past c.loop-i.invariant.held
