use Rattle.repeated_calls.proofs.Lasts.{op_at}
use Rattle.repeated_calls.proofs.list.RepeatedCalls.op_of.Goals as goal

pub returns-clause-op : goal.returns-clause-op
returns-clause-op c = op_at _ c.args.self.now _ c.args.ticket c.index.result.now c.self.view_is c.self.invariant c.requires c.index.ensures
