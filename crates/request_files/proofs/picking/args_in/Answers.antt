use Rattle.std.proofs.Common.{length, arith}
use Rattle.request_files.proofs.PickedLemmas.{numbers_few}
use Rattle.request_files.proofs.picking.args_in.Goals as goal

pub overflow_add-args : goal.overflow_add-args
overflow_add-args c = omega (arith, numbers_few (length c.args.requests.now) c.args.numbers.now c.requires, c.loop-number.invariant, c.len-requests.ensures)
