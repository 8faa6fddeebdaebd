use Rattle.std.proofs.Common.{arith}
use Rattle.std.proofs.lemmas.Int.{to_z-of_z}
use Rattle.session_values.specs.Sorts.{value_back}
use Rattle.session_values.proofs.reply.Reply.new.Goals as goal

pub returns : goal.returns
returns c = search (arith, to_z-of_z, value_back c.args.a _ _ c.sort.ensures c.payload.ensures.payload, value_back c.args.b _ _ c.sort-2.ensures c.payload-2.ensures.payload, value_back c.args.c _ _ c.sort-3.ensures c.payload-3.ensures.payload, value_back c.args.d _ _ c.sort-4.ensures c.payload-4.ensures.payload)
