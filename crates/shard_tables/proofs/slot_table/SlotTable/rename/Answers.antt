use Rattle.std.proofs.Common.{arith}
use Rattle.shard_tables.proofs.Entries.{changed_swap, renamed}
use Rattle.shard_tables.proofs.slot_table.SlotTable.rename.Goals as goal

pub returns-clause-index : goal.returns-clause-index
returns-clause-index c = λ keys place l ix here last.
    let now = c.args.self.now in
    renamed now.factor now.bits keys now.slots.items c.swap.new.self.items c.args.slot c.args.last place ix l here last
    (changed_swap now.slots.items c.swap.new.self.items c.args.slot c.args.last (omega (arith, ix.places.long, c.requires.slot_in)) (omega (arith, ix.places.long, c.requires.last_in)) c.swap.ensures.items)
