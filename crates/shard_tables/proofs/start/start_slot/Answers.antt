use Rattle.shard_tables.specs.Slots.{start_by, start_of}
use Rattle.shard_tables.proofs.start.start_slot.Goals as goal

pub returns-clause-slot : goal.returns-clause-slot
unfolding start_by start_of
returns-clause-slot c = c.start_slot_by.ensures.slot
