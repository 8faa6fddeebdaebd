use Rattle.std.proofs.Common.{ℕ, ◌+◌, [], ◌∷◌, ◌++◌, get_or, subst}
use Rattle.std.proofs.Math.ListN.{set}
use Rattle.shard_tables.specs.Slots.{IsIndex}
use Rattle.shard_tables.proofs.Entries.{entered}
use Rattle.shard_tables.proofs.Searches.{is_free}
use Rattle.shard_tables.proofs.slot_table.SlotTable.enter.Goals as goal

pub returns-clause-index : goal.returns-clause-index
returns-clause-index c = λ keys key long ix path.
    let now = c.args.self.now in
    let P : ℕ → Type 0 = λ n. IsIndex now.factor now.bits (keys ++ key ∷ []) (set now.slots.items c.args.slot (n + 1)) in
    subst P long (entered now.factor now.bits keys now.slots.items key c.args.slot ix c.requires.within (is_free (get_or now.slots.items c.args.slot 0) c.requires.free) path)
