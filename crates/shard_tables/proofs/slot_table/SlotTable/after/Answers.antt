use Rattle.std.proofs.Common.{◌≡◌, ℕ, ◌-◌, ◌+◌, ◌^◌, bit_and, ap, ◌∙◌}
use Rattle.shard_tables.proofs.Masks.{masked_after}
use Rattle.shard_tables.proofs.slot_table.SlotTable.after.Goals as goal

pub returns-clause-next : goal.returns-clause-next
returns-clause-next c =
    let long : c.len.result ≡ 2 ^ c.args.self.now.bits = c.len.ensures ∙ c.args.self.now.long in
    ap (λ (n : ℕ). bit_and (c.args.slot + 1) (n - 1)) long ∙ masked_after c.args.self.now.bits c.args.slot c.requires
