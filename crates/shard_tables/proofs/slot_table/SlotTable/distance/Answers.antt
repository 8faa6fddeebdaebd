use Rattle.std.proofs.Common.{◌≡◌, ℕ, ◌-◌, ◌+◌, ◌^◌, bit_and, ap, ◌∙◌}
use Rattle.shard_tables.proofs.Masks.{masked_distance}
use Rattle.shard_tables.proofs.slot_table.SlotTable.distance.Goals as goal

pub returns : goal.returns
returns c =
    let long : c.len.result ≡ 2 ^ c.args.self.now.bits = c.len.ensures ∙ c.args.self.now.long in
    let too : c.len-2.result ≡ 2 ^ c.args.self.now.bits = c.len-2.ensures ∙ c.args.self.now.long in
    ap (λ (n : ℕ). bit_and (c.args.to + n - c.args.from) (c.len-2.result - 1)) long
    ∙ ap (λ (n : ℕ). bit_and (c.args.to + 2 ^ c.args.self.now.bits - c.args.from) (n - 1)) too
    ∙ masked_distance c.args.self.now.bits c.args.from c.args.to c.requires.from_in c.requires.to_in
