use Rattle.std.proofs.Common.{ℕ, ◌-◌, ◌/◌, ◌^◌, ◌<◌, ◌≤◌, ap, ◌∙◌, subst, sym, arith}
use Rattle.std.proofs.Math.Nat.{pow-le-pow_right}
use Rattle.shard_tables.specs.Slots.{start_by, spread}
use Rattle.shard_tables.proofs.Masks.{spread-lt, start-below}
use Rattle.shard_tables.proofs.start.start_slot_by.Goals as goal

pub overflow_cast-result-2 : goal.overflow_cast-result-2
overflow_cast-result-2 c =
    let fits : c.spread.result < 2 ^ 64 = subst (λ (n : ℕ). n < 2 ^ 64) (sym c.spread.ensures) (spread-lt c.args.factor c.number_of.result) in
    let small = start-below c.spread.result c.args.bits (omega arith) fits in
    let big : 2 ^ c.args.bits ≤ 2 ^ 31 = pow-le-pow_right {n = 2} (omega arith) {i = c.args.bits} {j = 31} c.requires.few in
    record { fits = omega arith }

pub returns-clause-slot : goal.returns-clause-slot
unfolding start_by
returns-clause-slot c = ap (λ (n : ℕ). n / 2 ^ (64 - c.args.bits)) (c.spread.ensures ∙ ap (spread c.args.factor) c.number_of.ensures)

pub returns-clause-within : goal.returns-clause-within
returns-clause-within c =
    let fits : c.spread.result < 2 ^ 64 = subst (λ (n : ℕ). n < 2 ^ 64) (sym c.spread.ensures) (spread-lt c.args.factor c.number_of.result) in
    start-below c.spread.result c.args.bits (omega arith) fits
