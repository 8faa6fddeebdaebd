use Rattle.std.proofs.Common.{ℕ, List, ◌*◌, ◌%◌, ◌^◌, ◌<◌, ◌≡◌, ◌≢◌, sym, ◌∙◌, arith}
use Rattle.std.proofs.lemmas.Nat.Bits.{bit_at_mask_above, bit_at_or, bit_at_set_other, bit_at_set_same}
use Rattle.std.specs.Int.{bit_at, w64}
use Rattle.session_values.proofs.Numbers.{one_zero}
use Rattle.hall_rule.specs.declared.held.Held.{Held}
use Rattle.session_hall.specs.OnShards.{IsMissing}
use Rattle.session_hall.proofs.ShardsByTurn.{missing_else, missing_then}
use Rattle.session_hall.proofs.on_shards.missing_one.Goals as goal

zero_bit : (u : ℕ) → bit_at 0 u ≡ 0
zero_bit u = bit_at_mask_above 0 0 u (omega arith)

-- no turn is missing before the first
none_yet : {S : Type 0} (xs : List (ℕ × Held S)) (turn : ℕ) → IsMissing xs turn turn 0
none_yet xs turn = record {
  each = λ u e. absurd (one_zero (sym e ∙ zero_bit u));
  rest = λ u from below e. absurd (omega (arith, from, below));
}

abbrev alone : ℕ → ℕ
alone turn = 1 * 2 ^ turn % 2 ^ 64

alone_same : (turn : ℕ) → turn < 64 → bit_at (alone turn) turn ≡ 1
alone_same turn near =
    let a = bit_at_set_same w64 0 turn near in
    let b = bit_at_or 0 (alone turn) turn in
    omega (arith, a, b, zero_bit turn)

alone_other : (turn : ℕ) → turn < 64 → (u : ℕ) → u ≢ turn → bit_at (alone turn) u ≡ bit_at 0 u
alone_other turn near u n =
    let a = bit_at_set_other w64 0 turn near u n in
    let b = bit_at_or 0 (alone turn) u in
    omega (arith, a, b, zero_bit u)

pub returns-then-is_none : goal.returns-then-is_none
returns-then-is_none g c =
    let near : c.args.turn < 64 = omega (arith, c.requires) in
    missing_then c.args.hands.now.pairs c.args.turn c.args.turn 0 (alone c.args.turn) (none_yet c.args.hands.now.pairs c.args.turn) (omega arith) c.place_of.result c.place_of.ensures c.if-is_none.ensures
    (alone_same c.args.turn near) (alone_other c.args.turn near)

pub returns-else-is_none : goal.returns-else-is_none
returns-else-is_none g c = missing_else c.args.hands.now.pairs c.args.turn c.args.turn 0 (none_yet c.args.hands.now.pairs c.args.turn) (omega arith) c.place_of.result c.place_of.ensures c.if-is_none.ensures
