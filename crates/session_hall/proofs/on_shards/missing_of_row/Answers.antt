use Rattle.std.proofs.Common.{ℕ, ◌+◌, ◌<◌, sym, ◌∙◌, ap, subst, arith}
use Rattle.std.proofs.lemmas.Nat.Bits.{bit_at_set_other, bit_at_set_same}
use Rattle.std.specs.Int.{bit_at, w64}
use Rattle.session_hall.specs.OnShards.{IsMissing}
use Rattle.session_hall.proofs.ShardsByTurn.{missing_else, missing_then}
use Rattle.session_hall.proofs.on_shards.missing_of_row.Goals as goal
use Rattle.session_hall.proofs.on_shards.missing_of_row.Goals.{then-is_none, else-is_none}

pub loop-turn-preserved : goal.loop-turn-preserved
loop-turn-preserved g c =
    let near : c.loop-turn.turn < 64 = omega (arith, c.loop-turn-test.true, c.requires) in
    elim c.if-is_none.branch [
      | then-is_none w ↦ missing_then c.args.hands.now.pairs c.args.first c.loop-turn.turn c.loop-turn.set c.if-is_none.set c.loop-turn.invariant c.loop-turn.auto.turn c.place_of.result c.place_of.ensures (w.if-is_none.ensures)
          (ap (λ (x : ℕ). bit_at x c.loop-turn.turn) w.set-is ∙ bit_at_set_same w64 c.loop-turn.set c.loop-turn.turn near)
          (λ u n. ap (λ (x : ℕ). bit_at x u) w.set-is ∙ bit_at_set_other w64 c.loop-turn.set c.loop-turn.turn near u n)
      | else-is_none w ↦ let P : ℕ → Type 0 = λ x. IsMissing c.args.hands.now.pairs c.args.first (c.loop-turn.turn + 1) x in
          subst P (sym w.set-is) (missing_else c.args.hands.now.pairs c.args.first c.loop-turn.turn c.loop-turn.set c.loop-turn.invariant c.loop-turn.auto.turn c.place_of.result c.place_of.ensures (w.if-is_none.ensures))
    ]
