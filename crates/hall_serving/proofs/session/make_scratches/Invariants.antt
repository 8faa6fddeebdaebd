use Rattle.std.proofs.Common.{◌≡◌, vec_len, vec_capacity}
use Rattle.hall_serving.proofs.session.make_scratches.Given as goal

abbrev pub invariant-loop-made : goal.invariant-loop-made
invariant-loop-made l = (vec_len l.scratches ≡ l.made) × (vec_capacity l.scratches ≡ l.fn.count)
