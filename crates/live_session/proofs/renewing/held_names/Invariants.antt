use Rattle.std.proofs.Common.{◌≡◌, false, replicate}
use Rattle.live_session.specs.Moving.{marked_first}
use Rattle.live_session.proofs.renewing.held_names.Given as goal

-- the flags of the first names are set
abbrev pub invariant-loop-place : goal.invariant-loop-place
invariant-loop-place l = l.flags.items ≡ marked_first (replicate l.count false) l.place
