use Rattle.std.proofs.Common.{◌≡◌, take}
use Rattle.live_session.proofs.naming.reseeded.Given as goal

-- the first names are placed
abbrev pub invariant-loop-place : goal.invariant-loop-place
invariant-loop-place l = l.new ≡ take l.place l.names
