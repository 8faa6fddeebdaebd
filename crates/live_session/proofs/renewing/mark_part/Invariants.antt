use Rattle.std.proofs.Common.{◌≡◌, take}
use Rattle.shard_tables.specs.Either.{entries_in}
use Rattle.live_session.specs.Moving.{marked_by}
use Rattle.live_session.proofs.renewing.mark_part.Given as goal

-- the flags of the names of the first entries are set
abbrev pub invariant-loop-i : goal.invariant-loop-i
invariant-loop-i l = l.flags.items ≡ marked_by l.fn.flags.items (take l.i (entries_in l.part))
