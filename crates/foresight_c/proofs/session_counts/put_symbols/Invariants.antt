use Rattle.std.proofs.Common.{◌≡◌, map, take}
use Rattle.foresight_c.specs.Fronts.{put_at_front}
use Rattle.foresight_c.specs.Values.{told_symbol}
use Rattle.foresight_c.proofs.session_counts.put_symbols.Given as goal

-- the first symbols are put
abbrev pub invariant-loop-i : goal.invariant-loop-i
invariant-loop-i l = l.room ≡ put_at_front l.fn.room (map told_symbol (take l.i l.list))
