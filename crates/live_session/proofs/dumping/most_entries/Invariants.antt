use Rattle.std.proofs.Common.{take}
use Rattle.std.specs.List.{AllByRecursion}
use Rattle.session_values.specs.Opening.{AreApart}
use Rattle.table_lines.specs.Dumped.{HaveRoom}
use Rattle.live_session.specs.Held.{lists_in}
use Rattle.live_session.proofs.dumping.most_entries.Given as goal

-- it is so of the first tables
abbrev pub invariant-loop-part : goal.invariant-loop-part
invariant-loop-part l = record {
  room : HaveRoom l.most (lists_in (take l.part-index l.parts));
  apart : AllByRecursion AreApart (lists_in (take l.part-index l.parts));
}
