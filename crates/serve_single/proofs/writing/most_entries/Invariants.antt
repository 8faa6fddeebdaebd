use Rattle.std.proofs.Common.{take}
use Rattle.std.specs.List.{AllByRecursion}
use Rattle.session_journal.specs.Opening.{AreApart}
use Rattle.table_lines.specs.Dumped.{HaveRoom}
use Rattle.serve_single.specs.Tables.{lists_in}
use Rattle.serve_single.proofs.writing.most_entries.Given as goal

-- it is so of the first tables
abbrev pub invariant-loop-part : goal.invariant-loop-part
invariant-loop-part l = record {
  room : HaveRoom l.most (lists_in (take l.part-index l.parts));
  apart : AllByRecursion AreApart (lists_in (take l.part-index l.parts));
}
