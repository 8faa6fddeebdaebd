-- How a dump ends.
use Rattle.text_lines.specs.Text.{Text}
use Rattle.byte_ends.specs.Changes.{Change, Failed, IsUntouched, WroteAll, WrotePrefix}
use Rattle.live_session.specs.declared.dumping.Dumped.{Dumped}
use Rattle.live_session.specs.declared.dumping.Dumped.TheVariants as dumped

-- the text was written, and no write failed; or a front of it, where one failed; or nothing, where
-- memory ran out
abbrev pub DumpEnds : {O : Type 0} → Text → Change O → Dumped → Type 0
DumpEnds text out dumped.Written = WroteAll out text
DumpEnds text out dumped.Failed = Failed out × WrotePrefix out text
DumpEnds text out dumped.NoMemory = IsUntouched out
