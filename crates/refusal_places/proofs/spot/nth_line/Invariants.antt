use Rattle.std.proofs.Common.{◌≡◌, ◌-◌, slice_get}
use Rattle.text_lines.specs.Text.{lines}
use Rattle.refusal_places.proofs.spot.nth_line.Given as goal

-- the line that is looked for stands in the rest behind the lines that are left to pass
abbrev pub invariant-loop-done : goal.invariant-loop-done
invariant-loop-done l = slice_get (lines l.fn.file) l.skipped ≡ slice_get (lines l.rest) (l.skipped - l.done)
