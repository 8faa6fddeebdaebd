use Rattle.std.proofs.Common.{◌-◌, length}
use Rattle.request_files.specs.Marks.{says}
use Rattle.request_files.proofs.DivideLemmas.{Passed}
use Rattle.request_files.proofs.mark_place.find_mark.Given as goal

abbrev pub invariant-lines : goal.invariant-lines
invariant-lines l = Passed (says l.mark) l.bytes l.at l.number

abbrev pub decreases-lines : goal.decreases-lines
decreases-lines l = length l.bytes - l.at
