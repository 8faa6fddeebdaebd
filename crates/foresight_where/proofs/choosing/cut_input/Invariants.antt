use Rattle.std.proofs.Common.{◌-◌, length}
use Rattle.foresight_where.specs.Chosen.{is_refusal}
use Rattle.foresight_where.proofs.Passing.{Passed}
use Rattle.foresight_where.proofs.choosing.cut_input.Given as goal

abbrev pub invariant-lines : goal.invariant-lines
invariant-lines l = Passed is_refusal l.input l.at

abbrev pub decreases-lines : goal.decreases-lines
decreases-lines l = length l.input - l.at
