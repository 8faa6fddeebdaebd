use Rattle.std.specs.Prelude.{◌+ℤ◌}
use Rattle.std.specs.Int.{w64}
use Rattle.std.proofs.lemmas.Int.{SFits-int_wrap}
use Rattle.session_values.proofs.Congruent.{wrapped, only_one}
use Rattle.session_values.proofs.laws.sums_of_bumps.Goals as goal

pub returns-clause-range : goal.returns-clause-range
returns-clause-range g n d = SFits-int_wrap w64 (n +ℤ d)

pub returns-clause-congruent : goal.returns-clause-congruent
returns-clause-congruent g n d = wrapped (n +ℤ d)

pub returns-clause-only : goal.returns-clause-only
returns-clause-only g = only_one
