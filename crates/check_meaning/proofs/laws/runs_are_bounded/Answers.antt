use Rattle.std.proofs.Common.{ℕ, ◌≤◌, subst}
use Rattle.check_meaning.specs.Bounds.{adding, calls_bound, every}
use Rattle.check_meaning.proofs.Bounded.{counted, weight_every, ends_by}
use Rattle.check_meaning.proofs.laws.runs_are_bounded.Goals as goal

pub returns : goal.returns
returns c = record {
  calls = λ code env es f. subst (λ (n : ℕ). n ≤ calls_bound code) (weight_every es) (counted every code env es f);
  adds = λ table code env. counted (adding table) code env;
  ends = ends_by;
}
