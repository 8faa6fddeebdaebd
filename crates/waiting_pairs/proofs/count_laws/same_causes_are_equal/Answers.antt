use Rattle.std.proofs.Common.{subst, ◌≡◌, true}
use Rattle.waiting_pairs.specs.declared.cause.Cause.{Cause}
use Rattle.waiting_pairs.specs.Causes.{is_same}
use Rattle.waiting_pairs.specs.Same.{one_cause, same_equiv}
use Rattle.waiting_pairs.proofs.count_laws.same_causes_are_equal.Goals as goal

pub returns : goal.returns
returns c = λ a b. (one_cause a b, λ e. subst (λ (z : Cause). is_same a z ≡ true) e (same_equiv.refl a))
