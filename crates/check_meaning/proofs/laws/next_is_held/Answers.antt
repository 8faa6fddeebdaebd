use Rattle.check_meaning.proofs.Held.{calls_fit, keeps_values}
use Rattle.check_meaning.proofs.laws.next_is_held.Goals as goal

pub returns : goal.returns
returns c = record { fits = calls_fit; values = keeps_values }
