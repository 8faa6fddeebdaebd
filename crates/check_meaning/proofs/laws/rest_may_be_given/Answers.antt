use Rattle.check_meaning.proofs.Runs.{run_goes}
use Rattle.check_meaning.proofs.laws.rest_may_be_given.Goals as goal

pub returns : goal.returns
returns c = run_goes
