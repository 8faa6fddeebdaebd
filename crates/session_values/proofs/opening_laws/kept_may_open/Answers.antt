use Rattle.session_values.proofs.KeptLemmas.{is_opening}
use Rattle.session_values.proofs.opening_laws.kept_may_open.Goals as goal

pub returns : goal.returns
returns c = is_opening
