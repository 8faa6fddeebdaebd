use Rattle.request_files.proofs.PickedLemmas.{picked_printable, picked_servable}
use Rattle.request_files.proofs.laws.picked_requests.Goals as goal

pub returns-clause-servable : goal.returns-clause-servable
returns-clause-servable c = picked_servable

pub returns-clause-printable : goal.returns-clause-printable
returns-clause-printable c = picked_printable
