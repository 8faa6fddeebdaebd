use Rattle.serve_faults.proofs.ToldEvents.{can_be_told}
use Rattle.serve_faults.proofs.laws.events_can_be_told.Goals as goal

pub returns : goal.returns
returns c = λ names file opened requests events symbols named opens prints fits accepted held known. can_be_told names file named symbols opened requests opens prints fits events accepted.allowed held known
