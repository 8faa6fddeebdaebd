use Rattle.serve_faults.specs.Input.{is_divided}
use Rattle.file_laws.proofs.ReadBack.{is_marked}
use Rattle.file_laws.proofs.Audited.{accepted_trace}
use Rattle.file_laws.proofs.laws.traces_are_accepted.Goals as goal

pub returns : goal.returns
returns c = λ callers shards input text a. accepted_trace input text (is_marked (is_divided input) a.0.parts) a.0.short a.0.utf8 a.1
