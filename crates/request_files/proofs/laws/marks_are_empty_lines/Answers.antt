use Rattle.request_files.proofs.ClientSteps.{unmarked_lines}
use Rattle.request_files.proofs.laws.marks_are_empty_lines.Goals as goal

pub returns : goal.returns
returns c = unmarked_lines
