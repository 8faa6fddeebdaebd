use Rattle.request_files.proofs.WholeParts.{parts_are}
use Rattle.request_files.proofs.laws.parts_of_file.Goals as goal

pub returns : goal.returns
returns c = parts_are
