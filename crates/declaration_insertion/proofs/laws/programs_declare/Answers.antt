use Rattle.declaration_insertion.proofs.Programs.{program_own, program_promised, program_vars}
use Rattle.declaration_insertion.proofs.laws.programs_declare.Goals as goal

pub returns : goal.returns
returns c = record { promised = program_promised; own = program_own; vars = program_vars }
