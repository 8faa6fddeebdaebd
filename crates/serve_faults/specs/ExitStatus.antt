-- The program's exit status, by how its run ended.
use Rattle.std.specs.Prelude.{ℕ}
use Rattle.serve_faults.specs.declared.status.Status.{Status}
use Rattle.serve_faults.specs.declared.status.Status.TheVariants.{Fine, Refused, Usage, NoMemory, ReadFault, WriteFault}

-- the number with which the program ends
abbrev pub exit_status : Status → ℕ
exit_status Fine = 0
exit_status (Refused fault) = 1
exit_status Usage = 2
exit_status NoMemory = 3
exit_status ReadFault = 4
exit_status WriteFault = 5
