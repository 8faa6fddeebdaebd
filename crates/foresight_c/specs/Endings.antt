-- How a call of the library ends, by how its run over memory ended.
use Rattle.std.specs.Prelude.{ℕ, nat_le, if◌then◌else◌, List, []}
use Rattle.serve_faults.specs.declared.status.Status.{Status}
use Rattle.serve_faults.specs.declared.status.Status.TheVariants as status

-- A text longer than its room is a write fault. A run over memory has none of its own: where it
-- could not write, memory was wanting.
abbrev pub ending : Status → ℕ → ℕ → Status
ending status.Fine length room = if nat_le length room then status.Fine else status.WriteFault
ending (status.Refused fault) length room = status.Refused fault
ending status.Usage length room = status.Usage
ending status.NoMemory length room = status.NoMemory
ending status.ReadFault length room = status.ReadFault
ending status.WriteFault length room = status.NoMemory

-- the text of a call that ended so: only these two have one
abbrev pub handed : Status → List ℕ → List ℕ
handed status.Fine text = text
handed (status.Refused fault) text = []
handed status.Usage text = []
handed status.NoMemory text = []
handed status.ReadFault text = []
handed status.WriteFault text = text
