-- How a run ends: with which status, and with which line.
use Rattle.std.specs.Prelude.{ℕ, List, [], ◌∷◌, ◌++◌, codes}
use Rattle.foresight_where.specs.declared.ending.Ending.{Ending}
use Rattle.foresight_where.specs.declared.ending.Ending.TheVariants.{Reported, HandedOn, Usage, NoMemory, ReadFault, TooLarge, WriteFault}

-- the most bytes of an input or a file
abbrev pub most : ℕ
most = 67108864

-- the number with which the program ends
abbrev pub exit_status : Ending → ℕ
exit_status Reported = 0
exit_status HandedOn = 1
exit_status Usage = 2
exit_status NoMemory = 3
exit_status ReadFault = 4
exit_status TooLarge = 4
exit_status WriteFault = 5

-- a text and a line feed
abbrev pub ended : List ℕ → List ℕ
ended text = text ++ 10 ∷ []

-- the line that tells the version
abbrev pub version_line : List ℕ
version_line = ended (codes "foresight_where 2.1")

-- the JSON that tells of nothing
abbrev pub null_line : List ℕ
null_line = ended (codes "null")

-- the line on the error output; none where all is written
abbrev pub line_of : Ending → List ℕ
line_of Reported = []
line_of HandedOn = []
line_of Usage = ended (codes "usage: foresight_where [--json] FILE | --rules | --version")
line_of NoMemory = ended (codes "no memory")
line_of ReadFault = ended (codes "read fault")
line_of TooLarge = ended (codes "too large")
line_of WriteFault = ended (codes "write fault")
