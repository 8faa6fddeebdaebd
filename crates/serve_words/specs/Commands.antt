-- The command lines of the program.
use Rattle.std.specs.Prelude.{ℕ, ◌≤◌, ◌&&◌, if◌then◌else◌, List, [], ◌∷◌, ◌++◌, Option, Some, None, codes}
use Rattle.std.specs.Str.{bytes_eq}
use Rattle.session_values.specs.Limits.{max_callers, max_requests, max_shards}
use Rattle.serve_words.specs.Numbers.{number_within}
use Rattle.serve_words.specs.declared.command.Command.{Command}
use Rattle.serve_words.specs.declared.command.Command.TheVariants.{Check, Show, Serve, Dump, Work, Ranges, Trace, Audit, Clients}

-- the line that tells the command lines
abbrev pub usage_line : List ℕ
usage_line =
    codes "usage: foresight check | show | serve [--callers N] [--shards S]"
    ++ codes " | dump [--callers N] [--shards S] | work N START | ranges"
    ++ codes " | trace [--callers N] [--shards S] | audit"
    ++ codes " | clients [--callers N] [--shards S]" ++ 10 ∷ []

-- the number of callers, and the number of shards of a table
abbrev pub callers_of : List ℕ → Option ℕ
callers_of word = number_within 1 max_callers word

abbrev pub shards_of : List ℕ → Option ℕ
shards_of word = number_within 1 max_shards word

-- these numbers, if both are there
abbrev pub both : Option ℕ → Option ℕ → Option (ℕ × ℕ)
both (Some callers) (Some shards) = Some (callers, shards)
both (Some callers) None = None
both None shards = None

-- the numbers by one option, where the other number is 4
abbrev pub sizes_by_one : List ℕ → List ℕ → Option (ℕ × ℕ)
sizes_by_one option number =
    if bytes_eq option (codes "--callers") then both (callers_of number) (Some 4)
    else (if bytes_eq option (codes "--shards") then both (Some 4) (shards_of number) else None)

-- the numbers by the options: at most one `--callers N`, then at most one `--shards S`
abbrev pub sizes_of : List (List ℕ) → Option (ℕ × ℕ)
sizes_of [] = Some (4, 4)
sizes_of (option ∷ number ∷ []) = sizes_by_one option number
sizes_of (first ∷ callers ∷ second ∷ shards ∷ []) =
    if bytes_eq first (codes "--callers") && bytes_eq second (codes "--shards")
    then both (callers_of callers) (shards_of shards) else None
sizes_of _ = None

-- serving with these numbers
abbrev pub serve_by : Option (ℕ × ℕ) → Option Command
serve_by None = None
serve_by (Some p) = Some (Serve p.0 p.1)

-- serving by the words behind `serve`
abbrev pub serve_of : List (List ℕ) → Option Command
serve_of options = serve_by (sizes_of options)

-- dumping with these numbers
abbrev pub dump_by : Option (ℕ × ℕ) → Option Command
dump_by None = None
dump_by (Some p) = Some (Dump p.0 p.1)

-- dumping by the words behind `dump`
abbrev pub dump_of : List (List ℕ) → Option Command
dump_of options = dump_by (sizes_of options)

-- tracing with these numbers
abbrev pub trace_by : Option (ℕ × ℕ) → Option Command
trace_by None = None
trace_by (Some p) = Some (Trace p.0 p.1)

-- tracing by the words behind `trace`
abbrev pub trace_of : List (List ℕ) → Option Command
trace_of options = trace_by (sizes_of options)

-- serving several clients with these numbers
abbrev pub clients_by : Option (ℕ × ℕ) → Option Command
clients_by None = None
clients_by (Some p) = Some (Clients p.0 p.1)

-- serving several clients by the words behind `clients`
abbrev pub clients_of : List (List ℕ) → Option Command
clients_of options = clients_by (sizes_of options)

-- a made session by the two words behind `work`
abbrev pub work_by : Option ℕ → Option ℕ → Option Command
work_by (Some requests) (Some start) = Some (Work requests start)
work_by (Some requests) None = None
work_by None start = None

abbrev pub work_of : List ℕ → List ℕ → Option Command
work_of requests start = work_by (number_within 1 max_requests requests)
    (number_within 0 4294967295 start)

-- the command of one word
abbrev pub alone : List ℕ → Option Command
alone word =
    if bytes_eq word (codes "check") then Some Check
    else (if bytes_eq word (codes "show") then Some Show
    else (if bytes_eq word (codes "serve") then serve_of []
    else (if bytes_eq word (codes "dump") then dump_of []
    else (if bytes_eq word (codes "ranges") then Some Ranges
    else (if bytes_eq word (codes "trace") then trace_of []
    else (if bytes_eq word (codes "audit") then Some Audit
    else (if bytes_eq word (codes "clients") then clients_of [] else None)))))))

-- a made session by the words behind `work`, which are two
abbrev pub work_line : List (List ℕ) → Option Command
work_line (requests ∷ start ∷ []) = work_of requests start
work_line _ = None

-- the command of a word and those behind it
unfoldable pub followed : List ℕ → List (List ℕ) → Option Command
followed word more =
    if bytes_eq word (codes "serve") then serve_of more
    else (if bytes_eq word (codes "dump") then dump_of more
    else (if bytes_eq word (codes "trace") then trace_of more
    else (if bytes_eq word (codes "clients") then clients_of more
    else (if bytes_eq word (codes "work") then work_line more else None))))

-- the command that the words ask for, if they are a command line
abbrev pub command_of : List (List ℕ) → Option Command
command_of [] = None
command_of (word ∷ []) = alone word
command_of (word ∷ more) = followed word more

-- 1 to 32 callers and 1 to 8 shards
abbrev pub AreSizes : ℕ → ℕ → Type 0
AreSizes callers shards =
    (1 ≤ callers) × (callers ≤ max_callers) × (1 ≤ shards) × (shards ≤ max_shards)

-- callers and shards within bounds; 1 to 20,000 requests from a number of 32 bits
abbrev pub IsWithinBounds : Command → Type 0
IsWithinBounds Check = Unit {0}
IsWithinBounds Show = Unit {0}
IsWithinBounds (Serve callers shards) = AreSizes callers shards
IsWithinBounds (Dump callers shards) = AreSizes callers shards
IsWithinBounds (Work requests start) = (1 ≤ requests) × (requests ≤ max_requests)
    × (start ≤ 4294967295)
IsWithinBounds Ranges = Unit {0}
IsWithinBounds (Trace callers shards) = AreSizes callers shards
IsWithinBounds Audit = Unit {0}
IsWithinBounds (Clients callers shards) = AreSizes callers shards
