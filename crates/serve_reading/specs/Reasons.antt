-- Why nothing is made of a text: memory ran out, or this is the first broken rule.
use Rattle.std.specs.Prelude.{◌≡◌, ◌≢◌, ◌⊎◌, ℕ, ◌≤◌, false, IsUtf8, List, [], length, None, Some}
use Rattle.session_values.specs.Limits.{max_input}
use Rattle.syntax_trees.specs.declared.file.File.{File}
use Rattle.handler_check.specs.Checking.{IsAccepted, IsRefusal}
use Rattle.may_use_analysis.specs.Later.{IsTooMany}
use Rattle.request_files.specs.Requests.{first_fault, no_requests}
use Rattle.table_lines.specs.TableRows.{first_table_fault}
use Rattle.request_files.specs.Rows.{Row, names_behind}
use Rattle.serve_faults.specs.Command.{Command}
use Rattle.serve_faults.specs.declared.status.Fault.{Fault}
use Rattle.serve_faults.specs.declared.status.Fault.TheVariants as fault
use Rattle.serve_faults.specs.Answer.{HasSyntaxFault, HasCheckFault, HasAnalysisFault, HasRequestFault, HasTableFault, IsRefused}
use Rattle.serve_faults.specs.Input.{Parts, parts_of, is_divided}
use Rattle.serve_reading.specs.Sessions.{IsSessionInput}
use Rattle.serve_reading.specs.declared.load_error.LoadError.{LoadError}
use Rattle.serve_reading.specs.declared.load_error.LoadError.TheVariants.{Refused, NoMemory}

-- Why a part of the program refuses something is why nothing is made of it: memory ran out there
-- too, or the fault has the refusal, which names a broken rule.
abbrev pub IsNamedAs : {E : Type 0} → E → (E → Fault) → E → LoadError → Type 0
IsNamedAs none name e u =
    ((e ≡ none) × (u ≡ NoMemory)) ⊎ ((e ≢ none) × (u ≡ Refused (name e)))

-- why a text is no file
abbrev pub IsSyntaxReason : List ℕ → LoadError → Type 0
IsSyntaxReason text NoMemory = Unit {0}
IsSyntaxReason text (Refused (fault.Syntax e)) = HasSyntaxFault text e
IsSyntaxReason text (Refused e) = ⊥

-- why a file that was read has no text to print
abbrev pub IsFileReason : File → LoadError → Type 0
IsFileReason file NoMemory = Unit {0}
IsFileReason file (Refused (fault.Check e)) = IsRefusal file e
IsFileReason file (Refused (fault.Analysis e)) = IsAccepted file × IsTooMany file e
IsFileReason file (Refused e) = ⊥

-- memory ran out, or this is the first fault of the handlers' text: of syntax, check or analysis
abbrev pub IsProgramReason : List ℕ → LoadError → Type 0
IsProgramReason text NoMemory = Unit {0}
IsProgramReason text (Refused (fault.Syntax e)) = HasSyntaxFault text e
IsProgramReason text (Refused (fault.Check e)) = HasCheckFault text e
IsProgramReason text (Refused (fault.Analysis e)) = HasAnalysisFault text e
IsProgramReason text (Refused e) = ⊥

-- over the names of a file: memory ran out, or this is the first fault of some table rows, or of
-- the requests behind them
abbrev pub IsLinesReason : List (List ℕ) → File → List Row → List Row → LoadError → Type 0
IsLinesReason names file ts rs NoMemory = Unit {0}
IsLinesReason names file ts rs (Refused (fault.Tables e)) =
    first_table_fault names file.tables [] ts ≡ Some e
IsLinesReason names file ts rs (Refused (fault.Request e)) =
    (first_table_fault names file.tables [] ts ≡ None)
    × (first_fault (names_behind names ts) file no_requests rs ≡ Some e)
IsLinesReason names file ts rs (Refused e) = ⊥

-- memory ran out, or this is the first fault of the handlers' text, of the table part, or of the
-- requests
abbrev pub IsSessionReason : Parts → LoadError → Type 0
IsSessionReason parts NoMemory = Unit {0}
IsSessionReason parts (Refused (fault.Syntax e)) = HasSyntaxFault parts.handlers e
IsSessionReason parts (Refused (fault.Check e)) = HasCheckFault parts.handlers e
IsSessionReason parts (Refused (fault.Analysis e)) = HasAnalysisFault parts.handlers e
IsSessionReason parts (Refused (fault.Tables e)) = HasTableFault parts e
IsSessionReason parts (Refused (fault.Request e)) = HasRequestFault parts e
IsSessionReason parts (Refused e) = ⊥

-- memory ran out, or this is the first broken rule of a session file
abbrev pub IsInputReason : List ℕ → LoadError → Type 0
IsInputReason input NoMemory = Unit {0}
IsInputReason input (Refused fault.TooLarge) = ⊥
IsInputReason input (Refused fault.NotText) = (length input ≤ max_input) × (IsUtf8 input → ⊥)
IsInputReason input (Refused fault.NoRequests) = (length input ≤ max_input) × IsUtf8 input
    × (is_divided input ≡ false)
IsInputReason input (Refused fault.HasRequests) = ⊥
IsInputReason input (Refused e) = IsSessionInput input
    × IsSessionReason (parts_of input) (Refused e)

-- memory ran out, or this is the first broken rule of the command's input
abbrev pub IsReason : Command → List ℕ → LoadError → Type 0
IsReason command input NoMemory = Unit {0}
IsReason command input (Refused e) = IsRefused command input e
