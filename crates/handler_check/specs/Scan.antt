-- The first fault of a text as a walk finds it that keeps the names declared so far, and those
-- visible outside the text.
use Rattle.std.specs.Prelude.{◌≡◌, ◌≢◌, ℕ, ◌==◌, nat_lt, Bool, true, false, ◌||◌, if◌then◌else◌, List, [], ◌∷◌, ◌++◌, length, Option, Some, None, Result, MatchResult}
use Rattle.std.specs.List.{list_any}
use Rattle.session_values.specs.Limits.{max_handlers, max_tables, max_turns, max_variables}
use Rattle.session_values.specs.declared.kind.Kind.{Kind}
use Rattle.session_values.specs.declared.kind.TableKind.{TableKind}
use Rattle.session_values.specs.declared.kind.TableKind.TheVariants.{Map, Set}
use Rattle.session_values.specs.Kinds.{arguments, home}
use Rattle.syntax_trees.specs.declared.file.File.{File}
use Rattle.syntax_trees.specs.declared.file.Handler.{Handler}
use Rattle.syntax_trees.specs.declared.file.TableDecl.{TableDecl}
use Rattle.handler_check.specs.declared.refusal.CheckRefusal.{CheckRefusal}
use Rattle.handler_check.specs.declared.refusal.CheckRefusal.TheVariants.{Twice, Unknown, Arity, WrongTable, RepeatBound, TooManyTables, TooManyHandlers, TooManyVariables, NoMemory}
use Rattle.syntax_trees.specs.Marks.{Mark, Declared, Mentioned, Operation, OnTable, Turns, declared, sees, handler_marks, table_marks}
use Rattle.handler_check.specs.Rules.{kind_of}

-- a fault, if there is one
abbrev pub Fault : Type 0
Fault = Option CheckRefusal

-- the first one, or else the second one
abbrev pub or_else : Fault → Fault → Fault
or_else None w = w
or_else (Some e) w = Some e

-- this fault where the test holds
abbrev pub fault_if : Bool → CheckRefusal → Fault
fault_if true e = Some e
fault_if false e = None

-- the name is one of these
abbrev pub is_among : List ℕ → ℕ → Bool
is_among names name = list_any (λ y. y == name) names

-- the faults of a declaration behind these names, where so many are too many
abbrev pub declared_fault : ℕ → (ℕ → CheckRefusal) → List ℕ → ℕ → ℕ → Fault
declared_fault limit past earlier name at = or_else (fault_if (is_among earlier name) (Twice at))
    (fault_if (length earlier == limit) (past at))

-- the fault of a variable that isn't one of the visible ones
abbrev pub unseen_fault : List ℕ → ℕ → ℕ → Fault
unseen_fault visible name at = if is_among visible name then None else Some (Unknown at)

-- the fault of an operation with so many arguments
abbrev pub count_fault : Kind → ℕ → ℕ → Fault
count_fault kind count at = if count == arguments kind then None else Some (Arity at)

-- the two kinds of table are one
abbrev pub is_same_kind : TableKind → TableKind → Bool
is_same_kind Map Map = true
is_same_kind Set Set = true
is_same_kind Map Set = false
is_same_kind Set Map = false

abbrev pub found_fault : Option TableKind → Kind → ℕ → Fault
found_fault None kind at = Some (Unknown at)
found_fault (Some found) kind at = if is_same_kind found (home kind) then None else Some
    (WrongTable at)

-- the fault of an operation on the table of this name
abbrev pub table_fault : List TableDecl → Kind → ℕ → ℕ → Fault
table_fault tables kind name at = found_fault (kind_of tables name) kind at

-- the fault of a repeat that runs so often
abbrev pub turns_fault : ℕ → ℕ → Fault
turns_fault n at = fault_if (n == 0 || nat_lt max_turns n) (RepeatBound at)

-- a declaration's limit, and its refusal
pub record Limit : Type 0 where
  pub limit : ℕ
  pub past : ℕ → CheckRefusal

-- the limit of tables
abbrev pub of_tables : Limit
of_tables = record { limit = max_tables; past = λ at. TooManyTables at }

-- that of handlers
abbrev pub of_handlers : Limit
of_handlers = record { limit = max_handlers; past = λ at. TooManyHandlers at }

-- that of the variables of a handler
abbrev pub of_variables : Limit
of_variables = record { limit = max_variables; past = λ at. TooManyVariables at }

-- the first fault at a mark behind these names
abbrev pub mark_fault : Limit → List TableDecl → List ℕ → Mark → Fault
mark_fault l tables earlier (Declared name at) = declared_fault l.limit l.past earlier name at
mark_fault l tables earlier (Mentioned name at visible) = unseen_fault visible name at
mark_fault l tables earlier (Operation kind count at) = count_fault kind count at
mark_fault l tables earlier (OnTable kind name at) = table_fault tables kind name at
mark_fault l tables earlier (Turns n at) = turns_fault n at

-- the first fault of marks behind these names, where these variables are visible too
abbrev pub scan : Limit → List TableDecl → List ℕ → List ℕ → List Mark → Fault
scan l tables earlier visible [] = None
scan l tables earlier visible (m ∷ ms) = or_else (mark_fault l tables earlier (sees visible m))
    (scan l tables (earlier ++ declared (m ∷ [])) visible ms)

-- what a walk answers that finds this; want of memory may come at any place
abbrev pub Found : {X : Type 0} → Fault → Result X CheckRefusal → Type 0
Found w result = MatchResult result (λ _. w ≡ None) (λ e. e ≢ NoMemory → w ≡ Some e)

-- the first fault of handlers behind these names
abbrev pub scan_handlers : List TableDecl → List ℕ → List Handler → Fault
scan_handlers tables earlier [] = None
scan_handlers tables earlier (h ∷ hs) =
    or_else (declared_fault of_handlers.limit of_handlers.past earlier h.name h.at)
    (or_else (scan of_variables tables [] [] (handler_marks h))
    (scan_handlers tables (earlier ++ h.name ∷ []) hs))

-- the first fault that the walk finds in a file: of its tables, or else of its handlers
abbrev pub file_fault : File → Fault
file_fault f = or_else (scan of_tables [] [] [] (table_marks f.tables))
    (scan_handlers f.tables [] f.handlers)
