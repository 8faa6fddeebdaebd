-- The rules of the checker, each as a condition on the whole text. (The two on calls and work are
-- looked at only where none of these is broken.)
use Rattle.std.specs.Prelude.{◌≡◌, ℕ, ◌<◌, ◌==◌, if◌then◌else◌, ◌⊎◌, List, [], ◌∷◌, ◌++◌, length, Option, Some, None}
use Rattle.std.specs.List.{Contains}
use Rattle.session_values.specs.Limits.{max_handlers, max_tables, max_turns, max_variables}
use Rattle.session_values.specs.declared.kind.Kind.{Kind}
use Rattle.session_values.specs.declared.kind.TableKind.{TableKind}
use Rattle.session_values.specs.Kinds.{arguments, home}
use Rattle.syntax_trees.specs.declared.file.File.{File}
use Rattle.syntax_trees.specs.declared.file.Handler.{Handler}
use Rattle.syntax_trees.specs.declared.file.TableDecl.{TableDecl}
use Rattle.handler_check.specs.declared.refusal.CheckRefusal.{CheckRefusal}
use Rattle.handler_check.specs.declared.refusal.CheckRefusal.TheVariants.{Twice, Unknown, Arity, WrongTable, RepeatBound, TooManyTables, TooManyHandlers, TooManyVariables, TooManyCalls, TooMuchWork, NoMemory}
use Rattle.syntax_trees.specs.Marks.{Mark, Declared, Mentioned, Operation, OnTable, Turns, declared, handler_marks, table_marks, name_marks}

-- a mark stands in a text behind these marks
pub record Stands (text before : List Mark) (m : Mark) : Type 0 where
  pub after : List Mark
  pub is : text ≡ before ++ m ∷ after

-- the kind of the table that a name stands for
abbrev pub kind_of : List TableDecl → ℕ → Option TableKind
kind_of [] name = None
kind_of (t ∷ ts) name = if t.name == name then Some t.kind else kind_of ts name

-- ---- rules on a text

-- a name is declared that stands among those declared earlier
abbrev pub IsTwice : List Mark → ℕ → Type 0
IsTwice text at = (before : List Mark) × (name : ℕ) × Stands text before (Declared name at)
    × Contains (declared before) name

-- a name is declared behind so many others
abbrev pub IsPast : ℕ → List Mark → ℕ → Type 0
IsPast limit text at = (before : List Mark) × (name : ℕ) × Stands text before (Declared name at)
    × (length (declared before) ≡ limit)

-- a variable is read or assigned that isn't visible there
abbrev pub IsUnseen : List Mark → ℕ → Type 0
IsUnseen text at = (before : List Mark) × (name : ℕ) × (visible : List ℕ)
    × Stands text before (Mentioned name at visible) × (Contains visible name → ⊥)

-- an operation names no declared table
abbrev pub IsTableless : List TableDecl → List Mark → ℕ → Type 0
IsTableless tables text at = (before : List Mark) × (kind : Kind) × (name : ℕ)
    × Stands text before (OnTable kind name at) × (kind_of tables name ≡ None)

-- an operation has another number of arguments than its kind takes
abbrev pub IsMiscounted : List Mark → ℕ → Type 0
IsMiscounted text at = (before : List Mark) × (kind : Kind) × (count : ℕ)
    × Stands text before (Operation kind count at) × (count ≡ arguments kind → ⊥)

-- an operation names a table of the other kind
abbrev pub IsMisplaced : List TableDecl → List Mark → ℕ → Type 0
IsMisplaced tables text at =
    (before : List Mark) × (kind : Kind) × (name : ℕ) × (found : TableKind)
    × Stands text before (OnTable kind name at) × (kind_of tables name ≡ Some found)
    × (found ≡ home kind → ⊥)

-- a block is to be done no times, or more than a thousand
abbrev pub IsUnbounded : List Mark → ℕ → Type 0
IsUnbounded text at = (before : List Mark) × (n : ℕ) × Stands text before (Turns n at)
    × ((n ≡ 0) ⊎ (max_turns < n))

-- ---- rules on a file

abbrev pub InHandler : File → (List Mark → Type 0) → Type 0
InHandler f P = (h : Handler) × Contains f.handlers h × P (handler_marks h)

-- this rule is broken at this place
abbrev pub IsBroken : File → CheckRefusal → Type 0
IsBroken f (Twice at) = IsTwice (table_marks f.tables) at ⊎ IsTwice (name_marks f.handlers) at
    ⊎ InHandler f (λ text. IsTwice text at)
IsBroken f (Unknown at) = InHandler f (λ text. IsUnseen text at ⊎ IsTableless f.tables text at)
IsBroken f (Arity at) = InHandler f (λ text. IsMiscounted text at)
IsBroken f (WrongTable at) = InHandler f (λ text. IsMisplaced f.tables text at)
IsBroken f (RepeatBound at) = InHandler f (λ text. IsUnbounded text at)
IsBroken f (TooManyTables at) = IsPast max_tables (table_marks f.tables) at
IsBroken f (TooManyHandlers at) = IsPast max_handlers (name_marks f.handlers) at
IsBroken f (TooManyVariables at) = InHandler f (λ text. IsPast max_variables text at)
IsBroken f (TooManyCalls at) = ⊥
IsBroken f (TooMuchWork at) = ⊥
IsBroken f NoMemory = ⊥
