-- What a text of lines is answered with: holds beside one map.
use Rattle.std.specs.Prelude.{◌≡◌, ℕ, zero, suc, ◌+◌, ◌⊎◌, List, [], ◌∷◌, ◌++◌, codes, Option, Some}
use Rattle.std.specs.Prelude.{None, Result, Ok, Err}
use Rattle.std.specs.Fmt.{decimal}
use Rattle.std.specs.List.{AllByRecursion}
use Rattle.session_values.specs.declared.kind.TableKind.TheVariants.{Map}
use Rattle.session_values.specs.declared.value.Value.{Value}
use Rattle.session_values.specs.ReplyText.{value_text}
use Rattle.session_values.specs.Tables.{Tables, start}
use Rattle.range_tables.specs.declared.range_op.RangeOp.{RangeOp}
use Rattle.range_tables.specs.declared.range_symbol.RangeSymbol.{RangeSymbol}
use Rattle.range_tables.specs.Ranges.{range_reply, range_step}
use Rattle.range_tables.specs.Symbols.{RangeCommutesWith}
use Rattle.text_lines.specs.Text.{Text}
use Rattle.text_lines.specs.Rows.{Row}
use Rattle.range_tables.specs.declared.step.Flaw.{Flaw}
use Rattle.range_tables.specs.declared.step.Step.{Step}
use Rattle.range_tables.specs.declared.step.Step.TheVariants.{Hold, Free, Do}
use Rattle.range_tables.specs.Faults.{Holds, holds_after, names_of, rows_of, text_fault, words_in}
use Rattle.range_tables.specs.Steps.{step_of}

-- ---- what stands against an operation

-- the operation commutes with all symbols of the hold, or it is closed
abbrev pub Passes : RangeOp → Option (List RangeSymbol) → Type 0
Passes op None = Unit {0}
Passes op (Some symbols) = AllByRecursion (RangeCommutesWith op) symbols

-- the symbol of this number is the first with which the operation doesn't commute
abbrev pub IsFirstAgainst : RangeOp → List RangeSymbol → ℕ → Type 0
IsFirstAgainst op [] i = ⊥
IsFirstAgainst op (s ∷ symbols) zero = RangeCommutesWith op s → ⊥
IsFirstAgainst op (s ∷ symbols) (suc i) = RangeCommutesWith op s × IsFirstAgainst op symbols i

abbrev pub Delays : RangeOp → Option (List RangeSymbol) → ℕ → Type 0
Delays op None i = ⊥
Delays op (Some symbols) i = IsFirstAgainst op symbols i

-- hold h is the least with such a symbol, and i is the number of its first
abbrev pub IsDelayed : RangeOp → Holds → ℕ → ℕ → Type 0
IsDelayed op [] h i = ⊥
IsDelayed op (hold ∷ holds) zero i = Delays op hold i
IsDelayed op (hold ∷ holds) (suc h) i = Passes op hold × IsDelayed op holds h i

-- ---- steps

-- the tables, the holds, and how many operations were asked for
pub record Desk : Type 0 where
  pub tables : Tables
  pub holds : Holds
  pub asked : ℕ

-- the number of an operation and its reply, a symbol without a quote
unfoldable pub reply_text : List Text → ℕ → Value → Text
reply_text names n reply = decimal n ++ 32 ∷ value_text names reply ++ 10 ∷ []

-- its number, the hold and the symbol
unfoldable pub delay_text : ℕ → ℕ → ℕ → Text
delay_text n h i = decimal n ++ codes " delayed " ++ decimal h ++ 32 ∷ decimal i ++ 10 ∷ []

-- an operation with which all open holds commute is done
pub record IsDone (names : List Text) (d : Desk) (op : RangeOp) (line : Text)
    (tables : Tables) : Type 0 where
  pub free : AllByRecursion (Passes op) d.holds
  pub line_is : line ≡ reply_text names d.asked (range_reply d.tables op)
  pub tables_are : tables ≡ range_step d.tables op

pub record IsKept (d : Desk) (op : RangeOp) (line : Text) (tables : Tables) : Type 0 where
  pub hold : ℕ
  pub symbol : ℕ
  pub delayed : IsDelayed op d.holds hold symbol
  pub line_is : line ≡ delay_text d.asked hold symbol
  pub tables_are : tables ≡ d.tables

-- what a step writes, and the tables and the number of operations behind it
abbrev pub Writes : List Text → Desk → Step → Text → Tables → ℕ → Type 0
Writes names d (Hold symbols) line tables asked =
    (line ≡ []) × (tables ≡ d.tables) × (asked ≡ d.asked)
Writes names d (Free n) line tables asked =
    (line ≡ []) × (tables ≡ d.tables) × (asked ≡ d.asked)
Writes names d (Do op) line tables asked =
    (IsDone names d op line tables ⊎ IsKept d op line tables) × (asked ≡ d.asked + 1)

abbrev pub WritesBy : List Text → Desk → Result Step Flaw → Text → Tables → ℕ → Type 0
WritesBy names d (Ok step) line tables asked = Writes names d step line tables asked
WritesBy names d (Err f) line tables asked = ⊥

-- a step with what it writes and the desk behind it
pub record Does (names : List Text) (d : Desk) (step : Result Step Flaw) (line : Text)
    (next : Desk) : Type 0 where
  pub writes : WritesBy names d step line next.tables next.asked
  pub holds : next.holds ≡ holds_after d.holds step

-- ---- of a text

-- the text that some lines write, from this desk on
abbrev pub Tells : List Text → Desk → List Row → Text → Type 0
Tells names d [] text = text ≡ []
Tells names d (r ∷ rs) text = (line : Text) × (rest : Text) × (next : Desk)
    × Does names d (step_of r.name (words_in names r)) line next
    × Tells names next rs rest × (text ≡ line ++ rest)

-- one empty map, and no holds
abbrev pub first_desk : Desk
first_desk = record { tables = start (Map ∷ []); holds = []; asked = 0 }

-- no line of the input has a fault, and its lines write this text
pub record IsRangesText (input text : Text) : Type 0 where
  pub fine : text_fault input ≡ None
  pub tells : Tells (names_of input) first_desk (rows_of input) text
