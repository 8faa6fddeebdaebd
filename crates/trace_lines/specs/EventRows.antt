-- The lines of a trace: the events that they are, and the first fault among them.
use Rattle.std.specs.Prelude.{◌≡◌, ℕ, ◌+◌, ◌<◌, ◌==◌, nat_le, if◌then◌else◌, List, [], ◌∷◌, drop, length, map, slice_index, Option, Some, None, is_some}
use Rattle.std.specs.List.{AllByRecursion}
use Rattle.std.specs.Option.{option_or}
use Rattle.session_values.specs.declared.kind.TableKind.{TableKind}
use Rattle.session_values.specs.Names.{with_text}
use Rattle.session_journal.specs.declared.event.Event.{Event}
use Rattle.text_lines.specs.Rows.{Row}
use Rattle.text_lines.specs.Text.{Text}
use Rattle.text_lines.specs.Values.{is_symbol}
use Rattle.session_journal.specs.Traces.{TraceView, max_events}
use Rattle.trace_lines.specs.declared.refusal.TraceRefusal.{TraceRefusal}
use Rattle.trace_lines.specs.declared.refusal.TraceRefusal.TheVariants.{BadEvent, TooManyEvents}
use Rattle.trace_lines.specs.EventWords.{event_of}

-- each table's name is in the list
abbrev pub AreKnown : List Text → List ℕ → Type 0
AreKnown names tables = AllByRecursion (λ place. place < length names) tables

-- the event that the words of a line are, if they are one
unfoldable pub row_event : List Text → List ℕ → List TableKind → Row → Option Event
row_event names tables shape r = event_of names tables shape (r.name ∷ r.args)

-- ---- faults

-- the fault of a line behind so many others with words, if it has one: where it is one too many it
-- isn't asked whether it is an event's
unfoldable pub event_fault : List Text → List ℕ → List TableKind → ℕ → Row → Option TraceRefusal
event_fault names tables shape seen r =
    if nat_le max_events seen then Some (TooManyEvents r.line)
    else (if is_some (row_event names tables shape r) then None else Some (BadEvent r.line))

-- the first fault of some lines with words behind so many others, if there is one
unfoldable pub first_event_fault : List Text → List ℕ → List TableKind → ℕ → List Row
    → Option TraceRefusal
first_event_fault names tables shape seen [] = None
first_event_fault names tables shape seen (r ∷ rs) = option_or
    (event_fault names tables shape seen r) (first_event_fault names tables shape (seen + 1) rs)

-- ---- names

-- the names with a text that is a symbol's
abbrev pub placed_symbol : List Text → Text → List Text
placed_symbol names t = if is_symbol t then with_text names t else names

-- the names with a word that is the literal of a symbol
unfoldable pub placed_literal : List Text → Text → List Text
placed_literal names w = if slice_index w 0 == 39 then placed_symbol names (drop 1 w) else names

-- the names with all such words, in their order
unfoldable pub placed_literals : List Text → List Text → List Text
placed_literals names [] = names
placed_literals names (w ∷ ws) = placed_literals (placed_literal names w) ws

-- the names behind some lines
unfoldable pub names_after : List Text → List Row → List Text
names_after names [] = names
names_after names (r ∷ rs) = names_after (placed_literals names r.args) rs

-- ---- traces

-- no line has a fault, the names are those behind all lines, and with these names the lines are the
-- events of the trace, each with its number
pub record IsTrace (old new : List Text) (tables : List ℕ) (shape : List TableKind) (rs : List Row)
    (trace : TraceView) : Type 0 where
  pub fine : first_event_fault old tables shape 0 rs ≡ None
  pub names : new ≡ names_after old rs
  pub events : map (row_event new tables shape) rs ≡ map (λ (e : Event). Some e) trace.events
  pub lines : trace.lines ≡ map (λ (r : Row). r.line) rs
