-- When a line is accepted, and why not. Only this crate's own functions cite it.
use Rattle.std.specs.Prelude.{◌≡◌, ◌≢◌, ℕ, ◌<◌, ◌≤◌, ◌⊎◌, List, length, None, Some, true, false}
use Rattle.std.specs.List.{list_all}
use Rattle.session_values.specs.declared.value.Value.{Value}
use Rattle.handler_check.specs.File.{File}
use Rattle.handler_check.specs.Bounds.{adds_bound}
use Rattle.handler_check.specs.Resolved.{code_at, params_at}
use Rattle.text_lines.specs.Rows.{Row}
use Rattle.text_lines.specs.Text.{Text}
use Rattle.text_lines.specs.Values.{is_value, placed_all, values_of}
use Rattle.request_files.specs.Requests.{handler_of}
use Rattle.live_session.specs.declared.answers.Answered.{Answered}
use Rattle.live_session.specs.declared.answers.Answered.TheVariants as answered
use Rattle.live_session.specs.declared.answers.LineRefusal.TheVariants as rule
use Rattle.symbolic_ops.specs.declared.symbol.Symbol.{Symbol}
use Rattle.declaration_insertion.specs.Program.{ProgramView}
use Rattle.driven_tickets.specs.Commuting.{IsClear, IsHeldUpBy}
use Rattle.driven_tickets.specs.Desk.{TicketsView, last_number}
use Rattle.live_session.specs.Entries.{entry_list}
use Rattle.live_session.specs.Served.{line_fault}

-- why words aren't read over these names, of which there may be so many
abbrev pub IsUnread : List Text → ℕ → List Text → Answered → Type 0
IsUnread names most ws answered.Served = ⊥
IsUnread names most ws answered.Nothing = ⊥
IsUnread names most ws (answered.Refused rule.BadWord) = list_all is_value ws ≡ false
IsUnread names most ws (answered.Refused e) = ⊥
IsUnread names most ws answered.TooManyNames =
    (list_all is_value ws ≡ true) × (most < length (placed_all names ws))
IsUnread names most ws (answered.Delayed u) = ⊥
IsUnread names most ws answered.NoNumber = ⊥
IsUnread names most ws answered.NoMemory =
    (list_all is_value ws ≡ true) × (placed_all names ws ≢ names)

-- the row is accepted: it has no fault, its handler has this number, its symbols are placed, and
-- these are the values of its words
pub record IsAccepted (f : File) (names : List Text) (most : ℕ) (r : Row) (new : List Text)
    (args : List Value) (h : ℕ) : Type 0 where
  pub fine : line_fault names f r ≡ None
  pub handler : h ≡ handler_of names f r.name
  pub exists : h < length f.handlers
  pub params : length args ≡ params_at f h
  pub names_are : new ≡ placed_all names r.args
  pub few : length new ≤ most
  pub args_are : args ≡ values_of new r.args

-- the row's handler may add a key to some table, or a name of the row is new
abbrev pub TakesMemory : List Text → File → Row → Type 0
TakesMemory names f r =
    ((t : ℕ) × (0 < adds_bound t (code_at f (handler_of names f r.name))))
    ⊎ (placed_all names r.args ≢ names)

-- why a row isn't read
abbrev pub IsDeclined : File → List Text → ℕ → Row → Answered → Type 0
IsDeclined f names most r answered.Served = ⊥
IsDeclined f names most r answered.Nothing = ⊥
IsDeclined f names most r (answered.Refused e) = line_fault names f r ≡ Some e
IsDeclined f names most r answered.TooManyNames =
    (line_fault names f r ≡ None) × (most < length (placed_all names r.args))
IsDeclined f names most r (answered.Delayed u) = ⊥
IsDeclined f names most r answered.NoNumber = ⊥
IsDeclined f names most r answered.NoMemory =
    (line_fault names f r ≡ None) × TakesMemory names f r

-- what a row declares, whose symbols are placed
abbrev pub row_list : ProgramView → List Text → Row → List Symbol
row_list p names r = entry_list p (handler_of names p.file r.name)
    (values_of (placed_all names r.args) r.args)

-- it has no fault, and its names have room
abbrev pub IsReadable : ProgramView → List Text → ℕ → Row → Type 0
IsReadable p names most r =
    (line_fault names p.file r ≡ None) × (length (placed_all names r.args) ≤ most)

-- why a row isn't accepted: it isn't read, or it isn't let run
abbrev pub IsTurnedAway : ProgramView → TicketsView → List Text → ℕ → Row → Answered → Type 0
IsTurnedAway p k names most r answered.Served = ⊥
IsTurnedAway p k names most r answered.Nothing = ⊥
IsTurnedAway p k names most r (answered.Refused e) =
    IsDeclined p.file names most r (answered.Refused e)
IsTurnedAway p k names most r answered.TooManyNames =
    IsDeclined p.file names most r answered.TooManyNames
IsTurnedAway p k names most r (answered.Delayed u) =
    IsReadable p names most r × IsHeldUpBy k (row_list p names r) u
IsTurnedAway p k names most r answered.NoNumber =
    IsReadable p names most r × IsClear k (row_list p names r) × (k.next ≡ last_number)
IsTurnedAway p k names most r answered.NoMemory =
    IsDeclined p.file names most r answered.NoMemory
