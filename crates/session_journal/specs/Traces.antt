-- What contracts see of a trace.
use Rattle.std.specs.Prelude.{ℕ, List}
use Rattle.session_journal.specs.Matching.{HasNoVar}
use Rattle.session_journal.specs.declared.event.Event.{Event}
use Rattle.session_journal.specs.declared.event.Event.TheVariants.{Begin, Done, Delay, End}

-- the most events of a trace
abbrev pub max_events : ℕ
max_events = 440000

-- the symbol of a Delay has no variable
abbrev pub HasKnownSymbol : Event → Type 0
HasKnownSymbol (Begin t c) = Unit {0}
HasKnownSymbol (Done t op v) = Unit {0}
HasKnownSymbol (Delay t op older s) = HasNoVar s
HasKnownSymbol (End t r) = Unit {0}

-- the events, and the line of each
pub record TraceView : Type 0 where
  pub events : List Event
  pub lines : List ℕ
