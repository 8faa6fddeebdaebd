-- Events of which can be found out whether they are allowed.
use Rattle.session_values.specs.Op.{IsHeld}
use Rattle.symbolic_ops.specs.Symbol.{IsHeldSymbol}
use Rattle.symbolic_ops.specs.Matching.{HasNoVar}
use Rattle.session_journal.specs.declared.event.Event.{Event}
use Rattle.session_journal.specs.declared.event.Event.TheVariants.{Begin, Done, Delay, End}

-- a program can hold a delayed operation and its symbol, which has no variable
abbrev pub CanBeJudged : Event → Type 0
CanBeJudged (Begin t c) = Unit {0}
CanBeJudged (Done t op v) = Unit {0}
CanBeJudged (Delay t op older s) = HasNoVar s × IsHeld op × IsHeldSymbol s
CanBeJudged (End t r) = Unit {0}
