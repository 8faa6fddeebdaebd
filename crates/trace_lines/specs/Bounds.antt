-- Events that a program can hold.
use Rattle.std.specs.Prelude.{◌<◌, ◌^◌}
use Rattle.session_values.specs.Op.{IsHeld}
use Rattle.session_values.specs.Reply.{IsHeldReply}
use Rattle.session_values.specs.Values.{IsValue}
use Rattle.symbolic_ops.specs.Symbol.{IsHeldSymbol}
use Rattle.session_journal.specs.declared.event.Event.{Event}
use Rattle.session_journal.specs.declared.event.Event.TheVariants.{Begin, Done, Delay, End}

-- tickets and callers have 32 bits, and a program can hold what is told
abbrev pub IsHeldEvent : Event → Type 0
IsHeldEvent (Begin t c) = (t < 2 ^ 32) × (c < 2 ^ 32)
IsHeldEvent (Done t op v) = (t < 2 ^ 32) × IsHeld op × IsValue v
IsHeldEvent (Delay t op older s) = (t < 2 ^ 32) × (older < 2 ^ 32) × IsHeld op × IsHeldSymbol s
IsHeldEvent (End t r) = (t < 2 ^ 32) × IsHeldReply r
