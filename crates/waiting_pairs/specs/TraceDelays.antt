-- The delays of a trace.
use Rattle.std.specs.Prelude.{List, Option, Some, None}
use Rattle.std.specs.List.{filter_map}
use Rattle.session_journal.specs.declared.event.Event.{Event}
use Rattle.session_journal.specs.declared.event.Event.TheVariants as event
use Rattle.waiting_pairs.specs.declared.delay.Delay.{Delay}

-- the delay that an event is, if it is one
abbrev pub delay_of : Event → Option Delay
delay_of (event.Begin t c) = None
delay_of (event.Done t op v) = None
delay_of (event.Delay t op older s) =
    Some (record { ticket = t; operation = op; older = older; symbol = s })
delay_of (event.End t r) = None

-- those of a trace's events, the earliest first
abbrev pub delays : List Event → List Delay
delays = filter_map delay_of
