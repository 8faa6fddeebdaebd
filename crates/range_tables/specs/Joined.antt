-- The symbols of a hold, while some parts are read and some are left. Only this crate's own
-- functions cite it.
use Rattle.std.specs.Prelude.{List, ◌++◌, Option, Some, None, Result, Ok, Err}
use Rattle.range_tables.specs.declared.range_symbol.RangeSymbol.{RangeSymbol}
use Rattle.range_tables.specs.declared.step.Flaw.{Flaw}
use Rattle.range_tables.specs.Steps.{sooner}

-- the flaw that is named, of one and those before it
abbrev pub flaw_with : Option Flaw → Flaw → Flaw
flaw_with None g = g
flaw_with (Some f) g = sooner f g

-- the outcome where these symbols were found, and this flaw, and the parts that are left have this
-- outcome
abbrev pub joined : List RangeSymbol → Option Flaw → Result (List RangeSymbol) Flaw
    → Result (List RangeSymbol) Flaw
joined front None (Ok more) = Ok (front ++ more)
joined front (Some f) (Ok more) = Err f
joined front flaw (Err g) = Err (flaw_with flaw g)
