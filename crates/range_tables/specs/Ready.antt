-- Symbols and steps that the one map can take. Only this crate's own functions cite it.
use Rattle.std.specs.Prelude.{◌≡◌, true, List, Option, Some, None}
use Rattle.std.specs.List.{AllByRecursion}
use Rattle.session_values.specs.declared.kind.TableKind.TheVariants.{Map}
use Rattle.session_values.specs.Kinds.{home, is_keyed}
use Rattle.symbolic_ops.specs.Matching.{HasNoVar, IsNoVar}
use Rattle.range_tables.specs.declared.range_symbol.RangeSymbol.{RangeSymbol}
use Rattle.range_tables.specs.declared.range_symbol.RangeSymbol.TheVariants.{Plain, Span, Within}
use Rattle.range_tables.specs.Tables.{IsOnFirst}
use Rattle.range_tables.specs.declared.step.Step.{Step}
use Rattle.range_tables.specs.declared.step.Step.TheVariants.{Hold, Free, Do}

-- the symbol is one of operations on map 0, without a variable
abbrev pub IsReady : RangeSymbol → Type 0
IsReady (Plain s) = HasNoVar s × (home s.kind ≡ Map) × (s.table ≡ 0)
IsReady (Span kind i low high value) = (home kind ≡ Map) × (is_keyed kind ≡ true) × IsNoVar value
    × (i ≡ 0)
IsReady (Within i low high) = i ≡ 0

abbrev pub IsReadyHold : Option (List RangeSymbol) → Type 0
IsReadyHold None = Unit {0}
IsReadyHold (Some symbols) = AllByRecursion IsReady symbols

abbrev pub IsReadyStep : Step → Type 0
IsReadyStep (Hold symbols) = AllByRecursion IsReady symbols
IsReadyStep (Free n) = Unit {0}
IsReadyStep (Do op) = IsOnFirst op
