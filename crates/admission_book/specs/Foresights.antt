-- What a record knows of what its ticket may still call. Only this crate's own functions cite it.
use Rattle.std.specs.Prelude.{◌≡◌, ◌≤◌, List, [], ◌++◌, Option, Some, None, length, drop, replicate}
use Rattle.std.specs.List.{AllByRecursion}
use Rattle.session_values.specs.Limits.{max_symbols, max_variables}
use Rattle.session_values.specs.declared.value.Value.{Value}
use Rattle.session_values.specs.declared.value.Value.TheVariants.{Nil}
use Rattle.symbolic_ops.specs.declared.symbol.Symbol.{Symbol}
use Rattle.symbolic_ops.specs.Foresight.{ForesightView}
use Rattle.session_journal.specs.declared.site.Site.{Site}
use Rattle.session_journal.specs.Script.{HasSite, Meaning, declared_with}
use Rattle.admission_book.specs.declared.touched_tables.TouchedTables.{TouchedTables}
use Rattle.admission_book.specs.Touched.{IsTouched, no_tables}

-- a list; or the site at which the script declares it, and then the values of the site's variables
-- come first; the tables that its symbols touch
pub record MarkedView : Type 0 where
  pub list : ForesightView
  pub site : Option Site
  pub values : List Value
  pub touched : TouchedTables

-- no symbols, with room for any foresight
abbrev pub no_foresight : MarkedView
no_foresight = record {
  list = record { symbols = []; room = max_symbols };
  site = None;
  values = replicate max_variables Nil;
  touched = no_tables;
}

abbrev pub symbols_at : Meaning → Option Site → List Value → List Symbol → List Symbol
symbols_at m None values list = list
symbols_at m (Some s) values list = declared_with m s values

-- its symbols: what the script declares at its site, or else its list
abbrev pub symbols_of : Meaning → MarkedView → List Symbol
symbols_of m f = symbols_at m f.site f.values f.list.symbols

-- there is room for any list, a site is one of the script's, and each symbol touches a marked table
pub record KeepsForesight (m : Meaning) (f : MarkedView) : Type 0 where
  pub room : max_symbols ≤ f.list.room
  pub site : (s : Site) → f.site ≡ Some s → HasSite m s max_variables
  pub touched : AllByRecursion (λ s. IsTouched f.touched s) (symbols_of m f)

-- these are its symbols
pub record IsKnown (m : Meaning) (f : MarkedView) (symbols : List Symbol) : Type 0 where
  pub is : symbols_of m f ≡ symbols
  pub kept : KeepsForesight m f

-- with these first values
abbrev pub with_values : List Value → List Value → List Value
with_values held values = values ++ drop (length values) held

-- with what is declared at a site with these values in place of its symbols
abbrev pub at_site : MarkedView → Site → List Value → MarkedView
at_site f s values = record {
  list = f.list;
  site = Some s;
  values = with_values f.values values;
  touched = f.touched;
}
