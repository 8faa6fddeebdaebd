-- The events of the test of lines can be written.
use Rattle.std.proofs.Common.{◌≡◌, [], ◌∷◌, codes, Some, arith}
use Rattle.std.proofs.lemmas.Option.{none-some}
use Rattle.session_values.specs.Names.{IsNamed}
use Rattle.session_values.specs.declared.value.Value.TheVariants.{Sym}
use Rattle.symbolic_ops.specs.declared.arg.Arg.TheVariants.{Known}
use Rattle.tests_traces.specs.Lines.{two_names}
use Rattle.trace_lines.specs.EventText.{CanWriteArg, HasTable}

pub table_there : HasTable two_names (0 ∷ []) 0
table_there = record { exists = omega arith; named = record { text = codes "m"; at = refl_at; short = omega arith } }
  where
    refl_at : Some (codes "m") ≡ Some (codes "m")
    refl_at = cc

pub symbol_there : IsNamed two_names 1
symbol_there = record { text = codes "x"; at = refl_at; short = omega arith }
  where
    refl_at : Some (codes "x") ≡ Some (codes "x")
    refl_at = cc

pub no_name : CanWriteArg two_names (Known (Sym 2))
no_name = λ text e. absurd (none-some text e)
