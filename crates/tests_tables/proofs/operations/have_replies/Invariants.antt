use Rattle.std.proofs.Common.{◌≡◌, [], ◌∷◌, map}
use Rattle.session_values.specs.declared.kind.TableKind.TheVariants.{Map, Set}
use Rattle.session_values.specs.Tables.{kind_of}
use Rattle.tests_tables.proofs.operations.have_replies.Given as goal

-- the kinds stay
abbrev pub invariant-loop-case : goal.invariant-loop-case
invariant-loop-case g l = map kind_of l.tables ≡ Map ∷ Set ∷ Map ∷ Set ∷ []
