use Rattle.std.proofs.Common.{◌≡◌, [], ◌∷◌, map}
use Rattle.session_values.specs.declared.kind.TableKind.TheVariants.{Map}
use Rattle.session_values.specs.Tables.{kind_of}
use Rattle.tests_threads.proofs.four_callers.replay_on.Given as goal

abbrev pub invariant-loop-call : goal.invariant-loop-call
invariant-loop-call g l = map kind_of l.tables ≡ Map ∷ []
