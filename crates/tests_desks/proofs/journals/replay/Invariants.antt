use Rattle.std.proofs.Common.{◌≡◌, [], ◌∷◌, map}
use Rattle.session_values.specs.declared.kind.TableKind.TheVariants.{Map}
use Rattle.session_values.specs.Tables.{kind_of}
use Rattle.tests_desks.proofs.journals.replay.Given as goal

abbrev pub invariant-loop-event : goal.invariant-loop-event
invariant-loop-event g l = map kind_of l.tables ≡ Map ∷ []
