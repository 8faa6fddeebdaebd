use Rattle.std.proofs.Common.{◌≡◌, [], ◌∷◌, map}
use Rattle.session_values.specs.declared.kind.TableKind.TheVariants.{Map, Set}
use Rattle.session_values.specs.Tables.{kind_of}
use Rattle.tests_tables.proofs.shards.reply_alike.Given as goal

-- the kinds stay
abbrev pub invariant-loop-i : goal.invariant-loop-i
invariant-loop-i g l = map kind_of l.plain ≡ Map ∷ Set ∷ []
