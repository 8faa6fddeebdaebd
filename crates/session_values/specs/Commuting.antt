-- When two operations commute: the definition by what they do, which looks at all tables.
use Rattle.std.specs.Prelude.{◌≡◌}
use Rattle.session_values.specs.declared.op.Op.{Op}
use Rattle.session_values.specs.Tables.{Tables, reply, step}

-- at these tables both orders of a and b give the same tables, and each the same reply
pub record Swaps (ts : Tables) (a b : Op) : Type 0 where
  pub tables : step (step ts a) b ≡ step (step ts b) a
  pub first : reply ts a ≡ reply (step ts b) a
  pub second : reply (step ts a) b ≡ reply ts b

-- a and b commute: they do at all tables
pub record Commute (a b : Op) : Type 0 where
  pub at : (ts : Tables) → Swaps ts a b
