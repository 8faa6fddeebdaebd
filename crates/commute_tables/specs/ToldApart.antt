-- Tables at which the two orders of operations can be told apart.
use Rattle.std.specs.Prelude.{◌≡◌, ◌⊎◌, List, map, pos, slice_set}
use Rattle.std.specs.List.{AllByRecursion}
use Rattle.std.specs.FinMap as finmap
use Rattle.std.specs.FinSet as finset
use Rattle.session_values.specs.declared.kind.TableKind.{TableKind}
use Rattle.session_values.specs.declared.op.Op.{Op}
use Rattle.session_values.specs.Commuting.{Swaps}
use Rattle.session_values.specs.declared.value.Value.{Value}
use Rattle.session_values.specs.declared.value.Value.TheVariants.{Num}
use Rattle.session_values.specs.Tables.{Container, Bindings, Members, Tables, Fits, AreValues, empty_of, kind_of, start}
use Rattle.session_values.specs.Values.{IsValue}

-- a container that tells of operations with this key: the empty one of a kind, the key bound to 0
-- or to 1, or the key a member
pub data IsTelling (k : Value) : Container → Type 0 where
  Empty : (kind : TableKind) → IsTelling k (empty_of kind)
  Zero : IsTelling k (Bindings (finmap.insert finmap.empty k (Num (pos 0))))
  One : IsTelling k (Bindings (finmap.insert finmap.empty k (Num (pos 1))))
  Member : IsTelling k (Members (finset.insert finset.empty k))

-- tables of these kinds, whose values a program can hold if it can hold the keys, at which the two
-- orders of a and b can be told apart: all are empty but theirs, which is one that tells
pub record ToldApart (shape : List TableKind) (a b : Op) : Type 0 where
  pub tables : Tables
  pub container : Container
  pub telling : IsTelling a.key container ⊎ IsTelling b.key container
  pub state : tables ≡ slice_set (start shape) a.table container
  pub kinds : map kind_of tables ≡ shape
  pub values : IsValue a.key → IsValue b.key → AllByRecursion AreValues tables
  pub differ : Swaps tables a b → ⊥

-- a and b don't commute: among any tables that both fit there are some that tell
pub record Differ (a b : Op) : Type 0 where
  pub at : (shape : List TableKind) → Fits shape a → Fits shape b → ToldApart shape a b

-- a and b commute at all tables of these kinds whose values a program can hold
pub record CommuteAt (shape : List TableKind) (a b : Op) : Type 0 where
  pub at : (ts : Tables) → map kind_of ts ≡ shape → AllByRecursion AreValues ts → Swaps ts a b
