-- Tables, and what one operation does to them.
use Rattle.std.specs.Prelude.{◌≡◌, ℕ, ℤ, pos, ◌<◌, ◌+ℤ◌, List, [], ◌∷◌, Bool, true, Option, Some, None, slice_get, slice_index_or, slice_set, if◌then◌else◌}
use Rattle.std.specs.Option.{unwrap_or}
use Rattle.std.specs.Int.{int_wrap, w64}
use Rattle.std.specs.FinMap as map
use Rattle.std.specs.FinSet as set
use Rattle.session_values.specs.declared.value.Value.{Value}
use Rattle.session_values.specs.declared.value.Value.TheVariants.{Nil, Num, Sym}
use Rattle.session_values.specs.declared.kind.TableKind.{TableKind}
use Rattle.session_values.specs.declared.kind.TableKind.TheVariants.{Map, Set}
use Rattle.session_values.specs.declared.kind.Kind.{Kind}
use Rattle.session_values.specs.declared.kind.Kind.TheVariants.{Get, Put, Swap, Del, Size, Bump, Has, Add, Mark, Drop, Count}
use Rattle.session_values.specs.declared.op.Op.{Op}
use Rattle.session_values.specs.Kinds.{arguments, home}
use Rattle.session_values.specs.Values.{value_cmp, IsValue}

-- the container of one table: the bindings of a map, or the members of a set
pub data Container : Type 0 where
  Bindings : map.FinMap value_cmp Value → Container
  Members : set.FinSet value_cmp → Container

-- the container of each table, by the tables' numbers
abbrev pub Tables : Type 0
Tables = List Container

-- an empty container of this kind
abbrev pub empty_of : TableKind → Container
empty_of Map = Bindings map.empty
empty_of Set = Members set.empty

-- tables of these kinds, in which every container is empty
abbrev pub start : List TableKind → Tables
start [] = []
start (kind ∷ shape) = empty_of kind ∷ start shape

-- 1 where it holds, else 0
abbrev pub bit : Bool → Value
bit b = if b then Num (pos 1) else Num (pos 0)

-- the sum modulo 2^64, in the range of i64
abbrev pub sum_in_range : ℤ → ℤ → ℤ
sum_in_range n d = int_wrap w64 (n +ℤ d)

-- what a key is bound to after a bump: by what isn't a number nothing changes. By a number it is
-- that number where the key was unbound, the sum where it was bound to a number, and else what it
-- was
abbrev pub bumped : Value → Option Value → Option Value
bumped Nil o = o
bumped (Sym p) o = o
bumped (Num d) None = Some (Num d)
bumped (Num d) (Some Nil) = Some Nil
bumped (Num d) (Some (Num n)) = Some (Num (sum_in_range n d))
bumped (Num d) (Some (Sym p)) = Some (Sym p)

-- a map in which the key is bound to this, or unbound
abbrev pub bound_to : map.FinMap value_cmp Value → Value → Option Value
    → map.FinMap value_cmp Value
bound_to m k (Some v) = map.insert m k v
bound_to m k None = map.remove m k

-- the reply of an operation on a map, which is nil for those on sets
abbrev pub map_reply : map.FinMap value_cmp Value → Kind → Value → Value
map_reply m Get k = unwrap_or (map.get m k) Nil
map_reply m Put k = Nil
map_reply m Swap k = unwrap_or (map.get m k) Nil
map_reply m Del k = Nil
map_reply m Size k = Num (pos (map.len m))
map_reply m Bump k = Nil
map_reply m Has k = Nil
map_reply m Add k = Nil
map_reply m Mark k = Nil
map_reply m Drop k = Nil
map_reply m Count k = Nil

-- the map after an operation, which those on sets leave as it was
abbrev pub map_after : map.FinMap value_cmp Value → Kind → Value → Value
    → map.FinMap value_cmp Value
map_after m Get k v = m
map_after m Put k v = map.insert m k v
map_after m Swap k v = map.insert m k v
map_after m Del k v = map.remove m k
map_after m Size k v = m
map_after m Bump k v = bound_to m k (bumped v (map.get m k))
map_after m Has k v = m
map_after m Add k v = m
map_after m Mark k v = m
map_after m Drop k v = m
map_after m Count k v = m

-- the reply of an operation on a set, which is nil for those on maps
abbrev pub set_reply : set.FinSet value_cmp → Kind → Value → Value
set_reply s Get k = Nil
set_reply s Put k = Nil
set_reply s Swap k = Nil
set_reply s Del k = Nil
set_reply s Size k = Nil
set_reply s Bump k = Nil
set_reply s Has k = bit (set.contains s k)
set_reply s Add k = if set.contains s k then Num (pos 0) else Num (pos 1)
set_reply s Mark k = Nil
set_reply s Drop k = Nil
set_reply s Count k = Num (pos (set.len s))

-- the set after an operation, which those on maps leave as it was
abbrev pub set_after : set.FinSet value_cmp → Kind → Value → set.FinSet value_cmp
set_after s Get k = s
set_after s Put k = s
set_after s Swap k = s
set_after s Del k = s
set_after s Size k = s
set_after s Bump k = s
set_after s Has k = s
set_after s Add k = set.insert s k
set_after s Mark k = set.insert s k
set_after s Drop k = set.remove s k
set_after s Count k = s

-- the reply of an operation on one container
abbrev pub reply_on : Container → Op → Value
reply_on (Bindings m) op = map_reply m op.kind op.key
reply_on (Members s) op = set_reply s op.kind op.key

-- one container after an operation. One that isn't of its kind stays
abbrev pub after_on : Container → Op → Container
after_on (Bindings m) op = Bindings (map_after m op.kind op.key op.value)
after_on (Members s) op = Members (set_after s op.kind op.key)

-- the container of a table. Past the last table there is an empty map, which no operation changes
abbrev pub table : Tables → ℕ → Container
table ts i = slice_index_or ts i (empty_of Map)

-- the reply of an operation
unfoldable pub reply : Tables → Op → Value
reply ts op = reply_on (table ts op.table) op

-- the tables after an operation
unfoldable pub step : Tables → Op → Tables
step ts op = slice_set ts op.table (after_on (table ts op.table) op)

-- the kind of a container
abbrev pub kind_of : Container → TableKind
kind_of (Bindings m) = Map
kind_of (Members s) = Set

-- the operation's table exists and has its kind of container, and its unused fields are nil
pub record Fits (shape : List TableKind) (op : Op) : Type 0 where
  pub table : slice_get shape op.table ≡ Some (home op.kind)
  pub key : arguments op.kind < 1 → op.key ≡ Nil
  pub value : arguments op.kind < 2 → op.value ≡ Nil

-- how many keys or members a container has
abbrev pub size_of : Container → ℕ
size_of (Bindings m) = map.len m
size_of (Members s) = set.len s

-- a program can hold all keys and values
abbrev pub AreValues : Container → Type 0
AreValues (Bindings m) = (k v : Value) → map.get m k ≡ Some v → IsValue k × IsValue v
AreValues (Members s) = (k : Value) → set.contains s k ≡ true → IsValue k
