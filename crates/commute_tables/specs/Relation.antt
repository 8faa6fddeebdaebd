-- Which operations commute, told by kinds, tables, keys and values. Each rule is over whole
-- operations. Only this crate's own functions and those of `range_tables` cite it.
use Rattle.std.specs.Prelude.{pos, Bool, true, false, not, ◌&&◌, ◌||◌, ◌==◌}
use Rattle.session_values.specs.declared.op.Op.{Op}
use Rattle.session_values.specs.declared.kind.Kind.{Kind}
use Rattle.session_values.specs.declared.value.Value.{Value}
use Rattle.session_values.specs.declared.value.Value.TheVariants.{Nil, Num, Sym}
use Rattle.session_values.specs.Values.{value_eq}
use Rattle.session_values.specs.Kinds.{is_keyed, is_on_map, is_plain, is_read, kind_place}
use Rattle.symbolic_ops.specs.declared.arg.Arg.{Arg}
use Rattle.symbolic_ops.specs.declared.arg.Arg.TheVariants.{Known, Var, Any}
use Rattle.symbolic_ops.specs.declared.symbol.Symbol.{Symbol}

-- both hold, or neither does
abbrev pub same_bool : Bool → Bool → Bool
same_bool true b = b
same_bool false b = not b

-- ---- bumps, which add up whatever their order
abbrev pub is_put : Kind → Bool
is_put kind = kind_place kind == 1

abbrev pub is_bump : Kind → Bool
is_bump kind = kind_place kind == 5

abbrev pub is_number : Value → Bool
is_number Nil = false
is_number (Num n) = true
is_number (Sym p) = false

abbrev pub is_zero : Value → Bool
is_zero v = value_eq (Num (pos 0)) v

-- of two kinds, each with whether its value is a number and whether it is 0: both are bumps, or one
-- is a bump by no number, or one is a put and the other a bump, where the bump is by 0 or what is
-- put is no number
abbrev pub add_up : Kind → Bool → Bool → Kind → Bool → Bool → Bool
add_up x number_x zero_x y number_y zero_y =
    (is_bump x && is_bump y)
    || (is_bump x && not number_x)
    || (is_bump y && not number_y)
    || (is_bump x && is_put y && (zero_x || not number_y))
    || (is_put x && is_bump y && (not number_x || zero_y))

abbrev pub sums : Op → Op → Bool
sums a b = add_up a.kind (is_number a.value) (is_zero a.value) b.kind (is_number b.value)
    (is_zero b.value)

-- ---- the rule
-- the operations are of different containers, or change nothing, or have different keys, or are one
-- plain change, or add up
abbrev pub commutes : Op → Op → Bool
commutes a b =
    not (a.table == b.table)
    || not (same_bool (is_on_map a.kind) (is_on_map b.kind))
    || (is_read a.kind && is_read b.kind)
    || (is_keyed a.kind && is_keyed b.kind && not (value_eq a.key b.key))
    || (is_plain a.kind && (kind_place a.kind == kind_place b.kind) && value_eq a.key b.key
    && (not (kind_place a.kind == 1) || value_eq a.value b.value))
    || sums a b

-- ---- against a symbol
-- the argument is a known value other than v
abbrev pub is_apart : Value → Arg → Bool
is_apart v (Known w) = not (value_eq v w)
is_apart v (Var x) = false
is_apart v Any = false

-- the argument is known to be v
abbrev pub is_same : Value → Arg → Bool
is_same v (Known w) = value_eq v w
is_same v (Var x) = false
is_same v Any = false

-- the argument may be a number
abbrev pub may_be_number : Arg → Bool
may_be_number (Known w) = is_number w
may_be_number (Var x) = true
may_be_number Any = true

abbrev pub sums_symbol : Op → Symbol → Bool
sums_symbol a s = add_up a.kind (is_number a.value) (is_zero a.value) s.kind (may_be_number s.value)
    (is_same (Num (pos 0)) s.value)

-- the symbol is of another container, or both change nothing, or the keys are known to differ, or
-- both are one plain change whatever the key, or they add up whatever the key
abbrev pub commutes_symbol : Op → Symbol → Bool
commutes_symbol a s =
    not (a.table == s.table)
    || not (same_bool (is_on_map a.kind) (is_on_map s.kind))
    || (is_read a.kind && is_read s.kind)
    || (is_keyed a.kind && is_keyed s.kind && is_apart a.key s.key)
    || (is_plain a.kind && (kind_place a.kind == kind_place s.kind)
    && (not (kind_place a.kind == 1) || is_same a.value s.value))
    || sums_symbol a s

-- ---- two symbols
-- the arguments are known values that differ
abbrev pub are_apart : Arg → Arg → Bool
are_apart (Known v) arg = is_apart v arg
are_apart (Var x) arg = false
are_apart Any arg = false

-- the arguments are known to be one value
abbrev pub are_same : Arg → Arg → Bool
are_same (Known v) arg = is_same v arg
are_same (Var x) arg = false
are_same Any arg = false

abbrev pub sums_symbols : Symbol → Symbol → Bool
sums_symbols s t = add_up s.kind (may_be_number s.value) (is_same (Num (pos 0)) s.value) t.kind
    (may_be_number t.value) (is_same (Num (pos 0)) t.value)

-- the symbols are of different containers, or both change nothing, or the keys are known to differ,
-- or both are one plain change whatever the keys, or they add up whatever the keys
abbrev pub commutes_symbols : Symbol → Symbol → Bool
commutes_symbols s t =
    not (s.table == t.table)
    || not (same_bool (is_on_map s.kind) (is_on_map t.kind))
    || (is_read s.kind && is_read t.kind)
    || (is_keyed s.kind && is_keyed t.kind && are_apart s.key t.key)
    || (is_plain s.kind && (kind_place s.kind == kind_place t.kind)
    && (not (kind_place s.kind == 1) || are_same s.value t.value))
    || sums_symbols s t
