-- Which operations commute, told by kinds, tables, keys, ranges and values. Only this crate's own
-- functions cite it.
use Rattle.std.specs.Prelude.{ℕ, ℤ, Bool, true, false, not, ◌&&◌, ◌||◌, ◌==◌, cond, int_le, nat_lt}
use Rattle.session_values.specs.declared.kind.Kind.{Kind}
use Rattle.session_values.specs.declared.value.Value.{Value}
use Rattle.session_values.specs.declared.value.Value.TheVariants.{Nil, Num, Sym}
use Rattle.session_values.specs.declared.op.Op.{Op}
use Rattle.session_values.specs.Kinds.{arguments, is_on_map, is_read}
use Rattle.symbolic_ops.specs.declared.arg.Arg.{Arg}
use Rattle.symbolic_ops.specs.declared.arg.Arg.TheVariants.{Known, Var, Any}
use Rattle.symbolic_ops.specs.declared.symbol.Symbol.{Symbol}
use Rattle.commute_tables.specs.Relation.{commutes, commutes_symbol, is_bump, is_number, may_be_number}
use Rattle.range_tables.specs.declared.range_op.RangeOp.{RangeOp}
use Rattle.range_tables.specs.declared.range_op.RangeOp.TheVariants.{Plain, Between}
use Rattle.range_tables.specs.declared.range_symbol.RangeSymbol.{RangeSymbol}
use Rattle.range_tables.specs.declared.range_symbol.RangeSymbol.TheVariants.{Plain as PlainSymbol, Span, Within}
use Rattle.range_tables.specs.Ranges.{is_between}

-- an operation of this kind, whose value is a number or isn't, changes nothing: it only reads, or
-- is a bump by no number
abbrev pub changes_nothing : Kind → Bool → Bool
changes_nothing kind number = is_read kind || (is_bump kind && not number)

-- an operation and a count: of different containers, or the operation changes nothing, or its key
-- isn't counted
abbrev pub commutes_count : Op → Bool → ℤ → ℤ → Bool
commutes_count op same low high =
    not same || not (is_on_map op.kind) || changes_nothing op.kind (is_number op.value)
    || not (is_between low high op.key)

abbrev pub range_commutes : RangeOp → RangeOp → Bool
range_commutes (Plain a) (Plain b) = commutes a b
range_commutes (Plain a) (Between i low high) = commutes_count a (a.table == i) low high
range_commutes (Between i low high) (Plain b) = commutes_count b (b.table == i) low high
range_commutes (Between i low high) (Between j l h) = true

-- ---- against a symbol
abbrev pub is_nil : Value → Bool
is_nil Nil = true
is_nil (Num x) = false
is_nil (Sym place) = false

-- some operation of the kind has a value that agrees: where the kind has no value, nil does
abbrev pub has_value : Kind → Arg → Bool
has_value kind (Known v) = nat_lt 1 (arguments kind) || is_nil v
has_value kind (Var x) = false
has_value kind Any = true

-- the value of an operation of the kind: nil where the kind has none
abbrev pub value_for : Kind → Arg → Arg
value_for kind value = cond (nat_lt 1 (arguments kind)) value (Known Nil)

-- of the keys in a range, the one nearest to v: v itself, or else the lowest
abbrev pub nearest : ℤ → ℤ → Value → Value
nearest low high v = cond (is_between low high v) v (Num low)

-- a span against an operation is as good as one of its keys: the operation's own, or the lowest
abbrev pub one_key : Op → Kind → ℕ → ℤ → ℤ → Arg → Symbol
one_key a kind i low high value = record {
  kind = kind;
  table = i;
  key = Known (nearest low high a.key);
  value = value_for kind value;
}

-- some key of a range is a number that the argument agrees with
abbrev pub meets : ℤ → ℤ → Arg → Bool
meets low high (Known v) = is_between low high v
meets low high (Var x) = false
meets low high Any = int_le low high

-- two ranges have a key in common
abbrev pub ranges_meet : ℤ → ℤ → ℤ → ℤ → Bool
ranges_meet low high l h = int_le low high && int_le l h && int_le low h && int_le l high

abbrev pub range_commutes_symbol : RangeOp → RangeSymbol → Bool
range_commutes_symbol (Plain a) (PlainSymbol s) = commutes_symbol a s
range_commutes_symbol (Plain a) (Span kind i low high value) =
    not (int_le low high) || not (has_value kind value)
    || commutes_symbol a (one_key a kind i low high value)
range_commutes_symbol (Plain a) (Within i low high) = commutes_count a (a.table == i) low high
range_commutes_symbol (Between j l h) (PlainSymbol s) =
    not (s.table == j) || not (is_on_map s.kind)
    || changes_nothing s.kind (may_be_number s.value) || not (meets l h s.key)
range_commutes_symbol (Between j l h) (Span kind i low high value) =
    not (i == j) || changes_nothing kind (may_be_number value) || not (has_value kind value)
    || not (ranges_meet low high l h)
range_commutes_symbol (Between j l h) (Within i low high) = true
