-- Which tables a list of symbols touches. Only this crate's own functions cite it.
use Rattle.std.specs.Prelude.{◌≡◌, ℕ, ◌+◌, ◌%◌, true, false, cond, replicate, slice_index_or}
use Rattle.session_values.specs.declared.kind.Kind.{Kind}
use Rattle.session_values.specs.Kinds.{is_read}
use Rattle.symbolic_ops.specs.declared.symbol.Symbol.{Symbol}
use Rattle.admission_book.specs.declared.touched_tables.TouchedTables.{TouchedTables}

-- the place of a table's mark: the remainder of its number by 8, where it is read, and 8 more where
-- it is changed
abbrev pub mark_of : Kind → ℕ → ℕ
mark_of kind table = table % 8 + cond (is_read kind) 0 8

-- no mark is set
abbrev pub no_tables : TouchedTables
no_tables = record { marks = replicate 16 false }

-- the mark of the symbol's table is set
abbrev pub IsTouched : TouchedTables → Symbol → Type 0
IsTouched t s = slice_index_or t.marks (mark_of s.kind s.table) false ≡ true
