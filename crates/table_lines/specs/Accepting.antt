-- What reading one line comes to, where entries were found before. Only this crate's own functions
-- cite it.
use Rattle.std.specs.Prelude.{◌≡◌, ℕ, true, if◌then◌else◌, nat_le, List, length, slice_get, Option}
use Rattle.std.specs.Prelude.{Some, None}
use Rattle.std.specs.List.{list_all}
use Rattle.std.specs.Option.{option_or}
use Rattle.session_values.specs.OpeningLimits.{max_table_lines}
use Rattle.session_values.specs.Opening.{Pair, count_all, entries_of, has_key, with_entry}
use Rattle.session_values.specs.declared.kind.TableKind.{TableKind}
use Rattle.syntax_trees.specs.declared.file.TableDecl.{TableDecl}
use Rattle.text_lines.specs.Rows.{Row}
use Rattle.text_lines.specs.Text.{Text}
use Rattle.text_lines.specs.Values.{is_value, placed_all, values_of}
use Rattle.table_lines.specs.declared.refusal.TableRefusal.{TableRefusal}
use Rattle.table_lines.specs.declared.refusal.TableRefusal.TheVariants.{Twice, TooManyEntries}
use Rattle.table_lines.specs.TableRows.{arity, decl_fault, pair_in, pair_of, table_of}

-- the words are as many as the kind asks for, each is a value, and this is their entry
pub record Reads (old new : List Text) (kind : TableKind) (ws : List Text)
    (pair : Pair) : Type 0 where
  pub many : arity kind ≡ length ws
  pub values : list_all is_value ws ≡ true
  pub pair_is : pair ≡ pair_of (values_of new ws)
  pub names : new ≡ placed_all old ws

-- the fault of a row of this table, where these entries were found before it, and these are the
-- names behind its words
abbrev pub fault_at : ℕ → List Text → List TableDecl → List (List Pair) → Row
    → Option TableRefusal
fault_at t new tables found r =
    if nat_le max_table_lines (count_all found) then Some (TooManyEntries r.line)
    else option_or (decl_fault (slice_get tables t) r.line r.args)
    (if has_key (entries_of found t) (pair_in new r).0 then Some (Twice r.line) else None)

-- the fault of a row, where these entries were found before it
unfoldable pub row_fault : List Text → List TableDecl → List (List Pair) → Row
    → Option TableRefusal
row_fault names tables found r =
    fault_at (table_of names tables r.name) (placed_all names r.args) tables found r

-- the row has no fault, and its entry goes behind those of its table
pub record Accepts (old new : List Text) (tables : List TableDecl) (found next : List (List Pair))
    (r : Row) : Type 0 where
  pub decl : TableDecl
  pub at : slice_get tables (table_of old tables r.name) ≡ Some decl
  pub reads : Reads old new decl.kind r.args (pair_in new r)
  pub fine : row_fault old tables found r ≡ None
  pub is : next ≡ with_entry found (table_of old tables r.name) (pair_in new r)
