-- Rows of a table part without a fault are entries with which tables may open.
use Rattle.std.proofs.Common.{◌≡◌, ℕ, zero, suc, ◌+◌, ◌<◌, ◌≤◌, ◌==◌, Bool, true, false, not, cond, nat_le, List, [], ◌∷◌, length, replicate, slice_get, Option, Some, None, refl, sym, ap, ◌∙◌, subst, arith}
use Rattle.std.proofs.lemmas.Bool.{eqb-true}
use Rattle.std.proofs.lemmas.Bool.Decides.{nat_tests}
use Rattle.std.proofs.lemmas.Option.{slice_get_within}
use Rattle.std.specs.List.{list_all, AllByRecursion}
use Rattle.std.specs.Option.{option_or}
use Rattle.session_journal.specs.Opening.{AreKept, IsOpening, IsPair, Pair, count_all, entries_of, has_key, with_entry}
use Rattle.session_journal.proofs.KeptLemmas.{empty_kept, is_opening, kept_with}
use Rattle.session_values.specs.Values.{IsValue}
use Rattle.session_values.specs.declared.value.Value.{Value}
use Rattle.handler_check.specs.TableDecl.{TableDecl}
use Rattle.text_lines.specs.Rows.{Row, names_behind}
use Rattle.text_lines.specs.Text.{Text}
use Rattle.text_lines.specs.Values.{is_value, placed_all, values_of}
use Rattle.text_lines.proofs.PrintableLemmas.{values_held}
use Rattle.table_lines.specs.Accepting.{Accepts, row_fault}
use Rattle.table_lines.specs.Opened.{entries_from, opened_by}
use Rattle.table_lines.specs.TableRows.{AreKnown, AreTables, arity, decl_fault, entries_for, first_table_fault, pair_in, pair_of, table_of, word_fault}
use Rattle.table_lines.specs.declared.refusal.TableRefusal.{TableRefusal}
use Rattle.table_lines.specs.declared.refusal.TableRefusal.TheVariants.{Arity, BadWord, Twice, TooManyEntries}
use Rattle.table_lines.proofs.EntryLemmas.{kinds}
use Rattle.table_lines.proofs.Going.{Going, going_end, going_fault, going_start, going_turn}
use Rattle.table_lines.proofs.OpenedLemmas.{opened_is}
use Rattle.file_laws.proofs.Room.{args_total, placed_room}

-- ---- a row without a fault

record FineRow (names : List Text) (decls : List TableDecl) (found : List (List Pair)) (r : Row) : Type 0 where
  decl : TableDecl
  few : count_all found < 100000
  at : slice_get decls (table_of names decls r.name) ≡ Some decl
  many : arity decl.kind ≡ length r.args
  values : list_all is_value r.args ≡ true
  new : has_key (entries_of found (table_of names decls r.name)) (pair_in (placed_all names r.args) r).0 ≡ false

few_of : (n : ℕ) → nat_le 100000 n ≡ false → n < 100000
few_of n e = grind (arith, nat_tests, e)

record FineWords (t : TableDecl) (ws : List Text) : Type 0 where
  many : arity t.kind ≡ length ws
  values : list_all is_value ws ≡ true

words_by : (t : TableDecl) (line : ℕ) (ws : List Text) (a b : Bool) → (arity t.kind == length ws) ≡ a → list_all is_value ws ≡ b → cond (not a) (Some (Arity line)) (cond (not b) (Some (BadWord line)) None) ≡ None → FineWords t ws
words_by t line ws true true ea eb h = record { many = eqb-true (arity t.kind) (length ws) ea; values = eb }
words_by t line ws true false ea eb h = cc
words_by t line ws false b ea eb h = cc

fine_words : (t : TableDecl) (line : ℕ) (ws : List Text) → word_fault t.kind line ws ≡ None → FineWords t ws
fine_words t line ws h = words_by t line ws (arity t.kind == length ws) (list_all is_value ws) refl refl h

or_none : (w u : Option TableRefusal) → option_or w u ≡ None → (w ≡ None) × (u ≡ None)
or_none None u h = (refl, h)
or_none (Some e) u h = cc

not_twice : (k : Bool) (line : ℕ) → cond k (Some (Twice line)) None ≡ None → k ≡ false
not_twice true line h = cc
not_twice false line h = refl

module _ (names : List Text) (decls : List TableDecl) (found : List (List Pair)) (r : Row) where
  abbrev seen : Bool
  seen = has_key (entries_of found (table_of names decls r.name)) (pair_in (placed_all names r.args) r).0

  by_parts : (a : Bool) (o : Option TableDecl) → nat_le 100000 (count_all found) ≡ a → slice_get decls (table_of names decls r.name) ≡ o → cond a (Some (TooManyEntries r.line)) (option_or (decl_fault o r.line r.args) (cond seen (Some (Twice r.line)) None)) ≡ None → FineRow names decls found r
  by_parts true o ea eo h = cc
  by_parts false None ea eo h = cc
  by_parts false (Some t) ea eo h =
      let both = or_none (word_fault t.kind r.line r.args) (cond seen (Some (Twice r.line)) None) h in
      let words = fine_words t r.line r.args both.0 in
      record { decl = t; few = few_of (count_all found) ea; at = eo; many = words.many; values = words.values; new = not_twice seen r.line both.1 }

  fine_row : row_fault names decls found r ≡ None → FineRow names decls found r
  unfolding row_fault
  fine_row h = by_parts (nat_le 100000 (count_all found)) (slice_get decls (table_of names decls r.name)) refl refl h

pair_held : (vs : List Value) → AllByRecursion IsValue vs → IsPair (pair_of vs)
pair_held [] h = (tt, tt)
pair_held (k ∷ []) h = (h.0, tt)
pair_held (k ∷ v ∷ vs) h = (h.0, h.1.0)

-- ---- all rows

module _ (old : List Text) (decls : List TableDecl) (rs0 : List Row) (known : AreKnown old decls) (fine : first_table_fault old decls [] rs0 ≡ None) where
  record Gone : Type 0 where
    names : List Text
    found : List (List Pair)
    going : Going old decls rs0 names [] found
    kept : AreKept found

  turn : (r : Row) (rs : List Row) (names : List Text) (found : List (List Pair)) → Going old decls rs0 names (r ∷ rs) found → AreKept found → length names + (length r.args + args_total rs) ≤ 4294967295 → FineRow names decls found r → row_fault names decls found r ≡ None
      → ((new : List Text) (next : List (List Pair)) → Going old decls rs0 new rs next → AreKept next → length new + args_total rs ≤ 4294967295 → Gone) → Gone
  turn r rs names found g k room f e on =
      let new : List Text = placed_all names r.args in
      let place : ℕ = table_of names decls r.name in
      let next : List (List Pair) = with_entry found place (pair_in new r) in
      let long = placed_room names r.args in
      let a : Accepts names new decls found next r = record {
        decl = f.decl;
        at = f.at;
        reads = record { many = f.many; values = f.values; pair_is = refl; names = refl };
        fine = e;
        is = refl;
      } in
      let there : place < length found = omega (arith, slice_get_within decls place f.decl f.at, g.many) in
      let held : IsPair (pair_in new r) = pair_held (values_of new r.args) (values_held names r.args new refl (omega (arith, long, room))) in
      on new next (going_turn old decls rs0 names r rs found new next known g a) (kept_with found place (pair_in new r) k there f.new held (omega (arith, f.few))) (omega (arith, long, room))

  go_on : (rs : List Row) (names : List Text) (found : List (List Pair)) → Going old decls rs0 names rs found → AreKept found → length names + args_total rs ≤ 4294967295 → Gone
  go_on [] names found g k room = record { names = names; found = found; going = g; kept = k }
  go_on (r ∷ rs) names found g k room = elim (row_fault names decls found r) as (λ o. row_fault names decls found r ≡ o → Gone) [
    | None ↦ λ e. turn r rs names found g k room (fine_row names decls found r e) e (go_on rs)
    | Some x ↦ λ e. absurd (let some : None ≡ Some x = sym fine ∙ going_fault old decls rs0 names r rs found x known g e in cc)
  ] refl

  -- the rows are entries that may open the tables
  pub record AreOpen : Type 0 where
    pub opens : IsOpening (kinds decls) (opened_by old (names_behind old rs0) decls rs0)
    pub tables : AreTables old (names_behind old rs0) decls rs0 (opened_by old (names_behind old rs0) decls rs0)

  opened_with : Gone → AreOpen
  opened_with w =
      let ended : AreTables old w.names decls rs0 w.found = going_end old decls rs0 w.names w.found w.going in
      let is : w.found ≡ opened_by old w.names decls rs0 = opened_is old w.names decls rs0 w.found ended in
      let opens : IsOpening (kinds decls) (opened_by old w.names decls rs0) = subst (IsOpening (kinds decls)) is (is_opening (kinds decls) w.found w.kept w.going.nil) in
      record {
        opens = subst (λ (ns : List Text). IsOpening (kinds decls) (opened_by old ns decls rs0)) ended.names opens;
        tables = subst (λ (ns : List Text). AreTables old ns decls rs0 (opened_by old ns decls rs0)) ended.names (subst (AreTables old w.names decls rs0) is ended);
      }

  pub are_open : length decls < 4294967296 → length old + args_total rs0 ≤ 4294967295 → AreOpen
  are_open few room = opened_with (go_on rs0 old (replicate (length decls) []) (going_start old decls rs0) (empty_kept (length decls) few) room)

-- ---- rows are entries, whatever they are
from_length : (old new : List Text) (decls : List TableDecl) (rs : List Row) (i n : ℕ) → length (entries_from old new decls rs i n) ≡ n
from_length old new decls rs i zero = refl
from_length old new decls rs i (suc n) = ap suc (from_length old new decls rs (i + 1) n)

from_at : (old new : List Text) (decls : List TableDecl) (rs : List Row) (i n j : ℕ) → j < n → entries_of (entries_from old new decls rs i n) j ≡ entries_for old new decls rs (i + j)
from_at old new decls rs i zero j h = absurd (omega (arith, h))
from_at old new decls rs i (suc n) zero h = ap (entries_for old new decls rs) (let e : i ≡ i + 0 = omega arith in e)
from_at old new decls rs i (suc n) (suc j) h = from_at old new decls rs (i + 1) n j (omega (arith, h)) ∙ ap (entries_for old new decls rs) (let e : i + 1 + j ≡ i + suc j = omega arith in e)

pub opened_length : (old new : List Text) (decls : List TableDecl) (rs : List Row) → length (opened_by old new decls rs) ≡ length decls
opened_length old new decls rs = from_length old new decls rs 0 (length decls)

pub opened_at : (old new : List Text) (decls : List TableDecl) (rs : List Row) (i : ℕ) → i < length decls → entries_of (opened_by old new decls rs) i ≡ entries_for old new decls rs i
opened_at old new decls rs i h = from_at old new decls rs 0 (length decls) i h ∙ ap (entries_for old new decls rs) (let e : 0 + i ≡ i = omega arith in e)
