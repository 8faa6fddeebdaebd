-- The fault of a row, test by test.
use Rattle.std.proofs.Common.{◌≡◌, ◌≢◌, ℕ, ◌<◌, ◌≤◌, Bool, true, false, not, cond, nat_le, List, length, slice_get, Option, Some, None, Result, Err, refl, sym, ◌∙◌, ap, subst, arith}
use Rattle.std.proofs.lemmas.Bool.Decides.{nat_tests}
use Rattle.std.proofs.lemmas.Bool.{eq-eqb}
use Rattle.std.proofs.lemmas.Option.{slice_get_past}
use Rattle.std.specs.List.{list_all}
use Rattle.std.specs.Option.{option_or}
use Rattle.session_values.specs.Opening.{Pair, count_all, entries_of, has_key, with_entry}
use Rattle.session_values.specs.declared.kind.TableKind.{TableKind}
use Rattle.syntax_trees.specs.declared.file.TableDecl.{TableDecl}
use Rattle.text_lines.specs.Rows.{Row}
use Rattle.text_lines.specs.Text.{Text}
use Rattle.text_lines.specs.Values.{is_value, placed_all}
use Rattle.table_lines.specs.Accepting.{Accepts, Reads, row_fault}
use Rattle.table_lines.specs.TableRows.{arity, decl_fault, pair_in, table_of, word_fault}
use Rattle.table_lines.specs.declared.refusal.TableRefusal.{TableRefusal}
use Rattle.table_lines.specs.declared.refusal.TableRefusal.TheVariants.{UnknownTable, Arity, BadWord, Twice, TooManyEntries, NoMemory}

-- words that were read have no fault
pub fine_words : (old new : List Text) (kind : TableKind) (ws : List Text) (p : Pair) (line : ℕ) → Reads old new kind ws p → word_fault kind line ws ≡ None
fine_words old new kind ws p line r =
    ap (λ (b : Bool). cond (not b) (Some (Arity line)) (cond (not (list_all is_value ws)) (Some (BadWord line)) None)) (eq-eqb (arity kind) (length ws) r.many)
    ∙ ap (λ (b : Bool). cond (not b) (Some (BadWord line)) None) r.values

module _ (names : List Text) (tables : List TableDecl) (found : List (List Pair)) (r : Row) where
  abbrev place : ℕ
  place = table_of names tables r.name

  abbrev seen : Bool
  seen = has_key (entries_of found place) (pair_in (placed_all names r.args) r).0

  abbrev by : Bool → Option TableRefusal → Bool → Option TableRefusal
  by a w k = cond a (Some (TooManyEntries r.line)) (option_or w (cond k (Some (Twice r.line)) None))

  fault_by : (a : Bool) (w : Option TableRefusal) (k : Bool) → nat_le 100000 (count_all found) ≡ a → decl_fault (slice_get tables place) r.line r.args ≡ w → seen ≡ k → row_fault names tables found r ≡ by a w k
  unfolding row_fault
  fault_by a w k ea ew ek = ap (λ (x : Bool). by x (decl_fault (slice_get tables place) r.line r.args) seen) ea ∙ ap (λ (x : Option TableRefusal). by a x seen) ew ∙ ap (by a w) ek

  pub fault_many : 100000 ≤ count_all found → row_fault names tables found r ≡ Some (TooManyEntries r.line)
  fault_many h = fault_by true _ _ (grind (arith, nat_tests)) refl refl

  few : count_all found < 100000 → nat_le 100000 (count_all found) ≡ false
  few h = grind (arith, nat_tests)

  pub fault_unknown : count_all found < 100000 → length tables ≤ place → row_fault names tables found r ≡ Some (UnknownTable r.line)
  fault_unknown h l = fault_by false (Some (UnknownTable r.line)) _ (few h) (ap (λ (o : Option TableDecl). decl_fault o r.line r.args) (slice_get_past tables place l)) refl

  pub fault_words : (t : TableDecl) (e : TableRefusal) → count_all found < 100000 → slice_get tables place ≡ Some t → word_fault t.kind r.line r.args ≡ Some e → row_fault names tables found r ≡ Some e
  fault_words t e h at w = fault_by false (Some e) _ (few h) (ap (λ (o : Option TableDecl). decl_fault o r.line r.args) at ∙ w) refl

  module _ (t : TableDecl) (new : List Text) (p : Pair) (h : count_all found < 100000) (at : slice_get tables place ≡ Some t) (q : Reads names new t.kind r.args p) where
    no_fault : decl_fault (slice_get tables place) r.line r.args ≡ None
    no_fault = ap (λ (o : Option TableDecl). decl_fault o r.line r.args) at ∙ fine_words names new t.kind r.args p r.line q

    pub seen_is : seen ≡ has_key (entries_of found place) p.0
    seen_is = ap (λ (ns : List Text). has_key (entries_of found place) (pair_in ns r).0) (sym q.names) ∙ ap (λ (x : Pair). has_key (entries_of found place) x.0) (sym q.pair_is)

    pub fault_twice : has_key (entries_of found place) p.0 ≡ true → row_fault names tables found r ≡ Some (Twice r.line)
    fault_twice k = fault_by false None true (few h) no_fault (seen_is ∙ k)

    pub fault_none : has_key (entries_of found place) p.0 ≡ false → row_fault names tables found r ≡ None
    fault_none k = fault_by false None false (few h) no_fault (seen_is ∙ k)

-- a row whose entry went behind those of its table
pub accepts : (names new : List Text) (tables : List TableDecl) (found next : List (List Pair)) (r : Row) (t : TableDecl) (p : Pair) (i : ℕ)
    → i ≡ table_of names tables r.name → count_all found < 100000 → slice_get tables i ≡ Some t → Reads names new t.kind r.args p
    → (has_key (entries_of found i) p.0 ≡ false) × (next ≡ with_entry found i p) → Accepts names new tables found next r
accepts names new tables found next r t p i is few at q h =
    let P : ℕ → Type 0 = λ j. slice_get tables j ≡ Some t in
    let here : slice_get tables (table_of names tables r.name) ≡ Some t = subst P is at in
    let Q : ℕ → Type 0 = λ j. has_key (entries_of found j) p.0 ≡ false in
    let R : Pair → Type 0 = λ x. Reads names new t.kind r.args x in
    record {
      decl = t;
      at = here;
      reads = subst R q.pair_is q;
      fine = fault_none names tables found r t new p few here q (subst Q is h.0);
      is = h.1 ∙ ap (λ (j : ℕ). with_entry found j p) is ∙ ap (λ (x : Pair). with_entry found (table_of names tables r.name) x) q.pair_is;
    }

-- a row whose key was there
pub twice_is : (names : List Text) (tables : List TableDecl) (found : List (List Pair)) (r : Row) (t : TableDecl) (new : List Text) (p : Pair) (i : ℕ) (e : TableRefusal)
    → i ≡ table_of names tables r.name → count_all found < 100000 → slice_get tables i ≡ Some t → Reads names new t.kind r.args p
    → (has_key (entries_of found i) p.0 ≡ true) × (e ≡ Twice r.line) → row_fault names tables found r ≡ Some e
twice_is names tables found r t new p i e is few at q h =
    let P : ℕ → Type 0 = λ j. slice_get tables j ≡ Some t in
    let Q : ℕ → Type 0 = λ j. has_key (entries_of found j) p.0 ≡ true in
    fault_twice names tables found r t new p few (subst P is at) q (subst Q is h.0) ∙ ap Some (sym h.1)

-- the refusal that is answered is the fault
pub told : {A : Type 0} (f : Option TableRefusal) (x : TableRefusal) → f ≡ Some x → (e : TableRefusal) → (let r : Result A TableRefusal = Err x in r ≡ Err e) → e ≢ NoMemory → f ≡ Some e
told f x h e is n = let k : x ≡ e = cc in h ∙ ap Some k
