-- The first row with a fault, and the rows before it.
use Rattle.std.proofs.Common.{◌≡◌, ◌↔◌, ℕ, ◌+◌, ◌<◌, ◌≤◌, ◌==◌, Bool, true, false, cond, not, nat_le, ◌&&◌, List, [], ◌∷◌, ◌++◌, length, slice_get, slice_index_or, Option, Some, None, refl, sym, ◌∙◌, ap, arith, append_assoc, append-nil, length-append}
use Rattle.std.proofs.lemmas.Bool.{eqb-true, eq-eqb, leb-true, leb-false, false≢true}
use Rattle.std.proofs.lemmas.Bool.Decides.{nat_tests}
use Rattle.std.proofs.lemmas.List.Folds.{Any-from_list_any, list_any-from_Any}
use Rattle.std.specs.List.{AllByRecursion, Contains, list_all, list_any}
use Rattle.std.specs.Option.{option_or}
use Rattle.session_values.specs.declared.kind.TableKind.{TableKind}
use Rattle.session_values.specs.declared.kind.TableKind.TheVariants.{Map, Set}
use Rattle.syntax_trees.specs.declared.file.TableDecl.{TableDecl}
use Rattle.table_lines.specs.Written.{Written}
use Rattle.text_lines.specs.Rows.{Row}
use Rattle.text_lines.specs.Text.{Text}
use Rattle.text_lines.specs.Values.{is_value}
use Rattle.table_lines.specs.Laws.{AreWellFormed, GiveOneKey, IsGivenTwice, IsOneTooMany, IsWellFormed}
use Rattle.table_lines.specs.TableRows.{arity, decl_fault, first_table_fault, gives_key, key_word, says_same, table_fault, table_of, word_says}
use Rattle.table_lines.specs.declared.refusal.TableRefusal.{TableRefusal}
use Rattle.table_lines.specs.declared.refusal.TableRefusal.TheVariants.{Arity, BadWord, Twice, TooManyEntries}
use Rattle.table_lines.proofs.Going.{fault_end, fault_step}
use Rattle.table_lines.proofs.KeyLemmas.{decides_written, said_by}

both_true : (a b : Bool) → (a && b) ≡ true → (a ≡ true) × (b ≡ true)
both_true true true h = (refl, refl)
both_true true false h = absurd (cc)
both_true false b h = absurd (cc)

both_hold : (a b : Bool) → a ≡ true → b ≡ true → (a && b) ≡ true
both_hold a b e f = ap (λ x. x && b) e ∙ f

-- ---- keys
says_told : (o q : Option Written) → says_same o q ≡ true → q ≡ o
says_told None q h = absurd (cc)
says_told (Some x) None h = absurd (cc)
says_told (Some x) (Some y) h = ap Some (sym ((decides_written x y).0 h))

key_is_value : (kind : TableKind) (ws : List Text) → arity kind ≡ length ws → list_all is_value ws ≡ true → is_value (slice_index_or ws 0 []) ≡ true
key_is_value Map [] n h = absurd (omega (arith, n))
key_is_value Set [] n h = absurd (omega (arith, n))
key_is_value kind (w ∷ ws) n h = (both_true (is_value w) (list_all is_value ws) h).0

-- ---- the words of a row
decl_told : (o : Option TableDecl) (line : ℕ) (ws : List Text) → decl_fault o line ws ≡ None → (d : TableDecl) × (o ≡ Some d) × (arity d.kind ≡ length ws) × (list_all is_value ws ≡ true)
decl_told None line ws h = absurd (cc)
decl_told (Some t) line ws h = go (arity t.kind == length ws) (list_all is_value ws) refl refl h
  where
    go : (a b : Bool) → (arity t.kind == length ws) ≡ a → list_all is_value ws ≡ b → cond (not a) (Some (Arity line)) (cond (not b) (Some (BadWord line)) None) ≡ None
        → (d : TableDecl) × (Some t ≡ Some d) × (arity d.kind ≡ length ws) × (list_all is_value ws ≡ true)
    go false b e f k = absurd (cc)
    go true false e f k = absurd (cc)
    go true true e f k = (t, refl, eqb-true (arity t.kind) (length ws) e, f)

-- the words alone are never refused for what stands before the row
decl_alone : (o : Option TableDecl) (line : ℕ) (ws : List Text) (n : ℕ) → ((decl_fault o line ws ≡ Some (Twice n)) → ⊥) × ((decl_fault o line ws ≡ Some (TooManyEntries n)) → ⊥)
decl_alone None line ws n = (λ h. cc, λ h. cc)
decl_alone (Some t) line ws n = go (arity t.kind == length ws) (list_all is_value ws)
  where
    go : (a b : Bool) → ((cond (not a) (Some (Arity line)) (cond (not b) (Some (BadWord line)) None) ≡ Some (Twice n)) → ⊥) × ((cond (not a) (Some (Arity line)) (cond (not b) (Some (BadWord line)) None) ≡ Some (TooManyEntries n)) → ⊥)
    go false b = (λ h. cc, λ h. cc)
    go true false = (λ h. cc, λ h. cc)
    go true true = (λ h. cc, λ h. cc)

module _ (names : List Text) (tables : List TableDecl) where
  abbrev words_fault : Row → Option TableRefusal
  words_fault r = decl_fault (slice_get tables (table_of names tables r.name)) r.line r.args

  fine_words : (r : Row) → IsWellFormed names tables r → words_fault r ≡ None
  fine_words r w =
      ap (λ (o : Option TableDecl). decl_fault o r.line r.args) w.table
      ∙ ap (λ (b : Bool). cond (not b) (Some (Arity r.line)) (cond (not (list_all is_value r.args)) (Some (BadWord r.line)) None)) (eq-eqb (arity w.decl.kind) (length r.args) w.words)
      ∙ ap (λ (b : Bool). cond (not b) (Some (BadWord r.line)) None) w.values

  formed : (r : Row) → words_fault r ≡ None → IsWellFormed names tables r
  formed r h =
      let d = decl_told (slice_get tables (table_of names tables r.name)) r.line r.args h in
      record { decl = d.0; table = d.1; words = d.2; values = d.3 }

  one_key : (r b : Row) → gives_key names tables r b ≡ true → GiveOneKey names tables r b
  one_key r b h =
      let both = both_true (table_of names tables b.name == table_of names tables r.name) (says_same (word_says (key_word r)) (word_says (key_word b))) h in
      record {
        table = eqb-true (table_of names tables b.name) (table_of names tables r.name) both.0;
        key = says_told (word_says (key_word r)) (word_says (key_word b)) both.1;
      }

  key_given : (r b : Row) → IsWellFormed names tables r → GiveOneKey names tables r b → gives_key names tables r b ≡ true
  key_given r b w same =
      let x = said_by (key_word r) (word_says (key_word r)) (key_is_value w.decl.kind r.args w.words w.values) refl in
      both_hold (table_of names tables b.name == table_of names tables r.name) (says_same (word_says (key_word r)) (word_says (key_word b)))
      (eq-eqb (table_of names tables b.name) (table_of names tables r.name) same.table)
      (ap (says_same (word_says (key_word r))) (same.key ∙ x.1) ∙ ap (λ (o : Option Written). says_same o (Some x.0)) x.1 ∙ (decides_written x.0 x.0).1 refl)

  -- ---- the tests of one row, in their order
  abbrev tried : ℕ → Bool → Option TableRefusal → Bool → Option TableRefusal
  tried line many words given = cond many (Some (TooManyEntries line)) (option_or words (cond given (Some (Twice line)) None))

  tried_is : (before : List Row) (r : Row) → table_fault names tables before r ≡ tried r.line (nat_le 100000 (length before)) (words_fault r) (list_any (gives_key names tables r) before)
  unfolding table_fault
  tried_is before r = refl

  twice_told : (at line : ℕ) (a : Bool) (o : Option TableRefusal) (g : Bool) → (o ≡ Some (Twice line) → ⊥) → tried at a o g ≡ Some (Twice line) → (o ≡ None) × (g ≡ true) × (at ≡ line)
  twice_told at line true o g n h = absurd (cc)
  twice_told at line false (Some x) g n h = absurd (n h)
  twice_told at line false None true n h = (refl, refl, cc)
  twice_told at line false None false n h = absurd (cc)

  many_told : (at line : ℕ) (a : Bool) (o : Option TableRefusal) (g : Bool) → (o ≡ Some (TooManyEntries line) → ⊥) → tried at a o g ≡ Some (TooManyEntries line) → (a ≡ true) × (at ≡ line)
  many_told at line true o g n h = (refl, cc)
  many_told at line false (Some x) g n h = absurd (n h)
  many_told at line false None true n h = absurd (cc)
  many_told at line false None false n h = absurd (cc)

  none_told : (at : ℕ) (a : Bool) (o : Option TableRefusal) (g : Bool) → tried at a o g ≡ None → (a ≡ false) × (o ≡ None) × (g ≡ false)
  none_told at true o g h = absurd (cc)
  none_told at false (Some x) g h = absurd (cc)
  none_told at false None true h = absurd (cc)
  none_told at false None false h = (refl, refl, refl)

  none_of : (before : List Row) (r : Row) → table_fault names tables before r ≡ None → (nat_le 100000 (length before) ≡ false) × (words_fault r ≡ None) × (list_any (gives_key names tables r) before ≡ false)
  none_of before r h = none_told r.line (nat_le 100000 (length before)) (words_fault r) (list_any (gives_key names tables r) before) (sym (tried_is before r) ∙ h)

  few_rows : (n : ℕ) → n < 100000 → nat_le 100000 n ≡ false
  few_rows n h = grind (arith, nat_tests)

  many_rows : (n : ℕ) → n ≡ 100000 → nat_le 100000 n ≡ true
  many_rows n h = grind (arith, nat_tests)

  -- ---- rows without a fault
  front_fine : (before : List Row) (r : Row) (rs : List Row) → first_table_fault names tables before (r ∷ rs) ≡ None → (table_fault names tables before r ≡ None) × (first_table_fault names tables (before ++ r ∷ []) rs ≡ None)
  front_fine before r rs h = go (table_fault names tables before r) refl (sym (fault_step names tables before r rs) ∙ h)
    where
      go : (o : Option TableRefusal) → table_fault names tables before r ≡ o → option_or o (first_table_fault names tables (before ++ r ∷ []) rs) ≡ None → (table_fault names tables before r ≡ None) × (first_table_fault names tables (before ++ r ∷ []) rs ≡ None)
      go None e k = (e, k)
      go (Some x) e k = absurd (cc)

  -- behind them, the first fault is that of the others
  passed : (before front rs : List Row) → first_table_fault names tables before front ≡ None → first_table_fault names tables before (front ++ rs) ≡ first_table_fault names tables (before ++ front) rs
  passed before [] rs h = ap (λ b. first_table_fault names tables b rs) (sym (append-nil before))
  passed before (r ∷ front) rs h =
      let p = front_fine before r front h in
      fault_step names tables before r (front ++ rs) ∙ ap (λ (o : Option TableRefusal). option_or o (first_table_fault names tables (before ++ r ∷ []) (front ++ rs))) p.0
      ∙ passed (before ++ r ∷ []) front rs p.1 ∙ ap (λ b. first_table_fault names tables b rs) (append_assoc before (r ∷ []) front)

  refused_at : (front : List Row) (row : Row) (back : List Row) (e : TableRefusal) → first_table_fault names tables [] front ≡ None → table_fault names tables front row ≡ Some e → first_table_fault names tables [] (front ++ row ∷ back) ≡ Some e
  refused_at front row back e h w =
      passed [] front (row ∷ back) h ∙ fault_step names tables front row back ∙ ap (λ (o : Option TableRefusal). option_or o (first_table_fault names tables (front ++ row ∷ []) back)) w

  -- ---- the first row with a fault
  record At (before rs : List Row) (e : TableRefusal) : Type 0 where
    front : List Row
    row : Row
    back : List Row
    is : rs ≡ front ++ row ∷ back
    fine : first_table_fault names tables before front ≡ None
    fault : table_fault names tables (before ++ front) row ≡ Some e

  found : (before rs : List Row) (e : TableRefusal) → first_table_fault names tables before rs ≡ Some e → At before rs e
  found before [] e h = let none : first_table_fault names tables before [] ≡ None = fault_end names tables before in absurd (cc)
  found before (r ∷ rs) e h = go (λ k. found (before ++ r ∷ []) rs e k) (table_fault names tables before r) refl (sym (fault_step names tables before r rs) ∙ h)
    where
      go : (first_table_fault names tables (before ++ r ∷ []) rs ≡ Some e → At (before ++ r ∷ []) rs e) → (o : Option TableRefusal) → table_fault names tables before r ≡ o → option_or o (first_table_fault names tables (before ++ r ∷ []) rs) ≡ Some e → At before (r ∷ rs) e
      go others (Some x) w k = record {
        front = [];
        row = r;
        back = rs;
        is = refl;
        fine = fault_end names tables before;
        fault = ap (λ b. table_fault names tables b r) (append-nil before) ∙ w ∙ k;
      }
      go others None w k =
          let a : At (before ++ r ∷ []) rs e = others k in
          record {
            front = r ∷ a.front;
            row = a.row;
            back = a.back;
            is = ap (λ l. r ∷ l) a.is;
            fine = fault_step names tables before r a.front ∙ ap (λ (o : Option TableRefusal). option_or o (first_table_fault names tables (before ++ r ∷ []) a.front)) w ∙ a.fine;
            fault = ap (λ b. table_fault names tables b a.row) (sym (append_assoc before (r ∷ []) a.front)) ∙ a.fault;
          }

  few_before : (before rs : List Row) → first_table_fault names tables before rs ≡ None → length before ≤ 100000 → length before + length rs ≤ 100000
  few_before before [] h few = omega (arith, few)
  few_before before (r ∷ rs) h few =
      let p = front_fine before r rs h in
      let less : length before < 100000 = leb-false 100000 (length before) (none_of before r p.0).0 in
      let long : length (before ++ r ∷ []) ≡ length before + 1 = length-append before (r ∷ []) in
      omega (arith, long, few_before (before ++ r ∷ []) rs p.1 (omega (arith, long, less)))

  pub given_twice : (rs : List Row) (line : ℕ) → first_table_fault names tables [] rs ≡ Some (Twice line) → IsGivenTwice names tables rs line
  given_twice rs line h =
      let a : At [] rs (Twice line) = found [] rs (Twice line) h in
      let words : words_fault a.row ≡ Some (Twice line) → ⊥ = (decl_alone (slice_get tables (table_of names tables a.row.name)) a.row.line a.row.args line).0 in
      let q = twice_told a.row.line line (nat_le 100000 (length a.front)) (words_fault a.row) (list_any (gives_key names tables a.row) a.front) words (sym (tried_is a.front a.row) ∙ a.fault) in
      let any = Any-from_list_any (gives_key names tables a.row) a.front q.1 in
      record {
        at = record { front = a.front; row = a.row; back = a.back; is = a.is; line_is = q.2; fine = a.fine };
        formed = formed a.row q.0;
        earlier = any.1;
        among = (any.0, any.2, any.3);
        same = one_key a.row any.1 any.4;
      }

  pub twice_refused : (front : List Row) (row : Row) (back : List Row) (earlier : Row) → first_table_fault names tables [] front ≡ None → length front < 100000 → IsWellFormed names tables row → Contains front earlier → GiveOneKey names tables row earlier
      → first_table_fault names tables [] (front ++ row ∷ back) ≡ Some (Twice row.line)
  twice_refused front row back earlier h few w among same =
      let given : list_any (gives_key names tables row) front ≡ true = list_any-from_Any (gives_key names tables row) front (among.0, earlier, among.1, among.2, key_given row earlier w same) in
      refused_at front row back (Twice row.line) h
      (tried_is front row
      ∙ ap (λ a. tried row.line a (words_fault row) (list_any (gives_key names tables row) front)) (few_rows (length front) few)
      ∙ ap (λ o. tried row.line false o (list_any (gives_key names tables row) front)) (fine_words row w)
      ∙ ap (tried row.line false None) given)

  pub one_too_many : (rs : List Row) (line : ℕ) → first_table_fault names tables [] rs ≡ Some (TooManyEntries line) → IsOneTooMany names tables rs line
  one_too_many rs line h =
      let a : At [] rs (TooManyEntries line) = found [] rs (TooManyEntries line) h in
      let words : words_fault a.row ≡ Some (TooManyEntries line) → ⊥ = (decl_alone (slice_get tables (table_of names tables a.row.name)) a.row.line a.row.args line).1 in
      let q = many_told a.row.line line (nat_le 100000 (length a.front)) (words_fault a.row) (list_any (gives_key names tables a.row) a.front) words (sym (tried_is a.front a.row) ∙ a.fault) in
      let most : 100000 ≤ length a.front = leb-true 100000 (length a.front) q.0 in
      let few : 0 + length a.front ≤ 100000 = few_before [] a.front a.fine (omega arith) in
      record {
        at = record { front = a.front; row = a.row; back = a.back; is = a.is; line_is = q.1; fine = a.fine };
        count = omega (arith, most, few);
      }

  pub many_refused : (front : List Row) (row : Row) (back : List Row) → first_table_fault names tables [] front ≡ None → length front ≡ 100000 → first_table_fault names tables [] (front ++ row ∷ back) ≡ Some (TooManyEntries row.line)
  many_refused front row back h n =
      refused_at front row back (TooManyEntries row.line) h (tried_is front row ∙ ap (λ a. tried row.line a (words_fault row) (list_any (gives_key names tables row) front)) (many_rows (length front) n))

  -- ---- all rows
  each_formed : (before rs : List Row) → first_table_fault names tables before rs ≡ None → AllByRecursion (IsWellFormed names tables) rs
  each_formed before [] h = tt
  each_formed before (r ∷ rs) h =
      let p = front_fine before r rs h in
      (formed r (none_of before r p.0).1, each_formed (before ++ r ∷ []) rs p.1)

  fine_at : (before front : List Row) (row : Row) (back : List Row) → first_table_fault names tables before (front ++ row ∷ back) ≡ None → table_fault names tables (before ++ front) row ≡ None
  fine_at before [] row back h = ap (λ b. table_fault names tables b row) (append-nil before) ∙ (front_fine before row back h).0
  fine_at before (r ∷ front) row back h =
      ap (λ b. table_fault names tables b row) (sym (append_assoc before (r ∷ []) front)) ∙ fine_at (before ++ r ∷ []) front row back (front_fine before r (front ++ row ∷ back) h).1

  are_apart : (rs : List Row) → first_table_fault names tables [] rs ≡ None → (front : List Row) (row : Row) (back : List Row) (earlier : Row) → rs ≡ front ++ row ∷ back → Contains front earlier → GiveOneKey names tables row earlier → ⊥
  are_apart rs h front row back earlier is among same =
      let none = none_of front row (fine_at [] front row back (ap (first_table_fault names tables []) (sym is) ∙ h)) in
      let given : list_any (gives_key names tables row) front ≡ true = list_any-from_Any (gives_key names tables row) front (among.0, earlier, among.1, among.2, key_given row earlier (formed row none.1) same) in
      false≢true (sym none.2 ∙ given)

  not_given : (before rs : List Row) (r : Row) (b : Bool) → list_any (gives_key names tables r) before ≡ b → ((earlier : Row) → Contains before earlier → GiveOneKey names tables r earlier → ⊥) → list_any (gives_key names tables r) before ≡ false
  not_given before rs r false e new = e
  not_given before rs r true e new =
      let any = Any-from_list_any (gives_key names tables r) before e in
      absurd (new any.1 (any.0, any.2, any.3) (one_key r any.1 any.4))

  no_fault : (all before rs : List Row) → all ≡ before ++ rs → length before + length rs ≤ 100000 → AllByRecursion (IsWellFormed names tables) rs → ((front : List Row) (row : Row) (back : List Row) (earlier : Row) → all ≡ front ++ row ∷ back → Contains front earlier → GiveOneKey names tables row earlier → ⊥)
      → first_table_fault names tables before rs ≡ None
  no_fault all before [] is few each apart = fault_end names tables before
  no_fault all before (r ∷ rs) is few each apart =
      let long : length (before ++ r ∷ []) ≡ length before + 1 = length-append before (r ∷ []) in
      let given : list_any (gives_key names tables r) before ≡ false = not_given before rs r (list_any (gives_key names tables r) before) refl (λ earlier among same. apart before r rs earlier is among same) in
      let fine : table_fault names tables before r ≡ None =
      tried_is before r
      ∙ ap (λ a. tried r.line a (words_fault r) (list_any (gives_key names tables r) before)) (few_rows (length before) (omega (arith, few)))
      ∙ ap (λ o. tried r.line false o (list_any (gives_key names tables r) before)) (fine_words r each.0)
      ∙ ap (tried r.line false None) given in
      fault_step names tables before r rs ∙ ap (λ (o : Option TableRefusal). option_or o (first_table_fault names tables (before ++ r ∷ []) rs)) fine
      ∙ no_fault all (before ++ r ∷ []) rs (is ∙ sym (append_assoc before (r ∷ []) rs)) (omega (arith, few, long)) each.1 apart

  pub without_fault : (rs : List Row) → (first_table_fault names tables [] rs ≡ None) ↔ AreWellFormed names tables rs
  without_fault rs = (
    λ h.
        let few : 0 + length rs ≤ 100000 = few_before [] rs h (omega arith) in
        record { few = omega (arith, few); each = each_formed [] rs h; apart = are_apart rs h },
    λ w. no_fault rs [] rs refl (omega (arith, w.few)) w.each w.apart,
  )
