-- The first row with a fault, and the rows before it.
use Rattle.std.proofs.Common.{◌≡◌, ℕ, ◌+◌, ◌<◌, ◌≤◌, Bool, true, false, not, cond, nat_le, nat_lt, ◌==◌, List, [], ◌∷◌, ◌++◌, length, Option, Some, None, refl, sym, ap, ◌∙◌, arith}
use Rattle.std.proofs.lemmas.Bool.Decides.{nat_tests}
use Rattle.std.proofs.lemmas.List.Sums.{sum_by-cons, sum_by_push}
use Rattle.std.proofs.lemmas.Bool.{ltb-false, ltb-true, leb-true, leb-false}
use Rattle.std.proofs.lemmas.Option.{none-some}
use Rattle.std.specs.List.{list_all}
use Rattle.std.specs.Option.{option_or}
use Rattle.syntax_trees.specs.declared.file.File.{File}
use Rattle.handler_check.specs.Bounds.{calls_bound}
use Rattle.handler_check.specs.Resolved.{code_at, params_at}
use Rattle.request_files.specs.declared.tally.Tally.{Tally}
use Rattle.request_files.specs.declared.refusal.RequestRefusal.{RequestRefusal}
use Rattle.request_files.specs.declared.refusal.RequestRefusal.TheVariants.{TooManyRequests, UnknownHandler, Arity, BadWord, TooManyCalls, TooMuchWork}
use Rattle.request_files.specs.Laws.{CallsPass, IsOneTooMany, IsWellFormed, calls_named}
use Rattle.text_lines.specs.Text.{Text}
use Rattle.text_lines.specs.Values.{is_value}
use Rattle.request_files.specs.Requests.{handler_of, fault_of, first_fault, with_request, no_requests}
use Rattle.text_lines.specs.Rows.{Row}
use Rattle.request_files.proofs.FaultLemmas.{fault_many, fault_sums}
use Rattle.request_files.proofs.RowLemmas.{fault_step, first_nil}

module _ (names : List Text) (f : File) where
  abbrev pub after : Tally → Row → Tally
  after t r = with_request f (handler_of names f r.name) t

  abbrev calls_of : Row → ℕ
  calls_of r = calls_bound (code_at f (handler_of names f r.name))

  -- the sums behind some rows
  abbrev pub behind : Tally → List Row → Tally
  behind t [] = t
  behind t (r ∷ rs) = behind (after t r) rs

  pub behind_requests : (t : Tally) (rs : List Row) → (behind t rs).requests ≡ t.requests + length rs
  behind_requests t [] = omega arith
  behind_requests t (r ∷ rs) = omega (arith, behind_requests (after t r) rs)

  pub behind_calls : (t : Tally) (rs : List Row) → (behind t rs).calls ≡ t.calls + calls_named names f rs
  behind_calls t [] = omega arith
  behind_calls t (r ∷ rs) =
      let sum : calls_named names f (r ∷ rs) ≡ calls_of r + calls_named names f rs = sum_by-cons calls_of r rs in
      let step : (after t r).calls ≡ t.calls + calls_of r = refl in
      omega (arith, sum, step, behind_calls (after t r) rs)

  -- ---- the tests of one row, in their order
  abbrev pub tried : Row → Bool → Bool → Bool → Bool → Bool → Bool → Option RequestRefusal
  tried r many unknown arity values calls work =
      cond many (Some (TooManyRequests r.line)) (cond unknown (Some (UnknownHandler r.line)) (cond (not arity) (Some (Arity r.line)) (cond (not values) (Some (BadWord r.line)) (cond calls (Some (TooManyCalls r.line)) (cond work (Some (TooMuchWork r.line)) None)))))

  pub tried_is : (t : Tally) (r : Row) → fault_of names f t r ≡ tried r (nat_le 20000 t.requests) (nat_le (length f.handlers) (handler_of names f r.name)) (params_at f (handler_of names f r.name) == length r.args) (list_all is_value r.args) (nat_lt 200000 (after t r).calls) (nat_lt 10000000 (after t r).work)
  unfolding fault_of
  tried_is t r = refl

  many_told : (r : Row) (line : ℕ) (a b c d x y : Bool) → tried r a b c d x y ≡ Some (TooManyRequests line) → (a ≡ true) × (r.line ≡ line)
  many_told r line true b c d x y h = (refl, cc)
  many_told r line false true c d x y h = absurd (cc)
  many_told r line false false false d x y h = absurd (cc)
  many_told r line false false true false x y h = absurd (cc)
  many_told r line false false true true true y h = absurd (cc)
  many_told r line false false true true false true h = absurd (cc)
  many_told r line false false true true false false h = absurd (cc)

  calls_told : (r : Row) (line : ℕ) (a b c d x y : Bool) → tried r a b c d x y ≡ Some (TooManyCalls line) → (x ≡ true) × (r.line ≡ line)
  calls_told r line true b c d x y h = absurd (cc)
  calls_told r line false true c d x y h = absurd (cc)
  calls_told r line false false false d x y h = absurd (cc)
  calls_told r line false false true false x y h = absurd (cc)
  calls_told r line false false true true true y h = (refl, cc)
  calls_told r line false false true true false true h = absurd (cc)
  calls_told r line false false true true false false h = absurd (cc)

  none_told : (r : Row) (a b c d x y : Bool) → tried r a b c d x y ≡ None → (a ≡ false) × (x ≡ false)
  none_told r true b c d x y h = absurd (cc)
  none_told r false true c d x y h = absurd (cc)
  none_told r false false false d x y h = absurd (cc)
  none_told r false false true false x y h = absurd (cc)
  none_told r false false true true true y h = absurd (cc)
  none_told r false false true true false y h = (refl, refl)

  -- ---- rows without a fault
  -- the row at the front of such rows has none, and the others have none behind it
  pub front_fine : (t : Tally) (r : Row) (rs : List Row) → first_fault names f t (r ∷ rs) ≡ None → (fault_of names f t r ≡ None) × (first_fault names f (after t r) rs ≡ None)
  front_fine t r rs h = go (fault_of names f t r) refl (sym (fault_step names f t r rs) ∙ h)
    where
      go : (o : Option RequestRefusal) → fault_of names f t r ≡ o → option_or o (first_fault names f (after t r) rs) ≡ None → (fault_of names f t r ≡ None) × (first_fault names f (after t r) rs ≡ None)
      go None e k = (e, k)
      go (Some x) e k = absurd (cc)

  pub within : (t : Tally) (rs : List Row) → first_fault names f t rs ≡ None → t.requests ≤ 20000 → t.calls ≤ 200000 → ((behind t rs).requests ≤ 20000) × ((behind t rs).calls ≤ 200000)
  within t [] h few calls = (few, calls)
  within t (r ∷ rs) h few calls =
      let p : (fault_of names f t r ≡ None) × (first_fault names f (after t r) rs ≡ None) = front_fine t r rs h in
      let q : (nat_le 20000 t.requests ≡ false) × (nat_lt 200000 (after t r).calls ≡ false) = none_told r _ _ _ _ _ _ (sym (tried_is t r) ∙ p.0) in
      let less : t.requests < 20000 = leb-false 20000 t.requests q.0 in
      within (after t r) rs p.1 (omega (arith, less)) (ltb-false 200000 (after t r).calls q.1)

  -- behind them, the first fault is that of the others
  passed : (t : Tally) (front rs : List Row) → first_fault names f t front ≡ None → first_fault names f t (front ++ rs) ≡ first_fault names f (behind t front) rs
  passed t [] rs h = refl
  passed t (r ∷ front) rs h =
      let p : (fault_of names f t r ≡ None) × (first_fault names f (after t r) front ≡ None) = front_fine t r front h in
      fault_step names f t r (front ++ rs) ∙ ap (λ o. option_or o (first_fault names f (after t r) (front ++ rs))) p.0 ∙ passed (after t r) front rs p.1

  pub refused_at : (front : List Row) (row : Row) (back : List Row) (e : RequestRefusal) → first_fault names f no_requests front ≡ None → fault_of names f (behind no_requests front) row ≡ Some e → first_fault names f no_requests (front ++ row ∷ back) ≡ Some e
  refused_at front row back e h w =
      passed no_requests front (row ∷ back) h ∙ fault_step names f (behind no_requests front) row back
      ∙ ap (λ o. option_or o (first_fault names f (after (behind no_requests front) row) back)) w

  -- ---- the first row with a fault
  pub record At (t : Tally) (rs : List Row) (e : RequestRefusal) : Type 0 where
    pub front : List Row
    pub row : Row
    pub back : List Row
    pub is : rs ≡ front ++ row ∷ back
    pub fine : first_fault names f t front ≡ None
    pub fault : fault_of names f (behind t front) row ≡ Some e

  pub found : (t : Tally) (rs : List Row) (e : RequestRefusal) → first_fault names f t rs ≡ Some e → At t rs e
  found t [] e h = absurd (none-some e (sym (first_nil names f t) ∙ h))
  found t (r ∷ rs) e h = go (λ k. found (after t r) rs e k) (fault_of names f t r) refl (sym (fault_step names f t r rs) ∙ h)
    where
      go : (first_fault names f (after t r) rs ≡ Some e → At (after t r) rs e) → (o : Option RequestRefusal) → fault_of names f t r ≡ o → option_or o (first_fault names f (after t r) rs) ≡ Some e → At t (r ∷ rs) e
      go others (Some x) w k = record { front = []; row = r; back = rs; is = refl; fine = first_nil names f t; fault = w ∙ k }
      go others None w k =
          let a : At (after t r) rs e = others k in
          record {
            front = r ∷ a.front;
            row = a.row;
            back = a.back;
            is = ap (λ l. r ∷ l) a.is;
            fine = fault_step names f t r a.front ∙ ap (λ o. option_or o (first_fault names f (after t r) a.front)) w ∙ a.fine;
            fault = a.fault;
          }

  pub calls_pushed : (front : List Row) (row : Row) → calls_named names f (front ++ row ∷ []) ≡ calls_named names f front + calls_of row
  calls_pushed front row = sum_by_push calls_of front row

  pub calls_pass : (rs : List Row) (line : ℕ) → first_fault names f no_requests rs ≡ Some (TooManyCalls line) → CallsPass names f rs line
  calls_pass rs line h =
      let a : At no_requests rs (TooManyCalls line) = found no_requests rs (TooManyCalls line) h in
      let sums : Tally = behind no_requests a.front in
      let q : (nat_lt 200000 (after sums a.row).calls ≡ true) × (a.row.line ≡ line) = calls_told a.row line _ _ _ _ _ _ (sym (tried_is sums a.row) ∙ a.fault) in
      let w : (sums.requests ≤ 20000) × (sums.calls ≤ 200000) = within no_requests a.front a.fine (omega arith) (omega arith) in
      let past : 200000 < (after sums a.row).calls = ltb-true 200000 (after sums a.row).calls q.0 in
      let is : sums.calls ≡ 0 + calls_named names f a.front = behind_calls no_requests a.front in
      record {
        at = record { front = a.front; row = a.row; back = a.back; is = a.is; line_is = q.1; fine = a.fine };
        before = omega (arith, w.1, is);
        past = omega (arith, past, is, calls_pushed a.front a.row);
      }

  pub one_too_many : (rs : List Row) (line : ℕ) → first_fault names f no_requests rs ≡ Some (TooManyRequests line) → IsOneTooMany names f rs line
  one_too_many rs line h =
      let a : At no_requests rs (TooManyRequests line) = found no_requests rs (TooManyRequests line) h in
      let sums : Tally = behind no_requests a.front in
      let q : (nat_le 20000 sums.requests ≡ true) × (a.row.line ≡ line) = many_told a.row line _ _ _ _ _ _ (sym (tried_is sums a.row) ∙ a.fault) in
      let w : (sums.requests ≤ 20000) × (sums.calls ≤ 200000) = within no_requests a.front a.fine (omega arith) (omega arith) in
      let most : 20000 ≤ sums.requests = leb-true 20000 sums.requests q.0 in
      let is : sums.requests ≡ 0 + length a.front = behind_requests no_requests a.front in
      record {
        at = record { front = a.front; row = a.row; back = a.back; is = a.is; line_is = q.1; fine = a.fine };
        count = omega (arith, w.0, most, is);
      }

  pub many_refused : (front : List Row) (row : Row) (back : List Row) → first_fault names f no_requests front ≡ None → length front ≡ 20000 → first_fault names f no_requests (front ++ row ∷ back) ≡ Some (TooManyRequests row.line)
  many_refused front row back h n =
      let is : (behind no_requests front).requests ≡ 0 + length front = behind_requests no_requests front in
      refused_at front row back (TooManyRequests row.line) h (fault_many names f (behind no_requests front) row (omega (arith, n, is)))

  pub calls_refused : (front : List Row) (row : Row) (back : List Row) → first_fault names f no_requests front ≡ None → length front < 20000 → IsWellFormed names f row → 200000 < calls_named names f (front ++ row ∷ []) → first_fault names f no_requests (front ++ row ∷ back) ≡ Some (TooManyCalls row.line)
  calls_refused front row back h few w past =
      let sums : Tally = behind no_requests front in
      let count : sums.requests ≡ 0 + length front = behind_requests no_requests front in
      let calls : sums.calls ≡ 0 + calls_named names f front = behind_calls no_requests front in
      let over : 200000 < (after sums row).calls = omega (arith, past, calls, calls_pushed front row) in
      refused_at front row back (TooManyCalls row.line) h
      (fault_sums names f sums row (handler_of names f row.name) refl (omega (arith, few, count)) w.handler w.args w.values
      ∙ ap (λ b. cond b (Some (TooManyCalls row.line)) (cond (nat_lt 10000000 (after sums row).work) (Some (TooMuchWork row.line)) None)) (told (after sums row).calls over))
    where
      told : (n : ℕ) → 200000 < n → nat_lt 200000 n ≡ true
      told n l = grind (arith, nat_tests)
