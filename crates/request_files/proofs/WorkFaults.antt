-- The first row with which the work of all requests passes its limit.
use Rattle.std.proofs.Common.{◌≡◌, ℕ, ◌+◌, ◌<◌, ◌≤◌, Bool, true, false, cond, nat_lt, List, [], ◌∷◌, ◌++◌, length, Some, None, refl, sym, ap, ◌∙◌, arith}
use Rattle.std.proofs.lemmas.List.Sums.{sum_by-cons, sum_by_push}
use Rattle.std.proofs.lemmas.Bool.{ltb-false, le-ltb, ltb-true, lt-ltb}
use Rattle.syntax_trees.specs.declared.file.File.{File}
use Rattle.handler_check.specs.Bounds.{work_bound}
use Rattle.handler_check.specs.Resolved.{code_at}
use Rattle.request_files.specs.declared.tally.Tally.{Tally}
use Rattle.request_files.specs.declared.refusal.RequestRefusal.TheVariants.{TooManyCalls, TooMuchWork}
use Rattle.request_files.specs.Laws.{IsWellFormed, calls_named}
use Rattle.request_files.specs.WorkSums.{WorkPasses, work_named}
use Rattle.text_lines.specs.Text.{Text}
use Rattle.request_files.specs.Requests.{handler_of, fault_of, first_fault, no_requests}
use Rattle.text_lines.specs.Rows.{Row}
use Rattle.request_files.proofs.FaultLemmas.{fault_sums}
use Rattle.request_files.proofs.FirstFaults.{after, behind, behind_requests, behind_calls, tried, tried_is, front_fine, At, found, refused_at, calls_pushed}

module _ (names : List Text) (f : File) where
  abbrev work_of : Row → ℕ
  work_of r = work_bound (code_at f (handler_of names f r.name))

  pub behind_work : (t : Tally) (rs : List Row) → (behind names f t rs).work ≡ t.work + work_named names f rs
  behind_work t [] = omega arith
  behind_work t (r ∷ rs) =
      let sum : work_named names f (r ∷ rs) ≡ work_of r + work_named names f rs = sum_by-cons work_of r rs in
      let step : (after names f t r).work ≡ t.work + work_of r = refl in
      omega (arith, sum, step, behind_work (after names f t r) rs)

  work_told : (r : Row) (line : ℕ) (a b c d x y : Bool) → tried names f r a b c d x y ≡ Some (TooMuchWork line) → (y ≡ true) × (r.line ≡ line)
  work_told r line true b c d x y h = absurd (cc)
  work_told r line false true c d x y h = absurd (cc)
  work_told r line false false false d x y h = absurd (cc)
  work_told r line false false true false x y h = absurd (cc)
  work_told r line false false true true true y h = absurd (cc)
  work_told r line false false true true false true h = (refl, cc)
  work_told r line false false true true false false h = absurd (cc)

  none_told : (r : Row) (a b c d x y : Bool) → tried names f r a b c d x y ≡ None → y ≡ false
  none_told r true b c d x y h = absurd (cc)
  none_told r false true c d x y h = absurd (cc)
  none_told r false false false d x y h = absurd (cc)
  none_told r false false true false x y h = absurd (cc)
  none_told r false false true true true y h = absurd (cc)
  none_told r false false true true false true h = absurd (cc)
  none_told r false false true true false false h = refl

  pub within : (t : Tally) (rs : List Row) → first_fault names f t rs ≡ None → t.work ≤ 10000000 → (behind names f t rs).work ≤ 10000000
  within t [] h work = work
  within t (r ∷ rs) h work =
      let p : (fault_of names f t r ≡ None) × (first_fault names f (after names f t r) rs ≡ None) = front_fine names f t r rs h in
      let q : nat_lt 10000000 (after names f t r).work ≡ false = none_told r _ _ _ _ _ _ (sym (tried_is names f t r) ∙ p.0) in
      within (after names f t r) rs p.1 (ltb-false 10000000 (after names f t r).work q)

  work_pushed : (front : List Row) (row : Row) → work_named names f (front ++ row ∷ []) ≡ work_named names f front + work_of row
  work_pushed front row = sum_by_push work_of front row

  pub work_passes : (rs : List Row) (line : ℕ) → first_fault names f no_requests rs ≡ Some (TooMuchWork line) → WorkPasses names f rs line
  work_passes rs line h =
      let a : At names f no_requests rs (TooMuchWork line) = found names f no_requests rs (TooMuchWork line) h in
      let sums : Tally = behind names f no_requests a.front in
      let q : (nat_lt 10000000 (after names f sums a.row).work ≡ true) × (a.row.line ≡ line) = work_told a.row line _ _ _ _ _ _ (sym (tried_is names f sums a.row) ∙ a.fault) in
      let w : sums.work ≤ 10000000 = within no_requests a.front a.fine (omega arith) in
      let past : 10000000 < (after names f sums a.row).work = ltb-true 10000000 (after names f sums a.row).work q.0 in
      let is : sums.work ≡ 0 + work_named names f a.front = behind_work no_requests a.front in
      record {
        at = record { front = a.front; row = a.row; back = a.back; is = a.is; line_is = q.1; fine = a.fine };
        before = omega (arith, w, is);
        past = omega (arith, past, is, work_pushed a.front a.row);
      }

  pub work_refused : (front : List Row) (row : Row) (back : List Row) → first_fault names f no_requests front ≡ None → length front < 20000 → IsWellFormed names f row → calls_named names f (front ++ row ∷ []) ≤ 200000
      → 10000000 < work_named names f (front ++ row ∷ []) → first_fault names f no_requests (front ++ row ∷ back) ≡ Some (TooMuchWork row.line)
  work_refused front row back h few w calls past =
      let sums : Tally = behind names f no_requests front in
      let count : sums.requests ≡ 0 + length front = behind_requests names f no_requests front in
      let called : sums.calls ≡ 0 + calls_named names f front = behind_calls names f no_requests front in
      let worked : sums.work ≡ 0 + work_named names f front = behind_work no_requests front in
      let over : 10000000 < (after names f sums row).work = omega (arith, past, worked, work_pushed front row) in
      let under : (after names f sums row).calls ≤ 200000 = omega (arith, calls, called, calls_pushed names f front row) in
      refused_at names f front row back (TooMuchWork row.line) h
      (fault_sums names f sums row (handler_of names f row.name) refl (omega (arith, few, count)) w.handler w.args w.values
      ∙ ap (λ b. cond b (Some (TooManyCalls row.line)) (cond (nat_lt 10000000 (after names f sums row).work) (Some (TooMuchWork row.line)) None)) (le-ltb 200000 (after names f sums row).calls under)
      ∙ ap (λ b. cond b (Some (TooMuchWork row.line)) None) (lt-ltb 10000000 (after names f sums row).work over))
