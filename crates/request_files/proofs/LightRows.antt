-- Rows that are well formed, of handlers that do little, have no fault.
use Rattle.std.proofs.Common.{◌≡◌, ℕ, suc, ◌+◌, ◌*◌, ◌<◌, ◌≤◌, true, cond, nat_lt, List, [], ◌∷◌, length, Some, None, refl, sym, ap, ◌∙◌, subst, arith}
use Rattle.std.proofs.lemmas.Bool.{le-ltb}
use Rattle.std.specs.List.{list_all, AllByRecursion}
use Rattle.std.specs.Option.{option_or}
use Rattle.syntax_trees.specs.declared.file.File.{File}
use Rattle.handler_check.specs.Bounds.{calls_bound, work_bound}
use Rattle.handler_check.specs.Resolved.{code_at, params_at}
use Rattle.request_files.specs.declared.tally.Tally.{Tally}
use Rattle.request_files.specs.declared.refusal.RequestRefusal.TheVariants.{TooManyCalls, TooMuchWork}
use Rattle.text_lines.specs.Text.{Text, words}
use Rattle.text_lines.specs.Values.{is_value}
use Rattle.request_files.specs.Requests.{handler_of, first_fault, sum_fault, fault_of, with_request}
use Rattle.text_lines.specs.Rows.{Row, row_of, rows}
use Rattle.request_files.proofs.FaultLemmas.{fault_sums}
use Rattle.request_files.proofs.RowLemmas.{fault_step, first_nil}
use Rattle.text_lines.proofs.RowLemmas.{rows_nil, rows_more}

-- the row names a handler, has a value for each of its parameters, and asks for few calls and little work
pub record IsLight (names : List Text) (f : File) (r : Row) : Type 0 where
  pub number : ℕ
  pub found : handler_of names f r.name ≡ number
  pub inside : number < length f.handlers
  pub args : params_at f number ≡ length r.args
  pub values : list_all is_value r.args ≡ true
  pub calls : calls_bound (code_at f number) ≤ 10
  pub work : work_bound (code_at f number) ≤ 500

module _ (names : List Text) (f : File) where
  no_sum : (t : Tally) (line : ℕ) → t.calls ≤ 200000 → t.work ≤ 10000000 → sum_fault t line ≡ None
  no_sum t line c w =
      ap (λ b. cond b (Some (TooManyCalls line)) (cond (nat_lt 10000000 t.work) (Some (TooMuchWork line)) None)) (le-ltb 200000 t.calls c)
      ∙ ap (λ b. cond b (Some (TooMuchWork line)) None) (le-ltb 10000000 t.work w)

  pub none_found : (t : Tally) (rs : List Row) → AllByRecursion (IsLight names f) rs → t.requests + length rs ≤ 20000 → t.calls ≤ 10 * t.requests → t.work ≤ 500 * t.requests → first_fault names f t rs ≡ None
  none_found t [] a few calls work = first_nil names f t
  none_found t (r ∷ rs) a few calls work =
      let light : IsLight names f r = a.0 in
      let i : ℕ = light.number in
      let next : Tally = with_request f (handler_of names f r.name) t in
      let own_calls : calls_bound (code_at f (handler_of names f r.name)) ≤ 10 = subst (λ (n : ℕ). calls_bound (code_at f n) ≤ 10) (sym light.found) light.calls in
      let own_work : work_bound (code_at f (handler_of names f r.name)) ≤ 500 = subst (λ (n : ℕ). work_bound (code_at f n) ≤ 500) (sym light.found) light.work in
      let more_calls : next.calls ≡ t.calls + calls_bound (code_at f (handler_of names f r.name)) = refl in
      let more_work : next.work ≡ t.work + work_bound (code_at f (handler_of names f r.name)) = refl in
      let more_requests : next.requests ≡ t.requests + 1 = refl in
      let fine : fault_of names f t r ≡ None =
      fault_sums names f t r i (sym light.found) (omega (arith, few)) light.inside light.args light.values
      ∙ ap (λ (n : ℕ). sum_fault (with_request f n t) r.line) (sym light.found)
      ∙ no_sum next r.line (omega (arith, few, calls, own_calls, more_calls)) (omega (arith, few, work, own_work, more_work)) in
      fault_step names f t r rs ∙ ap (λ o. option_or o (first_fault names f next rs)) fine
      ∙ none_found next rs a.1 (omega (arith, few, more_requests)) (omega (arith, calls, own_calls, more_calls, more_requests)) (omega (arith, work, own_work, more_work, more_requests))

  -- a line with such a row, whatever its number
  pub record HasLight (l : Text) : Type 0 where
    pub name : Text
    pub args : List Text
    pub words_are : words l ≡ name ∷ args
    pub light : (line : ℕ) → IsLight names f (row_of line name args)

  pub rows_light : (n : ℕ) (ls : List Text) → AllByRecursion HasLight ls → AllByRecursion (IsLight names f) (rows n ls) × (length (rows n ls) ≡ length ls)
  rows_light n [] a = subst (λ rs. AllByRecursion (IsLight names f) rs × (length rs ≡ 0)) (sym (rows_nil n)) (tt, refl)
  rows_light n (l ∷ ls) a =
      let has : HasLight l = a.0 in
      let rest = rows_light (n + 1) ls a.1 in
      subst (λ rs. AllByRecursion (IsLight names f) rs × (length rs ≡ suc (length ls))) (sym (rows_more n l ls has.name has.args has.words_are))
      ((has.light n, rest.0), ap suc rest.1)
