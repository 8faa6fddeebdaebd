-- The callers of a hall, put into jobs and taken out of them.
use Rattle.std.proofs.Common.{◌≡◌, ℕ, zero, suc, ◌<◌, ◌≤◌, arith, List, [], ◌∷◌, Some, length, slice_get, slice_index_or, get_or, option_map, refl, sym, ◌∙◌, ap, subst}
use Rattle.std.specs.List.{AllByRecursion}
use Rattle.std.proofs.lemmas.List.{length-map}
use Rattle.std.proofs.lemmas.Option.{slice_get_within, slice_get-get_or, slice_get-map, get_or_from_slice_get}
use Rattle.session_journal.specs.Script.{Meaning}
use Rattle.session_hall.specs.declared.hall.Hall.{Hall}
use Rattle.session_hall.specs.declared.caller.Caller.{Caller}
use Rattle.session_hall.specs.Closings.{Opens, Leaves}
use Rattle.session_hall.specs.Stages.{IsBetween}
use Rattle.turn_board.proofs.Rows.{map-read}
use Rattle.hall_serving.specs.declared.job.Job.{Job}
use Rattle.hall_serving.specs.Jobs.{IsJobOf, HasServed, IsUnkept, callers_of}
use Rattle.hall_serving.specs.Sessions.{IsOpened}

all_from : {X : Type 0} (P : X → Type 0) (xs : List X) → ((i : ℕ) (x : X) → slice_get xs i ≡ Some x → P x) → AllByRecursion P xs
all_from P [] each = tt
all_from P (x ∷ xs) each = (each 0 x refl, all_from P xs (λ i. each (suc i)))

all_at : {X : Type 0} (P : X → Type 0) (xs : List X) (i : ℕ) (x : X) → AllByRecursion P xs → slice_get xs i ≡ Some x → P x
all_at P [] i x a e = absurd cc
all_at P (y ∷ xs) zero x a e = let same : y ≡ x = cc in subst P same a.0
all_at P (y ∷ xs) (suc i) x a e = all_at P xs i x a.1 e

module _ {S : Type 0} (meaning : S → Meaning) (h : Hall S) where
  pub jobs_begin : (js : List (Job S)) (cs : List (Caller S)) → callers_of js ≡ cs → ((i : ℕ) (c : Caller S) → slice_get cs i ≡ Some c → Opens meaning h i c) → AllByRecursion IsUnkept js → AllByRecursion (IsJobOf meaning h) js
  jobs_begin js cs same opens unkept = all_from (IsJobOf meaning h) js (λ i j at.
      let here : slice_get cs i ≡ Some j.holding.caller = ap (λ l. slice_get l i) (sym same) ∙ slice_get-map (λ (x : Job S). x.holding.caller) js i ∙ ap (option_map (λ (x : Job S). x.holding.caller)) at in
      let o = opens i j.holding.caller here in
      record { caller = o.caller; between = subst IsBetween (sym o.idle) tt; unkept = all_at IsUnkept js i j unkept at })

  pub opened : (js : List (Job S)) (cs left : List (Caller S)) (callers room : ℕ) → callers_of js ≡ cs → ((i : ℕ) (c : Caller S) → slice_get cs i ≡ Some c → Opens meaning h i c) → length cs ≡ callers → h.sizes.callers ≡ callers → 1 ≤ callers → left ≡ []
      → length cs ≤ room → AllByRecursion IsUnkept js → IsOpened meaning h js left room
  opened js cs left callers room same opens count sizes some none roomy unkept =
      let long : length js ≡ length cs = sym (length-map js (λ (x : Job S). x.holding.caller)) ∙ ap (λ (l : List (Caller S)). length l) same in
      record {
        opens = λ i c at. opens i c (ap (λ l. slice_get l i) (sym same) ∙ at);
        unkept = unkept;
        all = long ∙ count ∙ sym sizes;
        some = omega (arith, long, count, some);
        none = none;
        roomy = omega (arith, long, roomy);
      }

  pub callers_leave : (js ks : List (Job S)) (cs ds : List (Caller S)) → callers_of js ≡ cs → ds ≡ callers_of ks → length ks ≡ length js → ((i : ℕ) (c : Caller S) → slice_get cs i ≡ Some c → Opens meaning h i c)
      → ((i : ℕ) (d : Job S) → i < length js → HasServed meaning h (slice_index_or js i d) (slice_index_or ks i d)) → (i : ℕ) (c : Caller S) → slice_get ds i ≡ Some c → Leaves meaning h i c
  callers_leave js ks cs ds same back len opens served i c e =
      let there = map-read (λ (x : Job S). x.holding.caller) ks i c (ap (λ l. slice_get l i) (sym back) ∙ e) in
      let k = there.0 in
      let low : i < length js = subst (λ n. i < n) len (slice_get_within ks i k there.1) in
      let j : Job S = get_or js i k in
      let was : slice_get js i ≡ Some j = slice_get-get_or js i k low in
      let o = opens i j.holding.caller (ap (λ l. slice_get l i) (sym same) ∙ slice_get-map (λ (x : Job S). x.holding.caller) js i ∙ ap (option_map (λ (x : Job S). x.holding.caller)) was) in
      let s : HasServed meaning h j k = subst (HasServed meaning h j) (get_or_from_slice_get ks i k k there.1) (served i k low) in
      subst (Leaves meaning h i) there.2 (record { caller = s.caller; number_is = s.number_still ∙ o.number_is; out = s.out })

  -- no job that has served has the book in hand
  pub jobs_end : (js ks : List (Job S)) → length ks ≡ length js → ((i : ℕ) (d : Job S) → i < length js → HasServed meaning h (slice_index_or js i d) (slice_index_or ks i d)) → AllByRecursion IsUnkept ks
  jobs_end js ks len served = all_from IsUnkept ks (λ i k at.
      let low : i < length js = subst (λ n. i < n) len (slice_get_within ks i k at) in
      let s : HasServed meaning h (get_or js i k) k = subst (HasServed meaning h (get_or js i k)) (get_or_from_slice_get ks i k k at) (served i k low) in
      s.unkept)
