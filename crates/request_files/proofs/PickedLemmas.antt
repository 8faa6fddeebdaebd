-- Requests by different numbers: what they add up to is at most what all do.
use Rattle.std.proofs.Common.{◌≡◌, ◌≢◌, ℕ, zero, suc, ◌+◌, ◌<◌, ◌≤◌, Bool, true, false, ◌==◌, cond, List, [], ◌∷◌, ◌++◌, length, take, get_or, refl, sym, ap, ◌∙◌, arith}
use Rattle.std.proofs.lemmas.Bool.Decides.{nat_tests}
use Rattle.std.proofs.lemmas.List.Sums.{sum_by-cons}
use Rattle.std.specs.List.{AllByRecursion, sum_by}
use Rattle.session_values.proofs.Sums.{sum_first}
use Rattle.session_values.specs.Sums.{sum_below}
use Rattle.syntax_trees.specs.declared.file.File.{File}
use Rattle.handler_check.specs.Bounds.{calls_bound, work_bound}
use Rattle.handler_check.specs.Resolved.{code_at}
use Rattle.text_lines.specs.Text.{Text}
use Rattle.session_values.specs.ReplyText.{IsPrintable}
use Rattle.request_files.specs.declared.request.Request.{Request}
use Rattle.request_files.specs.declared.entry.Entry.{Entry}
use Rattle.request_files.specs.Entries.{AreWithin, IsBehind, request_in, requests_in}
use Rattle.request_files.proofs.EntryLemmas.{request_behind, requests_push}
use Rattle.session_values.specs.declared.value.Value.{Value}
use Rattle.std.proofs.lemmas.List.{map_more}
use Rattle.request_files.specs.Picked.{AreDifferent, AreNumbersOf, picked}
use Rattle.request_files.specs.Requests.{ArePrintable}
use Rattle.request_files.specs.Servable.{IsRequestOf, IsServable}
use Rattle.request_files.specs.Session.{request_at}

-- ---- different numbers below a bound

-- the numbers but this one
abbrev without : ℕ → List ℕ → List ℕ
without k [] = []
without k (n ∷ ns) = cond (n == k) (without k ns) (n ∷ without k ns)

abbrev pub total : (ℕ → ℕ) → List ℕ → ℕ
total w [] = 0
total w (n ∷ ns) = w n + total w ns

abbrev Below : ℕ → List ℕ → Type 0
Below k ns = AllByRecursion (λ n. n < k) ns

none_lost : (w : ℕ → ℕ) (k : ℕ) (ns : List ℕ) → AllByRecursion (λ m. m ≢ k) ns → total w (without k ns) ≡ total w ns
none_lost w k [] a = refl
none_lost w k (n ∷ ns) a =
    let other : (n == k) ≡ false = (let h : n ≢ k = a.0 in grind (arith, nat_tests)) in
    ap (λ b. total w (cond b (without k ns) (n ∷ without k ns))) other ∙ ap (λ m. w n + m) (none_lost w k ns a.1)

one_lost : (w : ℕ → ℕ) (k : ℕ) (ns : List ℕ) → AreDifferent ns → total w ns ≤ w k + total w (without k ns)
one_lost w k [] d = omega arith
one_lost w k (n ∷ ns) d = go (one_lost w k ns d.1) (n == k) refl
  where
    go : total w ns ≤ w k + total w (without k ns) → (b : Bool) → (n == k) ≡ b → w n + total w ns ≤ w k + total w (cond (n == k) (without k ns) (n ∷ without k ns))
    go later true e =
        let same : n ≡ k = grind (arith, nat_tests) in
        let all : total w (without k ns) ≡ total w ns = ap (λ j. total w (without j ns)) (sym same) ∙ none_lost w n ns d.0 in
        let now : total w (cond (n == k) (without k ns) (n ∷ without k ns)) ≡ total w (without k ns) = ap (λ b. total w (cond b (without k ns) (n ∷ without k ns))) e in
        omega (arith, all, now, ap w same)
    go later false e =
        let now : total w (cond (n == k) (without k ns) (n ∷ without k ns)) ≡ w n + total w (without k ns) = ap (λ b. total w (cond b (without k ns) (n ∷ without k ns))) e in
        omega (arith, now, later)

module _ (P : ℕ → Type 0) where
  all_without : (k : ℕ) (ns : List ℕ) → AllByRecursion P ns → AllByRecursion P (without k ns)
  all_without k [] a = a
  all_without k (n ∷ ns) a = go (all_without k ns a.1) (n == k)
    where
      go : AllByRecursion P (without k ns) → (b : Bool) → AllByRecursion P (cond b (without k ns) (n ∷ without k ns))
      go later true = later
      go later false = (a.0, later)

different_without : (k : ℕ) (ns : List ℕ) → AreDifferent ns → AreDifferent (without k ns)
different_without k [] d = d
different_without k (n ∷ ns) d = go (different_without k ns d.1) (n == k)
  where
    go : AreDifferent (without k ns) → (b : Bool) → AreDifferent (cond b (without k ns) (n ∷ without k ns))
    go later true = later
    go later false = (all_without (λ m. m ≢ n) k ns d.0, later)

below_without : (k : ℕ) (ns : List ℕ) → Below (suc k) ns → Below k (without k ns)
below_without k [] a = a
below_without k (n ∷ ns) a = go (below_without k ns a.1) (n == k) refl
  where
    go : Below k (without k ns) → (b : Bool) → (n == k) ≡ b → Below k (cond b (without k ns) (n ∷ without k ns))
    go later true e = later
    go later false e = ((let h : n < suc k = a.0 in let other : n ≢ k = λ s. absurd (let t : (n == k) ≡ true = grind (arith, nat_tests) in cc) in omega (arith, h, other)), later)

pub total_below : (w : ℕ → ℕ) (k : ℕ) (ns : List ℕ) → Below k ns → AreDifferent ns → total w ns ≤ sum_below k w
total_below w zero [] a d = omega arith
total_below w zero (n ∷ ns) a d = absurd (let h : n < 0 = a.0 in omega (arith, h))
total_below w (suc k) ns a d = omega (arith, one_lost w k ns d, total_below w k (without k ns) (below_without k ns a) (different_without k ns d))

-- ---- there are no more of them than the bound
sum_ones : (k : ℕ) → sum_below k (λ n. 1) ≡ k
sum_ones zero = refl
sum_ones (suc k) = omega (arith, sum_ones k)

total_ones : (ns : List ℕ) → total (λ n. 1) ns ≡ length ns
total_ones [] = refl
total_ones (n ∷ ns) = omega (arith, total_ones ns)

pub numbers_few : (count : ℕ) (ns : List ℕ) → AreNumbersOf count ns → length ns ≤ count
numbers_few count ns a = omega (arith, sum_ones count, total_ones ns, total_below (λ n. 1) count ns a.below a.different)

-- ---- sums over picked requests
module _ (f : Request → ℕ) where
  pub sum_all : (rs : List Request) → sum_below (length rs) (λ n. f (request_at rs n)) ≡ sum_by f rs
  sum_all [] = refl
  sum_all (r ∷ rs) = omega (arith, sum_first (length rs) (λ n. f (request_at (r ∷ rs) n)), sum_all rs, sum_by-cons f r rs)

  sum_picked : (rs : List Request) (ns : List ℕ) → sum_by f (picked rs ns) ≡ total (λ n. f (request_at rs n)) ns
  sum_picked rs [] = refl
  sum_picked rs (n ∷ ns) = sum_by-cons f (request_at rs n) (picked rs ns) ∙ ap (λ m. f (request_at rs n) + m) (sum_picked rs ns)

  pub sums_within : (rs : List Request) (ns : List ℕ) → AreNumbersOf (length rs) ns → sum_by f (picked rs ns) ≤ sum_by f rs
  sums_within rs ns a = omega (arith, sum_picked rs ns, sum_all rs, total_below (λ n. f (request_at rs n)) (length rs) ns a.below a.different)

module _ (P : Request → Type 0) where
  all_at : (rs : List Request) (n : ℕ) → AllByRecursion P rs → n < length rs → P (request_at rs n)
  all_at [] n a h = absurd (omega arith)
  all_at (r ∷ rs) zero a h = a.0
  all_at (r ∷ rs) (suc n) a h = all_at rs n a.1 (omega arith)

  pub all_picked : (rs : List Request) (ns : List ℕ) → AllByRecursion P rs → Below (length rs) ns → AllByRecursion P (picked rs ns)
  all_picked rs [] a b = tt
  all_picked rs (n ∷ ns) a b = (all_at rs n a b.0, all_picked rs ns a b.1)

picked_long : (rs : List Request) (ns : List ℕ) → length (picked rs ns) ≡ length ns
picked_long rs [] = refl
picked_long rs (n ∷ ns) = ap suc (picked_long rs ns)

-- ---- laws
pub picked_servable : (f : File) (rs : List Request) (ns : List ℕ) → AreNumbersOf (length rs) ns → IsServable f rs → IsServable f (picked rs ns)
picked_servable f rs ns a s =
    let few = s.few in
    let calls = s.calls in
    let work = s.work in
    record {
      few = omega (arith, picked_long rs ns, numbers_few (length rs) ns a, few);
      each = all_picked (IsRequestOf f) rs ns s.each a.below;
      calls = omega (arith, sums_within (λ (r : Request). calls_bound (code_at f r.handler)) rs ns a, calls);
      work = omega (arith, sums_within (λ (r : Request). work_bound (code_at f r.handler)) rs ns a, work);
    }

pub picked_printable : (names : List Text) (rs : List Request) (ns : List ℕ) → AreNumbersOf (length rs) ns → ArePrintable names rs → ArePrintable names (picked rs ns)
picked_printable names rs ns a p = all_picked (λ r. AllByRecursion (IsPrintable names) r.args) rs ns p a.below

-- ---- one request more is picked
pub picked_more : (rs : List Request) (ns : List ℕ) (i : ℕ) (old new more : List Value) (es : List Entry) (handler args first : ℕ)
    → requests_in old es ≡ picked rs (take i ns) → AreWithin (length old) es → i < length ns → IsBehind old new (record { handler = handler; args = args; first = first })
    → new ≡ old ++ more → first ≡ length old → args ≡ length more → handler ≡ (request_at rs (get_or ns i 0)).handler → more ≡ (request_at rs (get_or ns i 0)).args
    → requests_in new (es ++ record { handler = handler; args = args; first = first } ∷ []) ≡ picked rs (take (i + 1) ns)
picked_more rs ns i old new more es handler args first so within h behind grown at many same_handler same_args =
    let same : request_in new (record { handler = handler; args = args; first = first }) ≡ request_at rs (get_or ns i 0) =
    request_behind old new more handler args first grown at many ∙ (λ j. record { handler = same_handler j; args = same_args j }) in
    requests_push old new es (record { handler = handler; args = args; first = first }) within behind
    ∙ (λ j. so j ++ same j ∷ []) ∙ sym (map_more (request_at rs) ns i 0 h)
