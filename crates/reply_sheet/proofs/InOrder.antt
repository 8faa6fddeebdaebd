-- All requests can arrive: one client's after another's.
use Rattle.std.proofs.Common.{◌≡◌, ℕ, zero, suc, ◌+◌, ◌<◌, Bool, true, false, cond, eqb, List, [], ◌∷◌, ◌++◌, length, length-append, sum, refl, sym, ap, ◌∙◌, subst, append-nil, arith}
use Rattle.std.proofs.lemmas.Bool.{eq-eqb, ne_eqb}
use Rattle.std.proofs.lemmas.List.Sums.{sum_by-cons}
use Rattle.reply_sheet.specs.declared.arrival.Arrival.{Arrival}
use Rattle.reply_sheet.specs.Arrivals.{of, Rises, count_at, IsDrawn}

-- so many of one client's, from this place on
abbrev row : ℕ → ℕ → ℕ → List Arrival
row p k zero = []
row p k (suc n) = record { client = p; place = k } ∷ row p (suc k) n

-- those of client p, then of the one behind it, and so on
abbrev pub in_order : ℕ → List ℕ → List Arrival
in_order p [] = []
in_order p (n ∷ counts) = row p 0 n ++ in_order (suc p) counts

row_length : (p k n : ℕ) → length (row p k n) ≡ n
row_length p k zero = refl
row_length p k (suc n) = ap suc (row_length p (suc k) n)

pub in_order_length : (p : ℕ) (counts : List ℕ) → length (in_order p counts) ≡ sum counts
in_order_length p [] = refl
in_order_length p (n ∷ counts) =
    let parts : length (in_order p (n ∷ counts)) ≡ length (row p 0 n) + length (in_order (suc p) counts) = length-append (row p 0 n) (in_order (suc p) counts) in
    let first : length (row p 0 n) ≡ n = row_length p 0 n in
    let rest : length (in_order (suc p) counts) ≡ sum counts = in_order_length (suc p) counts in
    let whole : sum (n ∷ counts) ≡ n + sum counts = sum_by-cons (λ (x : ℕ). x) n counts in
    omega (arith, parts, first, rest, whole)

of_more : (p : ℕ) (xs ys : List Arrival) → of p (xs ++ ys) ≡ of p xs ++ of p ys
of_more p [] ys = refl
of_more p (x ∷ xs) ys = by (eqb x.client p) (of_more p xs ys)
  where
    by : (b : Bool) → of p (xs ++ ys) ≡ of p xs ++ of p ys → cond b (x.place ∷ of p (xs ++ ys)) (of p (xs ++ ys)) ≡ cond b (x.place ∷ of p xs) (of p xs) ++ of p ys
    by true e = ap (λ (l : List ℕ). x.place ∷ l) e
    by false e = e

row_own : (p k n : ℕ) → Rises k (of p (row p k n)) (k + n)
row_own p k zero = (let e : k ≡ k + 0 = omega arith in e)
row_own p k (suc n) = by (eqb p p) (eq-eqb p p refl) (subst (λ (m : ℕ). Rises (suc k) (of p (row p (suc k) n)) m) (let e : suc k + n ≡ k + suc n = omega arith in e) (row_own p (suc k) n))
  where
    by : (b : Bool) → b ≡ true → Rises (suc k) (of p (row p (suc k) n)) (k + suc n) → Rises k (cond b (k ∷ of p (row p (suc k) n)) (of p (row p (suc k) n))) (k + suc n)
    by true e h = (refl, h)
    by false e h = cc

row_other : (p q k n : ℕ) → (q ≡ p → ⊥) → of p (row q k n) ≡ []
row_other p q k zero d = refl
row_other p q k (suc n) d = ap (λ (b : Bool). cond b (k ∷ of p (row q (suc k) n)) (of p (row q (suc k) n))) (ne_eqb q p d) ∙ row_other p q (suc k) n d

none_before : (p q : ℕ) (counts : List ℕ) → p < q → of p (in_order q counts) ≡ []
none_before p q [] l = refl
none_before p q (n ∷ counts) l =
    of_more p (row q 0 n) (in_order (suc q) counts)
    ∙ ap (λ (xs : List ℕ). xs ++ of p (in_order (suc q) counts)) (row_other p q 0 n (λ e. omega (arith, l, e)))
    ∙ none_before p (suc q) counts (omega (arith, l))

rises_at : (p q : ℕ) (counts : List ℕ) → Rises 0 (of (q + p) (in_order q counts)) (count_at counts p)
rises_at p q [] = refl
rises_at zero q (n ∷ counts) =
    let own : of (q + 0) (in_order q (n ∷ counts)) ≡ of q (row q 0 n) =
    ap (λ (c : ℕ). of c (in_order q (n ∷ counts))) (let e : q + 0 ≡ q = omega arith in e)
    ∙ of_more q (row q 0 n) (in_order (suc q) counts)
    ∙ ap (λ (xs : List ℕ). of q (row q 0 n) ++ xs) (none_before q (suc q) counts (omega arith))
    ∙ append-nil (of q (row q 0 n)) in
    subst (λ (xs : List ℕ). Rises 0 xs n) (sym own) (subst (λ (m : ℕ). Rises 0 (of q (row q 0 n)) m) (let e : 0 + n ≡ n = omega arith in e) (row_own q 0 n))
rises_at (suc p) q (n ∷ counts) =
    let others : of (q + suc p) (in_order q (n ∷ counts)) ≡ of (suc q + p) (in_order (suc q) counts) =
    of_more (q + suc p) (row q 0 n) (in_order (suc q) counts)
    ∙ ap (λ (xs : List ℕ). xs ++ of (q + suc p) (in_order (suc q) counts)) (row_other (q + suc p) q 0 n (λ e. omega (arith, e)))
    ∙ ap (λ (c : ℕ). of c (in_order (suc q) counts)) (let e : q + suc p ≡ suc q + p = omega arith in e) in
    subst (λ (xs : List ℕ). Rises 0 xs (count_at counts p)) (sym others) (rises_at p (suc q) counts)

-- each client's arrive in its order, and all that it has
pub in_order_drawn : (counts : List ℕ) → IsDrawn counts (in_order 0 counts)
in_order_drawn counts p = (count_at counts p, subst (λ (c : ℕ). Rises 0 (of c (in_order 0 counts)) (count_at counts p)) (let e : 0 + p ≡ p = omega arith in e) (rises_at p 0 counts), omega arith)
