-- Lemmas on the facts of points.
use Rattle.std.proofs.Common.{◌≡◌, ℕ, zero, suc, ◌+◌, ◌-◌, ◌<◌, ◌≤◌, List, [], ◌∷◌, ◌++◌, length, take, get_or, false, ◌⊎◌, inl, inr, sym, ap, ◌∙◌, subst, arith, below_more}
use Rattle.std.specs.Prelude.{◌≢◌, Some, slice_get, slice_index_or}
use Rattle.std.specs.List.{AllByRecursion}
use Rattle.std.proofs.Math.Seq.{get_or-append_seam}
use Rattle.std.proofs.lemmas.Bool.{cases_lt}
use Rattle.std.proofs.lemmas.List.{get_or_append_left, get_or_read}
use Rattle.std.proofs.lemmas.Option.{get_or_from_slice_get, slice_get_within}
use Rattle.std.specs.Cmp.{eq_by_cmp_equiv}
use Rattle.std.specs.Ordering.{eq_by_cmp}
use Rattle.symbolic_ops.specs.Order.{symbol_cmp}
use Rattle.symbolic_ops.proofs.Orders.{symbol_cmp_total}
use Rattle.symbolic_ops.specs.declared.symbol.Symbol.{Symbol}
use Rattle.declaration_insertion.specs.declared.facts.PointFacts.{PointFacts}
use Rattle.declaration_insertion.specs.Facts.{AreAllFacts, HasFacts, IsAlike, IsOther, NamesEachOnce, no_facts}
use Rattle.declaration_insertion.specs.Promises.{Declarations, listed}

not_same : (a b : Symbol) → eq_by_cmp symbol_cmp a b ≡ false → a ≢ b
not_same a b e same = absurd (cc (sym e ∙ ap (eq_by_cmp symbol_cmp a) (sym same) ∙ (eq_by_cmp_equiv symbol_cmp_total).refl a))

-- lists that differ in length, or at a place
pub other_length : (a b : List Symbol) → length a ≢ length b → a ≢ b
other_length a b other same = other (ap length same)

pub other_at : (a b : List Symbol) (i : ℕ) (x y : Symbol) → x ≡ get_or a i x → y ≡ get_or b i y → i < length b → eq_by_cmp symbol_cmp x y ≡ false → a ≢ b
other_at a b i x y in_a in_b lt e same = not_same x y e (in_a ∙ ap (λ (z : List Symbol). get_or z i x) same ∙ sym (get_or_read b i y lt in_b x))

others_more : (s t : Symbol) (list : List Symbol) → AllByRecursion (IsOther s) list → IsOther s t → AllByRecursion (IsOther s) (list ++ t ∷ [])
others_more s t [] h o = (o, tt)
others_more s t (x ∷ list) h o = (h.0, others_more s t list h.1 o)

-- one more symbol behind, which is another one than those before
pub once_more : (list : List Symbol) (t : Symbol) → NamesEachOnce list → AllByRecursion (λ s. IsOther s t) list → NamesEachOnce (list ++ t ∷ [])
once_more [] t h o = (tt, tt)
once_more (s ∷ list) t h o = (others_more s t list h.0 o.0, once_more list t h.1 o.1)

all_at : (P : Symbol → Type 0) (list : List Symbol) (i : ℕ) (d : Symbol) → AllByRecursion P list → i < length list → P (get_or list i d)
all_at P [] i d h lt = absurd (omega (arith, lt))
all_at P (s ∷ list) zero d h lt = h.0
all_at P (s ∷ list) (suc i) d h lt = all_at P list i d h.1 (omega (arith, lt))

-- one symbol of the list is of this one's kind, on its table
pub same_among : (list : List Symbol) (i : ℕ) (t s : Symbol) → t ≡ get_or list i t → i < length list → (IsOther t s → ⊥) → AllByRecursion (λ z. IsOther z s) list → ⊥
same_among list i t s at lt same others = same (subst (λ (z : Symbol). IsOther z s) (sym at) (all_at (λ z. IsOther z s) list i t others lt))

others_before : (list : List Symbol) (i : ℕ) (d : Symbol) → NamesEachOnce list → i < length list → AllByRecursion (λ z. IsOther z (get_or list i d)) (take i list)
others_before [] i d h lt = absurd (omega (arith, lt))
others_before (s ∷ list) zero d h lt = tt
others_before (s ∷ list) (suc i) d h lt = (all_at (IsOther s) list i d h.0 (omega (arith, lt)), others_before list i d h.1 (omega (arith, lt)))

-- so is one of those before it
pub named_twice : (list : List Symbol) (i : ℕ) (s : Symbol) → s ≡ get_or list i s → i < length list → (AllByRecursion (λ z. IsOther z s) (take i list) → ⊥) → NamesEachOnce list → ⊥
named_twice list i s at lt same once = same (subst (λ (x : Symbol). AllByRecursion (λ z. IsOther z x) (take i list)) (sym at) (others_before list i s once lt))

same_itself : (declared : Declarations) (point q : ℕ) → point ≤ q → q ≤ point → declared q ≡ declared point
same_itself declared point q low high =
    let e : q ≡ point = omega (arith, low, high) in ap declared e

pub alike_itself : (declared : Declarations) (point : ℕ) → (0 < point → declared (point - 1) ≢ declared point) → IsAlike declared point point
alike_itself declared point other = record { within = omega arith; same = same_itself declared point; least = other }

pub alike_first : (declared : Declarations) → IsAlike declared 0 (0 - 1)
alike_first declared = alike_itself declared 0 (λ lt. absurd (omega (arith, lt)))

-- the same as at the point before
pub alike_next : (declared : Declarations) (first point : ℕ) → IsAlike declared first (point - 1) → (0 < point) × (declared (point - 1) ≡ declared point) → IsAlike declared first point
alike_next declared first point h e = record { within = omega (arith, h.within); same = λ q low high. same q low high (cases_lt q point); least = h.least }
  where
    same : (q : ℕ) → first ≤ q → q ≤ point → (q < point) ⊎ (point ≤ q) → declared q ≡ declared point
    same q low high (inl lt) = h.same q low (omega (arith, lt)) ∙ e.1
    same q low high (inr le) = same_itself declared point q le high

-- what holds of each element of a list holds with one more behind
pub more_read : {A : Type 0} (P : ℕ → A → Type 0) (d : A) (xs ys : List A) (x : A) (n : ℕ) → length xs ≡ n → ys ≡ xs ++ x ∷ [] → ((k : ℕ) → k < n → P k (slice_index_or xs k d)) → P n x → (k : ℕ) → k < n + 1 → P k (slice_index_or ys k d)
more_read {A} P d xs ys x n long e below here =
    let last : get_or ys n d ≡ x = ap (λ (z : List A). get_or z n d) e ∙ ap (λ (m : ℕ). get_or (xs ++ x ∷ []) m d) (sym long) ∙ get_or-append_seam xs x [] d in
    below_more (λ k. P k (get_or ys k d)) n (λ k lt. subst (P k) (sym (ap (λ (z : List A). get_or z k d) e ∙ get_or_append_left xs (x ∷ []) d k (omega (arith, long, lt)))) (below k lt)) (subst (P n) (sym last) here)

-- the facts that are read at a place
pub facts_read : (all : List (List (List Symbol))) (items : List (List PointFacts)) (h point : ℕ) (own : List PointFacts) (f : PointFacts) → AreAllFacts all items → h < length items → own ≡ slice_index_or items h own → slice_get own point ≡ Some f → HasFacts (listed (slice_index_or all h [])) point f
facts_read all items h point own f are lt at got =
    let place : own ≡ get_or items h [] = get_or_read items h own lt at [] in
    let inside : point < length (get_or items h []) = subst (λ (z : List PointFacts). point < length z) place (slice_get_within own point f got) in
    subst (HasFacts (listed (slice_index_or all h [])) point) (ap (λ (z : List PointFacts). get_or z point no_facts) (sym place) ∙ get_or_from_slice_get own point f no_facts got) ((are.each h lt).each point inside)
