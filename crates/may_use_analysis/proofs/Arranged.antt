-- Finitely many symbols have a list in order, and so has each point.
use Rattle.std.proofs.Common.{◌≡◌, ℕ, List, [], ◌∷◌, refl, sym, ap, ◌∙◌, subst, inl, inr, ◌⊎◌, ◌↔◌, Contains}
use Rattle.std.specs.List.{AllByRecursion}
use Rattle.std.specs.List.Sorted.{IsStrictlySortedBy}
use Rattle.std.specs.Ordering.{ordering_reverse}
use Rattle.std.specs.declared.cmp.Ordering.{Ordering}
use Rattle.std.specs.declared.cmp.Ordering.TheVariants.{Less, Equal, Greater}
use Rattle.std.proofs.lemmas.Map.Keys.{sorted_head, sorted_tail}
use Rattle.symbolic_ops.specs.Order.{symbol_cmp}
use Rattle.symbolic_ops.specs.declared.symbol.Symbol.{Symbol}
use Rattle.symbolic_ops.proofs.Orders.{symbol_cmp_total, symbol_exact}
use Rattle.check_meaning.specs.Code.{Code}
use Rattle.may_use_analysis.specs.Flow.{Flow, FlowPoint}
use Rattle.may_use_analysis.specs.Later.{IsLaterList}
use Rattle.may_use_analysis.proofs.PointLemmas.{later_is_flow}
use Rattle.may_use_analysis.proofs.Sorting.{sorted_cons, sorted_nil}
use Rattle.may_use_analysis.proofs.Unique.{none_in_nil, cons_cases, cons_head, cons_tail}
use Rattle.may_use_analysis.proofs.Finite.{none_finite, both_finite, when_finite, flow_finite, point_finite}

all_by_members : (P : Symbol → Type 0) (xs : List Symbol) → ((s : Symbol) → Contains xs s → P s) → AllByRecursion P xs
all_by_members P [] h = tt
all_by_members P (x ∷ xs) h = (h x (cons_head x xs), all_by_members P xs (λ s m. h s (cons_tail x xs s m)))

all_to_members : (P : Symbol → Type 0) (xs : List Symbol) → AllByRecursion P xs → (s : Symbol) → Contains xs s → P s
all_to_members P [] a s m = absurd (none_in_nil s m)
all_to_members P (x ∷ xs) a s m = go (cons_cases x xs s m) (all_to_members P xs a.1 s)
  where
    go : (s ≡ x) ⊎ Contains xs s → (Contains xs s → P s) → P s
    go (inl e) k = subst P (sym e) a.0
    go (inr n) k = k n

abbrev HasOrder : List Symbol → Type 0
HasOrder xs = (ys : List Symbol) × IsStrictlySortedBy symbol_cmp ys × ((s : Symbol) → Contains ys s ↔ Contains xs s)

placed : (ys : List Symbol) (s : Symbol) → IsStrictlySortedBy symbol_cmp ys → (zs : List Symbol) × IsStrictlySortedBy symbol_cmp zs × ((q : Symbol) → Contains zs q ↔ ((q ≡ s) ⊎ Contains ys q))
placed [] s o = (s ∷ [], sorted_cons symbol_cmp s [] tt o, λ q. (λ m. cons_cases s [] q m, both q))
  where
    both : (q : Symbol) → (q ≡ s) ⊎ Contains [] q → Contains (s ∷ []) q
    both q (inl e) = subst (Contains (s ∷ [])) (sym e) (cons_head s [])
    both q (inr m) = cons_tail s [] q m
placed (y ∷ ys) s o = go (symbol_cmp s y) refl (placed ys s (sorted_tail symbol_cmp y ys o))
  where
    among : (zs : List Symbol) (z q : Symbol) → (q ≡ z) ⊎ Contains zs q → Contains (z ∷ zs) q
    among zs z q (inl e) = subst (Contains (z ∷ zs)) (sym e) (cons_head z zs)
    among zs z q (inr m) = cons_tail z zs q m

    known : (q : Symbol) → s ≡ y → (q ≡ s) ⊎ Contains (y ∷ ys) q → Contains (y ∷ ys) q
    known q e (inl f) = among ys y q (inl (f ∙ e))
    known q e (inr m) = m

    past : symbol_cmp s y ≡ Less → (zs : List Symbol) → AllByRecursion (λ z. symbol_cmp y z ≡ Less) zs → AllByRecursion (λ z. symbol_cmp s z ≡ Less) zs
    past e [] k = tt
    past e (z ∷ zs) k = (symbol_cmp_total.trans s y z e k.0, past e zs k.1)

    turned : (q : Symbol) → (q ≡ y) ⊎ ((q ≡ s) ⊎ Contains ys q) → (q ≡ s) ⊎ Contains (y ∷ ys) q
    turned q (inl e) = inr (among ys y q (inl e))
    turned q (inr (inl e)) = inl e
    turned q (inr (inr m)) = inr (cons_tail y ys q m)

    turned_back : (q : Symbol) → (q ≡ s) ⊎ ((q ≡ y) ⊎ Contains ys q) → (q ≡ y) ⊎ ((q ≡ s) ⊎ Contains ys q)
    turned_back q (inl e) = inr (inl e)
    turned_back q (inr (inl e)) = inl e
    turned_back q (inr (inr m)) = inr (inr m)

    opened : (q : Symbol) → (q ≡ s) ⊎ Contains (y ∷ ys) q → (q ≡ s) ⊎ ((q ≡ y) ⊎ Contains ys q)
    opened q (inl e) = inl e
    opened q (inr m) = inr (cons_cases y ys q m)

    above : symbol_cmp y s ≡ Less → (z : Symbol) → (z ≡ s) ⊎ Contains ys z → symbol_cmp y z ≡ Less
    above e z (inl f) = subst (λ (v : Symbol). symbol_cmp y v ≡ Less) (sym f) e
    above e z (inr m) = all_to_members (λ v. symbol_cmp y v ≡ Less) ys (sorted_head symbol_cmp y ys o) z m

    take_out : (zs : List Symbol) (q : Symbol) → (Contains zs q → (q ≡ s) ⊎ Contains ys q) → (q ≡ y) ⊎ Contains zs q → (q ≡ y) ⊎ ((q ≡ s) ⊎ Contains ys q)
    take_out zs q h (inl e) = inl e
    take_out zs q h (inr m) = inr (h m)

    unlift : (zs : List Symbol) (q : Symbol) → ((q ≡ s) ⊎ Contains ys q → Contains zs q) → (q ≡ y) ⊎ ((q ≡ s) ⊎ Contains ys q) → (q ≡ y) ⊎ Contains zs q
    unlift zs q h (inl e) = inl e
    unlift zs q h (inr m) = inr (h m)

    go : (c : Ordering) → symbol_cmp s y ≡ c → (zs : List Symbol) × IsStrictlySortedBy symbol_cmp zs × ((q : Symbol) → Contains zs q ↔ ((q ≡ s) ⊎ Contains ys q)) → (zs : List Symbol) × IsStrictlySortedBy symbol_cmp zs × ((q : Symbol) → Contains zs q ↔ ((q ≡ s) ⊎ Contains (y ∷ ys) q))
    go Equal e r = (y ∷ ys, o, λ q. (λ m. inr m, known q (symbol_exact s y e)))
    go Less e r =
        (s ∷ (y ∷ ys), sorted_cons symbol_cmp s (y ∷ ys) (e, past e ys (sorted_head symbol_cmp y ys o)) o, λ q. (λ m. cons_cases s (y ∷ ys) q m, among (y ∷ ys) s q))
    go Greater e r =
        let less : symbol_cmp y s ≡ Less = symbol_cmp_total.antisymm y s ∙ ap ordering_reverse e in
        (y ∷ r.0, sorted_cons symbol_cmp y r.0 (all_by_members (λ v. symbol_cmp y v ≡ Less) r.0 (λ z m. above less z ((r.2 z).0 m))) r.1, λ q. (λ m. turned q (take_out r.0 q (λ k. (r.2 q).0 k) (cons_cases y r.0 q m)), λ m. among r.0 y q (unlift r.0 q (λ k. (r.2 q).1 k) (turned_back q (opened q m)))))

in_its_order : (xs : List Symbol) → HasOrder xs
in_its_order [] = ([], sorted_nil symbol_cmp [] refl, λ s. (λ m. m, λ m. m))
in_its_order (x ∷ xs) =
    let r = in_its_order xs in
    let p = placed r.0 x r.1 in
    (p.0, p.1, λ s. (λ m. put s r.0 (λ k. (r.2 s).0 k) ((p.2 s).0 m), λ m. (p.2 s).1 (take s r.0 (λ k. (r.2 s).1 k) (cons_cases x xs s m))))
  where
    put : (s : Symbol) (ys : List Symbol) → (Contains ys s → Contains xs s) → (s ≡ x) ⊎ Contains ys s → Contains (x ∷ xs) s
    put s ys h (inl e) = subst (Contains (x ∷ xs)) (sym e) (cons_head x xs)
    put s ys h (inr m) = cons_tail x xs s (h m)

    take : (s : Symbol) (ys : List Symbol) → (Contains xs s → Contains ys s) → (s ≡ x) ⊎ Contains xs s → (s ≡ x) ⊎ Contains ys s
    take s ys h (inl e) = inl e
    take s ys h (inr m) = inr (h m)

-- each point has its list
pub later_list : (code : Code) (p : ℕ) → (list : List Symbol) × IsLaterList code p list
later_list code p =
    let set = both_finite (λ s. (p ≡ 0) × Flow code (λ z. ⊥) s) (FlowPoint code p (λ z. ⊥)) (when_finite p 0 (Flow code (λ z. ⊥)) (flow_finite code (λ z. ⊥) none_finite)) (point_finite code p (λ z. ⊥) none_finite) in
    let r = in_its_order set.0 in
    (r.0, (r.1, λ s. (λ m. (later_is_flow code p s).1 ((set.1 s).0 ((r.2 s).0 m)), λ m. (r.2 s).1 ((set.1 s).1 ((later_is_flow code p s).0 m)))))
