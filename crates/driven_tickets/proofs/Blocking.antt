-- The search for the open ticket that is in the way.
use Rattle.std.proofs.Common.{◌≡◌, ℕ, zero, suc, ◌<◌, ◌≤◌, List, [], ◌∷◌, Option, Some, None, MatchOption, length, take, get_or, inl, inr, refl, sym, subst, arith}
use Rattle.session_values.specs.declared.op.Op.{Op}
use Rattle.driven_tickets.specs.declared.open_ticket.OpenTicket.{OpenTicket}
use Rattle.driven_tickets.specs.Tickets.{AreFreeBelow, IsAgainstIn, IsFreeOf, IsSought}

free_next : (op : Op) (n m : ℕ) (list : List OpenTicket) (i : ℕ) (x : OpenTicket) → i < length list → x ≡ get_or list i x → m ≤ n → AreFreeBelow op n (take i list) → (x.ticket < m → IsFreeOf op x) → AreFreeBelow op m (take (suc i) list)
free_next op n m [] i x l is less h k = let no : ⊥ = omega (arith, l) in absurd no
free_next op n m (y ∷ list) zero x l is less h k = let P : OpenTicket → Type 0 = λ o. o.ticket < m → IsFreeOf op o in (subst P is k, tt)
free_next op n m (y ∷ list) (suc i) x l is less h k =
    let l2 : i < length list = omega (arith, l) in
    ((λ b. h.0 (let b2 : y.ticket < n = omega (arith, b, less) in b2)), free_next op n m list i x l2 is less h.1 k)

against_at : (op : Op) (u : ℕ) (list : List OpenTicket) (i : ℕ) (x : OpenTicket) → i < length list → x ≡ get_or list i x → x.ticket ≡ u → (IsFreeOf op x → ⊥) → IsAgainstIn op u list
against_at op u [] i x l is e k = let no : ⊥ = omega (arith, l) in absurd no
against_at op u (y ∷ list) zero x l is e k = let P : OpenTicket → Type 0 = λ o. (o.ticket ≡ u) × (IsFreeOf op o → ⊥) in inl (subst P is (e, k))
against_at op u (y ∷ list) (suc i) x l is e k = let l2 : i < length list = omega (arith, l) in inr (against_at op u list i x l2 is e k)

most : (op : Op) (t : ℕ) (os first : List OpenTicket) (f : Option ℕ) (n : ℕ) → IsSought op t os first f n → n ≤ t
most op t os first None n s = omega (arith, s.what)
most op t os first (Some u) n s = omega (arith, s.what.0, s.what.1)

module _ (op : Op) (t : ℕ) (os : List OpenTicket) (i : ℕ) (x : OpenTicket) (f g : Option ℕ) (n m : ℕ) (l : i < length os) (is : x ≡ get_or os i x) (s : IsSought op t os (take i os) f n) where
  pub takes : x.ticket < n → (IsFreeOf op x → ⊥) → g ≡ Some x.ticket → m ≡ x.ticket → IsSought op t os (take (suc i) os) g m
  takes b k found limit =
      let Q : Option ℕ → Type 0 = λ o. MatchOption o (m ≡ t) (λ u. (u ≡ m) × (u < t) × IsAgainstIn op u os) in
      let few : n ≤ t = most op t os (take i os) f n s in
      let below : x.ticket < t = omega (arith, b, few) in
      record {
        free = free_next op n m os i x l is (omega (arith, b, limit)) s.free (λ b2. let no : ⊥ = omega (arith, b2, limit) in absurd no);
        what = subst Q (sym found) (sym limit, below, against_at op x.ticket os i x l is refl k);
      }

  pub passes : (x.ticket < n → IsFreeOf op x) → g ≡ f → m ≡ n → IsSought op t os (take (suc i) os) g m
  passes k found limit =
      let Q : Option ℕ → Type 0 = λ o. IsSought op t os (take (suc i) os) o m in
      let R : ℕ → Type 0 = λ j. IsSought op t os (take (suc i) os) f j in
      subst Q (sym found) (subst R (sym limit) (record { free = free_next op n n os i x l is (omega arith) s.free k; what = s.what }))
