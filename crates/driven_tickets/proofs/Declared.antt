-- What a ticket has declared, by its place among the open ones; and that its operation is free.
use Rattle.std.proofs.Common.{◌≡◌, ℕ, zero, suc, ◌<◌, List, [], ◌∷◌, Some, None, true, false, cond, eqb, length, take, get_or, slice_get, inl, inr, refl, sym, ◌∙◌, ap, subst, arith}
use Rattle.std.specs.List.{AllByRecursion}
use Rattle.std.proofs.lemmas.Bool.Decides.{nat_tests}
use Rattle.std.proofs.lemmas.Bool.{eq-eqb}
use Rattle.std.proofs.lemmas.Option.{same_Some, slice_get-get_or}
use Rattle.session_values.specs.declared.op.Op.{Op}
use Rattle.session_values.specs.Commuting.{Commute}
use Rattle.symbolic_ops.specs.declared.symbol.Symbol.{Symbol}
use Rattle.symbolic_ops.specs.Matching.{Matches}
use Rattle.symbolic_ops.specs.Commuting.{CommutesWith, CommutesWithAll}
use Rattle.driven_tickets.specs.declared.open_ticket.OpenTicket.{OpenTicket}
use Rattle.driven_tickets.specs.Tickets.{AreFreeBelow, IsAt, declared_in}

apart : (a b : ℕ) → (b ≡ a → ⊥) → eqb a b ≡ false
apart a b k = elim (eqb a b) as (λ v. eqb a b ≡ v → v ≡ false) [ true ↦ λ e. absurd (k (same a b e)) | false ↦ λ e. refl ] refl
  where
    same : (a b : ℕ) → eqb a b ≡ true → b ≡ a
    same a b e = grind (arith, nat_tests)

found_at : (list : List OpenTicket) (t i : ℕ) (o : OpenTicket) → slice_get list i ≡ Some o → declared_in (take i list) t ≡ None → o.ticket ≡ t → declared_in list t ≡ Some o.declared.symbols
found_at [] t i o q h e = absurd (cc q)
found_at (y ∷ list) t zero o q h e =
    let is : y ≡ o = same_Some y o q in
    ap (λ b. cond b (Some y.declared.symbols) (declared_in list t)) (eq-eqb t y.ticket (sym e ∙ ap (λ (z : OpenTicket). z.ticket) (sym is))) ∙ ap (λ (z : OpenTicket). Some z.declared.symbols) is
found_at (y ∷ list) t (suc i) o q h e =
    elim (eqb t y.ticket) as (λ b. cond b (Some y.declared.symbols) (declared_in (take i list) t) ≡ None → cond b (Some y.declared.symbols) (declared_in list t) ≡ Some o.declared.symbols) [
      | true ↦ λ k. absurd (cc k)
      | false ↦ λ k. found_at list t i o q k e
    ] h

pub missed_next : (list : List OpenTicket) (t i : ℕ) (x : OpenTicket) → slice_get list i ≡ Some x → declared_in (take i list) t ≡ None → (x.ticket ≡ t → ⊥) → declared_in (take (suc i) list) t ≡ None
missed_next [] t i x q h k = absurd (cc q)
missed_next (y ∷ list) t zero x q h k =
    let is : y ≡ x = same_Some y x q in
    let P : OpenTicket → Type 0 = λ z. z.ticket ≡ t → ⊥ in
    ap (λ b. cond b (Some y.declared.symbols) None) (apart t y.ticket (subst P (sym is) k))
missed_next (y ∷ list) t (suc i) x q h k =
    elim (eqb t y.ticket) as (λ b. cond b (Some y.declared.symbols) (declared_in (take i list) t) ≡ None → cond b (Some y.declared.symbols) (declared_in (take (suc i) list) t) ≡ None) [
      | true ↦ λ z. absurd (cc z)
      | false ↦ λ z. missed_next list t i x q z k
    ] h

with_each : (a : Op) (f : List Symbol) → AllByRecursion (λ y. CommutesWith a y) f → (b : Op) → Matches f b → Commute a b
with_each a [] h b m = absurd m
with_each a (s ∷ f) h b (inl m) = h.0.each b m
with_each a (s ∷ f) h b (inr m) = with_each a f h.1 b m

pub free_of : (op : Op) (t : ℕ) (list : List OpenTicket) → AreFreeBelow op t list → (u : ℕ) (g : List Symbol) → u < t → declared_in list u ≡ Some g → CommutesWithAll op g
free_of op t [] h u g l q = absurd (cc q)
free_of op t (o ∷ list) h u g l q =
    elim (eqb u o.ticket) as (λ b. eqb u o.ticket ≡ b → cond b (Some o.declared.symbols) (declared_in list u) ≡ Some g → CommutesWithAll op g) [
      | true ↦ λ e k.
          let P : List Symbol → Type 0 = λ f. CommutesWithAll op f in
          subst P (same_Some o.declared.symbols g k) (record { each = with_each op o.declared.symbols (h.0 (less o.ticket u t e l)) })
      | false ↦ λ e k. free_of op t list h.1 u g l k
    ] refl q
  where
    less : (a u t : ℕ) → eqb u a ≡ true → u < t → a < t
    less a u t e l = grind (arith, nat_tests)

pub same_ticket : (list : List OpenTicket) (t i : ℕ) (d o : OpenTicket) → i < length list → (get_or list i d).ticket ≡ t → slice_get list i ≡ Some o → o.ticket ≡ t
same_ticket list t i d o l e q = ap (λ (z : OpenTicket). z.ticket) (same_Some o (get_or list i d) (sym q ∙ slice_get-get_or list i d l)) ∙ e

-- ---- the ticket at a place, as an index reads it
read_is : (list : List OpenTicket) (t i : ℕ) (r : OpenTicket) → IsAt list t i → r ≡ get_or list i r → slice_get list i ≡ Some r
read_is list t i r a is = slice_get-get_or list i r a.within ∙ ap (λ (z : OpenTicket). Some z) (sym is)

pub found : (list : List OpenTicket) (t i : ℕ) (r : OpenTicket) → IsAt list t i → r ≡ get_or list i r → declared_in list t ≡ Some r.declared.symbols
found list t i r a is = let q : slice_get list i ≡ Some r = read_is list t i r a is in found_at list t i r q a.first (a.is r q)

pub found_ticket : (list : List OpenTicket) (t i : ℕ) (r : OpenTicket) → IsAt list t i → r ≡ get_or list i r → r.ticket ≡ t
found_ticket list t i r a is = a.is r (read_is list t i r a is)
