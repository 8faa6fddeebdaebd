-- Whole lists that commute, symbol by symbol, and who is in the way of one.
use Rattle.std.proofs.Common.{◌≡◌, ℕ, zero, suc, ◌+◌, ◌<◌, List, [], ◌∷◌, Some, true, false, cond, eqb, length, take, get_or, inl, inr, refl, sym, ◌∙◌, ap, subst, arith}
use Rattle.std.specs.List.{AllByRecursion}
use Rattle.std.proofs.lemmas.Bool.{eq-eqb, eqb-true}
use Rattle.std.proofs.lemmas.Option.{same_Some}
use Rattle.session_values.specs.declared.op.Op.{Op}
use Rattle.session_values.specs.Commuting.{Commute}
use Rattle.symbolic_ops.specs.declared.symbol.Symbol.{Symbol}
use Rattle.symbolic_ops.specs.Matching.{Matches, StandsFor}
use Rattle.symbolic_ops.specs.Commuting.{SymbolsCommute}
use Rattle.driven_tickets.specs.declared.open_ticket.OpenTicket.{OpenTicket}
use Rattle.driven_tickets.specs.Commuting.{IsHeldUpBy, ListsCommute}
use Rattle.driven_tickets.specs.Desk.{TicketsView}
use Rattle.driven_tickets.specs.Tickets.{AllPairsCommute, AreAscending, declared_in}
use Rattle.driven_tickets.proofs.Tickets.{later}

one_with : (s : Symbol) (g : List Symbol) → AllByRecursion (λ y. SymbolsCommute s y) g → (a b : Op) → StandsFor s a → Matches g b → Commute a b
one_with s [] h a b m n = absurd n
one_with s (y ∷ g) h a b m (inl n) = h.0.each a b m n
one_with s (y ∷ g) h a b m (inr n) = one_with s g h.1 a b m n

pub lists_of : (f g : List Symbol) → AllPairsCommute f g → ListsCommute f g
lists_of [] g h a b m n = absurd m
lists_of (s ∷ f) g h a b (inl m) n = one_with s g h.0 a b m n
lists_of (s ∷ f) g h a b (inr m) n = lists_of f g h.1 a b m n

one_by : (s : Symbol) (g : List Symbol) → ((a b : Op) → StandsFor s a → Matches g b → Commute a b) → AllByRecursion (λ y. SymbolsCommute s y) g
one_by s [] h = tt
one_by s (y ∷ g) h = (record { each = λ a b m n. h a b m (inl n) }, one_by s g (λ a b m n. h a b m (inr n)))

pub pairs_of : (f g : List Symbol) → ListsCommute f g → AllPairsCommute f g
pairs_of [] g h = tt
pairs_of (s ∷ f) g h = (one_by s g (λ a b m n. h a b (inl m) n), pairs_of f g (λ a b m n. h a b (inr m) n))

-- one more of the first ones
pub all_next : {X : Type 0} (P : X → Type 0) (xs : List X) (i : ℕ) (x : X) → i < length xs → x ≡ get_or xs i x → AllByRecursion P (take i xs) → P x → AllByRecursion P (take (i + 1) xs)
all_next {X} P xs i x l is h p = subst (λ (n : ℕ). AllByRecursion P (take n xs)) (let e : suc i ≡ i + 1 = omega arith in e) (go xs i l is h)
  where
    go : (ys : List X) (i : ℕ) → i < length ys → x ≡ get_or ys i x → AllByRecursion P (take i ys) → AllByRecursion P (take (suc i) ys)
    go [] i l is h = absurd (omega (arith, l))
    go (y ∷ ys) zero l is h = (subst P is p, tt)
    go (y ∷ ys) (suc i) l is h = (h.0, go ys i (omega (arith, l)) is h.1)

-- ---- among the open tickets
abbrev Clear : List Symbol → OpenTicket → Type 0
Clear f o = AllPairsCommute f o.declared.symbols

pub clear_of : (f : List Symbol) (os : List OpenTicket) → AllByRecursion (Clear f) os → (t : ℕ) (g : List Symbol) → declared_in os t ≡ Some g → ListsCommute f g
clear_of f [] h t g is = absurd (cc is)
clear_of f (o ∷ os) h t g is =
    elim (eqb t o.ticket) as (λ b. cond b (Some o.declared.symbols) (declared_in os t) ≡ Some g → ListsCommute f g) [
      | true ↦ λ q. subst (ListsCommute f) (same_Some o.declared.symbols g q) (lists_of f o.declared.symbols h.0)
      | false ↦ λ q. clear_of f os h.1 t g q
    ] is

-- the first ticket that isn't clear is the least
record Least (f : List Symbol) (os : List OpenTicket) (u : ℕ) : Type 0 where
  list : List Symbol
  is : declared_in os u ≡ Some list
  against : ListsCommute f list → ⊥
  least : (t : ℕ) (g : List Symbol) → t < u → declared_in os t ≡ Some g → ListsCommute f g

below : (n m : ℕ) (os : List OpenTicket) (t : ℕ) (g : List Symbol) → AreAscending n os m → t < n → declared_in os t ≡ Some g → ⊥
below n m [] t g h l is = cc is
below n m (o ∷ os) t g h l is =
    elim (eqb t o.ticket) as (λ b. eqb t o.ticket ≡ b → cond b (Some o.declared.symbols) (declared_in os t) ≡ Some g → ⊥) [
      | true ↦ λ e q. let same : t ≡ o.ticket = eqb-true t o.ticket e in omega (arith, l, h.0, same)
      | false ↦ λ e q. below (suc o.ticket) m os t g h.1 (omega (arith, l, h.0)) q
    ] refl is

least_at : (f : List Symbol) (n m : ℕ) (os : List OpenTicket) (i : ℕ) (x : OpenTicket) → AreAscending n os m → i < length os → x ≡ get_or os i x → AllByRecursion (Clear f) (take i os) → (Clear f x → ⊥) → Least f os x.ticket
least_at f n m [] i x h l is all not = absurd (omega (arith, l))
least_at f n m (o ∷ os) zero x h l is all not =
    subst (λ (y : OpenTicket). Least f (o ∷ os) y.ticket) (sym is) (record {
      list = o.declared.symbols;
      is = ap (λ b. cond b (Some o.declared.symbols) (declared_in os o.ticket)) (eq-eqb o.ticket o.ticket refl);
      against = λ c. subst (λ (y : OpenTicket). Clear f y → ⊥) is not (pairs_of f o.declared.symbols c);
      least = λ t g less at. absurd (first t g less at);
    })
  where
    first : (t : ℕ) (g : List Symbol) → t < o.ticket → declared_in (o ∷ os) t ≡ Some g → ⊥
    first t g less at =
        elim (eqb t o.ticket) as (λ b. eqb t o.ticket ≡ b → cond b (Some o.declared.symbols) (declared_in os t) ≡ Some g → ⊥) [
          | true ↦ λ e q. let same : t ≡ o.ticket = eqb-true t o.ticket e in omega (arith, less, same)
          | false ↦ λ e q. below (suc o.ticket) m os t g h.1 (omega (arith, less)) q
        ] refl at
least_at f n m (o ∷ os) (suc i) x h l is all not =
    let one : Least f os x.ticket = least_at f (suc o.ticket) m os i x h.1 (omega (arith, l)) is all.1 not in
    record {
      list = one.list;
      is = ap (λ b. cond b (Some o.declared.symbols) (declared_in os x.ticket)) (later (suc o.ticket) m os x.ticket o.ticket one.list h.1 one.is (omega arith)) ∙ one.is;
      against = one.against;
      least = λ t g less at.
          elim (eqb t o.ticket) as (λ b. cond b (Some o.declared.symbols) (declared_in os t) ≡ Some g → ListsCommute f g) [
            | true ↦ λ q. subst (ListsCommute f) (same_Some o.declared.symbols g q) (lists_of f o.declared.symbols all.0)
            | false ↦ λ q. one.least t g less q
          ] at;
    }

pub held_up : (k : TicketsView) (f : List Symbol) (i : ℕ) (x : OpenTicket) → AreAscending 0 k.tickets k.next → i < length k.tickets → x ≡ get_or k.tickets i x → AllByRecursion (Clear f) (take i k.tickets) → (Clear f x → ⊥) → IsHeldUpBy k f x.ticket
held_up k f i x h l is all not =
    let one : Least f k.tickets x.ticket = least_at f 0 k.next k.tickets i x h l is all not in
    record { list = one.list; is = one.is; against = one.against; least = one.least }
