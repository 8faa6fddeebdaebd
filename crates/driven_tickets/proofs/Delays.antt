-- Who is delayed, by the list of open tickets, and who never is.
use Rattle.std.proofs.Common.{◌≡◌, ℕ, suc, List, [], ◌∷◌, Some, cond, inl, inr, sym, ◌∙◌, ap, arith}
use Rattle.std.specs.List.{AllByRecursion}
use Rattle.std.proofs.lemmas.Bool.{eq-eqb}
use Rattle.session_values.specs.declared.op.Op.{Op}
use Rattle.symbolic_ops.specs.declared.symbol.Symbol.{Symbol}
use Rattle.symbolic_ops.specs.Commuting.{CommutesWith, CommutesWithAll}
use Rattle.driven_tickets.specs.declared.open_ticket.OpenTicket.{OpenTicket}
use Rattle.driven_tickets.specs.Commuting.{CommutesWithOlder, IsOldest}
use Rattle.driven_tickets.specs.declared.answers.Called.TheVariants as called
use Rattle.driven_tickets.specs.Desk.{CalledAs, DeskView, IsDelayedBy}
use Rattle.driven_tickets.specs.Tickets.{AreAscending, IsAgainstIn, IsLeastAgainst, declared_in}
use Rattle.driven_tickets.proofs.Declared.{free_of}
use Rattle.driven_tickets.proofs.Tickets.{later}

each_alone : (op : Op) (f : List Symbol) → CommutesWithAll op f → AllByRecursion (λ y. CommutesWith op y) f
each_alone op [] h = tt
each_alone op (s ∷ f) h = (record { each = λ b m. h.each b (inl m) }, each_alone op f (record { each = λ b m. h.each b (inr m) }))

-- what a ticket has declared is against the operation
record Against (op : Op) (os : List OpenTicket) (u : ℕ) : Type 0 where
  list : List Symbol
  is : declared_in os u ≡ Some list
  against : CommutesWithAll op list → ⊥

against_one : (op : Op) (n m : ℕ) (os : List OpenTicket) (u : ℕ) → AreAscending n os m → IsAgainstIn op u os → Against op os u
against_one op n m [] u h a = absurd a
against_one op n m (o ∷ os) u h (inl a) = record {
  list = o.declared.symbols;
  is = ap (λ b. cond b (Some o.declared.symbols) (declared_in os u)) (eq-eqb u o.ticket (sym a.0));
  against = λ c. a.1 (each_alone op o.declared.symbols c);
}
against_one op n m (o ∷ os) u h (inr a) =
    let one : Against op os u = against_one op (suc o.ticket) m os u h.1 a in
    record {
      list = one.list;
      is = ap (λ b. cond b (Some o.declared.symbols) (declared_in os u)) (later (suc o.ticket) m os u o.ticket one.list h.1 one.is (omega arith)) ∙ one.is;
      against = one.against;
    }

pub delayed_by : (d : DeskView) (t : ℕ) (op : Op) (u : ℕ) → AreAscending 0 d.tickets d.next → IsLeastAgainst op t d.tickets u → IsDelayedBy d t op u
delayed_by d t op u h a =
    let one : Against op d.tickets u = against_one op 0 d.next d.tickets u h a.against in
    record {
      below = a.below;
      list = one.list;
      is = one.is;
      against = one.against;
      least = free_of op u d.tickets a.least;
    }

pub oldest : (d e : DeskView) (t u : ℕ) (op : Op) → IsOldest d t → CalledAs d e t op (called.Delayed u) → ⊥
oldest d e t u op o h = cc (o u h.3.below, h.3.is)

pub commuting : (d e : DeskView) (t u : ℕ) (op : Op) → CommutesWithOlder d t → CalledAs d e t op (called.Delayed u) → ⊥
commuting d e t u op all h = h.3.against (record { each = λ b m. all u h.2.list h.3.list h.3.below h.2.is h.3.is op b h.2.matches m })
