-- What each call leaves is an act, and what every desk keeps.
use Rattle.std.proofs.Common.{◌≡◌, ℕ, suc, List, [], ◌∷◌, ◌++◌, Some, set, refl, sym, ◌∙◌, ap, subst}
use Rattle.std.specs.List.{remove}
use Rattle.session_values.specs.declared.op.Op.{Op}
use Rattle.session_values.specs.declared.value.Value.{Value}
use Rattle.session_values.specs.Tables.{Tables, reply, step}
use Rattle.symbolic_ops.specs.declared.symbol.Symbol.{Symbol}
use Rattle.symbolic_ops.specs.Matching.{Covered}
use Rattle.driven_tickets.specs.declared.open_ticket.OpenTicket.{OpenTicket}
use Rattle.driven_tickets.specs.Acts.{Act, Begins, Calls, DeskState, Ends, IsFree, Narrows, Run, opened}
use Rattle.driven_tickets.specs.Desk.{DeskView, HasActed, IsDeclared, IsDesk, state_of}
use Rattle.driven_tickets.specs.Tickets.{AreAscending, IsAt, declared_in}
use Rattle.driven_tickets.proofs.Tickets.{ascending-push, ascending-removed, ascending-set, declared-push, declared-removed, declared-set}

-- what a call that does an act owes
pub record Acted (d e : DeskView) (a : Act) : Type 0 where
  pub acted : HasActed d e a
  pub ascending : AreAscending 0 e.tickets e.next

-- acts that follow one another
pub Run-append : (p : DeskState) (acts more : List Act) (q r : DeskState) → Run p acts q → Run q more r → Run p (acts ++ more) r
Run-append p [] more q r h k = let P : DeskState → Type 0 = λ x. Run x more r in subst P h k
Run-append p (b ∷ acts) more q r h k = (h.0, h.1, Run-append h.0 acts more q r h.2 k)

-- what every desk keeps, where more was done
pub desk_further : (d e : DeskView) (more : List Act) → IsDesk d → Run (state_of d) more (state_of e) → e.acts ≡ d.acts ++ more → e.opening ≡ d.opening → AreAscending 0 e.tickets e.next → IsDesk e
desk_further d e more k r acts opening w =
    let P : Tables → Type 0 = λ ts. Run (opened ts) e.acts (state_of e) in
    let Q : List Act → Type 0 = λ l. Run (opened d.opening) l (state_of e) in
    record {
      ascending = w;
      run = subst P (sym opening) (subst Q (sym acts) (Run-append (opened d.opening) d.acts more (state_of d) (state_of e) k.run r));
    }

-- and where one act was done
pub desk_on : (d e : DeskView) (a : Act) → IsDesk d → HasActed d e a → AreAscending 0 e.tickets e.next → IsDesk e
desk_on d e a k h w = desk_further d e (a ∷ []) k (state_of e, h.does, refl) h.acts h.opening w

module _ (d e : DeskView) (k : AreAscending 0 d.tickets d.next) (opening : e.opening ≡ d.opening) where
  pub begun : (o : OpenTicket) → e.acts ≡ d.acts ++ Begins o.declared.symbols ∷ [] → e.tables ≡ d.tables → e.next ≡ suc d.next → e.tickets ≡ d.tickets ++ o ∷ [] → o.ticket ≡ d.next → Acted d e (Begins o.declared.symbols)
  begun o acts tables next tickets is =
      let P : ℕ → Type 0 = λ m. AreAscending 0 e.tickets m in
      let Q : List OpenTicket → Type 0 = λ os. AreAscending 0 os (suc d.next) in
      record {
        acted = record {
          does = record {
            tables_still = tables;
            next_more = next;
            at_is = λ u. ap (λ os. declared_in os u) tickets ∙ declared-push 0 d.next d.tickets o u k is;
          };
          acts = acts;
          opening = opening;
        };
        ascending = (subst P (sym next) (subst Q (sym tickets) (ascending-push 0 d.next d.tickets o k is)));
      }

  pub called : (t : ℕ) (op : Op) (v : Value) → e.acts ≡ d.acts ++ Calls t op v ∷ [] → e.tables ≡ step d.tables op → e.next ≡ d.next → e.tickets ≡ d.tickets
      → IsDeclared d t op → IsFree (state_of d) t op → v ≡ reply d.tables op → Acted d e (Calls t op v)
  called t op v acts tables next tickets is free told =
      let P : ℕ → Type 0 = λ m. AreAscending 0 e.tickets m in
      let Q : List OpenTicket → Type 0 = λ os. AreAscending 0 os d.next in
      record {
        acted = record {
          does = record {
            declared = is.list;
            is = is.is;
            matches = is.matches;
            free = free;
            reply_is = told;
            tables_are = tables;
            next_still = next;
            at_still = λ u. ap (λ os. declared_in os u) tickets;
          };
          acts = acts;
          opening = opening;
        };
        ascending = subst P (sym next) (subst Q (sym tickets) k);
      }

  pub narrowed : (t i : ℕ) (o : OpenTicket) (f : List Symbol) → e.acts ≡ d.acts ++ Narrows t o.declared.symbols ∷ [] → e.tables ≡ d.tables → e.next ≡ d.next → e.tickets ≡ set d.tickets i o
      → IsAt d.tickets t i → o.ticket ≡ t → declared_in d.tickets t ≡ Some f → Covered o.declared.symbols f → Acted d e (Narrows t o.declared.symbols)
  narrowed t i o f acts tables next tickets a ticket is c =
      let P : ℕ → Type 0 = λ m. AreAscending 0 e.tickets m in
      let Q : List OpenTicket → Type 0 = λ os. AreAscending 0 os d.next in
      record {
        acted = record {
          does = record {
            declared = f;
            is = is;
            covered = c;
            tables_still = tables;
            next_still = next;
            at_is = λ u. ap (λ os. declared_in os u) tickets ∙ declared-set d.tickets i t o u a ticket;
          };
          acts = acts;
          opening = opening;
        };
        ascending = (subst P (sym next) (subst Q (sym tickets) (ascending-set 0 d.next d.tickets i t o k a ticket)));
      }

  pub ended : (t i : ℕ) (f : List Symbol) → e.acts ≡ d.acts ++ Ends t ∷ [] → e.tables ≡ d.tables → e.next ≡ d.next → e.tickets ≡ remove d.tickets i
      → IsAt d.tickets t i → declared_in d.tickets t ≡ Some f → Acted d e (Ends t)
  ended t i f acts tables next tickets a is =
      let P : ℕ → Type 0 = λ m. AreAscending 0 e.tickets m in
      let Q : List OpenTicket → Type 0 = λ os. AreAscending 0 os d.next in
      record {
        acted = record {
          does = record {
            declared = f;
            is = is;
            tables_still = tables;
            next_still = next;
            at_is = λ u. ap (λ os. declared_in os u) tickets ∙ declared-removed 0 d.next d.tickets i t u k a;
          };
          acts = acts;
          opening = opening;
        };
        ascending = (subst P (sym next) (subst Q (sym tickets) (ascending-removed 0 d.next d.tickets i k)));
      }
