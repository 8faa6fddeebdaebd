-- A ticket that begins, does its operations and ends with nobody between: its acts are a run.
use Rattle.std.proofs.Common.{◌≡◌, ℕ, suc, List, [], ◌∷◌, ◌++◌, Some, None, true, false, cond, eqb, refl, sym, ap, subst, arith}
use Rattle.std.specs.List.{AllByRecursion}
use Rattle.std.proofs.lemmas.Bool.{eq-eqb, eqb-true}
use Rattle.session_values.specs.declared.op.Op.{Op}
use Rattle.session_values.specs.Dialogue.{Entry}
use Rattle.session_values.specs.Tables.{Tables, step}
use Rattle.symbolic_ops.specs.declared.symbol.Symbol.{Symbol}
use Rattle.symbolic_ops.specs.Matching.{Matches}
use Rattle.symbolic_ops.specs.Commuting.{CommutesWithAll}
use Rattle.session_journal.specs.Journal.{Replays, run}
use Rattle.driven_tickets.specs.Acts.{DeskState, Ends, HasEnded, IsFree, Run, calls_of, whole_ticket}
use Rattle.driven_tickets.specs.Commuting.{IsClear}
use Rattle.driven_tickets.specs.Desk.{IsDesk, TicketsView, desk_over, state_of}
use Rattle.driven_tickets.specs.Tickets.{AreAscending, declared_in}
use Rattle.driven_tickets.proofs.Keeping.{desk_further}
use Rattle.driven_tickets.proofs.Tickets.{over}

module _ (k : TicketsView) (w : AreAscending 0 k.tickets k.next) (f : List Symbol) (clear : IsClear k f) where
  -- while the ticket is open, and after it
  abbrev within : Tables → DeskState
  within ts = record { tables = ts; next = suc k.next; at = λ u. cond (eqb u k.next) (Some f) (declared_in k.tickets u) }

  abbrev behind : Tables → DeskState
  behind ts = record { tables = ts; next = suc k.next; at = λ u. declared_in k.tickets u }

  mine : cond (eqb k.next k.next) (Some f) (declared_in k.tickets k.next) ≡ Some f
  mine = ap (λ b. cond b (Some f) (declared_in k.tickets k.next)) (eq-eqb k.next k.next refl)

  free : (ts : Tables) (op : Op) → Matches f op → IsFree (within ts) k.next op
  free ts op m u g l is =
      elim (eqb u k.next) as (λ b. eqb u k.next ≡ b → cond b (Some f) (declared_in k.tickets u) ≡ Some g → CommutesWithAll op g) [
        | true ↦ λ e q. let same : u ≡ k.next = eqb-true u k.next e in absurd (omega (arith, l, same))
        | false ↦ λ e q. record { each = λ b n. clear u g q op b m n }
      ] refl is

  gone : (u : ℕ) → declared_in k.tickets u ≡ cond (eqb u k.next) None (cond (eqb u k.next) (Some f) (declared_in k.tickets u))
  gone u =
      elim (eqb u k.next) as (λ b. eqb u k.next ≡ b → declared_in k.tickets u ≡ cond b None (cond b (Some f) (declared_in k.tickets u))) [
        | true ↦ λ e. let same : u ≡ k.next = eqb-true u k.next e in over 0 k.next k.tickets u w (omega (arith, same))
        | false ↦ λ e. refl
      ] refl

  ends : (ts : Tables) → HasEnded (within ts) (behind ts) k.next
  ends ts = record { declared = f; is = mine; tables_still = refl; next_still = refl; at_is = gone }

  calls_run : (ts : Tables) (es : List Entry) → Replays ts es → AllByRecursion (λ e. Matches f e.op) es → Run (within ts) (calls_of k.next es ++ Ends k.next ∷ []) (behind (run ts es))
  calls_run ts [] h m = (behind ts, ends ts, refl)
  calls_run ts (e ∷ es) h m = (
    within (step ts e.op),
    record {
      declared = f;
      is = mine;
      matches = m.0;
      free = free ts e.op m.0;
      reply_is = sym h.0;
      tables_are = refl;
      next_still = refl;
      at_still = λ u. refl;
    },
    calls_run (step ts e.op) es h.1 m.1,
  )

  -- what every desk keeps, where such a ticket passed
  pub desk_passed : (opening ts after : Tables) (l : TicketsView) (es : List Entry) → IsDesk (desk_over opening ts k) → Replays ts es → AllByRecursion (λ e. Matches f e.op) es
      → after ≡ run ts es → l ≡ record { next = suc k.next; tickets = k.tickets; acts = k.acts ++ whole_ticket k.next f es } → AreAscending 0 l.tickets l.next → IsDesk (desk_over opening after l)
  desk_passed opening ts after l es d h m tables is asc =
      let go : Run (state_of (desk_over opening ts k)) (whole_ticket k.next f es) (behind (run ts es)) =
      (within ts, record { tables_still = refl; next_more = refl; at_is = λ u. refl }, calls_run ts es h m) in
      let P : Tables → TicketsView → Type 0 = λ us x. AreAscending 0 x.tickets x.next → IsDesk (desk_over opening us x) in
      let new : TicketsView = record { next = suc k.next; tickets = k.tickets; acts = k.acts ++ whole_ticket k.next f es } in
      let here : P (run ts es) new = λ a. desk_further (desk_over opening ts k) (desk_over opening (run ts es) new) (whole_ticket k.next f es) d go refl refl a in
      subst (λ (x : TicketsView). P after x) (sym is) (subst (λ (us : Tables). P us new) (sym tables) here) asc
