-- Tickets that did nothing.
use Rattle.std.proofs.Common.{◌≡◌, ℕ, zero, suc, ◌<◌, ◌≤◌, List, [], ◌∷◌, ◌++◌, Some, None, Option, Bool, true, false, cond, eqb, refl, sym, ◌∙◌, ap, subst, arith}
use Rattle.std.proofs.lemmas.Bool.Decides.{nat_tests}
use Rattle.session_values.specs.Tables.{Tables}
use Rattle.symbolic_ops.specs.declared.symbol.Symbol.{Symbol}
use Rattle.symbolic_ops.specs.Matching.{Covered}
use Rattle.driven_tickets.specs.Acts.{Act, Begins, Ends, DeskState, HasBegun, HasEnded, Run, idle_tickets, opened}
use Rattle.driven_tickets.specs.Desk.{DeskView, IsDesk, state_of}
use Rattle.driven_tickets.proofs.Keeping.{Run-append}

-- no ticket is open, and this is the number of the next one
abbrev rests : Tables → ℕ → DeskState
rests ts n = record { tables = ts; next = n; at = λ t. None }

abbrev Declared : Type 0
Declared = Option (List Symbol)

abbrev nothing : Declared
nothing = Some []

-- a ticket has begun, and declared nothing
abbrev begun : Tables → ℕ → DeskState
begun ts n = record { tables = ts; next = suc n; at = λ u. cond (eqb u n) nothing None }

has_begun : (ts : Tables) (n : ℕ) → HasBegun (rests ts n) (begun ts n) []
has_begun ts n = record { tables_still = refl; next_more = refl; at_is = λ u. refl }

same_ticket : (n : ℕ) → ◌≡◌ {A = Declared} (cond (eqb n n) nothing None) nothing
same_ticket n = let e : eqb n n ≡ true = grind (arith, nat_tests) in ap (λ (b : Bool). let o : Declared = cond b nothing None in o) e

none_left : (b : Bool) → ◌≡◌ {A = Declared} None (cond b None (cond b nothing None))
none_left true = refl
none_left false = refl

has_ended : (ts : Tables) (n : ℕ) → HasEnded (begun ts n) (rests ts (suc n)) n
has_ended ts n = record {
  declared = [];
  is = same_ticket n;
  tables_still = refl;
  next_still = refl;
  at_is = λ u. none_left (eqb u n);
}

pub idle_run : (ts : Tables) (n : ℕ) → Run (opened ts) (idle_tickets n) (rests ts n)
idle_run ts zero = refl
idle_run ts (suc n) =
    Run-append (opened ts) (idle_tickets n) (Begins [] ∷ Ends n ∷ []) (rests ts n) (rests ts (suc n)) (idle_run ts n)
    (begun ts n, has_begun ts n, (rests ts (suc n), has_ended ts n, refl))

-- a desk without open tickets over the tables that it was opened over, whose tickets did nothing
pub idle_desk : (ts : Tables) (n : ℕ) → IsDesk (record { opening = ts; tables = ts; next = n; tickets = []; acts = idle_tickets n })
idle_desk ts n = record { ascending = omega arith; run = idle_run ts n }
