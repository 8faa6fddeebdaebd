-- A list of tickets is a script.
use Rattle.std.proofs.Common.{◌≡◌, ℕ, zero, suc, ◌+◌, ◌<◌, ◌≤◌, List, [], ◌∷◌, ◌++◌, length, cond, ◌&&◌, eqb, Some, Bool, true, false, refl, sym, ap, subst, arith, lit<}
use Rattle.std.specs.Prelude.{slice_get}
use Rattle.std.specs.List.{AllByRecursion}
use Rattle.session_values.specs.declared.value.Value.{Value}
use Rattle.session_values.specs.declared.value.Value.TheVariants.{Nil}
use Rattle.session_values.specs.Reply.{IsReply}
use Rattle.session_values.specs.declared.kind.TableKind.{TableKind}
use Rattle.session_values.specs.declared.op.Op.{Op}
use Rattle.session_values.specs.declared.reply.Reply.{Reply}
use Rattle.session_values.specs.Dialogue.{Calls, Answers, Entry, rest, Follows}
use Rattle.session_values.specs.Kinds.{is_adding}
use Rattle.session_values.specs.Tables.{Fits}
use Rattle.symbolic_ops.specs.Matching.{Matches}
use Rattle.session_values.specs.Sums.{sum_below}
use Rattle.session_journal.specs.Script.{HasValues, IsForesight, IsScript, adds_on}
use Rattle.session_journal.specs.Lists.{Ticket, ticket_at, says, adding, IsTicket, list_meaning}
use Rattle.session_values.proofs.Sums.{sum_first}
use Rattle.session_values.proofs.EntriesFacts.{same_call, no_call}
use Rattle.session_values.specs.Opening.{Pair, entries_of, no_entries}
use Rattle.session_values.proofs.Openings.{start_is, no_opening}

-- what is true of each operation is true of the one that is called
called : (P : Op → Type 0) (ops : List Op) (r : Reply) (replies : List Value) (op : Op) → AllByRecursion P ops → says ops r replies ≡ Calls op → P op
called P [] r replies op a e = no_call r op e
called P (o ∷ ops) r [] op a e = subst P (same_call o op e) a.0
called P (o ∷ ops) r (v ∷ replies) op a e = called P ops r replies op a.1 e

-- what comes next has values
has_values : (ops : List Op) (r : Reply) (replies : List Value) → AllByRecursion (λ op. HasValues (Calls op)) ops → HasValues (Answers r) → HasValues (says ops r replies)
has_values [] r replies a h = h
has_values (o ∷ ops) r [] a h = a.0
has_values (o ∷ ops) r (v ∷ replies) a h = has_values ops r replies a.1 h

pub ends : (ops : List Op) (r : Reply) (replies : List Value) → length ops ≤ length replies → says ops r replies ≡ Answers r
ends [] r replies h = refl
ends (o ∷ ops) r [] h = absurd (omega arith)
ends (o ∷ ops) r (v ∷ replies) h = ends ops r replies (omega arith)

few_adds : (i : ℕ) (ops : List Op) (r : Reply) (es : List Entry) → Follows (says ops r) es → adds_on i es ≤ adding i ops
few_adds i ops r [] w = omega arith
few_adds i [] r (e ∷ es) w = no_call r e.op w.0
few_adds i (o ∷ ops) r (e ∷ es) w =
    let same : cond {A = ℕ} (is_adding o.kind && eqb o.table i) 1 0 ≡ cond (is_adding e.op.kind && eqb e.op.table i) 1 0 = ap (λ (p : Op). cond {A = ℕ} (is_adding p.kind && eqb p.table i) 1 0) (same_call o e.op w.0) in
    omega (arith, same, few_adds i ops r es w.1)

no_reply : IsReply 1 Nil Nil Nil
no_reply = (lit< tt, omega arith, λ l. refl, λ l. refl, λ l. refl)

pub at_ticket : (shape : List TableKind) (xs : List Ticket) (t : ℕ) → AllByRecursion (IsTicket shape) xs → IsTicket shape (ticket_at xs t)
at_ticket shape [] t a = record { fits = tt; values = tt; answer = record { a = tt; b = tt; c = tt; d = tt; count = no_reply }; few = omega arith; known = tt; matched = tt }
at_ticket shape (x ∷ xs) zero a = a.0
at_ticket shape (x ∷ xs) (suc t) a = at_ticket shape xs t a.1

-- ---- sums over the tickets
abbrev pub total : (Ticket → ℕ) → List Ticket → ℕ
total g [] = 0
total g (x ∷ xs) = g x + total g xs

pub sum_tickets : (g : Ticket → ℕ) (xs : List Ticket) → sum_below (length xs) (λ t. g (ticket_at xs t)) ≡ total g xs
sum_tickets g [] = refl
sum_tickets g (x ∷ xs) = omega (arith, sum_first (length xs) (λ t. g (ticket_at (x ∷ xs) t)), sum_tickets g xs)

-- the operations of tickets are a list, one after another, of at most 200,000 operations
pub record HasFew (xs : List Ticket) (ops : List Op) : Type 0 where
  pub requests : length xs ≤ 20000
  pub calls : total (λ x. length x.ops) xs ≡ length ops
  pub adds : (i : ℕ) → total (λ x. adding i x.ops) xs ≡ adding i ops
  pub few : length ops ≤ 200000

pub adding_le : (i : ℕ) (ops : List Op) → adding i ops ≤ length ops
adding_le i [] = omega arith
adding_le i (o ∷ ops) = let h : cond {A = ℕ} (is_adding o.kind && eqb o.table i) 1 0 ≤ 1 = one (is_adding o.kind && eqb o.table i) in omega (arith, h, adding_le i ops)
  where
    one : (b : Bool) → cond {A = ℕ} b 1 0 ≤ 1
    one true = omega arith
    one false = omega arith

pub list_lawful : (shape : List TableKind) (xs : List Ticket) (ops : List Op) → AllByRecursion (IsTicket shape) xs → HasFew xs ops → IsScript (list_meaning shape xs)
list_lawful shape xs ops a few = record {
  opening = start_is shape;
  opened = no_opening shape;
  fits = λ t replies op e. called (λ o. Fits shape o) (ticket_at xs t).ops (ticket_at xs t).reply replies op (at_ticket shape xs t a).fits e;
  values = λ t replies h. has_values (ticket_at xs t).ops (ticket_at xs t).reply replies (at_ticket shape xs t a).values (at_ticket shape xs t a).answer;
  ends = λ t. record { answers = λ replies h. ((ticket_at xs t).reply, ends (ticket_at xs t).ops (ticket_at xs t).reply replies h) };
  adds = λ t i es w. few_adds i (ticket_at xs t).ops (ticket_at xs t).reply es w;
  entry = λ t. foresight t [];
  told = λ t replies h. foresight t replies;
  due = λ t replies h. foresight t replies;
  few_requests = few.requests;
  few_calls = omega (arith, sum_tickets (λ x. length x.ops) xs, few.calls, few.few);
  few_adds = λ i. omega (arith, sum_tickets (λ x. adding i x.ops) xs, few.adds i, adding_le i ops, few.few);
}
  where
    foresight : (t : ℕ) (replies : List Value) → IsForesight (rest (says (ticket_at xs t).ops (ticket_at xs t).reply) replies) (ticket_at xs t).entry
    foresight t replies = record {
      few = (at_ticket shape xs t a).few;
      known = (at_ticket shape xs t a).known;
      covers = record { each = λ more op h e. called (λ o. Matches (ticket_at xs t).entry o) (ticket_at xs t).ops (ticket_at xs t).reply (replies ++ more) op (at_ticket shape xs t a).matched e };
    }

-- ---- a list of tickets opens with empty tables
none_at : (shape : List TableKind) (i : ℕ) → entries_of (no_entries shape) i ≡ []
none_at [] i = refl
none_at (kind ∷ shape) zero = refl
none_at (kind ∷ shape) (suc i) = none_at shape i

pub none_there : (shape : List TableKind) (i : ℕ) → 0 ≡ length (entries_of (no_entries shape) i)
none_there shape i = ap (λ (es : List Pair). length es) (sym (none_at shape i))

pub nothing_there : (shape : List TableKind) (i k : ℕ) (e : Pair) → k < length (entries_of (no_entries shape) i) → slice_get (entries_of (no_entries shape) i) k ≡ Some e
nothing_there shape i k e l = absurd (omega (arith, l, none_there shape i))
