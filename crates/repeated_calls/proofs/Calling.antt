-- A ticket that calls an operation n times, at a desk.
use Rattle.std.proofs.Common.{◌≡◌, ℕ, zero, suc, ◌+◌, ◌<◌, ◌≤◌, List, [], ◌∷◌, ◌++◌, None, false, length, Result, Ok, Err, OnErr, refl, sym, ap, ◌∙◌, subst, arith, inl}
use Rattle.std.specs.Prelude.{replicate}
use Rattle.std.proofs.lemmas.List.{length-append, length-replicate}
use Rattle.session_values.specs.declared.op.Op.{Op}
use Rattle.session_values.specs.declared.reply.Reply.{Reply}
use Rattle.session_values.specs.declared.value.Value.{Value}
use Rattle.session_values.specs.Dialogue.{Calls, Answers, Dialogue, Entry, Follows, rest, replies}
use Rattle.symbolic_ops.specs.declared.symbol.Symbol.{Symbol}
use Rattle.std.specs.List.{AllByRecursion}
use Rattle.session_values.specs.Op.{IsHeld}
use Rattle.symbolic_ops.specs.Matching.{Covered, HasNoVar, Matches, exact_symbol}
use Rattle.symbolic_ops.proofs.Above.{covered_itself, exact_stands}
use Rattle.session_values.proofs.EntriesFacts.{follows_more, length_replies}
use Rattle.session_journal.specs.Desks.{DeskView, MayFinish, finished, next_of, with_end, with_waiting}
use Rattle.session_journal.specs.Lists.{ListView, Ticket, list_meaning, says, ticket_at}
use Rattle.session_journal.specs.Script.{IsForesight, Meaning}
use Rattle.session_journal.specs.Served.{IsServed, IsStopped}
use Rattle.repeated_calls.specs.Repeated.{Called, IsPlan, no_value, repeated}

pub on_err : {X E : Type 0} (r : Result X E) (P : Type 0) → P → OnErr r P
on_err (Ok x) P h = tt
on_err (Err e) P h = h

module _ (op : Op) (r : Reply) where
  pub calls_within : (n : ℕ) (rs : List Value) → length rs < n → says (replicate n op) r rs ≡ Calls op
  calls_within zero rs l = absurd (omega (arith, l))
  calls_within (suc n) [] l = refl
  calls_within (suc n) (v ∷ rs) l = calls_within n rs (omega (arith, l))

  pub answers_past : (n : ℕ) (rs : List Value) → n ≤ length rs → says (replicate n op) r rs ≡ Answers r
  answers_past zero rs l = refl
  answers_past (suc n) [] l = absurd (omega (arith, l))
  answers_past (suc n) (v ∷ rs) l = answers_past n rs (omega (arith, l))

  -- nothing else is called
  pub calls_it : (n : ℕ) (rs : List Value) (o : Op) → says (replicate n op) r rs ≡ Calls o → (op ≡ o) × (0 < n)
  calls_it zero rs o e = cc
  calls_it (suc n) [] o e = (cc, omega arith)
  calls_it (suc n) (v ∷ rs) o e = ((calls_it n rs o e).0, omega arith)

module _ (m : Meaning) (t : ℕ) (op : Op) (n : ℕ) (list : List Symbol) (plan : IsPlan m t op n list) where
  -- the list is a foresight of what is left, after any replies
  pub foresight : (rs : List Value) → IsForesight (rest (m.next t) rs) list
  foresight rs = record {
    few = plan.few;
    known = plan.known;
    covers = record {
      each = λ more o values e.
          let is = calls_it op no_value n (rs ++ more) o (sym (plan.next (rs ++ more)) ∙ e) in
          subst (λ p. Matches list p) is.0 (plan.matched is.1);
    };
  }

follows_same : (f g : Dialogue) (es : List Entry) → ((rs : List Value) → f rs ≡ g rs) → Follows g es → Follows f es
follows_same f g [] same h = tt
follows_same f g (e ∷ es) same h = (same [] ∙ h.0, follows_same (rest f (e.reply ∷ [])) (rest g (e.reply ∷ [])) es (λ rs. same (e.reply ∷ rs)) h.1)

module _ (m : Meaning) (op : Op) (n : ℕ) (list : List Symbol) (start : DeskView) (plan : IsPlan m start.ticket op n list) where
  pub begins : start.entries ≡ [] → start.present ≡ list → start.waiting ≡ None → start.ended ≡ false → Called n op list start start 0
  begins fresh present idle going = record {
    follows = subst (λ es. Follows (says (replicate n op) no_value) es) (sym fresh) tt;
    long = ap length fresh;
    present = present;
    idle = idle;
    going = going;
    ticket_is = refl;
    home_is = refl;
    sure_is = refl;
  }

  module _ (now : DeskView) (done : ℕ) (at : Called n op list start now done) where
    says_now : next_of m now ≡ says (replicate n op) no_value (replies now.entries)
    says_now = ap (λ u. m.next u (replies now.entries)) at.ticket_is ∙ plan.next (replies now.entries)

    made : length (replies now.entries) ≡ done
    made = length_replies now.entries ∙ at.long

    pub calls_next : done < n → next_of m now ≡ Calls op
    calls_next low = says_now ∙ calls_within op no_value n (replies now.entries) (subst (λ k. k < n) (sym made) low)

    pub answers_next : n ≤ done → next_of m now ≡ Answers no_value
    answers_next past = says_now ∙ answers_past op no_value n (replies now.entries) (subst (λ k. n ≤ k) (sym made) past)

    pub stopped : (new : DeskView) → done < n → new ≡ now → now.sure ≡ false → IsStopped m start new
    stopped new low is unsure =
        let P : DeskView → Type 0 = λ d. IsStopped m start d in
        subst P (sym is) (record {
          follows = follows_same (m.next start.ticket) (says (replicate n op) no_value) now.entries plan.next at.follows;
          wanted = op;
          calls = plan.next (replies now.entries) ∙ sym says_now ∙ calls_next low;
          due = at.present ∙ sym (plan.due (replies now.entries));
          idle = at.idle;
          going = at.going;
          ticket_is = at.ticket_is;
          home_is = at.home_is;
          sure_is = at.sure_is;
          unsure = sym at.sure_is ∙ unsure;
        })

    pub may_finish : (v : Value) (mid : DeskView) → mid ≡ with_waiting now op v → MayFinish m mid mid.waiting list
    may_finish v mid is =
        let P : DeskView → Type 0 = λ d. MayFinish m d d.waiting list in
        let Q : ℕ → Type 0 = λ u. IsForesight (rest (m.next u) (replies (now.entries ++ record { op = op; reply = v } ∷ []))) list in
        subst P (sym is) (
          sym (ap (λ u. m.told u (replies (now.entries ++ record { op = op; reply = v } ∷ []))) at.ticket_is ∙ plan.told (replies (now.entries ++ record { op = op; reply = v } ∷ []))),
          record {
            covered = subst (λ f. Covered list f) (sym at.present) (covered_itself list plan.known);
            foresight = subst Q (sym at.ticket_is) (foresight m start.ticket op n list plan (replies (now.entries ++ record { op = op; reply = v } ∷ [])));
          },
        )

    pub called_more : (v : Value) (mid new : DeskView) → done < n → mid ≡ with_waiting now op v → new ≡ finished mid mid.waiting list → Called n op list start new (done + 1)
    called_more v mid new low is made_it =
        let P : DeskView → Type 0 = λ d. Called n op list start d (done + 1) in
        subst P (sym (made_it ∙ ap (λ (d : DeskView). finished d d.waiting list) is)) (record {
          follows = follows_more (says (replicate n op) no_value) now.entries (record { op = op; reply = v }) at.follows (sym says_now ∙ calls_next low);
          long = length-append now.entries (record { op = op; reply = v } ∷ []) ∙ ap (λ k. k + 1) at.long;
          present = refl;
          idle = refl;
          going = at.going;
          ticket_is = at.ticket_is;
          home_is = at.home_is;
          sure_is = at.sure_is;
        })

    pub served : (new : DeskView) → n ≤ done → new ≡ with_end now → IsServed m start new
    served new past is =
        let P : DeskView → Type 0 = λ d. IsServed m start d in
        subst P (sym is) (record {
          follows = follows_same (m.next start.ticket) (says (replicate n op) no_value) now.entries plan.next at.follows;
          answer = no_value;
          answers = plan.next (replies now.entries) ∙ sym says_now ∙ answers_next past;
          ended = refl;
          ticket_is = at.ticket_is;
          home_is = at.home_is;
          sure_is = at.sure_is;
        })

-- ---- the ticket of a list
all_replicate : {X : Type 0} (P : X → Type 0) (n : ℕ) (x : X) → P x → AllByRecursion P (replicate n x)
all_replicate P zero x p = tt
all_replicate P (suc n) x p = (p, all_replicate P n x p)

matched_by : (n : ℕ) (op : Op) → IsHeld op → 0 < n → Matches (replicate n (exact_symbol op)) op
matched_by zero op held some = absurd (omega (arith, some))
matched_by (suc n) op held some = inl (exact_stands op held)

pub plan_of : (l : ListView) (t u : ℕ) (op : Op) (n : ℕ) (list : List Symbol) → ticket_at l.tickets t ≡ repeated n op → u ≡ t → list ≡ (ticket_at l.tickets t).entry → IsHeld op → n ≤ 256 → IsPlan (list_meaning l.shape l.tickets) u op n list
plan_of l t u op n list at same is held few =
    let e : list ≡ replicate n (exact_symbol op) = is ∙ ap (λ (x : Ticket). x.entry) at in
    let P : ℕ → Type 0 = λ x. IsPlan (list_meaning l.shape l.tickets) x op n list in
    let Q : List Symbol → Type 0 = λ x. (length x ≤ 256) × AllByRecursion HasNoVar x × (0 < n → Matches x op) in
    let q = subst Q (sym e) (subst (λ k. k ≤ 256) (sym (length-replicate n (exact_symbol op))) few, all_replicate HasNoVar n (exact_symbol op) (tt, tt), matched_by n op held) in
    subst P (sym same) (record {
      next = λ rs. ap (λ (x : Ticket). says x.ops x.reply rs) at;
      told = λ rs. sym is;
      due = λ rs. sym is;
      few = q.0;
      known = q.1;
      matched = q.2;
    })

-- the same with the number of calls read again
pub plan_again : (l : ListView) (t u : ℕ) (op : Op) (n k : ℕ) (list : List Symbol) → ticket_at l.tickets t ≡ repeated n op → k ≡ n → u ≡ t → list ≡ (ticket_at l.tickets t).entry → IsHeld op → k ≤ 256 → IsPlan (list_meaning l.shape l.tickets) u op k list
plan_again l t u op n k list at times = plan_of l t u op k list (at ∙ ap (λ x. repeated x op) (sym times))
