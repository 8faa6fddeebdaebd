-- What a run on an audit's desk leaves of the ticket that is set, and of the others.
use Rattle.std.proofs.Common.{◌≡◌, ℕ, zero, suc, ◌+◌, ◌<◌, ◌≤◌, inl, inr, List, [], ◌∷◌, length, Bool, true, false, cond, eqb, Option, Some, sym, ◌∙◌, ap, subst, arith, ◌⊎◌}
use Rattle.std.proofs.lemmas.List.{get_or-set_same, get_or-set_other, length-set}
use Rattle.session_values.specs.declared.op.Op.{Op}
use Rattle.session_values.specs.declared.reply.Reply.{Reply}
use Rattle.session_values.specs.declared.value.Value.{Value}
use Rattle.session_values.specs.Dialogue.{Entry}
use Rattle.session_values.specs.Sums.{sum_below}
use Rattle.session_journal.specs.declared.event.Event.{Event}
use Rattle.session_journal.specs.Journal.{entries}
use Rattle.session_journal.specs.Script.{IsScript, Meaning}
use Rattle.session_journal.proofs.Serial.{follows_few}
use Rattle.handler_machine.specs.Asking.{Runs, Steps}
use Rattle.trace_audit.specs.Desk.{Answering, AuditStep, AuditView, IsAnswered, IsTurnAnswered, KeepsOthers, Kept, MayAnswer, ReplayView, TurnAnswers, fresh, more, replay_at}
use Rattle.trace_audit.proofs.Runs.{ran}

module _ {S : Type 0} where
  turned : (old new : AuditView S) (t : ℕ) (op : Op) (v : Value) → old.turn ≡ Some t → AuditStep old op v new → TurnAnswers old.tickets t op v new.tickets
  turned old new t op v is s = let P : Option ℕ → Type 0 = λ o. IsTurnAnswered old.tickets o op v new.tickets in subst P is s.tickets

  same_ticket : (old new : AuditView S) (t : ℕ) (op : Op) (v : Value) (a : TurnAnswers old.tickets t op v new.tickets) → replay_at new.tickets t ≡ a.replay
  same_ticket old new t op v a = ap (λ (rs : List ReplayView). replay_at rs t) a.after ∙ get_or-set_same old.tickets t a.replay (fresh []) a.exists

  one_answer : (old new : AuditView S) (t : ℕ) (op : Op) (v : Value) → old.turn ≡ Some t → AuditStep old op v new → Answering (replay_at old.tickets t) op v (replay_at new.tickets t)
  one_answer old new t op v is s =
      let a : TurnAnswers old.tickets t op v new.tickets = turned old new t op v is s in
      let P : ReplayView → Type 0 = λ x. Answering (replay_at old.tickets t) op v x in
      subst P (sym (same_ticket old new t op v a)) a.answering

  ticket_steps : (old new : AuditView S) (t : ℕ) (ds : List Entry) → old.turn ≡ Some t → Steps AuditStep old ds new → Steps Answering (replay_at old.tickets t) ds (replay_at new.tickets t)
  ticket_steps old new t [] is st = ap (λ (d : AuditView S). replay_at d.tickets t) st
  ticket_steps old new t (e ∷ ds) is st = (replay_at st.0.tickets t, one_answer old st.0 t e.op e.reply is st.1, ticket_steps st.0 new t ds (st.1.turn ∙ is) st.2)

  one_stays : (old new : AuditView S) (t : ℕ) (op : Op) (v : Value) → old.turn ≡ Some t → AuditStep old op v new → KeepsOthers old new t
  one_stays old new t op v is s =
      let a : TurnAnswers old.tickets t op v new.tickets = turned old new t op v is s in
      record {
        script = s.script;
        events = s.events;
        turn = s.turn;
        count = ap (λ (rs : List ReplayView). length rs) a.after ∙ length-set old.tickets t a.replay;
        others = λ u d. ap (λ (rs : List ReplayView). replay_at rs u) a.after ∙ get_or-set_other old.tickets t u a.replay (fresh []) d;
      }

  pub all_stays : (old new : AuditView S) (t : ℕ) (ds : List Entry) → old.turn ≡ Some t → Steps AuditStep old ds new → KeepsOthers old new t
  all_stays old new t [] is st = record {
    script = ap (λ (d : AuditView S). d.script) st;
    events = ap (λ (d : AuditView S). d.events) st;
    turn = ap (λ (d : AuditView S). d.turn) st;
    count = ap (λ (d : AuditView S). length d.tickets) st;
    others = λ u d. ap (λ (d : AuditView S). replay_at d.tickets u) st;
  }
  all_stays old new t (e ∷ ds) is st =
      let a : KeepsOthers old st.0 t = one_stays old st.0 t e.op e.reply is st.1 in
      let b : KeepsOthers st.0 new t = all_stays st.0 new t ds (st.1.turn ∙ is) st.2 in
      record { script = b.script ∙ a.script; events = b.events ∙ a.events; turn = b.turn ∙ a.turn; count = b.count ∙ a.count; others = λ u d. b.others u d ∙ a.others u d }

-- ---- how many calls there are
more_one : (n : ℕ) → more n ≤ n + 1
more_one n = go (eqb n 18446744073709551615)
  where
    go : (b : Bool) → cond b n (n + 1) ≤ n + 1
    go true = omega arith
    go false = omega arith

calls_are : (es : List Entry) (k : Kept) (op : Op) (v : Value) (l : Kept) → IsAnswered es k op v l → l.calls ≡ more k.calls
calls_are es k op v l (inl x) = ap (λ (y : Kept). y.calls) x.after
calls_are es k op v l (inr (inl x)) = ap (λ (y : Kept). y.calls) x.after
calls_are es k op v l (inr (inr x)) = ap (λ (y : Kept). y.calls) x.after

few_calls : (old new : ReplayView) (ds : List Entry) → Steps Answering old ds new → new.kept.calls ≤ old.kept.calls + length ds
few_calls old new [] st = let e : new.kept.calls ≡ old.kept.calls = ap (λ (d : ReplayView). d.kept.calls) st in omega (arith, e)
few_calls old new (e ∷ ds) st =
    let one : st.0.kept.calls ≡ more old.kept.calls = calls_are old.entries old.kept e.op e.reply st.0.kept st.1.kept in
    let on : new.kept.calls ≤ st.0.kept.calls + length ds = few_calls st.0 new ds st.2 in
    omega (arith, one, on, more_one old.kept.calls)

one_of : (f : ℕ → ℕ) (n t : ℕ) → t < n → f t ≤ sum_below n f
one_of f zero t l = absurd (omega arith)
one_of f (suc n) t l = elim (lt_cases t n l) [
  | inl e ↦ let q : f t ≡ f n = ap f e in omega (arith, q)
  | inr m ↦ omega (arith, one_of f n t m)
]
  where
    lt_cases : (t n : ℕ) → t < suc n → (t ≡ n) ⊎ (t < n)
    lt_cases t n l = grind arith

-- a whole run of a ticket's dialogue leaves what may be kept as its answer
pub audited : {S : Type 0} (m : Meaning) (old new : AuditView S) (t : ℕ) (r : Reply) → IsScript m → t < m.requests → old.turn ≡ Some t → replay_at old.tickets t ≡ fresh (entries old.events t) → Runs AuditStep (m.next t) old new r → MayAnswer m new r
audited {S} m old new t r script l is begins runs =
    let steps : Steps Answering (replay_at old.tickets t) runs.entries (replay_at new.tickets t) = ticket_steps old new t runs.entries is runs.steps in
    let stays : KeepsOthers old new t = all_stays old new t runs.entries is runs.steps in
    let n : length runs.entries ≤ m.length t = follows_few (m.length t) (m.next t) runs.entries (script.ends t) runs.follows in
    let none : (replay_at old.tickets t).kept.calls ≡ 0 = ap (λ (x : ReplayView). x.kept.calls) begins in
    let few : (replay_at new.tickets t).kept.calls < 18446744073709551615 = omega (arith, few_calls (replay_at old.tickets t) (replay_at new.tickets t) runs.entries steps, none, n, one_of m.length m.requests t l, script.few_calls) in
    let es : (replay_at old.tickets t).entries ≡ entries new.events t = ap (λ (x : ReplayView). x.entries) begins ∙ ap (λ (J : List Event). entries J t) (sym stays.events) in
    record {
      ticket = t;
      set = stays.turn ∙ is;
      few = few;
      run = ran (m.next t) (entries new.events t) runs.entries (replay_at old.tickets t) (replay_at new.tickets t) r es (ap (λ (x : ReplayView). x.kept) begins) few steps runs.follows runs.answers;
    }
