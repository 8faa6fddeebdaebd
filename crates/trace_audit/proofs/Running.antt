-- The tickets of a desk, while they are run one after another.
use Rattle.std.proofs.Common.{◌≡◌, ◌≢◌, ℕ, ◌+◌, ◌<◌, ◌≤◌, inl, inr, IsSome, List, length, Some, refl, sym, ◌∙◌, ap, subst, arith}
use Rattle.std.specs.Prelude.{[], None, slice_set}
use Rattle.std.proofs.lemmas.List.{get_or-set_same, get_or-set_other, length-set}
use Rattle.std.proofs.lemmas.Bool.{cases_eq}
use Rattle.session_values.specs.declared.reply.Reply.{Reply}
use Rattle.session_journal.specs.Journal.{entries}
use Rattle.session_journal.specs.Script.{IsScript, Meaning}
use Rattle.handler_machine.specs.Asking.{Runs}
use Rattle.trace_audit.proofs.Audits.{all_stays, audited}
use Rattle.trace_audit.specs.Desk.{AreGathered, AuditStep, AuditView, KeepsOthers, ReplayView, MayAnswer, fresh, replay_at, tickets_answered, with_answer}
use Rattle.trace_audit.specs.Running.{AreRun}

-- no ticket was run
pub none_run : {S : Type 0} (m : Meaning) (d : AuditView S) → AreGathered m.requests d.events d.tickets → AreRun m 0 d
none_run m d g = record { count = g.count; answered = λ t l. absurd (omega (arith, l)); untouched = λ t l h. g.each t h }

module _ {S : Type 0} (m : Meaning) (t : ℕ) (old turned mid : AuditView S) (r : Reply) (run : AreRun m t old) (exists : t < m.requests)
    (is : turned ≡ record { script = old.script; events = old.events; turn = Some t; tickets = old.tickets }) (runs : Runs AuditStep (m.next t) turned mid r) where
  keeps : KeepsOthers turned mid t
  keeps = all_stays turned mid t runs.entries (ap (λ (d : AuditView S). d.turn) is) runs.steps

  pub script_is : mid.script ≡ old.script
  script_is = keeps.script ∙ ap (λ (d : AuditView S). d.script) is

  pub events_are : mid.events ≡ old.events
  events_are = keeps.events ∙ ap (λ (d : AuditView S). d.events) is

  pub turn_is : mid.turn ≡ Some t
  turn_is = keeps.turn ∙ ap (λ (d : AuditView S). d.turn) is

  count_is : length mid.tickets ≡ m.requests
  count_is = keeps.count ∙ ap (λ (d : AuditView S). length d.tickets) is ∙ run.count

  others : (u : ℕ) → u ≢ t → replay_at mid.tickets u ≡ replay_at old.tickets u
  others u n = keeps.others u n ∙ ap (λ (d : AuditView S). replay_at d.tickets u) is

  abbrev answered : List ReplayView
  answered = slice_set mid.tickets t (with_answer (replay_at mid.tickets t) r)

  abbrev after : AuditView S
  after = record { script = old.script; events = old.events; turn = None; tickets = answered }

  here : replay_at answered t ≡ with_answer (replay_at mid.tickets t) r
  here = get_or-set_same mid.tickets t (with_answer (replay_at mid.tickets t) r) (fresh []) (omega (arith, exists, count_is))

  there : (u : ℕ) → u ≢ t → replay_at answered u ≡ replay_at old.tickets u
  there u n = get_or-set_other mid.tickets t u (with_answer (replay_at mid.tickets t) r) (fresh []) n ∙ others u n

  after_run : AreRun m (t + 1) after
  after_run = record {
    count = length-set mid.tickets t (with_answer (replay_at mid.tickets t) r) ∙ count_is;
    answered = λ u l. elim (cases_eq u t) [
      | inl e ↦ subst (λ (j : ℕ). IsSome (replay_at answered j).answer) (sym e) (subst (λ (x : ReplayView). IsSome x.answer) (sym here) refl)
      | inr n ↦ subst (λ (x : ReplayView). IsSome x.answer) (sym (there u n)) (run.answered u (less u t l n))
    ];
    untouched = λ u l h. there u (above u t l) ∙ run.untouched u (omega (arith, l)) h;
  }
    where
      less : (u t : ℕ) → u < t + 1 → u ≢ t → u < t
      less u t l n = grind (arith, l, n)

      above : (u t : ℕ) → t + 1 ≤ u → u ≢ t
      above u t l e = omega (arith, l, e)

  -- one ticket more has answered
  pub run_next : (new : AuditView S) → new ≡ record { script = mid.script; events = mid.events; turn = None; tickets = tickets_answered mid.tickets mid.turn r } → AreRun m (t + 1) new
  run_next new e =
      let made : AuditView S = record { script = mid.script; events = mid.events; turn = None; tickets = tickets_answered mid.tickets mid.turn r } in
      let same : made ≡ after = λ i. record { script = script_is i; events = events_are i; turn = None; tickets = tickets_answered mid.tickets (turn_is i) r } in
      subst (AreRun m (t + 1)) (sym (e ∙ same)) after_run

  -- and what it answered may be kept
  pub may_answer : IsScript m → MayAnswer m mid r
  may_answer script = audited m turned mid t r script exists (ap (λ (d : AuditView S). d.turn) is) begins runs
    where
      begins : replay_at turned.tickets t ≡ fresh (entries turned.events t)
      begins = ap (λ (d : AuditView S). replay_at d.tickets t) is ∙ run.untouched t (omega arith) exists ∙ ap (λ (d : AuditView S). fresh (entries d.events t)) (sym is)

-- all tickets have answered
pub all_run : {S : Type 0} (m : Meaning) (n : ℕ) (d : AuditView S) → m.requests ≤ n → AreRun m n d → AreRun m m.requests d
all_run m n d l run = record { count = run.count; answered = λ t h. run.answered t (omega (arith, l, h)); untouched = λ t h s. absurd (omega (arith, h, s)) }
