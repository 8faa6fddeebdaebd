-- The first end is told the list, and each end after it has it from there.
use Rattle.std.proofs.Common.{◌≡◌, ◌≤◌, ◌-◌, ℕ, suc, List, ◌∷◌, ◌++◌, ap, sym, subst, [], rules, arith}
use Rattle.std.specs.List.{AllByRecursion}
use Rattle.crossbeam_queue.specs.Fifo.{Forks}
use Rattle.crossbeam_queue.specs.Passes.{IsPassOf}
use Rattle.session_values.specs.declared.reply.Reply.{Reply}
use Rattle.session_values.specs.Serial.{serial_replies}
use Rattle.session_journal.specs.Script.{session_of}
use Rattle.hall_writing.specs.declared.lane.Lane.{Lane}
use Rattle.hall_writing.specs.declared.lane.End.{End}
use Rattle.hall_writing.specs.declared.rule.EndState.{EndState}
use Rattle.hall_writing.specs.Ends.{IsNewEnd, state_of}
use Rattle.hall_writing.specs.Lanes.{Carries, end_state}
use Rattle.hall_writing.proofs.Carrying.{begins, forks, is_told}
use Rattle.hall_writing.proofs.opening.opened.Goals as goal

pub ruled-requires-clause-rule : goal.ruled-requires-clause-rule
ruled-requires-clause-rule g c = begins

pub another-spare-requires-clause-rule : goal.another-spare-requires-clause-rule
another-spare-requires-clause-rule g c =
    let n : ℕ = g.K.Served.callers in
    let P : EndState → Type 0 = λ v. Forks Carries c.in_ok-queue.pass.id v (end_state [] [] n n g.K.Served.replies) (end_state [] [] 0 0 []) in
    let some : 1 ≤ n = omega (arith, c.requires.many, c.requires.callers.0) in
    subst P (sym c.in_ok-queue.ensures.3) (is_told c.in_ok-queue.pass.id n g.K.Served.replies some)

pub another-other-requires-clause-rule : goal.another-other-requires-clause-rule
another-other-requires-clause-rule g c =
    let share : _ ≡ suc c.args.callers - c.loop-made.made = ap (λ (v : EndState). v.share) c.loop-made.invariant.fresh in
    forks _ _ (search rules)

-- an end of the queue that is as it was made
abbrev IsMade : Lane → ℕ → List Reply → End → Type 0
IsMade l n replies e = IsPassOf l.queue e.pass × (state_of e ≡ end_state [] [] 1 n replies)

all_new : (l : Lane) (n : ℕ) (replies : List Reply) (es : List End) → AllByRecursion (IsMade l n replies) es → AllByRecursion (IsNewEnd l n replies) es
all_new l n replies [] all = tt
all_new l n replies (e ∷ es) all =
    let here = all.0 in
    let share : (state_of e).share ≡ 1 = ap (λ (v : EndState). v.share) here.1 in (
      record {
        end = (here.0, omega (arith, share), ap (λ (v : EndState). v.known) here.1);
        fresh = here.1;
      },
      all_new l n replies es all.1,
    )

all_snoc : (P : End → Type 0) (es : List End) (e : End) → AllByRecursion P es → P e → AllByRecursion P (es ++ e ∷ [])
all_snoc P [] e all p = (p, tt)
all_snoc P (x ∷ es) e all p = (all.0, all_snoc P es e all.1 p)

pub returns-clause-ends : goal.returns-clause-ends
returns-clause-ends g c =
    let n : ℕ = c.args.callers in
    let replies : List Reply = serial_replies (session_of (g.S.Script.meaning c.args.plan.now)) (g.S.Script.meaning c.args.plan.now).requests in
    let last : End = record { pass = c.loop-made.pass } in
    let done : suc n - c.loop-made.made ≡ 1 = search rules in
    let P : ℕ → Type 0 = λ k. state_of last ≡ end_state [] [] k n replies in
    let fresh : state_of last ≡ end_state [] [] 1 n replies = subst P done c.loop-made.invariant.fresh in
    let same : c.from_vec.result ≡ c.loop-made.ends.items ++ last ∷ [] = search rules in
    let l : Lane = record { queue = c.in_ok-queue.queue; room = _ } in
    let Q : List End → Type 0 = λ es. AllByRecursion (IsNewEnd l n replies) es in
    subst Q (sym same) (all_new l n replies (c.loop-made.ends.items ++ last ∷ []) (all_snoc (IsMade l n replies) c.loop-made.ends.items last c.loop-made.invariant.ends (c.loop-made.invariant.pass, fresh)))
