-- The journal of a lawful book in which all tickets have ended is accepted.
use Rattle.std.proofs.Common.{◌≡◌, ℕ, ◌≤◌, List, [], ◌∷◌, ◌++◌, length, sym, ◌∙◌, ap, subst, append_assoc, arith}
use Rattle.session_values.specs.Limits.{max_callers}
use Rattle.session_values.specs.Dialogue.{Entry}
use Rattle.session_journal.specs.declared.event.Event.{Event}
use Rattle.session_journal.specs.declared.event.Event.TheVariants.{Begin, Done, Delay, End}
use Rattle.session_journal.specs.Journal.{Replays, done_operations, in_order}
use Rattle.session_journal.specs.Script.{Meaning}
use Rattle.session_journal.proofs.Replay.{Replays-back}
use Rattle.admission_book.proofs.Foreknown.{regrouped_lawful}
use Rattle.admission_book.specs.Book.{Book}
use Rattle.admission_book.specs.Lawful.{Lawful}
use Rattle.session_journal.specs.EventsInTurn.{ComeInTurn, MayCome}
use Rattle.session_journal.proofs.Events.{done_operations-append, in_order-append}
use Rattle.session_journal.specs.Accepted.{Accepted, AreAllowed, HaveEnded, IsAllowed}

-- the entries of a journal that goes on
in_two : (front J : List Event) → in_order (done_operations (front ++ J)) ≡ in_order (done_operations front) ++ in_order (done_operations J)
in_two front J = ap in_order (done_operations-append front J) ∙ in_order-append (done_operations front) (done_operations J)

one_allowed : (m : Meaning) (callers : ℕ) (front J : List Event) (e : Event) → callers ≤ max_callers → MayCome m callers front e → Replays m.opening (in_order (done_operations (front ++ e ∷ J))) → IsAllowed m front e
one_allowed m callers front J (Begin t c) l may h = record { next = may.next; left = may.left; caller = omega (arith, may.caller, l); others = may.others }
one_allowed m callers front J (Done t op v) l may h =
    let P : List Entry → Type 0 = λ es. Replays m.opening es in
    (may, (Replays-back m.opening (in_order (done_operations front)) (in_order (done_operations (Done t op v ∷ J))) (subst P (in_two front (Done t op v ∷ J)) h)).0)
one_allowed m callers front J (Delay t op older s) l may h = record { is_open = may.is_open; calls = may.calls; is_older = may.is_older; symbol = may.symbol; once = may.once }
one_allowed m callers front J (End t r) l may h = may

allowed : (m : Meaning) (callers : ℕ) (front J : List Event) → callers ≤ max_callers → ComeInTurn m callers front J → Replays m.opening (in_order (done_operations (front ++ J))) → AreAllowed m front J
allowed m callers front [] l t h = tt
allowed m callers front (e ∷ J) l t h =
    let P : List Event → Type 0 = λ K. Replays m.opening (in_order (done_operations K)) in
    (one_allowed m callers front J e l t.0 h, allowed m callers (front ++ e ∷ []) J l t.1 (subst P (sym (append_assoc front (e ∷ []) J)) h))

pub accepted : (m : Meaning) (b : Book) → Lawful m b → length b.records ≤ max_callers → HaveEnded m.requests b.journal → Accepted m b.journal
accepted m b L l ends = record {
  allowed = allowed m (length b.records) [] b.journal l L.turns L.replays;
  ended = ends;
  regrouped = (regrouped_lawful m b L).replays;
}
