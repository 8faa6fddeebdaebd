-- The reply of a ticket that has ended stands at its place among the serial replies.
use Rattle.std.proofs.Common.{◌≡◌, ℕ, ◌<◌, [], ◌∷◌, ◌++◌, Some, slice_get, ◌∙◌, subst}
use Rattle.session_values.specs.declared.reply.Reply.{Reply}
use Rattle.session_values.specs.Serial.{serial, serial_replies}
use Rattle.session_values.proofs.Serial.{at_serial}
use Rattle.session_journal.specs.Journal.{begun, ended}
use Rattle.session_journal.specs.Script.{Meaning, IsScript, session_of}
use Rattle.session_hall.specs.declared.hall.Hall.{Hall}
use Rattle.session_hall.specs.declared.caller.Caller.{Caller}
use Rattle.session_hall.specs.declared.stage.Stage.TheVariants.{Idle}
use Rattle.session_hall.specs.Callers.{IsCallerOf, book_of}
use Rattle.session_hall.specs.Names.{script_of}
use Rattle.session_hall.specs.Begun.{begun_by}
use Rattle.hall_serving.specs.Jobs.{HasServedNext}

-- ---- what a caller knows of a ticket that has ended
abbrev pub Answers : Type 0
Answers = (m : Meaning) (t : ℕ) → IsScript m → (r : Reply) × ((serial (session_of m) t).answer ≡ Some r)

pub serves_next : Answers → {S : Type 0} (meaning : S → Meaning) (h : Hall S) (p q : Caller S) (plan : S) (t : ℕ) (r : Reply) → IsCallerOf meaning h q → begun_by q ≡ begun_by p ++ t ∷ [] → script_of h ≡ plan → t < (meaning (script_of h)).requests → q.stage ≡ Idle
    → (t < begun (book_of q).journal) × (ended (book_of q).journal t ≡ Some r) → HasServedNext (serial_replies (session_of (meaning plan)) (meaning plan).requests) p q t r
serves_next answers {S} meaning h p q plan t r is more same low idle known =
    let P : S → Type 0 = λ x. slice_get (serial_replies (session_of (meaning x)) (meaning x).requests) t ≡ Some r in
    record {
      begun_more = more;
      idle = idle;
      begun_is = known.0;
      ended_is = known.1;
      serial_is = subst P same (at_serial (session_of (meaning (script_of h))) (λ u. answers (meaning (script_of h)) u is.script_kept) (meaning (script_of h)).requests t low ∙ (is.told.foreknown t known.0).answer r known.1);
    }
