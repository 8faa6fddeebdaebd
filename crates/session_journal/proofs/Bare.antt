-- Scripts of the same session accept the same events.
use Rattle.std.proofs.Common.{ℕ, List, [], ◌∷◌, ◌++◌, inl, inr}
use Rattle.session_journal.specs.declared.event.Event.{Event}
use Rattle.session_journal.specs.declared.event.Event.TheVariants.{Begin, Done, Delay, End}
use Rattle.session_journal.specs.Script.{Meaning, session_of}
use Rattle.session_journal.specs.declared.verdict.Verdict.{Verdict}
use Rattle.session_journal.specs.declared.verdict.Verdict.TheVariants.{Accepted as IsFine, Event as AtEvent, Ticket as AtTicket}
use Rattle.session_journal.specs.Accepted.{Accepted, AreAllowed, IsAllowed}
use Rattle.session_journal.specs.Bare.{bare_script}
use Rattle.session_journal.specs.Verdicts.{IsTicketFault, IsVerdict}

module _ (m : Meaning) where
  abbrev pub bare : Meaning
  bare = bare_script (session_of m)

  allowed : (J : List Event) (e : Event) → IsAllowed m J e → IsAllowed bare J e
  allowed J (Begin t c) a = record { next = a.next; left = a.left; caller = a.caller; others = a.others }
  allowed J (Done t op v) a = (record { is_open = a.0.is_open; calls = a.0.calls }, a.1)
  allowed J (Delay t op older s) a = record { is_open = a.is_open; calls = a.calls; is_older = a.is_older; symbol = a.symbol; once = a.once }
  allowed J (End t r) a = record { is_open = a.is_open; answers = a.answers }

  allowed_back : (J : List Event) (e : Event) → IsAllowed bare J e → IsAllowed m J e
  allowed_back J (Begin t c) a = record { next = a.next; left = a.left; caller = a.caller; others = a.others }
  allowed_back J (Done t op v) a = (record { is_open = a.0.is_open; calls = a.0.calls }, a.1)
  allowed_back J (Delay t op older s) a = record { is_open = a.is_open; calls = a.calls; is_older = a.is_older; symbol = a.symbol; once = a.once }
  allowed_back J (End t r) a = record { is_open = a.is_open; answers = a.answers }

  all_allowed : (front J : List Event) → AreAllowed m front J → AreAllowed bare front J
  all_allowed front [] a = tt
  all_allowed front (e ∷ J) a = (allowed front e a.0, all_allowed (front ++ e ∷ []) J a.1)

  all_allowed_back : (front J : List Event) → AreAllowed bare front J → AreAllowed m front J
  all_allowed_back front [] a = tt
  all_allowed_back front (e ∷ J) a = (allowed_back front e a.0, all_allowed_back (front ++ e ∷ []) J a.1)

  pub accepted : (J : List Event) → Accepted m J → Accepted bare J
  accepted J a = record { allowed = all_allowed [] J a.allowed; ended = a.ended; regrouped = a.regrouped }

  pub accepted_back : (J : List Event) → Accepted bare J → Accepted m J
  accepted_back J a = record { allowed = all_allowed_back [] J a.allowed; ended = a.ended; regrouped = a.regrouped }

  ticket : (J : List Event) (rule t : ℕ) → IsTicketFault m J rule t → IsTicketFault bare J rule t
  ticket J rule t (inl x) = inl (x.0, record { allowed = all_allowed [] J x.1.allowed; before = x.1.before; exists = x.1.exists; open_still = x.1.open_still })
  ticket J rule t (inr x) = inr (x.0, record { allowed = all_allowed [] J x.1.allowed; all_ended = x.1.all_ended; exists = x.1.exists; before = x.1.before; against = x.1.against })

  ticket_back : (J : List Event) (rule t : ℕ) → IsTicketFault bare J rule t → IsTicketFault m J rule t
  ticket_back J rule t (inl x) = inl (x.0, record { allowed = all_allowed_back [] J x.1.allowed; before = x.1.before; exists = x.1.exists; open_still = x.1.open_still })
  ticket_back J rule t (inr x) = inr (x.0, record { allowed = all_allowed_back [] J x.1.allowed; all_ended = x.1.all_ended; exists = x.1.exists; before = x.1.before; against = x.1.against })

  pub verdict : (J : List Event) (v : Verdict) → IsVerdict m J v → IsVerdict bare J v
  verdict J IsFine a = accepted J a
  verdict J (AtEvent rule at) a = record { front = a.front; event = a.event; back = a.back; is = a.is; place = a.place; before = all_allowed [] a.front a.before; against = λ h. a.against (allowed_back a.front a.event h); rule_is = a.rule_is }
  verdict J (AtTicket rule t) a = ticket J rule t a

  pub verdict_back : (J : List Event) (v : Verdict) → IsVerdict bare J v → IsVerdict m J v
  verdict_back J IsFine a = accepted_back J a
  verdict_back J (AtEvent rule at) a = record { front = a.front; event = a.event; back = a.back; is = a.is; place = a.place; before = all_allowed_back [] a.front a.before; against = λ h. a.against (allowed a.front a.event h); rule_is = a.rule_is }
  verdict_back J (AtTicket rule t) a = ticket_back J rule t a
