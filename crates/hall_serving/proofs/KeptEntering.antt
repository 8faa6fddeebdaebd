-- A desk over a holding after the operation that was done is entered: in the book in hand, or while
-- the book isn't in hand, by the caller alone.
use Rattle.std.proofs.Common.{◌≡◌, ℕ, List, [], ◌∷◌, ◌++◌, Option, true, length, sym, ap, subst}
use Rattle.session_values.specs.declared.reply.Reply.{Reply}
use Rattle.symbolic_ops.specs.declared.symbol.Symbol.{Symbol}
use Rattle.session_journal.specs.Desks.{finished}
use Rattle.session_journal.specs.Script.{Meaning}
use Rattle.admission_book.specs.Book.{record_of}
use Rattle.admission_book.specs.Methods.{BookView}
use Rattle.session_hall.specs.declared.caller.Caller.{Caller}
use Rattle.session_hall.specs.declared.hall.Hall.{Hall}
use Rattle.session_hall.specs.declared.holding.Holding.{Holding}
use Rattle.session_hall.specs.declared.stage.Stage.{Stage}
use Rattle.session_hall.specs.declared.stage.Stage.TheVariants.{Idle, Serving, InFlight, Applied, Out}
use Rattle.session_hall.specs.Callers.{StaysCaller, book_of}
use Rattle.session_hall.specs.Calls.{MayFinish, MayFinishAt}
use Rattle.session_hall.specs.HoldingCalls.{EnteredFrom, MayEnter}
use Rattle.session_hall.specs.Holdings.{IsHoldingOf, IsKept, StaysHolding, begun_at, book_at, entries_at, foresight_at}
use Rattle.session_hall.specs.Names.{hall_name, script_of}
use Rattle.session_hall.specs.Stages.{foresight_in}
use Rattle.session_hall.specs.Waits.{FinishedAfter}
use Rattle.hall_serving.specs.Desks.{AtTicket, HallView, has_ended, waiting_of}
use Rattle.hall_serving.specs.KeptDesks.{KeptStands, KnowsAt, kept_desk_at}
use Rattle.hall_serving.proofs.KeptFinishing.{Shows}
use Rattle.hall_serving.proofs.Unkept.{EnteredBy, entered_apart, holding_of, not_kept, unkept}

-- the holding, with its caller after a call of the caller alone
abbrev pub with_caller : {S : Type 0} → Holding S → Caller S → Holding S
with_caller p d = record { caller = d; book = p.book; ends = p.ends; entered = p.entered }

module _ {S : Type 0} (m : Meaning) (p : Holding S) (next : List Symbol) where
  -- ---- in the book in hand
  pub entered_kept : (q : Holding S) → EnteredFrom m p q next p.caller.stage → EnteredBy p q next p.caller.stage
  entered_kept q e = go p.caller.stage e
    where
      go : (st : Stage) → EnteredFrom m p q next st → EnteredBy p q next st
      go (Applied t op v) x = record { stage_is = x.stage_is; foresight_is = x.foresight_is; begun_still = x.begun_still; entries_more = x.entries_more }
      go Idle x = absurd x
      go Out x = absurd x
      go (Serving t) x = absurd x
      go (InFlight t op) x = absurd x

  -- ---- while it isn't in hand
  pub may_finish_apart : (IsKept p.book → ⊥) → MayEnter m p next → MayFinish m p.caller next
  may_finish_apart away may =
      let P : Option (BookView S) → Type 0 = λ b. MayFinishAt m p.caller.stage (foresight_in (record_of (book_at b (book_of p.caller)) p.caller.number)) (book_at b (book_of p.caller)) next in
      subst P (not_kept p.book away) may

  pub entered_alone : (meaning : S → Meaning) (h : Hall S) (d : Caller S) → (IsKept p.book → ⊥) → IsHoldingOf meaning h p → StaysCaller meaning h p.caller d → FinishedAfter m p.caller d next → StaysHolding meaning h p (with_caller p d) × EnteredBy p (with_caller p d) next p.caller.stage
  entered_alone meaning h d away k s f =
      let none = not_kept p.book away in
      ((holding_of meaning h (with_caller p d) none s.0, s.1), entered_apart meaning h m p (with_caller p d) none none (unkept meaning h p none k) s next f)

-- ---- what the desk is then
module _ {S : Type 0} (meaning : S → Meaning) (h : Hall S) (p q : Holding S) (t : ℕ) (r : Option Reply) (stands : KeptStands meaning h p t r) (stays : StaysHolding meaning h p q) where
  pub entered_stands : (next : List Symbol) → EnteredBy p q next p.caller.stage → KeptStands meaning h q t r
  entered_stands next e = go p.caller.stage stands.at e
    where
      go : (st : Stage) → AtTicket st t r → EnteredBy p q next st → KeptStands meaning h q t r
      go (Applied u op v) at x =
          let A : Stage → Type 0 = λ s. AtTicket s t r in
          let K : Option Reply → Type 0 = λ o. KnowsAt q t o in
          record { holding = stays.0; at = subst A (sym x.stage_is) at; known = subst K (sym at.1) (ap has_ended x.stage_is) }
      go Idle at x = absurd x
      go Out at x = absurd x
      go (Serving u) at x = absurd x
      go (InFlight u op) at x = absurd x

  shown : (name : ℕ) (next : List Symbol) → EnteredBy p q next p.caller.stage → kept_desk_at h q t name ≡ finished (kept_desk_at h p t name) (waiting_of p.caller.stage) next
  shown name next e = go p.caller.stage stands.at e
    where
      go : (st : Stage) → AtTicket st t r → EnteredBy p q next st → kept_desk_at h q t name ≡ finished (record {
        ticket = t;
        entries = entries_at p t;
        present = foresight_at p;
        waiting = waiting_of st;
        ended = has_ended st;
        home = name ∷ p.caller.number ∷ length (begun_at p) ∷ begun_at p ++ hall_name h;
        sure = true;
      }) (waiting_of st) next
      go (Applied u op v) at x =
          let P : ℕ → Type 0 = λ n. entries_at q n ≡ entries_at p n ++ record { op = op; reply = v } ∷ [] in
          let entries = subst P at.0 x.entries_more in
          λ i. record {
            ticket = t;
            entries = entries i;
            present = x.foresight_is i;
            waiting = waiting_of (x.stage_is i);
            ended = has_ended (x.stage_is i);
            home = name ∷ stays.1 i ∷ length (x.begun_still i) ∷ x.begun_still i ++ hall_name h;
            sure = true;
          }
      go Idle at x = absurd x
      go Out at x = absurd x
      go (Serving u) at x = absurd x
      go (InFlight u op) at x = absurd x

  -- the list may be one that the desk's script says, which is the hall's
  pub entered_shows : (name : ℕ) (next : S → List Symbol) → EnteredBy p q (next (script_of h)) p.caller.stage → (v : HallView S) → Shows meaning h p t name r v → kept_desk_at h q t name ≡ finished v.desk v.desk.waiting (next v.script)
  entered_shows name next e v is =
      let P : HallView S → Type 0 = λ w. kept_desk_at h q t name ≡ finished w.desk w.desk.waiting (next w.script) in
      subst P is (shown name (next (script_of h)) e)
