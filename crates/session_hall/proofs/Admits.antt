-- A caller's operation is admitted, or delayed.
use Rattle.std.proofs.Common.{◌≡◌, ◌≢◌, ℕ, ◌<◌, List, [], ◌∷◌, ◌++◌, length, Option, Some, Bool, true, false, cond, refl, sym, ◌∙◌, ap, append-nil, arith}
use Rattle.std.proofs.lemmas.Option.{same_Some}
use Rattle.std.specs.List.{AllByRecursion}
use Rattle.session_values.specs.declared.op.Op.{Op}
use Rattle.symbolic_ops.specs.declared.symbol.Symbol.{Symbol}
use Rattle.session_journal.specs.declared.event.Event.{Event}
use Rattle.session_journal.specs.declared.event.Event.TheVariants.{Delay}
use Rattle.session_journal.specs.Journal.{done_operations, of_ticket, entries, owner, ticket_of}
use Rattle.session_journal.specs.Script.{Meaning}
use Rattle.admission_book.specs.Book.{Book, Serving, IsBlocker, record_of, with_event, after_admit, after_delay}
use Rattle.admission_book.specs.Lawful.{Lawful}
use Rattle.session_journal.specs.EventsInTurn.{is_delayed}
use Rattle.admission_book.specs.Methods as books
use Rattle.admission_book.specs.Methods.{BookView, IsOldestOpen}
use Rattle.admission_book.specs.declared.admission.Admission.{Admission}
use Rattle.admission_book.specs.declared.admission.Admission.TheVariants as admission
use Rattle.session_journal.proofs.Events.{done_operations_stay}
use Rattle.admission_book.proofs.Records.{within}
use Rattle.turn_board.specs.Boards.{IsSeatOf, SameNote, BookedAll, turn_count, held, caller, caller_count}
use Rattle.turn_board.specs.Hands.{put_back}
use Rattle.hall_rule.specs.declared.held.Held.TheVariants as value
use Rattle.hall_rule.specs.Contents.{Register}
use Rattle.hall_rule.specs.Shards.{content_of}
use Rattle.hall_rule.specs.Tie.{Moves}
use Rattle.session_hall.specs.declared.caller.Caller.{Caller}
use Rattle.session_hall.specs.declared.hall.Hall.{Hall}
use Rattle.session_hall.specs.declared.stage.Stage.TheVariants.{Serving as Serves, InFlight}
use Rattle.session_hall.specs.Callers.{IsCallerOf, foresight_of}
use Rattle.session_hall.specs.Calls.{AdmittedAt, DelayedAt}
use Rattle.session_hall.specs.Findings.{HasBook}
use Rattle.session_hall.specs.Names.{script_of}
use Rattle.session_hall.specs.Stages.{SeatOf, OnServing, waiting, flying}
use Rattle.session_hall.proofs.Giving.{one_record, same_records, own_set, quiet_moves, left_is, who, holds_none, gave_back, caller_after, foresight_left}
use Rattle.session_hall.proofs.Tickets.{on_serving, own_record, still, empty_hands, owner_more}

module _ {S : Type 0} (meaning : S → Meaning) (h : Hall S) (c : Caller S) (k : IsCallerOf meaning h c) (q : SeatOf S) (b : BookView S) (v : SameNote c.seat q) (f : HasBook c.seat q meaning (script_of h) (turn_count h.board) b) (t : ℕ) (st : c.stage ≡ Serves t)
    (d : BookView S) (kept : d.script ≡ b.script) (lawful : Lawful (meaning d.script) d.book) (op : Op) where
  module _ (admits : books.Admits b.book t op admission.Admitted d.book) where
    abbrev after : Book
    after = after_admit b.book (caller c.seat) (waiting t (foresight_of c)) op

    is_admitted : d.book ≡ after
    is_admitted = admits.1 (caller c.seat) (waiting t (foresight_of c)) (own_record meaning h c k q b v f t st) refl

    pub admit_moves : Moves meaning (turn_count h.board) (caller q) (held q) (put_back content_of (value.Register d) c.hands.pairs)
    admit_moves = quiet_moves meaning h c k q b v f d kept lawful after is_admitted [] refl
        (one_record (meaning (script_of h)) (caller c.seat) b.book after (Some (flying t (foresight_of c) op)) [] refl (append-nil b.book.journal) tt) c.hands.pairs (empty_hands meaning h c k q b v f t st)

    module _ (r : Caller S) (seat : IsSeatOf h.board r.seat) (bk : BookedAll q r.seat (Register d.script d.book)) (pairs : r.hands.pairs ≡ []) (reserved : r.hands.room ≡ c.hands.room) (number : r.number ≡ c.number) (stage : r.stage ≡ InFlight t op) where
      admitted_here : record_of after (caller r.seat) ≡ Some (flying t (foresight_of c) op)
      admitted_here = own_set meaning h c k q b v f (Some (flying t (foresight_of c) op)) (caller r.seat) (who meaning h c k q b v f d kept lawful after is_admitted r seat bk pairs reserved number)

      pub admitted_caller : IsCallerOf meaning h r
      admitted_caller =
          caller_after meaning h c k q b v f d kept lawful after is_admitted r seat bk pairs reserved number (foresight_of c) (InFlight t op) stage
          (admitted_here, holds_none meaning h c k q b v f d kept lawful after is_admitted r seat bk pairs reserved number)

      pub admitted_at : OnServing c.stage (AdmittedAt (meaning (script_of h)) c r op)
      admitted_at = on_serving c.stage t (AdmittedAt (meaning (script_of h)) c r op) st (record {
        found = b.book;
        gave = gave_back meaning h c k q b v f d kept lawful after is_admitted r seat bk pairs reserved number;
        free = admits.0;
        stage_is = stage;
        foresight_still = foresight_left meaning h c k q b v f d kept lawful after is_admitted r seat bk pairs reserved number (Some (flying t (foresight_of c) op)) admitted_here;
        entries_still = ap (λ (w : Book). entries w.journal t) (left_is meaning h c k q b v f d kept lawful after is_admitted r seat bk pairs reserved number) ∙ still meaning h c k q b v f t st;
      })

  module _ (older : ℕ) (y : Symbol) (delays : books.Admits b.book t op (admission.Delayed older y) d.book) where
    abbrev later : Book
    later = after_delay b.book t op older y

    -- the event of the delay, where it is noted
    record IsDelay (w : Book) : Type 0 where
      more : List Event
      grows : b.book.journal ++ more ≡ w.journal
      records : w.records ≡ b.book.records
      quiet : done_operations more ≡ []
      own : AllByRecursion (λ e. owner w.journal (ticket_of e) ≡ Some (caller c.seat)) more
      entries_still : entries w.journal t ≡ entries b.book.journal t

    delay : IsDelay later
    delay = go (is_delayed b.book.journal t)
      where
        go : (x : Bool) → IsDelay (cond x b.book (with_event b.book (Delay t op older y)))
        go true = record { more = []; grows = append-nil b.book.journal; records = refl; quiet = refl; own = tt; entries_still = refl }
        go false = record { more = Delay t op older y ∷ []; grows = refl; records = refl; quiet = refl; own = (owner_more meaning h c k q b v f t st (Delay t op older y), tt); entries_still = ap (of_ticket t) (done_operations_stay b.book.journal (Delay t op older y) refl) }

    pub delay_moves : Moves meaning (turn_count h.board) (caller q) (held q) (put_back content_of (value.Register d) c.hands.pairs)
    delay_moves = quiet_moves meaning h c k q b v f d kept lawful later delays.1 delay.more delay.quiet
        (same_records (meaning (script_of h)) (caller c.seat) b.book later delay.more delay.records delay.grows delay.own) c.hands.pairs (empty_hands meaning h c k q b v f t st)

    -- with one caller no other ticket is open
    several : caller_count c.seat ≢ 1
    several one =
        let z : IsBlocker b.book t op older y = delays.0 in
        let near : z.caller < length b.book.records = within b.book.records z.caller z.serving z.is in
        let e : z.caller ≡ caller c.seat = omega (arith, near, f.finds.callers_are, one, f.finds.near) in
        let s : z.serving ≡ waiting t (foresight_of c) = same_Some z.serving (waiting t (foresight_of c)) (sym z.is ∙ ap (record_of b.book) e ∙ own_record meaning h c k q b v f t st) in
        let u : z.serving.ticket ≡ t = ap (λ (x : Serving). x.ticket) s in
        omega (arith, u, z.ticket, z.is_older)

    module _ (r : Caller S) (seat : IsSeatOf h.board r.seat) (bk : BookedAll q r.seat (Register d.script d.book)) (pairs : r.hands.pairs ≡ []) (reserved : r.hands.room ≡ c.hands.room) (number : r.number ≡ c.number) (stage : r.stage ≡ c.stage) where
      delayed_here : record_of later (caller r.seat) ≡ Some (waiting t (foresight_of c))
      delayed_here =
          let w : caller r.seat ≡ caller c.seat = who meaning h c k q b v f d kept lawful later delays.1 r seat bk pairs reserved number in
          let own : record_of later (caller c.seat) ≡ record_of b.book (caller c.seat) = ap (λ (l : List (Option Serving)). record_of (record { journal = []; kept = []; records = l }) (caller c.seat)) delay.records in
          ap (record_of later) w ∙ own ∙ own_record meaning h c k q b v f t st

      pub delayed_caller : IsCallerOf meaning h r
      delayed_caller =
          caller_after meaning h c k q b v f d kept lawful later delays.1 r seat bk pairs reserved number (foresight_of c) (Serves t) (stage ∙ st)
          (delayed_here, holds_none meaning h c k q b v f d kept lawful later delays.1 r seat bk pairs reserved number)

      pub delayed_at : (IsOldestOpen (Some t) b.book.journal → ⊥) → OnServing c.stage (DelayedAt (meaning (script_of h)) c r op older y)
      delayed_at oldest = on_serving c.stage t (DelayedAt (meaning (script_of h)) c r op older y) st (record {
        found = b.book;
        gave = gave_back meaning h c k q b v f d kept lawful later delays.1 r seat bk pairs reserved number;
        blocker = delays.0;
        not_oldest = oldest;
        several = several;
        stage_is = stage ∙ st;
        foresight_still = foresight_left meaning h c k q b v f d kept lawful later delays.1 r seat bk pairs reserved number (Some (waiting t (foresight_of c))) delayed_here;
        entries_still = ap (λ (w : Book). entries w.journal t) (left_is meaning h c k q b v f d kept lawful later delays.1 r seat bk pairs reserved number) ∙ delay.entries_still ∙ still meaning h c k q b v f t st;
      })

-- an answer isn't both
pub not_both : (older : ℕ) (y : Symbol) → ◌≡◌ {A = Admission} (admission.Delayed older y) admission.Admitted → ⊥
not_both older y e = cc
