-- An operation is admitted in the book in hand, or delayed, and is put in flight there.
use Rattle.std.proofs.Common.{◌≡◌, ◌≢◌, ℕ, ◌<◌, List, [], ◌∷◌, ◌++◌, length, Option, Some, None, Bool, true, false, cond, append-nil, refl, sym, ◌∙◌, ap, subst, arith}
use Rattle.std.proofs.lemmas.Option.{same_Some}
use Rattle.std.specs.List.{AllByRecursion}
use Rattle.session_values.specs.declared.op.Op.{Op}
use Rattle.session_values.specs.Dialogue.{Calls}
use Rattle.symbolic_ops.specs.declared.symbol.Symbol.{Symbol}
use Rattle.symbolic_ops.specs.Matching.{Matches}
use Rattle.session_journal.specs.declared.event.Event.{Event}
use Rattle.session_journal.specs.declared.event.Event.TheVariants.{Delay}
use Rattle.session_journal.specs.EventsInTurn.{is_delayed, now}
use Rattle.session_journal.specs.Journal.{done_operations, entries, of_ticket, owner, ticket_of}
use Rattle.session_journal.specs.Script.{Meaning}
use Rattle.session_journal.proofs.Events.{done_operations_stay}
use Rattle.admission_book.specs.Book.{Book, IsBlocker, IsFree, Serving, record_of, with_event, after_admit, after_delay}
use Rattle.admission_book.specs.Lawful.{Lawful}
use Rattle.admission_book.specs.Methods as books
use Rattle.admission_book.specs.Methods.{BookView}
use Rattle.admission_book.specs.declared.admission.Admission.{Admission}
use Rattle.admission_book.specs.declared.admission.Admission.TheVariants as admission
use Rattle.admission_book.proofs.Blocks.{not_free}
use Rattle.admission_book.proofs.Records.{within}
use Rattle.turn_board.specs.Boards.{BookedAll, IsSeatOf, caller, caller_count, held, note, turn_count}
use Rattle.turn_board.specs.Hands.{HandsView, Once}
use Rattle.hall_rule.specs.declared.held.Held.{Held}
use Rattle.hall_rule.specs.Contents.{Content, Register}
use Rattle.hall_rule.specs.Shards.{content_of}
use Rattle.session_hall.specs.declared.caller.Caller.{Caller}
use Rattle.session_hall.specs.declared.hall.Hall.{Hall}
use Rattle.session_hall.specs.declared.stage.Stage.{Stage}
use Rattle.session_hall.specs.declared.stage.Stage.TheVariants.{Serving as Serves, InFlight}
use Rattle.session_hall.specs.Begun.{tickets_by}
use Rattle.session_hall.specs.Callers.{IsCallerOf, book_in}
use Rattle.session_hall.specs.Calls.{MayCall}
use Rattle.session_hall.specs.HoldingCalls.{AdmitsKept, LaunchedKept}
use Rattle.session_hall.specs.Holdings.{IsKeeperIn, MayGive}
use Rattle.session_hall.specs.InHand.{Becomes, OnBook}
use Rattle.session_hall.specs.Names.{HallId, hall_name, id_of, script_of}
use Rattle.session_hall.specs.Stages.{OnServing, SeatOf, Stands, flying, foresight_in, waiting}
use Rattle.session_hall.proofs.Begun.{still_begun}
use Rattle.session_hall.proofs.Giving.{Changes, is_told, one_record, same_records, stands_by_record}
use Rattle.session_hall.proofs.Kept.{at_book, gives_on, keeps_on, own_in_hand}
use Rattle.session_hall.proofs.KeptTickets as tickets
use Rattle.session_hall.proofs.TakenInHand.{records_are}
use Rattle.session_hall.proofs.Tickets.{on_serving}

module _ {S : Type 0} (meaning : S → Meaning) (p : HallId) (script : S) (c : Caller S)
    (b : BookView S) (k : IsKeeperIn meaning p script c b) (t : ℕ) (st : c.stage ≡ Serves t)
    (op : Op) where
  -- what its ticket may still call
  abbrev list : List Symbol
  list = foresight_in (record_of b.book c.number)

  own : record_of b.book (caller c.seat) ≡ Some (waiting t list)
  own = tickets.own_kept meaning p script c b k t st

  gives : MayGive meaning p.board.slots b c.seat c.hands.pairs
  gives = (tickets.stands_kept meaning p script c b k t st).1

  pub may_admit : OnBook (meaning script) c b (MayCall list op) → books.MayAdmit (meaning b.script) b.book t op
  may_admit may =
      let P : Stage → Type 0 = λ s. OnServing s (λ u. MayCall list op (meaning script) b.book u) in
      let here : (now (meaning script) b.book.journal t ≡ Calls op) × Matches list op = subst P st may in
      at_book meaning p script c b k (λ m. books.MayAdmit m b.book t op) (record {
        caller = caller c.seat;
        serving = waiting t list;
        is = own;
        ticket = refl;
        idle = refl;
        calls = here.0;
        matches = here.1;
      })

  -- ---- nobody delays it
  pub admitted_kept : IsFree b.book t op → OnServing c.stage (λ u. Becomes (λ h q. AdmitsKept (meaning script) h q op admission.Admitted u) c (Some b) c (Some b))
  admitted_kept free = on_serving c.stage t (λ u. Becomes (λ h q. AdmitsKept (meaning script) h q op admission.Admitted u) c (Some b) c (Some b)) st (λ ends entered later done. record {
    hand = record { seat_still = refl; hands_still = refl; number_still = refl; kept = tt };
    still = refl;
    free = free;
    stage_is = st;
    foresight_still = refl;
    entries_still = refl;
    begun_still = refl;
  })

  -- ---- an older open ticket delays it
  several : (older : ℕ) (y : Symbol) → IsBlocker b.book t op older y → caller_count c.seat ≢ 1
  several older y z one =
      let near : z.caller < length b.book.records = within b.book.records z.caller z.serving z.is in
      let e : z.caller ≡ caller c.seat = omega (arith, near, within b.book.records (caller c.seat) (waiting t list) own, records_are meaning p script c b k t st, one) in
      let s : z.serving ≡ waiting t list = same_Some z.serving (waiting t list) (sym z.is ∙ ap (record_of b.book) e ∙ own) in
      omega (arith, ap (λ (x : Serving). x.ticket) s, z.ticket, z.is_older)

  module _ (d : BookView S) (kept : d.script ≡ b.script) (lawful : Lawful (meaning d.script) d.book) where
    module _ (older : ℕ) (y : Symbol) (delays : books.Admits b.book t op (admission.Delayed older y) d.book) where
      abbrev later : Book
      later = after_delay b.book t op older y

      -- the event of the delay, if it is noted
      record IsDelay (w : Book) : Type 0 where
        more : List Event
        grows : b.book.journal ++ more ≡ w.journal
        records : w.records ≡ b.book.records
        quiet : done_operations more ≡ []
        own_events : AllByRecursion (λ e. owner w.journal (ticket_of e) ≡ Some (caller c.seat)) more
        entries_still : entries w.journal t ≡ entries b.book.journal t
        begun_still : tickets_by (caller c.seat) w.journal ≡ tickets_by (caller c.seat) b.book.journal

      delay : IsDelay later
      delay = go (is_delayed b.book.journal t)
        where
          go : (x : Bool) → IsDelay (cond x b.book (with_event b.book (Delay t op older y)))
          go true = record { more = []; grows = append-nil b.book.journal; records = refl; quiet = refl; own_events = tt; entries_still = refl; begun_still = refl }
          go false = record {
            more = Delay t op older y ∷ [];
            grows = refl;
            records = refl;
            quiet = refl;
            own_events = (tickets.owner_kept meaning p script c b k t st (Delay t op older y), tt);
            entries_still = ap (of_ticket t) (done_operations_stay b.book.journal (Delay t op older y) refl);
            begun_still = still_begun (caller c.seat) b.book.journal (Delay t op older y) refl;
          }

      changes : Changes (meaning script) (caller c.seat) b.book later delay.more
      changes = same_records (meaning script) (caller c.seat) b.book later delay.more delay.records delay.grows delay.own_events

      records_still : d.book.records ≡ b.book.records
      records_still = ap (λ (w : Book). w.records) delays.1 ∙ delay.records

      own_still : (u : ℕ) → record_of d.book u ≡ record_of b.book u
      own_still u = ap (λ (l : List (Option Serving)). record_of (record { journal = []; kept = []; records = l }) u) records_still

      pub delayed_keeper : IsKeeperIn meaning p script c d
      delayed_keeper =
          let P : Stage → Type 0 = λ s. IsKeeperIn meaning p script (record { seat = c.seat; number = c.number; stage = s; hands = c.hands }) d in
          subst P (sym st) (keeps_on meaning p script c b k d kept lawful (Serves t) list
          (own_still (caller c.seat) ∙ own, gives_on meaning p script c b k d kept lawful later delays.1 delay.more delay.quiet changes gives))

      pub delayed_kept : OnServing c.stage (λ u. Becomes (λ h q. AdmitsKept (meaning script) h q op (admission.Delayed older y) u) c (Some b) c (Some d))
      delayed_kept = on_serving c.stage t (λ u. Becomes (λ h q. AdmitsKept (meaning script) h q op (admission.Delayed older y) u) c (Some b) c (Some d)) st (λ ends entered after done. record {
        hand = record { seat_still = refl; hands_still = refl; number_still = refl; kept = tt };
        noted = delays.1;
        blocker = delays.0;
        several = several older y delays.0;
        stage_is = st;
        foresight_still = ap foresight_in (own_still c.number);
        entries_still = ap (λ (w : Book). entries w.journal t) delays.1 ∙ delay.entries_still;
        begun_still = ap (λ (w : Book). tickets_by (caller c.seat) w.journal) delays.1 ∙ delay.begun_still;
      })

    -- what the book answers, if it is known that somebody delays the operation
    pub blocked_keeper : (older : ℕ) (y : Symbol) → IsBlocker b.book t op older y → (r : Admission) → books.Admits b.book t op r d.book → IsKeeperIn meaning p script c d
    blocked_keeper older y z admission.Admitted a = absurd (not_free b.book t op older y z a.0)
    blocked_keeper older y z (admission.Delayed u w) a = delayed_keeper u w a

    pub blocked_kept : (older : ℕ) (y : Symbol) → IsBlocker b.book t op older y → (r : Admission) → books.Admits b.book t op r d.book → OnServing c.stage (λ u. Becomes (λ h q. AdmitsKept (meaning script) h q op r u) c (Some b) c (Some d))
    blocked_kept older y z admission.Admitted a = absurd (not_free b.book t op older y z a.0)
    blocked_kept older y z (admission.Delayed u w) a = delayed_kept u w a

    -- ---- it is put in flight
    module _ (admits : books.Admits b.book t op admission.Admitted d.book) where
      abbrev after : Book
      after = after_admit b.book (caller c.seat) (waiting t list) op

      pub is_launched : d.book ≡ after
      is_launched = admits.1 (caller c.seat) (waiting t list) own refl

      pub launch_moves : MayGive meaning p.board.slots d c.seat c.hands.pairs
      launch_moves =
          gives_on meaning p script c b k d kept lawful after is_launched [] refl
          (one_record (meaning script) (caller c.seat) b.book after (Some (flying t list op)) [] refl (append-nil b.book.journal) tt) gives

      pub own_launched : record_of d.book (caller c.seat) ≡ Some (flying t list op)
      own_launched = ap (λ (w : Book). record_of w (caller c.seat)) is_launched ∙ own_in_hand meaning p script c b k (Some (flying t list op))

-- ---- the caller that has given the book back so
module _ {S : Type 0} (meaning : S → Meaning) (h : Hall S) (c : Caller S) (b : BookView S)
    (k : IsKeeperIn meaning (id_of (hall_name h)) (script_of h) c b) (t : ℕ)
    (st : c.stage ≡ Serves t) (op : Op) (d : BookView S) (kept : d.script ≡ b.script)
    (lawful : Lawful (meaning d.script) d.book)
    (admits : books.Admits b.book t op admission.Admitted d.book) (q : SeatOf S)
    (hands : HandsView (Held S)) (seat : IsSeatOf h.board q)
    (g : BookedAll c.seat q (Register d.script d.book)) (pairs : hands.pairs ≡ [])
    (reserved : hands.room ≡ c.hands.room) where
  abbrev left : List Symbol
  left = foresight_in (record_of b.book c.number)

  script_now : d.script ≡ script_of h
  script_now = kept ∙ k.script_is

  left_is : book_in (note q) ≡ d.book
  left_is = ap book_in g.noted

  own_left : record_of d.book (caller q) ≡ Some (flying t left op)
  own_left = ap (record_of d.book) g.caller_is ∙ own_launched meaning (id_of (hall_name h)) (script_of h) c b k t st op d kept lawful admits

  pub launched_caller : IsCallerOf meaning h (record { seat = q; number = c.number; stage = InFlight t op; hands = hands })
  launched_caller =
      let M : S → Type 0 = λ s. Lawful (meaning s) d.book in
      let L : Book → Type 0 = λ w. Lawful (meaning (script_of h)) w in
      let O : List (ℕ × Held S) → Type 0 = λ l. Once content_of l in
      let Q : Book → Type 0 = λ w. Stands (meaning (script_of h)) (turn_count h.board) (InFlight t op) (foresight_in (record_of w c.number)) w q hands.pairs in
      let lawful_now : Lawful (meaning (script_of h)) (book_in (note q)) = subst L (sym left_is) (subst M script_now lawful) in
      record {
        seat = seat;
        number_is = g.caller_is ∙ k.number_is;
        caller_count_is = g.caller_count_is ∙ k.caller_count_is;
        noted = g.noted ∙ (λ j. Some (Register (script_now j) (sym left_is j)));
        script_kept = k.script_kept;
        lawful = lawful_now;
        told = is_told (meaning (script_of h)) (book_in (note q)) k.script_kept lawful_now;
        tables_are = k.tables_are;
        some_shards = k.some_shards;
        few_shards = k.few_shards;
        turns_are = k.turns_are;
        few_turns = k.few_turns;
        hands_room = omega (arith, k.hands_room, reserved);
        once = subst O (sym pairs) tt;
        stands = subst Q (sym left_is) (stands_by_record (meaning (script_of h)) (turn_count h.board) (InFlight t op) left d.book q hands.pairs c.number (g.caller_is ∙ k.number_is)
            (own_left, record { free = g.nothing; no_pairs = pairs }));
      }

  pub launched_kept : OnServing c.stage (λ u. Becomes (λ x y. LaunchedKept (meaning (script_of h)) x y op u) c (Some b) (record { seat = q; number = c.number; stage = InFlight t op; hands = hands }) None)
  launched_kept =
      let now_is : d.book ≡ after_admit b.book (caller c.seat) (waiting t left) op = is_launched meaning (id_of (hall_name h)) (script_of h) c b k t st op d kept lawful admits in
      on_serving c.stage t (λ u. Becomes (λ x y. LaunchedKept (meaning (script_of h)) x y op u) c (Some b) (record { seat = q; number = c.number; stage = InFlight t op; hands = hands }) None) st (λ ends entered later done. record {
        none = refl;
        noted = left_is ∙ now_is;
        stage_is = refl;
        caller_still = g.caller_is;
        given_more = g.given_is;
        lost_still = g.lost_is;
        asks_still = g.asks_is;
        givings_more = g.givings_is;
        holds_none = g.nothing;
        foresight_still = (let e : caller q ≡ c.number = g.caller_is ∙ k.number_is in
            ap foresight_in (ap (λ (w : Book). record_of w c.number) left_is ∙ ap (record_of d.book) (sym e) ∙ own_left));
        entries_still = ap (λ (w : Book). entries w.journal t) (left_is ∙ now_is);
        begun_still = ap (λ (u : ℕ). tickets_by u (book_in (note q)).journal) g.caller_is ∙ ap (λ (w : Book). tickets_by (caller c.seat) w.journal) (left_is ∙ now_is);
      })
