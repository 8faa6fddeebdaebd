-- A ticket begins in the book in hand.
use Rattle.std.proofs.Common.{◌≡◌, ℕ, ◌<◌, ◌≤◌, List, [], ◌∷◌, ◌++◌, length, Some, None, Bool, cond, refl, sym, ◌∙◌, ap, subst, arith}
use Rattle.std.specs.List.{AllByRecursion}
use Rattle.std.proofs.lemmas.Bool.{eq-eqb, ne_eqb}
use Rattle.symbolic_ops.specs.declared.symbol.Symbol.{Symbol}
use Rattle.session_journal.specs.declared.event.Event.{Event}
use Rattle.session_journal.specs.declared.event.Event.TheVariants.{Begin}
use Rattle.session_journal.specs.Journal.{DoneOperation, done_operations, of_ticket, entries, begun}
use Rattle.session_journal.specs.Script.{Meaning}
use Rattle.session_journal.proofs.Events.{OnlyBegun, only_begun, owner_new, done_operations_stay}
use Rattle.admission_book.specs.Book.{Book, record_of, after_begin}
use Rattle.admission_book.specs.Lawful.{Lawful}
use Rattle.admission_book.specs.Methods as books
use Rattle.admission_book.specs.Methods.{BookView}
use Rattle.turn_board.specs.Boards.{caller}
use Rattle.hall_rule.specs.declared.held.Held.{Held}
use Rattle.session_hall.specs.declared.caller.Caller.{Caller}
use Rattle.session_hall.specs.declared.stage.Stage.{Stage}
use Rattle.session_hall.specs.declared.stage.Stage.TheVariants.{Idle, Serving as Serves, InFlight, Applied, Out}
use Rattle.session_hall.specs.Begun.{tickets_by}
use Rattle.session_hall.specs.HoldingCalls.{BeganKept}
use Rattle.session_hall.specs.Holdings.{IsKeeperIn, MayGive, StandsKept}
use Rattle.session_hall.specs.InHand.{Becomes}
use Rattle.session_hall.specs.Names.{HallId}
use Rattle.session_hall.specs.Stages.{IsBetween, SeatOf, foresight_in, waiting}
use Rattle.session_hall.proofs.Begun.{tickets-append}
use Rattle.session_hall.proofs.Giving.{Changes, one_record}
use Rattle.session_hall.proofs.Kept.{gives_on, keeps_on, own_in_hand}

none_yet : (t : ℕ) (ds : List DoneOperation) → AllByRecursion (λ d. d.ticket < t) ds → of_ticket t ds ≡ []
none_yet t [] a = refl
none_yet t (d ∷ ds) a =
    ap (λ (x : Bool). cond x (record { op = d.op; reply = d.reply } ∷ of_ticket t ds) (of_ticket t ds)) (ne_eqb d.ticket t (λ e. omega (arith, a.0, e)))
    ∙ none_yet t ds a.1

-- a caller that serves no ticket
between_kept : {S : Type 0} (meaning : S → Meaning) (turns : ℕ) (st : Stage) (f : List Symbol)
    (b : BookView S) (s : SeatOf S) (xs : List (ℕ × Held S)) → IsBetween st
    → StandsKept meaning turns st f b s xs
    → (record_of b.book (caller s) ≡ None) × MayGive meaning turns b s xs
between_kept meaning turns Idle f b s xs i h = h
between_kept meaning turns Out f b s xs i h = (h.0, h.2)
between_kept meaning turns (Serves t) f b s xs i h = absurd i
between_kept meaning turns (InFlight t op) f b s xs i h = absurd i
between_kept meaning turns (Applied t op v) f b s xs i h = absurd i

one_begun : (c t : ℕ) → tickets_by c (Begin t c ∷ []) ≡ t ∷ []
one_begun c t = ap (λ (x : Bool). cond x (t ∷ []) []) (eq-eqb c c refl)

module _ {S : Type 0} (meaning : S → Meaning) (p : HallId) (script : S) (c : Caller S)
    (b : BookView S) (k : IsKeeperIn meaning p script c b) (i : IsBetween c.stage) where
  stands_between : (record_of b.book (caller c.seat) ≡ None) × MayGive meaning p.board.slots b c.seat c.hands.pairs
  stands_between = between_kept meaning p.board.slots c.stage (foresight_in (record_of b.book c.number)) b c.seat c.hands.pairs i k.stands

  module _ (d : BookView S) (kept : d.script ≡ b.script) (lawful : Lawful (meaning d.script) d.book) where
    -- all are begun
    pub out_keeper : (meaning b.script).requests ≤ begun b.book.journal → d.book ≡ b.book
        → IsKeeperIn meaning p script (record { seat = c.seat; number = c.number; stage = Out; hands = c.hands }) d
    out_keeper all same =
        let same_book : d ≡ b = λ j. record { script = kept j; book = same j } in
        let P : BookView S → Type 0 = λ w. StandsKept meaning p.board.slots Out [] w c.seat c.hands.pairs in
        keeps_on meaning p script c b k d kept lawful Out [] (subst P (sym same_book) (stands_between.0, all, stands_between.1))

    -- a ticket begins
    module _ (t : ℕ) (begins : books.Begins (meaning b.script) b.book c.number ((meaning b.script).entry (begun b.book.journal)) (Some t) d.book) where
      abbrev after : Book
      after = after_begin b.book (caller c.seat) ((meaning script).entry t)

      abbrev events : List Event
      events = Begin (begun b.book.journal) (caller c.seat) ∷ []

      next : t ≡ begun b.book.journal
      next = begins.1

      is_begun : d.book ≡ after
      is_begun = begins.2 ∙ (λ j. after_begin b.book (sym k.number_is j) ((meaning (k.script_is j)).entry (sym next j)))

      only : OnlyBegun b.book.journal
      only = only_begun (meaning script) (length b.book.records) b.book.journal k.lawful.turns

      begin_changes : Changes (meaning script) (caller c.seat) b.book after events
      begin_changes = one_record (meaning script) (caller c.seat) b.book after (Some (waiting (begun b.book.journal) ((meaning script).entry t))) events refl refl
          (owner_new b.book.journal (begun b.book.journal) (caller c.seat) (only.owner (begun b.book.journal) (omega arith)), tt)

      left_here : record_of d.book (caller c.seat) ≡ Some (waiting t ((meaning script).entry t))
      left_here =
          ap (λ (w : Book). record_of w (caller c.seat)) is_begun
          ∙ own_in_hand meaning p script c b k (Some (waiting (begun b.book.journal) ((meaning script).entry t)))
          ∙ (λ j. Some (waiting (sym next j) ((meaning script).entry t)))

      pub begun_keeper : IsKeeperIn meaning p script (record { seat = c.seat; number = c.number; stage = Serves t; hands = c.hands }) d
      begun_keeper =
          keeps_on meaning p script c b k d kept lawful (Serves t) ((meaning script).entry t)
          (left_here, gives_on meaning p script c b k d kept lawful after is_begun events refl begin_changes stands_between.1)

      pub began_kept : Becomes (λ h q. BeganKept (meaning script) h q t) c (Some b) (record { seat = c.seat; number = c.number; stage = Serves t; hands = c.hands }) (Some d)
      began_kept ends entered later done =
          let P : S → Type 0 = λ s. t < (meaning s).requests in
          let Q : ℕ → Type 0 = λ u. AllByRecursion (λ (z : DoneOperation). z.ticket < u) (done_operations b.book.journal) in
          record {
            hand = record { seat_still = refl; hands_still = refl; number_still = refl; kept = tt };
            is = is_begun;
            next = next;
            within = subst P k.script_is begins.0;
            stage_is = refl;
            foresight_is = ap (λ (u : ℕ). foresight_in (record_of d.book u)) (sym k.number_is) ∙ ap foresight_in left_here;
            no_entries = ap (λ (w : Book). entries w.journal t) is_begun ∙ ap (of_ticket t) (done_operations_stay b.book.journal (Begin (begun b.book.journal) (caller c.seat)) refl) ∙ none_yet t (done_operations b.book.journal) (subst Q (sym next) only.done_operations);
            begun_more = ap (λ (w : Book). tickets_by (caller c.seat) w.journal) is_begun
                ∙ tickets-append (caller c.seat) b.book.journal events
                ∙ ap (λ (l : List ℕ). tickets_by (caller c.seat) b.book.journal ++ l) (one_begun (caller c.seat) (begun b.book.journal) ∙ ap (λ (u : ℕ). u ∷ []) (sym next));
          }
