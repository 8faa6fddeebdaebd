-- The ticket that is served declares and ends in the book in hand.
use Rattle.std.proofs.Common.{◌≡◌, ℕ, ◌<◌, List, [], ◌∷◌, ◌++◌, Some, None, append-nil, refl, sym, ◌∙◌, ap, subst, arith}
use Rattle.session_values.specs.declared.reply.Reply.{Reply}
use Rattle.symbolic_ops.specs.declared.symbol.Symbol.{Symbol}
use Rattle.session_journal.specs.declared.event.Event.{Event}
use Rattle.session_journal.specs.declared.event.Event.TheVariants.{End}
use Rattle.session_journal.specs.EventsInTurn.{IsOpen}
use Rattle.session_journal.specs.Journal.{begun, caller_of, ended, entries, of_ticket, owner}
use Rattle.session_journal.specs.Script.{Meaning}
use Rattle.session_journal.proofs.Events.{begun_stays, done_operations_stay, ended_new, first_stays}
use Rattle.admission_book.specs.Book.{Book, Holds, record_of, after_end, after_narrow}
use Rattle.admission_book.specs.Lawful.{Lawful}
use Rattle.admission_book.specs.Methods as books
use Rattle.admission_book.specs.Methods.{BookView}
use Rattle.turn_board.specs.Boards.{caller}
use Rattle.session_hall.specs.declared.caller.Caller.{Caller}
use Rattle.session_hall.specs.declared.stage.Stage.{Stage}
use Rattle.session_hall.specs.declared.stage.Stage.TheVariants.{Idle, Serving as Serves}
use Rattle.session_hall.specs.Begun.{tickets_by}
use Rattle.session_hall.specs.HoldingCalls.{DeclaredKept, EndedKept}
use Rattle.session_hall.specs.Holdings.{IsKeeperIn, StandsKept}
use Rattle.session_hall.specs.InHand.{Becomes}
use Rattle.session_hall.specs.Names.{HallId}
use Rattle.session_hall.specs.Stages.{OnServing, foresight_in, waiting}
use Rattle.session_hall.proofs.Begun.{still_begun}
use Rattle.session_hall.proofs.Giving.{Changes, one_record}
use Rattle.session_hall.proofs.Kept.{gives_on, keeps_on, own_in_hand}
use Rattle.session_hall.proofs.Tickets.{on_serving}

module _ {S : Type 0} (meaning : S → Meaning) (p : HallId) (script : S) (c : Caller S)
    (b : BookView S) (k : IsKeeperIn meaning p script c b) (t : ℕ) (st : c.stage ≡ Serves t) where
  -- what its ticket may still call
  abbrev list : List Symbol
  list = foresight_in (record_of b.book c.number)

  pub stands_kept : StandsKept meaning p.board.slots (Serves t) list b c.seat c.hands.pairs
  stands_kept = let P : Stage → Type 0 = λ s. StandsKept meaning p.board.slots s list b c.seat c.hands.pairs in subst P st k.stands

  pub own_kept : record_of b.book (caller c.seat) ≡ Some (waiting t list)
  own_kept = stands_kept.0

  pub holds_kept : Holds (meaning script) b.book (caller c.seat) (waiting t list)
  holds_kept = k.lawful.records (caller c.seat) (waiting t list) own_kept

  pub owner_kept : (e : Event) → owner (b.book.journal ++ e ∷ []) t ≡ Some (caller c.seat)
  owner_kept e = first_stays (caller_of t) b.book.journal (e ∷ []) (caller c.seat) holds_kept.owner

  module _ (d : BookView S) (kept : d.script ≡ b.script) (lawful : Lawful (meaning d.script) d.book) where
    -- ---- declare
    module _ (g : List Symbol) (narrowed : books.Narrowed b.book t g d.book) where
      abbrev narrow : Book
      narrow = after_narrow b.book (caller c.seat) (waiting t list) g

      is_narrowed : d.book ≡ narrow
      is_narrowed = narrowed (caller c.seat) (waiting t list) own_kept refl

      narrow_changes : Changes (meaning script) (caller c.seat) b.book narrow []
      narrow_changes = one_record (meaning script) (caller c.seat) b.book narrow (Some (waiting t g)) [] refl (append-nil b.book.journal) tt

      left_narrow : record_of d.book (caller c.seat) ≡ Some (waiting t g)
      left_narrow = ap (λ (w : Book). record_of w (caller c.seat)) is_narrowed ∙ own_in_hand meaning p script c b k (Some (waiting t g))

      pub declared_keeper : IsKeeperIn meaning p script c d
      declared_keeper =
          let P : Stage → Type 0 = λ s. IsKeeperIn meaning p script (record { seat = c.seat; number = c.number; stage = s; hands = c.hands }) d in
          subst P (sym st) (keeps_on meaning p script c b k d kept lawful (Serves t) g
          (left_narrow, gives_on meaning p script c b k d kept lawful narrow is_narrowed [] refl narrow_changes stands_kept.1))

      pub declared_kept : OnServing c.stage (λ u. Becomes (λ h q. DeclaredKept (meaning script) h q g u) c (Some b) c (Some d))
      declared_kept = on_serving c.stage t (λ u. Becomes (λ h q. DeclaredKept (meaning script) h q g u) c (Some b) c (Some d)) st (λ ends entered later done. record {
        hand = record { seat_still = refl; hands_still = refl; number_still = refl; kept = tt };
        is = is_narrowed;
        stage_is = st;
        foresight_is = ap (λ (u : ℕ). foresight_in (record_of d.book u)) (sym k.number_is) ∙ ap foresight_in left_narrow;
        entries_still = ap (λ (w : Book). entries w.journal t) is_narrowed;
        begun_still = ap (λ (w : Book). tickets_by (caller c.seat) w.journal) is_narrowed;
      })

    -- ---- end
    module _ (a : Reply) (has_ended : books.HasEnded b.book t a d.book) where
      abbrev after : Book
      after = after_end b.book (caller c.seat) (waiting t list) a

      is_ended : d.book ≡ after
      is_ended = has_ended (caller c.seat) (waiting t list) own_kept refl

      end_changes : Changes (meaning script) (caller c.seat) b.book after (End t a ∷ [])
      end_changes = one_record (meaning script) (caller c.seat) b.book after None (End t a ∷ []) refl refl (owner_kept (End t a), tt)

      left_end : record_of d.book (caller c.seat) ≡ None
      left_end = ap (λ (w : Book). record_of w (caller c.seat)) is_ended ∙ own_in_hand meaning p script c b k None

      pub ended_keeper : IsKeeperIn meaning p script (record { seat = c.seat; number = c.number; stage = Idle; hands = c.hands }) d
      ended_keeper =
          keeps_on meaning p script c b k d kept lawful Idle []
          (left_end, gives_on meaning p script c b k d kept lawful after is_ended (End t a ∷ []) refl end_changes stands_kept.1)

      pub ended_kept : OnServing c.stage (λ u. Becomes (λ h q. EndedKept (meaning script) h q a u) c (Some b) (record { seat = c.seat; number = c.number; stage = Idle; hands = c.hands }) (Some d))
      ended_kept =
          let open_ticket : IsOpen b.book.journal t = holds_kept.is_open in
          let more : begun after.journal ≡ begun b.book.journal = begun_stays b.book.journal (End t a) refl in
          on_serving c.stage t (λ u. Becomes (λ h q. EndedKept (meaning script) h q a u) c (Some b) (record { seat = c.seat; number = c.number; stage = Idle; hands = c.hands }) (Some d)) st (λ ends entered later done. record {
            hand = record { seat_still = refl; hands_still = refl; number_still = refl; kept = tt };
            is = is_ended;
            stage_is = refl;
            foresight_is = ap (λ (u : ℕ). foresight_in (record_of d.book u)) (sym k.number_is) ∙ ap foresight_in left_end;
            entries_still = ap (λ (w : Book). entries w.journal t) is_ended ∙ ap (of_ticket t) (done_operations_stay b.book.journal (End t a) refl);
            is_begun = (let P : Book → Type 0 = λ w. t < begun w.journal in subst P (sym is_ended) (omega (arith, open_ticket.begun, more)));
            is_ended = ap (λ (w : Book). ended w.journal t) is_ended ∙ ended_new b.book.journal t a open_ticket.not_ended;
            begun_still = ap (λ (w : Book). tickets_by (caller c.seat) w.journal) is_ended ∙ still_begun (caller c.seat) b.book.journal (End t a) refl;
          })
