-- A caller that has the book in hand, before and after a change of that book.
use Rattle.std.proofs.Common.{◌≡◌, ℕ, zero, suc, ◌<◌, List, [], length, Option, Some, None, refl, sym, ◌∙◌, ap, subst, arith}
use Rattle.std.proofs.lemmas.List.{get_or-set_same}
use Rattle.std.proofs.lemmas.Option.{none-some, same_Some}
use Rattle.symbolic_ops.specs.declared.symbol.Symbol.{Symbol}
use Rattle.session_journal.specs.declared.event.Event.{Event}
use Rattle.session_journal.specs.Journal.{done_operations}
use Rattle.session_journal.specs.Script.{Meaning}
use Rattle.admission_book.specs.Book.{Book, Serving, record_of, with_record}
use Rattle.admission_book.specs.Lawful.{Lawful}
use Rattle.admission_book.specs.Methods.{BookView}
use Rattle.turn_board.specs.Boards.{held, caller}
use Rattle.turn_board.specs.Hands.{put_back}
use Rattle.turn_board.specs.Maps.{SameTurns}
use Rattle.hall_rule.specs.declared.held.Held.{Held}
use Rattle.hall_rule.specs.declared.held.Held.TheVariants as value
use Rattle.hall_rule.specs.Contents.{Content, Register}
use Rattle.hall_rule.specs.Law.{same_book}
use Rattle.hall_rule.specs.Shards.{content_of}
use Rattle.hall_rule.specs.Tie.{Moves}
use Rattle.session_hall.specs.declared.caller.Caller.{Caller}
use Rattle.session_hall.specs.declared.holding.Holding.{Holding}
use Rattle.session_hall.specs.declared.stage.Stage.{Stage}
use Rattle.session_hall.specs.declared.stage.Stage.TheVariants.{Idle, Serving as Serves, InFlight, Applied, Out}
use Rattle.session_hall.specs.HoldingCalls.{IsQuiet}
use Rattle.session_hall.specs.Holdings.{IsHoldingWith, IsKeeperIn, MayGive, StandsKept}
use Rattle.session_hall.specs.InHand.{Becomes}
use Rattle.session_hall.specs.Names.{HallId}
use Rattle.session_hall.specs.Stages.{OnServing, SeatOf, foresight_in, waiting}
use Rattle.session_hall.proofs.Giving.{Changes}
use Rattle.session_hall.proofs.Keeping.{moves_quiet}

-- ---- a holding by the book that it has in hand
-- what holds between the two where these books are in hand
pub by_books : {S : Type 0} (R : Holding S → Holding S → Type 0) (h k : Holding S)
    (o u : Option (BookView S)) → h.book ≡ o → k.book ≡ u → Becomes R h.caller o k.caller u → R h k
by_books {S} R h k o u e f x =
    let P : Option (BookView S) → Type 0 = λ z. R (record { caller = h.caller; book = z; ends = h.ends; entered = h.entered }) (record { caller = k.caller; book = u; ends = k.ends; entered = k.entered }) in
    let Q : Option (BookView S) → Type 0 = λ z. R h (record { caller = k.caller; book = z; ends = k.ends; entered = k.entered }) in
    subst Q (sym f) (subst P (sym e) (x h.ends h.entered k.ends k.entered))

-- the same where the caller is known as another one
pub by_books_as : {S : Type 0} (R : Holding S → Holding S → Type 0) (h k : Holding S)
    (o u : Option (BookView S)) → h.book ≡ o → k.book ≡ u → (d : Caller S) → k.caller ≡ d
    → Becomes R h.caller o d u → R h k
by_books_as {S} R h k o u e f d same x =
    let P : Caller S → Type 0 = λ z. Becomes R h.caller o z u in
    by_books R h k o u e f (subst P (sym same) x)

-- the same of the ticket that is served
pub by_books_serving_as : {S : Type 0} (R : ℕ → Holding S → Holding S → Type 0) (h k : Holding S)
    (o u : Option (BookView S)) → h.book ≡ o → k.book ≡ u → (d : Caller S) → k.caller ≡ d
    → (st : Stage) → OnServing st (λ t. Becomes (R t) h.caller o d u) → OnServing st (λ t. R t h k)
by_books_serving_as R h k o u e f d same (Serves t) x = by_books_as (R t) h k o u e f d same x
by_books_serving_as R h k o u e f d same Idle x = x
by_books_serving_as R h k o u e f d same Out x = x
by_books_serving_as R h k o u e f d same (InFlight t op) x = x
by_books_serving_as R h k o u e f d same (Applied t op v) x = x

pub by_books_serving : {S : Type 0} (R : ℕ → Holding S → Holding S → Type 0) (h k : Holding S)
    (o u : Option (BookView S)) → h.book ≡ o → k.book ≡ u → (st : Stage)
    → OnServing st (λ t. Becomes (R t) h.caller o k.caller u) → OnServing st (λ t. R t h k)
by_books_serving R h k o u e f (Serves t) x = by_books (R t) h k o u e f x
by_books_serving R h k o u e f Idle x = x
by_books_serving R h k o u e f Out x = x
by_books_serving R h k o u e f (InFlight t op) x = x
by_books_serving R h k o u e f (Applied t op v) x = x

-- what a holding keeps, where this book or none is in hand
pub in_hand : {S : Type 0} (meaning : S → Meaning) (p : HallId) (script : S) (h : Holding S)
    (o : Option (BookView S)) → h.book ≡ o → IsHoldingWith meaning p script h.caller h.book
    → IsHoldingWith meaning p script h.caller o
in_hand {S} meaning p script h o e k =
    let Q : Option (BookView S) → Type 0 = λ z. IsHoldingWith meaning p script h.caller z in
    subst Q e k

-- ---- what a stage says of what is in hand
module _ {S : Type 0} (meaning : S → Meaning) (turns : ℕ) (b : BookView S) (s : SeatOf S)
    (xs : List (ℕ × Held S)) where
  -- what a caller stands at says which list its record has
  pub kept_by_record : (st : Stage) (g : List Symbol) (n : ℕ) → caller s ≡ n
      → StandsKept meaning turns st g b s xs
      → StandsKept meaning turns st (foresight_in (record_of b.book n)) b s xs
  kept_by_record Idle g n e k = k
  kept_by_record Out g n e k = k
  kept_by_record (InFlight t op) g n e k = k
  kept_by_record (Serves t) g n e k =
      let own : record_of b.book n ≡ Some (waiting t g) = ap (record_of b.book) (sym e) ∙ k.0 in
      let P : List Symbol → Type 0 = λ l. StandsKept meaning turns (Serves t) l b s xs in
      subst P (sym (ap foresight_in own)) k
  kept_by_record (Applied t op v) g n e k =
      let own : record_of b.book n ≡ Some (waiting t g) = ap (record_of b.book) (sym e) ∙ k.0 in
      let P : List Symbol → Type 0 = λ l. StandsKept meaning turns (Applied t op v) l b s xs in
      subst P (sym (ap foresight_in own)) k

  -- with no operation done and not entered, all may be given back
  pub may_give : (st : Stage) (g : List Symbol) → IsQuiet st → StandsKept meaning turns st g b s xs
      → MayGive meaning turns b s xs
  may_give Idle g i k = k.1
  may_give Out g i k = k.2
  may_give (Serves t) g i k = k.1
  may_give (InFlight t op) g i k = absurd i
  may_give (Applied t op v) g i k = absurd i

  -- whatever is in hand, it changes the counted book to the one in hand, and shards
  pub record Changing : Type 0 where
    pub before : ℕ → Option (Content S)
    pub moves : Moves meaning turns (caller s) (held s) before
    pub book : before 0 ≡ Some (Register b.script b.book)

  pub changing : (st : Stage) (g : List Symbol) → StandsKept meaning turns st g b s xs → Changing
  changing Idle g k = record { before = _; moves = k.1; book = refl }
  changing Out g k = record { before = _; moves = k.2; book = refl }
  changing (Serves t) g k = record { before = _; moves = k.1; book = refl }
  changing (InFlight t op) g k = absurd k
  changing (Applied t op v) g k = record { before = k.1.before; moves = k.1.moves; book = k.1.book }

-- ---- the caller
module _ {S : Type 0} (meaning : S → Meaning) (p : HallId) (script : S) (c : Caller S)
    (b : BookView S) (k : IsKeeperIn meaning p script c b) where
  -- what holds of the hall's script holds of the one that the book has
  pub at_book : (P : Meaning → Type 0) → P (meaning script) → P (meaning b.script)
  at_book P x = let Q : S → Type 0 = λ s. P (meaning s) in subst Q (sym k.script_is) x

  pub near_in_hand : caller c.seat < length b.book.records
  near_in_hand =
      let ch : Changing meaning p.board.slots b c.seat c.hands.pairs = changing meaning p.board.slots b c.seat c.hands.pairs c.stage (foresight_in (record_of b.book c.number)) k.stands in
      let first : k.found ≡ ch.moves.before = same_book script ch.moves.script k.found ch.moves.before (same_Some _ _ (sym k.here ∙ ch.moves.was)) in
      let last : ch.moves.now ≡ b.book = same_book ch.moves.script b.script ch.moves.now b.book (same_Some _ _ (sym ch.moves.is ∙ ch.book)) in
      let long : length b.book.records ≡ length k.found.records = ap (λ (w : Book). length w.records) (sym last) ∙ ch.moves.callers ∙ ap (λ (w : Book). length w.records) (sym first) in
      omega (arith, long, k.finds.near, k.finds.callers_are)

  pub own_in_hand : (x : Option Serving) → record_of (with_record b.book (caller c.seat) x) (caller c.seat) ≡ x
  own_in_hand x = get_or-set_same b.book.records (caller c.seat) x None near_in_hand

  -- another book in hand takes the same turns
  turns_in_hand : (d : BookView S) → SameTurns (held c.seat) (put_back content_of (value.Register d) c.hands.pairs)
  turns_in_hand d = (to, back)
    where
      to : (t : ℕ) → held c.seat t ≡ None → put_back content_of (value.Register d) c.hands.pairs t ≡ None
      to zero e = absurd (none-some (Register script k.found) (sym e ∙ k.here))
      to (suc t) e = k.same_turns.0 (suc t) e

      back : (t : ℕ) → put_back content_of (value.Register d) c.hands.pairs t ≡ None → held c.seat t ≡ None
      back zero e = absurd (none-some (content_of (value.Register d)) (sym e))
      back (suc t) e = k.same_turns.1 (suc t) e

  module _ (d : BookView S) (kept : d.script ≡ b.script) (lawful : Lawful (meaning d.script) d.book) where
    -- with another book in hand it is as its new stage says
    pub keeps_on : (st : Stage) (g : List Symbol) → StandsKept meaning p.board.slots st g d c.seat c.hands.pairs
        → IsKeeperIn meaning p script (record { seat = c.seat; number = c.number; stage = st; hands = c.hands }) d
    keeps_on st g stands = record {
      seat = k.seat;
      number_is = k.number_is;
      caller_count_is = k.caller_count_is;
      noted = k.noted;
      script_kept = k.script_kept;
      tables_are = k.tables_are;
      some_shards = k.some_shards;
      few_shards = k.few_shards;
      turns_are = k.turns_are;
      few_turns = k.few_turns;
      hands_room = k.hands_room;
      once = k.once;
      script_is = kept ∙ k.script_is;
      lawful = (let L : S → Type 0 = λ s. Lawful (meaning s) d.book in subst L (kept ∙ k.script_is) lawful);
      found = k.found;
      here = k.here;
      finds = k.finds;
      rooms = k.rooms;
      same_turns = turns_in_hand d;
      stands = kept_by_record meaning p.board.slots d c.seat c.hands.pairs st g c.number k.number_is stands;
    }

    -- what may be given back may be given back with the other book
    pub gives_on : (left : Book) → d.book ≡ left → (more : List Event) → done_operations more ≡ []
        → Changes (meaning script) (caller c.seat) b.book left more
        → MayGive meaning p.board.slots b c.seat c.hands.pairs
        → MayGive meaning p.board.slots d c.seat c.hands.pairs
    gives_on left is more quiet ch give =
        let P : Book → Type 0 = λ w. Changes (meaning script) (caller c.seat) b.book w more in
        moves_quiet meaning p.board.slots (caller c.seat) (held c.seat) b d c.hands.pairs give kept lawful more quiet
        (at_book (λ m. Changes m (caller c.seat) b.book d.book more) (subst P (sym is) ch))
