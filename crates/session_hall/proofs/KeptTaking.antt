-- A caller takes the book to keep it, and gives it back.
use Rattle.std.proofs.Common.{◌≡◌, ℕ, zero, suc, ◌+◌, ◌≤◌, true, List, [], Option, Some, None, append-nil, refl, sym, ◌∙◌, ap, subst, arith}
use Rattle.std.proofs.lemmas.Option.{none-some}
use Rattle.symbolic_ops.specs.declared.symbol.Symbol.{Symbol}
use Rattle.session_journal.specs.Journal.{begun, entries}
use Rattle.session_journal.specs.Script.{Meaning}
use Rattle.session_journal.proofs.Events.{begun-append}
use Rattle.admission_book.specs.Book.{Book, Holds, record_of}
use Rattle.admission_book.specs.Lawful.{Lawful}
use Rattle.admission_book.specs.Methods.{BookView}
use Rattle.turn_board.specs.Boards.{IsSeatOf, SameNote, BookedAll, turn_count, held, note, lost, caller}
use Rattle.turn_board.specs.Hands.{HandsView, Once, in_hands, put_back}
use Rattle.turn_board.specs.Maps.{SameTurns}
use Rattle.hall_rule.specs.declared.held.Held.{Held}
use Rattle.hall_rule.specs.declared.held.Held.TheVariants as value
use Rattle.hall_rule.specs.Contents.{Content, IsSince, Register}
use Rattle.hall_rule.specs.Shards.{content_of}
use Rattle.hall_rule.proofs.Entries.{entries_since}
use Rattle.session_hall.specs.declared.caller.Caller.{Caller}
use Rattle.session_hall.specs.declared.hall.Hall.{Hall}
use Rattle.session_hall.specs.declared.holding.Holding.{Holding}
use Rattle.session_hall.specs.declared.stage.Stage.{Stage}
use Rattle.session_hall.specs.declared.stage.Stage.TheVariants.{Idle, Serving as Serves, InFlight, Applied, Out}
use Rattle.session_hall.specs.Begun.{tickets_by}
use Rattle.session_hall.specs.Callers.{IsCallerOf, book_in, book_of, foresight_of}
use Rattle.session_hall.specs.Findings.{HasBook, TookBook}
use Rattle.session_hall.specs.HoldingCalls.{HeldAfter, IsQuiet, OfTicket, TakesBook, TookBookAs}
use Rattle.session_hall.specs.InHand.{AsksBook, Becomes}
use Rattle.session_hall.specs.Holdings.{IsKeeperIn, MayGive, StandsKept, book_at, entries_at, present_book}
use Rattle.session_hall.specs.Names.{hall_name, id_of, script_of}
use Rattle.session_hall.specs.Waits.{OnlyBookLost}
use Rattle.session_hall.specs.Stages.{HoldsNone, SeatOf, Stands, foresight_in, waiting}
use Rattle.session_hall.proofs.Begun.{begun_since}
use Rattle.session_hall.proofs.Giving.{at_script, busy_caller, found_rule, is_told, quiet_moves, same_records}
use Rattle.session_hall.proofs.Kept.{kept_by_record}

-- ---- a caller with no operation in flight
quiet_holds : {S : Type 0} (m : Meaning) (turns : ℕ) (st : Stage) (g : List Symbol) (b : Book)
    (s : SeatOf S) (xs : List (ℕ × Held S)) → IsQuiet st → Stands m turns st g b s xs → HoldsNone s xs
quiet_holds m turns Idle g b s xs i k = k.1
quiet_holds m turns Out g b s xs i k = k.2
quiet_holds m turns (Serves t) g b s xs i k = k.1
quiet_holds m turns (InFlight t op) g b s xs i k = absurd i
quiet_holds m turns (Applied t op v) g b s xs i k = absurd i

-- ---- hold
module _ {S : Type 0} (meaning : S → Meaning) (h : Hall S) (c : Caller S)
    (k : IsCallerOf meaning h c) (i : IsQuiet c.stage) (q : SeatOf S) (b : BookView S)
    (v : SameNote c.seat q)
    (f : HasBook c.seat q meaning (script_of h) (turn_count h.board) b) where
  abbrev m : Meaning
  m = meaning (script_of h)

  abbrev with_seat : Caller S
  with_seat = record { seat = q; number = c.number; stage = c.stage; hands = c.hands }

  abbrev since : IsSince (book_of c) b.book (caller c.seat)
  since = f.finds.since

  none : HoldsNone c.seat c.hands.pairs
  none = quiet_holds m (turn_count h.board) c.stage (foresight_of c) (book_of c) c.seat c.hands.pairs i k.stands

  none_held : (j : ℕ) → held q (suc j) ≡ None
  none_held j = f.others (suc j) (λ z. omega (arith, z)) ∙ none.free (suc j)

  none_in_hands : (j : ℕ) → in_hands content_of c.hands.pairs (suc j) ≡ None
  none_in_hands j = ap (λ (l : List (ℕ × Held S)). in_hands content_of l (suc j)) none.no_pairs

  gives : MayGive meaning (turn_count h.board) b q c.hands.pairs
  gives = quiet_moves meaning h c k q b v f b refl f.lawful b.book refl [] refl
      (same_records m (caller c.seat) b.book b.book [] refl (append-nil b.book.journal) tt) c.hands.pairs none.no_pairs

  book_still : book_of c ≡ book_of with_seat
  book_still = ap book_in (sym v.note_is)

  since_here : IsSince (book_of with_seat) b.book (caller q)
  since_here =
      let P : Book → Type 0 = λ w. IsSince w b.book (caller c.seat) in
      let Q : ℕ → Type 0 = λ u. IsSince (book_of with_seat) b.book u in
      subst Q (sym v.caller_is) (subst P book_still since)

  turns_here : SameTurns (held q) (put_back content_of (value.Register b) c.hands.pairs)
  turns_here = (to, back)
    where
      to : (t : ℕ) → held q t ≡ None → put_back content_of (value.Register b) c.hands.pairs t ≡ None
      to zero e = absurd (none-some (Register (script_of h) b.book) (sym e ∙ f.here))
      to (suc t) e = none_in_hands t

      back : (t : ℕ) → put_back content_of (value.Register b) c.hands.pairs t ≡ None → held q t ≡ None
      back zero e = absurd (none-some (content_of (value.Register b)) (sym e))
      back (suc t) e = none_held t

  own_found : record_of b.book (caller q) ≡ record_of (book_of c) (caller c.seat)
  own_found = ap (record_of b.book) v.caller_is ∙ sym since.own

  stands_found : (st : Stage) (g : List Symbol) → IsQuiet st
      → Stands m (turn_count h.board) st g (book_of c) c.seat c.hands.pairs
      → StandsKept meaning (turn_count h.board) st g b q c.hands.pairs
  stands_found Idle g i s = (own_found ∙ s.0, gives)
  stands_found Out g i s =
      let more : begun b.book.journal ≡ begun (book_of c).journal + begun since.since = sym (ap begun since.grows) ∙ begun-append (book_of c).journal since.since in
      (own_found ∙ s.0, at_script meaning h c k q b v f (λ n. n.requests ≤ begun b.book.journal) (omega (arith, more, s.1)), gives)
  stands_found (Serves t) g i s = (own_found ∙ s.0, gives)
  stands_found (InFlight t op) g i s = absurd i
  stands_found (Applied t op w) g i s = absurd i

  pub held_keeper : IsSeatOf h.board q → IsKeeperIn meaning (id_of (hall_name h)) (script_of h) (record { seat = q; number = c.number; stage = c.stage; hands = c.hands }) b
  held_keeper seat = record {
    seat = seat;
    number_is = v.caller_is ∙ k.number_is;
    caller_count_is = v.caller_count_is ∙ k.caller_count_is;
    noted = v.note_is ∙ k.noted ∙ ap (λ (w : Book). Some (Register (script_of h) w)) book_still;
    script_kept = k.script_kept;
    tables_are = k.tables_are;
    some_shards = k.some_shards;
    few_shards = k.few_shards;
    turns_are = k.turns_are;
    few_turns = k.few_turns;
    hands_room = k.hands_room;
    once = k.once;
    script_is = f.script_is;
    lawful = f.finds.lawful;
    found = b.book;
    here = f.here;
    finds = record {
      lawful = f.finds.lawful;
      callers_are = f.finds.callers_are ∙ sym v.caller_count_is;
      near = omega (arith, f.finds.near, v.caller_is, v.caller_count_is);
      since = since_here;
    };
    rooms = λ j y room e. absurd (none-some _ (sym (none_held j) ∙ e));
    same_turns = turns_here;
    stands = kept_by_record meaning (turn_count h.board) b q c.hands.pairs c.stage (foresight_of c) c.number (v.caller_is ∙ k.number_is)
        (stands_found c.stage (foresight_of c) i k.stands);
  }

  -- of the caller's ticket nothing is new
  entries_found : (st : Stage) (g : List Symbol) → Stands m (turn_count h.board) st g (book_of c) c.seat c.hands.pairs
      → OfTicket st (λ t. entries b.book.journal t ≡ entries (book_of c).journal t)
  entries_found (Serves t) g s =
      let own : record_of b.book (caller c.seat) ≡ Some (waiting t g) = sym since.own ∙ s.0 in
      let holds : Holds m b.book (caller c.seat) (waiting t g) = f.finds.lawful.records (caller c.seat) (waiting t g) own in
      entries_since (book_of c) b.book (caller c.seat) t since holds.owner
  entries_found Idle g s = tt
  entries_found Out g s = tt
  entries_found (InFlight t op) g s = tt
  entries_found (Applied t op w) g s = tt

  pub took_book : Becomes (λ p z. TookBookAs (meaning (script_of h)) p z b.book) c None (record { seat = q; number = c.number; stage = c.stage; hands = c.hands }) (Some b)
  took_book ends entered later done = record {
    rule = found_rule meaning h c k q b v f;
    finds = f.finds;
    kept = tt;
    is = refl;
    stage_still = refl;
    note_still = v.note_is;
    caller_still = v.caller_is;
    given_still = v.given_is;
    lost_still = f.lost_still;
    asks_more = f.asks_more;
    givings_still = f.givings_still;
    change_still = v.change_is;
    hands_still = refl;
    foresight_still = ap foresight_in (ap (record_of b.book) (sym k.number_is) ∙ sym since.own ∙ ap (record_of (book_of c)) k.number_is);
    begun_still = ap (λ (u : ℕ). tickets_by u b.book.journal) v.caller_is ∙ begun_since m (book_of c) b.book (caller c.seat) f.finds.lawful since;
    entries_still = entries_found c.stage (foresight_of c) k.stands;
  }

-- what the hall answers about the book, of a caller with no operation in flight
pub asks_book : {S : Type 0} (meaning : S → Meaning) (h : Hall S) (c : Caller S)
    (k : IsCallerOf meaning h c) (i : IsQuiet c.stage) (q : SeatOf S) → IsSeatOf h.board q
    → SameNote c.seat q → (o : Option (BookView S))
    → TookBook c.seat q meaning (script_of h) (turn_count h.board) o
    → AsksBook meaning h c (record { seat = q; number = c.number; stage = c.stage; hands = c.hands }) o
asks_book {S} meaning h c k i q seat v None x = (
  busy_caller meaning h c k q seat v x.held_still,
  record {
    rule = x.rule;
    rose = x.rose;
    lost_grows = grows;
    several = x.several;
    asks_more = x.asks_more;
    givings_is = x.givings_still;
    change_still = x.change_still;
    stage_still = refl;
    foresight_still = ap (λ (n : Option (Content S)). foresight_in (record_of (book_in n) c.number)) x.note_still;
    note_still = x.note_still;
    given_still = x.given_still;
    held_still = x.held_still;
    hands_still = refl;
  },
)
  where
    grows : (u : ℕ) → lost c.seat u ≤ lost q u
    grows zero = omega (arith, x.rose)
    grows (suc u) = omega (arith, x.others (suc u) (λ z. omega (arith, z)))
asks_book meaning h c k i q seat v (Some b) f = (held_keeper meaning h c k i q b v f seat, took_book meaning h c k i q b v f)

-- ---- a caller that gives back what it has in hand
module _ {S : Type 0} (meaning : S → Meaning) (h : Hall S) (c : Caller S) (b : BookView S)
    (k : IsKeeperIn meaning (id_of (hall_name h)) (script_of h) c b) (i : IsQuiet c.stage)
    (q : SeatOf S) (hands : HandsView (Held S)) (seat : IsSeatOf h.board q)
    (g : BookedAll c.seat q (Register b.script b.book)) (pairs : hands.pairs ≡ [])
    (reserved : hands.room ≡ c.hands.room) where
  left_is : book_in (note q) ≡ b.book
  left_is = ap book_in g.noted

  nothing : HoldsNone q hands.pairs
  nothing = record { free = g.nothing; no_pairs = pairs }

  stands_left : (st : Stage) (l : List Symbol) → IsQuiet st
      → StandsKept meaning (turn_count h.board) st l b c.seat c.hands.pairs
      → Stands (meaning (script_of h)) (turn_count h.board) st l b.book q hands.pairs
  stands_left Idle l i s = (ap (record_of b.book) g.caller_is ∙ s.0, nothing)
  stands_left Out l i s =
      let P : S → Type 0 = λ z. (meaning z).requests ≤ begun b.book.journal in
      (ap (record_of b.book) g.caller_is ∙ s.0, subst P k.script_is s.1, nothing)
  stands_left (Serves t) l i s = (ap (record_of b.book) g.caller_is ∙ s.0, nothing)
  stands_left (InFlight t op) l i s = absurd i
  stands_left (Applied t op w) l i s = absurd i

  pub released_caller : IsCallerOf meaning h (record { seat = q; number = c.number; stage = c.stage; hands = hands })
  released_caller =
      let L : Book → Type 0 = λ w. Lawful (meaning (script_of h)) w in
      let O : List (ℕ × Held S) → Type 0 = λ l. Once content_of l in
      let Q : Book → Type 0 = λ w. Stands (meaning (script_of h)) (turn_count h.board) c.stage (foresight_in (record_of w c.number)) w q hands.pairs in
      let lawful_now : Lawful (meaning (script_of h)) (book_in (note q)) = subst L (sym left_is) k.lawful in
      record {
        seat = seat;
        number_is = g.caller_is ∙ k.number_is;
        caller_count_is = g.caller_count_is ∙ k.caller_count_is;
        noted = g.noted ∙ (λ j. Some (Register (k.script_is j) (sym left_is j)));
        script_kept = k.script_kept;
        lawful = lawful_now;
        told = is_told (meaning (script_of h)) (book_in (note q)) k.script_kept lawful_now;
        tables_are = k.tables_are;
        some_shards = k.some_shards;
        few_shards = k.few_shards;
        turns_are = k.turns_are;
        few_turns = k.few_turns;
        hands_room = omega (arith, k.hands_room, reserved);
        once = subst O (sym pairs) tt;
        stands = subst Q (sym left_is) (stands_left c.stage (foresight_in (record_of b.book c.number)) i k.stands);
      }

-- ---- hold after tries that found the book taken
each_ticket : (st : Stage) (P Q : ℕ → Type 0) → ((t : ℕ) → P t → Q t) → OfTicket st P → OfTicket st Q
each_ticket (Serves t) P Q f x = f t x
each_ticket Idle P Q f x = x
each_ticket Out P Q f x = x
each_ticket (InFlight t op) P Q f x = x
each_ticket (Applied t op v) P Q f x = x

module _ {S : Type 0} (m : Meaning) (p via q : Holding S) (none : p.book ≡ None)
    (free : via.book ≡ None) (o : OnlyBookLost p.caller via.caller) (took : TakesBook m via q true) where
  present_still : present_book via ≡ present_book p
  present_still =
      ap (λ (x : Option (BookView S)). book_at x (book_of via.caller)) free ∙ ap book_in o.only.note_still
      ∙ sym (ap (λ (x : Option (BookView S)). book_at x (book_of p.caller)) none)

  pub held_after : HeldAfter m p q
  held_after =
      let P : Stage → Type 0 = λ s. OfTicket s (λ t. entries_at q t ≡ entries_at via t) in (
        via,
        free,
        o,
        took,
        took.1.stage_still ∙ o.only.stage_still,
        took.1.foresight_still ∙ (λ j. foresight_in (record_of (present_still j) (o.only.number_still j))),
        took.1.begun_still ∙ (λ j. tickets_by (o.only.caller_still j) (present_still j).journal),
        each_ticket p.caller.stage (λ t. entries_at q t ≡ entries_at via t) (λ t. entries_at q t ≡ entries_at p t)
            (λ t e. e ∙ ap (λ (w : Book). entries w.journal t) present_still) (subst P o.only.stage_still took.1.entries_still),
      )
