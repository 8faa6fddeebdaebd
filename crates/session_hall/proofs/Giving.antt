-- A caller gives the book back.
use Rattle.std.proofs.Common.{◌≡◌, ◌≢◌, ℕ, suc, ◌+◌, ◌<◌, List, [], ◌++◌, length, map, Option, Some, None, refl, sym, ◌∙◌, ap, subst, arith}
use Rattle.std.specs.Prelude.{slice_get}
use Rattle.std.specs.List.{AllByRecursion}
use Rattle.turn_board.specs.Seated.{TableId}
use Rattle.std.proofs.lemmas.List.{length-set, get_or-set_other, get_or-set_same}
use Rattle.std.proofs.lemmas.Option.{none-some}
use Rattle.session_values.specs.Tables.{kind_of}
use Rattle.session_journal.proofs.Openings.{opening_kinds}
use Rattle.symbolic_ops.specs.declared.symbol.Symbol.{Symbol}
use Rattle.session_journal.specs.declared.event.Event.{Event}
use Rattle.session_journal.specs.Journal.{done_operations, owner, ticket_of}
use Rattle.session_journal.specs.Script.{Meaning, IsScript}
use Rattle.admission_book.specs.Book.{Book, Serving, record_of, with_record}
use Rattle.admission_book.specs.Lawful.{Lawful}
use Rattle.admission_book.specs.Methods.{BookView}
use Rattle.admission_book.proofs.Foreknown.{foreknown, regrouped_lawful}
use Rattle.turn_board.specs.Boards.{IsSeatOf, SameNote, BookedAll, turn_count, held, note, caller}
use Rattle.turn_board.specs.Hands.{HandsView, Once, in_hands, put_back}
use Rattle.hall_rule.specs.declared.held.Held.{Held}
use Rattle.hall_rule.specs.declared.held.Held.TheVariants as value
use Rattle.hall_rule.specs.Contents.{Content, Register, share, opening_tables}
use Rattle.hall_rule.specs.Shards.{content_of}
use Rattle.hall_rule.specs.Tie.{Moves}
use Rattle.hall_rule.specs.Turns.{WasDone}
use Rattle.hall_rule.proofs.Shares.{share_quiet}
use Rattle.session_hall.specs.declared.caller.Caller.{Caller}
use Rattle.session_hall.specs.declared.hall.Hall.{Hall}
use Rattle.session_hall.specs.declared.stage.Stage.{Stage}
use Rattle.session_hall.specs.declared.stage.Stage.TheVariants.{Idle, Serving as Serves, InFlight, Applied, Out}
use Rattle.session_hall.specs.Callers.{IsCallerOf, IsTold, book_in, book_of, foresight_of}
use Rattle.session_hall.specs.Calls.{GaveBack}
use Rattle.session_hall.specs.Findings.{HasBook, IsTiedWith}
use Rattle.session_hall.specs.Names.{script_of}
use Rattle.session_hall.specs.Stages.{SeatOf, HoldsNone, Stands, foresight_in, waiting, flying}

-- ---- what a lawful book tells
pub opens : (m : Meaning) → IsScript m → map kind_of (opening_tables m) ≡ m.shape
opens m s = ap (map kind_of) s.opening ∙ opening_kinds m.shape m.opened

pub is_told : (m : Meaning) (b : Book) → IsScript m → Lawful m b → IsTold m b
is_told m b s l = record { replays = l.replays; regrouped = (regrouped_lawful m b l).replays; foreknown = λ t near. foreknown m b s l t near }

-- ---- what a change of the book has to be for its caller
pub record Changes (m : Meaning) (c : ℕ) (before now : Book) (more : List Event) : Type 0 where
  pub callers : length now.records ≡ length before.records
  pub others : (d : ℕ) → d ≢ c → record_of now d ≡ record_of before d
  pub grows : before.journal ++ more ≡ now.journal
  pub own : AllByRecursion (λ e. owner now.journal (ticket_of e) ≡ Some c) more

-- one record is changed, and the journal grows by some events
pub one_record : (m : Meaning) (c : ℕ) (b d : Book) (x : Option Serving) (more : List Event) → d.records ≡ (with_record b c x).records → b.journal ++ more ≡ d.journal → AllByRecursion (λ e. owner d.journal (ticket_of e) ≡ Some c) more → Changes m c b d more
one_record m c b d x more e grows own = record {
  callers = ap length e ∙ length-set b.records c x;
  others = λ u n. ap (λ (l : List (Option Serving)). get l u) e ∙ get_or-set_other b.records c u x None n;
  grows = grows;
  own = own;
}
  where
    get : List (Option Serving) → ℕ → Option Serving
    get l u = record_of (record { journal = []; kept = []; records = l }) u

pub same_records : (m : Meaning) (c : ℕ) (b d : Book) (more : List Event) → d.records ≡ b.records → b.journal ++ more ≡ d.journal → AllByRecursion (λ e. owner d.journal (ticket_of e) ≡ Some c) more → Changes m c b d more
same_records m c b d more e grows own = record {
  callers = ap length e;
  others = λ u n. ap (λ (l : List (Option Serving)). record_of (record { journal = []; kept = []; records = l }) u) e;
  grows = grows;
  own = own;
}

-- what a caller stands at says which list its record has
pub stands_by_record : {S : Type 0} (m : Meaning) (turns : ℕ) (st : Stage) (g : List Symbol) (b : Book) (s : SeatOf S) (xs : List (ℕ × Held S)) (n : ℕ) → caller s ≡ n → Stands m turns st g b s xs → Stands m turns st (foresight_in (record_of b n)) b s xs
stands_by_record m turns Idle g b s xs n e h = h
stands_by_record m turns Out g b s xs n e h = h
stands_by_record m turns (Serves t) g b s xs n e h =
    let own : record_of b n ≡ Some (waiting t g) = ap (record_of b) (sym e) ∙ h.0 in
    (h.0 ∙ ap (λ (l : List Symbol). Some (waiting t l)) (sym (ap foresight_in own)), h.1)
stands_by_record m turns (InFlight t op) g b s xs n e h =
    let own : record_of b n ≡ Some (flying t g op) = ap (record_of b) (sym e) ∙ h.0 in
    (h.0 ∙ ap (λ (l : List Symbol). Some (flying t l op)) (sym (ap foresight_in own)), h.1)
stands_by_record m turns (Applied t op v) g b s xs n e h =
    let own : record_of b n ≡ Some (flying t g op) = ap (record_of b) (sym e) ∙ h.0 in
    (h.0 ∙ ap (λ (l : List Symbol). Some (flying t l op)) (sym (ap foresight_in own)), h.1)

-- ---- a caller that has the book, and gives back what it made of it
module _ {S : Type 0} (meaning : S → Meaning) (h : Hall S) (c : Caller S) (k : IsCallerOf meaning h c) (q : SeatOf S) (b : BookView S) (v : SameNote c.seat q) (f : HasBook c.seat q meaning (script_of h) (turn_count h.board) b) where
  abbrev m : Meaning
  m = meaning (script_of h)

  -- what holds of the hall's script holds of the one that the book has
  pub at_script : (P : Meaning → Type 0) → P (meaning (script_of h)) → P (meaning b.script)
  at_script P x = let Q : S → Type 0 = λ s. P (meaning s) in subst Q (sym f.script_is) x

  pub near : caller c.seat < length b.book.records
  near = omega (arith, f.finds.near, f.finds.callers_are)

  pub own_set : (x : Option Serving) (u : ℕ) → u ≡ caller c.seat → record_of (with_record b.book (caller c.seat) x) u ≡ x
  own_set x u e = ap (record_of (with_record b.book (caller c.seat) x)) e ∙ get_or-set_same b.book.records (caller c.seat) x None near

  -- the rule held where the book was found
  pub found_rule : IsTiedWith (meaning (script_of h)) c.seat b.book
  found_rule = record {
    script = script_of h;
    contents = f.rule.contents;
    notes = f.rule.notes;
    tied = f.rule.tied;
    turns_are = f.rule.turns_is ∙ ap (λ (i : TableId). i.slots) (sym k.seat.placed.of_table);
    callers_are = f.rule.callers ∙ v.caller_count_is;
    book = f.rule.own 0 (Register (script_of h) b.book) f.here;
    shards = λ j x e. f.rule.own (suc j) x (f.others (suc j) (λ z. omega (arith, z)) ∙ e);
    noted = ap (slice_get f.rule.notes) (sym v.caller_is) ∙ f.rule.noted ∙ v.note_is;
  }

  module _ (d : BookView S) (kept : d.script ≡ b.script) (lawful : Lawful (meaning d.script) d.book) (left : Book) (is : d.book ≡ left) where
    pub lawful_left : Lawful (meaning (script_of h)) left
    lawful_left =
        let P : S → Type 0 = λ s. Lawful (meaning s) d.book in
        let Q : Book → Type 0 = λ w. Lawful m w in
        subst Q is (subst P (kept ∙ f.script_is) lawful)

    pub register_is : ◌≡◌ {A = Content S} (Register d.script d.book) (Register (script_of h) left)
    register_is = λ i. Register ((kept ∙ f.script_is) i) (is i)

    -- a change without a Done event, while no shard is held
    pub quiet_moves : (more : List Event) → done_operations more ≡ [] → Changes (meaning (script_of h)) (caller c.seat) b.book left more → (xs : List (ℕ × Held S)) → xs ≡ [] → Moves meaning (turn_count h.board) (caller q) (held q) (put_back content_of (value.Register d) xs)
    quiet_moves more quiet ch xs none =
        let P : List (ℕ × Held S) → Type 0 = λ l. Moves meaning (turn_count h.board) (caller q) (held q) (put_back content_of (value.Register d) l) in
        let Q : ℕ → Type 0 = λ u. Moves meaning (turn_count h.board) u (held q) (put_back content_of (value.Register d) []) in
        subst P (sym none) (subst Q (sym v.caller_is) (record {
          script = script_of h;
          before = b.book;
          now = left;
          was = f.here;
          is = ap Some register_is;
          lawful = lawful_left;
          callers = ch.callers;
          others = ch.others;
          more = more;
          grows = ch.grows;
          own = ch.own;
          held = λ j x e. absurd (none-some x e);
          free = λ j e. share_quiet m (turn_count h.board) b.book.journal more j quiet ∙ ap (λ (J : List Event). share m (turn_count h.board) J j) ch.grows;
        }))

    -- after the book was given back with all else
    module _ (r : Caller S) (seat : IsSeatOf h.board r.seat) (g : BookedAll q r.seat (Register d.script d.book)) (pairs : r.hands.pairs ≡ []) (reserved : r.hands.room ≡ c.hands.room) (number : r.number ≡ c.number) where
      pub noted_is : note r.seat ≡ Some (Register (script_of h) left)
      noted_is = g.noted ∙ ap Some register_is

      pub left_is : book_of r ≡ left
      left_is = ap book_in noted_is

      pub who : caller r.seat ≡ caller c.seat
      who = g.caller_is ∙ v.caller_is

      pub holds_none : HoldsNone r.seat r.hands.pairs
      holds_none = record { free = g.nothing; no_pairs = pairs }

      pub gave_back : GaveBack (meaning (script_of h)) c r b.book left
      gave_back = record {
        rule = found_rule;
        finds = f.finds;
        noted = left_is;
        given_more = g.given_is ∙ ap (λ (n : ℕ). n + 1) v.given_is;
        lost_still = λ u. g.lost_is u ∙ f.lost_still u;
        asks_more = g.asks_is ∙ f.asks_more;
        givings_more = g.givings_is ∙ ap (λ (n : ℕ). n + 1) f.givings_still;
      }

      pub own_number : caller r.seat ≡ r.number
      own_number = who ∙ k.number_is ∙ sym number

      -- what the ticket may still call, by the record that was left
      pub foresight_left : (x : Option Serving) → record_of left (caller r.seat) ≡ x → foresight_of r ≡ foresight_in x
      foresight_left x e = ap (λ (w : Book). foresight_in (record_of w r.number)) left_is ∙ ap (λ (u : ℕ). foresight_in (record_of left u)) (sym own_number) ∙ ap foresight_in e

      pub caller_after : (list : List Symbol) (st : Stage) → r.stage ≡ st → Stands (meaning (script_of h)) (turn_count h.board) st list left r.seat r.hands.pairs → IsCallerOf meaning h r
      caller_after list st stage stands =
          let P : Stage → Type 0 = λ s. Stands m (turn_count h.board) s (foresight_in (record_of left r.number)) left r.seat r.hands.pairs in
          let Q : Book → Type 0 = λ w. Stands m (turn_count h.board) r.stage (foresight_in (record_of w r.number)) w r.seat r.hands.pairs in
          let L : Book → Type 0 = λ w. Lawful m w in
          let O : List (ℕ × Held S) → Type 0 = λ l. Once content_of l in
          let lawful_now : Lawful m (book_of r) = subst L (sym left_is) lawful_left in
          record {
            seat = seat;
            number_is = who ∙ k.number_is ∙ sym number;
            caller_count_is = g.caller_count_is ∙ v.caller_count_is ∙ k.caller_count_is;
            noted = noted_is ∙ ap (λ (w : Book). Some (Register (script_of h) w)) (sym left_is);
            script_kept = k.script_kept;
            lawful = lawful_now;
            told = is_told m (book_of r) k.script_kept lawful_now;
            tables_are = k.tables_are;
            some_shards = k.some_shards;
            few_shards = k.few_shards;
            turns_are = k.turns_are;
            few_turns = k.few_turns;
            hands_room = omega (arith, k.hands_room, reserved);
            once = subst O (sym pairs) tt;
            stands = subst Q (sym left_is) (subst P (sym stage) (stands_by_record m (turn_count h.board) st list left r.seat r.hands.pairs r.number own_number stands));
          }

-- ---- a caller whose note stays
pub caller_on : {S : Type 0} (meaning : S → Meaning) (h : Hall S) (c : Caller S) (k : IsCallerOf meaning h c) (d : Caller S) → IsSeatOf h.board d.seat → SameNote c.seat d.seat → d.number ≡ c.number → d.hands.room ≡ c.hands.room → Once content_of d.hands.pairs → (g : List Symbol) → Stands (meaning (script_of h)) (turn_count h.board) d.stage g (book_of c) d.seat d.hands.pairs → IsCallerOf meaning h d
caller_on {S} meaning h c k d seat v number reserved once g stands =
    let e : book_of c ≡ book_of d = ap book_in (sym v.note_is) in
    let L : Book → Type 0 = λ w. Lawful (meaning (script_of h)) w in
    let T : Book → Type 0 = λ w. IsTold (meaning (script_of h)) w in
    let Q : Book → Type 0 = λ w. Stands (meaning (script_of h)) (turn_count h.board) d.stage (foresight_in (record_of w d.number)) w d.seat d.hands.pairs in
    let who : caller d.seat ≡ d.number = v.caller_is ∙ k.number_is ∙ sym number in
    record {
      seat = seat;
      number_is = v.caller_is ∙ k.number_is ∙ sym number;
      caller_count_is = v.caller_count_is ∙ k.caller_count_is;
      noted = v.note_is ∙ k.noted ∙ ap (λ (w : Book). Some (Register (script_of h) w)) e;
      script_kept = k.script_kept;
      lawful = subst L e k.lawful;
      told = subst T e k.told;
      tables_are = k.tables_are;
      some_shards = k.some_shards;
      few_shards = k.few_shards;
      turns_are = k.turns_are;
      few_turns = k.few_turns;
      hands_room = omega (arith, k.hands_room, reserved);
      once = once;
      stands = subst Q e (stands_by_record (meaning (script_of h)) (turn_count h.board) d.stage g (book_of c) d.seat d.hands.pairs d.number who stands);
    }

-- what is said of its stage stays where nothing was taken
pub stands_still : {S : Type 0} (m : Meaning) (turns : ℕ) (st : Stage) (f : List Symbol) (b : Book) (p q : SeatOf S) (xs : List (ℕ × Held S)) → caller q ≡ caller p → ((u : ℕ) → held q u ≡ held p u) → Stands m turns st f b p xs → Stands m turns st f b q xs
stands_still m turns Idle f b p q xs e h s = (ap (record_of b) e ∙ s.0, record { free = λ u. h u ∙ s.1.free u; no_pairs = s.1.no_pairs })
stands_still m turns Out f b p q xs e h s = (ap (record_of b) e ∙ s.0, s.1, record { free = λ u. h u ∙ s.2.free u; no_pairs = s.2.no_pairs })
stands_still m turns (Serves t) f b p q xs e h s = (ap (record_of b) e ∙ s.0, record { free = λ u. h u ∙ s.1.free u; no_pairs = s.1.no_pairs })
stands_still m turns (InFlight t op) f b p q xs e h s = (ap (record_of b) e ∙ s.0, record { free = λ u. h u ∙ s.1.free u; no_pairs = s.1.no_pairs })
stands_still {S} m turns (Applied t op v) f b p q xs e h s =
    let w : held q ≡ held p = (λ i u. h u i) in
    let P : (ℕ → Option (Content S)) → Type 0 = λ o. WasDone m turns op v o (in_hands content_of xs) in
    (ap (record_of b) e ∙ s.0, subst P (sym w) s.1)

-- a caller that found a turn taken
pub busy_caller : {S : Type 0} (meaning : S → Meaning) (h : Hall S) (c : Caller S) (k : IsCallerOf meaning h c) (q : SeatOf S) → IsSeatOf h.board q → SameNote c.seat q → ((u : ℕ) → held q u ≡ held c.seat u) → IsCallerOf meaning h (record { seat = q; number = c.number; stage = c.stage; hands = c.hands })
busy_caller meaning h c k q seat v same =
    caller_on meaning h c k (record { seat = q; number = c.number; stage = c.stage; hands = c.hands }) seat v refl refl k.once (foresight_of c)
    (stands_still (meaning (script_of h)) (turn_count h.board) c.stage (foresight_of c) (book_of c) c.seat q c.hands.pairs v.caller_is same k.stands)

-- the same with its hands, to which nothing was added
pub busy_on : {S : Type 0} (meaning : S → Meaning) (h : Hall S) (c : Caller S) (k : IsCallerOf meaning h c) (q : SeatOf S) → IsSeatOf h.board q → SameNote c.seat q → ((u : ℕ) → held q u ≡ held c.seat u) → (hands : HandsView (Held S)) → hands.pairs ≡ c.hands.pairs → hands.room ≡ c.hands.room → IsCallerOf meaning h (record { seat = q; number = c.number; stage = c.stage; hands = hands })
busy_on {S} meaning h c k q seat v same hands pairs reserved =
    let O : List (ℕ × Held S) → Type 0 = λ l. Once content_of l in
    let P : List (ℕ × Held S) → Type 0 = λ l. Stands (meaning (script_of h)) (turn_count h.board) c.stage (foresight_of c) (book_of c) q l in
    caller_on meaning h c k (record { seat = q; number = c.number; stage = c.stage; hands = hands }) seat v refl reserved (subst O (sym pairs) k.once) (foresight_of c)
    (subst P (sym pairs) (stands_still (meaning (script_of h)) (turn_count h.board) c.stage (foresight_of c) (book_of c) c.seat q c.hands.pairs v.caller_is same k.stands))
