-- What contracts say of a board, of its seats, and of what a call does to a seat.
use Rattle.std.specs.Prelude.{◌≡◌, ◌≢◌, ℕ, ◌+◌, ◌<◌, ◌⊎◌, List, ◌++◌, map, length, Option, Some, None, slice_get, replicate}
use Rattle.std.specs.Int.{bit_at}
use Rattle.turn_board.specs.declared.board.Board.{Board}
use Rattle.turn_board.specs.declared.seat.Seat.{Seat}
use Rattle.turn_board.specs.declared.taken.Taken.{Taken}
use Rattle.turn_board.specs.declared.taken.Taken.TheVariants.{Here, Busy}
use Rattle.turn_board.specs.declared.taken.TookAll.{TookAll}
use Rattle.turn_board.specs.declared.taken.TookAll.TheVariants as all
use Rattle.turn_steps.specs.Maps.{bits_of, overlay, FitsTurns}
use Rattle.turn_board.specs.Hands.{in_hands, Once}
use Rattle.turn_steps.specs.Passes.{IsSeated, id_of, turns_of}
use Rattle.turn_steps.specs.Passes as passes

-- the rule holds of these values, where each caller's note is the content of the first
abbrev pub CanOpen : {V C : Type 0} → (V → C) → (List C → List C → Type 0) → List V → ℕ → Type 0
CanOpen {V} {C} content holds values callers = (b : C)
    × (slice_get (map content values) 0 ≡ Some b) × holds (map content values) (replicate callers b)

module _ {V R C : Type 0} where
  -- the number of turns
  abbrev pub turn_count : Board V R C → ℕ
  turn_count b = turns_of b.words

  -- it is a seat of this board, for one caller
  abbrev pub IsSeatOf : Board V R C → Seat V R C → Type 0
  IsSeatOf b s = IsSeated (id_of b.words) s.pass.token

  -- the counted contents of the turns that the seat holds
  abbrev pub held : Seat V R C → ℕ → Option C
  held s = passes.held s.pass.token

  -- the content of the book as the seat's caller last gave it back. Each seat of a board has one
  abbrev pub note : Seat V R C → Option C
  note s = passes.note s.pass.token

  -- the number of the seat's caller
  abbrev pub caller : Seat V R C → ℕ
  caller s = passes.caller s.pass.token

  -- how often this seat found a turn taken by another one
  abbrev pub lost : Seat V R C → ℕ → ℕ
  lost s = passes.lost s.pass.token

  -- how often this seat gave the book back
  abbrev pub given : Seat V R C → ℕ
  given s = s.pass.token.me.0.given

  -- the number of callers of the board
  abbrev pub caller_count : Seat V R C → ℕ
  caller_count s = s.pass.token.me.0.caller_count

  -- how often this seat asked for turns: a set that one step asks for is asked for once
  abbrev pub asks : Seat V R C → ℕ
  asks s = s.pass.token.me.0.asks

  -- how often this seat gave turns back: all turns that one step gives back are given back once
  abbrev pub givings : Seat V R C → ℕ
  givings s = s.pass.token.me.0.givings

  -- the last change of counted contents by this seat, and before that the opening: its number among
  -- all changes of the board, and the contents of all turns that it left. What the latest change of
  -- all seats left is counted, so no step that leaves this as it was changes a counted content
  abbrev pub last_change : Seat V R C → ℕ × List C
  last_change s = s.pass.token.me.0.change

  -- the seat of the caller k of n, as a board is opened: nothing is held, lost or given
  pub record Begins (b : Board V R C) (n : ℕ) (opening : C) (k : ℕ) (s : Seat V R C) : Type 0 where
    pub seat : IsSeatOf b s
    pub caller_is : caller s ≡ k
    pub note_is : note s ≡ Some opening
    pub caller_count_is : caller_count s ≡ n
    pub free : (t : ℕ) → held s t ≡ None
    pub unlost : (t : ℕ) → lost s t ≡ 0
    pub ungiven : given s ≡ 0
    pub unasked : asks s ≡ 0
    pub ungiving : givings s ≡ 0

  -- the seat of the caller k of n, which holds nothing: with all others the board can be closed
  pub record Ends (b : Board V R C) (n k : ℕ) (s : Seat V R C) : Type 0 where
    pub seat : IsSeatOf b s
    pub caller_is : caller s ≡ k
    pub caller_count_is : caller_count s ≡ n
    pub free : (t : ℕ) → held s t ≡ None

  -- the board's seats, in the order of its n callers, as it is opened
  abbrev pub AllBegin : Board V R C → ℕ → C → List (Seat V R C) → Type 0
  AllBegin b n opening seats = (i : ℕ) (s : Seat V R C) → slice_get seats i ≡ Some s
      → Begins b n opening i s

  -- the opening is the first change of counted contents, which leaves these
  abbrev pub AllOpened : List C → List (Seat V R C) → Type 0
  AllOpened contents seats = (i : ℕ) (s : Seat V R C) → slice_get seats i ≡ Some s
      → last_change s ≡ (1, contents)

  -- seats of the board in the order of its n callers, which hold nothing
  abbrev pub AllEnd : Board V R C → ℕ → List (Seat V R C) → Type 0
  AllEnd b n seats = (i : ℕ) (s : Seat V R C) → slice_get seats i ≡ Some s → Ends b n i s

  -- each bit of the set names a turn of the board, from 1 on, that the seat doesn't hold
  abbrev pub CanAsk : Board V R C → Seat V R C → ℕ → Type 0
  CanAsk b s set = (u : ℕ) → bit_at set u ≡ 1 → (0 < u) × (u < turn_count b) × (held s u ≡ None)

  -- what the rule tells a seat: it holds of some contents of all turns and some notes of all
  -- callers, and the contents that the seat holds and its caller's note are among them
  pub record Tells (holds : List C → List C → Type 0) (turns : ℕ) (s : Seat V R C) : Type 0 where
    pub contents : List C
    pub notes : List C
    pub tied : holds contents notes
    pub turns_is : length contents ≡ turns
    pub callers : length notes ≡ caller_count s
    pub own : (t : ℕ) (c : C) → held s t ≡ Some c → slice_get contents t ≡ Some c
    pub noted : slice_get notes (caller s) ≡ note s

  module _ (p q : Seat V R C) where
    -- the seat speaks for the same caller with the same note, gave the book back as often, and no
    -- step of it changed a counted content
    pub record SameNote : Type 0 where
      pub caller_is : caller q ≡ caller p
      pub note_is : note q ≡ note p
      pub caller_count_is : caller_count q ≡ caller_count p
      pub given_is : given q ≡ given p
      pub change_is : last_change q ≡ last_change p

    -- the seat has the turn t with the content c beside what it held, for which it asked once
    pub record Gained (t : ℕ) (c : C) : Type 0 where
      pub here : held q t ≡ Some c
      pub others : (u : ℕ) → u ≢ t → held q u ≡ held p u
      pub lost_is : (u : ℕ) → lost q u ≡ lost p u
      pub asks_is : asks q ≡ asks p + 1
      pub givings_is : givings q ≡ givings p

    -- the turn t was asked for once, and found taken by another seat
    pub record Missed (t : ℕ) : Type 0 where
      pub held_is : (u : ℕ) → held q u ≡ held p u
      pub here : lost q t ≡ lost p t + 1
      pub others : (u : ℕ) → u ≢ t → lost q u ≡ lost p u
      pub asks_is : asks q ≡ asks p + 1
      pub givings_is : givings q ≡ givings p

    -- the turn t was given back
    pub record Released (t : ℕ) : Type 0 where
      pub here : held q t ≡ None
      pub others : (u : ℕ) → u ≢ t → held q u ≡ held p u
      pub lost_is : (u : ℕ) → lost q u ≡ lost p u
      pub asks_is : asks q ≡ asks p
      pub givings_is : givings q ≡ givings p + 1

    -- the book was given back, and the turns that are still held have new contents
    pub record Booked (new : ℕ → Option C) : Type 0 where
      pub book : held q 0 ≡ None
      pub others : (t : ℕ) → 0 < t → held q t ≡ new t
      pub noted : note q ≡ new 0
      pub caller_is : caller q ≡ caller p
      pub caller_count_is : caller_count q ≡ caller_count p
      pub given_is : given q ≡ given p + 1
      pub lost_is : (t : ℕ) → lost q t ≡ lost p t
      pub asks_is : asks q ≡ asks p
      pub givings_is : givings q ≡ givings p + 1

    -- the contents of the turns that the seat held became the new ones, in one change, and those of
    -- all other turns stayed
    pub record Changed (turns : ℕ) (new : ℕ → Option C) : Type 0 where
      pub contents : List C
      pub turns_is : length contents ≡ turns
      pub before : FitsTurns contents (held p)
      pub after : (last_change q).1 ≡ overlay new contents
      pub later : (last_change p).0 < (last_change q).0

    -- the book and all other turns of the seat were given back, in one step
    pub record BookedAll (book : C) : Type 0 where
      pub nothing : (t : ℕ) → held q t ≡ None
      pub noted : note q ≡ Some book
      pub caller_is : caller q ≡ caller p
      pub caller_count_is : caller_count q ≡ caller_count p
      pub given_is : given q ≡ given p + 1
      pub lost_is : (t : ℕ) → lost q t ≡ lost p t
      pub asks_is : asks q ≡ asks p
      pub givings_is : givings q ≡ givings p + 1

    -- the seat has the turns of the set beside what it held, for all of which it asked in one step,
    -- and their values were added in rising order
    pub record GainedAll (content : V → C) (turns set : ℕ)
        (before after : List (ℕ × V)) : Type 0 where
      pub new : List (ℕ × V)
      pub added : after ≡ before ++ new
      pub rising : map (λ (x : ℕ × V). x.0) new ≡ bits_of set turns
      pub once : Once content new
      pub here : (u : ℕ) → bit_at set u ≡ 1 → (c : C) × (held q u ≡ Some c)
          × (in_hands content new u ≡ Some c)
      pub others : (u : ℕ) → bit_at set u ≡ 0
          → (held q u ≡ held p u) × (in_hands content new u ≡ None)
      pub lost_is : (u : ℕ) → lost q u ≡ lost p u
      pub asks_is : asks q ≡ asks p + 1
      pub givings_is : givings q ≡ givings p

    -- all turns of the set were asked for in one step, some were found taken by other seats, and t
    -- is the least of these. The others were given back in one step, and no step was made where
    -- there were none
    pub record MissedAll (set t : ℕ) : Type 0 where
      pub asked : bit_at set t ≡ 1
      pub held_is : (u : ℕ) → held q u ≡ held p u
      pub here : lost q t ≡ lost p t + 1
      pub below : (u : ℕ) → u < t → lost q u ≡ lost p u
      pub above : (u : ℕ) → t < u → (lost q u ≡ lost p u)
          ⊎ ((bit_at set u ≡ 1) × (lost q u ≡ lost p u + 1))
      pub asks_is : asks q ≡ asks p + 1
      pub some_won : (u : ℕ) → bit_at set u ≡ 1 → lost q u ≡ lost p u → givings q ≡ givings p + 1
      pub none_won : ((u : ℕ) → bit_at set u ≡ 1 → lost q u ≡ lost p u + 1) → givings q ≡ givings p

  module _ (content : V → C) (holds : List C → List C → Type 0) (turns : ℕ) (p q : Seat V R C) where
    -- each answer tells the rule. Busy never comes where the board has one caller
    abbrev pub Answered : ℕ → Taken V → Type 0
    Answered t (Here v) = Gained p q t (content v) × Tells holds turns q
    Answered t (Busy u) = (u ≡ t) × Missed p q t × (caller_count p ≢ 1) × Tells holds turns q

    -- the same where all turns of a set are asked for: either all are gained, or none is and the
    -- values stay
    abbrev pub AnsweredAll : ℕ → List (ℕ × V) → List (ℕ × V) → TookAll → Type 0
    AnsweredAll set before after all.Here = GainedAll p q content turns set before after
        × Tells holds turns q
    AnsweredAll set before after (all.Busy t) = (after ≡ before) × MissedAll p q set t
        × (caller_count p ≢ 1) × Tells holds turns q
