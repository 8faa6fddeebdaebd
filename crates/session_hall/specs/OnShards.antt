-- The shards in a caller's hands, by turn. Only this crate's own functions cite it.
use Rattle.std.specs.Prelude.{◌≡◌, ◌≢◌, ℕ, ◌+◌, ◌*◌, ◌<◌, ◌≤◌, pos}
use Rattle.std.specs.Prelude.{List, Option, Some, None, IfSome, IsSomeAnd}
use Rattle.std.specs.Int.{bit_at}
use Rattle.session_values.specs.OpeningLimits.{max_keys}
use Rattle.session_journal.specs.Script.{Meaning}
use Rattle.session_values.specs.declared.op.Op.{Op}
use Rattle.session_values.specs.declared.value.Value.{Value}
use Rattle.session_values.specs.declared.value.Value.TheVariants.{Num}
use Rattle.session_values.specs.Kinds.{arguments}
use Rattle.session_values.specs.Sums.{sum_below}
use Rattle.turn_board.specs.declared.taken.TookAll.{TookAll}
use Rattle.turn_board.specs.declared.taken.TookAll.TheVariants as all
use Rattle.turn_board.specs.Boards.{AnsweredAll}
use Rattle.turn_board.specs.Hands.{IsPlaceOf, Once, in_hands}
use Rattle.turn_board.specs.Limits.{max_board_turns}
use Rattle.hall_rule.specs.declared.held.Held.{Held}
use Rattle.hall_rule.specs.Contents.{Content}
use Rattle.hall_rule.specs.Shards.{content_of}
use Rattle.hall_rule.specs.Tie.{Tied}
use Rattle.session_hall.specs.declared.on_shards.Found.{Found}
use Rattle.session_hall.specs.declared.on_shards.Found.TheVariants.{Place, Keys}
use Rattle.session_hall.specs.Stages.{SeatOf}
use Rattle.session_hall.specs.Working.{CanDo, IsAnyShard, WorkedTo, keys_in}

module _ {S : Type 0} where
  -- the set has the turns from the first to below the end that aren't in hand, and no others
  pub record IsMissing (pairs : List (ℕ × Held S)) (first end set : ℕ) : Type 0 where
    pub each : (u : ℕ) → bit_at set u ≡ 1
        → (first ≤ u) × (u < end) × (in_hands content_of pairs u ≡ None)
    pub rest : (u : ℕ) → first ≤ u → u < end → bit_at set u ≡ 0
        → in_hands content_of pairs u ≡ None → ⊥

  -- where the set has turns, it is asked for; else nothing changes
  abbrev pub TakesSet : (S → Meaning) → ℕ → SeatOf S → SeatOf S → ℕ → List (ℕ × Held S)
      → List (ℕ × Held S) → TookAll → Type 0
  TakesSet meaning turns p q set before after r = (set ≡ 0 → (r ≡ all.Here) × (q ≡ p)
      × (after ≡ before))
      × (0 < set → AnsweredAll content_of (Tied meaning) turns p q set before after r)

  -- ---- one shard
  -- the operation was done on the shard of one turn
  pub record WorkedUnder (op : Op) (turn : ℕ) (before after : List (ℕ × Held S))
      (v : Value) : Type 0 where
    pub old : Content S
    pub new : Content S
    pub was : in_hands content_of before turn ≡ Some old
    pub is : in_hands content_of after turn ≡ Some new
    pub worked : WorkedTo op old new v
    pub others : (u : ℕ) → u ≢ turn → in_hands content_of after u ≡ in_hands content_of before u
    pub once : Once content_of after

  -- ---- the shards of a row of turns
  abbrev pub keys_of : Option (Content S) → ℕ
  keys_of None = 0
  keys_of (Some x) = keys_in x

  -- how many keys the shard of the turn has that is i behind the first
  abbrev pub keys_of_row : List (ℕ × Held S) → ℕ → ℕ → ℕ
  keys_of_row pairs first i = keys_of (in_hands content_of pairs (first + i))

  -- the operation may be done on the shard of each turn of the row. With a key it is one; else
  -- their keys are counted
  pub record CanWorkIn (op : Op) (first many : ℕ) (pairs : List (ℕ × Held S)) : Type 0 where
    pub turns : first + many ≤ max_board_turns
    pub some : 0 < many
    pub once : Once content_of pairs
    pub each : (u : ℕ) → first ≤ u → u < first + many
        → IsSomeAnd (in_hands content_of pairs u) (λ x. CanDo op x)
    pub few : arguments op.kind ≡ 0 → sum_below many (keys_of_row pairs first) ≤ max_keys

  abbrev pub HasWorkedIn : Op → ℕ → ℕ → List (ℕ × Held S) → List (ℕ × Held S) → Value → Type 0
  HasWorkedIn op first many before after v = (arguments op.kind ≡ 0
      → (after ≡ before) × (v ≡ Num (pos (sum_below many (keys_of_row before first)))))
      × (0 < arguments op.kind → WorkedUnder op first before after v)

  -- ---- what is in hand of a row of turns
  -- what is in hand of them is shards
  abbrev pub AreShards : List (ℕ × Held S) → ℕ → ℕ → Type 0
  AreShards pairs first many = (u : ℕ) → first ≤ u → u < first + many
      → IfSome (in_hands content_of pairs u) (λ x. IsAnyShard x)

  -- no turn of the row is missing
  abbrev pub AreHere : List (ℕ × Held S) → ℕ → ℕ → Type 0
  AreHere pairs first many = (u : ℕ) → first ≤ u → u < first + many
      → in_hands content_of pairs u ≡ None → ⊥

  -- some turn of the row is missing
  pub record LacksTurn (pairs : List (ℕ × Held S)) (first many : ℕ) : Type 0 where
    pub turn : ℕ
    pub from : first ≤ turn
    pub below : turn < first + many
    pub none : in_hands content_of pairs turn ≡ None

  -- the count of their keys if no turn of the row is missing, and no count if one is
  abbrev pub CountsRow : List (ℕ × Held S) → ℕ → ℕ → Option ℕ → Type 0
  CountsRow pairs first many None = LacksTurn pairs first many
  CountsRow pairs first many (Some n) = AreHere pairs first many
      × (n ≡ sum_below many (keys_of_row pairs first)) × (n ≤ many * 4294967295)

  -- the operation may be done on each shard of its row that is in hand
  pub record CanWorkHere (op : Op) (first many : ℕ) (pairs : List (ℕ × Held S)) : Type 0 where
    pub turns : first + many ≤ max_board_turns
    pub some : 0 < many
    pub once : Once content_of pairs
    pub each : (u : ℕ) → first ≤ u → u < first + many
        → IfSome (in_hands content_of pairs u) (λ x. CanDo op x)

  -- what was found: with a key the place of the first turn's shard, else the keys of all. Nothing
  -- is found only if the first turn is missing, or some turn of the row
  abbrev pub IsFound : Op → ℕ → ℕ → List (ℕ × Held S) → Option Found → Type 0
  IsFound op first many pairs None = (arguments op.kind ≡ 0 → LacksTurn pairs first many)
      × (0 < arguments op.kind → in_hands content_of pairs first ≡ None)
  IsFound op first many pairs (Some (Place i)) = (0 < arguments op.kind)
      × IsPlaceOf pairs first (Some i)
  IsFound op first many pairs (Some (Keys n)) = (arguments op.kind ≡ 0)
      × CountsRow pairs first many (Some n)

  -- the operation may be done on what was found
  abbrev pub CanWorkFound : Op → List (ℕ × Held S) → Found → Type 0
  CanWorkFound op pairs (Place i) = Once content_of pairs × ((turn : ℕ)
      × IsPlaceOf pairs turn (Some i)
      × IsSomeAnd (in_hands content_of pairs turn) (λ x. CanDo op x))
  CanWorkFound op pairs (Keys n) = n < 9223372036854775808

  abbrev pub HasWorkedFound : Op → List (ℕ × Held S) → List (ℕ × Held S) → Found → Value → Type 0
  HasWorkedFound op before after (Place i) v = (turn : ℕ) → IsPlaceOf before turn (Some i)
      → WorkedUnder op turn before after v
  HasWorkedFound op before after (Keys n) v = (after ≡ before) × (v ≡ Num (pos n))
