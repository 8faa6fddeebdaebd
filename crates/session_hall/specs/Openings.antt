-- What a hall is opened with. Only this crate's own functions cite it.
use Rattle.std.specs.Prelude.{◌≡◌, ℕ, ◌+◌, ◌*◌, ◌/◌, ◌%◌}
use Rattle.std.specs.Prelude.{List, [], Some, length, map, replicate, slice_get}
use Rattle.session_values.specs.declared.kind.TableKind.{TableKind}
use Rattle.session_journal.specs.Opening.{container_of, entries_of}
use Rattle.session_journal.specs.Script.{Meaning, IsScript, room}
use Rattle.shard_tables.specs.Parts.{part}
use Rattle.turn_board.specs.Hands.{HandsView}
use Rattle.turn_board.specs.Limits.{max_board_turns}
use Rattle.hall_rule.specs.declared.held.Held.{Held}
use Rattle.hall_rule.specs.declared.held.Held.TheVariants.{Table}
use Rattle.shard_tables.specs.declared.part.Part.{Part}
use Rattle.hall_rule.specs.Filling.{count_in}
use Rattle.hall_rule.specs.Halls.{first_content}
use Rattle.shard_tables.specs.Either.{shard_view}
use Rattle.hall_rule.specs.Shards.{content_of}
use Rattle.hall_rule.specs.Tie.{Tied}
use Rattle.session_hall.specs.declared.caller.Caller.{Caller}
use Rattle.session_hall.specs.declared.stage.Stage.TheVariants.{Idle}
use Rattle.session_hall.specs.Stages.{SeatOf}

-- the shard that stands behind turn j + 1, with its part of what its table opens with, in room for
-- these entries and for all keys that may be added to the table
pub record IsNewPart (m : Meaning) (shards j : ℕ) (p : Part) : Type 0 where
  pub kind : TableKind
  pub kind_is : slice_get m.shape (j / shards) ≡ Some kind
  pub space : ℕ
  pub space_is : space ≡ room m (j / shards)
      + count_in shards (j % shards) (entries_of m.opened (j / shards))
  pub is : shard_view p ≡ record {
    container = part shards (j % shards) (container_of kind (entries_of m.opened (j / shards)));
    room = space;
  }

-- the values are the shards of the first n turns behind the book
pub record NewParts {S : Type 0} (m : Meaning) (shards n : ℕ) (values : List (Held S))
    : Type 0 where
  pub parts : List Part
  pub are : values ≡ map Table parts
  pub long : length parts ≡ n
  pub each : (j : ℕ) (p : Part) → slice_get parts j ≡ Some p → IsNewPart m shards j p

-- the values of a hall's turns before any ticket is begun: of them the rule holds
pub record FirstValues {S : Type 0} (meaning : S → Meaning) (script : S) (shards callers : ℕ)
    (values : List (Held S)) : Type 0 where
  pub script_kept : IsScript (meaning script)
  pub long : length values ≡ 1 + length (meaning script).shape * shards
  pub first : slice_get (map content_of values) 0 ≡ Some (first_content meaning script callers)
  pub tied : Tied meaning (map content_of values)
      (replicate callers (first_content meaning script callers))

-- a caller with this seat, which serves no ticket and holds nothing in its hands
pub record IsNew {S : Type 0} (seat : SeatOf S) (number : ℕ) (c : Caller S) : Type 0 where
  pub seat_is : c.seat ≡ seat
  pub number_is : c.number ≡ number
  pub idle : c.stage ≡ Idle
  pub no_pairs : c.hands.pairs ≡ []
  pub hands_room : c.hands.room ≡ max_board_turns

-- a caller for each of the first n seats
pub record AllNew {S : Type 0} (seats : List (SeatOf S)) (n : ℕ)
    (callers : List (Caller S)) : Type 0 where
  pub long : length callers ≡ n
  pub each : (i : ℕ) (c : Caller S) → slice_get callers i ≡ Some c
      → (s : SeatOf S) × (slice_get seats i ≡ Some s) × IsNew s i c

-- empty hands for so many callers
pub record AreEmpty {S : Type 0} (n : ℕ) (hands : List (HandsView (Held S))) : Type 0 where
  pub long : length hands ≡ n
  pub each : (i : ℕ) (h : HandsView (Held S)) → slice_get hands i ≡ Some h
      → (h.pairs ≡ []) × (h.room ≡ max_board_turns)
