-- An operation on the shards in a caller's hands. Only this crate's own functions cite it.
use Rattle.std.specs.Prelude.{◌≡◌, ℕ, ◌<◌, true, List, Some, slice_get}
use Rattle.session_values.specs.declared.op.Op.{Op}
use Rattle.session_values.specs.declared.value.Value.{Value}
use Rattle.session_values.specs.Tables.{after_on, kind_of, reply_on, size_of}
use Rattle.session_values.specs.Kinds.{home, is_adding}
use Rattle.hall_rule.specs.declared.held.Held.{Held}
use Rattle.hall_rule.specs.Contents.{Content, Register, Shard}
use Rattle.hall_rule.specs.Shards.{content_of}

module _ {S : Type 0} where
  -- how many keys a shard has
  abbrev pub keys_in : Content S → ℕ
  keys_in (Shard c room) = size_of c
  keys_in (Register s b) = 0

  abbrev pub IsAnyShard : Content S → Type 0
  IsAnyShard (Shard c room) = Unit {0}
  IsAnyShard (Register s b) = ⊥

  -- it is a shard of the operation's kind, with room for one key more where the operation may add
  -- one
  abbrev pub CanDo : Op → Content S → Type 0
  CanDo op (Shard c room) = (kind_of c ≡ home op.kind)
      × (is_adding op.kind ≡ true → size_of c < room)
  CanDo op (Register s b) = ⊥

  -- the shard after the operation, and the operation's reply there
  abbrev pub WorkedTo : Op → Content S → Content S → Value → Type 0
  WorkedTo op (Shard c room) y v = (y ≡ Shard (after_on c op) room) × (v ≡ reply_on c op)
  WorkedTo op (Register s b) y v = ⊥

  -- ---- the shard at a place
  abbrev pub HasShardAt : ℕ → List (ℕ × Held S) → Type 0
  HasShardAt i xs = (x : ℕ × Held S) → slice_get xs i ≡ Some x → IsAnyShard (content_of x.1)

  abbrev pub HasKeysAt : ℕ → List (ℕ × Held S) → ℕ → Type 0
  HasKeysAt i xs n = (x : ℕ × Held S) → slice_get xs i ≡ Some x → n ≡ keys_in (content_of x.1)
