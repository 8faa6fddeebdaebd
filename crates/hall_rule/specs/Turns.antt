-- Which turns an operation takes, and when it was done on their shards.
use Rattle.std.specs.Prelude.{◌≡◌, ℕ, suc, ◌+◌, ◌*◌, ◌/◌, ◌%◌, ◌<◌, ◌==◌, cond, List, Option, Some, None}
use Rattle.session_values.specs.declared.op.Op.{Op}
use Rattle.session_values.specs.declared.value.Value.{Value}
use Rattle.session_values.specs.Kinds.{arguments}
use Rattle.session_values.specs.Tables.{Container, after_on, reply}
use Rattle.session_journal.specs.declared.event.Event.{Event}
use Rattle.session_journal.specs.Script.{Meaning}
use Rattle.shard_tables.specs.Parts.{shard_of}
use Rattle.hall_rule.specs.Contents.{Content, Shard, shards_in, share, tables_after}

-- the operation takes turn j + 1: one of its table, and with a key the one of its key
pub record IsTurnOf (shards : ℕ) (op : Op) (j : ℕ) : Type 0 where
  pub table : j / shards ≡ op.table
  pub shard : 0 < arguments op.kind → shard_of shards op.key ≡ j % shards

-- the content of a turn before and after the operation: both none, or a shard
abbrev pub ChangedBy : {S : Type 0} → Op → Option (Content S) → Option (Content S) → Type 0
ChangedBy op None None = Unit {0}
ChangedBy op None (Some y) = ⊥
ChangedBy op (Some x) None = ⊥
ChangedBy op (Some x) (Some y) = (c : Container) × (room : ℕ) × (x ≡ Shard c room)
    × (y ≡ Shard (after_on c op) room)

-- the operation was done on its shards: its turns and no others are held, and each has in hand what
-- the operation makes of its counted content; v is its reply after every journal whose shards these
-- are
pub record WasDone {S : Type 0} (m : Meaning) (turns : ℕ) (op : Op) (v : Value)
    (held hands : ℕ → Option (Content S)) : Type 0 where
  pub no_book : held 0 ≡ None
  pub each : (j : ℕ) → ChangedBy op (held (suc j)) (hands (suc j))
  pub mine : (j : ℕ) (x : Content S) → held (suc j) ≡ Some x → IsTurnOf (shards_in m turns) op j
  pub all : (j : ℕ) → held (suc j) ≡ None → IsTurnOf (shards_in m turns) op j → ⊥
  pub settled : (J : List Event) → ((j : ℕ) (c : Container) (room : ℕ)
      → held (suc j) ≡ Some (Shard c room) → c ≡ share m turns J j)
      → reply (tables_after m J) op ≡ v

-- ---- the turns as a row
-- how many turns an operation takes
abbrev pub span : ℕ → Op → ℕ
span shards op = cond (arguments op.kind == 0) shards 1

-- the first of them, less one
abbrev pub place : ℕ → Op → ℕ
place shards op = op.table * shards + cond (arguments op.kind == 0) 0 (shard_of shards op.key)
