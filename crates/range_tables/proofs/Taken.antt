-- What steps leave of a desk.
use Rattle.std.proofs.Common.{◌≡◌, ℕ, zero, suc, ℤ, ◌+◌, ◌<◌, ◌≤◌, ◌&&◌, eqb, List, [], ◌∷◌, ◌++◌, set, Some, None, inl, inr, refl, sym, ap, arith, append-nil}
use Rattle.std.specs.List.{AllByRecursion}
use Rattle.session_values.specs.declared.value.Value.{Value}
use Rattle.session_values.specs.Kinds.{is_adding}
use Rattle.session_values.specs.Tables.{Tables, Container, size_of, step, table}
use Rattle.session_values.proofs.Sizes.{one_if, step_few, one_most}
use Rattle.range_tables.specs.Shards.{MapView, ShardView, map_shard}
use Rattle.range_tables.specs.declared.range_op.RangeOp.{RangeOp}
use Rattle.range_tables.specs.declared.range_op.RangeOp.TheVariants.{Plain, Between}
use Rattle.range_tables.specs.declared.range_symbol.RangeSymbol.{RangeSymbol}
use Rattle.range_tables.specs.Ranges.{range_reply, range_step}
use Rattle.range_tables.specs.Tables.{HasRoomForRange}
use Rattle.text_lines.specs.Text.{Text}
use Rattle.range_tables.specs.declared.step.Step.TheVariants.{Hold, Free, Do}
use Rattle.range_tables.specs.Faults.{Holds, closed}
use Rattle.range_tables.specs.Ready.{IsReady, IsReadyHold}
use Rattle.range_tables.specs.Session.{IsDelayed, Passes, delay_text, reply_text}
use Rattle.range_tables.specs.Taking.{Takes, desk_of}

pub has_room : (op : RangeOp) (s : ShardView) → size_of s.container < s.room → HasRoomForRange op s
has_room (Plain op) s l = λ a b. l
has_room (Between i low high) s l = tt

first : Tables → ℕ
first ts = size_of (table ts 0)

pub size_after : (c d : Container) (op : RangeOp) → d ∷ [] ≡ range_step (c ∷ []) op → size_of d ≤ size_of c + 1
unfolding range_step
size_after c d (Plain op) e =
    let few : size_of (table (step (c ∷ []) op) 0) ≤ size_of c + one_if (is_adding op.kind && eqb op.table 0) = step_few (c ∷ []) op 0 in
    let same : size_of d ≡ size_of (table (step (c ∷ []) op) 0) = ap (λ (ts : Tables). size_of (table ts 0)) e in
    omega (arith, few, same, one_most (is_adding op.kind && eqb op.table 0))
size_after c d (Between i low high) e = let same : size_of d ≡ size_of c = ap (λ (ts : Tables). size_of (table ts 0)) e in omega (arith, same)

module _ (names : List Text) (m n : MapView) (holds : Holds) (asked : ℕ) (before after : Text) where
  pub took_done : (op : RangeOp) (reply : Value) → AllByRecursion (Passes op) holds → after ≡ before ++ reply_text names asked reply → reply ≡ range_reply ((map_shard m).container ∷ []) op → (map_shard n).container ∷ [] ≡ range_step ((map_shard m).container ∷ []) op
      → Takes names (desk_of m holds asked) (Do op) before after (desk_of n holds (asked + 1))
  took_done op reply f w r t = record {
    line = reply_text names asked reply;
    does = record { writes = (inl (record { free = f; line_is = ap (reply_text names asked) r; tables_are = t }), refl); holds = refl };
    behind = w;
  }

  pub took_kept : (op : RangeOp) (h i : ℕ) → IsDelayed op holds h i → after ≡ before ++ delay_text asked h i → Takes names (desk_of m holds asked) (Do op) before after (desk_of m holds (asked + 1))
  took_kept op h i d w = record {
    line = delay_text asked h i;
    does = record { writes = (inr (record { hold = h; symbol = i; delayed = d; line_is = refl; tables_are = refl }), refl); holds = refl };
    behind = w;
  }

  pub took_hold : (symbols : List RangeSymbol) (next : Holds) → next ≡ holds ++ Some symbols ∷ [] → Takes names (desk_of m holds asked) (Hold symbols) before before (desk_of m next asked)
  took_hold symbols next e = record {
    line = [];
    does = record { writes = (refl, refl, refl); holds = e };
    behind = sym (append-nil before);
  }

  pub took_free : (k : ℤ) (next : Holds) → next ≡ closed holds k → Takes names (desk_of m holds asked) (Free k) before before (desk_of m next asked)
  took_free k next e = record {
    line = [];
    does = record { writes = (refl, refl, refl); holds = e };
    behind = sym (append-nil before);
  }

-- ---- holds stay ready
pub ready_set : (holds : Holds) (i : ℕ) → AllByRecursion IsReadyHold holds → AllByRecursion IsReadyHold (set holds i None)
ready_set [] i a = tt
ready_set (x ∷ xs) zero a = (tt, a.1)
ready_set (x ∷ xs) (suc i) a = (a.0, ready_set xs i a.1)

pub ready_more : (holds : Holds) (symbols : List RangeSymbol) → AllByRecursion IsReadyHold holds → AllByRecursion IsReady symbols → AllByRecursion IsReadyHold (holds ++ Some symbols ∷ [])
ready_more [] symbols a b = (b, tt)
ready_more (x ∷ xs) symbols a b = (a.0, ready_more xs symbols a.1 b)
