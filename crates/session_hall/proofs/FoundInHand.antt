-- All turns of an operation are found in hand.
use Rattle.std.proofs.Common.{◌≡◌, ℕ, suc, ◌+◌, ◌*◌, ◌<◌, ◌≤◌, List, inl, inr, Option, Some, None, IfSome, IsSomeAnd, pos, refl, sym, ◌∙◌, ap, subst, arith}
use Rattle.std.specs.Prelude.{slice_get, slice_set}
use Rattle.std.proofs.lemmas.Bool.{cases_eq}
use Rattle.std.proofs.lemmas.Nat.Bits.{bit_at-zero}
use Rattle.session_values.specs.declared.op.Op.{Op}
use Rattle.session_values.specs.declared.value.Value.{Value}
use Rattle.session_values.specs.declared.value.Value.TheVariants.{Num}
use Rattle.session_values.specs.Kinds.{arguments}
use Rattle.session_values.specs.Sums.{sum_below}
use Rattle.session_values.proofs.Numbers.{one_zero}
use Rattle.turn_board.specs.Hands.{IsPlaceOf, in_hands, turn_at}
use Rattle.hall_rule.specs.declared.held.Held.{Held}
use Rattle.hall_rule.specs.Contents.{Content}
use Rattle.hall_rule.specs.Shards.{content_of}
use Rattle.session_hall.specs.declared.on_shards.Found.{Found}
use Rattle.session_hall.specs.declared.on_shards.Found.TheVariants.{Place, Keys}
use Rattle.session_hall.specs.OnShards.{AreHere, CanWorkFound, CanWorkHere, HasWorkedFound, HasWorkedIn, IsFound, IsMissing, LacksTurn, keys_of, keys_of_row}
use Rattle.session_hall.specs.Working.{CanDo, WorkedTo}
use Rattle.session_hall.proofs.Pairs.{none_in, some_in}
use Rattle.session_hall.proofs.ShardsByTurn.{can_here, worked_here}

module _ {S : Type 0} (xs : List (ℕ × Held S)) where
  -- what is so of the content of a turn in hand is so of one that is found there
  pub found_there : (turn i : ℕ) → IsPlaceOf xs turn (Some i) → (P : Content S → Type 0) → IfSome (in_hands (content_of {S = S}) xs turn) P → IsSomeAnd (in_hands (content_of {S = S}) xs turn) P
  found_there turn i p P = go (in_hands (content_of {S = S}) xs turn) refl
    where
      go : (o : Option (Content S)) → in_hands content_of xs turn ≡ o → IfSome o P → IsSomeAnd o P
      go None e k = absurd (some_in xs i turn p.0 p.1 p.2 e)
      go (Some x) e k = k

  -- no turn is in a set of none
  pub nothing_missing : (first many : ℕ) → AreHere xs first many → IsMissing xs first (first + many) 0
  nothing_missing first many here = record {
    each = λ u e. absurd (one_zero (sym e ∙ bit_at-zero u));
    rest = λ u from below e none. here u from below none;
  }

  module _ (op : Op) (first many : ℕ) where
    -- a shard that is found isn't missing
    pub all_here : (0 < arguments op.kind → many ≡ 1) → (f : Found) → IsFound op first many xs (Some f) → AreHere xs first many
    all_here one (Place i) h u from below e =
        let same : u ≡ first = omega (arith, from, below, one h.0) in
        some_in xs i first h.1.0 h.1.1 h.1.2 (ap (in_hands (content_of {S = S}) xs) (sym same) ∙ e)
    all_here one (Keys n) h u from below e = h.1.0 u from below e

    -- the operation may be done on what was found
    pub can_work_found : (f : Found) → IsFound op first many xs (Some f) → CanWorkHere op first many xs → CanWorkFound op xs f
    can_work_found (Place i) h can = (can.once, (first, h.1, found_there first i h.1 (λ x. CanDo op x) (can.each first (omega arith) (omega (arith, can.some)))))
    can_work_found (Keys n) h can = omega (arith, h.1.2, can.turns)

    -- what was done there is what is done on the row
    pub worked_found : (f : Found) → IsFound op first many xs (Some f) → (ys : List (ℕ × Held S)) (v : Value) → HasWorkedFound op xs ys f v → HasWorkedIn op first many xs ys v
    worked_found (Place i) h ys v w = (λ none. absurd (omega (arith, h.0, none)), λ key. w first h.1)
    worked_found (Keys n) h ys v w = (λ none. (w.0, w.1 ∙ ap (λ (a : ℕ). Num (pos a)) h.1.1), λ key. absurd (omega (arith, h.0, key)))

    -- nothing is found if its one turn isn't in hand
    pub lacks_first : 0 < arguments op.kind → IsPlaceOf xs first None → IsFound op first many xs None
    lacks_first key p = (λ none. absurd (omega (arith, none, key)), λ k. none_in xs first p)

  -- ---- one turn of a row after another
  -- a turn of the row that stands nowhere is one that is missing
  pub lacks : (first i many : ℕ) → i < many → IsPlaceOf xs (first + i) None → LacksTurn xs first many
  lacks first i many l p = record { turn = first + i; from = omega arith; below = omega (arith, l); none = none_in xs (first + i) p }

  -- one more turn is in hand, and its keys are counted
  pub counts_more : (first i at n count : ℕ) → IsPlaceOf xs (first + i) (Some at) → AreHere xs first i × (count ≡ sum_below i (keys_of_row xs first)) × (count ≤ i * 4294967295) → n ≡ keys_of_row xs (first + i) 0 → n ≤ 4294967295
      → AreHere xs first (i + 1) × (count + n ≡ sum_below (i + 1) (keys_of_row xs first)) × (count + n ≤ (i + 1) * 4294967295)
  counts_more first i at n count p k keys few = (here, ap (λ (a : ℕ). a + n) k.1 ∙ ap (λ (a : ℕ). sum_below i (keys_of_row xs first) + a) is ∙ ap (λ (a : ℕ). sum_below a (keys_of_row xs first)) more, omega (arith, k.2, few))
    where
      more : suc i ≡ i + 1
      more = omega arith

      is : n ≡ keys_of_row xs first i
      is = let z : first + i + 0 ≡ first + i = omega arith in keys ∙ ap (λ (u : ℕ). keys_of (in_hands (content_of {S = S}) xs u)) z

      here : AreHere xs first (i + 1)
      here u from below e = elim (cases_eq u (first + i)) [
        | inl same ↦ some_in xs at (first + i) p.0 p.1 p.2 (ap (in_hands (content_of {S = S}) xs) (sym same) ∙ e)
        | inr other ↦ k.0 u from (omega (arith, below, other)) e
      ]

  -- ---- the operation on the shard that was found
  module _ (op : Op) (f : Found) (i : ℕ) (is : f ≡ Place i) (can : CanWorkFound op xs f) where
    place_can : CanWorkFound op xs (Place i)
    place_can = let P : Found → Type 0 = λ x. CanWorkFound op xs x in subst P is can

    pub can_place : (v : Held S) → slice_get xs i ≡ Some (turn_at xs i, v) → CanDo op (content_of v)
    can_place v e = can_here xs place_can.0 place_can.1.0 i place_can.1.1 op v e place_can.1.2

    pub worked_place : (v w : Held S) (answer : Value) → slice_get xs i ≡ Some (turn_at xs i, v) → WorkedTo op (content_of v) (content_of w) answer → HasWorkedFound op xs (slice_set xs i (turn_at xs i, w)) f answer
    worked_place v w answer e worked =
        let Q : Found → Type 0 = λ x. HasWorkedFound op xs (slice_set xs i (turn_at xs i, w)) x answer in
        subst Q (sym is) (λ turn p. worked_here xs place_can.0 turn i p op v w answer e worked)
