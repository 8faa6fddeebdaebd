-- What is done on the shards of turns in hand.
use Rattle.std.proofs.Common.{◌≡◌, ◌≢◌, ℕ, suc, ◌+◌, ◌<◌, ◌≤◌, List, inl, inr, Option, Some, None, IsSomeAnd, true, false, sym, ◌∙◌, ap, subst, arith}
use Rattle.std.specs.Prelude.{slice_get, slice_set}
use Rattle.std.specs.Option.{is_some}
use Rattle.std.specs.Int.{bit_at}
use Rattle.std.proofs.lemmas.Bool.{cases_eq}
use Rattle.std.proofs.lemmas.Option.{same_Some}
use Rattle.session_values.specs.Sums.{sum_below}
use Rattle.session_values.proofs.Sums.{sum_below_up}
use Rattle.session_values.proofs.Numbers.{one_zero}
use Rattle.session_values.specs.declared.op.Op.{Op}
use Rattle.session_values.specs.declared.value.Value.{Value}
use Rattle.turn_board.specs.Hands.{IsPlaceOf, Once, in_hands, turn_at}
use Rattle.hall_rule.specs.declared.held.Held.{Held}
use Rattle.hall_rule.specs.Contents.{Content}
use Rattle.hall_rule.specs.Shards.{content_of}
use Rattle.session_hall.specs.OnShards.{IsMissing, WorkedUnder, keys_of, keys_of_row}
use Rattle.session_hall.specs.Working.{CanDo, HasKeysAt, HasShardAt, IsAnyShard, WorkedTo}
use Rattle.session_hall.proofs.Pairs.{at_in, in_set_other, in_set_same, none_in, once_set, some_in}

module _ {S : Type 0} (xs : List (ℕ × Held S)) where
  -- ---- the turn's place was found
  module _ (o : Once (content_of {S = S}) xs) (turn i : ℕ) (p : IsPlaceOf xs turn (Some i)) where
    found_at : in_hands (content_of {S = S}) xs turn ≡ Some (content_of p.0.1)
    found_at = ap (in_hands (content_of {S = S}) xs) (sym p.2) ∙ at_in xs o i p.0 p.1

    value_is : (x : ℕ × Held S) → slice_get xs i ≡ Some x → in_hands (content_of {S = S}) xs turn ≡ Some (content_of x.1)
    value_is x e = found_at ∙ ap (λ (z : ℕ × Held S). Some (content_of z.1)) (same_Some p.0 x (sym p.1 ∙ e))

    pub can_here : (op : Op) (v : Held S) → slice_get xs i ≡ Some (turn_at xs i, v) → IsSomeAnd (in_hands (content_of {S = S}) xs turn) (λ y. CanDo op y) → CanDo op (content_of v)
    can_here op v e can = let P : Option (Content S) → Type 0 = λ k. IsSomeAnd k (λ y. CanDo op y) in subst P (value_is (turn_at xs i, v) e) can

    pub counts_here : IsSomeAnd (in_hands (content_of {S = S}) xs turn) (λ y. IsAnyShard y) → HasShardAt i xs
    counts_here can x e = let P : Option (Content S) → Type 0 = λ k. IsSomeAnd k (λ y. IsAnyShard y) in subst P (value_is x e) can

    pub keys_here : (n : ℕ) → HasKeysAt i xs n → n ≡ keys_of_row xs turn 0
    keys_here n h =
        let z : turn ≡ turn + 0 = omega arith in
        h p.0 p.1 ∙ ap keys_of (sym found_at ∙ ap (in_hands (content_of {S = S}) xs) z)

    pub worked_here : (op : Op) (v w : Held S) (answer : Value) → slice_get xs i ≡ Some (turn_at xs i, v) → WorkedTo op (content_of v) (content_of w) answer → WorkedUnder op turn xs (slice_set xs i (turn_at xs i, w)) answer
    worked_here op v w answer e worked =
        let is : turn_at xs i ≡ turn = ap (λ (z : ℕ × Held S). z.0) (same_Some (turn_at xs i, v) p.0 (sym e ∙ p.1)) ∙ p.2 in
        record {
          old = content_of v;
          new = content_of w;
          was = value_is (turn_at xs i, v) e;
          is = ap (in_hands (content_of {S = S}) (slice_set xs i (turn_at xs i, w))) (sym is) ∙ in_set_same xs o i (turn_at xs i, v) w e;
          worked = worked;
          others = λ u n. in_set_other xs i (turn_at xs i, v) w e u (λ z. n (z ∙ is));
          once = once_set xs o i (turn_at xs i, v) w e;
        }

  -- ---- the turn isn't in hand
  pub not_in : (turn : ℕ) → IsPlaceOf xs turn None → (P : Option (Content S) → Type 0) → P (in_hands (content_of {S = S}) xs turn) → P None
  not_in turn h P x = subst P (none_in xs turn h) x

  -- ---- the turns that aren't in hand
  module _ (first turn set : ℕ) (k : IsMissing xs first turn set) (from : first ≤ turn) where
    one_missing : (next : ℕ) → IsPlaceOf xs turn None → bit_at next turn ≡ 1 → ((u : ℕ) → u ≢ turn → bit_at next u ≡ bit_at set u) → IsMissing xs first (turn + 1) next
    one_missing next none here others = record {
      each = λ u b. elim (cases_eq u turn) [
        | inl e ↦ (omega (arith, e, from), omega (arith, e), ap (in_hands (content_of {S = S}) xs) e ∙ none_in xs turn none)
        | inr n ↦ (let z : (first ≤ u) × (u < turn) × (in_hands (content_of {S = S}) xs u ≡ None) = k.each u (sym (others u n) ∙ b) in (z.0, omega (arith, z.1), z.2))
      ];
      rest = λ u low below b. elim (cases_eq u turn) [
        | inl e ↦ absurd (one_zero (sym here ∙ ap (bit_at next) (sym e) ∙ b))
        | inr n ↦ k.rest u low (omega (arith, below, n)) (sym (others u n) ∙ b)
      ];
    }

    one_there : (i : ℕ) → IsPlaceOf xs turn (Some i) → IsMissing xs first (turn + 1) set
    one_there i p = record {
      each = λ u b. (let z : (first ≤ u) × (u < turn) × (in_hands (content_of {S = S}) xs u ≡ None) = k.each u b in (z.0, omega (arith, z.1), z.2));
      rest = λ u low below b. elim (cases_eq u turn) [
        | inl e ↦ λ n. some_in xs i turn p.0 p.1 p.2 (ap (in_hands (content_of {S = S}) xs) (sym e) ∙ n)
        | inr n ↦ k.rest u low (omega (arith, below, n)) b
      ];
    }

  -- by whether the place was found
  pub missing_then : (first turn set next : ℕ) → IsMissing xs first turn set → first ≤ turn → (r : Option ℕ) → IsPlaceOf xs turn r → is_some r ≡ false → bit_at next turn ≡ 1 → ((u : ℕ) → u ≢ turn → bit_at next u ≡ bit_at set u) → IsMissing xs first (turn + 1) next
  missing_then first turn set next k from None p e here others = one_missing first turn set k from next p here others
  missing_then first turn set next k from (Some i) p e here others = absurd (true_false e)
    where
      true_false : true ≡ false → ⊥
      true_false z = cc

  pub missing_else : (first turn set : ℕ) → IsMissing xs first turn set → first ≤ turn → (r : Option ℕ) → IsPlaceOf xs turn r → is_some r ≡ true → IsMissing xs first (turn + 1) set
  missing_else first turn set k from None p e = absurd (false_true e)
    where
      false_true : false ≡ true → ⊥
      false_true z = cc
  missing_else first turn set k from (Some i) p e = one_there first turn set k from i p

-- a part of the keys is no more than all
pub part_few : {S : Type 0} (xs : List (ℕ × Held S)) (first i many count n : ℕ) → i < many → sum_below many (keys_of_row xs first) ≤ 1200000 → count ≡ sum_below i (keys_of_row xs first) → n ≡ keys_of_row xs (first + i) 0 → count + n ≤ 1200000
part_few {S} xs first i many count n l few counted more =
    let z : first + i + 0 ≡ first + i = omega arith in
    let e : n ≡ keys_of_row xs first i = more ∙ ap (λ (u : ℕ). keys_of (in_hands (content_of {S = S}) xs u)) z in
    omega (arith, sum_below_up (suc i) many (keys_of_row xs first) l, few, counted, e)
