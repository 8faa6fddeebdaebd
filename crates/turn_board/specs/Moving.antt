-- Values on their way between their slots and the hands. Only this crate's own functions cite it.
use Rattle.std.specs.Prelude.{◌≡◌, ℕ, ◌<◌, ◌≤◌, List, ◌++◌, length, map, Option, Some, None}
use Rattle.std.specs.Int.{bit_at}
use Rattle.turn_steps.specs.declared.view.Place.TheVariants.{Vacant, Lies}
use Rattle.turn_steps.specs.Tied.{place}
use Rattle.turn_steps.specs.Maps.{bits_of}
use Rattle.turn_board.specs.Hands.{in_hands, Once}
use Rattle.turn_steps.specs.Passes.{Token}

-- the values of the turns of a set below n were moved out, and nothing else changed
pub record Emptied {V C : Type 0} (set n : ℕ) (p q : Token V C) : Type 0 where
  pub table : q.table_id ≡ p.table_id
  pub id : q.id ≡ p.id
  pub none : q.me.1 ≡ p.me.1
  pub speaks : q.me.0.speaks ≡ p.me.0.speaks
  pub counts : q.me.0.counts ≡ p.me.0.counts
  pub lost : q.me.0.lost ≡ p.me.0.lost
  pub given : q.me.0.given ≡ p.me.0.given
  pub caller_count : q.me.0.caller_count ≡ p.me.0.caller_count
  pub asks : q.me.0.asks ≡ p.me.0.asks
  pub givings : q.me.0.givings ≡ p.me.0.givings
  pub change : q.me.0.change ≡ p.me.0.change
  pub long : length q.me.0.places ≡ length p.me.0.places
  pub out : (u : ℕ) → u < n → bit_at set u ≡ 1 → place q.me.0 u ≡ Vacant
  pub later : (u : ℕ) → n ≤ u → place q.me.0 u ≡ place p.me.0 u
  pub others : (u : ℕ) → bit_at set u ≡ 0 → place q.me.0 u ≡ place p.me.0 u

-- the values of the turns of a set below n were added, in rising order, with the contents that
-- count
pub record TakenOut {V C : Type 0} (content : V → C) (set n : ℕ) (counts : ℕ → Option C)
    (before after : List (ℕ × V)) : Type 0 where
  pub new : List (ℕ × V)
  pub added : after ≡ before ++ new
  pub rising : map (λ (x : ℕ × V). x.0) new ≡ bits_of set n
  pub once : Once content new
  pub here : (u : ℕ) → u < n → bit_at set u ≡ 1
      → (c : C) × (counts u ≡ Some c) × (in_hands content new u ≡ Some c)
  pub others : (u : ℕ) → bit_at set u ≡ 0 → in_hands content new u ≡ None
  pub later : (u : ℕ) → n ≤ u → in_hands content new u ≡ None

-- the values of the hands were moved into their slots, and the set has their turns
pub record Filled {V C : Type 0} (content : V → C) (xs : List (ℕ × V)) (set : ℕ)
    (p q : Token V C) : Type 0 where
  pub table : q.table_id ≡ p.table_id
  pub id : q.id ≡ p.id
  pub none : q.me.1 ≡ p.me.1
  pub speaks : q.me.0.speaks ≡ p.me.0.speaks
  pub counts : q.me.0.counts ≡ p.me.0.counts
  pub lost : q.me.0.lost ≡ p.me.0.lost
  pub given : q.me.0.given ≡ p.me.0.given
  pub caller_count : q.me.0.caller_count ≡ p.me.0.caller_count
  pub asks : q.me.0.asks ≡ p.me.0.asks
  pub givings : q.me.0.givings ≡ p.me.0.givings
  pub change : q.me.0.change ≡ p.me.0.change
  pub long : length q.me.0.places ≡ length p.me.0.places
  pub there : (u : ℕ) → bit_at set u ≡ 1 → (c : C) × (in_hands content xs u ≡ Some c)
      × (place q.me.0 u ≡ Lies c)
  pub others : (u : ℕ) → bit_at set u ≡ 0 → (in_hands content xs u ≡ None)
      × (place q.me.0 u ≡ place p.me.0 u)
