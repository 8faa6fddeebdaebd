-- Where the keys of a list stand in a table of slots.
use Rattle.std.specs.Prelude.{◌≡◌, ◌≢◌, ℕ, pos, negsuc, ◌+◌, ◌-◌, ◌*◌, ◌/◌, ◌%◌, ◌^◌, ◌<◌, ◌≤◌, ◌==◌, bit_xor, min, List, length, slice_index, slice_index_or, sum_by, nat_le, if◌then◌else◌, Option, Some, None}
use Rattle.session_values.specs.declared.value.Value.{Value}
use Rattle.session_values.specs.declared.value.Value.TheVariants.{Nil, Num, Sym}

-- the number that a key is spread by
abbrev pub number_of : Value → ℕ
number_of Nil = 0
number_of (Num (pos n)) = n % 2 ^ 64
number_of (Num (negsuc n)) = 2 ^ 64 - 1 - n % 2 ^ 64
number_of (Sym place) = place + 2 ^ 63

-- the odd number that stands for a seed, by which keys are spread
abbrev pub factor_of : ℕ → ℕ
factor_of seed = ((2 * (seed * 11400714819323198485) + 1) * 11400714819323198485) % 2 ^ 64

-- the exclusive or of a number with its bits from k up
abbrev pub folded : ℕ → ℕ → ℕ
folded k n = bit_xor n (n / 2 ^ k)

-- a number of 64 bits mixed under a factor: the finaliser of the generator SplitMix64, in David
-- Stafford's variant 13, but for its last step, which changes none of the upper 31 bits
abbrev pub mixed : ℕ → ℕ → ℕ
mixed factor n =
    folded 27 (folded 30 (bit_xor n factor) * 0xbf58476d1ce4e5b9 % 2 ^ 64)
    * 0x94d049bb133111eb % 2 ^ 64

-- a number of 64 bits spread by a factor: times that of seed 0, mixed under any other
abbrev pub spread : ℕ → ℕ → ℕ
spread factor n = if factor == factor_of 0 then n * factor % 2 ^ 64 else mixed factor n

-- the slot among 2 ^ bits at which the search for a key begins where keys are spread by a factor
unfoldable pub start_by : ℕ → Value → ℕ → ℕ
start_by factor key bits = spread factor (number_of key) / 2 ^ (64 - bits)

-- the same where the seed is 0, which spreads keys by 11400714819323198485
unfoldable pub start_of : Value → ℕ → ℕ
start_of key bits = number_of key * 11400714819323198485 % 2 ^ 64 / 2 ^ (64 - bits)

-- how far slot s is past slot h, where the first of m slots follows the last
unfoldable pub distance : ℕ → ℕ → ℕ → ℕ
distance m h s = if nat_le h s then s - h else s + m - h

-- the slot after s
unfoldable pub after : ℕ → ℕ → ℕ
after m s = if s + 1 == m then 0 else s + 1

-- the place that a slot holds: what stands in the slot is one more, or 0 where it is free
abbrev pub place_in : ℕ → Option ℕ
place_in x = if x == 0 then None else Some (x - 1)

-- where the search begins for the key whose place, and one more, is x
abbrev pub start_in : ℕ → ℕ → List Value → ℕ → ℕ
start_in factor bits keys x = start_by factor (slice_index_or keys (x - 1) Nil) bits

-- each slot is free or holds one of the places below n, and each of these stands in one slot
pub record HoldsPlaces (m n : ℕ) (slots : List ℕ) : Type 0 where
  pub long : length slots ≡ m
  pub taken : sum_by (λ x. min x 1) slots ≡ n
  pub few : (s : ℕ) → slice_index slots s ≤ n
  pub once : (s t : ℕ) → 0 < slice_index slots s → slice_index slots s ≡ slice_index slots t → s ≡ t
  pub there : (p : ℕ) → p < n → (s : ℕ) × (slice_index slots s ≡ p + 1)

-- a search that begins at slot h comes to slot s before it comes to a free slot
abbrev pub IsReached : (m h : ℕ) → List ℕ → ℕ → Type 0
IsReached m h slots s =
    (t : ℕ) → t < m → distance m h t < distance m h s → 0 < slice_index slots t

-- the slots hold the places of these keys, and the search for each key comes to its slot
pub record IsIndex (factor bits : ℕ) (keys : List Value) (slots : List ℕ) : Type 0 where
  pub places : HoldsPlaces (2 ^ bits) (length keys) slots
  pub reached : (s : ℕ) → 0 < slice_index slots s
      → IsReached (2 ^ bits) (start_in factor bits keys (slice_index slots s)) slots s

-- the same but for one slot: it holds the place past the last key's, and no more is asked of it
pub record IsIndexBut (factor bits : ℕ) (keys : List Value) (slots : List ℕ) (hole : ℕ) : Type 0
  where
    pub places : HoldsPlaces (2 ^ bits) (length keys + 1) slots
    pub last : slice_index slots hole ≡ length keys + 1
    pub reached : (s : ℕ) → s ≢ hole → 0 < slice_index slots s
        → IsReached (2 ^ bits) (start_in factor bits keys (slice_index slots s)) slots s

-- an index as contracts see it: 2 ^ bits slots, each 0 where it is free, else a place and one more,
-- and the factor that keys are spread by
pub record IndexView : Type 0 where
  pub factor : ℕ
  pub bits : ℕ
  pub slots : List ℕ

-- how many slots an index has
abbrev pub slot_count : IndexView → ℕ
slot_count index = 2 ^ index.bits

-- 2 ^ bits slots are what an index has for a list that grows to so many elements: the least power
-- of 2, from 2 on, that is at least twice as many
pub record IsSizedFor (room bits : ℕ) : Type 0 where
  pub some : 1 ≤ bits
  pub enough : 2 * room ≤ 2 ^ bits
  pub least : 1 < bits → 2 ^ (bits - 1) < 2 * room

-- the places of these keys, in their order, are what the index holds
abbrev pub IsIndexOf : List Value → IndexView → Type 0
IsIndexOf keys index = IsIndex index.factor index.bits keys index.slots

-- the search for a key looks at n slots: each but the last is taken, and the last holds this place
-- or, where there is none, is free
pub record IsSearch (index : IndexView) (key : Value) (place : Option ℕ) (n : ℕ) : Type 0 where
  pub path : (s : ℕ) → s < slot_count index
      → distance (slot_count index) (start_by index.factor key index.bits) s + 1 < n
      → 0 < slice_index index.slots s
  pub end : (s : ℕ) → s < slot_count index
      → distance (slot_count index) (start_by index.factor key index.bits) s + 1 ≡ n
      → place_in (slice_index index.slots s) ≡ place
