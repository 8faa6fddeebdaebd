-- Values laid out as a sort and a payload, a number of 64 bits.
use Rattle.std.specs.Prelude.{◌≡◌, ℕ, ℤ, pos, negsuc, ◌<◌, ◌^◌, refl}
use Rattle.std.proofs.Common.{sym}
use Rattle.session_values.specs.declared.value.Value.{Value}
use Rattle.session_values.specs.declared.value.Value.TheVariants.{Nil, Num, Sym}
use Rattle.session_values.specs.declared.sort.Sort.{Sort}
use Rattle.session_values.specs.declared.sort.Sort.TheVariants as sort

-- the place that a payload of a symbol is
abbrev pub place_in : ℤ → ℕ
place_in (pos p) = p
place_in (negsuc n) = 0

-- the value of this sort with this payload
abbrev pub value_of : Sort → ℤ → Value
value_of sort.Nil n = Nil
value_of sort.Num n = Num n
value_of sort.Sym n = Sym (place_in n)

-- its sort
abbrev pub sort_of : Value → Sort
sort_of Nil = sort.Nil
sort_of (Num n) = sort.Num
sort_of (Sym p) = sort.Sym

-- its payload
abbrev pub payload_of : Value → ℤ
payload_of Nil = pos 0
payload_of (Num n) = n
payload_of (Sym p) = pos p

-- the payload is the one of a value of this sort: 0 for nil, a place from 0 to 2^32 - 1 for a
-- symbol
abbrev pub IsPayload : Sort → ℤ → Type 0
IsPayload sort.Nil n = n ≡ pos 0
IsPayload sort.Num n = Unit {0}
IsPayload sort.Sym (pos p) = p < 2 ^ 32
IsPayload sort.Sym (negsuc n) = ⊥

-- the sort is that of the value that it makes
pub sort_back : (s : Sort) (n : ℤ) → sort_of (value_of s n) ≡ s
sort_back sort.Nil n = refl
sort_back sort.Num n = refl
sort_back sort.Sym n = refl

-- the payload is that of the value that it makes
pub payload_back : (s : Sort) (n : ℤ) → IsPayload s n → payload_of (value_of s n) ≡ n
payload_back sort.Nil n h = sym h
payload_back sort.Num n h = refl
payload_back sort.Sym (pos p) h = refl
payload_back sort.Sym (negsuc p) h = absurd h

-- a value is made again of its sort and its payload
pub value_back : (v : Value) (s : Sort) (n : ℤ) → s ≡ sort_of v → n ≡ payload_of v
    → value_of s n ≡ v
value_back Nil s n e f = cc
value_back (Num m) s n e f = cc
value_back (Sym p) s n e f = cc
