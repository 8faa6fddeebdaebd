-- Arguments laid out as a sort and a payload, a number of 64 bits.
use Rattle.std.specs.Prelude.{◌≡◌, ℤ, pos, negsuc, ◌<◌, ◌^◌, refl}
use Rattle.std.proofs.Common.{sym}
use Rattle.session_values.specs.declared.value.Value.TheVariants.{Nil, Num, Sym}
use Rattle.session_values.specs.Sorts.{place_in}
use Rattle.symbolic_ops.specs.declared.arg.Arg.{Arg}
use Rattle.symbolic_ops.specs.declared.arg.Arg.TheVariants.{Known, Var, Any}
use Rattle.symbolic_ops.specs.declared.arg_sort.ArgSort.{ArgSort}
use Rattle.symbolic_ops.specs.declared.arg_sort.ArgSort.TheVariants as sort

-- the argument of this sort with this payload
abbrev pub arg_of : ArgSort → ℤ → Arg
arg_of sort.Nil n = Known Nil
arg_of sort.Num n = Known (Num n)
arg_of sort.Sym n = Known (Sym (place_in n))
arg_of sort.Var n = Var (place_in n)
arg_of sort.Any n = Any

-- its sort
abbrev pub arg_sort_of : Arg → ArgSort
arg_sort_of (Known Nil) = sort.Nil
arg_sort_of (Known (Num n)) = sort.Num
arg_sort_of (Known (Sym p)) = sort.Sym
arg_sort_of (Var x) = sort.Var
arg_sort_of Any = sort.Any

-- its payload
abbrev pub arg_payload_of : Arg → ℤ
arg_payload_of (Known Nil) = pos 0
arg_payload_of (Known (Num n)) = n
arg_payload_of (Known (Sym p)) = pos p
arg_payload_of (Var x) = pos x
arg_payload_of Any = pos 0

-- the payload is the one of an argument of this sort: 0 for nil and for any, a number from 0 to
-- 2^32 - 1 for a symbol and for a variable
abbrev pub IsArgPayload : ArgSort → ℤ → Type 0
IsArgPayload sort.Nil n = n ≡ pos 0
IsArgPayload sort.Num n = Unit {0}
IsArgPayload sort.Sym (pos p) = p < 2 ^ 32
IsArgPayload sort.Sym (negsuc n) = ⊥
IsArgPayload sort.Var (pos x) = x < 2 ^ 32
IsArgPayload sort.Var (negsuc n) = ⊥
IsArgPayload sort.Any n = n ≡ pos 0

-- the sort is that of the argument that it makes
pub arg_sort_back : (s : ArgSort) (n : ℤ) → arg_sort_of (arg_of s n) ≡ s
arg_sort_back sort.Nil n = refl
arg_sort_back sort.Num n = refl
arg_sort_back sort.Sym n = refl
arg_sort_back sort.Var n = refl
arg_sort_back sort.Any n = refl

-- the payload is that of the argument that it makes
pub arg_payload_back : (s : ArgSort) (n : ℤ) → IsArgPayload s n → arg_payload_of (arg_of s n) ≡ n
arg_payload_back sort.Nil n h = sym h
arg_payload_back sort.Num n h = refl
arg_payload_back sort.Sym (pos p) h = refl
arg_payload_back sort.Sym (negsuc p) h = absurd h
arg_payload_back sort.Var (pos x) h = refl
arg_payload_back sort.Var (negsuc x) h = absurd h
arg_payload_back sort.Any n h = sym h

-- an argument is made again of its sort and its payload
pub arg_back : (a : Arg) (s : ArgSort) (n : ℤ) → s ≡ arg_sort_of a → n ≡ arg_payload_of a
    → arg_of s n ≡ a
arg_back (Known Nil) s n e f = cc
arg_back (Known (Num m)) s n e f = cc
arg_back (Known (Sym p)) s n e f = cc
arg_back (Var x) s n e f = cc
arg_back Any s n e f = cc
