-- One operation with key and value in one variable, against another: whether they commute for each
-- value follows from 0 and 1.
use Rattle.std.proofs.Common.{◌≡◌, pos, Bool, true, false, not, ◌||◌, refl, sym, ◌∙◌}
use Rattle.std.specs.Prelude.{nat_lt}
use Rattle.session_values.specs.declared.kind.Kind.{Kind}
use Rattle.session_values.specs.declared.kind.Kind.TheVariants.{Get, Put, Swap, Del, Size, Bump, Has, Add, Mark, Drop, Count}
use Rattle.session_values.specs.declared.value.Value.{Value}
use Rattle.session_values.specs.declared.value.Value.TheVariants.{Nil, Num, Sym}
use Rattle.session_values.specs.Kinds.{arguments}
use Rattle.session_values.specs.Values.{value_eq}
use Rattle.session_values.proofs.Equal.{same_value, value_eq-self}
use Rattle.commute_tables.specs.Pairs.{is_idle_bump, is_listed}
use Rattle.commute_tables.specs.Relation.{is_number, is_zero}
use Rattle.commute_tables.proofs.TellingApartPairs.{zero_one}

-- operations of these kinds with these values commute on one key
abbrev pub is_pair : Kind → Value → Kind → Value → Bool
is_pair x v y w = is_idle_bump x v || is_idle_bump y w || is_listed x v y w

-- the kind has a key and a value
abbrev pub has_two : Kind → Bool
has_two kind = nat_lt 1 (arguments kind)

abbrev pub zero : Value
zero = Num (pos 0)

abbrev pub one : Value
one = Num (pos 1)

between : (p q z : Bool) → (p || z) ≡ true → (p || (q || z)) ≡ true
between true q z h = refl
between false true z h = refl
between false false z h = h

last : (p z q : Bool) → q ≡ true → ((p || false) || (z || q)) ≡ true
last true z q h = refl
last false true q h = refl
last false false q h = h

in_any_case : (p q : Bool) → ((p || q) || true) ≡ true
in_any_case true q = refl
in_any_case false true = refl
in_any_case false false = refl

-- the other one's value is no such variable
pub free_pair : (x y : Kind) (v w : Value) → has_two x ≡ true → is_pair x zero y w ≡ true → is_pair x one y w ≡ true → is_pair x v y w ≡ true
free_pair Get y v w t h k = cc
free_pair Put Get v w t h k = cc
free_pair Put Put v w t h k = absurd (zero_one (same_value zero w h ∙ sym (same_value one w k)))
free_pair Put Swap v w t h k = cc
free_pair Put Del v w t h k = cc
free_pair Put Size v w t h k = cc
free_pair Put Bump v w t h k = between (not (is_number w)) (not (is_number v)) (is_zero w) k
free_pair Put Has v w t h k = cc
free_pair Put Add v w t h k = cc
free_pair Put Mark v w t h k = cc
free_pair Put Drop v w t h k = cc
free_pair Put Count v w t h k = cc
free_pair Swap Get v w t h k = cc
free_pair Swap Put v w t h k = cc
free_pair Swap Swap v w t h k = cc
free_pair Swap Del v w t h k = cc
free_pair Swap Size v w t h k = cc
free_pair Swap Bump v w t h k = h
free_pair Swap Has v w t h k = cc
free_pair Swap Add v w t h k = cc
free_pair Swap Mark v w t h k = cc
free_pair Swap Drop v w t h k = cc
free_pair Swap Count v w t h k = cc
free_pair Del y v w t h k = cc
free_pair Size y v w t h k = cc
free_pair Bump Get v w t h k = cc
free_pair Bump Put v w t h k = last (not (is_number v)) (is_zero v) (not (is_number w)) k
free_pair Bump Swap v w t h k = cc
free_pair Bump Del v w t h k = cc
free_pair Bump Size v w t h k = cc
free_pair Bump Bump v w t h k = in_any_case (not (is_number v)) (not (is_number w))
free_pair Bump Has v w t h k = cc
free_pair Bump Add v w t h k = cc
free_pair Bump Mark v w t h k = cc
free_pair Bump Drop v w t h k = cc
free_pair Bump Count v w t h k = cc
free_pair Has y v w t h k = cc
free_pair Add y v w t h k = cc
free_pair Mark y v w t h k = cc
free_pair Drop y v w t h k = cc
free_pair Count y v w t h k = cc

-- the other one has the same value as key and value
pub tied_pair : (x y : Kind) (v : Value) → has_two x ≡ true → has_two y ≡ true → is_pair x one y one ≡ true → is_pair x v y v ≡ true
tied_pair Get y v t u k = cc
tied_pair Put Get v t u k = cc
tied_pair Put Put v t u k = value_eq-self v
tied_pair Put Swap v t u k = cc
tied_pair Put Del v t u k = cc
tied_pair Put Size v t u k = cc
tied_pair Put Bump v t u k = cc
tied_pair Put Has v t u k = cc
tied_pair Put Add v t u k = cc
tied_pair Put Mark v t u k = cc
tied_pair Put Drop v t u k = cc
tied_pair Put Count v t u k = cc
tied_pair Swap Get v t u k = cc
tied_pair Swap Put v t u k = cc
tied_pair Swap Swap v t u k = cc
tied_pair Swap Del v t u k = cc
tied_pair Swap Size v t u k = cc
tied_pair Swap Bump v t u k = cc
tied_pair Swap Has v t u k = cc
tied_pair Swap Add v t u k = cc
tied_pair Swap Mark v t u k = cc
tied_pair Swap Drop v t u k = cc
tied_pair Swap Count v t u k = cc
tied_pair Del y v t u k = cc
tied_pair Size y v t u k = cc
tied_pair Bump Get v t u k = cc
tied_pair Bump Put v t u k = cc
tied_pair Bump Swap v t u k = cc
tied_pair Bump Del v t u k = cc
tied_pair Bump Size v t u k = cc
tied_pair Bump Bump v t u k = in_any_case (not (is_number v)) (not (is_number v))
tied_pair Bump Has v t u k = cc
tied_pair Bump Add v t u k = cc
tied_pair Bump Mark v t u k = cc
tied_pair Bump Drop v t u k = cc
tied_pair Bump Count v t u k = cc
tied_pair Has y v t u k = cc
tied_pair Add y v t u k = cc
tied_pair Mark y v t u k = cc
tied_pair Drop y v t u k = cc
tied_pair Count y v t u k = cc
