-- Calculations see of a value only the number that it is.
use Rattle.std.proofs.Common.{◌≡◌, ℕ, ◌+◌, ℤ, Option, Some, None, refl, sym, ap, ◌∙◌}
use Rattle.session_values.specs.declared.value.Value.{Value}
use Rattle.session_values.specs.declared.value.Value.TheVariants.{Nil, Num, Sym}
use Rattle.syntax_trees.specs.declared.expr.Calc.{Calc}
use Rattle.syntax_trees.specs.declared.expr.Calc.TheVariants.{Plus, Minus, Times}
use Rattle.syntax_trees.specs.declared.stmt.Compare.TheVariants.{Less, LessOrSame}
use Rattle.check_meaning.specs.Code.{Term, Atom, Calculate}
use Rattle.check_meaning.specs.Dialogue.{calculated, compared}
use Rattle.handler_machine.specs.Numbers.{number_of, number_or_nil}

pub number_back : (n : Option ℤ) → number_of (number_or_nil n) ≡ n
number_back None = refl
number_back (Some n) = refl

-- where a value is this number or nil, the number is what the value is
pub number_is : (n : Option ℤ) (v : Value) → number_or_nil n ≡ v → n ≡ number_of v
number_is n v is = sym (number_back n) ∙ ap number_of is

pub sees_numbers : (calc : Calc) (v w : Value) → calculated calc (number_or_nil (number_of v)) (number_or_nil (number_of w)) ≡ calculated calc v w
sees_numbers Plus Nil w = refl
sees_numbers Plus (Sym s) w = refl
sees_numbers Plus (Num a) Nil = refl
sees_numbers Plus (Num a) (Num b) = refl
sees_numbers Plus (Num a) (Sym t) = refl
sees_numbers Minus Nil w = refl
sees_numbers Minus (Sym s) w = refl
sees_numbers Minus (Num a) Nil = refl
sees_numbers Minus (Num a) (Num b) = refl
sees_numbers Minus (Num a) (Sym t) = refl
sees_numbers Times Nil w = refl
sees_numbers Times (Sym s) w = refl
sees_numbers Times (Num a) Nil = refl
sees_numbers Times (Num a) (Num b) = refl
sees_numbers Times (Num a) (Sym t) = refl

-- what orders numbers sees no more
pub less_sees_numbers : (v w : Value) → compared Less (number_or_nil (number_of v)) (number_or_nil (number_of w)) ≡ compared Less v w
less_sees_numbers Nil w = refl
less_sees_numbers (Sym s) w = refl
less_sees_numbers (Num a) Nil = refl
less_sees_numbers (Num a) (Num b) = refl
less_sees_numbers (Num a) (Sym t) = refl

pub at_most_sees_numbers : (v w : Value) → compared LessOrSame (number_or_nil (number_of v)) (number_or_nil (number_of w)) ≡ compared LessOrSame v w
at_most_sees_numbers Nil w = refl
at_most_sees_numbers (Sym s) w = refl
at_most_sees_numbers (Num a) Nil = refl
at_most_sees_numbers (Num a) (Num b) = refl
at_most_sees_numbers (Num a) (Sym t) = refl

-- the size of a term, which falls at each call
abbrev pub term_size : Term → ℕ
term_size (Atom a) = 0
term_size (Calculate calc l r) = 1 + term_size l + term_size r
