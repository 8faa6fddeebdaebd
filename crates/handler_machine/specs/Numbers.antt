-- Values as numbers. Only this crate's own functions cite it.
use Rattle.std.specs.Prelude.{ℤ, Option, Some, None}
use Rattle.session_values.specs.declared.value.Value.{Value}
use Rattle.session_values.specs.declared.value.Value.TheVariants.{Nil, Num, Sym}

-- a number, or nil where there is none
abbrev pub number_or_nil : Option ℤ → Value
number_or_nil None = Nil
number_or_nil (Some n) = Num n

-- the number that a value is, and none where it is another value
abbrev pub number_of : Value → Option ℤ
number_of Nil = None
number_of (Num n) = Some n
number_of (Sym s) = None
