-- Values as they are written, where symbols are texts and no longer places.
use Rattle.std.specs.Prelude.{ℕ, ℤ, List, [], codes, slice_get, unwrap_or}
use Rattle.std.specs.Cmp.Lexicographic.{slice_cmp}
use Rattle.std.specs.Fmt.{signed_decimal}
use Rattle.std.specs.Ordering.{nat_cmp, int_cmp}
use Rattle.std.specs.declared.cmp.Ordering.{Ordering}
use Rattle.std.specs.declared.cmp.Ordering.TheVariants.{Less, Equal, Greater}
use Rattle.session_values.specs.declared.value.Value.{Value}
use Rattle.session_values.specs.declared.value.Value.TheVariants.{Nil, Num, Sym}

-- a value as it is written
pub data Written : Type 0 where
  NilWord : Written
  NumberWord : ℤ → Written
  SymbolWord : List ℕ → Written

-- nil, then numbers by size, then symbols by the bytes of their texts
abbrev pub written_cmp : Written → Written → Ordering
written_cmp NilWord NilWord = Equal
written_cmp NilWord (NumberWord y) = Less
written_cmp NilWord (SymbolWord u) = Less
written_cmp (NumberWord x) NilWord = Greater
written_cmp (NumberWord x) (NumberWord y) = int_cmp x y
written_cmp (NumberWord x) (SymbolWord u) = Less
written_cmp (SymbolWord t) NilWord = Greater
written_cmp (SymbolWord t) (NumberWord y) = Greater
written_cmp (SymbolWord t) (SymbolWord u) = slice_cmp nat_cmp t u

-- the text at a place
abbrev pub text_at : List (List ℕ) → ℕ → List ℕ
text_at names place = unwrap_or (slice_get names place) []

-- what a value is written as, with the list of names
abbrev pub written : List (List ℕ) → Value → Written
written names Nil = NilWord
written names (Num n) = NumberWord n
written names (Sym place) = SymbolWord (text_at names place)

-- the word that is written: `nil`, a decimal number, or the symbol's text
abbrev pub word : Written → List ℕ
word NilWord = codes "nil"
word (NumberWord n) = signed_decimal n
word (SymbolWord t) = t
