-- The limits of the language, and how a word over one is refused.
use Rattle.std.specs.Prelude.{ℕ, Bool, true, false, Option, Some, None}
use Rattle.syntax_grammar.specs.declared.refusals.SyntaxRefusal.{SyntaxRefusal}
use Rattle.syntax_grammar.specs.declared.refusals.SyntaxRefusal.TheVariants.{NumberTooLarge, TooDeep}

-- a literal's number, or how often a repeat runs; blocks in blocks; groups in groups; the operators
-- of an expression
pub data Limit : Type 0 where
  number_size : Limit
  block_depth : Limit
  open_parentheses : Limit
  operator_signs : Limit

-- the largest number, and the largest behind a literal's minus
abbrev pub max_number : ℕ
max_number = 9223372036854775807

abbrev pub max_negative : ℕ
max_negative = 9223372036854775808

abbrev pub limit_refusal : Limit → ℕ → SyntaxRefusal
limit_refusal number_size at = NumberTooLarge at
limit_refusal _ at = TooDeep at

-- the limit, where the test says that it is broken
abbrev pub where_over : Limit → Bool → Option Limit
where_over l true = Some l
where_over l false = None
