-- Where parentheses stand in the text of an expression.
use Rattle.std.specs.Prelude.{ℕ, Bool, true, false, List, ◌++◌, Option, Some, None, is_some, codes}
use Rattle.syntax_trees.specs.declared.expr.Calc.{Calc}
use Rattle.syntax_trees.specs.declared.expr.Calc.TheVariants as calc
use Rattle.syntax_trees.specs.declared.expr.Expr.{Expr, fold-Expr}
use Rattle.syntax_trees.specs.declared.expr.Expr.TheOpen.{Expr-F}
use Rattle.syntax_printer.specs.Canonical.{whole_text, operator_text}
use Rattle.syntax_printer.specs.Writing.{Text}

abbrev pub operator_step : Expr-F (Option Calc) → Option Calc
operator_step (Expr-F.Lit v) = None
operator_step (Expr-F.Name n p) = None
operator_step (Expr-F.Binary c sides) = Some c

-- the operator of an expression, if it has one
abbrev pub operator_of : Expr → Option Calc
operator_of = fold-Expr (Option Calc) operator_step

-- a sum or a difference
abbrev pub is_sum : Option Calc → Bool
is_sum None = false
is_sum (Some calc.Times) = false
is_sum (Some c) = true

-- the left operand of a product stands in parentheses where it is a sum or a difference, that of a
-- sum or a difference never
abbrev pub is_left_grouped : Calc → Option Calc → Bool
is_left_grouped calc.Times operand = is_sum operand
is_left_grouped c operand = false

-- the right operand of a product does where it is a sum, a difference or a product, that of a sum
-- or a difference where it is a sum or a difference
abbrev pub is_right_grouped : Calc → Option Calc → Bool
is_right_grouped calc.Times operand = is_some operand
is_right_grouped c operand = is_sum operand

-- a text in parentheses, where the test says so
abbrev pub grouped_if : Bool → Text → Text
grouped_if true t rest = codes "(" ++ t (codes ")" ++ rest)
grouped_if false t rest = t rest

-- the text of an operator with its operands
abbrev pub operands_text : List (List ℕ) → Calc → Expr → Expr → Text
operands_text names c l r rest =
    grouped_if (is_left_grouped c (operator_of l)) (whole_text names l)
    (operator_text c ++ grouped_if (is_right_grouped c (operator_of r)) (whole_text names r)
    rest)
