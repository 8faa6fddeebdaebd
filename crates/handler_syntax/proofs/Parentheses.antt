-- Parentheses stand where the grouping needs them.
use Rattle.std.proofs.Common.{◌≡◌, ℕ, Bool, false, List, ◌++◌, Option, Some, None, refl, sym, ap, ◌∙◌, subst, rules}
use Rattle.std.specs.Prelude.{is_some, codes}
use Rattle.syntax_trees.specs.declared.expr.Atom.{Atom}
use Rattle.syntax_trees.specs.declared.expr.Atom.TheVariants as atom
use Rattle.syntax_trees.specs.declared.expr.Calc.{Calc}
use Rattle.syntax_trees.specs.declared.expr.Calc.TheVariants as calc
use Rattle.syntax_trees.specs.declared.expr.Expr.{Expr, the_lemmas}
use Rattle.syntax_trees.specs.declared.expr.Expr.TheVariants as expr
use Rattle.syntax_trees.specs.Alone.{alone}
use Rattle.syntax_trees.proofs.Inductions.{expr_induction}
use Rattle.syntax_printer.specs.declared.expr.Level.{Level}
use Rattle.syntax_printer.specs.declared.expr.Level.TheVariants as level
use Rattle.syntax_printer.specs.Canonical.{expr_text, whole_text, operator_text, left_level, right_level}
use Rattle.syntax_printer.proofs.Inductions.{text_leaf, text_binary}
use Rattle.handler_syntax.specs.Parentheses.{operator_of, is_sum, is_left_grouped, is_right_grouped, grouped_if, operands_text}

operator_leaf : (a : Atom) → operator_of (alone a) ≡ None
operator_leaf (atom.Lit v) = search (rules, the_lemmas)
operator_leaf (atom.Name n p) = search (rules, the_lemmas)

operator_binary : (c : Calc) (l r : Expr) → operator_of (expr.Binary c (l, r)) ≡ Some c
operator_binary c l r = search (rules, the_lemmas)

-- an expression with this operator stands in parentheses at a level
abbrev is_grouped : Level → Option Calc → Bool
is_grouped level.Whole o = false
is_grouped level.Term o = is_sum o
is_grouped level.Factor o = is_some o

module _ (names : List (List ℕ)) where
  -- the text at a level, where the operator is known
  abbrev At : Expr → Option Calc → Type 0
  At e o = (l : Level) (rest : List ℕ) → expr_text names e l rest ≡ grouped_if (is_grouped l o) (whole_text names e) rest

  abbrev AtLevels : Expr → Type 0
  AtLevels e = At e (operator_of e)

  leaf_at : (a : Atom) → At (alone a) None
  leaf_at a level.Whole rest = refl
  leaf_at a level.Term rest = text_leaf names a level.Term rest ∙ sym (text_leaf names a level.Whole rest)
  leaf_at a level.Factor rest = text_leaf names a level.Factor rest ∙ sym (text_leaf names a level.Whole rest)

  binary_at : (c : Calc) (l r : Expr) → At (expr.Binary c (l, r)) (Some c)
  binary_at c l r level.Whole rest = refl
  binary_at calc.Times l r level.Term rest = text_binary names calc.Times l r level.Term rest ∙ sym (text_binary names calc.Times l r level.Whole rest)
  binary_at calc.Plus l r level.Term rest = text_binary names calc.Plus l r level.Term rest ∙ ap (λ t. codes "(" ++ t) (sym (text_binary names calc.Plus l r level.Whole (codes ")" ++ rest)))
  binary_at calc.Minus l r level.Term rest = text_binary names calc.Minus l r level.Term rest ∙ ap (λ t. codes "(" ++ t) (sym (text_binary names calc.Minus l r level.Whole (codes ")" ++ rest)))
  binary_at c l r level.Factor rest = text_binary names c l r level.Factor rest ∙ ap (λ t. codes "(" ++ t) (sym (text_binary names c l r level.Whole (codes ")" ++ rest)))

  at_levels : (e : Expr) → AtLevels e
  at_levels = expr_induction AtLevels (λ a. subst (At (alone a)) (sym (operator_leaf a)) (leaf_at a)) (λ c l r f g. subst (At (expr.Binary c (l, r))) (sym (operator_binary c l r)) (binary_at c l r))

  left_at : (c : Calc) (l : Expr) (rest : List ℕ) → expr_text names l (left_level c) rest ≡ grouped_if (is_left_grouped c (operator_of l)) (whole_text names l) rest
  left_at calc.Plus l rest = refl
  left_at calc.Minus l rest = refl
  left_at calc.Times l rest = at_levels l level.Term rest

  right_at : (c : Calc) (r : Expr) (rest : List ℕ) → expr_text names r (right_level c) rest ≡ grouped_if (is_right_grouped c (operator_of r)) (whole_text names r) rest
  right_at calc.Plus r rest = at_levels r level.Term rest
  right_at calc.Minus r rest = at_levels r level.Term rest
  right_at calc.Times r rest = at_levels r level.Factor rest

  pub parentheses : (c : Calc) (l r : Expr) (rest : List ℕ) → whole_text names (expr.Binary c (l, r)) rest ≡ operands_text names c l r rest
  parentheses c l r rest =
      text_binary names c l r level.Whole rest
      ∙ left_at c l (operator_text c ++ expr_text names r (right_level c) rest)
      ∙ ap (λ t. grouped_if (is_left_grouped c (operator_of l)) (whole_text names l) (operator_text c ++ t)) (right_at c r rest)
