-- Induction over expressions.
use Rattle.std.proofs.Common.{subst}
use Rattle.syntax_trees.specs.declared.expr.Atom.{Atom}
use Rattle.syntax_trees.specs.declared.expr.Calc.{Calc}
use Rattle.syntax_trees.specs.declared.expr.Expr.{Expr, roll-Expr, map-Expr}
use Rattle.syntax_trees.specs.declared.expr.Expr.TheFolds.{ind-Expr}
use Rattle.syntax_trees.specs.declared.expr.Expr.TheOpen.{Expr-F}
use Rattle.syntax_trees.specs.declared.expr.Atom.TheVariants as atom
use Rattle.syntax_trees.specs.declared.expr.Expr.TheVariants as expr
use Rattle.syntax_trees.specs.Alone.{alone}

module _ (P : Expr → Type 0) (leaf : (a : Atom) → P (alone a)) (binary : (c : Calc) (l r : Expr) → P l → P r → P (expr.Binary c (l, r))) where
  expr_rolled : (y : Expr-F ((e : Expr) × P e)) → P (roll-Expr (map-Expr ((e : Expr) × P e) Expr (λ e. e.0) y))
  unfolding roll-Expr denote.Hole.Carrier.roll
  expr_rolled (Expr-F.Lit v) = leaf (atom.Lit v)
  expr_rolled (Expr-F.Name n p) = leaf (atom.Name n p)
  expr_rolled (Expr-F.Binary c s) = binary c s.0.0 s.1.0 s.0.1 s.1.1

  pub expr_induction : (e : Expr) → P e
  expr_induction = ind-Expr P (λ x y is. subst (λ z. P (roll-Expr z)) is (expr_rolled y))
