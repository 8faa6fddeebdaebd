-- What stands alone in an expression.
use Rattle.syntax_trees.specs.declared.expr.Atom.{Atom}
use Rattle.syntax_trees.specs.declared.expr.Atom.TheVariants as atom
use Rattle.syntax_trees.specs.declared.expr.Expr.{Expr}
use Rattle.syntax_trees.specs.declared.expr.Expr.TheVariants as expr

-- the expression in which an atom stands alone
abbrev pub alone : Atom → Expr
alone (atom.Lit v) = expr.Lit v
alone (atom.Name n p) = expr.Name n p
