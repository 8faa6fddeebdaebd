use Rattle.std.proofs.Common.{ap, rules}
use Rattle.syntax_trees.specs.declared.expr.Expr.{Expr}
use Rattle.syntax_printer.proofs.Parts.{named_left, named_right}
use Rattle.syntax_trees.proofs.Sizes.{left_smaller, right_smaller}
use Rattle.syntax_printer.proofs.expr.+put_expr.Goals as goal

pub put_expr-requires : goal.put_expr-requires
put_expr-requires g t c =
    let same = ap (λ (s : Expr × Expr). s.0) c.get.ensures in
    let smaller = left_smaller _ _ _ _ _ c.in-Binary.is same in
    let named = named_left c.args.names.now _ _ _ _ _ c.in-Binary.is same c.requires in
    search rules

pub put_expr-requires-in-Binary : goal.put_expr-requires-in-Binary
put_expr-requires-in-Binary g t c =
    let same = ap (λ (s : Expr × Expr). s.1) c.get.ensures in
    let smaller = right_smaller _ _ _ _ _ c.in-Binary.is same in
    let named = named_right c.args.names.now _ _ _ _ _ c.in-Binary.is same c.requires in
    search rules
