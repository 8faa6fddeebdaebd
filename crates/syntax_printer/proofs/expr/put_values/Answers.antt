use Rattle.syntax_trees.specs.Mentions.{expr_mentions}
use Rattle.syntax_printer.proofs.Loops.{named_first}
use Rattle.syntax_printer.proofs.expr.put_values.Goals as goal

pub put_expr-requires : goal.put_expr-requires
put_expr-requires g c = (named_first c.args.names.now expr_mentions c.args.values.now _ _ c.in-len1-up.len_at_least c.first-item.is c.requires).0

pub put_more_values-requires : goal.put_more_values-requires
put_more_values-requires g c = (named_first c.args.names.now expr_mentions c.args.values.now _ _ c.in-len1-up.len_at_least c.first-item.is c.requires).1
