use Rattle.syntax_parser.proofs.ExprSteps.{whole_reads}
use Rattle.syntax_parser.proofs.parse_expr.expression.Goals as goal

pub returns : goal.returns
returns c =
    record {
      outcome = whole_reads _ _ _ c.sum.ensures.outcome;
      kept = c.sum.ensures.kept;
    }
