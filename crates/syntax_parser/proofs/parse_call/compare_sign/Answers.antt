use Rattle.syntax_parser.proofs.Exits.{no_memory, stays, stays_then}
use Rattle.syntax_parser.proofs.parse_call.compare_sign.Goals as goal

pub returns-in_err-word : goal.returns-in_err-word
returns-in_err-word c =
    record {
      outcome = no_memory _ _ _ _ _ _ _ c.from_residual.result c.from_residual.ensures.1;
      kept = c.in_err-word.ensures.kept;
    }
