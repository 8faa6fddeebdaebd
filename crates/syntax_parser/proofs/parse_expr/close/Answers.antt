use Rattle.std.proofs.Common.{refl, []}
use Rattle.syntax_grammar.specs.Next.{closing}
use Rattle.syntax_parser.proofs.Steps.{took, passed_one}
use Rattle.syntax_parser.proofs.Exits.{no_memory, stays, stays_then}
use Rattle.syntax_parser.proofs.parse_expr.close.Goals as goal

pub returns-in-RightParen : goal.returns-in-RightParen
returns-in-RightParen c =
    record {
      outcome =
          let read = took _ _ _ _ _ c.in_ok-word.ensures.word c.in-RightParen.is (λ e. cc) c.in_ok-word.ensures.words in (
            record { phrase = c.in_ok-word.word.at; read = read; value = refl },
            passed_one _ _ _ closing [] _ read c.take.ensures.end c.take.ensures.signs refl (λ under h. refl),
          );
      kept = c.in_ok-word.ensures.kept;
    }

pub returns-in_err-word : goal.returns-in_err-word
returns-in_err-word c =
    record {
      outcome = no_memory _ _ _ _ _ _ _ c.from_residual.result c.from_residual.ensures.1;
      kept = c.in_err-word.ensures.kept;
    }
