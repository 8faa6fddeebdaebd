use Rattle.std.proofs.Common.{[], refl, ap, arith}
use Rattle.std.proofs.lemmas.Bool.{lt-leb}
use Rattle.syntax_grammar.specs.Bounds.{where_over, number_size}
use Rattle.syntax_grammar.specs.Next.{a_count}
use Rattle.syntax_grammar.specs.Phrase.{digits}
use Rattle.syntax_parser.proofs.Steps.{took, passed_one}
use Rattle.syntax_parser.proofs.Exits.{no_memory, stays, stays_then}
use Rattle.syntax_parser.proofs.parse_call.turn_count.Goals as goal

pub returns-else-value-gt-MAX_NUMBER : goal.returns-else-value-gt-MAX_NUMBER
returns-else-value-gt-MAX_NUMBER c =
    record {
      outcome =
          let read = took _ _ _ _ _ c.in_ok-word.ensures.word c.in-Number.is (λ e. cc) c.in_ok-word.ensures.words in (
            record { phrase = digits c.in-Number.value c.in_ok-word.word.at; read = read; value = refl },
            passed_one _ _ _ a_count [] _ read c.take.ensures.end c.take.ensures.signs refl (λ under h. ap (where_over number_size) (lt-leb _ _ (omega (arith, c.if-value-gt-MAX_NUMBER.false)))),
          );
      kept = c.in_ok-word.ensures.kept;
    }

pub returns-in_err-word : goal.returns-in_err-word
returns-in_err-word c =
    record {
      outcome = no_memory _ _ _ _ _ _ _ c.from_residual.result c.from_residual.ensures.1;
      kept = c.in_err-word.ensures.kept;
    }
