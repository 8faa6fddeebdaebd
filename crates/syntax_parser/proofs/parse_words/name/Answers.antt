use Rattle.std.proofs.Common.{refl, []}
use Rattle.syntax_grammar.specs.Next.{a_name}
use Rattle.syntax_grammar.specs.Phrase.{named}
use Rattle.syntax_parser.proofs.Steps.{took, passed_one}
use Rattle.syntax_parser.proofs.Exits.{no_memory, stays, stays_then}
use Rattle.syntax_parser.proofs.parse_words.name.Goals as goal

pub returns-in-Name : goal.returns-in-Name
returns-in-Name c =
    record {
      outcome =
          let read = took _ _ _ _ _ c.in_ok-word.ensures.word c.in-Name.is (λ e. cc) c.in_ok-word.ensures.words in (
            record { phrase = named c.in-Name.name c.in_ok-word.word.at; read = read; value = refl },
            passed_one _ _ _ a_name [] _ read c.take.ensures.end c.take.ensures.signs refl (λ under h. refl),
          );
      kept = c.in_ok-word.ensures.kept;
    }

pub returns-in_err-word : goal.returns-in_err-word
returns-in_err-word c =
    record {
      outcome = no_memory _ _ _ _ _ _ _ c.from_residual.result c.from_residual.ensures.1;
      kept = c.in_err-word.ensures.kept;
    }
