use Rattle.std.proofs.Common.{refl, sym, ◌∙◌, []}
use Rattle.syntax_grammar.specs.Next.{mark}
use Rattle.syntax_parser.proofs.Steps.{took, passed_one, refused_is, refused_none}
use Rattle.syntax_grammar.proofs.Rows.{mark_same, mark_no_end, none_left}
use Rattle.syntax_parser.proofs.Exits.{no_memory, stays, stays_then}
use Rattle.syntax_parser.proofs.parse_words.mark.Goals as goal

pub returns-then-is_mark : goal.returns-then-is_mark
returns-then-is_mark c =
    record {
      outcome =
          let known = sym c.is_mark.ensures ∙ c.if-is_mark.true in
          let read = took _ _ _ _ _ c.in_ok-word.ensures.word (mark_same _ _ known) (mark_no_end _ c.requires) c.in_ok-word.ensures.words in (
            record { phrase = c.in_ok-word.word.at; read = read; value = refl },
            passed_one _ _ _ (mark c.args.sort) [] _ read c.take.ensures.end c.take.ensures.signs c.requires (λ under h. refl),
          );
      kept = c.in_ok-word.ensures.kept;
    }

pub returns-else-is_mark : goal.returns-else-is_mark
returns-else-is_mark c =
    record {
      outcome = λ some.
          refused_is c.refusal.ensures (refused_none _ (mark c.args.sort) [] _ _ c.in_ok-word.ensures.word refl (none_left _ (sym c.is_mark.ensures ∙ c.if-is_mark.false)));
      kept = c.in_ok-word.ensures.kept;
    }

pub returns-in_err-word : goal.returns-in_err-word
returns-in_err-word c =
    record {
      outcome = no_memory _ _ _ _ _ _ _ c.from_residual.result c.from_residual.ensures.1;
      kept = c.in_err-word.ensures.kept;
    }
