use Rattle.std.proofs.Common.{◌∷◌, [], ap, ◌∙◌}
use Rattle.syntax_grammar.specs.declared.word.Sort.TheVariants as sort
use Rattle.syntax_grammar.specs.Next.{mark, a_name}
use Rattle.syntax_grammar.specs.Phrase.{word, a_turns, number_words}
use Rattle.syntax_parser.proofs.Steps.{passed_then, passed_framed, refused_after, refused_framed}
use Rattle.syntax_grammar.proofs.Values.{turns_value}
use Rattle.syntax_parser.proofs.parse_call.repeat_head.Goals as goal
use Rattle.syntax_parser.proofs.Exits.{passed_on, grown, stays, stays_then}

pub returns-in_err-turns : goal.returns-in_err-turns
returns-in_err-turns c =
    record {
      outcome = passed_on _ _ _ _ c.from_residual.result c.from_residual.ensures.1 (λ some. refused_framed (mark sort.As ∷ a_name ∷ []) (λ under h. tt) (c.in_err-turns.ensures.outcome some));
      kept = c.in_err-turns.ensures.kept;
    }

pub returns-in_err-mark : goal.returns-in_err-mark
returns-in_err-mark c =
    record {
      outcome = passed_on _ _ _ _ c.from_residual-in_err-mark.result c.from_residual-in_err-mark.ensures.1 (λ some. refused_after (passed_framed (mark sort.As ∷ a_name ∷ []) (λ under h. tt) c.in_ok-turns.ensures.outcome.1) (refused_framed (a_name ∷ []) (λ under h. tt) (c.in_err-mark.ensures.outcome some)));
      kept = stays_then c.in_ok-turns.ensures.kept c.in_err-mark.ensures.kept;
    }

pub returns-in_err-name : goal.returns-in_err-name
returns-in_err-name c =
    record {
      outcome = passed_on _ _ _ _ c.from_residual-in_err-name.result c.from_residual-in_err-name.ensures.1 (λ some. refused_after (passed_framed (mark sort.As ∷ a_name ∷ []) (λ under h. tt) c.in_ok-turns.ensures.outcome.1) (refused_after (passed_framed (a_name ∷ []) (λ under h. tt) c.in_ok-mark.ensures.outcome.1) (c.in_err-name.ensures.outcome some)));
      kept = stays_then c.in_ok-turns.ensures.kept (stays_then c.in_ok-mark.ensures.kept c.in_err-name.ensures.kept);
    }

pub returns : goal.returns
returns c =
    record {
      outcome =
          let d = c.in_ok-turns.ensures.outcome in
          let a = c.in_ok-mark.ensures.outcome in
          let n = c.in_ok-name.ensures.outcome in (
            record {
              phrase = a_turns d.0.phrase a.0.phrase n.0.phrase;
              read = d.0.read ∙ ap (number_words d.0.phrase) (a.0.read ∙ ap (λ l. word sort.As a.0.phrase ∷ l) n.0.read);
              value = turns_value _ _ _ _ a.0.phrase d.0.phrase n.0.phrase d.0.value n.0.value;
            },
            passed_then (passed_framed (mark sort.As ∷ a_name ∷ []) (λ under h. tt) d.1)
                (passed_then (passed_framed (a_name ∷ []) (λ under h. tt) a.1) n.1),
          );
      kept = stays_then c.in_ok-turns.ensures.kept (stays_then c.in_ok-mark.ensures.kept c.in_ok-name.ensures.kept);
    }
