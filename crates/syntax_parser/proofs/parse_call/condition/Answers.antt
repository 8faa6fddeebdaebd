use Rattle.std.proofs.Common.{◌∷◌, [], ap, ◌∙◌}
use Rattle.syntax_grammar.specs.Next.{a_compare, expression}
use Rattle.syntax_grammar.specs.Phrase.{a_cond, expr_words, compare_words}
use Rattle.syntax_parser.proofs.Steps.{passed_then, passed_framed, refused_after, refused_framed}
use Rattle.syntax_grammar.proofs.Values.{cond_value}
use Rattle.syntax_parser.proofs.parse_call.condition.Goals as goal
use Rattle.syntax_parser.proofs.Exits.{passed_on, grown, stays, stays_then}

pub returns-in_err-left : goal.returns-in_err-left
returns-in_err-left c =
    record {
      outcome = passed_on _ _ _ _ c.from_residual.result c.from_residual.ensures.1 (λ some. refused_framed (a_compare ∷ expression ∷ []) (λ under h. h) (c.in_err-left.ensures.outcome some));
      kept = c.in_err-left.ensures.kept;
    }

pub returns-in_err-compare : goal.returns-in_err-compare
returns-in_err-compare c =
    record {
      outcome = passed_on _ _ _ _ c.from_residual-in_err-compare.result c.from_residual-in_err-compare.ensures.1 (λ some. refused_after (passed_framed (a_compare ∷ expression ∷ []) (λ under h. h) c.in_ok-left.ensures.outcome.1) (refused_framed (expression ∷ []) (λ under h. tt) (c.in_err-compare.ensures.outcome some)));
      kept = stays_then c.in_ok-left.ensures.kept c.in_err-compare.ensures.kept;
    }

pub returns-in_err-right : goal.returns-in_err-right
returns-in_err-right c =
    record {
      outcome = passed_on _ _ _ _ c.from_residual-in_err-right.result c.from_residual-in_err-right.ensures.1 (λ some. refused_after (passed_framed (a_compare ∷ expression ∷ []) (λ under h. h) c.in_ok-left.ensures.outcome.1) (refused_after (passed_framed (expression ∷ []) (λ under h. tt) c.in_ok-compare.ensures.outcome.1) (c.in_err-right.ensures.outcome some)));
      kept = stays_then c.in_ok-left.ensures.kept (stays_then c.in_ok-compare.ensures.kept c.in_err-right.ensures.kept);
    }

pub returns : goal.returns
returns c =
    record {
      outcome =
          let a = c.in_ok-left.ensures.outcome in
          let s = c.in_ok-compare.ensures.outcome in
          let b = c.in_ok-right.ensures.outcome in (
            record {
              phrase = a_cond a.0.phrase s.0.phrase.0 s.0.phrase.1 b.0.phrase;
              read = a.0.read ∙ ap (expr_words a.0.phrase) (s.0.read ∙ ap (compare_words s.0.phrase) b.0.read);
              value = cond_value 0 _ _ s.0.phrase _ _ a.0.phrase b.0.phrase a.0.value s.0.value b.0.value;
            },
            passed_then (passed_framed (a_compare ∷ expression ∷ []) (λ under h. h) a.1)
                (passed_then (passed_framed (expression ∷ []) (λ under h. tt) s.1) b.1),
          );
      kept = stays_then c.in_ok-left.ensures.kept (stays_then c.in_ok-compare.ensures.kept c.in_ok-right.ensures.kept);
    }
