use Rattle.std.proofs.Common.{◌∷◌, [], ap, ◌∙◌}
use Rattle.syntax_grammar.specs.declared.word.Sort.TheVariants as sort
use Rattle.syntax_grammar.specs.Next.{mark, a_name, more_arguments}
use Rattle.syntax_grammar.specs.Phrase.{word, operands, name_words, arguments_words}
use Rattle.syntax_parser.proofs.Steps.{passed_then, passed_framed, refused_after, refused_framed}
use Rattle.syntax_grammar.proofs.Values.{call_value}
use Rattle.syntax_parser.proofs.parse_call.operands.Goals as goal
use Rattle.syntax_parser.proofs.Exits.{passed_on, grown, stays, stays_then}

pub returns-in_err-mark : goal.returns-in_err-mark
returns-in_err-mark c =
    record {
      outcome = passed_on _ _ _ _ c.from_residual.result c.from_residual.ensures.1 (λ some. refused_framed (a_name ∷ more_arguments 2 ∷ mark sort.RightParen ∷ []) (λ under h. tt) (c.in_err-mark.ensures.outcome some));
      kept = c.in_err-mark.ensures.kept;
    }

pub returns-in_err-table : goal.returns-in_err-table
returns-in_err-table c =
    record {
      outcome = passed_on _ _ _ _ c.from_residual-in_err-table.result c.from_residual-in_err-table.ensures.1 (λ some. refused_after (passed_framed (a_name ∷ more_arguments 2 ∷ mark sort.RightParen ∷ []) (λ under h. tt) c.in_ok-mark.ensures.outcome.1) (refused_framed (more_arguments 2 ∷ mark sort.RightParen ∷ []) (λ under h. tt) (c.in_err-table.ensures.outcome some)));
      kept = stays_then c.in_ok-mark.ensures.kept c.in_err-table.ensures.kept;
    }

pub returns-in_err-args : goal.returns-in_err-args
returns-in_err-args c =
    record {
      outcome = passed_on _ _ _ _ c.from_residual-in_err-args.result c.from_residual-in_err-args.ensures.1 (λ some. refused_after (passed_framed (a_name ∷ more_arguments 2 ∷ mark sort.RightParen ∷ []) (λ under h. tt) c.in_ok-mark.ensures.outcome.1) (refused_after (passed_framed (more_arguments 2 ∷ mark sort.RightParen ∷ []) (λ under h. tt) c.in_ok-table.ensures.outcome.1) (refused_framed (mark sort.RightParen ∷ []) (λ under h. tt) (c.in_err-args.ensures.outcome some))));
      kept = stays_then c.in_ok-mark.ensures.kept (stays_then c.in_ok-table.ensures.kept c.in_err-args.ensures.kept);
    }

pub returns-in_err-mark-2 : goal.returns-in_err-mark-2
returns-in_err-mark-2 c =
    record {
      outcome = passed_on _ _ _ _ c.from_residual-in_err-mark-2.result c.from_residual-in_err-mark-2.ensures.1 (λ some. refused_after (passed_framed (a_name ∷ more_arguments 2 ∷ mark sort.RightParen ∷ []) (λ under h. tt) c.in_ok-mark.ensures.outcome.1) (refused_after (passed_framed (more_arguments 2 ∷ mark sort.RightParen ∷ []) (λ under h. tt) c.in_ok-table.ensures.outcome.1) (refused_after (passed_framed (mark sort.RightParen ∷ []) (λ under h. tt) c.in_ok-args.ensures.outcome.1) (c.in_err-mark-2.ensures.outcome some))));
      kept = stays_then c.in_ok-mark.ensures.kept (stays_then c.in_ok-table.ensures.kept (stays_then c.in_ok-args.ensures.kept c.in_err-mark-2.ensures.kept));
    }

pub returns : goal.returns
returns c =
    record {
      outcome =
          let l = c.in_ok-mark.ensures.outcome in
          let n = c.in_ok-table.ensures.outcome in
          let a = c.in_ok-args.ensures.outcome in
          let r = c.in_ok-mark-2.ensures.outcome in (
            record {
              phrase = operands l.0.phrase n.0.phrase a.0.phrase r.0.phrase;
              read = l.0.read ∙ ap (λ k. word sort.LeftParen l.0.phrase ∷ k) (n.0.read ∙ ap (name_words n.0.phrase) (a.0.read ∙ ap (arguments_words a.0.phrase) r.0.read));
              value = call_value c.args.kind c.args.at _ _ l.0.phrase r.0.phrase n.0.phrase _ a.0.phrase n.0.value a.0.value;
            },
            passed_then (passed_framed (a_name ∷ more_arguments 2 ∷ mark sort.RightParen ∷ []) (λ under h. tt) l.1)
                (passed_then (passed_framed (more_arguments 2 ∷ mark sort.RightParen ∷ []) (λ under h. tt) n.1)
                (passed_then (passed_framed (mark sort.RightParen ∷ []) (λ under h. tt) a.1) r.1)),
          );
      kept = stays_then c.in_ok-mark.ensures.kept (stays_then c.in_ok-table.ensures.kept (stays_then c.in_ok-args.ensures.kept c.in_ok-mark-2.ensures.kept));
    }
