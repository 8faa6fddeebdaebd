use Rattle.std.proofs.Common.{◌∷◌, [], ◌++◌, refl, ap, ◌∙◌}
use Rattle.syntax_grammar.specs.declared.word.Sort.TheVariants as sort
use Rattle.syntax_trees.specs.declared.stmt.Stmt.TheVariants as stmt
use Rattle.syntax_grammar.specs.Sorts.{operation}
use Rattle.syntax_grammar.specs.Next.{Inside, mark, call_parts, statements}
use Rattle.syntax_grammar.specs.Phrase.{word, a_call, call_stmt, operands_words}
use Rattle.std.proofs.lemmas.Result.{err_from_is_err_and}
use Rattle.syntax_parser.proofs.Steps.{took, passed_one, passed_then, passed_framed, refused_after, refused_framed}
use Rattle.syntax_parser.proofs.CallSteps.{operation_is}
use Rattle.syntax_parser.proofs.Exits.{passed_on, no_memory, none_read, grown, fewer, stays, stays_then}
use Rattle.syntax_parser.proofs.parse_stmt.call_statement.Goals as goal

pub returns : goal.returns
returns c =
    record {
      reads = record {
        outcome =
            let w = c.in_ok-word.ensures.word in
            let at = c.in_ok-word.word.at in
            let k = c.args.kind in
            let first = took _ _ _ _ (sort.Do k) w (operation_is _ k (ap (λ x. operation x.sort) w ∙ c.requires)) (λ e. cc) c.in_ok-word.ensures.words in
            let o = c.in_ok-call.ensures.outcome in
            let s = c.in_ok-mark.ensures.outcome in (
              record {
                phrase = call_stmt (a_call k at o.0.phrase) s.0.phrase;
                read = first ∙ ap (λ l. word (sort.Do k) at ∷ l) (o.0.read ∙ ap (operands_words o.0.phrase) s.0.read);
                value = ap stmt.Perform o.0.value;
              },
              passed_then (passed_one (Inside c.args.depth) _ _ statements (call_parts ++ mark sort.Semicolon ∷ statements ∷ []) _ first c.take.ensures.end c.take.ensures.signs refl (λ under h. refl))
                  (passed_then (passed_framed (mark sort.Semicolon ∷ statements ∷ []) (λ under h. tt) o.1)
                  (passed_framed (statements ∷ []) (λ under h. tt) s.1)),
            );
        kept = stays_then c.in_ok-word.ensures.kept (stays_then c.in_ok-call.ensures.kept c.in_ok-mark.ensures.kept);
      };
      shorter = fewer _ (took _ _ _ _ (sort.Do c.args.kind) c.in_ok-word.ensures.word (operation_is _ c.args.kind (ap (λ x. operation x.sort) c.in_ok-word.ensures.word ∙ c.requires)) (λ e. cc) c.in_ok-word.ensures.words) (grown c.in_ok-mark.ensures.outcome.1.no_longer c.in_ok-call.ensures.outcome.1.no_longer);
    }

pub returns-in_err-mark : goal.returns-in_err-mark
returns-in_err-mark c =
    record {
      reads = record {
        outcome =
            let w = c.in_ok-word.ensures.word in
            let k = c.args.kind in
            let first = took _ _ _ _ (sort.Do k) w (operation_is _ k (ap (λ x. operation x.sort) w ∙ c.requires)) (λ e. cc) c.in_ok-word.ensures.words in
            let p = err_from_is_err_and c.from_residual-in_err-mark.result c.from_residual-in_err-mark.ensures.1 in
            rw (p.1, p.2) (λ some.
            refused_after (passed_one (Inside c.args.depth) _ _ statements (call_parts ++ mark sort.Semicolon ∷ statements ∷ []) _ first c.take.ensures.end c.take.ensures.signs refl (λ under h. refl))
            (refused_after (passed_framed (mark sort.Semicolon ∷ statements ∷ []) (λ under h. tt) c.in_ok-call.ensures.outcome.1)
            (refused_framed (statements ∷ []) (λ under h. tt) (c.in_err-mark.ensures.outcome some))));
        kept = stays_then c.in_ok-word.ensures.kept (stays_then c.in_ok-call.ensures.kept c.in_err-mark.ensures.kept);
      };
      shorter = none_read _ _ c.from_residual-in_err-mark.result c.from_residual-in_err-mark.ensures.1;
    }

pub returns-in_err-word : goal.returns-in_err-word
returns-in_err-word c =
    record {
      reads = record {
        outcome = no_memory _ _ _ _ _ _ _ c.from_residual.result c.from_residual.ensures.1;
        kept = c.in_err-word.ensures.kept;
      };
      shorter = none_read _ _ c.from_residual.result c.from_residual.ensures.1;
    }

pub returns-in_err-call : goal.returns-in_err-call
returns-in_err-call c =
    record {
      reads = record {
        outcome = passed_on _ _ _ _ c.from_residual-in_err-call.result c.from_residual-in_err-call.ensures.1 (λ some. refused_after (passed_one (Inside c.args.depth) _ _ statements (call_parts ++ mark sort.Semicolon ∷ statements ∷ []) _ (took _ _ _ _ (sort.Do c.args.kind) c.in_ok-word.ensures.word (operation_is _ c.args.kind (ap (λ x. operation x.sort) c.in_ok-word.ensures.word ∙ c.requires)) (λ e. cc) c.in_ok-word.ensures.words) c.take.ensures.end c.take.ensures.signs refl (λ under h. refl)) (refused_framed (mark sort.Semicolon ∷ statements ∷ []) (λ under h. tt) (c.in_err-call.ensures.outcome some)));
        kept = stays_then c.in_ok-word.ensures.kept c.in_err-call.ensures.kept;
      };
      shorter = none_read _ _ c.from_residual-in_err-call.result c.from_residual-in_err-call.ensures.1;
    }
