use Rattle.std.proofs.Common.{◌∷◌, [], refl, sym, ap, ◌∙◌}
use Rattle.std.proofs.lemmas.Result.{err_from_is_err_and}
use Rattle.syntax_grammar.specs.declared.word.Sort.TheVariants as sort
use Rattle.syntax_trees.specs.declared.stmt.Right.TheVariants as right
use Rattle.syntax_grammar.specs.Next.{Opened, a_right, call_parts}
use Rattle.syntax_grammar.specs.Phrase.{word, a_call, result_right, plain_right}
use Rattle.syntax_parser.proofs.Steps.{took_seen, passed_one, passed_then, passed_framed, passed_still, refused_after, refused_framed}
use Rattle.syntax_parser.proofs.CallSteps.{operation_is, passed_plain, refused_plain}
use Rattle.syntax_parser.proofs.Exits.{no_memory, grown, stays, stays_then}
use Rattle.syntax_parser.proofs.parse_call.right_side.Goals as goal

pub returns-in_err-call-in-Some : goal.returns-in_err-call-in-Some
returns-in_err-call-in-Some c =
    record {
      outcome =
          let seen = c.in_ok-word.ensures in
          let taken = c.in_ok-take-in-Some.ensures in
          let k = c.in-Some.kind in
          let read = took_seen c.args.input.now c.peek.new.self c.take.new.self _ (sort.Do k) seen.word seen.words (operation_is _ k (sym c.in-Some.ensures)) (λ e. cc) taken.words in
          let p = err_from_is_err_and c.from_residual-in_err-call-in-Some.result c.from_residual-in_err-call-in-Some.ensures.1 in
          rw (p.1, p.2) (λ some. refused_after (passed_one (Opened 0) c.args.input.now (record c.take.new.self { signs = 0 }) a_right call_parts _ read (taken.end ∙ seen.end) refl refl (λ under h. refl)) (refused_framed [] (λ under h. tt) (c.in_err-call-in-Some.ensures.outcome some)));
      kept = stays_then c.in_ok-word.ensures.kept (stays_then c.in_ok-take-in-Some.ensures.kept c.in_err-call-in-Some.ensures.kept);
    }

pub returns-in_err-value-in-None : goal.returns-in_err-value-in-None
returns-in_err-value-in-None c =
    record {
      outcome =
          let seen = c.in_ok-word.ensures in
          let p = err_from_is_err_and c.from_residual-in_err-value-in-None.result c.from_residual-in_err-value-in-None.ensures.1 in
          rw (p.1, p.2) (λ some. refused_plain _ [] c.args.input.now _ _ seen.word (sym c.in-None.ensures) (refused_after (passed_still seen.words seen.end seen.signs) (c.in_err-value-in-None.ensures.outcome some)));
      kept = stays_then c.in_ok-word.ensures.kept c.in_err-value-in-None.ensures.kept;
    }

pub returns-in_ok-value-in-None : goal.returns-in_ok-value-in-None
returns-in_ok-value-in-None c =
    record {
      outcome =
          let seen = c.in_ok-word.ensures in
          let e = c.in_ok-value-in-None.ensures.outcome in (
            record { phrase = plain_right e.0.phrase; read = sym seen.words ∙ e.0.read; value = ap right.Plain e.0.value },
            passed_plain _ [] [] c.args.input.now _ _ seen.word (sym c.in-None.ensures) (passed_then (passed_still seen.words seen.end seen.signs) e.1),
          );
      kept = stays_then c.in_ok-word.ensures.kept c.in_ok-value-in-None.ensures.kept;
    }

pub returns-in_ok-call-in-Some : goal.returns-in_ok-call-in-Some
returns-in_ok-call-in-Some c =
    record {
      outcome =
          let seen = c.in_ok-word.ensures in
          let taken = c.in_ok-take-in-Some.ensures in
          let k = c.in-Some.kind in
          let at = c.in_ok-word.word.at in
          let read = took_seen c.args.input.now c.peek.new.self c.take.new.self _ (sort.Do k) seen.word seen.words (operation_is _ k (sym c.in-Some.ensures)) (λ e. cc) taken.words in
          let o = c.in_ok-call-in-Some.ensures.outcome in (
            record {
              phrase = result_right (a_call k at o.0.phrase);
              read = read ∙ ap (λ l. word (sort.Do k) at ∷ l) o.0.read;
              value = ap right.Result o.0.value;
            },
            passed_then (passed_one (Opened 0) c.args.input.now (record c.take.new.self { signs = 0 }) a_right call_parts _ read (taken.end ∙ seen.end) refl refl (λ under h. refl)) (passed_framed [] (λ under h. tt) o.1),
          );
      kept = stays_then c.in_ok-word.ensures.kept (stays_then c.in_ok-take-in-Some.ensures.kept c.in_ok-call-in-Some.ensures.kept);
    }

pub returns-in_err-word : goal.returns-in_err-word
returns-in_err-word c =
    record {
      outcome = no_memory _ _ _ _ _ _ _ c.from_residual.result c.from_residual.ensures.1;
      kept = c.in_err-word.ensures.kept;
    }

pub returns-in_err-take-in-Some : goal.returns-in_err-take-in-Some
returns-in_err-take-in-Some c =
    record {
      outcome = no_memory _ _ _ _ _ _ _ c.from_residual-in_err-take-in-Some.result c.from_residual-in_err-take-in-Some.ensures.1;
      kept = stays_then c.in_ok-word.ensures.kept c.in_err-take-in-Some.ensures.kept;
    }
