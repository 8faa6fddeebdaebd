use Rattle.std.proofs.Common.{sym, ◌∙◌}
use Rattle.std.proofs.lemmas.Result.{err_from_is_err_and}
use Rattle.syntax_grammar.specs.Phrase.{some_params}
use Rattle.syntax_parser.proofs.Steps.{passed_then, refused_after}
use Rattle.syntax_parser.proofs.ParamSteps.{passed_first}
use Rattle.syntax_parser.proofs.Exits.{no_memory, grown, stays, stays_then}
use Rattle.syntax_parser.proofs.parse_handler.params.Goals as goal

pub returns-in_err-params-in-Name : goal.returns-in_err-params-in-Name
returns-in_err-params-in-Name c =
    record {
      outcome =
          let seen = c.in_ok-peek.ensures in
          let p = err_from_is_err_and c.from_residual-in_err-params-in-Name.result c.from_residual-in_err-params-in-Name.ensures.1 in
          rw (p.1, p.2) (λ some. refused_after (passed_first c.args.input.now c.peek.new.self _ _ seen.word seen.words seen.end seen.signs c.in-Name.is) (c.in_err-params-in-Name.ensures.outcome some));
      kept = stays_then c.in_ok-peek.ensures.kept c.in_err-params-in-Name.ensures.kept;
    }

pub returns-in_ok-params-in-Name : goal.returns-in_ok-params-in-Name
returns-in_ok-params-in-Name c =
    record {
      outcome =
          let seen = c.in_ok-peek.ensures in
          let f = c.in_ok-params-in-Name.ensures.outcome in (
            record { phrase = some_params f.0.phrase; read = sym seen.words ∙ f.0.read; value = f.0.value },
            passed_then (passed_first c.args.input.now c.peek.new.self _ _ seen.word seen.words seen.end seen.signs c.in-Name.is) f.1,
          );
      kept = stays_then c.in_ok-peek.ensures.kept c.in_ok-params-in-Name.ensures.kept;
    }

pub returns-in_err-peek : goal.returns-in_err-peek
returns-in_err-peek c =
    record {
      outcome = no_memory _ _ _ _ _ _ _ c.from_residual.result c.from_residual.ensures.1;
      kept = c.in_err-peek.ensures.kept;
    }
