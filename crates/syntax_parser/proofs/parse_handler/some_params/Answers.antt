use Rattle.std.proofs.Common.{◌≡◌, ◌+◌, ◌∷◌, [], ◌++◌, length, refl, sym, ap, ◌∙◌, arith, length-append}
use Rattle.syntax_grammar.specs.declared.word.Sort.TheVariants as sort
use Rattle.syntax_grammar.specs.Next.{a_name, more_params}
use Rattle.syntax_grammar.specs.Phrase.{word, no_more, name_words, more_params_words}
use Rattle.syntax_grammar.specs.Tree.{param_of, more_params_trees}
use Rattle.syntax_parser.proofs.ListLoops.{and_param, and_param-words, and_param-trees}
use Rattle.syntax_parser.proofs.Steps.{took_seen, passed_one, passed_then, passed_framed, passed_over, refused_after, refused_framed}
use Rattle.syntax_grammar.proofs.Rows.{more_params_none}
use Rattle.syntax_grammar.proofs.Values.{param_with, param_value, name_long}
use Rattle.syntax_parser.proofs.Exits.{passed_on, no_memory, grown, stays, stays_then}
use Rattle.syntax_parser.proofs.parse_handler.some_params.Goals as goal

pub params-init : goal.params-init
params-init c =
    let f = c.in_ok-first.ensures.outcome in
    record {
      first = f.0.phrase;
      more = no_more;
      read = f.0.read;
      value = c.in_ok-params.ensures.items ∙ ap (λ p. p ∷ []) (param_value _ _ f.0.phrase f.0.value);
      room = omega (arith, ap length c.in_ok-params.ensures.items, ap length f.0.read, name_long f.0.phrase c.name.new.input.reader.words);
      passed = passed_framed (more_params ∷ []) (λ under h. tt) f.1;
      kept = c.in_ok-first.ensures.kept;
    }

pub params-preserved : goal.params-preserved
params-preserved c =
    let so_far = c.params.invariant in
    let seen = c.in_ok-peek.ensures in
    let at = c.in_ok-peek.field-0.at in
    let comma = took_seen c.params.input c.peek.new.self c.take.new.self _ sort.Comma seen.word seen.words c.in-Comma.is (λ e. cc) c.in_ok-take-in-Comma.ensures.words in
    let f = c.in_ok-name-in-Comma.ensures.outcome in
    let long : length c.push.new.self.items ≡ length c.params.params.items + 1 = ap length c.in_ok-push-in-Comma.ensures.items ∙ length-append c.params.params.items _ in
    record {
      first = so_far.first;
      more = and_param so_far.more at f.0.phrase;
      read = so_far.read ∙ ap (λ l. name_words so_far.first (more_params_words so_far.more l)) (comma ∙ ap (λ l. word sort.Comma at ∷ l) f.0.read) ∙ ap (name_words so_far.first) (sym (and_param-words so_far.more at f.0.phrase _));
      value = c.in_ok-push-in-Comma.ensures.items ∙ ap (λ l. l ++ param_with (c.in_ok-name-in-Comma.name, c.in_ok-name-in-Comma.at) ∷ []) so_far.value ∙ ap (λ p. param_of so_far.first ∷ (more_params_trees so_far.more ++ p ∷ [])) (param_value _ _ f.0.phrase f.0.value) ∙ ap (λ l. param_of so_far.first ∷ l) (sym (and_param-trees so_far.more at f.0.phrase));
      room = omega (arith, so_far.room, long, ap length comma, f.1.no_longer);
      passed = passed_then so_far.passed (passed_then (passed_one _ c.params.input c.take.new.self more_params (a_name ∷ more_params ∷ []) _ comma (c.in_ok-take-in-Comma.ensures.end ∙ seen.end) (c.in_ok-take-in-Comma.ensures.signs ∙ seen.signs) refl (λ under h. refl)) (passed_framed (more_params ∷ []) (λ under h. tt) f.1));
      kept = stays_then so_far.kept (stays_then seen.kept (stays_then c.in_ok-take-in-Comma.ensures.kept c.in_ok-name-in-Comma.ensures.kept));
    }

pub returns-in_default : goal.returns-in_default
returns-in_default c =
    let so_far = c.params.invariant in
    let seen = c.in_ok-peek.ensures in
    record {
      outcome = (
        record {
          phrase = record { first = so_far.first; more = so_far.more };
          read = so_far.read ∙ ap (λ l. name_words so_far.first (more_params_words so_far.more l)) (sym seen.words);
          value = c.list.ensures ∙ so_far.value;
        },
        passed_then so_far.passed (passed_over _ more_params [] _ _ _ seen.word seen.words seen.end seen.signs refl (more_params_none _ c.in_default.not-Comma)),
      );
      kept = stays_then so_far.kept seen.kept;
    }

pub returns-in_err-first : goal.returns-in_err-first
returns-in_err-first c =
    record {
      outcome = passed_on _ _ _ _ c.from_residual.result c.from_residual.ensures.1 (λ some. refused_framed (more_params ∷ []) (λ under h. tt) (c.in_err-first.ensures.outcome some));
      kept = c.in_err-first.ensures.kept;
    }

pub returns-in_err-params : goal.returns-in_err-params
returns-in_err-params c =
    record {
      outcome = no_memory _ _ _ _ _ _ _ c.from_residual-in_err-params.result c.from_residual-in_err-params.ensures.1;
      kept = c.in_ok-first.ensures.kept;
    }

pub returns-in_err-peek : goal.returns-in_err-peek
returns-in_err-peek c =
    record {
      outcome = no_memory _ _ _ _ _ _ _ c.from_residual-in_err-peek.result c.from_residual-in_err-peek.ensures.1;
      kept = stays_then c.params.invariant.kept c.in_err-peek.ensures.kept;
    }

pub returns-in_err-take-in-Comma : goal.returns-in_err-take-in-Comma
returns-in_err-take-in-Comma c =
    record {
      outcome = no_memory _ _ _ _ _ _ _ c.from_residual-in_err-take-in-Comma.result c.from_residual-in_err-take-in-Comma.ensures.1;
      kept = stays_then c.params.invariant.kept (stays_then c.in_ok-peek.ensures.kept c.in_err-take-in-Comma.ensures.kept);
    }

pub returns-in_err-name-in-Comma : goal.returns-in_err-name-in-Comma
returns-in_err-name-in-Comma c =
    record {
      outcome = passed_on _ _ _ _ c.from_residual-in_err-name-in-Comma.result c.from_residual-in_err-name-in-Comma.ensures.1 (λ some. refused_after c.params.invariant.passed (refused_after (passed_one _ c.params.input c.take.new.self more_params (a_name ∷ more_params ∷ []) _ (took_seen c.params.input c.peek.new.self c.take.new.self _ sort.Comma c.in_ok-peek.ensures.word c.in_ok-peek.ensures.words c.in-Comma.is (λ e. cc) c.in_ok-take-in-Comma.ensures.words) (c.in_ok-take-in-Comma.ensures.end ∙ c.in_ok-peek.ensures.end) (c.in_ok-take-in-Comma.ensures.signs ∙ c.in_ok-peek.ensures.signs) refl (λ under h. refl)) (refused_framed (more_params ∷ []) (λ under h. tt) (c.in_err-name-in-Comma.ensures.outcome some))));
      kept = stays_then c.params.invariant.kept (stays_then c.in_ok-peek.ensures.kept (stays_then c.in_ok-take-in-Comma.ensures.kept c.in_err-name-in-Comma.ensures.kept));
    }

pub returns-in_err-push-in-Comma : goal.returns-in_err-push-in-Comma
returns-in_err-push-in-Comma c =
    record {
      outcome = no_memory _ _ _ _ _ _ _ c.from_residual-in_err-push-in-Comma.result c.from_residual-in_err-push-in-Comma.ensures.1;
      kept = stays_then c.params.invariant.kept (stays_then c.in_ok-peek.ensures.kept (stays_then c.in_ok-take-in-Comma.ensures.kept c.in_ok-name-in-Comma.ensures.kept));
    }
