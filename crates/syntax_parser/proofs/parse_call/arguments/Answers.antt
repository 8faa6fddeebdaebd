use Rattle.std.proofs.Common.{◌-◌, ◌+◌, ◌∷◌, [], ◌++◌, length, refl, sym, ap, ◌∙◌, arith, length-append}
use Rattle.std.proofs.lemmas.Result.{err_from_is_err_and}
use Rattle.syntax_grammar.specs.declared.word.Sort.TheVariants as sort
use Rattle.syntax_grammar.specs.Next.{more_arguments}
use Rattle.syntax_grammar.specs.Phrase.{word, no_atom, atoms_words}
use Rattle.syntax_grammar.specs.Tree.{atoms_trees}
use Rattle.syntax_parser.proofs.Loops.{and_atom, and_atom-words, and_atom-trees, and_atom-count, argument_step}
use Rattle.syntax_parser.proofs.Steps.{passed_same, passed_then, passed_framed, passed_empty, passed_over, refused_after, refused_framed}
use Rattle.syntax_grammar.proofs.Rows.{arguments_none, arguments_full}
use Rattle.syntax_parser.proofs.Exits.{no_memory, grown, stays, stays_then}
use Rattle.syntax_parser.proofs.parse_call.arguments.Goals as goal

pub loop-turn-init : goal.loop-turn-init
loop-turn-init c =
    record {
      so_far = no_atom;
      read = refl;
      few = refl;
      value = c.in_ok-items.ensures.items;
      long = ap length c.in_ok-items.ensures.items;
      passed = passed_same;
      kept = stays;
    }

pub returns-in_err-argument-in-Comma : goal.returns-in_err-argument-in-Comma
returns-in_err-argument-in-Comma c =
    record {
      outcome =
          let seen = c.in_ok-peek.ensures in
          let taken = c.in_ok-take-in-Comma.ensures in
          let s = argument_step _ _ _ c.peek.new.self _ _ _ c.loop-turn.invariant c.loop-turn-test.true seen.word seen.words seen.end seen.signs c.in-Comma.is taken.words taken.end taken.signs in
          let p = err_from_is_err_and c.from_residual-in_err-argument-in-Comma.result c.from_residual-in_err-argument-in-Comma.ensures.1 in
          rw (p.1, p.2) (λ some. refused_after s.1 (refused_framed (more_arguments (2 - (c.loop-turn.turn + 1)) ∷ []) (λ under h. tt) (c.in_err-argument-in-Comma.ensures.outcome some)));
      kept = stays_then c.loop-turn.invariant.kept (stays_then c.in_ok-peek.ensures.kept (stays_then c.in_ok-take-in-Comma.ensures.kept c.in_err-argument-in-Comma.ensures.kept));
    }

pub returns-in_default : goal.returns-in_default
returns-in_default c =
    let so_far = c.loop-turn.invariant in
    let seen = c.in_ok-peek.ensures in
    record {
      outcome = (
        record {
          phrase = record { atoms = so_far.so_far; few = omega (arith, so_far.few, c.loop-turn-test.true) };
          read = so_far.read ∙ ap (atoms_words so_far.so_far) (sym seen.words);
          value = c.list.ensures ∙ so_far.value;
        },
        passed_then so_far.passed (passed_over _ (more_arguments (2 - c.loop-turn.turn)) [] _ _ _ seen.word seen.words seen.end seen.signs refl (arguments_none _ _ c.in_default.not-Comma)),
      );
      kept = stays_then so_far.kept seen.kept;
    }

pub loop-turn-preserved : goal.loop-turn-preserved
loop-turn-preserved c =
    let so_far = c.loop-turn.invariant in
    let seen = c.in_ok-peek.ensures in
    let taken = c.in_ok-take-in-Comma.ensures in
    let at = c.in_ok-peek.field-0.at in
    let s = argument_step _ _ _ c.peek.new.self _ _ _ so_far c.loop-turn-test.true seen.word seen.words seen.end seen.signs c.in-Comma.is taken.words taken.end taken.signs in
    let f = c.in_ok-argument-in-Comma.ensures in
    record {
      so_far = and_atom so_far.so_far at f.outcome.0.phrase;
      read = so_far.read ∙ ap (atoms_words so_far.so_far) (s.0 ∙ ap (λ l. word sort.Comma at ∷ l) f.outcome.0.read) ∙ sym (and_atom-words so_far.so_far at f.outcome.0.phrase _);
      few = and_atom-count so_far.so_far at f.outcome.0.phrase ∙ ap (λ n. n + 1) so_far.few;
      value = c.in_ok-push-in-Comma.ensures.items ∙ ap (λ l. l ++ c.in_ok-argument-in-Comma.argument ∷ []) so_far.value ∙ ap (λ a. atoms_trees so_far.so_far ++ a ∷ []) f.outcome.0.value ∙ sym (and_atom-trees so_far.so_far at f.outcome.0.phrase);
      long = ap length c.in_ok-push-in-Comma.ensures.items ∙ length-append c.loop-turn.items.items _ ∙ ap (λ n. n + 1) so_far.long;
      passed = passed_then s.1 (passed_framed (more_arguments (2 - (c.loop-turn.turn + 1)) ∷ []) (λ under h. tt) f.outcome.1);
      kept = stays_then so_far.kept (stays_then seen.kept (stays_then taken.kept f.kept));
    }

pub returns : goal.returns
returns c =
    record {
      outcome =
          let so_far = c.loop-turn.invariant in (
            record {
              phrase = record { atoms = so_far.so_far; few = omega (arith, so_far.few, c.loop-turn.auto.turn-end) };
              read = so_far.read;
              value = c.list-2.ensures ∙ so_far.value;
            },
            passed_then so_far.passed (passed_empty _ (more_arguments (2 - c.loop-turn.turn)) [] _ _ refl refl (arguments_full _ _ (omega (arith, c.loop-turn-test.false)))),
          );
      kept = c.loop-turn.invariant.kept;
    }

pub returns-in_err-peek : goal.returns-in_err-peek
returns-in_err-peek c =
    record {
      outcome = no_memory _ _ _ _ _ _ _ c.from_residual-in_err-peek.result c.from_residual-in_err-peek.ensures.1;
      kept = stays_then c.loop-turn.invariant.kept c.in_err-peek.ensures.kept;
    }

pub returns-in_err-take-in-Comma : goal.returns-in_err-take-in-Comma
returns-in_err-take-in-Comma c =
    record {
      outcome = no_memory _ _ _ _ _ _ _ c.from_residual-in_err-take-in-Comma.result c.from_residual-in_err-take-in-Comma.ensures.1;
      kept = stays_then c.loop-turn.invariant.kept (stays_then c.in_ok-peek.ensures.kept c.in_err-take-in-Comma.ensures.kept);
    }

pub returns-in_err-push-in-Comma : goal.returns-in_err-push-in-Comma
returns-in_err-push-in-Comma c =
    record {
      outcome = no_memory _ _ _ _ _ _ _ c.from_residual-in_err-push-in-Comma.result c.from_residual-in_err-push-in-Comma.ensures.1;
      kept = stays_then c.loop-turn.invariant.kept (stays_then c.in_ok-peek.ensures.kept (stays_then c.in_ok-take-in-Comma.ensures.kept c.in_ok-argument-in-Comma.ensures.kept));
    }
