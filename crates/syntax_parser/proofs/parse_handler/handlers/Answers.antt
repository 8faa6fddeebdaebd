use Rattle.std.proofs.Common.{◌≡◌, ◌+◌, ◌∷◌, [], ◌++◌, length, sym, ap, ◌∙◌, arith, length-append}
use Rattle.syntax_grammar.specs.Phrase.{handlers_words}
use Rattle.syntax_grammar.specs.Tree.{handlers_trees}
use Rattle.syntax_parser.proofs.ListLoops.{and_handler, and_handler-words, and_handler-trees}
use Rattle.syntax_parser.proofs.Steps.{passed_then, passed_still, refused_after}
use Rattle.syntax_parser.proofs.Exits.{passed_on, no_memory, grown, stays, stays_then}
use Rattle.syntax_parser.proofs.parse_handler.handlers.Goals as goal

pub handlers-preserved : goal.handlers-preserved
handlers-preserved c =
    let so_far = c.handlers.invariant in
    let seen = c.in_ok-peek.ensures in
    let f = c.in_ok-next-in-Handler.ensures in
    let s = f.reads.outcome.0.phrase in
    let long : length c.push.new.self.items ≡ length c.handlers.items.items + 1 = ap length c.in_ok-push-in-Handler.ensures.items ∙ length-append c.handlers.items.items _ in
    record {
      so_far = and_handler so_far.so_far s;
      read = so_far.read ∙ ap (handlers_words so_far.so_far) (sym seen.words ∙ f.reads.outcome.0.read) ∙ sym (and_handler-words so_far.so_far s _);
      value = c.in_ok-push-in-Handler.ensures.items ∙ ap (λ l. l ++ c.in_ok-next-in-Handler.next ∷ []) so_far.value ∙ ap (λ x. handlers_trees so_far.so_far ++ x ∷ []) f.reads.outcome.0.value ∙ sym (and_handler-trees so_far.so_far s);
      room = omega (arith, so_far.room, f.shorter, long, ap length seen.words);
      passed = passed_then so_far.passed (passed_then (passed_still seen.words seen.end seen.signs) f.reads.outcome.1);
      kept = stays_then so_far.kept (stays_then seen.kept f.reads.kept);
    }

pub returns-in_err-peek : goal.returns-in_err-peek
returns-in_err-peek c =
    record {
      outcome = no_memory _ _ _ _ _ _ _ c.from_residual.result c.from_residual.ensures.1;
      kept = stays_then c.handlers.invariant.kept c.in_err-peek.ensures.kept;
    }

pub returns-in_err-next-in-Handler : goal.returns-in_err-next-in-Handler
returns-in_err-next-in-Handler c =
    record {
      outcome = passed_on _ _ _ _ c.from_residual-in_err-next-in-Handler.result c.from_residual-in_err-next-in-Handler.ensures.1 (λ some. refused_after c.handlers.invariant.passed (refused_after (passed_still c.in_ok-peek.ensures.words c.in_ok-peek.ensures.end c.in_ok-peek.ensures.signs) (c.in_err-next-in-Handler.ensures.reads.outcome some)));
      kept = stays_then c.handlers.invariant.kept (stays_then c.in_ok-peek.ensures.kept c.in_err-next-in-Handler.ensures.reads.kept);
    }

pub returns-in_err-push-in-Handler : goal.returns-in_err-push-in-Handler
returns-in_err-push-in-Handler c =
    record {
      outcome = no_memory _ _ _ _ _ _ _ c.from_residual-in_err-push-in-Handler.result c.from_residual-in_err-push-in-Handler.ensures.1;
      kept = stays_then c.handlers.invariant.kept (stays_then c.in_ok-peek.ensures.kept c.in_ok-next-in-Handler.ensures.reads.kept);
    }
