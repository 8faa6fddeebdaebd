use Rattle.std.proofs.Common.{◌≡◌, ◌+◌, ◌∷◌, [], ◌++◌, length, refl, sym, ap, ◌∙◌, arith, length-append}
use Rattle.syntax_grammar.specs.Next.{tables, where_table}
use Rattle.syntax_grammar.specs.Phrase.{tables_words}
use Rattle.syntax_grammar.specs.Tree.{tables_trees}
use Rattle.syntax_parser.proofs.ListLoops.{and_table, and_table-words, and_table-trees}
use Rattle.syntax_parser.proofs.Steps.{passed_then, passed_still, passed_over, refused_after}
use Rattle.syntax_parser.proofs.Exits.{passed_on, no_memory, grown, stays, stays_then}
use Rattle.syntax_parser.proofs.parse_table.tables.Goals as goal

pub tables-preserved : goal.tables-preserved
tables-preserved c =
    let so_far = c.tables.invariant in
    let seen = c.in_ok-peek.ensures in
    let f = c.in_ok-next-in-Some.ensures in
    let s = f.reads.outcome.0.phrase in
    let long : length c.push.new.self.items ≡ length c.tables.items.items + 1 = ap length c.in_ok-push-in-Some.ensures.items ∙ length-append c.tables.items.items _ in
    record {
      so_far = and_table so_far.so_far s;
      read = so_far.read ∙ ap (tables_words so_far.so_far) (sym seen.words ∙ f.reads.outcome.0.read) ∙ sym (and_table-words so_far.so_far s _);
      value = c.in_ok-push-in-Some.ensures.items ∙ ap (λ l. l ++ c.in_ok-next-in-Some.next ∷ []) so_far.value ∙ ap (λ x. tables_trees so_far.so_far ++ x ∷ []) f.reads.outcome.0.value ∙ sym (and_table-trees so_far.so_far s);
      room = omega (arith, so_far.room, f.shorter, long, ap length seen.words);
      passed = passed_then so_far.passed (passed_then (passed_still seen.words seen.end seen.signs) f.reads.outcome.1);
      kept = stays_then so_far.kept (stays_then seen.kept f.reads.kept);
    }

pub returns-in-None : goal.returns-in-None
returns-in-None c =
    let so_far = c.tables.invariant in
    let seen = c.in_ok-peek.ensures in
    record {
      outcome = (
        record { phrase = so_far.so_far; read = so_far.read ∙ ap (tables_words so_far.so_far) (sym seen.words); value = c.list.ensures ∙ so_far.value },
        passed_then so_far.passed (passed_over _ tables [] _ _ _ seen.word seen.words seen.end seen.signs refl (ap where_table (sym c.in-None.ensures))),
      );
      kept = stays_then so_far.kept seen.kept;
    }

pub returns-in_err-peek : goal.returns-in_err-peek
returns-in_err-peek c =
    record {
      outcome = no_memory _ _ _ _ _ _ _ c.from_residual.result c.from_residual.ensures.1;
      kept = stays_then c.tables.invariant.kept c.in_err-peek.ensures.kept;
    }

pub returns-in_err-next-in-Some : goal.returns-in_err-next-in-Some
returns-in_err-next-in-Some c =
    record {
      outcome = passed_on _ _ _ _ c.from_residual-in_err-next-in-Some.result c.from_residual-in_err-next-in-Some.ensures.1 (λ some. refused_after c.tables.invariant.passed (refused_after (passed_still c.in_ok-peek.ensures.words c.in_ok-peek.ensures.end c.in_ok-peek.ensures.signs) (c.in_err-next-in-Some.ensures.reads.outcome some)));
      kept = stays_then c.tables.invariant.kept (stays_then c.in_ok-peek.ensures.kept c.in_err-next-in-Some.ensures.reads.kept);
    }

pub returns-in_err-push-in-Some : goal.returns-in_err-push-in-Some
returns-in_err-push-in-Some c =
    record {
      outcome = no_memory _ _ _ _ _ _ _ c.from_residual-in_err-push-in-Some.result c.from_residual-in_err-push-in-Some.ensures.1;
      kept = stays_then c.tables.invariant.kept (stays_then c.in_ok-peek.ensures.kept c.in_ok-next-in-Some.ensures.reads.kept);
    }
