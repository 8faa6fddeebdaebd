use Rattle.std.proofs.Common.{◌≡◌, ◌+◌, ◌∷◌, [], ◌++◌, length, refl, sym, ap, ◌∙◌, arith, length-append}
use Rattle.std.proofs.lemmas.Bool.{lt-leb}
use Rattle.syntax_grammar.specs.declared.word.Sort.TheVariants as sort
use Rattle.syntax_trees.specs.declared.stmt.Stmt.TheVariants as stmt
use Rattle.syntax_grammar.specs.Bounds.{where_over, block_depth}
use Rattle.syntax_grammar.specs.Next.{Inside, mark, expression, a_compare, a_count, a_name, a_block, or_else, statements, where_statement}
use Rattle.syntax_grammar.specs.Phrase.{word, block, no_else, an_else, if_stmt, repeat_stmt, no_stmt, cond_words, turns_words, block_words, stmts_words}
use Rattle.syntax_grammar.specs.Tree.{repeat_tree, cond_tree, turns_of, block_trees, stmts_trees}
use Rattle.syntax_grammar.proofs.Rows.{else_none}
use Rattle.syntax_parser.proofs.Steps.{took, took_seen, passed_one, passed_then, passed_framed, passed_same, passed_still, passed_over, passed_word, refused_after, refused_framed}
use Rattle.syntax_parser.proofs.ListLoops.{and_stmt, and_stmt-words, and_stmt-trees}
use Rattle.syntax_parser.proofs.Exits.{passed_on, no_memory, none_read, grown, fewer, stays, stays_then}
use Rattle.syntax_parser.proofs.Steps.{in_front, refused_limit}
use Rattle.std.proofs.lemmas.Bool.{le-leb}
use Rattle.syntax_parser.proofs.parse_block.+block.Goals as goal

pub block-returns-in_ok-mark-in-LeftBrace : goal.block-returns-in_ok-mark-in-LeftBrace
block-returns-in_ok-mark-in-LeftBrace t c =
    record {
      outcome =
          let at = c.in_ok-word.word.at in
          let first = took _ _ _ _ sort.LeftBrace c.in_ok-word.ensures.word c.in-LeftBrace.is (λ e. cc) c.in_ok-word.ensures.words in
          let b = c.in_ok-body-in-LeftBrace.ensures.outcome in
          let r = c.in_ok-mark-in-LeftBrace.ensures.outcome in (
            record {
              phrase = block at b.0.phrase r.0.phrase;
              read = first ∙ ap (λ l. word sort.LeftBrace at ∷ l) (b.0.read ∙ ap (stmts_words b.0.phrase) r.0.read);
              value = b.0.value;
            },
            passed_then (passed_one (Inside c.args.depth) _ _ a_block (statements ∷ mark sort.RightBrace ∷ []) _ first c.take.ensures.end c.take.ensures.signs refl (λ under h. ap (where_over block_depth) (lt-leb _ _ (omega (arith, h.depth_is, c.if-depth-ge-MAX_DEPTH.false)))))
                (passed_then (passed_framed (mark sort.RightBrace ∷ []) (λ under h. record { none_open = h.none_open; depth_is = omega (arith, h.depth_is) }) b.1)
                (passed_framed [] (λ under h. tt) r.1)),
          );
      kept = stays_then c.in_ok-word.ensures.kept (stays_then c.in_ok-body-in-LeftBrace.ensures.kept c.in_ok-mark-in-LeftBrace.ensures.kept);
    }

pub choice-returns : goal.choice-returns
choice-returns t c =
    record {
      reads = record {
        outcome =
            let w = c.in_ok-word.ensures.word in
            let at = c.in_ok-word.word.at in
            let first = took _ _ _ _ sort.If w (ap (λ x. x.sort) w ∙ c.requires.first) (λ e. cc) c.in_ok-word.ensures.words in
            let d = c.in_ok-condition.ensures.outcome in
            let y = c.in_ok-yes.ensures.outcome in
            let n = c.in_ok-no.ensures.outcome in (
              record {
                phrase = if_stmt at d.0.phrase y.0.phrase n.0.phrase;
                read = first ∙ ap (λ l. word sort.If at ∷ l) (d.0.read ∙ ap (cond_words d.0.phrase) (y.0.read ∙ ap (block_words y.0.phrase) n.0.read));
                value = ap (λ x. stmt.Choose at x c.in_ok-yes.yes c.in_ok-no.no) (c.in_ok-cond.ensures ∙ d.0.value) ∙ ap (λ x. stmt.Choose at (cond_tree d.0.phrase) x c.in_ok-no.no) y.0.value ∙ ap (stmt.Choose at (cond_tree d.0.phrase) (block_trees y.0.phrase)) n.0.value;
              },
              passed_then (passed_one (Inside c.args.depth) _ _ statements (expression ∷ a_compare ∷ expression ∷ a_block ∷ or_else ∷ statements ∷ []) _ first c.take.ensures.end c.take.ensures.signs refl (λ under h. refl))
                  (passed_then (passed_framed (a_block ∷ or_else ∷ statements ∷ []) (λ under h. h.none_open) d.1)
                  (passed_then (passed_framed (or_else ∷ statements ∷ []) (λ under h. record { none_open = h.none_open; depth_is = h.depth_is }) y.1)
                  (passed_framed (statements ∷ []) (λ under h. record { none_open = h.none_open; depth_is = h.depth_is }) n.1))),
            );
        kept = stays_then c.in_ok-word.ensures.kept (stays_then c.in_ok-condition.ensures.kept (stays_then c.in_ok-yes.ensures.kept c.in_ok-no.ensures.kept));
      };
      shorter = fewer _ (took _ _ _ _ sort.If c.in_ok-word.ensures.word (ap (λ x. x.sort) c.in_ok-word.ensures.word ∙ c.requires.first) (λ e. cc) c.in_ok-word.ensures.words) (grown c.in_ok-no.ensures.outcome.1.no_longer (grown c.in_ok-yes.ensures.outcome.1.no_longer c.in_ok-condition.ensures.outcome.1.no_longer));
    }

pub repetition-returns : goal.repetition-returns
repetition-returns t c =
    record {
      reads = record {
        outcome =
            let w = c.in_ok-word.ensures.word in
            let at = c.in_ok-word.word.at in
            let first = took _ _ _ _ sort.Repeat w (ap (λ x. x.sort) w ∙ c.requires.first) (λ e. cc) c.in_ok-word.ensures.words in
            let d = c.in_ok-head.ensures.outcome in
            let b = c.in_ok-body.ensures.outcome in (
              record {
                phrase = repeat_stmt at d.0.phrase b.0.phrase;
                read = first ∙ ap (λ l. word sort.Repeat at ∷ l) (d.0.read ∙ ap (turns_words d.0.phrase) b.0.read);
                value = ap (λ x. repeat_tree at x c.in_ok-body.body) d.0.value ∙ ap (repeat_tree at (turns_of d.0.phrase)) b.0.value;
              },
              passed_then (passed_one (Inside c.args.depth) _ _ statements (a_count ∷ mark sort.As ∷ a_name ∷ a_block ∷ statements ∷ []) _ first c.take.ensures.end c.take.ensures.signs refl (λ under h. refl))
                  (passed_then (passed_framed (a_block ∷ statements ∷ []) (λ under h. tt) d.1)
                  (passed_framed (statements ∷ []) (λ under h. record { none_open = h.none_open; depth_is = h.depth_is }) b.1)),
            );
        kept = stays_then c.in_ok-word.ensures.kept (stays_then c.in_ok-head.ensures.kept c.in_ok-body.ensures.kept);
      };
      shorter = fewer _ (took _ _ _ _ sort.Repeat c.in_ok-word.ensures.word (ap (λ x. x.sort) c.in_ok-word.ensures.word ∙ c.requires.first) (λ e. cc) c.in_ok-word.ensures.words) (grown c.in_ok-body.ensures.outcome.1.no_longer c.in_ok-head.ensures.outcome.1.no_longer);
    }

pub otherwise-returns-in_ok-body-in-Else : goal.otherwise-returns-in_ok-body-in-Else
otherwise-returns-in_ok-body-in-Else t c =
    record {
      outcome =
          let seen = c.in_ok-peek.ensures in
          let taken = c.in_ok-take-in-Else.ensures in
          let at = c.in_ok-peek.field-0.at in
          let first = took_seen c.args.input.now c.peek.new.self c.take.new.self _ sort.Else seen.word seen.words c.in-Else.is (λ e. cc) taken.words in
          let b = c.in_ok-body-in-Else.ensures.outcome in (
            record { phrase = an_else at b.0.phrase; read = first ∙ ap (λ l. word sort.Else at ∷ l) b.0.read; value = b.0.value },
            passed_then (passed_one (Inside c.args.depth) c.args.input.now c.take.new.self or_else (a_block ∷ []) _ first (taken.end ∙ seen.end) (taken.signs ∙ seen.signs) refl (λ under h. refl)) b.1,
          );
      kept = stays_then c.in_ok-peek.ensures.kept (stays_then c.in_ok-take-in-Else.ensures.kept c.in_ok-body-in-Else.ensures.kept);
    }

pub otherwise-returns-in_default : goal.otherwise-returns-in_default
otherwise-returns-in_default t c =
    record {
      outcome =
          let seen = c.in_ok-peek.ensures in (
            record { phrase = no_else; read = sym seen.words; value = c.from_vec.ensures ∙ c.new.ensures.items },
            passed_over _ or_else [] _ _ _ seen.word seen.words seen.end seen.signs refl (else_none _ c.in_default.not-Else),
          );
      kept = c.in_ok-peek.ensures.kept;
    }

pub statements-statements-init : goal.statements-statements-init
statements-statements-init t c =
    record {
      so_far = no_stmt;
      read = refl;
      value = c.new-items.ensures.items;
      room = omega (arith, ap length c.new-items.ensures.items);
      passed = passed_same;
      kept = stays;
    }

pub statements-statements-preserved : goal.statements-statements-preserved
statements-statements-preserved t c =
    let so_far = c.statements.invariant in
    let seen = c.in_ok-peek.ensures in
    let f = c.in_ok-next-in-Some.ensures in
    let s = f.reads.outcome.0.phrase in
    let long : length c.push.new.self.items ≡ length c.statements.items.items + 1 = ap length c.in_ok-push-in-Some.ensures.items ∙ length-append c.statements.items.items _ in
    record {
      so_far = and_stmt so_far.so_far s;
      read = so_far.read ∙ ap (stmts_words so_far.so_far) (sym seen.words ∙ f.reads.outcome.0.read) ∙ sym (and_stmt-words so_far.so_far s _);
      value = c.in_ok-push-in-Some.ensures.items ∙ ap (λ l. l ++ c.in_ok-next-in-Some.next ∷ []) so_far.value ∙ ap (λ x. stmts_trees so_far.so_far ++ x ∷ []) f.reads.outcome.0.value ∙ sym (and_stmt-trees so_far.so_far s);
      room = omega (arith, so_far.room, f.shorter, long, ap length seen.words);
      passed = passed_then so_far.passed (passed_then (passed_still seen.words seen.end seen.signs) f.reads.outcome.1);
      kept = stays_then so_far.kept (stays_then seen.kept f.reads.kept);
    }

pub statements-returns-in-None : goal.statements-returns-in-None
statements-returns-in-None t c =
    let so_far = c.statements.invariant in
    let seen = c.in_ok-peek.ensures in
    record {
      outcome = (
        record { phrase = so_far.so_far; read = so_far.read ∙ ap (stmts_words so_far.so_far) (sym seen.words); value = c.list.ensures ∙ so_far.value },
        passed_then so_far.passed (passed_over _ statements [] _ _ _ seen.word seen.words seen.end seen.signs refl (ap where_statement (sym c.in-None.ensures))),
      );
      kept = stays_then so_far.kept seen.kept;
    }

pub block-returns-in_err-word : goal.block-returns-in_err-word
block-returns-in_err-word t c =
    record {
      outcome = no_memory _ _ _ _ _ _ _ c.from_residual.result c.from_residual.ensures.1;
      kept = c.in_err-word.ensures.kept;
    }

pub block-returns-then-depth-ge-MAX_DEPTH : goal.block-returns-then-depth-ge-MAX_DEPTH
block-returns-then-depth-ge-MAX_DEPTH t c =
    record {
      outcome = λ some.
          refused_limit (Inside c.args.depth) a_block [] (statements ∷ mark sort.RightBrace ∷ []) c.args.input.now _ _ block_depth (in_front _ _ _ sort.LeftBrace c.in_ok-word.ensures.word c.in-LeftBrace.is (λ e. cc)) refl (λ under h. ap (where_over block_depth) (le-leb _ _ (omega (arith, h.depth_is, c.if-depth-ge-MAX_DEPTH.true))));
      kept = c.in_ok-word.ensures.kept;
    }

pub block-returns-in_err-body-in-LeftBrace : goal.block-returns-in_err-body-in-LeftBrace
block-returns-in_err-body-in-LeftBrace t c =
    record {
      outcome = passed_on _ _ _ _ c.from_residual-in_err-body-in-LeftBrace.result c.from_residual-in_err-body-in-LeftBrace.ensures.1 (λ some. refused_after (passed_word (Inside c.args.depth) c.args.input.now c.take.new.self a_block (statements ∷ mark sort.RightBrace ∷ []) _ sort.LeftBrace c.in_ok-word.ensures.word c.in-LeftBrace.is (λ e. cc) c.in_ok-word.ensures.words c.take.ensures.end c.take.ensures.signs refl (λ under h. ap (where_over block_depth) (lt-leb _ _ (omega (arith, h.depth_is, c.if-depth-ge-MAX_DEPTH.false))))) (refused_framed (mark sort.RightBrace ∷ []) (λ under h. record { none_open = h.none_open; depth_is = omega (arith, h.depth_is) }) (c.in_err-body-in-LeftBrace.ensures.outcome some)));
      kept = stays_then c.in_ok-word.ensures.kept c.in_err-body-in-LeftBrace.ensures.kept;
    }

pub block-returns-in_err-mark-in-LeftBrace : goal.block-returns-in_err-mark-in-LeftBrace
block-returns-in_err-mark-in-LeftBrace t c =
    record {
      outcome = passed_on _ _ _ _ c.from_residual-in_err-mark-in-LeftBrace.result c.from_residual-in_err-mark-in-LeftBrace.ensures.1 (λ some. refused_after (passed_word (Inside c.args.depth) c.args.input.now c.take.new.self a_block (statements ∷ mark sort.RightBrace ∷ []) _ sort.LeftBrace c.in_ok-word.ensures.word c.in-LeftBrace.is (λ e. cc) c.in_ok-word.ensures.words c.take.ensures.end c.take.ensures.signs refl (λ under h. ap (where_over block_depth) (lt-leb _ _ (omega (arith, h.depth_is, c.if-depth-ge-MAX_DEPTH.false))))) (refused_after (passed_framed (mark sort.RightBrace ∷ []) (λ under h. record { none_open = h.none_open; depth_is = omega (arith, h.depth_is) }) c.in_ok-body-in-LeftBrace.ensures.outcome.1) (refused_framed [] (λ under h. tt) (c.in_err-mark-in-LeftBrace.ensures.outcome some))));
      kept = stays_then c.in_ok-word.ensures.kept (stays_then c.in_ok-body-in-LeftBrace.ensures.kept c.in_err-mark-in-LeftBrace.ensures.kept);
    }

pub choice-returns-in_err-word : goal.choice-returns-in_err-word
choice-returns-in_err-word t c =
    record {
      reads = record {
        outcome = no_memory _ _ _ _ _ _ _ c.from_residual.result c.from_residual.ensures.1;
        kept = c.in_err-word.ensures.kept;
      };
      shorter = none_read _ _ c.from_residual.result c.from_residual.ensures.1;
    }

pub choice-returns-in_err-condition : goal.choice-returns-in_err-condition
choice-returns-in_err-condition t c =
    record {
      reads = record {
        outcome = passed_on _ _ _ _ c.from_residual-in_err-condition.result c.from_residual-in_err-condition.ensures.1 (λ some. refused_after (passed_word (Inside c.args.depth) c.args.input.now c.take.new.self statements (expression ∷ a_compare ∷ expression ∷ a_block ∷ or_else ∷ statements ∷ []) _ sort.If c.in_ok-word.ensures.word (ap (λ x. x.sort) c.in_ok-word.ensures.word ∙ c.requires.first) (λ e. cc) c.in_ok-word.ensures.words c.take.ensures.end c.take.ensures.signs refl (λ under h. refl)) (refused_framed (a_block ∷ or_else ∷ statements ∷ []) (λ under h. h.none_open) (c.in_err-condition.ensures.outcome some)));
        kept = stays_then c.in_ok-word.ensures.kept c.in_err-condition.ensures.kept;
      };
      shorter = none_read _ _ c.from_residual-in_err-condition.result c.from_residual-in_err-condition.ensures.1;
    }

pub choice-returns-in_err-cond : goal.choice-returns-in_err-cond
choice-returns-in_err-cond t c =
    record {
      reads = record {
        outcome = no_memory _ _ _ _ _ _ _ c.from_residual-in_err-cond.result c.from_residual-in_err-cond.ensures.1;
        kept = stays_then c.in_ok-word.ensures.kept c.in_ok-condition.ensures.kept;
      };
      shorter = none_read _ _ c.from_residual-in_err-cond.result c.from_residual-in_err-cond.ensures.1;
    }

pub choice-returns-in_err-yes : goal.choice-returns-in_err-yes
choice-returns-in_err-yes t c =
    record {
      reads = record {
        outcome = passed_on _ _ _ _ c.from_residual-in_err-yes.result c.from_residual-in_err-yes.ensures.1 (λ some. refused_after (passed_word (Inside c.args.depth) c.args.input.now c.take.new.self statements (expression ∷ a_compare ∷ expression ∷ a_block ∷ or_else ∷ statements ∷ []) _ sort.If c.in_ok-word.ensures.word (ap (λ x. x.sort) c.in_ok-word.ensures.word ∙ c.requires.first) (λ e. cc) c.in_ok-word.ensures.words c.take.ensures.end c.take.ensures.signs refl (λ under h. refl)) (refused_after (passed_framed (a_block ∷ or_else ∷ statements ∷ []) (λ under h. h.none_open) c.in_ok-condition.ensures.outcome.1) (refused_framed (or_else ∷ statements ∷ []) (λ under h. record { none_open = h.none_open; depth_is = h.depth_is }) (c.in_err-yes.ensures.outcome some))));
        kept = stays_then c.in_ok-word.ensures.kept (stays_then c.in_ok-condition.ensures.kept c.in_err-yes.ensures.kept);
      };
      shorter = none_read _ _ c.from_residual-in_err-yes.result c.from_residual-in_err-yes.ensures.1;
    }

pub choice-returns-in_err-no : goal.choice-returns-in_err-no
choice-returns-in_err-no t c =
    record {
      reads = record {
        outcome = passed_on _ _ _ _ c.from_residual-in_err-no.result c.from_residual-in_err-no.ensures.1 (λ some. refused_after (passed_word (Inside c.args.depth) c.args.input.now c.take.new.self statements (expression ∷ a_compare ∷ expression ∷ a_block ∷ or_else ∷ statements ∷ []) _ sort.If c.in_ok-word.ensures.word (ap (λ x. x.sort) c.in_ok-word.ensures.word ∙ c.requires.first) (λ e. cc) c.in_ok-word.ensures.words c.take.ensures.end c.take.ensures.signs refl (λ under h. refl)) (refused_after (passed_framed (a_block ∷ or_else ∷ statements ∷ []) (λ under h. h.none_open) c.in_ok-condition.ensures.outcome.1) (refused_after (passed_framed (or_else ∷ statements ∷ []) (λ under h. record { none_open = h.none_open; depth_is = h.depth_is }) c.in_ok-yes.ensures.outcome.1) (refused_framed (statements ∷ []) (λ under h. record { none_open = h.none_open; depth_is = h.depth_is }) (c.in_err-no.ensures.outcome some)))));
        kept = stays_then c.in_ok-word.ensures.kept (stays_then c.in_ok-condition.ensures.kept (stays_then c.in_ok-yes.ensures.kept c.in_err-no.ensures.kept));
      };
      shorter = none_read _ _ c.from_residual-in_err-no.result c.from_residual-in_err-no.ensures.1;
    }

pub otherwise-returns-in_err-peek : goal.otherwise-returns-in_err-peek
otherwise-returns-in_err-peek t c =
    record {
      outcome = no_memory _ _ _ _ _ _ _ c.from_residual.result c.from_residual.ensures.1;
      kept = c.in_err-peek.ensures.kept;
    }

pub otherwise-returns-in_err-take-in-Else : goal.otherwise-returns-in_err-take-in-Else
otherwise-returns-in_err-take-in-Else t c =
    record {
      outcome = no_memory _ _ _ _ _ _ _ c.from_residual-in_err-take-in-Else.result c.from_residual-in_err-take-in-Else.ensures.1;
      kept = stays_then c.in_ok-peek.ensures.kept c.in_err-take-in-Else.ensures.kept;
    }

pub otherwise-returns-in_err-body-in-Else : goal.otherwise-returns-in_err-body-in-Else
otherwise-returns-in_err-body-in-Else t c =
    record {
      outcome = passed_on _ _ _ _ c.from_residual-in_err-body-in-Else.result c.from_residual-in_err-body-in-Else.ensures.1 (λ some. refused_after (passed_one (Inside c.args.depth) c.args.input.now c.take.new.self or_else (a_block ∷ []) _ (took_seen c.args.input.now c.peek.new.self c.take.new.self _ sort.Else c.in_ok-peek.ensures.word c.in_ok-peek.ensures.words c.in-Else.is (λ e. cc) c.in_ok-take-in-Else.ensures.words) (c.in_ok-take-in-Else.ensures.end ∙ c.in_ok-peek.ensures.end) (c.in_ok-take-in-Else.ensures.signs ∙ c.in_ok-peek.ensures.signs) refl (λ under h. refl)) (c.in_err-body-in-Else.ensures.outcome some));
      kept = stays_then c.in_ok-peek.ensures.kept (stays_then c.in_ok-take-in-Else.ensures.kept c.in_err-body-in-Else.ensures.kept);
    }

pub repetition-returns-in_err-word : goal.repetition-returns-in_err-word
repetition-returns-in_err-word t c =
    record {
      reads = record {
        outcome = no_memory _ _ _ _ _ _ _ c.from_residual.result c.from_residual.ensures.1;
        kept = c.in_err-word.ensures.kept;
      };
      shorter = none_read _ _ c.from_residual.result c.from_residual.ensures.1;
    }

pub repetition-returns-in_err-head : goal.repetition-returns-in_err-head
repetition-returns-in_err-head t c =
    record {
      reads = record {
        outcome = passed_on _ _ _ _ c.from_residual-in_err-head.result c.from_residual-in_err-head.ensures.1 (λ some. refused_after (passed_word (Inside c.args.depth) c.args.input.now c.take.new.self statements (a_count ∷ mark sort.As ∷ a_name ∷ a_block ∷ statements ∷ []) _ sort.Repeat c.in_ok-word.ensures.word (ap (λ x. x.sort) c.in_ok-word.ensures.word ∙ c.requires.first) (λ e. cc) c.in_ok-word.ensures.words c.take.ensures.end c.take.ensures.signs refl (λ under h. refl)) (refused_framed (a_block ∷ statements ∷ []) (λ under h. tt) (c.in_err-head.ensures.outcome some)));
        kept = stays_then c.in_ok-word.ensures.kept c.in_err-head.ensures.kept;
      };
      shorter = none_read _ _ c.from_residual-in_err-head.result c.from_residual-in_err-head.ensures.1;
    }

pub repetition-returns-in_err-body : goal.repetition-returns-in_err-body
repetition-returns-in_err-body t c =
    record {
      reads = record {
        outcome = passed_on _ _ _ _ c.from_residual-in_err-body.result c.from_residual-in_err-body.ensures.1 (λ some. refused_after (passed_word (Inside c.args.depth) c.args.input.now c.take.new.self statements (a_count ∷ mark sort.As ∷ a_name ∷ a_block ∷ statements ∷ []) _ sort.Repeat c.in_ok-word.ensures.word (ap (λ x. x.sort) c.in_ok-word.ensures.word ∙ c.requires.first) (λ e. cc) c.in_ok-word.ensures.words c.take.ensures.end c.take.ensures.signs refl (λ under h. refl)) (refused_after (passed_framed (a_block ∷ statements ∷ []) (λ under h. tt) c.in_ok-head.ensures.outcome.1) (refused_framed (statements ∷ []) (λ under h. record { none_open = h.none_open; depth_is = h.depth_is }) (c.in_err-body.ensures.outcome some))));
        kept = stays_then c.in_ok-word.ensures.kept (stays_then c.in_ok-head.ensures.kept c.in_err-body.ensures.kept);
      };
      shorter = none_read _ _ c.from_residual-in_err-body.result c.from_residual-in_err-body.ensures.1;
    }

pub statements-returns-in_err-peek : goal.statements-returns-in_err-peek
statements-returns-in_err-peek t c =
    record {
      outcome = no_memory _ _ _ _ _ _ _ c.from_residual.result c.from_residual.ensures.1;
      kept = stays_then c.statements.invariant.kept c.in_err-peek.ensures.kept;
    }

pub statements-returns-in_err-next-in-Some : goal.statements-returns-in_err-next-in-Some
statements-returns-in_err-next-in-Some t c =
    record {
      outcome = passed_on _ _ _ _ c.from_residual-in_err-next-in-Some.result c.from_residual-in_err-next-in-Some.ensures.1 (λ some. refused_after c.statements.invariant.passed (refused_after (passed_still c.in_ok-peek.ensures.words c.in_ok-peek.ensures.end c.in_ok-peek.ensures.signs) (c.in_err-next-in-Some.ensures.reads.outcome some)));
      kept = stays_then c.statements.invariant.kept (stays_then c.in_ok-peek.ensures.kept c.in_err-next-in-Some.ensures.reads.kept);
    }

pub statements-returns-in_err-push-in-Some : goal.statements-returns-in_err-push-in-Some
statements-returns-in_err-push-in-Some t c =
    record {
      outcome = no_memory _ _ _ _ _ _ _ c.from_residual-in_err-push-in-Some.result c.from_residual-in_err-push-in-Some.ensures.1;
      kept = stays_then c.statements.invariant.kept (stays_then c.in_ok-peek.ensures.kept c.in_ok-next-in-Some.ensures.reads.kept);
    }
