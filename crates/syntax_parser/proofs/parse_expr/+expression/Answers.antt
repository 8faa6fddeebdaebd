use Rattle.std.proofs.Common.{arith, ◌≡◌, refl, sym, ap, ◌∙◌, ◌∷◌, [], ℕ, ◌+◌}
use Rattle.std.proofs.lemmas.Bool.{lt-leb}
use Rattle.std.proofs.lemmas.Result.{err_from_is_err_and}
use Rattle.syntax_grammar.specs.declared.word.Sort.TheVariants as sort
use Rattle.syntax_trees.specs.declared.expr.Calc.{Calc}
use Rattle.syntax_trees.specs.declared.expr.Calc.TheVariants as calc
use Rattle.syntax_trees.specs.declared.expr.Expr.TheVariants as expr
use Rattle.syntax_trees.specs.Alone.{alone}
use Rattle.syntax_grammar.specs.Bounds.{where_over, open_parentheses, operator_signs}
use Rattle.syntax_grammar.specs.Next.{Opened, operand, more_factors, more_terms, closing}
use Rattle.syntax_grammar.specs.Phrase.{word, plain, grouped, no_factor, term, MoreTerms, no_term, sum, expr_words, factor_words, factors_words, term_words, terms_words}
use Rattle.syntax_grammar.specs.Tree.{factors_tree, factor_tree, terms_tree, term_tree}
use Rattle.syntax_parser.specs.Reads.{Passed}
use Rattle.syntax_grammar.proofs.Rows.{factors_none, terms_none}
use Rattle.syntax_parser.proofs.Steps.{passed_one, passed_then, passed_framed, passed_over, passed_still, took_seen, refused_after, refused_framed}
use Rattle.syntax_parser.proofs.ExprSteps.{passed_atom, refused_atom}
use Rattle.syntax_grammar.proofs.OneMore.{and_factor, and_factor-words, and_factor-tree, and_plus, and_plus-words, and_plus-tree, and_minus, and_minus-words, and_minus-tree}
use Rattle.syntax_parser.proofs.Loops.{TermsSoFar}
use Rattle.syntax_parser.proofs.Exits.{passed_on, no_memory, grown, stays, stays_then}
use Rattle.syntax_parser.proofs.Steps.{in_front, refused_limit}
use Rattle.std.proofs.lemmas.Bool.{le-leb}
use Rattle.syntax_parser.proofs.ExprSteps.{refused_sign}
use Rattle.syntax_parser.proofs.parse_expr.+expression.Goals as goal
use Rattle.syntax_parser.proofs.parse_expr.+expression.Goals.{sum-in-Plus, sum-in-Minus}

pub factor-returns-in_ok-close-in-LeftParen : goal.factor-returns-in_ok-close-in-LeftParen
factor-returns-in_ok-close-in-LeftParen t c =
    record {
      outcome =
          let seen = c.in_ok-word.ensures in
          let taken = c.in_ok-take-in-LeftParen.ensures in
          let at = c.in_ok-word.word.at in
          let read = took_seen c.args.input.now c.peek.new.self c.take.new.self _ sort.LeftParen seen.word seen.words c.in-LeftParen.is (λ e. cc) taken.words in
          let inner = c.in_ok-inner-in-LeftParen.ensures.outcome in
          let closed = c.in_ok-close-in-LeftParen.ensures.outcome in (
            record {
              phrase = grouped at inner.0.phrase closed.0.phrase;
              read = read ∙ ap (λ l. word sort.LeftParen at ∷ l) (inner.0.read ∙ ap (expr_words inner.0.phrase) closed.0.read);
              value = inner.0.value;
            },
            passed_then (passed_one _ c.args.input.now c.take.new.self operand (operand ∷ more_factors ∷ more_terms ∷ closing ∷ []) _ read (taken.end ∙ seen.end) (taken.signs ∙ seen.signs) refl (λ under h. ap (where_over open_parentheses) (lt-leb _ _ (omega (arith, h, c.if-opened-ge-MAX_OPEN.false)))))
                (passed_then (passed_framed (closing ∷ []) (λ under h. omega (arith, h)) inner.1) (passed_framed [] (λ under h. tt) closed.1)),
          );
      kept = stays_then c.in_ok-word.ensures.kept (stays_then c.in_ok-take-in-LeftParen.ensures.kept (stays_then c.in_ok-inner-in-LeftParen.ensures.kept c.in_ok-close-in-LeftParen.ensures.kept));
    }

pub factor-returns-in_ok-atom-in_default : goal.factor-returns-in_ok-atom-in_default
factor-returns-in_ok-atom-in_default t c =
    record {
      outcome =
          let seen = c.in_ok-word.ensures in
          let found = c.in_ok-atom-in_default.ensures.outcome in (
            record { phrase = plain found.0.phrase; read = sym seen.words ∙ found.0.read; value = c.alone.ensures ∙ ap alone found.0.value },
            passed_atom _ [] [] c.args.input.now c.atom.new.input (λ e. c.in_default.not-LeftParen (ap (λ w. w.sort) seen.word ∙ e)) (passed_then (passed_still seen.words seen.end seen.signs) (passed_framed [] (λ under h. tt) found.1)),
          );
      kept = stays_then c.in_ok-word.ensures.kept c.in_ok-atom-in_default.ensures.kept;
    }

pub term-factors-init : goal.term-factors-init
term-factors-init t c =
    let found = c.in_ok-left.ensures in
    record {
      first = found.outcome.0.phrase;
      more = no_factor;
      read = found.outcome.0.read;
      value = found.outcome.0.value;
      passed = passed_framed (more_factors ∷ []) (λ under h. h) found.outcome.1;
      kept = found.kept;
    }

pub term-factors-preserved : goal.term-factors-preserved
term-factors-preserved t c =
    let so_far = c.factors.invariant in
    let seen = c.in_ok-peek.ensures in
    let at = c.in_ok-peek.field-0.at in
    let signed = c.in_ok-take_sign-in-Times.ensures in
    let sign = took_seen c.factors.input c.peek.new.self c.take_sign.new.self _ sort.Times seen.word seen.words c.in-Times.is (λ e. cc) signed.words in
    let found = c.in_ok-right-in-Times.ensures in
    record {
      first = so_far.first;
      more = and_factor so_far.more at found.outcome.0.phrase;
      read = so_far.read ∙ ap (λ l. factor_words so_far.first (factors_words so_far.more l)) (sign ∙ ap (λ l. word sort.Times at ∷ l) found.outcome.0.read) ∙ ap (factor_words so_far.first) (sym (and_factor-words so_far.more at found.outcome.0.phrase _));
      value = c.in_ok-left-in-Times.ensures ∙ ap (λ l. expr.Binary calc.Times (l, c.in_ok-right-in-Times.right)) so_far.value ∙ ap (λ r. expr.Binary calc.Times (factors_tree so_far.more (factor_tree so_far.first), r)) found.outcome.0.value ∙ sym (and_factor-tree so_far.more at found.outcome.0.phrase _);
      passed = passed_then so_far.passed (passed_then (passed_one _ c.factors.input c.take_sign.new.self more_factors (operand ∷ more_factors ∷ []) _ sign (signed.end ∙ seen.end) (signed.signs ∙ ap (λ n. n + 1) seen.signs) refl (λ under h. ap (where_over operator_signs) (lt-leb _ _ (omega (arith, signed.room, seen.signs))))) (passed_framed (more_factors ∷ []) (λ under h. h) found.outcome.1));
      kept = stays_then so_far.kept (stays_then seen.kept (stays_then signed.kept found.kept));
    }

pub term-returns-in_default : goal.term-returns-in_default
term-returns-in_default t c =
    let so_far = c.factors.invariant in
    let seen = c.in_ok-peek.ensures in
    record {
      outcome = (
        record { phrase = term so_far.first so_far.more; read = so_far.read ∙ ap (λ l. factor_words so_far.first (factors_words so_far.more l)) (sym seen.words); value = so_far.value },
        passed_then so_far.passed (passed_over _ more_factors [] _ _ _ seen.word seen.words seen.end seen.signs refl (factors_none _ c.in_default.not-Times)),
      );
      kept = stays_then so_far.kept seen.kept;
    }

pub sum-terms-init : goal.sum-terms-init
sum-terms-init t c =
    let found = c.in_ok-left.ensures in
    record {
      first = found.outcome.0.phrase;
      more = no_term;
      read = found.outcome.0.read;
      value = found.outcome.0.value;
      passed = passed_framed (more_terms ∷ []) (λ under h. h) found.outcome.1;
      kept = found.kept;
    }

pub sum-returns-in_default : goal.sum-returns-in_default
sum-returns-in_default t c =
    let so_far = c.terms.invariant in
    let seen = c.in_ok-peek.ensures in
    record {
      outcome = (
        record { phrase = sum so_far.first so_far.more; read = so_far.read ∙ ap (λ l. term_words so_far.first (terms_words so_far.more l)) (sym seen.words); value = so_far.value },
        passed_then so_far.passed (passed_over _ more_terms [] _ _ _ seen.word seen.words seen.end seen.signs refl (terms_none _ c.in_default.not-Plus c.in_default.not-Minus)),
      );
      kept = stays_then so_far.kept seen.kept;
    }

-- one more term behind the sign
and_term : (t : ℕ) (c : goal.sum-In_ok-left-2 t) → (calc' : Calc) (more : MoreTerms) → c.match-branch-3.calc ≡ calc' → terms_words more c.term-in-terms.new.input.reader.words ≡ terms_words c.terms.invariant.more c.terms.input.reader.words → terms_tree more (term_tree c.terms.invariant.first) ≡ expr.Binary calc' (terms_tree c.terms.invariant.more (term_tree c.terms.invariant.first), term_tree c.in_ok-right.ensures.outcome.0.phrase) → Passed (Opened c.args.opened) (more_terms ∷ []) (operand ∷ more_factors ∷ more_terms ∷ []) c.terms.input c.take_sign.new.self → TermsSoFar c.args.opened c.args.input.now c.term-in-terms.new.input c.in_ok-left-2.left
and_term t c calc' more is words_are tree_is signed =
    let so_far = c.terms.invariant in
    let seen = c.in_ok-peek.ensures in
    let taken = c.in_ok-take_sign.ensures in
    let found = c.in_ok-right.ensures in
    record {
      first = so_far.first;
      more = more;
      read = so_far.read ∙ ap (term_words so_far.first) (sym words_are);
      value = c.in_ok-left-2.ensures ∙ ap (λ k. expr.Binary k (c.terms.left, c.in_ok-right.right)) is ∙ ap (λ l. expr.Binary calc' (l, c.in_ok-right.right)) so_far.value ∙ ap (λ r. expr.Binary calc' (terms_tree so_far.more (term_tree so_far.first), r)) found.outcome.0.value ∙ sym tree_is;
      passed = passed_then so_far.passed (passed_then signed (passed_framed (more_terms ∷ []) (λ under h. h) found.outcome.1));
      kept = stays_then so_far.kept (stays_then seen.kept (stays_then taken.kept found.kept));
    }

pub sum-terms-preserved : goal.sum-terms-preserved
sum-terms-preserved t c =
    let so_far = c.terms.invariant in
    let seen = c.in_ok-peek.ensures in
    let found = c.in_ok-right.ensures.outcome in
    let at = c.in_ok-peek.field-0.at in
    let taken = c.in_ok-take_sign.ensures in
    elim c.match-branch-3.branch [
      | sum-in-Plus w ↦
          let sign = took_seen c.terms.input c.peek.new.self c.take_sign.new.self _ sort.Plus seen.word seen.words w.in-Plus.is (λ e. cc) taken.words in
          and_term t c calc.Plus (and_plus so_far.more at found.0.phrase) w.calc-is (and_plus-words so_far.more at found.0.phrase _ ∙ ap (terms_words so_far.more) (sym (sign ∙ ap (λ l. word sort.Plus at ∷ l) found.0.read))) (and_plus-tree so_far.more at found.0.phrase _) (passed_one _ c.terms.input c.take_sign.new.self more_terms (operand ∷ more_factors ∷ more_terms ∷ []) _ sign (taken.end ∙ seen.end) (taken.signs ∙ ap (λ n. n + 1) seen.signs) refl (λ under h. ap (where_over operator_signs) (lt-leb _ _ (omega (arith, taken.room, seen.signs)))))
      | sum-in-Minus w ↦
          let sign = took_seen c.terms.input c.peek.new.self c.take_sign.new.self _ sort.Minus seen.word seen.words w.in-Minus.is (λ e. cc) taken.words in
          and_term t c calc.Minus (and_minus so_far.more at found.0.phrase) w.calc-is (and_minus-words so_far.more at found.0.phrase _ ∙ ap (terms_words so_far.more) (sym (sign ∙ ap (λ l. word sort.Minus at ∷ l) found.0.read))) (and_minus-tree so_far.more at found.0.phrase _) (passed_one _ c.terms.input c.take_sign.new.self more_terms (operand ∷ more_factors ∷ more_terms ∷ []) _ sign (taken.end ∙ seen.end) (taken.signs ∙ ap (λ n. n + 1) seen.signs) refl (λ under h. ap (where_over operator_signs) (lt-leb _ _ (omega (arith, taken.room, seen.signs)))))
    ]

pub factor-returns-in_err-atom-in_default : goal.factor-returns-in_err-atom-in_default
factor-returns-in_err-atom-in_default t c =
    let seen = c.in_ok-word.ensures in
    let found = c.in_err-atom-in_default.ensures in
    let p = err_from_is_err_and c.from_residual-in_err-atom-in_default.result c.from_residual-in_err-atom-in_default.ensures.1 in
    record {
      outcome = rw (p.1, p.2) (λ some. refused_atom _ [] c.args.input.now _ (λ e. c.in_default.not-LeftParen (ap (λ w. w.sort) seen.word ∙ e)) (refused_after (passed_still seen.words seen.end seen.signs) (refused_framed [] (λ under h. tt) (found.outcome some))));
      kept = stays_then seen.kept found.kept;
    }

pub factor-returns-in_err-word : goal.factor-returns-in_err-word
factor-returns-in_err-word t c =
    record {
      outcome = no_memory _ _ _ _ _ _ _ c.from_residual.result c.from_residual.ensures.1;
      kept = c.in_err-word.ensures.kept;
    }

pub factor-returns-then-opened-ge-MAX_OPEN : goal.factor-returns-then-opened-ge-MAX_OPEN
factor-returns-then-opened-ge-MAX_OPEN t c =
    record {
      outcome = λ some.
          refused_limit (Opened c.args.opened) operand [] (operand ∷ more_factors ∷ more_terms ∷ closing ∷ []) c.args.input.now _ _ open_parentheses (in_front _ _ _ sort.LeftParen c.in_ok-word.ensures.word c.in-LeftParen.is (λ e. cc)) refl (λ under h. ap (where_over open_parentheses) (le-leb _ _ (omega (arith, h, c.if-opened-ge-MAX_OPEN.true))));
      kept = c.in_ok-word.ensures.kept;
    }

pub factor-returns-in_err-take-in-LeftParen : goal.factor-returns-in_err-take-in-LeftParen
factor-returns-in_err-take-in-LeftParen t c =
    record {
      outcome = no_memory _ _ _ _ _ _ _ c.from_residual-in_err-take-in-LeftParen.result c.from_residual-in_err-take-in-LeftParen.ensures.1;
      kept = stays_then c.in_ok-word.ensures.kept c.in_err-take-in-LeftParen.ensures.kept;
    }

pub factor-returns-in_err-inner-in-LeftParen : goal.factor-returns-in_err-inner-in-LeftParen
factor-returns-in_err-inner-in-LeftParen t c =
    record {
      outcome = passed_on _ _ _ _ c.from_residual-in_err-inner-in-LeftParen.result c.from_residual-in_err-inner-in-LeftParen.ensures.1 (λ some. refused_after (passed_one _ c.args.input.now c.take.new.self operand (operand ∷ more_factors ∷ more_terms ∷ closing ∷ []) _ (took_seen c.args.input.now c.peek.new.self c.take.new.self _ sort.LeftParen c.in_ok-word.ensures.word c.in_ok-word.ensures.words c.in-LeftParen.is (λ e. cc) c.in_ok-take-in-LeftParen.ensures.words) (c.in_ok-take-in-LeftParen.ensures.end ∙ c.in_ok-word.ensures.end) (c.in_ok-take-in-LeftParen.ensures.signs ∙ c.in_ok-word.ensures.signs) refl (λ under h. ap (where_over open_parentheses) (lt-leb _ _ (omega (arith, h, c.if-opened-ge-MAX_OPEN.false))))) (refused_framed (closing ∷ []) (λ under h. omega (arith, h)) (c.in_err-inner-in-LeftParen.ensures.outcome some)));
      kept = stays_then c.in_ok-word.ensures.kept (stays_then c.in_ok-take-in-LeftParen.ensures.kept c.in_err-inner-in-LeftParen.ensures.kept);
    }

pub factor-returns-in_err-close-in-LeftParen : goal.factor-returns-in_err-close-in-LeftParen
factor-returns-in_err-close-in-LeftParen t c =
    record {
      outcome = passed_on _ _ _ _ c.from_residual-in_err-close-in-LeftParen.result c.from_residual-in_err-close-in-LeftParen.ensures.1 (λ some. refused_after (passed_one _ c.args.input.now c.take.new.self operand (operand ∷ more_factors ∷ more_terms ∷ closing ∷ []) _ (took_seen c.args.input.now c.peek.new.self c.take.new.self _ sort.LeftParen c.in_ok-word.ensures.word c.in_ok-word.ensures.words c.in-LeftParen.is (λ e. cc) c.in_ok-take-in-LeftParen.ensures.words) (c.in_ok-take-in-LeftParen.ensures.end ∙ c.in_ok-word.ensures.end) (c.in_ok-take-in-LeftParen.ensures.signs ∙ c.in_ok-word.ensures.signs) refl (λ under h. ap (where_over open_parentheses) (lt-leb _ _ (omega (arith, h, c.if-opened-ge-MAX_OPEN.false))))) (refused_after (passed_framed (closing ∷ []) (λ under h. omega (arith, h)) c.in_ok-inner-in-LeftParen.ensures.outcome.1) (refused_framed [] (λ under h. tt) (c.in_err-close-in-LeftParen.ensures.outcome some))));
      kept = stays_then c.in_ok-word.ensures.kept (stays_then c.in_ok-take-in-LeftParen.ensures.kept (stays_then c.in_ok-inner-in-LeftParen.ensures.kept c.in_err-close-in-LeftParen.ensures.kept));
    }

pub term-returns-in_err-left : goal.term-returns-in_err-left
term-returns-in_err-left t c =
    record {
      outcome = passed_on _ _ _ _ c.from_residual.result c.from_residual.ensures.1 (λ some. refused_framed (more_factors ∷ []) (λ under h. h) (c.in_err-left.ensures.outcome some));
      kept = c.in_err-left.ensures.kept;
    }

pub term-returns-in_err-peek : goal.term-returns-in_err-peek
term-returns-in_err-peek t c =
    record {
      outcome = no_memory _ _ _ _ _ _ _ c.from_residual-in_err-peek.result c.from_residual-in_err-peek.ensures.1;
      kept = stays_then c.factors.invariant.kept c.in_err-peek.ensures.kept;
    }

pub term-returns-in_err-take_sign-in-Times : goal.term-returns-in_err-take_sign-in-Times
term-returns-in_err-take_sign-in-Times t c =
    record {
      outcome =
          let seen = c.in_ok-peek.ensures in
          let off = c.in_err-take_sign-in-Times.ensures in
          passed_on _ _ _ _ c.from_residual-in_err-take_sign-in-Times.result c.from_residual-in_err-take_sign-in-Times.ensures.1 (λ some. refused_after c.factors.invariant.passed (refused_sign _ more_factors [] (operand ∷ more_factors ∷ []) c.factors.input c.peek.new.self _ sort.Times _ seen.word seen.words seen.end seen.signs c.in-Times.is (λ e. cc) refl (λ under. refl) (off.deep some)));
      kept = stays_then c.factors.invariant.kept (stays_then c.in_ok-peek.ensures.kept c.in_err-take_sign-in-Times.ensures.kept);
    }

pub term-returns-in_err-right-in-Times : goal.term-returns-in_err-right-in-Times
term-returns-in_err-right-in-Times t c =
    record {
      outcome = passed_on _ _ _ _ c.from_residual-in_err-right-in-Times.result c.from_residual-in_err-right-in-Times.ensures.1 (λ some. refused_after c.factors.invariant.passed (refused_after (passed_one _ c.factors.input c.take_sign.new.self more_factors (operand ∷ more_factors ∷ []) _ (took_seen c.factors.input c.peek.new.self c.take_sign.new.self _ sort.Times c.in_ok-peek.ensures.word c.in_ok-peek.ensures.words c.in-Times.is (λ e. cc) c.in_ok-take_sign-in-Times.ensures.words) (c.in_ok-take_sign-in-Times.ensures.end ∙ c.in_ok-peek.ensures.end) (c.in_ok-take_sign-in-Times.ensures.signs ∙ ap (λ n. n + 1) c.in_ok-peek.ensures.signs) refl (λ under h. ap (where_over operator_signs) (lt-leb _ _ (omega (arith, c.in_ok-take_sign-in-Times.ensures.room, c.in_ok-peek.ensures.signs))))) (refused_framed (more_factors ∷ []) (λ under h. h) (c.in_err-right-in-Times.ensures.outcome some))));
      kept = stays_then c.factors.invariant.kept (stays_then c.in_ok-peek.ensures.kept (stays_then c.in_ok-take_sign-in-Times.ensures.kept c.in_err-right-in-Times.ensures.kept));
    }

pub term-returns-in_err-left-in-Times : goal.term-returns-in_err-left-in-Times
term-returns-in_err-left-in-Times t c =
    record {
      outcome = no_memory _ _ _ _ _ _ _ c.from_residual-in_err-left-in-Times.result c.from_residual-in_err-left-in-Times.ensures.1;
      kept = stays_then c.factors.invariant.kept (stays_then c.in_ok-peek.ensures.kept (stays_then c.in_ok-take_sign-in-Times.ensures.kept c.in_ok-right-in-Times.ensures.kept));
    }

pub sum-returns-in_err-left : goal.sum-returns-in_err-left
sum-returns-in_err-left t c =
    record {
      outcome = passed_on _ _ _ _ c.from_residual.result c.from_residual.ensures.1 (λ some. refused_framed (more_terms ∷ []) (λ under h. h) (c.in_err-left.ensures.outcome some));
      kept = c.in_err-left.ensures.kept;
    }

pub sum-returns-in_err-peek : goal.sum-returns-in_err-peek
sum-returns-in_err-peek t c =
    record {
      outcome = no_memory _ _ _ _ _ _ _ c.from_residual-in_err-peek.result c.from_residual-in_err-peek.ensures.1;
      kept = stays_then c.terms.invariant.kept c.in_err-peek.ensures.kept;
    }

pub sum-returns-in_err-take_sign : goal.sum-returns-in_err-take_sign
sum-returns-in_err-take_sign t c =
    record {
      outcome =
          let seen = c.in_ok-peek.ensures in
          let off = c.in_err-take_sign.ensures in
          passed_on _ _ _ _ c.from_residual-in_err-take_sign.result c.from_residual-in_err-take_sign.ensures.1 (λ some. refused_after c.terms.invariant.passed (elim c.match-branch-3.branch [
            | sum-in-Plus w ↦ refused_sign _ more_terms [] (operand ∷ more_factors ∷ more_terms ∷ []) c.terms.input c.peek.new.self _ sort.Plus _ seen.word seen.words seen.end seen.signs w.in-Plus.is (λ e. cc) refl (λ under. refl) (off.deep some)
            | sum-in-Minus w ↦ refused_sign _ more_terms [] (operand ∷ more_factors ∷ more_terms ∷ []) c.terms.input c.peek.new.self _ sort.Minus _ seen.word seen.words seen.end seen.signs w.in-Minus.is (λ e. cc) refl (λ under. refl) (off.deep some)
          ]));
      kept = stays_then c.terms.invariant.kept (stays_then c.in_ok-peek.ensures.kept c.in_err-take_sign.ensures.kept);
    }

pub sum-returns-in_err-right : goal.sum-returns-in_err-right
sum-returns-in_err-right t c =
    record {
      outcome =
          let seen = c.in_ok-peek.ensures in
          let taken = c.in_ok-take_sign.ensures in
          let signed : Passed (Opened c.args.opened) (more_terms ∷ []) (operand ∷ more_factors ∷ more_terms ∷ []) c.terms.input c.take_sign.new.self = elim c.match-branch-3.branch [
            | sum-in-Plus w ↦ passed_one _ c.terms.input c.take_sign.new.self more_terms (operand ∷ more_factors ∷ more_terms ∷ []) _ (took_seen c.terms.input c.peek.new.self c.take_sign.new.self _ sort.Plus seen.word seen.words w.in-Plus.is (λ e. cc) taken.words) (taken.end ∙ seen.end) (taken.signs ∙ ap (λ n. n + 1) seen.signs) refl (λ under h. ap (where_over operator_signs) (lt-leb _ _ (omega (arith, taken.room, seen.signs))))
            | sum-in-Minus w ↦ passed_one _ c.terms.input c.take_sign.new.self more_terms (operand ∷ more_factors ∷ more_terms ∷ []) _ (took_seen c.terms.input c.peek.new.self c.take_sign.new.self _ sort.Minus seen.word seen.words w.in-Minus.is (λ e. cc) taken.words) (taken.end ∙ seen.end) (taken.signs ∙ ap (λ n. n + 1) seen.signs) refl (λ under h. ap (where_over operator_signs) (lt-leb _ _ (omega (arith, taken.room, seen.signs))))
          ] in
          passed_on _ _ _ _ c.from_residual-in_err-right.result c.from_residual-in_err-right.ensures.1 (λ some. refused_after c.terms.invariant.passed (refused_after signed (refused_framed (more_terms ∷ []) (λ under h. h) (c.in_err-right.ensures.outcome some))));
      kept = stays_then c.terms.invariant.kept (stays_then c.in_ok-peek.ensures.kept (stays_then c.in_ok-take_sign.ensures.kept c.in_err-right.ensures.kept));
    }

pub sum-returns-in_err-left-2 : goal.sum-returns-in_err-left-2
sum-returns-in_err-left-2 t c =
    record {
      outcome = no_memory _ _ _ _ _ _ _ c.from_residual-in_err-left-2.result c.from_residual-in_err-left-2.ensures.1;
      kept = stays_then c.terms.invariant.kept (stays_then c.in_ok-peek.ensures.kept (stays_then c.in_ok-take_sign.ensures.kept c.in_ok-right.ensures.kept));
    }
