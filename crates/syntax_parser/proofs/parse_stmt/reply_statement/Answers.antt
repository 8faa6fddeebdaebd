use Rattle.syntax_parser.specs.Reads.{Passed}
use Rattle.std.proofs.Common.{◌≡◌, ◌∷◌, [], refl, ap, ◌∙◌}
use Rattle.syntax_grammar.specs.declared.word.Sort.TheVariants as sort
use Rattle.syntax_trees.specs.declared.stmt.Stmt.TheVariants as stmt
use Rattle.syntax_grammar.specs.Next.{Inside, mark, expression, more_values, statements}
use Rattle.syntax_grammar.specs.Phrase.{word, reply_stmt, values_words}
use Rattle.syntax_parser.proofs.Steps.{took, passed_one, passed_then, passed_framed, refused_after, refused_framed}
use Rattle.syntax_parser.proofs.parse_stmt.reply_statement.Goals as goal
use Rattle.syntax_parser.proofs.parse_stmt.reply_statement.Goals.{In_ok-word}
use Rattle.syntax_parser.proofs.Exits.{passed_on, no_memory, none_read, grown, fewer, stays, stays_then}

-- the first word was taken
first_word_is : (c : In_ok-word) → c.args.input.now.reader.words ≡ word sort.Reply c.in_ok-word.word.at ∷ c.take.new.self.reader.words
first_word_is c =
    let w = c.in_ok-word.ensures.word in
    took _ _ _ _ sort.Reply w (ap (λ x. x.sort) w ∙ c.requires) (λ e. cc) c.in_ok-word.ensures.words

begun : (c : In_ok-word) → Passed (Inside c.args.depth) (statements ∷ []) (expression ∷ more_values 3 ∷ mark sort.Semicolon ∷ statements ∷ []) c.args.input.now c.take.new.self
begun c = passed_one (Inside c.args.depth) _ _ statements (expression ∷ more_values 3 ∷ mark sort.Semicolon ∷ statements ∷ []) _ (first_word_is c) c.take.ensures.end c.take.ensures.signs refl (λ under h. refl)

pub returns-in_err-word : goal.returns-in_err-word
returns-in_err-word c =
    record {
      reads = record {
        outcome = no_memory _ _ _ _ _ _ _ c.from_residual.result c.from_residual.ensures.1;
        kept = c.in_err-word.ensures.kept;
      };
      shorter = none_read _ _ c.from_residual.result c.from_residual.ensures.1;
    }

pub returns-in_err-values : goal.returns-in_err-values
returns-in_err-values c =
    record {
      reads = record {
        outcome = passed_on _ _ _ _ c.from_residual-in_err-values.result c.from_residual-in_err-values.ensures.1 (λ some. refused_after (begun (goal.at.returns-in_err-values c).In_ok-word) (refused_framed (mark sort.Semicolon ∷ statements ∷ []) (λ under h. h.none_open) (c.in_err-values.ensures.outcome some)));
        kept = stays_then c.in_ok-word.ensures.kept c.in_err-values.ensures.kept;
      };
      shorter = none_read _ _ c.from_residual-in_err-values.result c.from_residual-in_err-values.ensures.1;
    }

pub returns-in_err-mark : goal.returns-in_err-mark
returns-in_err-mark c =
    record {
      reads = record {
        outcome = passed_on _ _ _ _ c.from_residual-in_err-mark.result c.from_residual-in_err-mark.ensures.1 (λ some. refused_after (begun (goal.at.returns-in_err-mark c).In_ok-word) (refused_after (passed_framed (mark sort.Semicolon ∷ statements ∷ []) (λ under h. h.none_open) c.in_ok-values.ensures.outcome.1) (refused_framed (statements ∷ []) (λ under h. tt) (c.in_err-mark.ensures.outcome some))));
        kept = stays_then c.in_ok-word.ensures.kept (stays_then c.in_ok-values.ensures.kept c.in_err-mark.ensures.kept);
      };
      shorter = none_read _ _ c.from_residual-in_err-mark.result c.from_residual-in_err-mark.ensures.1;
    }

pub returns : goal.returns
returns c =
    record {
      reads = record {
        outcome =
            let w = c.in_ok-word.ensures.word in
            let at = c.in_ok-word.word.at in
            let first = took _ _ _ _ sort.Reply w (ap (λ x. x.sort) w ∙ c.requires) (λ e. cc) c.in_ok-word.ensures.words in
            let v = c.in_ok-values.ensures.outcome in
            let s = c.in_ok-mark.ensures.outcome in (
              record {
                phrase = reply_stmt at v.0.phrase s.0.phrase;
                read = first ∙ ap (λ l. word sort.Reply at ∷ l) (v.0.read ∙ ap (values_words v.0.phrase) s.0.read);
                value = ap (stmt.Answer at) v.0.value;
              },
              passed_then (passed_one (Inside c.args.depth) _ _ statements (expression ∷ more_values 3 ∷ mark sort.Semicolon ∷ statements ∷ []) _ first c.take.ensures.end c.take.ensures.signs refl (λ under h. refl))
                  (passed_then (passed_framed (mark sort.Semicolon ∷ statements ∷ []) (λ under h. h.none_open) v.1)
                  (passed_framed (statements ∷ []) (λ under h. tt) s.1)),
            );
        kept = stays_then c.in_ok-word.ensures.kept (stays_then c.in_ok-values.ensures.kept c.in_ok-mark.ensures.kept);
      };
      shorter = fewer _ (first_word_is (goal.at.returns c).In_ok-word) (grown c.in_ok-mark.ensures.outcome.1.no_longer c.in_ok-values.ensures.outcome.1.no_longer);
    }
