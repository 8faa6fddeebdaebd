use Rattle.syntax_parser.specs.Reads.{Passed}
use Rattle.std.proofs.Common.{◌≡◌, ℕ, ◌∷◌, [], refl, ap, ◌∙◌}
use Rattle.syntax_grammar.specs.declared.word.Sort.TheVariants as sort
use Rattle.syntax_trees.specs.declared.stmt.Stmt.TheVariants as stmt
use Rattle.syntax_grammar.specs.Next.{Inside, mark, a_name, a_right, statements}
use Rattle.syntax_grammar.specs.Phrase.{word, let_stmt, name_words, right_words}
use Rattle.syntax_grammar.specs.Tree.{name_of}
use Rattle.syntax_parser.proofs.Steps.{took, passed_one, passed_then, passed_framed, refused_after, refused_framed}
use Rattle.syntax_parser.proofs.parse_stmt.let_statement.Goals as goal
use Rattle.syntax_parser.proofs.parse_stmt.let_statement.Goals.{In_ok-take}
use Rattle.syntax_parser.proofs.Exits.{passed_on, no_memory, none_read, grown, fewer, stays, stays_then}

-- the first word was taken
first_word_is : (c : In_ok-take) → c.args.input.now.reader.words ≡ word sort.Let c.in_ok-take.field-0.at ∷ c.take.new.self.reader.words
first_word_is c =
    let w = c.in_ok-take.ensures.word in
    took _ _ _ _ sort.Let w (ap (λ x. x.sort) w ∙ c.requires) (λ e. cc) c.in_ok-take.ensures.words

begun : (c : In_ok-take) → Passed (Inside c.args.depth) (statements ∷ []) (a_name ∷ mark sort.Assign ∷ a_right ∷ mark sort.Semicolon ∷ statements ∷ []) c.args.input.now c.take.new.self
begun c = passed_one (Inside c.args.depth) _ _ statements (a_name ∷ mark sort.Assign ∷ a_right ∷ mark sort.Semicolon ∷ statements ∷ []) _ (first_word_is c) c.take.ensures.end c.take.ensures.signs refl (λ under h. refl)

pub returns-in_err-take : goal.returns-in_err-take
returns-in_err-take c =
    record {
      reads = record {
        outcome = no_memory _ _ _ _ _ _ _ c.from_residual.result c.from_residual.ensures.1;
        kept = c.in_err-take.ensures.kept;
      };
      shorter = none_read _ _ c.from_residual.result c.from_residual.ensures.1;
    }

pub returns-in_err-name : goal.returns-in_err-name
returns-in_err-name c =
    record {
      reads = record {
        outcome = passed_on _ _ _ _ c.from_residual-in_err-name.result c.from_residual-in_err-name.ensures.1 (λ some. refused_after (begun (goal.at.returns-in_err-name c).In_ok-take) (refused_framed (mark sort.Assign ∷ a_right ∷ mark sort.Semicolon ∷ statements ∷ []) (λ under h. tt) (c.in_err-name.ensures.outcome some)));
        kept = stays_then c.in_ok-take.ensures.kept c.in_err-name.ensures.kept;
      };
      shorter = none_read _ _ c.from_residual-in_err-name.result c.from_residual-in_err-name.ensures.1;
    }

pub returns-in_err-mark : goal.returns-in_err-mark
returns-in_err-mark c =
    record {
      reads = record {
        outcome = passed_on _ _ _ _ c.from_residual-in_err-mark.result c.from_residual-in_err-mark.ensures.1 (λ some. refused_after (begun (goal.at.returns-in_err-mark c).In_ok-take) (refused_after (passed_framed (mark sort.Assign ∷ a_right ∷ mark sort.Semicolon ∷ statements ∷ []) (λ under h. tt) c.in_ok-name.ensures.outcome.1) (refused_framed (a_right ∷ mark sort.Semicolon ∷ statements ∷ []) (λ under h. tt) (c.in_err-mark.ensures.outcome some))));
        kept = stays_then c.in_ok-take.ensures.kept (stays_then c.in_ok-name.ensures.kept c.in_err-mark.ensures.kept);
      };
      shorter = none_read _ _ c.from_residual-in_err-mark.result c.from_residual-in_err-mark.ensures.1;
    }

pub returns-in_err-right : goal.returns-in_err-right
returns-in_err-right c =
    record {
      reads = record {
        outcome = passed_on _ _ _ _ c.from_residual-in_err-right.result c.from_residual-in_err-right.ensures.1 (λ some. refused_after (begun (goal.at.returns-in_err-right c).In_ok-take) (refused_after (passed_framed (mark sort.Assign ∷ a_right ∷ mark sort.Semicolon ∷ statements ∷ []) (λ under h. tt) c.in_ok-name.ensures.outcome.1) (refused_after (passed_framed (a_right ∷ mark sort.Semicolon ∷ statements ∷ []) (λ under h. tt) c.in_ok-mark.ensures.outcome.1) (refused_framed (mark sort.Semicolon ∷ statements ∷ []) (λ under h. h.none_open) (c.in_err-right.ensures.outcome some)))));
        kept = stays_then c.in_ok-take.ensures.kept (stays_then c.in_ok-name.ensures.kept (stays_then c.in_ok-mark.ensures.kept c.in_err-right.ensures.kept));
      };
      shorter = none_read _ _ c.from_residual-in_err-right.result c.from_residual-in_err-right.ensures.1;
    }

pub returns-in_err-mark-2 : goal.returns-in_err-mark-2
returns-in_err-mark-2 c =
    record {
      reads = record {
        outcome = passed_on _ _ _ _ c.from_residual-in_err-mark-2.result c.from_residual-in_err-mark-2.ensures.1 (λ some. refused_after (begun (goal.at.returns-in_err-mark-2 c).In_ok-take) (refused_after (passed_framed (mark sort.Assign ∷ a_right ∷ mark sort.Semicolon ∷ statements ∷ []) (λ under h. tt) c.in_ok-name.ensures.outcome.1) (refused_after (passed_framed (a_right ∷ mark sort.Semicolon ∷ statements ∷ []) (λ under h. tt) c.in_ok-mark.ensures.outcome.1) (refused_after (passed_framed (mark sort.Semicolon ∷ statements ∷ []) (λ under h. h.none_open) c.in_ok-right.ensures.outcome.1) (refused_framed (statements ∷ []) (λ under h. tt) (c.in_err-mark-2.ensures.outcome some))))));
        kept = stays_then c.in_ok-take.ensures.kept (stays_then c.in_ok-name.ensures.kept (stays_then c.in_ok-mark.ensures.kept (stays_then c.in_ok-right.ensures.kept c.in_err-mark-2.ensures.kept)));
      };
      shorter = none_read _ _ c.from_residual-in_err-mark-2.result c.from_residual-in_err-mark-2.ensures.1;
    }

pub returns : goal.returns
returns c =
    record {
      reads = record {
        outcome =
            let w = c.in_ok-take.ensures.word in
            let at = c.in_ok-take.field-0.at in
            let first = took _ _ _ _ sort.Let w (ap (λ x. x.sort) w ∙ c.requires) (λ e. cc) c.in_ok-take.ensures.words in
            let n = c.in_ok-name.ensures.outcome in
            let a = c.in_ok-mark.ensures.outcome in
            let r = c.in_ok-right.ensures.outcome in
            let s = c.in_ok-mark-2.ensures.outcome in (
              record {
                phrase = let_stmt at n.0.phrase a.0.phrase r.0.phrase s.0.phrase;
                read = first ∙ ap (λ l. word sort.Let at ∷ l) (n.0.read ∙ ap (name_words n.0.phrase) (a.0.read ∙ ap (λ l. word sort.Assign a.0.phrase ∷ l) (r.0.read ∙ ap (right_words r.0.phrase) s.0.read)));
                value = ap (λ (v : ℕ × ℕ). stmt.Let v.0 v.1 c.in_ok-right.right) n.0.value ∙ ap (stmt.Let (name_of n.0.phrase).0 (name_of n.0.phrase).1) r.0.value;
              },
              passed_then (passed_one (Inside c.args.depth) _ _ statements (a_name ∷ mark sort.Assign ∷ a_right ∷ mark sort.Semicolon ∷ statements ∷ []) _ first c.take.ensures.end c.take.ensures.signs refl (λ under h. refl))
                  (passed_then (passed_framed (mark sort.Assign ∷ a_right ∷ mark sort.Semicolon ∷ statements ∷ []) (λ under h. tt) n.1)
                  (passed_then (passed_framed (a_right ∷ mark sort.Semicolon ∷ statements ∷ []) (λ under h. tt) a.1)
                  (passed_then (passed_framed (mark sort.Semicolon ∷ statements ∷ []) (λ under h. h.none_open) r.1)
                  (passed_framed (statements ∷ []) (λ under h. tt) s.1)))),
            );
        kept = stays_then c.in_ok-take.ensures.kept (stays_then c.in_ok-name.ensures.kept (stays_then c.in_ok-mark.ensures.kept (stays_then c.in_ok-right.ensures.kept c.in_ok-mark-2.ensures.kept)));
      };
      shorter = fewer _ (first_word_is (goal.at.returns c).In_ok-take) (grown c.in_ok-mark-2.ensures.outcome.1.no_longer (grown c.in_ok-right.ensures.outcome.1.no_longer (grown c.in_ok-mark.ensures.outcome.1.no_longer c.in_ok-name.ensures.outcome.1.no_longer)));
    }
