use Rattle.syntax_parser.specs.Reads.{Passed}
use Rattle.std.proofs.Common.{◌≡◌, ◌∷◌, [], refl, ap, ◌∙◌}
use Rattle.syntax_grammar.specs.declared.word.Sort.TheVariants as sort
use Rattle.syntax_grammar.specs.Sorts.{table_kind}
use Rattle.syntax_grammar.specs.Next.{Anywhere, mark, tables, a_name}
use Rattle.syntax_grammar.specs.Phrase.{word, a_table, name_words}
use Rattle.syntax_parser.proofs.Steps.{took, passed_one, passed_then, passed_framed, refused_after, refused_framed}
use Rattle.syntax_parser.proofs.CallSteps.{table_is}
use Rattle.syntax_grammar.proofs.Values.{table_value}
use Rattle.syntax_parser.proofs.parse_table.table.Goals as goal
use Rattle.syntax_parser.proofs.parse_table.table.Goals.{In_ok-take}
use Rattle.syntax_parser.proofs.Exits.{passed_on, no_memory, none_read, grown, fewer, stays, stays_then}

-- the first word was taken
first_word_is : (c : In_ok-take) → c.args.input.now.reader.words ≡ word (sort.Table c.args.kind) c.in_ok-take.field-0.at ∷ c.take.new.self.reader.words
first_word_is c =
    let w = c.in_ok-take.ensures.word in
    took _ _ _ _ (sort.Table c.args.kind) w (table_is _ c.args.kind (ap (λ x. table_kind x.sort) w ∙ c.requires)) (λ e. cc) c.in_ok-take.ensures.words

begun : (c : In_ok-take) → Passed Anywhere (tables ∷ []) (a_name ∷ mark sort.Semicolon ∷ tables ∷ []) c.args.input.now c.take.new.self
begun c = passed_one Anywhere _ _ tables (a_name ∷ mark sort.Semicolon ∷ tables ∷ []) _ (first_word_is c) c.take.ensures.end c.take.ensures.signs refl (λ under h. refl)

pub returns-in_err-take : goal.returns-in_err-take
returns-in_err-take c =
    record {
      reads = record {
        outcome = no_memory _ _ _ _ _ _ _ c.from_residual.result c.from_residual.ensures.1;
        kept = c.in_err-take.ensures.kept;
      };
      shorter = none_read _ _ c.from_residual.result c.from_residual.ensures.1;
    }

pub returns-in_err-name : goal.returns-in_err-name
returns-in_err-name c =
    record {
      reads = record {
        outcome = passed_on _ _ _ _ c.from_residual-in_err-name.result c.from_residual-in_err-name.ensures.1 (λ some. refused_after (begun (goal.at.returns-in_err-name c).In_ok-take) (refused_framed (mark sort.Semicolon ∷ tables ∷ []) (λ under h. tt) (c.in_err-name.ensures.outcome some)));
        kept = stays_then c.in_ok-take.ensures.kept c.in_err-name.ensures.kept;
      };
      shorter = none_read _ _ c.from_residual-in_err-name.result c.from_residual-in_err-name.ensures.1;
    }

pub returns-in_err-mark : goal.returns-in_err-mark
returns-in_err-mark c =
    record {
      reads = record {
        outcome = passed_on _ _ _ _ c.from_residual-in_err-mark.result c.from_residual-in_err-mark.ensures.1 (λ some. refused_after (begun (goal.at.returns-in_err-mark c).In_ok-take) (refused_after (passed_framed (mark sort.Semicolon ∷ tables ∷ []) (λ under h. tt) c.in_ok-name.ensures.outcome.1) (refused_framed (tables ∷ []) (λ under h. tt) (c.in_err-mark.ensures.outcome some))));
        kept = stays_then c.in_ok-take.ensures.kept (stays_then c.in_ok-name.ensures.kept c.in_err-mark.ensures.kept);
      };
      shorter = none_read _ _ c.from_residual-in_err-mark.result c.from_residual-in_err-mark.ensures.1;
    }

pub returns : goal.returns
returns c =
    record {
      reads = record {
        outcome =
            let w = c.in_ok-take.ensures.word in
            let at = c.in_ok-take.field-0.at in
            let k = c.args.kind in
            let first = took _ _ _ _ (sort.Table k) w (table_is _ k (ap (λ x. table_kind x.sort) w ∙ c.requires)) (λ e. cc) c.in_ok-take.ensures.words in
            let n = c.in_ok-name.ensures.outcome in
            let e = c.in_ok-mark.ensures.outcome in (
              record {
                phrase = a_table k at n.0.phrase e.0.phrase;
                read = first ∙ ap (λ l. word (sort.Table k) at ∷ l) (n.0.read ∙ ap (name_words n.0.phrase) e.0.read);
                value = table_value k _ _ at e.0.phrase n.0.phrase n.0.value;
              },
              passed_then (passed_one Anywhere _ _ tables (a_name ∷ mark sort.Semicolon ∷ tables ∷ []) _ first c.take.ensures.end c.take.ensures.signs refl (λ under h. refl))
                  (passed_then (passed_framed (mark sort.Semicolon ∷ tables ∷ []) (λ under h. tt) n.1)
                  (passed_framed (tables ∷ []) (λ under h. tt) e.1)),
            );
        kept = stays_then c.in_ok-take.ensures.kept (stays_then c.in_ok-name.ensures.kept c.in_ok-mark.ensures.kept);
      };
      shorter = fewer _ (first_word_is (goal.at.returns c).In_ok-take) (grown c.in_ok-mark.ensures.outcome.1.no_longer c.in_ok-name.ensures.outcome.1.no_longer);
    }
