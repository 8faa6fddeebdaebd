use Rattle.syntax_parser.specs.Reads.{Passed}
use Rattle.std.proofs.Common.{◌≡◌, ◌∷◌, [], refl, ap, ◌∙◌}
use Rattle.syntax_grammar.specs.declared.word.Sort.TheVariants as sort
use Rattle.syntax_grammar.specs.Next.{Inside, mark, a_name, a_block, first_param, handlers}
use Rattle.syntax_grammar.specs.Phrase.{word, a_handler, name_words, params_words}
use Rattle.syntax_parser.proofs.Steps.{took, passed_one, passed_then, passed_framed, refused_after, refused_framed}
use Rattle.syntax_grammar.proofs.Values.{handler_value}
use Rattle.syntax_parser.proofs.parse_handler.handler.Goals as goal
use Rattle.syntax_parser.proofs.parse_handler.handler.Goals.{In_ok-take}
use Rattle.syntax_parser.proofs.Exits.{passed_on, no_memory, none_read, grown, fewer, stays, stays_then}

-- the first word was taken
first_word_is : (c : In_ok-take) → c.args.input.now.reader.words ≡ word sort.Handler c.in_ok-take.field-0.at ∷ c.take.new.self.reader.words
first_word_is c =
    let w = c.in_ok-take.ensures.word in
    took _ _ _ _ sort.Handler w (ap (λ x. x.sort) w ∙ c.requires.first) (λ e. cc) c.in_ok-take.ensures.words

begun : (c : In_ok-take) → Passed (Inside 0) (handlers ∷ []) (a_name ∷ mark sort.LeftParen ∷ first_param ∷ mark sort.RightParen ∷ a_block ∷ handlers ∷ []) c.args.input.now c.take.new.self
begun c = passed_one (Inside 0) _ _ handlers (a_name ∷ mark sort.LeftParen ∷ first_param ∷ mark sort.RightParen ∷ a_block ∷ handlers ∷ []) _ (first_word_is c) c.take.ensures.end c.take.ensures.signs refl (λ under h. refl)

pub returns-in_err-take : goal.returns-in_err-take
returns-in_err-take c =
    record {
      reads = record {
        outcome = no_memory _ _ _ _ _ _ _ c.from_residual.result c.from_residual.ensures.1;
        kept = c.in_err-take.ensures.kept;
      };
      shorter = none_read _ _ c.from_residual.result c.from_residual.ensures.1;
    }

pub returns-in_err-name : goal.returns-in_err-name
returns-in_err-name c =
    record {
      reads = record {
        outcome = passed_on _ _ _ _ c.from_residual-in_err-name.result c.from_residual-in_err-name.ensures.1 (λ some. refused_after (begun (goal.at.returns-in_err-name c).In_ok-take) (refused_framed (mark sort.LeftParen ∷ first_param ∷ mark sort.RightParen ∷ a_block ∷ handlers ∷ []) (λ under h. tt) (c.in_err-name.ensures.outcome some)));
        kept = stays_then c.in_ok-take.ensures.kept c.in_err-name.ensures.kept;
      };
      shorter = none_read _ _ c.from_residual-in_err-name.result c.from_residual-in_err-name.ensures.1;
    }

pub returns-in_err-mark : goal.returns-in_err-mark
returns-in_err-mark c =
    record {
      reads = record {
        outcome = passed_on _ _ _ _ c.from_residual-in_err-mark.result c.from_residual-in_err-mark.ensures.1 (λ some. refused_after (begun (goal.at.returns-in_err-mark c).In_ok-take) (refused_after (passed_framed (mark sort.LeftParen ∷ first_param ∷ mark sort.RightParen ∷ a_block ∷ handlers ∷ []) (λ under h. tt) c.in_ok-name.ensures.outcome.1) (refused_framed (first_param ∷ mark sort.RightParen ∷ a_block ∷ handlers ∷ []) (λ under h. tt) (c.in_err-mark.ensures.outcome some))));
        kept = stays_then c.in_ok-take.ensures.kept (stays_then c.in_ok-name.ensures.kept c.in_err-mark.ensures.kept);
      };
      shorter = none_read _ _ c.from_residual-in_err-mark.result c.from_residual-in_err-mark.ensures.1;
    }

pub returns-in_err-params : goal.returns-in_err-params
returns-in_err-params c =
    record {
      reads = record {
        outcome = passed_on _ _ _ _ c.from_residual-in_err-params.result c.from_residual-in_err-params.ensures.1 (λ some. refused_after (begun (goal.at.returns-in_err-params c).In_ok-take) (refused_after (passed_framed (mark sort.LeftParen ∷ first_param ∷ mark sort.RightParen ∷ a_block ∷ handlers ∷ []) (λ under h. tt) c.in_ok-name.ensures.outcome.1) (refused_after (passed_framed (first_param ∷ mark sort.RightParen ∷ a_block ∷ handlers ∷ []) (λ under h. tt) c.in_ok-mark.ensures.outcome.1) (refused_framed (mark sort.RightParen ∷ a_block ∷ handlers ∷ []) (λ under h. tt) (c.in_err-params.ensures.outcome some)))));
        kept = stays_then c.in_ok-take.ensures.kept (stays_then c.in_ok-name.ensures.kept (stays_then c.in_ok-mark.ensures.kept c.in_err-params.ensures.kept));
      };
      shorter = none_read _ _ c.from_residual-in_err-params.result c.from_residual-in_err-params.ensures.1;
    }

pub returns-in_err-mark-2 : goal.returns-in_err-mark-2
returns-in_err-mark-2 c =
    record {
      reads = record {
        outcome = passed_on _ _ _ _ c.from_residual-in_err-mark-2.result c.from_residual-in_err-mark-2.ensures.1 (λ some. refused_after (begun (goal.at.returns-in_err-mark-2 c).In_ok-take) (refused_after (passed_framed (mark sort.LeftParen ∷ first_param ∷ mark sort.RightParen ∷ a_block ∷ handlers ∷ []) (λ under h. tt) c.in_ok-name.ensures.outcome.1) (refused_after (passed_framed (first_param ∷ mark sort.RightParen ∷ a_block ∷ handlers ∷ []) (λ under h. tt) c.in_ok-mark.ensures.outcome.1) (refused_after (passed_framed (mark sort.RightParen ∷ a_block ∷ handlers ∷ []) (λ under h. tt) c.in_ok-params.ensures.outcome.1) (refused_framed (a_block ∷ handlers ∷ []) (λ under h. tt) (c.in_err-mark-2.ensures.outcome some))))));
        kept = stays_then c.in_ok-take.ensures.kept (stays_then c.in_ok-name.ensures.kept (stays_then c.in_ok-mark.ensures.kept (stays_then c.in_ok-params.ensures.kept c.in_err-mark-2.ensures.kept)));
      };
      shorter = none_read _ _ c.from_residual-in_err-mark-2.result c.from_residual-in_err-mark-2.ensures.1;
    }

pub returns-in_err-body : goal.returns-in_err-body
returns-in_err-body c =
    record {
      reads = record {
        outcome = passed_on _ _ _ _ c.from_residual-in_err-body.result c.from_residual-in_err-body.ensures.1 (λ some. refused_after (begun (goal.at.returns-in_err-body c).In_ok-take) (refused_after (passed_framed (mark sort.LeftParen ∷ first_param ∷ mark sort.RightParen ∷ a_block ∷ handlers ∷ []) (λ under h. tt) c.in_ok-name.ensures.outcome.1) (refused_after (passed_framed (first_param ∷ mark sort.RightParen ∷ a_block ∷ handlers ∷ []) (λ under h. tt) c.in_ok-mark.ensures.outcome.1) (refused_after (passed_framed (mark sort.RightParen ∷ a_block ∷ handlers ∷ []) (λ under h. tt) c.in_ok-params.ensures.outcome.1) (refused_after (passed_framed (a_block ∷ handlers ∷ []) (λ under h. tt) c.in_ok-mark-2.ensures.outcome.1) (refused_framed (handlers ∷ []) (λ under h. record { none_open = h.none_open; depth_is = h.depth_is }) (c.in_err-body.ensures.outcome some)))))));
        kept = stays_then c.in_ok-take.ensures.kept (stays_then c.in_ok-name.ensures.kept (stays_then c.in_ok-mark.ensures.kept (stays_then c.in_ok-params.ensures.kept (stays_then c.in_ok-mark-2.ensures.kept c.in_err-body.ensures.kept))));
      };
      shorter = none_read _ _ c.from_residual-in_err-body.result c.from_residual-in_err-body.ensures.1;
    }

pub returns : goal.returns
returns c =
    record {
      reads = record {
        outcome =
            let w = c.in_ok-take.ensures.word in
            let at = c.in_ok-take.field-0.at in
            let first = took _ _ _ _ sort.Handler w (ap (λ x. x.sort) w ∙ c.requires.first) (λ e. cc) c.in_ok-take.ensures.words in
            let n = c.in_ok-name.ensures.outcome in
            let l = c.in_ok-mark.ensures.outcome in
            let ps = c.in_ok-params.ensures.outcome in
            let r = c.in_ok-mark-2.ensures.outcome in
            let b = c.in_ok-body.ensures.outcome in (
              record {
                phrase = a_handler at n.0.phrase l.0.phrase ps.0.phrase r.0.phrase b.0.phrase;
                read = first ∙ ap (λ x. word sort.Handler at ∷ x) (n.0.read ∙ ap (name_words n.0.phrase) (l.0.read ∙ ap (λ x. word sort.LeftParen l.0.phrase ∷ x) (ps.0.read ∙ ap (params_words ps.0.phrase) (r.0.read ∙ ap (λ x. word sort.RightParen r.0.phrase ∷ x) b.0.read))));
                value = handler_value _ _ _ _ _ _ n.0.phrase n.0.value ps.0.value b.0.value;
              },
              passed_then (passed_one (Inside 0) _ _ handlers (a_name ∷ mark sort.LeftParen ∷ first_param ∷ mark sort.RightParen ∷ a_block ∷ handlers ∷ []) _ first c.take.ensures.end c.take.ensures.signs refl (λ under h. refl))
                  (passed_then (passed_framed (mark sort.LeftParen ∷ first_param ∷ mark sort.RightParen ∷ a_block ∷ handlers ∷ []) (λ under h. tt) n.1)
                  (passed_then (passed_framed (first_param ∷ mark sort.RightParen ∷ a_block ∷ handlers ∷ []) (λ under h. tt) l.1)
                  (passed_then (passed_framed (mark sort.RightParen ∷ a_block ∷ handlers ∷ []) (λ under h. tt) ps.1)
                  (passed_then (passed_framed (a_block ∷ handlers ∷ []) (λ under h. tt) r.1)
                  (passed_framed (handlers ∷ []) (λ under h. record { none_open = h.none_open; depth_is = h.depth_is }) b.1))))),
            );
        kept = stays_then c.in_ok-take.ensures.kept (stays_then c.in_ok-name.ensures.kept (stays_then c.in_ok-mark.ensures.kept (stays_then c.in_ok-params.ensures.kept (stays_then c.in_ok-mark-2.ensures.kept c.in_ok-body.ensures.kept))));
      };
      shorter = fewer _ (first_word_is (goal.at.returns c).In_ok-take) (grown c.in_ok-body.ensures.outcome.1.no_longer (grown c.in_ok-mark-2.ensures.outcome.1.no_longer (grown c.in_ok-params.ensures.outcome.1.no_longer (grown c.in_ok-mark.ensures.outcome.1.no_longer c.in_ok-name.ensures.outcome.1.no_longer))));
    }
