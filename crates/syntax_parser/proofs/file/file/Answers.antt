use Rattle.std.proofs.Common.{◌∷◌, [], ap, ◌∙◌}
use Rattle.syntax_grammar.specs.Next.{handlers}
use Rattle.syntax_grammar.specs.Phrase.{a_file, tables_words}
use Rattle.syntax_parser.proofs.Steps.{passed_then, passed_framed, refused_after, refused_framed}
use Rattle.syntax_grammar.proofs.Values.{file_value}
use Rattle.syntax_parser.proofs.file.file.Goals as goal
use Rattle.syntax_parser.proofs.Exits.{passed_on, grown, stays, stays_then}

pub returns-in_err-tables : goal.returns-in_err-tables
returns-in_err-tables c =
    record {
      outcome = passed_on _ _ _ _ c.from_residual.result c.from_residual.ensures.1 (λ some. refused_framed (handlers ∷ []) (λ under h. tt) (c.in_err-tables.ensures.outcome some));
      kept = c.in_err-tables.ensures.kept;
    }

pub returns-in_err-handlers : goal.returns-in_err-handlers
returns-in_err-handlers c =
    record {
      outcome = passed_on _ _ _ _ c.from_residual-in_err-handlers.result c.from_residual-in_err-handlers.ensures.1 (λ some. refused_after (passed_framed (handlers ∷ []) (λ under h. tt) c.in_ok-tables.ensures.outcome.1) (c.in_err-handlers.ensures.outcome some));
      kept = stays_then c.in_ok-tables.ensures.kept c.in_err-handlers.ensures.kept;
    }

pub returns : goal.returns
returns c =
    record {
      outcome =
          let t = c.in_ok-tables.ensures.outcome in
          let h = c.in_ok-handlers.ensures.outcome in (
            record {
              phrase = a_file t.0.phrase h.0.phrase;
              read = t.0.read ∙ ap (tables_words t.0.phrase) h.0.read;
              value = file_value _ _ _ _ t.0.value h.0.value;
            },
            passed_then (passed_framed (handlers ∷ []) (λ under x. tt) t.1) h.1,
          );
      kept = stays_then c.in_ok-tables.ensures.kept c.in_ok-handlers.ensures.kept;
    }
