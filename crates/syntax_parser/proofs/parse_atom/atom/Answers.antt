use Rattle.std.proofs.Common.{rules, arith, refl, ap, ◌∙◌, ◌∷◌, [], w64}
use Rattle.std.proofs.Math.Facts.{to_z_pos, to_z-of_z}
use Rattle.std.proofs.lemmas.Bool.{lt-leb}
use Rattle.session_values.specs.declared.value.Value.TheVariants as value
use Rattle.syntax_grammar.specs.declared.word.Sort.TheVariants as sort
use Rattle.syntax_grammar.specs.Phrase.{word}
use Rattle.syntax_trees.specs.declared.expr.Atom.TheVariants as atom
use Rattle.syntax_grammar.specs.Bounds.{where_over, number_size}
use Rattle.syntax_grammar.specs.Next.{an_atom, after_minus}
use Rattle.syntax_grammar.specs.Phrase.{digits, name_atom, nil_atom, symbol_atom, number_atom, negative_atom}
use Rattle.syntax_parser.proofs.Steps.{took, passed_one, passed_then}
use Rattle.syntax_parser.proofs.Exits.{passed_on, no_memory, grown, stays, stays_then}
use Rattle.syntax_parser.proofs.Steps.{refused_after}
use Rattle.syntax_parser.proofs.parse_atom.atom.Goals as goal

pub returns-in-Name : goal.returns-in-Name
returns-in-Name c =
    record {
      outcome =
          let read = took _ _ _ _ _ c.in_ok-word.ensures.word c.in-Name.is (λ e. cc) c.in_ok-word.ensures.words in (
            record { phrase = name_atom c.in-Name.name c.in_ok-word.word.at; read = read; value = refl },
            passed_one _ _ _ an_atom [] _ read c.take.ensures.end c.take.ensures.signs refl (λ under h. refl),
          );
      kept = c.in_ok-word.ensures.kept;
    }

pub returns-in-Nil : goal.returns-in-Nil
returns-in-Nil c =
    record {
      outcome =
          let read = took _ _ _ _ _ c.in_ok-word.ensures.word c.in-Nil.is (λ e. cc) c.in_ok-word.ensures.words in (
            record { phrase = nil_atom c.in_ok-word.word.at; read = read; value = ap atom.Lit c.of.ensures },
            passed_one _ _ _ an_atom [] _ read c.take.ensures.end c.take.ensures.signs refl (λ under h. refl),
          );
      kept = c.in_ok-word.ensures.kept;
    }

pub returns-in-Symbol : goal.returns-in-Symbol
returns-in-Symbol c =
    record {
      outcome =
          let read = took _ _ _ _ _ c.in_ok-word.ensures.word c.in-Symbol.is (λ e. cc) c.in_ok-word.ensures.words in (
            record { phrase = symbol_atom c.in-Symbol.place c.in_ok-word.word.at; read = read; value = ap atom.Lit c.of-in-Symbol.ensures },
            passed_one _ _ _ an_atom [] _ read c.take.ensures.end c.take.ensures.signs refl (λ under h. refl),
          );
      kept = c.in_ok-word.ensures.kept;
    }

pub returns-else-value-gt-MAX_NUMBER : goal.returns-else-value-gt-MAX_NUMBER
returns-else-value-gt-MAX_NUMBER c =
    record {
      outcome =
          let read = took _ _ _ _ _ c.in_ok-word.ensures.word c.in-Number.is (λ e. cc) c.in_ok-word.ensures.words in (
            record {
              phrase = number_atom (digits c.in-Number.value c.in_ok-word.word.at);
              read = read;
              value = ap atom.Lit c.of-in-Number.ensures ∙ ap (λ z. atom.Lit (value.Num z)) (to_z_pos w64 (omega (arith, c.if-value-gt-MAX_NUMBER.false)));
            },
            passed_one _ _ _ an_atom [] _ read c.take.ensures.end c.take.ensures.signs refl (λ under h. ap (where_over number_size) (lt-leb _ _ (omega (arith, c.if-value-gt-MAX_NUMBER.false)))),
          );
      kept = c.in_ok-word.ensures.kept;
    }

pub returns-in_ok-negative-in-Minus : goal.returns-in_ok-negative-in-Minus
returns-in_ok-negative-in-Minus c =
    record {
      outcome =
          let read = took _ _ _ _ _ c.in_ok-word.ensures.word c.in-Minus.is (λ e. cc) c.in_ok-word.ensures.words in
          let found = c.in_ok-negative-in-Minus.ensures.outcome in (
            record {
              phrase = negative_atom c.in_ok-word.word.at found.0.phrase;
              read = read ∙ ap (λ l. word sort.Minus c.in_ok-word.word.at ∷ l) found.0.read;
              value = ap atom.Lit c.of-in-Minus.ensures ∙ ap (λ z. atom.Lit (value.Num z)) (to_z-of_z {w = w64} (search rules) ∙ found.0.value);
            },
            passed_then (passed_one _ _ _ an_atom (after_minus ∷ []) _ read c.take.ensures.end c.take.ensures.signs refl (λ under h. refl)) found.1,
          );
      kept = stays_then c.in_ok-word.ensures.kept c.in_ok-negative-in-Minus.ensures.kept;
    }

pub returns-in_err-word : goal.returns-in_err-word
returns-in_err-word c =
    record {
      outcome = no_memory _ _ _ _ _ _ _ c.from_residual.result c.from_residual.ensures.1;
      kept = c.in_err-word.ensures.kept;
    }

pub returns-in_err-negative-in-Minus : goal.returns-in_err-negative-in-Minus
returns-in_err-negative-in-Minus c =
    record {
      outcome = passed_on _ _ _ _ c.from_residual-in_err-negative-in-Minus.result c.from_residual-in_err-negative-in-Minus.ensures.1 (λ some. refused_after (passed_one _ _ _ an_atom (after_minus ∷ []) _ (took _ _ _ _ _ c.in_ok-word.ensures.word c.in-Minus.is (λ e. cc) c.in_ok-word.ensures.words) c.take.ensures.end c.take.ensures.signs refl (λ under h. refl)) (c.in_err-negative-in-Minus.ensures.outcome some));
      kept = stays_then c.in_ok-word.ensures.kept c.in_err-negative-in-Minus.ensures.kept;
    }
