use Rattle.std.proofs.Common.{arith, refl, ◌≡◌, ◌≤◌, ℕ, zero, suc, pos, ◌-ℤ◌, to_z, of_z, w64, ap, []}
use Rattle.std.proofs.lemmas.Int.{ints}
use Rattle.std.proofs.lemmas.Bool.{lt-leb}
use Rattle.syntax_grammar.specs.Bounds.{where_over, number_size}
use Rattle.syntax_grammar.specs.Next.{after_minus}
use Rattle.syntax_grammar.specs.Phrase.{digits}
use Rattle.syntax_grammar.specs.Tree.{minus_ℕ}
use Rattle.syntax_parser.proofs.Steps.{took, passed_one}
use Rattle.syntax_parser.proofs.Exits.{no_memory, stays, stays_then}
use Rattle.syntax_parser.proofs.parse_atom.negative.Goals as goal

minus_is : (v : ℕ) → v ≤ 9223372036854775807 → to_z w64 (of_z w64 (pos 0 -ℤ to_z w64 v)) ≡ minus_ℕ v
minus_is zero h = omega (arith, ints)
minus_is (suc n) h = omega (arith, ints)

pub returns-then-value-gt-MAX_NUMBER : goal.returns-then-value-gt-MAX_NUMBER
returns-then-value-gt-MAX_NUMBER c =
    record {
      outcome =
          let most : 9223372036854775808 ≡ c.in-Number.value = omega (arith, c.if-value-gt-MAX_NEGATIVE.false, c.if-value-gt-MAX_NUMBER.true) in
          let read = took _ _ _ _ _ c.in_ok-word.ensures.word c.in-Number.is (λ e. cc) c.in_ok-word.ensures.words in (
            record { phrase = digits c.in-Number.value c.in_ok-word.word.at; read = read; value = ap minus_ℕ most },
            passed_one _ _ _ after_minus [] _ read c.take.ensures.end c.take.ensures.signs refl (λ under h. ap (where_over number_size) (lt-leb _ _ (omega (arith, c.if-value-gt-MAX_NEGATIVE.false)))),
          );
      kept = c.in_ok-word.ensures.kept;
    }

pub returns-else-value-gt-MAX_NUMBER : goal.returns-else-value-gt-MAX_NUMBER
returns-else-value-gt-MAX_NUMBER c =
    record {
      outcome =
          let read = took _ _ _ _ _ c.in_ok-word.ensures.word c.in-Number.is (λ e. cc) c.in_ok-word.ensures.words in (
            record { phrase = digits c.in-Number.value c.in_ok-word.word.at; read = read; value = minus_is _ (omega (arith, c.if-value-gt-MAX_NUMBER.false)) },
            passed_one _ _ _ after_minus [] _ read c.take.ensures.end c.take.ensures.signs refl (λ under h. ap (where_over number_size) (lt-leb _ _ (omega (arith, c.if-value-gt-MAX_NEGATIVE.false)))),
          );
      kept = c.in_ok-word.ensures.kept;
    }

pub returns-in_err-word : goal.returns-in_err-word
returns-in_err-word c =
    record {
      outcome = no_memory _ _ _ _ _ _ _ c.from_residual.result c.from_residual.ensures.1;
      kept = c.in_err-word.ensures.kept;
    }
