-- What is told of a refusal, by what its file is.
use Rattle.std.proofs.Common.{◌≡◌, ◌<◌, ℕ, Bool, true, false, nat_le, List, [], length, Some, None, IsUtf8, sym, ◌∙◌, subst, arith}
use Rattle.std.specs.Str.{is_utf8}
use Rattle.std.proofs.lemmas.Bool.{and_parts}
use Rattle.std.proofs.lemmas.Bool.Decides.{nat_tests}
use Rattle.std.proofs.lemmas.Str.{IsUtf8-from_is_utf8}
use Rattle.session_values.specs.Limits.{max_input}
use Rattle.refusal_places.specs.Answers.{said_of}
use Rattle.refusal_places.specs.Refusals.{Said}
use Rattle.refusal_advice.specs.Advice.{IsAdvice}
use Rattle.refusal_advice.specs.Told.{IsAdviceFor, IsAdviceIn, IsAdviceTo, byte_of, handlers_of, is_of_grammar}

too_long : (n : ℕ) → max_input < n → nat_le n max_input ≡ true → ⊥
too_long n h e = grind (arith, nat_tests, h, e)

-- a file that is too long, and one that is no text
pub of_long : (file : List ℕ) (r : Said) (lines : List (List ℕ)) → max_input < length file → IsAdviceFor file r lines
of_long file r lines h = λ x. absurd (too_long (length file) h (and_parts (nat_le (length file) max_input) (is_utf8 file) x).0)

pub of_other : (file : List ℕ) (r : Said) (lines : List (List ℕ)) → (IsUtf8 file → ⊥) → IsAdviceFor file r lines
of_other file r lines u = λ x. absurd (u (IsUtf8-from_is_utf8 file (and_parts (nat_le (length file) max_input) (is_utf8 file) x).1))

pub of_text : (file text : List ℕ) (r : Said) (lines : List (List ℕ)) → text ≡ file → IsAdviceIn text r lines → IsAdviceFor file r lines
of_text file text r lines e h = λ x. subst (λ t. IsAdviceIn t r lines) e h

-- a rule of the grammar, and another one
pub of_grammar : (text part : List ℕ) (r : Said) (at : ℕ) (lines : List (List ℕ)) → part ≡ handlers_of text → at ≡ byte_of r.place → IsAdvice part at lines → IsAdviceIn text r lines
of_grammar text part r at lines e a h = λ x. subst (λ p. IsAdvice p (byte_of r.place) lines) e (subst (λ n. IsAdvice part n lines) a h)

pub of_rule : (text : List ℕ) (r : Said) (lines : List (List ℕ)) (b : Bool) → b ≡ is_of_grammar r.row.word → b ≡ false → IsAdviceIn text r lines
of_rule text r lines b e f = λ x. absurd (cc (sym f ∙ e ∙ x))

pub to_none : (file input : List ℕ) (lines : List (List ℕ)) → said_of input ≡ None → lines ≡ [] → IsAdviceTo file (said_of input) lines
to_none file input lines e a = subst (λ o. IsAdviceTo file o lines) (sym e) a

pub to_some : (file input : List ℕ) (lines : List (List ℕ)) (r : Said) → said_of input ≡ Some r → IsAdviceFor file r lines → IsAdviceTo file (said_of input) lines
to_some file input lines r e a = subst (λ o. IsAdviceTo file o lines) (sym e) a
