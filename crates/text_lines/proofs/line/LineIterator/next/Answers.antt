use Rattle.std.proofs.Common.{◌++◌, take, refl, sym, ap, ◌∙◌, subst, arith}
use Rattle.std.proofs.lemmas.Bool.Decides.{nat_tests}
use Rattle.std.proofs.lemmas.List.{take-append-drop}
use Rattle.std.specs.Str.{IsCharBoundary}
use Rattle.std.specs.List.{prefix_len}
use Rattle.text_lines.specs.Bytes.{is_blank}
use Rattle.text_lines.specs.Text.{is_word_byte}
use Rattle.text_lines.proofs.TextLemmas.{boundary_run, boundary_stopped, blank_ascii, word_stop_ascii, words_cut, words_over}
use Rattle.text_lines.proofs.line.LineIterator.next.Goals as goal

pub split_at-requires : goal.split_at-requires
split_at-requires c =
    let k : IsCharBoundary c.as_bytes.result.now c.blanks_len.result = subst (IsCharBoundary c.as_bytes.result.now) (sym c.blanks_len.ensures.len) (boundary_run is_blank c.as_bytes.result.now c.as_bytes.ensures.utf8 blank_ascii) in
    subst (λ l. IsCharBoundary l c.blanks_len.result) c.as_bytes.ensures.value k

pub split_at-requires-2 : goal.split_at-requires-2
split_at-requires-2 c =
    let k : IsCharBoundary c.as_bytes-2.result.now c.word_len.result = subst (IsCharBoundary c.as_bytes-2.result.now) (sym c.word_len.ensures.len) (boundary_stopped is_word_byte c.as_bytes-2.result.now word_stop_ascii) in
    subst (λ l. IsCharBoundary l c.word_len.result) c.as_bytes-2.ensures.value k

pub returns-then-is_empty-clause-steps : goal.returns-then-is_empty-clause-steps
returns-then-is_empty-clause-steps c = (
  words_over c.args.self.now.rest.now c.split_at.result.1.now c.blanks_len.result c.word_len.result
      (c.blanks_len.ensures.len ∙ ap (prefix_len is_blank) c.as_bytes.ensures.value) c.split_at.ensures.back
      (c.word_len.ensures.len ∙ ap (prefix_len is_word_byte) c.as_bytes-2.ensures.value) (grind (arith, nat_tests, c.split_at-2.ensures.front_len, c.is_empty.ensures, c.if-is_empty.true)),
  refl,
)

pub returns-clause-steps : goal.returns-clause-steps
returns-clause-steps c = (
  words_cut c.args.self.now.rest.now c.split_at.result.1.now c.split_at-2.result.0.now c.split_at-2.result.1.now c.blanks_len.result c.word_len.result
      (c.blanks_len.ensures.len ∙ ap (prefix_len is_blank) c.as_bytes.ensures.value) c.split_at.ensures.back
      (c.word_len.ensures.len ∙ ap (prefix_len is_word_byte) c.as_bytes-2.ensures.value) (grind (arith, nat_tests, c.split_at-2.ensures.front_len, c.is_empty.ensures, c.if-is_empty.false)) c.split_at-2.ensures.front c.split_at-2.ensures.back,
  (c.blanks_len.result, ap (λ t. t ++ c.split_at-2.result.1.now) c.split_at-2.ensures.front ∙ ap (λ t. take c.word_len.result c.split_at.result.1.now ++ t) c.split_at-2.ensures.back ∙ take-append-drop c.word_len.result c.split_at.result.1.now ∙ c.split_at.ensures.back),
)
