use Rattle.std.proofs.Common.{◌<◌, ◌++◌, Option, Result, Ok, Err, MatchResult, take, refl, sym, ap, ◌∙◌, subst}
use Rattle.std.proofs.lemmas.Bool.{true≢false}
use Rattle.std.proofs.lemmas.List.{take-append-drop}
use Rattle.std.specs.Result.{IsErr}
use Rattle.std.specs.Str.{IsCharBoundary}
use Rattle.std.specs.List.{prefix_len}
use Rattle.text_lines.specs.Bytes.{is_blank}
use Rattle.session_values.specs.declared.value.Value.{Value}
use Rattle.text_lines.specs.Text.{is_word_byte}
use Rattle.text_lines.proofs.TextLemmas.{boundary_stopped, word_stop_ascii, words_cut}
use Rattle.text_lines.proofs.line.Line.front_value.Goals as goal

pub split_at-requires : goal.split_at-requires
split_at-requires c =
    let k : IsCharBoundary c.as_bytes.result.now c.word_len.result = subst (IsCharBoundary c.as_bytes.result.now) (sym c.word_len.ensures.len) (boundary_stopped is_word_byte c.as_bytes.result.now word_stop_ascii) in
    subst (λ l. IsCharBoundary l c.word_len.result) c.as_bytes.ensures.value k

by_err : {E Y : Type 0} (X : Option (Option Value) → Type 0) (r : Result (Option (Option Value)) E) → IsErr r → Y → MatchResult r X (λ _. Y)
by_err X (Err e) h y = y
by_err X (Ok v) h y = absurd (true≢false (sym h))

pub returns-in_err-value : goal.returns-in_err-value
returns-in_err-value c =
    let some : 0 < c.word_len.result = subst (λ n. 0 < n) (sym c.word_len.ensures.len) (subst (λ t. 0 < prefix_len is_word_byte t) (sym c.as_bytes.ensures.value) c.requires.word) in
    let cut = words_cut c.args.self.now.rest.now c.args.rest.now c.split_at.result.0.now c.split_at.result.1.now (prefix_len is_blank c.args.self.now.rest.now) c.word_len.result
    refl c.requires.blanks
    (c.word_len.ensures.len ∙ ap (prefix_len is_word_byte) c.as_bytes.ensures.value) some c.split_at.ensures.front c.split_at.ensures.back in
    let slice = ap (λ t. t ++ c.split_at.result.1.now) c.split_at.ensures.front ∙ ap (λ t. take c.word_len.result c.args.rest.now ++ t) c.split_at.ensures.back ∙ take-append-drop c.word_len.result c.args.rest.now ∙ c.requires.blanks in
    record { steps = by_err _ c.from_residual.result c.from_residual.ensures.0 (c.split_at.result.0.now, (cut, (prefix_len is_blank c.args.self.now.rest.now, slice)), c.in_err-value.ensures.err) }

pub returns : goal.returns
returns c =
    let some : 0 < c.word_len.result = subst (λ n. 0 < n) (sym c.word_len.ensures.len) (subst (λ t. 0 < prefix_len is_word_byte t) (sym c.as_bytes.ensures.value) c.requires.word) in
    let cut = words_cut c.args.self.now.rest.now c.args.rest.now c.split_at.result.0.now c.split_at.result.1.now (prefix_len is_blank c.args.self.now.rest.now) c.word_len.result
    refl c.requires.blanks
    (c.word_len.ensures.len ∙ ap (prefix_len is_word_byte) c.as_bytes.ensures.value) some c.split_at.ensures.front c.split_at.ensures.back in
    let slice = ap (λ t. t ++ c.split_at.result.1.now) c.split_at.ensures.front ∙ ap (λ t. take c.word_len.result c.args.rest.now ++ t) c.split_at.ensures.back ∙ take-append-drop c.word_len.result c.args.rest.now ∙ c.requires.blanks in
    record { steps = (c.split_at.result.0.now, (cut, (prefix_len is_blank c.args.self.now.rest.now, slice)), (c.in_ok-value.ensures.value, c.in_ok-value.ensures.names)) }
