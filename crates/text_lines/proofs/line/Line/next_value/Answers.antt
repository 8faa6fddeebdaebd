use Rattle.std.proofs.Common.{◌<◌, ◌++◌, ◌≡◌, drop, List, length, take, refl, sym, ap, ◌∙◌, subst, arith}
use Rattle.std.proofs.lemmas.List.{take-append-drop}
use Rattle.std.specs.Str.{IsCharBoundary}
use Rattle.std.specs.List.{prefix_len}
use Rattle.text_lines.specs.Bytes.{is_blank}
use Rattle.text_lines.specs.Text.{Text, is_word_byte}
use Rattle.text_lines.proofs.LeadingLemmas.{few_value, some_word}
use Rattle.text_lines.proofs.TextLemmas.{boundary_run, boundary_stopped, blank_ascii, word_stop_ascii, words_cut, words_over}
use Rattle.text_lines.proofs.line.Line.next_value.Goals as goal

pub split_at-requires : goal.split_at-requires
split_at-requires c =
    let k : IsCharBoundary c.as_bytes.result.now c.blanks_len.result = subst (IsCharBoundary c.as_bytes.result.now) (sym c.blanks_len.ensures.len) (boundary_run is_blank c.as_bytes.result.now c.as_bytes.ensures.utf8 blank_ascii) in
    subst (λ l. IsCharBoundary l c.blanks_len.result) c.as_bytes.ensures.value k

pub returns-then-len-eq0 : goal.returns-then-len-eq0
returns-then-len-eq0 c =
    let none = words_over c.args.self.now.rest.now c.split_at.result.1.now c.blanks_len.result c.in-Some.len
    (c.blanks_len.ensures.len ∙ ap (prefix_len is_blank) c.as_bytes.ensures.value) c.split_at.ensures.back
    (c.in-Some.ensures.len ∙ ap (prefix_len is_word_byte) c.as_bytes-2.ensures.value) c.if-len-eq0.true in
    record { steps = ((none, refl), refl) }

pub split_at-requires-2 : goal.split_at-requires-2
split_at-requires-2 c =
    let k : IsCharBoundary c.as_bytes-2.result.now c.in-Some.len = subst (IsCharBoundary c.as_bytes-2.result.now) (sym c.in-Some.ensures.len) (boundary_stopped is_word_byte c.as_bytes-2.result.now word_stop_ascii) in
    subst (λ l. IsCharBoundary l c.in-Some.len) c.as_bytes-2.ensures.value k

pub returns : goal.returns
returns c =
    let some : 0 < c.in-Some.len = omega (arith, c.if-len-eq0.false) in
    let cut = words_cut c.args.self.now.rest.now c.split_at.result.1.now c.split_at-2.result.0.now c.split_at-2.result.1.now c.blanks_len.result c.in-Some.len
    (c.blanks_len.ensures.len ∙ ap (prefix_len is_blank) c.as_bytes.ensures.value) c.split_at.ensures.back
    (c.in-Some.ensures.len ∙ ap (prefix_len is_word_byte) c.as_bytes-2.ensures.value) some c.split_at-2.ensures.front c.split_at-2.ensures.back in
    let few = few_value c.args.names.now c.as_bytes-2.result.now c.split_at.result.1.now c.split_at-2.result.0.now c.in-Some.number c.in-Some.len
    c.in-Some.ensures c.as_bytes-2.ensures.value c.split_at-2.ensures.front (omega (arith, some, c.split_at-2.ensures.front_len)) in
    record {
      steps = (
        c.split_at-2.result.0.now,
        (cut, (c.blanks_len.result, ap (λ t. t ++ c.split_at-2.result.1.now) c.split_at-2.ensures.front ∙ ap (λ t. take c.in-Some.len c.split_at.result.1.now ++ t) c.split_at-2.ensures.back ∙ take-append-drop c.in-Some.len c.split_at.result.1.now ∙ c.split_at.ensures.back)),
        (few.value, few.kept),
      );
    }

pub front_value-requires : goal.front_value-requires
front_value-requires c =
    let some : 0 < prefix_len is_word_byte c.split_at.result.1.now = subst (λ t. 0 < prefix_len is_word_byte t) c.as_bytes-2.ensures.value (some_word c.as_bytes-2.result.now c.in_default.ensures) in
    let gap : c.blanks_len.result ≡ prefix_len is_blank c.args.self.now.rest.now = c.blanks_len.ensures.len ∙ ap (prefix_len is_blank) c.as_bytes.ensures.value in
    let behind : c.split_at.result.1.now ≡ drop (prefix_len is_blank c.args.self.now.rest.now) c.args.self.now.rest.now = c.split_at.ensures.back ∙ ap (λ k. drop k c.args.self.now.rest.now) gap in
    let cut = words_cut c.args.self.now.rest.now c.split_at.result.1.now (take (prefix_len is_word_byte c.split_at.result.1.now) c.split_at.result.1.now) (drop (prefix_len is_word_byte c.split_at.result.1.now) c.split_at.result.1.now) c.blanks_len.result (prefix_len is_word_byte c.split_at.result.1.now) gap c.split_at.ensures.back refl some refl refl in
    record { blanks = behind; word = some; names = c.requires (subst (λ (ws : List Text). 0 < length ws) (sym cut) (omega arith)) }
