use Rattle.std.proofs.Common.{◌≡◌, false, length, sym, ap, ◌∙◌}
use Rattle.std.specs.Prelude.{slice_index}
use Rattle.syntax_grammar.specs.Keyword.{may_begin}
use Rattle.syntax_grammar.proofs.Reserved.{none_reserved}
use Rattle.syntax_grammar.proofs.keyword.keyword.Goals as goal

pub returns-then-not-may_begin : goal.returns-then-not-may_begin
returns-then-not-may_begin c =
    let text = c.args.text.now in
    let first = c.byte_at.ensures ∙ ap (λ bytes. slice_index bytes 0) c.as_bytes.ensures.value in
    let none : may_begin (slice_index text 0) (length text) ≡ false = ap (λ b. may_begin b (length text)) (sym first) ∙ sym c.may_begin.ensures ∙ c.if-not-may_begin.true in
    sym (none_reserved text none)
