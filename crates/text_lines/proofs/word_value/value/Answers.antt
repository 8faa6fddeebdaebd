use Rattle.std.proofs.Common.{◌≡◌, false, slice_index, sym, ap, ◌∙◌}
use Rattle.std.specs.Char.{is_ascii_alphabetic}
use Rattle.text_lines.proofs.ValueLemmas.{number_only, none_placed}
use Rattle.text_lines.proofs.word_value.value.Goals as goal

pub returns-then-not-is_ascii_alphabetic-clause-value : goal.returns-then-not-is_ascii_alphabetic-clause-value
returns-then-not-is_ascii_alphabetic-clause-value c =
    let plain : is_ascii_alphabetic (slice_index c.args.word.now 0) ≡ false =
    ap is_ascii_alphabetic (sym c.first_byte.ensures) ∙ sym c.is_ascii_alphabetic.ensures.value ∙ c.if-not-is_ascii_alphabetic.true in
    c.number_value.ensures ∙ sym (number_only c.args.names.now c.args.word.now plain)

pub returns-then-not-is_ascii_alphabetic-clause-names : goal.returns-then-not-is_ascii_alphabetic-clause-names
returns-then-not-is_ascii_alphabetic-clause-names c =
    let plain : is_ascii_alphabetic (slice_index c.args.word.now 0) ≡ false =
    ap is_ascii_alphabetic (sym c.first_byte.ensures) ∙ sym c.is_ascii_alphabetic.ensures.value ∙ c.if-not-is_ascii_alphabetic.true in
    sym (none_placed c.args.names.now c.args.word.now plain)
