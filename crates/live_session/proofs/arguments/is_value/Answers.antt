use Rattle.std.proofs.Common.{[], sym, ap, ◌∙◌}
use Rattle.std.specs.Option.{is_some}
use Rattle.text_lines.proofs.ValueLemmas.{is_value_is}
use Rattle.live_session.proofs.Words.{symbol_is_value}
use Rattle.live_session.proofs.arguments.is_value.Goals as goal

pub returns-then-is_symbol : goal.returns-then-is_symbol
returns-then-is_symbol c =
    let yes = sym c.is_symbol.ensures ∙ c.if-is_symbol.true in
    c.if-is_symbol.true ∙ sym (symbol_is_value c.args.word.now yes)

pub returns-else-is_symbol : goal.returns-else-is_symbol
returns-else-is_symbol c = c.is_some.ensures ∙ ap is_some (c.plain_value.ensures []) ∙ sym (is_value_is [] c.args.word.now)
