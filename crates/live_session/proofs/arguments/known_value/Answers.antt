use Rattle.std.proofs.Common.{sym, ◌∙◌}
use Rattle.live_session.proofs.Words.{plain_known, symbol_found, symbol_new}
use Rattle.live_session.proofs.arguments.known_value.Goals as goal

pub returns-then-not-is_symbol : goal.returns-then-not-is_symbol
returns-then-not-is_symbol c = plain_known c.args.names.now c.args.word.now c.plain_value.result (sym c.is_symbol.ensures ∙ c.if-not-is_symbol.true) (c.plain_value.ensures c.args.names.now)

pub returns-in-Some : goal.returns-in-Some
returns-in-Some c = symbol_found c.args.names.now c.args.word.now c.in-Some.place (sym c.is_symbol.ensures ∙ c.if-not-is_symbol.false) (sym c.in-Some.ensures.index) c.in-Some.ensures.found

pub returns-in-None : goal.returns-in-None
returns-in-None c = symbol_new c.args.names.now c.args.word.now (sym c.is_symbol.ensures ∙ c.if-not-is_symbol.false) (sym c.in-None.ensures.index)
