use Rattle.std.proofs.Common.{rules}
use Rattle.commute_tables.proofs.AgainstSymbols.{symbol_decided, Decides-commute_symbol}
use Rattle.commute_tables.proofs.against_symbol.commute_symbol.Goals as goal

pub returns-clause-exact : goal.returns-clause-exact
returns-clause-exact c = search (rules, Decides-commute_symbol)

pub returns-clause-told : goal.returns-clause-told
returns-clause-told c = search (rules, symbol_decided)
