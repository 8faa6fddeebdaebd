use Rattle.std.proofs.Common.{rules}
use Rattle.commute_tables.proofs.TwoSymbols.{symbols_decided, Decides-commute_symbols}
use Rattle.commute_tables.proofs.two_symbols.commute_symbols.Goals as goal

pub returns-clause-exact : goal.returns-clause-exact
returns-clause-exact c = search (rules, Decides-commute_symbols)

pub returns-clause-told : goal.returns-clause-told
returns-clause-told c = search (rules, symbols_decided)
