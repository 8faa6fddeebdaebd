use Rattle.std.proofs.Common.{refl}
use Rattle.commute_tables.specs.Relation.{commutes, commutes_symbol, commutes_symbols}
use Rattle.commute_tables.proofs.AgainstSymbols.{Decides-commute_symbol}
use Rattle.commute_tables.proofs.TellingApart.{Decides-commute}
use Rattle.commute_tables.proofs.TwoSymbols.{Decides-commute_symbols}
use Rattle.commute_tables.proofs.laws.rule_is_exact.Goals as goal

pub returns-clause-operations : goal.returns-clause-operations
returns-clause-operations c = λ a b f g. Decides-commute a b (commutes a b) f g refl

pub returns-clause-symbols : goal.returns-clause-symbols
returns-clause-symbols c = λ a s v f g. Decides-commute_symbol a s (commutes_symbol a s) v f g refl

pub returns-clause-two_symbols : goal.returns-clause-two_symbols
returns-clause-two_symbols c = λ s t v w f g. Decides-commute_symbols s t (commutes_symbols s t) v w f g refl
