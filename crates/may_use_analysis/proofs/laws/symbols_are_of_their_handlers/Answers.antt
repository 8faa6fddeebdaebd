use Rattle.may_use_analysis.proofs.Own.{later_within, lists_within}
use Rattle.may_use_analysis.proofs.laws.symbols_are_of_their_handlers.Goals as goal

pub returns : goal.returns
returns c = record { code = later_within; lists = lists_within }
