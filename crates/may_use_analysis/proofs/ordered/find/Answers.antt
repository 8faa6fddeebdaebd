use Rattle.std.proofs.Common.{rules}
use Rattle.std.proofs.lemmas.Fn.{always_returns_same}
use Rattle.symbolic_ops.specs.Order.{symbol_cmp}
use Rattle.may_use_analysis.proofs.Sorting.{searched}
use Rattle.may_use_analysis.proofs.ordered.find.Goals as goal

pub returns : goal.returns
returns c =
    searched c.args.list.now c.args.s.now c.binary_search_by.result c.requires c.binary_search_by.ensures.bound (c.binary_search_by.ensures.position (λ q. symbol_cmp q c.args.s.now) (always_returns_same _ _ _ (λ a r f' k. search rules)))
