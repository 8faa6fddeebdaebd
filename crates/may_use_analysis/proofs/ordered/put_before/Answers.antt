use Rattle.std.proofs.Common.{◌<◌, length, ap, sym, ◌∙◌, rules}
use Rattle.symbolic_ops.proofs.PutValues.{values_put}
use Rattle.may_use_analysis.specs.Steps.{back}
use Rattle.may_use_analysis.specs.Stores.{step_of}
use Rattle.may_use_analysis.proofs.ordered.put_before.Goals as goal

pub loop-i-preserved : goal.loop-i-preserved
loop-i-preserved c =
    let f = back (step_of c.args.store) in
    let xs = c.args.list.now in
    let within : c.loop-i.i < length xs = search rules in
    values_put f xs c.loop-i.list c.loop-i.i c.index-list-i.result c.symbol_before.result within c.loop-i.invariant c.index-list-i.is (c.symbol_before.ensures ∙ ap f (sym c.index-list-i.is))
