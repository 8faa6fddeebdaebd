use Rattle.std.proofs.Common.{◌<◌, length, ap, sym, ◌∙◌, rules}
use Rattle.symbolic_ops.specs.Instantiate.{symbol_in}
use Rattle.symbolic_ops.specs.Matching.{HasNoVar}
use Rattle.symbolic_ops.proofs.PutValues.{values_put, known_put}
use Rattle.symbolic_ops.proofs.instantiating.put_values.Goals as goal

pub loop-i-preserved : goal.loop-i-preserved
loop-i-preserved c =
    let f = symbol_in c.args.env.now in
    let xs = c.args.symbols.now in
    let within : c.loop-i.i < length xs = search rules in
    let at = c.loop-i.invariant.values in
    record {
      values = values_put f xs c.loop-i.symbols c.loop-i.i c.index-symbols-i.result c.with_values.result within at c.index-symbols-i.is (c.with_values.ensures.value ∙ ap f (sym c.index-symbols-i.is));
      known = known_put HasNoVar f xs c.loop-i.symbols c.loop-i.i c.index-symbols-i.result c.with_values.result within at c.index-symbols-i.is (c.with_values.ensures.value ∙ ap f (sym c.index-symbols-i.is)) c.with_values.ensures.known c.loop-i.invariant.known;
    }
