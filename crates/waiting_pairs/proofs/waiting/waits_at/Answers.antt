use Rattle.std.proofs.Common.{List, [], subst, arith}
use Rattle.std.specs.List.{flat_map}
use Rattle.symbolic_ops.specs.declared.symbol.Symbol.{Symbol}
use Rattle.waiting_pairs.specs.Waits.{Adds, against}
use Rattle.waiting_pairs.proofs.Adding.{adds_symbol, adds_symbols, alike_here}
use Rattle.waiting_pairs.proofs.waiting.waits_at.Goals as goal

pub loop-symbol-preserved : goal.loop-symbol-preserved
loop-symbol-preserved c = λ asked k.
    let so_far = c.loop-symbol.invariant asked k in
    let one = c.in_ok-add_against.ensures asked so_far.0 in
    (one.0, adds_symbol c.args.holder c.args.point asked c.declaration-symbols.result.now c.loop-symbol.symbol-index c.symbol-item.result [] c.loop-symbol.out.items c.add_against.new.out.items c.loop-symbol-test.true c.symbol-item.is one.1 so_far.1)

pub returns : goal.returns
returns c = λ asked k.
    let so_far = c.loop-symbol.invariant asked k in (
      so_far.0,
      alike_here c.args.program.now asked c.args.holder c.args.point c.loop-symbol.out.items
          (subst (λ (z : List Symbol). Adds (flat_map (against c.args.holder c.args.point asked) z) [] c.loop-symbol.out.items) c.declaration-symbols.ensures.list
          (adds_symbols c.args.holder c.args.point asked c.declaration-symbols.result.now c.loop-symbol.symbol-index [] c.loop-symbol.out.items (omega (arith, c.loop-symbol-test.false)) so_far.1)),
    )
