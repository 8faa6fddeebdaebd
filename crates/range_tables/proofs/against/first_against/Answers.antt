use Rattle.range_tables.proofs.Firsts.{against_at, all_at, ready_symbol}
use Rattle.range_tables.specs.Ready.{IsReady}
use Rattle.range_tables.proofs.against.first_against.Goals as goal

pub range_commute_symbol-requires : goal.range_commute_symbol-requires
range_commute_symbol-requires c = ready_symbol c.index-symbols-i.result (all_at IsReady c.args.symbols.now c.loop-i.i c.index-symbols-i.result c.requires c.loop-i-test.true c.index-symbols-i.is)

pub returns-then-not-range_commute_symbol : goal.returns-then-not-range_commute_symbol
returns-then-not-range_commute_symbol c = against_at c.args.op.now c.args.symbols.now c.loop-i.i c.index-symbols-i.result c.range_commute_symbol.result c.loop-i-test.true c.index-symbols-i.is c.loop-i.invariant c.range_commute_symbol.ensures.exact c.if-not-range_commute_symbol.true
