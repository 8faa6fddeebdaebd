use Rattle.std.proofs.Common.{◌∙◌, sym, arith}
use Rattle.trace_lines.proofs.WordLemmas.{place_within, table_here, table_past}
use Rattle.trace_lines.proofs.word.table_number.Goals as goal

pub returns-then-eq : goal.returns-then-eq
returns-then-eq c = table_here c.args.names.now c.args.tables.now c.args.name.now c.loop-i.i c.text.result.now c.loop-i-test.true c.text.ensures (sym c.eq.ensures ∙ c.if-eq.true) c.loop-i.invariant

pub loop-i-preserved : goal.loop-i-preserved
loop-i-preserved c = table_past c.args.names.now c.args.tables.now c.args.name.now c.loop-i.i c.text.result.now c.loop-i-test.true c.text.ensures (sym c.eq.ensures ∙ c.if-eq.false) c.loop-i.invariant

pub returns : goal.returns
returns c = omega (arith, c.loop-i-test.false, c.loop-i.invariant, place_within c.args.names.now c.args.tables.now c.args.name.now)
