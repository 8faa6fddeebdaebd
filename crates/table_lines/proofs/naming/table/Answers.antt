use Rattle.std.proofs.Common.{◌∙◌, sym, arith}
use Rattle.table_lines.proofs.Finding.{table_here, table_past}
use Rattle.table_lines.proofs.naming.table.Goals as goal

pub returns-then-eq : goal.returns-then-eq
returns-then-eq c =
    (table_here c.args.names.now c.args.tables.now c.args.name.now c.loop-i.i c.get.result.now c.text.result.now c.get.ensures c.text.ensures (sym c.eq.ensures ∙ c.if-eq.true) c.loop-i.invariant, omega (arith, c.len-i-end.ensures, c.loop-i-test.true))

pub loop-i-preserved : goal.loop-i-preserved
loop-i-preserved c =
    table_past c.args.names.now c.args.tables.now c.args.name.now c.loop-i.i c.get.result.now c.text.result.now c.get.ensures c.text.ensures (sym c.eq.ensures ∙ c.if-eq.false) c.loop-i.invariant
