use Rattle.syntax_printer.specs.Canonical.{whole_text}
use Rattle.syntax_trees.specs.Mentions.{expr_mentions}
use Rattle.syntax_printer.proofs.Loops.{further_turn, further_end, named_turn}
use Rattle.syntax_printer.proofs.expr.put_more_values.Goals as goal

pub put_expr-requires : goal.put_expr-requires
put_expr-requires g c = (named_turn c.args.names.now expr_mentions c.args.values.now c.loop-value.value-index _ _ c.loop-value-test.true c.value-item.is c.loop-value.invariant.named).0

pub loop-value-preserved : goal.loop-value-preserved
loop-value-preserved g c =
    let xs = c.args.values.now in
    let i = c.loop-value.value-index in
    let x = c.value-item.result in
    record {
      text = further_turn (whole_text c.args.names.now) xs i x x c.loop-value-test.true c.value-item.is c.loop-value.invariant.text c.put.ensures c.put_expr.ensures;
      named = (named_turn c.args.names.now expr_mentions xs i x x c.loop-value-test.true c.value-item.is c.loop-value.invariant.named).1;
    }

pub returns : goal.returns
returns g c = further_end (whole_text c.args.names.now) c.args.values.now c.loop-value.value-index c.loop-value-test.false c.loop-value.invariant.text
