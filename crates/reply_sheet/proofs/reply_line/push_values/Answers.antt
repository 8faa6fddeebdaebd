use Rattle.std.proofs.Common.{◌++◌, sym, ap, ◌∙◌, arith, append-nil}
use Rattle.reply_sheet.proofs.LineLemmas.{turn, printable_next, values_end}
use Rattle.reply_sheet.proofs.reply_line.push_values.Goals as goal

pub values-preserved : goal.values-preserved
values-preserved g c =
    let held = g.T.TextRoom.held in
    let names = c.args.names.now in
    let vs = c.args.values.now in
    record {
      text = turn _ (held c.values.out) (held c.push.new.self) (held c.push_value.new.out) names vs c.values.value-index c.values-test.true c.values.invariant.text c.push.ensures.held c.push_value.ensures.text;
      len = omega (arith, c.push.ensures.spare, c.push_value.ensures.len, c.values.invariant.len);
      printable = (printable_next names vs c.values.value-index c.values-test.true c.values.invariant.printable).1;
    }

pub returns-clause-text : goal.returns-clause-text
returns-clause-text g c =
    let held = g.T.TextRoom.held in
    sym (append-nil (held c.values.out)) ∙ ap (λ t. held c.values.out ++ t) (sym (values_end c.args.names.now c.args.values.now c.values.value-index c.values-test.false)) ∙ c.values.invariant.text
