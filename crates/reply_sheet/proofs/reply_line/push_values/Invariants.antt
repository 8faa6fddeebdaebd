use Rattle.std.proofs.Common.{◌≡◌, ◌+◌, ◌*◌, ◌≤◌, ◌++◌, drop}
use Rattle.std.specs.List.{AllByRecursion}
use Rattle.session_values.specs.ReplyText.{IsPrintable, values_text}
use Rattle.reply_sheet.proofs.reply_line.push_values.Given as goal

abbrev pub invariant-values : goal.invariant-values
invariant-values g l = record {
  text : g.T.TextRoom.held l.out ++ values_text l.names (drop l.value-index l.values) ≡ g.T.TextRoom.held l.fn.out ++ values_text l.names l.values;
  len : g.T.TextRoom.spare l.fn.out ≤ g.T.TextRoom.spare l.out + 65 * l.value-index;
  printable : AllByRecursion (IsPrintable l.names) (drop l.value-index l.values);
}
