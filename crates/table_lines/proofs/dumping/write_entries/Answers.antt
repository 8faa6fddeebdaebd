use Rattle.std.proofs.Common.{subst}
use Rattle.byte_ends.specs.Ends.{Appended, AppendedPrefix}
use Rattle.table_lines.proofs.PartText.{printable_again, sorted_part}
use Rattle.table_lines.proofs.dumping.write_entries.Goals as goal

pub write_lines-requires-clause-printable : goal.write_lines-requires-clause-printable
write_lines-requires-clause-printable g c = printable_again c.args.names.now c.args.kind c.args.entries.now c.put_in_order.new.entries c.put_in_order.ensures.permutation c.requires.entries.printable

pub returns-clause-all : goal.returns-clause-all
returns-clause-all g c e =
    subst (Appended (g.O.Sink.held c.args.out.now) (g.O.Sink.held c.write_lines.new.out))
    (sorted_part c.args.names.now c.args.table c.args.kind c.args.entries.now c.put_in_order.new.entries c.len-names.ensures.distinct c.requires.entries c.put_in_order.ensures.permutation c.put_in_order.ensures.order)
    (c.write_lines.ensures.all e)

pub returns-clause-front : goal.returns-clause-front
returns-clause-front g c e =
    subst (AppendedPrefix (g.O.Sink.held c.args.out.now) (g.O.Sink.held c.write_lines.new.out))
    (sorted_part c.args.names.now c.args.table c.args.kind c.args.entries.now c.put_in_order.new.entries c.len-names.ensures.distinct c.requires.entries c.put_in_order.ensures.permutation c.put_in_order.ensures.order)
    (c.write_lines.ensures.front e)
