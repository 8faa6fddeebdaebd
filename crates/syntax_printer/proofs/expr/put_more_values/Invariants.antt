use Rattle.std.proofs.Common.{map, drop}
use Rattle.std.specs.List.{flat_map}
use Rattle.syntax_printer.specs.Canonical.{whole_text, further}
use Rattle.syntax_trees.specs.Mentions.{AreNamed, expr_mentions}
use Rattle.syntax_printer.proofs.Loops.{Owes}
use Rattle.syntax_printer.proofs.expr.put_more_values.Given as goal

abbrev pub invariant-loop-value : goal.invariant-loop-value
invariant-loop-value g l = record {
  text : Owes g.T.TextSink.IsDue (further (map (whole_text l.names) l.values)) (further (map (whole_text l.names) (drop l.value-index l.values))) l.fn.out l.out;
  named : AreNamed l.names (flat_map expr_mentions (drop l.value-index l.values));
}
