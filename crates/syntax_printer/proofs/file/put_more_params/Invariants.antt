use Rattle.std.proofs.Common.{map, drop}
use Rattle.std.specs.List.{flat_map}
use Rattle.syntax_printer.specs.Canonical.{param_text, further}
use Rattle.syntax_trees.specs.Mentions.{AreNamed, param_mentions}
use Rattle.syntax_printer.proofs.Loops.{Owes}
use Rattle.syntax_printer.proofs.file.put_more_params.Given as goal

abbrev pub invariant-loop-param : goal.invariant-loop-param
invariant-loop-param g l = record {
  text : Owes g.T.TextSink.IsDue (further (map (param_text l.names) l.params)) (further (map (param_text l.names) (drop l.param-index l.params))) l.fn.out l.out;
  named : AreNamed l.names (flat_map param_mentions (drop l.param-index l.params));
}
