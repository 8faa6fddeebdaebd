use Rattle.std.proofs.Common.{map, drop}
use Rattle.std.specs.List.{flat_map}
use Rattle.syntax_printer.specs.Canonical.{atom_text, further}
use Rattle.syntax_trees.specs.Mentions.{AreNamed, atom_mentions}
use Rattle.syntax_printer.proofs.Loops.{Owes}
use Rattle.syntax_printer.proofs.piece.put_arguments.Given as goal

abbrev pub invariant-args-2 : goal.invariant-args-2
invariant-args-2 g l = record {
  text : Owes g.T.TextSink.IsDue (further (map (atom_text l.names) l.args)) (further (map (atom_text l.names) (drop l.atom-index l.args))) l.fn.out l.out;
  named : AreNamed l.names (flat_map atom_mentions (drop l.atom-index l.args));
}
