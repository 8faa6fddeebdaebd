use Rattle.syntax_printer.specs.Canonical.{atom_text}
use Rattle.syntax_trees.specs.Mentions.{atom_mentions}
use Rattle.syntax_printer.proofs.Loops.{further_turn, further_end, named_turn}
use Rattle.syntax_printer.proofs.piece.put_arguments.Goals as goal

pub put_atom-requires : goal.put_atom-requires
put_atom-requires g c = (named_turn c.args.names.now atom_mentions c.args.args.now c.args-2.atom-index _ _ c.args-2-test.true c.atom-item.is c.args-2.invariant.named).0

pub args-2-preserved : goal.args-2-preserved
args-2-preserved g c =
    let xs = c.args.args.now in
    let i = c.args-2.atom-index in
    let x = c.atom-item.result in
    record {
      text = further_turn (atom_text c.args.names.now) xs i x x c.args-2-test.true c.atom-item.is c.args-2.invariant.text c.put.ensures c.put_atom.ensures;
      named = (named_turn c.args.names.now atom_mentions xs i x x c.args-2-test.true c.atom-item.is c.args-2.invariant.named).1;
    }

pub returns : goal.returns
returns g c = further_end (atom_text c.args.names.now) c.args.args.now c.args-2.atom-index c.args-2-test.false c.args-2.invariant.text
