use Rattle.std.proofs.Common.{ap, arith}
use Rattle.syntax_trees.proofs.Sizes.{block_size}
use Rattle.syntax_printer.specs.Put.{at_of}
use Rattle.syntax_printer.proofs.Parts.{named_body}
use Rattle.syntax_printer.proofs.Written.{handler_adds}
use Rattle.syntax_printer.proofs.file.put_handler.Goals as goal

pub put_branch-requires : goal.put_branch-requires
put_branch-requires g c = record {
  named = named_body c.args.names.now c.args.handler.now _ c.as_slice.ensures c.requires.named;
  fits = (omega (arith, c.requires.start.0, ap block_size c.as_slice.ensures, c.requires.countable), omega (arith, c.requires.start.1, ap block_size c.as_slice.ensures, c.requires.countable));
}

pub returns : goal.returns
returns g c =
    let a = g.D.Declarations.at_points c.args.at.now in
    let names = c.args.names.now in
    let start = c.requires.start in
    handler_adds names (at_of names a c.args.spot) a.shown c.args.handler.now _ _ _ c.as_slice.ensures start.0 start.1 c.put_head.ensures c.put_branch.ensures.text c.put_close.ensures
