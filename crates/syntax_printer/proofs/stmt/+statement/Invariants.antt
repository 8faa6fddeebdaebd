use Rattle.std.proofs.Common.{◌≡◌, ◌+◌, ◌≤◌, drop}
use Rattle.std.specs.List.{flat_map}
use Rattle.syntax_printer.specs.Lines.{block_lines, block_points, written}
use Rattle.syntax_printer.specs.Put.{parts_of}
use Rattle.syntax_trees.specs.Mentions.{AreNamed, stmt_mentions}
use Rattle.syntax_printer.proofs.Loops.{Owes}
use Rattle.syntax_trees.proofs.Sizes.{stmt_size, block_size}
use Rattle.syntax_printer.proofs.stmt.+statement.Given as goal

abbrev pub decreases-put_statement : goal.decreases-put_statement
decreases-put_statement g l = stmt_size l.s.now

abbrev pub decreases-put_choice : goal.decreases-put_choice
decreases-put_choice g l = 2 + (block_size l.choice.yes.now + block_size l.choice.no.now)

abbrev pub decreases-put_repeat : goal.decreases-put_repeat
decreases-put_repeat g l = 1 + block_size l.repeat.body.now

abbrev pub decreases-put_branch : goal.decreases-put_branch
decreases-put_branch g l = 1 + block_size l.block.now

abbrev pub decreases-put_block : goal.decreases-put_block
decreases-put_block g l = block_size l.block.now

abbrev pub invariant-put_block-loop-s : goal.invariant-put_block-loop-s
invariant-put_block-loop-s g l =
    let a = g.D.Declarations.at_points l.at in
    let all = parts_of l.names a l.spot l.block in
    let left = parts_of l.names a l.spot (drop l.s-index l.block) in
    record {
      text : Owes g.T.TextSink.IsDue (written a.shown (block_lines all l.spot.depth l.spot.point)) (written a.shown (block_lines left l.spot.depth l.next)) l.fn.out l.out;
      next : l.next + block_points left ≡ l.spot.point + block_points all;
      fits : l.next + block_size (drop l.s-index l.block) ≤ l.spot.point + block_size l.block;
      named : AreNamed l.names (flat_map stmt_mentions (drop l.s-index l.block));
    }
