use Rattle.std.proofs.Common.{rules}
use Rattle.handler_check.proofs.Resolving.{block_turn, block_end, points_turn, listed_code}
use Rattle.syntax_trees.proofs.Sizes.{member_smaller}
use Rattle.handler_check.proofs.resolution.+resolution.Goals as goal

pub resolve_block-resolve_stmt-requires : goal.resolve_block-resolve_stmt-requires
resolve_block-resolve_stmt-requires t c =
    let smaller = member_smaller _ _ _ _ c.loop-s-test.true c.s-item.is in
    search rules

pub resolve_block-loop-s-preserved : goal.resolve_block-loop-s-preserved
resolve_block-loop-s-preserved t c =
    let ts = c.args.tables.now in
    let vs = c.args.variables.now in
    let ss = c.args.block.now in
    let x = c.s-item.result in
    let done = c.in_ok-one.ensures in
    let so_far = c.loop-s.invariant in
    record {
      code = rw c.in_ok-push.ensures.items (block_turn ts vs ss c.loop-s.found.items c.loop-s.s-index x x c.in_ok-one.one _ _ _ c.loop-s-test.true c.s-item.is done.code so_far.code);
      points = points_turn ss c.loop-s.s-index x x _ _ _ c.loop-s-test.true c.s-item.is done.points so_far.points;
    }

pub resolve_block-returns-clause-code : goal.resolve_block-returns-clause-code
resolve_block-returns-clause-code t c =
    listed_code _ _ _ c.listed.ensures (block_end c.args.tables.now c.args.variables.now c.args.block.now _ c.loop-s.s-index _ _ c.loop-s-test.false c.loop-s.invariant.code)
