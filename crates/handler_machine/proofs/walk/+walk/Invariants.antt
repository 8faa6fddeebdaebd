use Rattle.std.proofs.Common.{◌+◌, ◌-◌, ◌*◌, length, drop}
use Rattle.check_meaning.specs.Ahead.{Ahead, run_then}
use Rattle.check_meaning.specs.Code.{block_code, stmt_code, Finish}
use Rattle.check_meaning.specs.Dialogue.{Env, env_of}
use Rattle.handler_machine.specs.Rounds.{rounds_then}
use Rattle.handler_machine.specs.Runnable.{IsRunnable}
use Rattle.handler_machine.proofs.Steps.{code_size}
use Rattle.handler_machine.proofs.walk.+walk.Given as goal

abbrev pub invariant-walk_block-loop-s : goal.invariant-walk_block-loop-s
invariant-walk_block-loop-s g l = record {
  within : IsRunnable (length l.fn.env) (block_code (drop l.s-index l.block));
  serves : (whole : Ahead) (start : g.row.G.Denot × g.row.H.Denot) (k : Env → Ahead) → g.G.Guide.Serves l.fn.guide whole start l.fn.host (run_then (block_code l.block) k (env_of l.fn.env)) → g.G.Guide.Serves l.guide whole start l.host (run_then (block_code (drop l.s-index l.block)) k (env_of l.env));
}

abbrev pub invariant-walk_rounds-loop-round : goal.invariant-walk_rounds-loop-round
invariant-walk_rounds-loop-round g l =
    (whole : Ahead) (start : g.row.G.Denot × g.row.H.Denot) (k : Env → Ahead) → g.G.Guide.Serves l.fn.guide whole start l.fn.host (rounds_then (run_then (block_code l.block)) l.var l.rounds 0 k (env_of l.fn.env)) → g.G.Guide.Serves l.guide whole start l.host (rounds_then (run_then (block_code l.block)) l.var (l.rounds - l.round) l.round k (env_of l.env))

abbrev pub decreases-walk_block : goal.decreases-walk_block
decreases-walk_block g l = 4 * code_size (block_code l.block.now) + 1

abbrev pub decreases-walk_stmt : goal.decreases-walk_stmt
decreases-walk_stmt g l = 4 * code_size (stmt_code l.stmt.now Finish)

abbrev pub decreases-walk_side : goal.decreases-walk_side
decreases-walk_side g l = 4 * code_size (block_code l.side.now) + 3

abbrev pub decreases-walk_rounds : goal.decreases-walk_rounds
decreases-walk_rounds g l = 4 * code_size (block_code l.block.now) + 2
