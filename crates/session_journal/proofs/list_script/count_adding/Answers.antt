use Rattle.std.proofs.Common.{◌≡◌, ℕ, suc, ◌+◌, take, ap, ◌∙◌, cond, ◌&&◌, eqb, arith}
use Rattle.session_values.specs.Kinds.{is_adding}
use Rattle.session_journal.specs.Lists.{adding}
use Rattle.session_journal.proofs.ListKeeps.{adding_step, adding_front}
use Rattle.session_journal.proofs.ListLawful.{adding_le}
use Rattle.session_journal.proofs.list_script.count_adding.Goals as goal

pub overflow_add-count : goal.overflow_add-count
overflow_add-count c =
    let step : adding c.args.table (take (suc c.loop-op.op-index) c.args.ops.now) ≡ adding c.args.table (take c.loop-op.op-index c.args.ops.now) + cond {A = ℕ} (is_adding c.op-item.result.kind && eqb c.op-item.result.table c.args.table) 1 0 = adding_step c.args.table c.args.ops.now c.loop-op.op-index c.op-item.result c.loop-op-test.true c.op-item.is in
    omega (arith, step, c.loop-op.invariant, c.adds_to-count.ensures, adding_front c.args.table c.args.ops.now (suc c.loop-op.op-index), adding_le c.args.table c.args.ops.now, c.requires)

pub loop-op-preserved : goal.loop-op-preserved
loop-op-preserved c =
    let step : adding c.args.table (take (suc c.loop-op.op-index) c.args.ops.now) ≡ adding c.args.table (take c.loop-op.op-index c.args.ops.now) + cond {A = ℕ} (is_adding c.op-item.result.kind && eqb c.op-item.result.table c.args.table) 1 0 = adding_step c.args.table c.args.ops.now c.loop-op.op-index c.op-item.result c.loop-op-test.true c.op-item.is in
    let e : suc c.loop-op.op-index ≡ c.loop-op.op-index + 1 = omega arith in
    let here : c.loop-op.count + c.adds_to-count.result ≡ adding c.args.table (take (suc c.loop-op.op-index) c.args.ops.now) = omega (arith, step, c.loop-op.invariant, c.adds_to-count.ensures) in
    here ∙ ap (λ (n : ℕ). adding c.args.table (take n c.args.ops.now)) e
