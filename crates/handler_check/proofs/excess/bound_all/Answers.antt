use Rattle.std.proofs.Common.{◌∙◌, sym}
use Rattle.std.proofs.lemmas.Result.{err_from_is_err_and}
use Rattle.handler_check.specs.Checked.{AreBoundsOf}
use Rattle.handler_check.proofs.ExcessLemmas.{excess_turn}
use Rattle.handler_check.proofs.Resolving.{zip_turn}
use Rattle.handler_check.proofs.Scans.{exits, later, stops}
use Rattle.handler_check.proofs.excess.bound_all.Goals as goal

pub returns-in_err-one-clause-found : goal.returns-in_err-one-clause-found
returns-in_err-one-clause-found c =
    let x = c.handler-item.result in
    let turn = excess_turn c.args.handlers.now c.loop-handler.handler-index x x c.loop-handler-test.true c.handler-item.is in
    let p = err_from_is_err_and c.from_residual.result c.from_residual.ensures.1 in
    exits _ _ _ _ p.1 p.2 (stops _ _ _ _ (c.loop-handler.invariant.found ∙ turn) (λ n. sym c.in_err-one.ensures.excess))

pub loop-handler-preserved : goal.loop-handler-preserved
loop-handler-preserved c =
    let x = c.handler-item.result in
    let turn = excess_turn c.args.handlers.now c.loop-handler.handler-index x x c.loop-handler-test.true c.handler-item.is in
    record {
      found = later _ _ _ (c.loop-handler.invariant.found ∙ turn) (sym c.in_ok-one.ensures.excess);
      bounds = rw c.in_ok-push.ensures.items (zip_turn AreBoundsOf c.args.handlers.now c.loop-handler.found.items c.loop-handler.handler-index x x c.in_ok-one.one c.loop-handler-test.true c.handler-item.is c.loop-handler.invariant.bounds c.in_ok-one.ensures.bounds);
    }
