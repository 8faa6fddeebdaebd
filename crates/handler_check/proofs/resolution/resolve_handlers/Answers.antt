use Rattle.std.proofs.Common.{◌∙◌, ℕ, ◌+◌, List, drop, ap, sym}
use Rattle.std.proofs.lemmas.Result.{err_from_is_err_and}
use Rattle.handler_check.specs.Resolved.{IsResolved}
use Rattle.handler_check.proofs.Resolving.{zip_turn}
use Rattle.handler_check.specs.Scan.{scan_handlers}
use Rattle.handler_check.proofs.Scans.{stops, exits, later}
use Rattle.handler_check.proofs.Walks.{next_turn}
use Rattle.handler_check.proofs.resolution.resolve_handlers.Goals as goal

pub returns-in_err-one-clause-found : goal.returns-in_err-one-clause-found
returns-in_err-one-clause-found c =
    let x = c.handler-item.result in
    let turn = next_turn c.args.declared.now c.args.handlers.now c.loop-handler.handler-index x x c.loop-handler.earlier.items c.loop-handler-test.true c.handler-item.is in
    let p = err_from_is_err_and c.from_residual.result c.from_residual.ensures.1 in
    exits _ _ _ _ p.1 p.2 (stops _ _ _ _ (c.loop-handler.invariant.found ∙ turn) c.in_err-one.ensures.found)

pub loop-handler-preserved : goal.loop-handler-preserved
loop-handler-preserved c =
    let x = c.handler-item.result in
    let i = c.loop-handler.handler-index in
    let hs = c.args.handlers.now in
    let turn = next_turn c.args.declared.now hs i x x c.loop-handler.earlier.items c.loop-handler-test.true c.handler-item.is in
    let names = c.in_ok-one.ensures.names in
    record {
      found = later _ _ _ (c.loop-handler.invariant.found ∙ turn) c.in_ok-one.ensures.found ∙ ap (λ (ns : List ℕ). scan_handlers c.args.declared.now ns (drop (i + 1) hs)) (sym names);
      resolved = rw c.in_ok-push.ensures.items (zip_turn (IsResolved c.args.tables.now) hs c.loop-handler.found.items i x x c.in_ok-one.one c.loop-handler-test.true c.handler-item.is c.loop-handler.invariant.resolved c.in_ok-one.ensures.handler);
    }
