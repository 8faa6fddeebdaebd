use Rattle.std.proofs.Common.{◌∙◌, ◌++◌, ◌∷◌, ℕ, ◌+◌, List, [], drop, ap, sym, refl}
use Rattle.std.proofs.lemmas.Result.{err_from_is_err_and}
use Rattle.handler_check.specs.Excess.{own_excess}
use Rattle.handler_check.specs.Resolved.{IsResolved}
use Rattle.handler_check.proofs.ExcessLemmas.{excess_push}
use Rattle.handler_check.proofs.Resolving.{zip_turn, zip_end}
use Rattle.handler_check.specs.Scan.{Fault, or_else, scan_handlers}
use Rattle.handler_check.proofs.Scans.{or_is, stops, exits, later}
use Rattle.handler_check.proofs.Walks.{next_turn}
use Rattle.handler_check.proofs.looking.look_at_handlers.Goals as goal

pub returns-in_err-one-clause-found : goal.returns-in_err-one-clause-found
returns-in_err-one-clause-found c =
    let x = c.handler-item.result in
    let turn = next_turn c.args.declared.now c.args.handlers.now c.loop-handler.handler-index x x c.loop-handler.earlier.items c.loop-handler-test.true c.handler-item.is in
    let p = err_from_is_err_and c.from_residual.result c.from_residual.ensures.1 in
    exits _ _ _ _ p.1 p.2 (stops _ _ _ _ (c.loop-handler.invariant.found ∙ turn) c.in_err-one.ensures.found)

pub loop-handler-init : goal.loop-handler-init
loop-handler-init c = record { found = ap (λ (ns : List ℕ). scan_handlers c.args.declared.now ns c.args.handlers.now) (sym c.new-earlier.ensures.items); beyond = ([], tt, refl) }

pub loop-handler-preserved : goal.loop-handler-preserved
loop-handler-preserved c =
    let x = c.handler-item.result in
    let i = c.loop-handler.handler-index in
    let hs = c.args.handlers.now in
    let turn = next_turn c.args.declared.now hs i x x c.loop-handler.earlier.items c.loop-handler-test.true c.handler-item.is in
    let names = c.in_ok-one.ensures.names in
    let one = c.in_ok-one.one in
    let before = c.loop-handler.invariant.beyond in
    record {
      found = later _ _ _ (c.loop-handler.invariant.found ∙ turn) c.in_ok-one.ensures.found ∙ ap (λ (ns : List ℕ). scan_handlers c.args.declared.now ns (drop (i + 1) hs)) (sym names);
      beyond = (before.0 ++ one ∷ [], zip_turn (IsResolved c.args.tables.now) hs before.0 i x x one c.loop-handler-test.true c.handler-item.is before.1 c.in_ok-one.ensures.handler, excess_push before.0 one ∙ ap (λ (w : Fault). or_else w (own_excess one)) before.2 ∙ ap (or_else c.loop-handler.beyond) (sym (c.err.ensures.value ∙ c.bound_handler.ensures.excess)) ∙ or_is c.loop-handler.beyond c.err.result ∙ sym c.or-beyond.ensures);
    }

pub returns-clause-beyond : goal.returns-clause-beyond
returns-clause-beyond c =
    let e = c.loop-handler.invariant.beyond in
    (e.0, zip_end (IsResolved c.args.tables.now) c.args.handlers.now e.0 c.loop-handler.handler-index c.loop-handler-test.false e.1, e.2)
