use Rattle.std.proofs.Common.{refl}
use Rattle.std.proofs.lemmas.Result.{err_from_is_err_and}
use Rattle.handler_check.proofs.Scans.{exits, goes_on, stops}
use Rattle.handler_check.proofs.Walks.{always}
use Rattle.handler_check.proofs.resolution.resolve_next.Goals as goal

pub returns-in_err-declare-clause-found : goal.returns-in_err-declare-clause-found
returns-in_err-declare-clause-found c =
    let p = err_from_is_err_and c.from_residual.result c.from_residual.ensures.1 in
    exits _ _ _ _ p.1 p.2 (stops _ _ _ _ refl c.in_err-declare.ensures.found)

pub returns-clause-found : goal.returns-clause-found
returns-clause-found c = goes_on _ _ _ _ refl c.in_ok-declare.ensures.found c.resolve_handler.ensures.found

pub returns-clause-names : goal.returns-clause-names
returns-clause-names c = always c.resolve_handler.result _ c.in_ok-declare.ensures.names
