use Rattle.std.proofs.Common.{◌≡◌, [], ◌∙◌}
use Rattle.std.proofs.lemmas.Result.{err_from_is_err_and}
use Rattle.handler_check.proofs.Scans.{later, stops, exits}
use Rattle.handler_check.proofs.Walks.{handler_parts, handler_names}
use Rattle.syntax_trees.specs.Marks.{param_names}
use Rattle.handler_check.proofs.faults.find_in_handler.Goals as goal

pub returns-in_err-names-clause-found : goal.returns-in_err-names-clause-found
returns-in_err-names-clause-found c =
    let h = c.args.handler.now in
    let parts = handler_parts c.args.tables.now h c.as_slice-params.result.now h.body (param_names c.as_slice-params.result.now) (param_names c.as_slice-params.result.now) c.as_slice-params.ensures (λ i. h.body) (λ i. param_names c.as_slice-params.result.now) (λ i. param_names c.as_slice-params.result.now) in
    let p = err_from_is_err_and c.from_residual.result c.from_residual.ensures.1 in
    exits _ _ _ _ p.1 p.2 (stops _ _ _ _ parts (c.in_err-names.ensures.found c.args.tables.now []))

pub returns-in_err-find_in_block-clause-found : goal.returns-in_err-find_in_block-clause-found
returns-in_err-find_in_block-clause-found c =
    let done = c.in_ok-names.ensures in
    let same : c.in_ok-visible.visible.items ≡ c.in_ok-names.names.items = c.in_ok-visible.ensures ∙ c.as_slice.ensures.value in
    let parts = handler_parts c.args.tables.now c.args.handler.now c.as_slice-params.result.now c.as_slice-body.result.now c.in_ok-names.names.items c.in_ok-visible.visible.items c.as_slice-params.ensures c.as_slice-body.ensures done.names same in
    let p = err_from_is_err_and c.from_residual-in_err-find_in_block.result c.from_residual-in_err-find_in_block.ensures.1 in
    exits _ _ _ _ p.1 p.2 (λ n. later _ _ _ parts (done.found c.args.tables.now []) ∙ c.in_err-find_in_block.ensures.found n)

pub returns-clause-found : goal.returns-clause-found
returns-clause-found c =
    let done = c.in_ok-names.ensures in
    let same : c.in_ok-visible.visible.items ≡ c.in_ok-names.names.items = c.in_ok-visible.ensures ∙ c.as_slice.ensures.value in
    let parts = handler_parts c.args.tables.now c.args.handler.now c.as_slice-params.result.now c.as_slice-body.result.now c.in_ok-names.names.items c.in_ok-visible.visible.items c.as_slice-params.ensures c.as_slice-body.ensures done.names same in
    later _ _ _ parts (done.found c.args.tables.now []) ∙ c.in_ok-find_in_block.ensures.found

pub returns-clause-names : goal.returns-clause-names
returns-clause-names c =
    c.in_ok-listed.ensures ∙ handler_names c.args.handler.now c.as_slice-params.result.now c.as_slice-body.result.now c.in_ok-names.names.items _ c.as_slice-params.ensures c.as_slice-body.ensures c.in_ok-names.ensures.names c.in_ok-find_in_block.ensures.names
