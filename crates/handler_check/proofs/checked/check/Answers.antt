use Rattle.std.proofs.Common.{inl, sym}
use Rattle.std.proofs.lemmas.Result.{err_from_is_err_and}
use Rattle.handler_check.proofs.ExcessLemmas.{refused_by, accepted_by}
use Rattle.handler_check.proofs.checked.check.Goals as goal

pub returns-in_err-handlers-clause-rules : goal.returns-in_err-handlers-clause-rules
returns-in_err-handlers-clause-rules c =
    let p = err_from_is_err_and c.from_residual.result c.from_residual.ensures.1 in
    rw (p.1, p.2) (λ n. inl (c.in_err-handlers.ensures.rules c.requires.rise n))

pub returns-in_err-bounds-clause-rules : goal.returns-in_err-bounds-clause-rules
returns-in_err-bounds-clause-rules c =
    let done = c.in_ok-handlers.ensures in
    let p = err_from_is_err_and c.from_residual-in_err-bounds.result c.from_residual-in_err-bounds.ensures.1 in
    rw (p.1, p.2) (λ n. refused_by c.args.file c.in_ok-handlers.handlers c.as_slice.result.now _ c.requires.rise done.handlers c.as_slice.ensures (done.rules c.requires.rise) (c.in_err-bounds.ensures.found n))

pub invariant_of-result : goal.invariant_of-result
invariant_of-result c =
    let done = c.in_ok-handlers.ensures in
    record {
      accepted = accepted_by c.args.file c.in_ok-handlers.handlers c.as_slice.result.now c.requires.rise done.handlers c.as_slice.ensures (done.rules c.requires.rise) c.in_ok-bounds.ensures.found;
      bounded = c.requires.bounds;
      resolved = done.handlers;
      counted = rw (sym c.as_slice.ensures) c.in_ok-bounds.ensures.bounds;
    }

pub returns-clause-rules : goal.returns-clause-rules
returns-clause-rules c =
    let done = c.in_ok-handlers.ensures in
    accepted_by c.args.file c.in_ok-handlers.handlers c.as_slice.result.now c.requires.rise done.handlers c.as_slice.ensures (done.rules c.requires.rise) c.in_ok-bounds.ensures.found
