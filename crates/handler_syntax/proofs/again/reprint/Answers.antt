use Rattle.std.proofs.Common.{sym, subst}
use Rattle.std.proofs.lemmas.Result.{err_from_is_err_and}
use Rattle.handler_syntax.specs.Keeps.{IsReadAs}
use Rattle.handler_syntax.proofs.ReadAgain.{read_same, refused_same}
use Rattle.handler_syntax.proofs.again.reprint.Goals as goal

pub returns-in_err-read-clause-same : goal.returns-in_err-read-clause-same
returns-in_err-read-clause-same c = λ named.
    let names = c.args.names.now in
    let file = c.args.file.now in
    let back = subst (IsReadAs names file) (sym c.as_str.ensures.value) (c.in_ok-text.ensures.back named) in
    let p = err_from_is_err_and c.from_residual-in_err-read.result c.from_residual-in_err-read.ensures.1 in
    rw (p.1, p.2) (refused_same names file c.as_str.result.now back c.in_err-read.field-0.0 c.in_err-read.ensures.only)

pub returns-clause-same : goal.returns-clause-same
returns-clause-same c = λ named.
    let names = c.args.names.now in
    let file = c.args.file.now in
    let back = subst (IsReadAs names file) (sym c.as_str.ensures.value) (c.in_ok-text.ensures.back named) in
    read_same names file c.as_str.result.now back c.in_ok-read.read c.in_ok-read.ensures.only
