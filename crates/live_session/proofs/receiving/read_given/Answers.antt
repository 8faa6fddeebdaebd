use Rattle.std.proofs.Common.{◌≡◌, ◌<◌, length, arith}
use Rattle.handler_check.specs.Resolved.{params_at}
use Rattle.live_session.proofs.Received.{received_if}
use Rattle.live_session.proofs.receiving.read_given.Goals as goal

pub returns-clause-accepted : goal.returns-clause-accepted
returns-clause-accepted c =
    let f = c.args.checked.now in
    let args = c.args.arguments.now in
    let low : c.args.h < length f.handlers = omega (arith, c.if-h-handlers.false, c.handlers.ensures.count) in
    let same : length args ≡ params_at f c.args.h = omega (arith, c.if-arguments-handler.false, c.handler.ensures.params) in
    let e = c.read_arguments.ensures in
    received_if f c.args.names.now c.args.most c.args.h args low same c.len-names.ensures.distinct c.requires.known c.file-file.ensures.accepted.keeps c.read_arguments.result c.read_arguments.new.names c.read_arguments.new.args.items e.fine e.names e.few e.args
