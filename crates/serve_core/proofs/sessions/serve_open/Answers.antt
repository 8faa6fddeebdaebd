use Rattle.std.proofs.Common.{ℕ, ◌≤◌, sym, subst}
use Rattle.session_values.specs.Limits.{max_callers}
use Rattle.handler_machine.specs.Scripts.{meaning}
use Rattle.serve_core.specs.Serving.{HasRoomFor}
use Rattle.serve_core.proofs.FileLemmas.{has_room}
use Rattle.serve_core.proofs.FinalLemmas.{tables_counted}
use Rattle.serve_core.proofs.sessions.serve_open.Goals as goal

pub write_session-status-requires-clause-print : goal.write_session-status-requires-clause-print
write_session-status-requires-clause-print g c = c.requires.print c.serve_ready-closed.result.0 c.serve_ready-closed.ensures.done

pub write_session-status-requires-clause-room : goal.write_session-status-requires-clause-room
write_session-status-requires-clause-room g c =
    let f = c.args.loaded.now.program.file in
    let d = c.serve_ready-closed.result.0 in
    let done = c.serve_ready-closed.ensures.done in
    let print = c.requires.print d done in
    subst (λ (room : ℕ). HasRoomFor c.args.later f d room) (sym c.serve_ready-closed.ensures.room)
    (has_room c.args.later f (meaning c.args.ready.session.script) d _ done (tables_counted (meaning c.args.ready.session.script) d _ done print.some print.parts) c.requires.room)

pub write_session-status-requires-clause-callers : goal.write_session-status-requires-clause-callers
write_session-status-requires-clause-callers g c = subst (λ (n : ℕ). n ≤ max_callers) (sym c.serve_ready-closed.ensures.callers) c.requires.callers
