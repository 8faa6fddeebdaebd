use Rattle.std.proofs.Common.{ℕ, ◌≤◌, sym, subst}
use Rattle.session_values.specs.Limits.{max_callers}
use Rattle.std.specs.Prelude.{vec_capacity}
use Rattle.handler_machine.specs.Scripts.{ScriptsView, meaning}
use Rattle.serve_core.specs.Serving.{CanPrint, HasCapacity}
use Rattle.serve_core.proofs.FileLemmas.{can_print}
use Rattle.serve_core.proofs.sessions.serve_then_write.Goals as goal

pub serve_open-status-requires-clause-print : goal.serve_open-status-requires-clause-print
serve_open-status-requires-clause-print g c κs within =
    subst (λ (v : ScriptsView). CanPrint c.args.loaded.now.names c.args.loaded.now.program.file (meaning v)) (sym c.in-Ok.ensures.script) (can_print c.args.loaded.now c.requires.can)

pub serve_open-status-requires-clause-room : goal.serve_open-status-requires-clause-room
serve_open-status-requires-clause-room g c κs within =
    subst (λ (v : ScriptsView). HasCapacity c.args.later (meaning v) (vec_capacity c.in-Ok.ready.entries)) (sym c.in-Ok.ensures.script) c.in-Ok.ensures.room

pub serve_open-status-requires-clause-callers : goal.serve_open-status-requires-clause-callers
serve_open-status-requires-clause-callers g c κs within = subst (λ (n : ℕ). n ≤ max_callers) (sym c.in-Ok.ensures.callers) c.args.sizes.callers_fit.1
