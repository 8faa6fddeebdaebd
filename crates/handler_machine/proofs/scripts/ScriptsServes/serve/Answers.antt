use Rattle.std.proofs.Common.{ap}
use denote.Param.Send.{given_sync, param_sync}
use Rattle.handler_machine.specs.Scripts.{ScriptsView, meaning}
use Rattle.handler_machine.proofs.scripts.ScriptsServes.serve.Goals as goal

pub serve_at-requires-sync-R : goal.serve_at-requires-sync-R
serve_at-requires-sync-R g c κs within = param_sync 0 g.row.R (given_sync 1 g.row.R c.requires.shared)

pub serve_at-requires-clause-same : goal.serve_at-requires-clause-same
serve_at-requires-clause-same g c κs within = (c.args.self.now.opening, ap (λ (s : ScriptsView). meaning s) c.requires.plan)
