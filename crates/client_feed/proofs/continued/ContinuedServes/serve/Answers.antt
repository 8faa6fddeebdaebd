-- The desk's tickets are these, over what was left.
use Rattle.std.proofs.Common.{length, sym, ap, ◌∙◌}
use Rattle.handler_check.specs.Resolved.{shape_of}
use Rattle.handler_machine.specs.Scripts.{ScriptsView, meaning}
use Rattle.client_feed.specs.Reopening.{left_lists}
use Rattle.client_feed.proofs.continued.ContinuedServes.serve.Goals as goal

pub serve_at-requires-clause-same : goal.serve_at-requires-clause-same
serve_at-requires-clause-same g c κs within = (left_lists (length (shape_of c.self.inside.scripts.program.file)) c.self.inside.before.value, ap (λ (s : ScriptsView). meaning s) (c.requires.plan ∙ sym c.self.view_is))
