use Rattle.std.proofs.Common.{◌≡◌, ◌<◌, ℕ, sym, subst}
use Rattle.handler_machine.specs.Scripts.{ScriptsView, meaning}
use Rattle.handler_machine.proofs.Sites.{part_is_handler, points_of_handler}
use Rattle.handler_machine.proofs.scripts.ScriptsScript.declaration.Goals as goal

pub declaration-requires-clause-handler : goal.declaration-requires-clause-handler
declaration-requires-clause-handler c =
    let s : ScriptsView = record { program = c.self.inside.program.now; opening = c.self.inside.opening.now; requests = c.self.inside.requests.now } in
    let site = c.args.site in
    part_is_handler s site.part site.point (subst (λ (z : ScriptsView). site.point < (meaning z).points site.part) (sym c.self.view_is) c.requires)

pub declaration-requires-clause-point : goal.declaration-requires-clause-point
declaration-requires-clause-point c =
    let s : ScriptsView = record { program = c.self.inside.program.now; opening = c.self.inside.opening.now; requests = c.self.inside.requests.now } in
    let site = c.args.site in
    let at : site.point < (meaning s).points site.part = subst (λ (z : ScriptsView). site.point < (meaning z).points site.part) (sym c.self.view_is) c.requires in
    subst (λ (n : ℕ). site.point < n) (points_of_handler s site.part (part_is_handler s site.part site.point at)) at

pub returns : goal.returns
returns c =
    let site = c.args.site in
    subst (λ (z : ScriptsView). c.declaration.result.now ≡ (meaning z).declared site.part site.point) c.self.view_is c.declaration.ensures.list
