use Rattle.std.proofs.Common.{◌≡◌, ◌∙◌, ◌++◌, ◌∷◌, [], length, take, true, Some, sym, subst, ap, map}
use Rattle.session_journal.specs.Desks.{MayFinish, finished}
use Rattle.session_journal.specs.Script.{HasSite, declared_with}
use Rattle.session_journal.specs.declared.site.Site.{Site}
use Rattle.check_meaning.specs.Dialogue.{env_of}
use Rattle.declaration_insertion.specs.Promises.{symbol_at}
use Rattle.handler_machine.specs.Serving.{Course, course_of}
use Rattle.handler_machine.proofs.Kept.{front_length, front_list, front_site}
use Rattle.handler_machine.proofs.Served.{point_within, finish_may, finish_present, finish_serves}
use Rattle.handler_machine.proofs.narrowing.NarrowingGuide.replied.Goals as goal

pub slice_bounds-finish_at-end : goal.slice_bounds-finish_at-end
slice_bounds-finish_at-end g c =
    let s = c.requires.waits in
    let at = g.D.Desk.at in
    let now = at c.args.host.now in
    let n = c.args.self.now in
    let course : Course = course_of (g.D.Served.Tickets.meaning (g.D.Desk.script s.1.1)) (at s.1.1) n.program.now n.handler (s.0) in
    let within = point_within course now (now.entries ++ s.3.1.0 ∷ []) (Some s.3.1.0) c.args.point (env_of c.args.env.now) true s.2 s.3.1.1 in
    front_length course.meaning n.handler course.variables course.points course.declared s.3.1.1.declares c.args.point within n.variables n.counted c.args.env.now c.requires.variables

pub finish_at-requires-clause-site : goal.finish_at-requires-clause-site
finish_at-requires-clause-site g c =
    let s = c.requires.waits in
    let at = g.D.Desk.at in
    let now = at c.args.host.now in
    let n = c.args.self.now in
    let course : Course = course_of (g.D.Served.Tickets.meaning (g.D.Desk.script s.1.1)) (at s.1.1) n.program.now n.handler (s.0) in
    let within = point_within course now (now.entries ++ s.3.1.0 ∷ []) (Some s.3.1.0) c.args.point (env_of c.args.env.now) true s.2 s.3.1.1 in
    let site : Site = record { part = n.handler; point = c.args.point } in
    subst (λ z. HasSite (g.D.Served.Tickets.meaning z) site (length (take n.variables c.args.env.now))) (sym s.3.0)
    (front_site course.meaning n.handler course.variables course.points course.declared s.3.1.1.declares c.args.point within n.variables n.counted c.args.env.now c.requires.variables)

pub finish_at-requires-clause-may : goal.finish_at-requires-clause-may
finish_at-requires-clause-may g c =
    let s = c.requires.waits in
    let at = g.D.Desk.at in
    let now = at c.args.host.now in
    let n = c.args.self.now in
    let course : Course = course_of (g.D.Served.Tickets.meaning (g.D.Desk.script s.1.1)) (at s.1.1) n.program.now n.handler (s.0) in
    let within = point_within course now (now.entries ++ s.3.1.0 ∷ []) (Some s.3.1.0) c.args.point (env_of c.args.env.now) true s.2 s.3.1.1 in
    let site : Site = record { part = n.handler; point = c.args.point } in
    let values = take n.variables c.args.env.now in
    let f = declared_with course.meaning site values in
    let is_list = front_list course.meaning n.handler course.variables course.points course.declared s.3.1.1.declares c.args.point within n.variables n.counted c.args.env.now c.requires.variables in
    subst (λ z. MayFinish (g.D.Served.Tickets.meaning z) now now.waiting (declared_with (g.D.Served.Tickets.meaning z) site values)) (sym s.3.0)
    (finish_may course now c.args.point (env_of c.args.env.now) s.2 f s.3.1 is_list)

pub declares_nothing-self-requires-clause-handler : goal.declares_nothing-self-requires-clause-handler
declares_nothing-self-requires-clause-handler g c = c.args.self.now.exists

pub declares_nothing-self-requires-clause-point : goal.declares_nothing-self-requires-clause-point
declares_nothing-self-requires-clause-point g c =
    let s = c.requires.waits in
    let at = g.D.Desk.at in
    let now = at c.args.host.now in
    let n = c.args.self.now in
    let course : Course = course_of (g.D.Served.Tickets.meaning (g.D.Desk.script s.1.1)) (at s.1.1) n.program.now n.handler (s.0) in
    let within = point_within course now (now.entries ++ s.3.1.0 ∷ []) (Some s.3.1.0) c.args.point (env_of c.args.env.now) true s.2 s.3.1.1 in
    within

pub invariant_of-self-clause-within : goal.invariant_of-self-clause-within
invariant_of-self-clause-within g c =
    let s = c.requires.waits in
    let at = g.D.Desk.at in
    let now = at c.args.host.now in
    let n = c.args.self.now in
    let course : Course = course_of (g.D.Served.Tickets.meaning (g.D.Desk.script s.1.1)) (at s.1.1) n.program.now n.handler (s.0) in
    let within = point_within course now (now.entries ++ s.3.1.0 ∷ []) (Some s.3.1.0) c.args.point (env_of c.args.env.now) true s.2 s.3.1.1 in
    within

pub returns : goal.returns
returns g c whole start next so_far =
    let at = g.D.Desk.at in
    let now = at c.args.host.now in
    let new = at c.finish_at.new.self in
    let n = c.args.self.now in
    let env = env_of c.args.env.now in
    let course : Course = course_of (g.D.Served.Tickets.meaning (g.D.Desk.script start.1)) (at start.1) n.program.now n.handler whole in
    let within = point_within course now (now.entries ++ so_far.1.0 ∷ []) (Some so_far.1.0) c.args.point env true next so_far.1.1 in
    let site : Site = record { part = n.handler; point = c.args.point } in
    let values = take n.variables c.args.env.now in
    let f = declared_with course.meaning site values in
    let is_list = front_list course.meaning n.handler course.variables course.points course.declared so_far.1.1.declares c.args.point within n.variables n.counted c.args.env.now c.requires.variables in
    let is : new ≡ finished now now.waiting f = subst (λ z. new ≡ finished now now.waiting (declared_with (g.D.Served.Tickets.meaning z) site values)) so_far.0 c.finish_at.ensures.finished in
    (c.finish_at.ensures.script ∙ so_far.0, finish_serves course now c.args.point env next f so_far.1 is_list new is, (λ e. finish_present course now c.args.point env next f so_far.1 is_list new is ∙ is_list ∙ ap (map (symbol_at env)) (c.declares_nothing-self.ensures e)), (λ e. cc), so_far.2, (env, finish_present course now c.args.point env next f so_far.1 is_list new is ∙ is_list))
