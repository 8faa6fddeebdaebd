use Rattle.std.proofs.Common.{◌≡◌, ◌∙◌, ◌<◌, ℕ, length, take, arith, None, false, ap, refl, sym, subst, map}
use Rattle.session_journal.specs.Desks.{DeskView, MayNarrow, with_present}
use Rattle.session_journal.specs.Script.{HasSite, declared_with}
use Rattle.session_journal.specs.declared.site.Site.{Site}
use Rattle.check_meaning.specs.Dialogue.{env_of}
use Rattle.declaration_insertion.specs.Program.{declared_at}
use Rattle.declaration_insertion.specs.Promises.{symbol_at}
use Rattle.handler_machine.specs.Serving.{Course, course_of, list_with, once_told}
use Rattle.handler_machine.proofs.Kept.{front_length, front_list, front_site, front_within, kept_list}
use Rattle.handler_machine.proofs.Unchanged.{still_has}
use Rattle.handler_machine.proofs.Late.{may_still}
use Rattle.handler_machine.proofs.Served.{point_within, declare_may, declare_serves, passes_settled}
use Rattle.handler_machine.proofs.narrowing.NarrowingGuide.passed.Goals as goal

pub returns-then-self : goal.returns-then-self
returns-then-self g c whole start next so_far =
    let at = g.D.Desk.at in
    let n = c.args.self.now in
    let now = at c.args.host.now in
    let last = list_with (declared_at n.program.now n.handler) n.point n.values.now in
    let then = once_told n.late last now in
    let env = env_of c.args.env.now in
    let course : Course = course_of (g.D.Served.Tickets.meaning (g.D.Desk.script start.1)) (at start.1) n.program.now n.handler whole in
    (so_far.0, passes_settled course then c.args.point env next so_far.1 (so_far.2 c.if-self.true), so_far.2, so_far.3, so_far.4, so_far.5)

pub is_as_told-requires-clause-point : goal.is_as_told-requires-clause-point
is_as_told-requires-clause-point g c =
    let s = c.requires.serves in
    let at = g.D.Desk.at in
    let n = c.args.self.now in
    let last = list_with (declared_at n.program.now n.handler) n.point n.values.now in
    let now = at c.args.host.now in
    let then = once_told n.late last now in
    let course : Course = course_of (g.D.Served.Tickets.meaning (g.D.Desk.script s.1.1)) (at s.1.1) n.program.now n.handler (s.0) in
    let within = point_within course then then.entries None c.args.point (env_of c.args.env.now) false s.2 s.3.1 in
    within

pub returns-then-is_as_told : goal.returns-then-is_as_told
returns-then-is_as_told g c whole start next so_far =
    let at = g.D.Desk.at in
    let n = c.args.self.now in
    let now = at c.args.host.now in
    let last = list_with (declared_at n.program.now n.handler) n.point n.values.now in
    let then = once_told n.late last now in
    let env = env_of c.args.env.now in
    let course : Course = course_of (g.D.Served.Tickets.meaning (g.D.Desk.script start.1)) (at start.1) n.program.now n.handler whole in
    let f = list_with course.declared c.args.point c.args.env.now in
    let may = declare_may course then c.args.point env next f so_far.1 refl in
    let same = c.if-is_as_told.ensures in
    let is = still_has (course.declared n.point) (course.declared c.args.point) env then so_far.5 same.0 same.1 may.covered in
    (so_far.0, declare_serves course then c.args.point env next f so_far.1 refl then (ap (with_present then) is), so_far.2, so_far.3, so_far.4, so_far.5)

pub are_as_many-requires-clause-point : goal.are_as_many-requires-clause-point
are_as_many-requires-clause-point g c =
    let s = c.requires.serves in
    let at = g.D.Desk.at in
    let n = c.args.self.now in
    let last = list_with (declared_at n.program.now n.handler) n.point n.values.now in
    let now = at c.args.host.now in
    let then = once_told n.late last now in
    let course : Course = course_of (g.D.Served.Tickets.meaning (g.D.Desk.script s.1.1)) (at s.1.1) n.program.now n.handler (s.0) in
    let within = point_within course then then.entries None c.args.point (env_of c.args.env.now) false s.2 s.3.1 in
    within

pub invariant_of-self-clause-within : goal.invariant_of-self-clause-within
invariant_of-self-clause-within g c =
    let s = c.requires.serves in
    let at = g.D.Desk.at in
    let n = c.args.self.now in
    let last = list_with (declared_at n.program.now n.handler) n.point n.values.now in
    let now = at c.args.host.now in
    let then = once_told n.late last now in
    let course : Course = course_of (g.D.Served.Tickets.meaning (g.D.Desk.script s.1.1)) (at s.1.1) n.program.now n.handler (s.0) in
    let within = point_within course then then.entries None c.args.point (env_of c.args.env.now) false s.2 s.3.1 in
    within

pub invariant_of-self-2-clause-within : goal.invariant_of-self-2-clause-within
invariant_of-self-2-clause-within g c =
    let s = c.requires.serves in
    let at = g.D.Desk.at in
    let n = c.args.self.now in
    let last = list_with (declared_at n.program.now n.handler) n.point n.values.now in
    let now = at c.args.host.now in
    let then = once_told n.late last now in
    let course : Course = course_of (g.D.Served.Tickets.meaning (g.D.Desk.script s.1.1)) (at s.1.1) n.program.now n.handler (s.0) in
    let within = point_within course then then.entries None c.args.point (env_of c.args.env.now) false s.2 s.3.1 in
    within

pub keep_values-requires-clause-room : goal.keep_values-requires-clause-room
keep_values-requires-clause-room g c =
    let s = c.requires.serves in
    let at = g.D.Desk.at in
    let n = c.args.self.now in
    let last = list_with (declared_at n.program.now n.handler) n.point n.values.now in
    let now = at c.args.host.now in
    let then = once_told n.late last now in
    let course : Course = course_of (g.D.Served.Tickets.meaning (g.D.Desk.script s.1.1)) (at s.1.1) n.program.now n.handler (s.0) in
    let within = point_within course then then.entries None c.args.point (env_of c.args.env.now) false s.2 s.3.1 in
    let few = (s.3.1.declares.sites c.args.point within).few in
    let counted = n.counted in
    let room = n.room in
    omega (arith, few, counted, room)

pub keep_values-requires-clause-variables : goal.keep_values-requires-clause-variables
keep_values-requires-clause-variables g c =
    let s = c.requires.serves in
    let at = g.D.Desk.at in
    let n = c.args.self.now in
    let last = list_with (declared_at n.program.now n.handler) n.point n.values.now in
    let now = at c.args.host.now in
    let then = once_told n.late last now in
    let course : Course = course_of (g.D.Served.Tickets.meaning (g.D.Desk.script s.1.1)) (at s.1.1) n.program.now n.handler (s.0) in
    let within = point_within course then then.entries None c.args.point (env_of c.args.env.now) false s.2 s.3.1 in
    front_within course.meaning n.handler course.variables course.points course.declared s.3.1.declares c.args.point within n.variables n.counted c.args.env.now c.requires.variables

pub returns-then-are_as_many : goal.returns-then-are_as_many
returns-then-are_as_many g c whole start next so_far =
    let at = g.D.Desk.at in
    let n = c.args.self.now in
    let now = at c.args.host.now in
    let last = list_with (declared_at n.program.now n.handler) n.point n.values.now in
    let then = once_told n.late last now in
    let env = env_of c.args.env.now in
    let course : Course = course_of (g.D.Served.Tickets.meaning (g.D.Desk.script start.1)) (at start.1) n.program.now n.handler whole in
    let within = point_within course then then.entries None c.args.point env false next so_far.1 in
    let values = c.keep_values.new.values in
    let f = list_with (declared_at n.program.now n.handler) c.args.point values in
    let agree = (λ (x : ℕ) (lt : x < course.variables). c.keep_values.ensures x (let counted = n.counted in omega (arith, lt, counted))) in
    let is_list = kept_list course.meaning n.handler course.variables course.points course.declared so_far.1.declares c.args.point within values c.args.env.now agree in
    let h = declare_serves course then c.args.point env next f so_far.1 is_list (with_present now f) refl in
    let may = may_still course.meaning n.late last f now so_far.3 (declare_may course then c.args.point env next f so_far.1 is_list) in
    (so_far.0, h, (λ e. cc), (λ _. may), so_far.4, (env_of values, refl))

pub declares_nothing-self-requires-clause-handler : goal.declares_nothing-self-requires-clause-handler
declares_nothing-self-requires-clause-handler g c = c.args.self.now.exists

pub declares_nothing-self-requires-clause-point : goal.declares_nothing-self-requires-clause-point
declares_nothing-self-requires-clause-point g c =
    let s = c.requires.serves in
    let at = g.D.Desk.at in
    let n = c.args.self.now in
    let last = list_with (declared_at n.program.now n.handler) n.point n.values.now in
    let now = at c.args.host.now in
    let then = once_told n.late last now in
    let course : Course = course_of (g.D.Served.Tickets.meaning (g.D.Desk.script s.1.1)) (at s.1.1) n.program.now n.handler (s.0) in
    let within = point_within course then then.entries None c.args.point (env_of c.args.env.now) false s.2 s.3.1 in
    within

pub slice_bounds-declare_at-end : goal.slice_bounds-declare_at-end
slice_bounds-declare_at-end g c =
    let s = c.requires.serves in
    let at = g.D.Desk.at in
    let n = c.args.self.now in
    let last = list_with (declared_at n.program.now n.handler) n.point n.values.now in
    let now = at c.args.host.now in
    let then = once_told n.late last now in
    let course : Course = course_of (g.D.Served.Tickets.meaning (g.D.Desk.script s.1.1)) (at s.1.1) n.program.now n.handler (s.0) in
    let within = point_within course then then.entries None c.args.point (env_of c.args.env.now) false s.2 s.3.1 in
    front_length course.meaning n.handler course.variables course.points course.declared s.3.1.declares c.args.point within n.variables n.counted c.args.env.now c.requires.variables

pub declare_at-requires-clause-site : goal.declare_at-requires-clause-site
declare_at-requires-clause-site g c =
    let s = c.requires.serves in
    let at = g.D.Desk.at in
    let n = c.args.self.now in
    let last = list_with (declared_at n.program.now n.handler) n.point n.values.now in
    let now = at c.args.host.now in
    let then = once_told n.late last now in
    let course : Course = course_of (g.D.Served.Tickets.meaning (g.D.Desk.script s.1.1)) (at s.1.1) n.program.now n.handler (s.0) in
    let within = point_within course then then.entries None c.args.point (env_of c.args.env.now) false s.2 s.3.1 in
    let site : Site = record { part = n.handler; point = c.args.point } in
    subst (λ z. HasSite (g.D.Served.Tickets.meaning z) site (length (take n.variables c.args.env.now))) (sym s.3.0)
    (front_site course.meaning n.handler course.variables course.points course.declared s.3.1.declares c.args.point within n.variables n.counted c.args.env.now c.requires.variables)

pub declare_at-requires-clause-narrows : goal.declare_at-requires-clause-narrows
declare_at-requires-clause-narrows g c =
    let s = c.requires.serves in
    let at = g.D.Desk.at in
    let n = c.args.self.now in
    let last = list_with (declared_at n.program.now n.handler) n.point n.values.now in
    let now = at c.args.host.now in
    let then = once_told n.late last now in
    let course : Course = course_of (g.D.Served.Tickets.meaning (g.D.Desk.script s.1.1)) (at s.1.1) n.program.now n.handler (s.0) in
    let within = point_within course then then.entries None c.args.point (env_of c.args.env.now) false s.2 s.3.1 in
    let site : Site = record { part = n.handler; point = c.args.point } in
    let values = take n.variables c.args.env.now in
    let f = declared_with course.meaning site values in
    let is_list = front_list course.meaning n.handler course.variables course.points course.declared s.3.1.declares c.args.point within n.variables n.counted c.args.env.now c.requires.variables in
    let may = may_still course.meaning n.late last f now s.3.3 (declare_may course then c.args.point (env_of c.args.env.now) s.2 f s.3.1 is_list) in
    subst (λ z. MayNarrow (g.D.Served.Tickets.meaning z) now.ticket now.entries now.present (declared_with (g.D.Served.Tickets.meaning z) site values)) (sym s.3.0) may

pub returns : goal.returns
returns g c whole start next so_far =
    let at = g.D.Desk.at in
    let n = c.args.self.now in
    let now = at c.args.host.now in
    let last = list_with (declared_at n.program.now n.handler) n.point n.values.now in
    let then = once_told n.late last now in
    let env = env_of c.args.env.now in
    let course : Course = course_of (g.D.Served.Tickets.meaning (g.D.Desk.script start.1)) (at start.1) n.program.now n.handler whole in
    let within = point_within course then then.entries None c.args.point env false next so_far.1 in
    let new = at c.declare_at.new.self in
    let site : Site = record { part = n.handler; point = c.args.point } in
    let values = take n.variables c.args.env.now in
    let f = declared_with course.meaning site values in
    let is_list = front_list course.meaning n.handler course.variables course.points course.declared so_far.1.declares c.args.point within n.variables n.counted c.args.env.now c.requires.variables in
    let is : new ≡ with_present now f = subst (λ z. new ≡ with_present now (declared_with (g.D.Served.Tickets.meaning z) site values)) so_far.0 c.declare_at.ensures.narrowed in
    (c.declare_at.ensures.script ∙ so_far.0, declare_serves course then c.args.point env next f so_far.1 is_list new is, (λ e. ap (λ (d : DeskView). d.present) is ∙ is_list ∙ ap (map (symbol_at env)) (c.declares_nothing-self.ensures e)), (λ e. cc), so_far.4, (env, ap (λ (d : DeskView). d.present) is ∙ is_list))
