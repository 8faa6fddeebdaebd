use Rattle.std.proofs.Common.{◌≡◌, ◌∙◌, ◌≤◌, arith, List, length, take, sym, subst}
use Rattle.session_values.specs.declared.value.Value.{Value}
use Rattle.symbolic_ops.specs.declared.symbol.Symbol.{Symbol}
use Rattle.session_values.specs.Dialogue.{Calls}
use Rattle.session_journal.specs.Desks.{due_of, next_of}
use Rattle.session_journal.specs.Script.{HasSite, declared_with}
use Rattle.session_journal.specs.declared.site.Site.{Site}
use Rattle.check_meaning.specs.Ahead.{asked}
use Rattle.declaration_insertion.specs.Program.{declared_at}
use Rattle.handler_machine.specs.Serving.{Course, Declares, IsServing, MayTell, course_of, list_with, once_told}
use Rattle.handler_machine.proofs.Kept.{front_length, front_list, front_site}
use Rattle.handler_machine.proofs.Late.{answered, serving_told}
use Rattle.handler_machine.proofs.Served.{call_next, call_due, call_matches, call_waits, call_halts}
use Rattle.handler_machine.proofs.narrowing.NarrowingGuide.call.Goals as goal

long : (values : List Value) → length values ≡ 32 → 32 ≤ length values
long values h = omega (arith, h)

pub slice_bounds-tell-end : goal.slice_bounds-tell-end
slice_bounds-tell-end g c =
    let s = c.requires in
    let at = g.D.Desk.at in
    let n = c.args.self.now in
    let course : Course = course_of (g.D.Served.Tickets.meaning (g.D.Desk.script s.1.1)) (at s.1.1) n.program.now n.handler s.0 in
    let declares : Declares course.meaning n.handler course.variables course.points course.declared = s.3.1.declares in
    front_length course.meaning n.handler course.variables course.points course.declared declares n.point n.within n.variables n.counted n.values.now (long n.values.now n.room)

pub tell-requires-clause-site : goal.tell-requires-clause-site
tell-requires-clause-site g c =
    let s = c.requires in
    let at = g.D.Desk.at in
    let n = c.args.self.now in
    let course : Course = course_of (g.D.Served.Tickets.meaning (g.D.Desk.script s.1.1)) (at s.1.1) n.program.now n.handler s.0 in
    let declares : Declares course.meaning n.handler course.variables course.points course.declared = s.3.1.declares in
    let site : Site = record { part = n.handler; point = n.point } in
    subst (λ z. HasSite (g.D.Served.Tickets.meaning z) site (length (take n.variables n.values.now))) (sym s.3.0)
    (front_site course.meaning n.handler course.variables course.points course.declared declares n.point n.within n.variables n.counted n.values.now (long n.values.now n.room))

pub tell-requires-clause-idle : goal.tell-requires-clause-idle
tell-requires-clause-idle g c = c.requires.3.1.waits

pub tell-requires-clause-going : goal.tell-requires-clause-going
tell-requires-clause-going g c = c.requires.3.1.going

pub tell-requires-clause-may : goal.tell-requires-clause-may
tell-requires-clause-may g c =
    let s = c.requires in
    let at = g.D.Desk.at in
    let n = c.args.self.now in
    let course : Course = course_of (g.D.Served.Tickets.meaning (g.D.Desk.script s.1.1)) (at s.1.1) n.program.now n.handler s.0 in
    let declares : Declares course.meaning n.handler course.variables course.points course.declared = s.3.1.declares in
    let site : Site = record { part = n.handler; point = n.point } in
    let values = take n.variables n.values.now in
    let f = declared_with course.meaning site values in
    let last = list_with (declared_at n.program.now n.handler) n.point n.values.now in
    let same : f ≡ last = front_list course.meaning n.handler course.variables course.points course.declared declares n.point n.within n.variables n.counted n.values.now (long n.values.now n.room) in
    subst (λ z. MayTell (g.D.Served.Tickets.meaning z) n.late (declared_with (g.D.Served.Tickets.meaning z) site values) (at c.args.host.now)) (sym s.3.0)
    (subst (λ (l : List Symbol). MayTell course.meaning n.late l (at c.args.host.now)) (sym same) s.3.3)

pub call-requires-clause-next : goal.call-requires-clause-next
call-requires-clause-next g c =
    let s = c.requires in
    let at = g.D.Desk.at in
    let n = c.args.self.now in
    let course : Course = course_of (g.D.Served.Tickets.meaning (g.D.Desk.script s.1.1)) (at s.1.1) n.program.now n.handler s.0 in
    let declares : Declares course.meaning n.handler course.variables course.points course.declared = s.3.1.declares in
    let site : Site = record { part = n.handler; point = n.point } in
    let values = take n.variables n.values.now in
    let f = declared_with course.meaning site values in
    let last = list_with (declared_at n.program.now n.handler) n.point n.values.now in
    let same : f ≡ last = front_list course.meaning n.handler course.variables course.points course.declared declares n.point n.within n.variables n.counted n.values.now (long n.values.now n.room) in
    let now = at c.tell.new.self in
    let is : now ≡ once_told n.late f (at c.args.host.now) = subst (λ z. now ≡ once_told n.late (declared_with (g.D.Served.Tickets.meaning z) site values) (at c.args.host.now)) s.3.0 c.tell.ensures.told in
    let told : IsServing course now (asked c.args.op s.2) = serving_told course n.late f last (at c.args.host.now) now (asked c.args.op s.2) same is s.3.1 in
    subst (λ z. next_of (g.D.Served.Tickets.meaning z) now ≡ Calls c.args.op) (sym (c.tell.ensures.script ∙ s.3.0)) (call_next course now c.args.op s.2 told)

pub call-requires-clause-due : goal.call-requires-clause-due
call-requires-clause-due g c =
    let s = c.requires in
    let at = g.D.Desk.at in
    let n = c.args.self.now in
    let course : Course = course_of (g.D.Served.Tickets.meaning (g.D.Desk.script s.1.1)) (at s.1.1) n.program.now n.handler s.0 in
    let declares : Declares course.meaning n.handler course.variables course.points course.declared = s.3.1.declares in
    let site : Site = record { part = n.handler; point = n.point } in
    let values = take n.variables n.values.now in
    let f = declared_with course.meaning site values in
    let last = list_with (declared_at n.program.now n.handler) n.point n.values.now in
    let same : f ≡ last = front_list course.meaning n.handler course.variables course.points course.declared declares n.point n.within n.variables n.counted n.values.now (long n.values.now n.room) in
    let now = at c.tell.new.self in
    let is : now ≡ once_told n.late f (at c.args.host.now) = subst (λ z. now ≡ once_told n.late (declared_with (g.D.Served.Tickets.meaning z) site values) (at c.args.host.now)) s.3.0 c.tell.ensures.told in
    let told : IsServing course now (asked c.args.op s.2) = serving_told course n.late f last (at c.args.host.now) now (asked c.args.op s.2) same is s.3.1 in
    subst (λ z. now.present ≡ due_of (g.D.Served.Tickets.meaning z) now) (sym (c.tell.ensures.script ∙ s.3.0)) (call_due course now c.args.op s.2 told)

pub call-requires-clause-matches : goal.call-requires-clause-matches
call-requires-clause-matches g c =
    let s = c.requires in
    let at = g.D.Desk.at in
    let n = c.args.self.now in
    let course : Course = course_of (g.D.Served.Tickets.meaning (g.D.Desk.script s.1.1)) (at s.1.1) n.program.now n.handler s.0 in
    let declares : Declares course.meaning n.handler course.variables course.points course.declared = s.3.1.declares in
    let site : Site = record { part = n.handler; point = n.point } in
    let values = take n.variables n.values.now in
    let f = declared_with course.meaning site values in
    let last = list_with (declared_at n.program.now n.handler) n.point n.values.now in
    let same : f ≡ last = front_list course.meaning n.handler course.variables course.points course.declared declares n.point n.within n.variables n.counted n.values.now (long n.values.now n.room) in
    let now = at c.tell.new.self in
    let is : now ≡ once_told n.late f (at c.args.host.now) = subst (λ z. now ≡ once_told n.late (declared_with (g.D.Served.Tickets.meaning z) site values) (at c.args.host.now)) s.3.0 c.tell.ensures.told in
    let told : IsServing course now (asked c.args.op s.2) = serving_told course n.late f last (at c.args.host.now) now (asked c.args.op s.2) same is s.3.1 in
    call_matches course now c.args.op s.2 told

pub returns : goal.returns
returns g c whole start next so_far =
    let at = g.D.Desk.at in
    let n = c.args.self.now in
    let course : Course = course_of (g.D.Served.Tickets.meaning (g.D.Desk.script start.1)) (at start.1) n.program.now n.handler whole in
    let declares : Declares course.meaning n.handler course.variables course.points course.declared = so_far.1.declares in
    let site : Site = record { part = n.handler; point = n.point } in
    let values = take n.variables n.values.now in
    let f = declared_with course.meaning site values in
    let last = list_with (declared_at n.program.now n.handler) n.point n.values.now in
    let same : f ≡ last = front_list course.meaning n.handler course.variables course.points course.declared declares n.point n.within n.variables n.counted n.values.now (long n.values.now n.room) in
    let now = at c.tell.new.self in
    let is : now ≡ once_told n.late f (at c.args.host.now) = subst (λ z. now ≡ once_told n.late (declared_with (g.D.Served.Tickets.meaning z) site values) (at c.args.host.now)) so_far.0 c.tell.ensures.told in
    let told : IsServing course now (asked c.args.op next) = serving_told course n.late f last (at c.args.host.now) now (asked c.args.op next) same is so_far.1 in
    let script = c.call.ensures.script ∙ c.tell.ensures.script ∙ so_far.0 in
    answered c.call.result c.held.result c.held.ensures.same c.held.ensures.held _ _ _ _ c.call.ensures.waits
    (λ v is h. (script, call_waits course now c.args.op next told (at c.call.new.self) v is h, so_far.4))
    (λ h. (script, call_halts course now c.args.op next told (at c.call.new.self) h.0 h.1, so_far.4))
