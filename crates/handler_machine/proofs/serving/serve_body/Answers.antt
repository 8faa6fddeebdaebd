use Rattle.std.proofs.Common.{◌≡◌, ◌∙◌, ℕ, ◌≤◌, arith, Bool, false, List, [], None, length, take, refl, sym, subst}
use Rattle.session_values.specs.declared.value.Value.{Value}
use Rattle.session_values.specs.Dialogue.{Answers}
use Rattle.symbolic_ops.specs.declared.symbol.Symbol.{Symbol}
use Rattle.session_journal.specs.Desks.{due_of, next_of}
use Rattle.session_journal.specs.Script.{HasSite, declared_with}
use Rattle.session_journal.specs.declared.site.Site.{Site}
use Rattle.check_meaning.specs.Code.{block_code}
use Rattle.check_meaning.specs.Dialogue.{Place, entry, env_of, run}
use Rattle.declaration_insertion.specs.Promises.{list_at}
use Rattle.handler_machine.specs.Serving.{Course, Declares, Gives, HasListOf, IsServing, IsSettled, MayTell, Promises, course_of, list_with, once_told}
use Rattle.handler_machine.proofs.Kept.{front_length, front_list, front_site}
use Rattle.handler_machine.proofs.Late.{is_told, nothing_to_tell, serving_told}
use Rattle.handler_machine.proofs.Places.{on_err}
use Rattle.handler_machine.proofs.Served.{serving_first, end_answers, end_due, end_served}
use Rattle.handler_machine.proofs.serving.serve_body.Goals as goal

long : (values : List Value) → length values ≡ 32 → 32 ≤ length values
long values h = omega (arith, h)

-- what the walk begins with: its desk has been told of the handler's entry
begins : (c : Course) (late settled : Bool) (f : List Symbol) (first : Place) → Gives c.meaning c.start.ticket c.declared first c.whole → Declares c.meaning c.part c.variables c.points c.declared → Promises c.points c.declared first c.whole
    → c.start.entries ≡ [] → c.start.waiting ≡ None → c.start.ended ≡ false → c.start.present ≡ list_at c.declared first → IsSettled settled c.start → late ≡ false
    → (point : ℕ) → first.point ≡ point
    → IsServing c (once_told late f c.start) c.whole × IsSettled settled (once_told late f c.start) × MayTell c.meaning late f c.start × HasListOf (c.declared point) (once_told late f c.start)
begins c late settled f first gives declares promises fresh idle going present is_settled told point at_first = (
  is_told late f c.start (λ d. IsServing c d c.whole) told (serving_first c first gives declares promises fresh idle going present),
  is_told late f c.start (IsSettled settled) told is_settled,
  nothing_to_tell c.meaning late f c.start told,
  is_told late f c.start (HasListOf (c.declared point)) told (subst (λ (p : ℕ). HasListOf (c.declared p) c.start) at_first (first.env, present)),
)

pub walk_body-requires-clause-serves : goal.walk_body-requires-clause-serves
walk_body-requires-clause-serves g c =
    let at = g.D.Desk.at in
    let r = c.requires in
    let start = c.args.desk.now in
    let n = c.args.guide.now in
    let E = env_of c.args.env.now in
    let course : Course = course_of (g.D.Served.Tickets.meaning (g.D.Desk.script start)) (at start) n.program.now n.handler (run (block_code c.args.body.now) E) in
    let b = begins course n.late n.settled (list_with course.declared n.point n.values.now) (entry E) r.gives r.declares r.promises r.fresh r.idle r.going r.present r.settled r.told n.point (sym r.first) in
    (course.whole, (n, start), (refl, b.0, b.1, b.2, refl, b.3))

pub returns-in_err-reply-clause-script : goal.returns-in_err-reply-clause-script
returns-in_err-reply-clause-script g c =
    let at = g.D.Desk.at in
    let r = c.requires in
    let start = c.args.desk.now in
    let n = c.args.guide.now in
    let E = env_of c.args.env.now in
    let course : Course = course_of (g.D.Served.Tickets.meaning (g.D.Desk.script start)) (at start) n.program.now n.handler (run (block_code c.args.body.now) E) in
    let b = begins course n.late n.settled (list_with course.declared n.point n.values.now) (entry E) r.gives r.declares r.promises r.fresh r.idle r.going r.present r.settled r.told n.point (sym r.first) in
    let h = c.in_err-reply.ensures course.whole (n, start) (refl, b.0, b.1, b.2, refl, b.3) in
    h.0

pub returns-in_err-reply-clause-stopped : goal.returns-in_err-reply-clause-stopped
returns-in_err-reply-clause-stopped g c =
    let at = g.D.Desk.at in
    let r = c.requires in
    let start = c.args.desk.now in
    let n = c.args.guide.now in
    let E = env_of c.args.env.now in
    let course : Course = course_of (g.D.Served.Tickets.meaning (g.D.Desk.script start)) (at start) n.program.now n.handler (run (block_code c.args.body.now) E) in
    let b = begins course n.late n.settled (list_with course.declared n.point n.values.now) (entry E) r.gives r.declares r.promises r.fresh r.idle r.going r.present r.settled r.told n.point (sym r.first) in
    let h = c.in_err-reply.ensures course.whole (n, start) (refl, b.0, b.1, b.2, refl, b.3) in
    on_err c.from_residual.result _ h.1

pub slice_bounds-tell-end : goal.slice_bounds-tell-end
slice_bounds-tell-end g c =
    let at = g.D.Desk.at in
    let r = c.requires in
    let start = c.args.desk.now in
    let n = c.args.guide.now in
    let E = env_of c.args.env.now in
    let course : Course = course_of (g.D.Served.Tickets.meaning (g.D.Desk.script start)) (at start) n.program.now n.handler (run (block_code c.args.body.now) E) in
    let b = begins course n.late n.settled (list_with course.declared n.point n.values.now) (entry E) r.gives r.declares r.promises r.fresh r.idle r.going r.present r.settled r.told n.point (sym r.first) in
    let h = c.in_ok-reply.ensures course.whole (n, start) (refl, b.0, b.1, b.2, refl, b.3) in
    let m = c.walk_body.new.guide in
    let host = at c.walk_body.new.host in
    let late : Course = course_of course.meaning course.start m.program.now m.handler course.whole in
    let declares : Declares course.meaning m.handler late.variables late.points late.declared = h.1.1.declares in
    front_length course.meaning m.handler late.variables late.points late.declared declares m.point m.within m.variables m.counted m.values.now (long m.values.now m.room)

pub tell-requires-clause-site : goal.tell-requires-clause-site
tell-requires-clause-site g c =
    let at = g.D.Desk.at in
    let r = c.requires in
    let start = c.args.desk.now in
    let n = c.args.guide.now in
    let E = env_of c.args.env.now in
    let course : Course = course_of (g.D.Served.Tickets.meaning (g.D.Desk.script start)) (at start) n.program.now n.handler (run (block_code c.args.body.now) E) in
    let b = begins course n.late n.settled (list_with course.declared n.point n.values.now) (entry E) r.gives r.declares r.promises r.fresh r.idle r.going r.present r.settled r.told n.point (sym r.first) in
    let h = c.in_ok-reply.ensures course.whole (n, start) (refl, b.0, b.1, b.2, refl, b.3) in
    let m = c.walk_body.new.guide in
    let host = at c.walk_body.new.host in
    let late : Course = course_of course.meaning course.start m.program.now m.handler course.whole in
    let declares : Declares course.meaning m.handler late.variables late.points late.declared = h.1.1.declares in
    let site : Site = record { part = m.handler; point = m.point } in
    subst (λ z. HasSite (g.D.Served.Tickets.meaning z) site (length (take m.variables m.values.now))) (sym h.1.0) (front_site course.meaning m.handler late.variables late.points late.declared declares m.point m.within m.variables m.counted m.values.now (long m.values.now m.room))

pub tell-requires-clause-idle : goal.tell-requires-clause-idle
tell-requires-clause-idle g c =
    let at = g.D.Desk.at in
    let r = c.requires in
    let start = c.args.desk.now in
    let n = c.args.guide.now in
    let E = env_of c.args.env.now in
    let course : Course = course_of (g.D.Served.Tickets.meaning (g.D.Desk.script start)) (at start) n.program.now n.handler (run (block_code c.args.body.now) E) in
    let b = begins course n.late n.settled (list_with course.declared n.point n.values.now) (entry E) r.gives r.declares r.promises r.fresh r.idle r.going r.present r.settled r.told n.point (sym r.first) in
    let h = c.in_ok-reply.ensures course.whole (n, start) (refl, b.0, b.1, b.2, refl, b.3) in
    h.1.1.waits

pub tell-requires-clause-going : goal.tell-requires-clause-going
tell-requires-clause-going g c =
    let at = g.D.Desk.at in
    let r = c.requires in
    let start = c.args.desk.now in
    let n = c.args.guide.now in
    let E = env_of c.args.env.now in
    let course : Course = course_of (g.D.Served.Tickets.meaning (g.D.Desk.script start)) (at start) n.program.now n.handler (run (block_code c.args.body.now) E) in
    let b = begins course n.late n.settled (list_with course.declared n.point n.values.now) (entry E) r.gives r.declares r.promises r.fresh r.idle r.going r.present r.settled r.told n.point (sym r.first) in
    let h = c.in_ok-reply.ensures course.whole (n, start) (refl, b.0, b.1, b.2, refl, b.3) in
    h.1.1.going

pub tell-requires-clause-may : goal.tell-requires-clause-may
tell-requires-clause-may g c =
    let at = g.D.Desk.at in
    let r = c.requires in
    let start = c.args.desk.now in
    let n = c.args.guide.now in
    let E = env_of c.args.env.now in
    let course : Course = course_of (g.D.Served.Tickets.meaning (g.D.Desk.script start)) (at start) n.program.now n.handler (run (block_code c.args.body.now) E) in
    let b = begins course n.late n.settled (list_with course.declared n.point n.values.now) (entry E) r.gives r.declares r.promises r.fresh r.idle r.going r.present r.settled r.told n.point (sym r.first) in
    let h = c.in_ok-reply.ensures course.whole (n, start) (refl, b.0, b.1, b.2, refl, b.3) in
    let m = c.walk_body.new.guide in
    let host = at c.walk_body.new.host in
    let late : Course = course_of course.meaning course.start m.program.now m.handler course.whole in
    let declares : Declares course.meaning m.handler late.variables late.points late.declared = h.1.1.declares in
    let site : Site = record { part = m.handler; point = m.point } in
    let values = take m.variables m.values.now in
    let f = declared_with course.meaning site values in
    let last = list_with late.declared m.point m.values.now in
    let same : f ≡ last = front_list course.meaning m.handler late.variables late.points late.declared declares m.point m.within m.variables m.counted m.values.now (long m.values.now m.room) in
    subst (λ z. MayTell (g.D.Served.Tickets.meaning z) m.late (declared_with (g.D.Served.Tickets.meaning z) site values) host) (sym h.1.0)
    (subst (λ (l : List Symbol). MayTell course.meaning m.late l host) (sym same) h.1.3)

pub end-requires-clause-idle : goal.end-requires-clause-idle
end-requires-clause-idle g c =
    let at = g.D.Desk.at in
    let r = c.requires in
    let start = c.args.desk.now in
    let n = c.args.guide.now in
    let E = env_of c.args.env.now in
    let course : Course = course_of (g.D.Served.Tickets.meaning (g.D.Desk.script start)) (at start) n.program.now n.handler (run (block_code c.args.body.now) E) in
    let b = begins course n.late n.settled (list_with course.declared n.point n.values.now) (entry E) r.gives r.declares r.promises r.fresh r.idle r.going r.present r.settled r.told n.point (sym r.first) in
    let h = c.in_ok-reply.ensures course.whole (n, start) (refl, b.0, b.1, b.2, refl, b.3) in
    let m = c.walk_body.new.guide in
    let host = at c.walk_body.new.host in
    let late : Course = course_of course.meaning course.start m.program.now m.handler course.whole in
    let declares : Declares course.meaning m.handler late.variables late.points late.declared = h.1.1.declares in
    let site : Site = record { part = m.handler; point = m.point } in
    let values = take m.variables m.values.now in
    let f = declared_with course.meaning site values in
    let last = list_with late.declared m.point m.values.now in
    let same : f ≡ last = front_list course.meaning m.handler late.variables late.points late.declared declares m.point m.within m.variables m.counted m.values.now (long m.values.now m.room) in
    let now = at c.tell.new.self in
    let is : now ≡ once_told m.late f host = subst (λ z. now ≡ once_told m.late (declared_with (g.D.Served.Tickets.meaning z) site values) host) h.1.0 c.tell.ensures.told in
    let serving : IsServing late now h.0 = serving_told late m.late f last host now h.0 same is h.1.1 in
    serving.waits

pub end-requires-clause-going : goal.end-requires-clause-going
end-requires-clause-going g c =
    let at = g.D.Desk.at in
    let r = c.requires in
    let start = c.args.desk.now in
    let n = c.args.guide.now in
    let E = env_of c.args.env.now in
    let course : Course = course_of (g.D.Served.Tickets.meaning (g.D.Desk.script start)) (at start) n.program.now n.handler (run (block_code c.args.body.now) E) in
    let b = begins course n.late n.settled (list_with course.declared n.point n.values.now) (entry E) r.gives r.declares r.promises r.fresh r.idle r.going r.present r.settled r.told n.point (sym r.first) in
    let h = c.in_ok-reply.ensures course.whole (n, start) (refl, b.0, b.1, b.2, refl, b.3) in
    let m = c.walk_body.new.guide in
    let host = at c.walk_body.new.host in
    let late : Course = course_of course.meaning course.start m.program.now m.handler course.whole in
    let declares : Declares course.meaning m.handler late.variables late.points late.declared = h.1.1.declares in
    let site : Site = record { part = m.handler; point = m.point } in
    let values = take m.variables m.values.now in
    let f = declared_with course.meaning site values in
    let last = list_with late.declared m.point m.values.now in
    let same : f ≡ last = front_list course.meaning m.handler late.variables late.points late.declared declares m.point m.within m.variables m.counted m.values.now (long m.values.now m.room) in
    let now = at c.tell.new.self in
    let is : now ≡ once_told m.late f host = subst (λ z. now ≡ once_told m.late (declared_with (g.D.Served.Tickets.meaning z) site values) host) h.1.0 c.tell.ensures.told in
    let serving : IsServing late now h.0 = serving_told late m.late f last host now h.0 same is h.1.1 in
    serving.going

pub end-requires-clause-answers : goal.end-requires-clause-answers
end-requires-clause-answers g c =
    let at = g.D.Desk.at in
    let r = c.requires in
    let start = c.args.desk.now in
    let n = c.args.guide.now in
    let E = env_of c.args.env.now in
    let course : Course = course_of (g.D.Served.Tickets.meaning (g.D.Desk.script start)) (at start) n.program.now n.handler (run (block_code c.args.body.now) E) in
    let b = begins course n.late n.settled (list_with course.declared n.point n.values.now) (entry E) r.gives r.declares r.promises r.fresh r.idle r.going r.present r.settled r.told n.point (sym r.first) in
    let h = c.in_ok-reply.ensures course.whole (n, start) (refl, b.0, b.1, b.2, refl, b.3) in
    let m = c.walk_body.new.guide in
    let host = at c.walk_body.new.host in
    let late : Course = course_of course.meaning course.start m.program.now m.handler course.whole in
    let declares : Declares course.meaning m.handler late.variables late.points late.declared = h.1.1.declares in
    let site : Site = record { part = m.handler; point = m.point } in
    let values = take m.variables m.values.now in
    let f = declared_with course.meaning site values in
    let last = list_with late.declared m.point m.values.now in
    let same : f ≡ last = front_list course.meaning m.handler late.variables late.points late.declared declares m.point m.within m.variables m.counted m.values.now (long m.values.now m.room) in
    let now = at c.tell.new.self in
    let is : now ≡ once_told m.late f host = subst (λ z. now ≡ once_told m.late (declared_with (g.D.Served.Tickets.meaning z) site values) host) h.1.0 c.tell.ensures.told in
    let serving : IsServing late now h.0 = serving_told late m.late f last host now h.0 same is h.1.1 in
    subst (λ z. next_of (g.D.Served.Tickets.meaning z) now ≡ Answers c.in_ok-reply.reply) (sym (c.tell.ensures.script ∙ h.1.0)) (end_answers late now h.0 c.in_ok-reply.reply serving h.2.answers)

pub end-requires-clause-due : goal.end-requires-clause-due
end-requires-clause-due g c =
    let at = g.D.Desk.at in
    let r = c.requires in
    let start = c.args.desk.now in
    let n = c.args.guide.now in
    let E = env_of c.args.env.now in
    let course : Course = course_of (g.D.Served.Tickets.meaning (g.D.Desk.script start)) (at start) n.program.now n.handler (run (block_code c.args.body.now) E) in
    let b = begins course n.late n.settled (list_with course.declared n.point n.values.now) (entry E) r.gives r.declares r.promises r.fresh r.idle r.going r.present r.settled r.told n.point (sym r.first) in
    let h = c.in_ok-reply.ensures course.whole (n, start) (refl, b.0, b.1, b.2, refl, b.3) in
    let m = c.walk_body.new.guide in
    let host = at c.walk_body.new.host in
    let late : Course = course_of course.meaning course.start m.program.now m.handler course.whole in
    let declares : Declares course.meaning m.handler late.variables late.points late.declared = h.1.1.declares in
    let site : Site = record { part = m.handler; point = m.point } in
    let values = take m.variables m.values.now in
    let f = declared_with course.meaning site values in
    let last = list_with late.declared m.point m.values.now in
    let same : f ≡ last = front_list course.meaning m.handler late.variables late.points late.declared declares m.point m.within m.variables m.counted m.values.now (long m.values.now m.room) in
    let now = at c.tell.new.self in
    let is : now ≡ once_told m.late f host = subst (λ z. now ≡ once_told m.late (declared_with (g.D.Served.Tickets.meaning z) site values) host) h.1.0 c.tell.ensures.told in
    let serving : IsServing late now h.0 = serving_told late m.late f last host now h.0 same is h.1.1 in
    subst (λ z. now.present ≡ due_of (g.D.Served.Tickets.meaning z) now) (sym (c.tell.ensures.script ∙ h.1.0)) (end_due late now h.0 c.in_ok-reply.reply serving h.2.answers h.2.passes)

pub returns-clause-served : goal.returns-clause-served
returns-clause-served g c =
    let at = g.D.Desk.at in
    let r = c.requires in
    let start = c.args.desk.now in
    let n = c.args.guide.now in
    let E = env_of c.args.env.now in
    let course : Course = course_of (g.D.Served.Tickets.meaning (g.D.Desk.script start)) (at start) n.program.now n.handler (run (block_code c.args.body.now) E) in
    let b = begins course n.late n.settled (list_with course.declared n.point n.values.now) (entry E) r.gives r.declares r.promises r.fresh r.idle r.going r.present r.settled r.told n.point (sym r.first) in
    let h = c.in_ok-reply.ensures course.whole (n, start) (refl, b.0, b.1, b.2, refl, b.3) in
    let m = c.walk_body.new.guide in
    let host = at c.walk_body.new.host in
    let late : Course = course_of course.meaning course.start m.program.now m.handler course.whole in
    let declares : Declares course.meaning m.handler late.variables late.points late.declared = h.1.1.declares in
    let site : Site = record { part = m.handler; point = m.point } in
    let values = take m.variables m.values.now in
    let f = declared_with course.meaning site values in
    let last = list_with late.declared m.point m.values.now in
    let same : f ≡ last = front_list course.meaning m.handler late.variables late.points late.declared declares m.point m.within m.variables m.counted m.values.now (long m.values.now m.room) in
    let now = at c.tell.new.self in
    let is : now ≡ once_told m.late f host = subst (λ z. now ≡ once_told m.late (declared_with (g.D.Served.Tickets.meaning z) site values) host) h.1.0 c.tell.ensures.told in
    let serving : IsServing late now h.0 = serving_told late m.late f last host now h.0 same is h.1.1 in
    end_served late now h.0 c.in_ok-reply.reply serving h.2.answers (at c.end.new.self) c.end.ensures.ended

pub returns-clause-script : goal.returns-clause-script
returns-clause-script g c =
    let at = g.D.Desk.at in
    let r = c.requires in
    let start = c.args.desk.now in
    let n = c.args.guide.now in
    let E = env_of c.args.env.now in
    let course : Course = course_of (g.D.Served.Tickets.meaning (g.D.Desk.script start)) (at start) n.program.now n.handler (run (block_code c.args.body.now) E) in
    let b = begins course n.late n.settled (list_with course.declared n.point n.values.now) (entry E) r.gives r.declares r.promises r.fresh r.idle r.going r.present r.settled r.told n.point (sym r.first) in
    let h = c.in_ok-reply.ensures course.whole (n, start) (refl, b.0, b.1, b.2, refl, b.3) in
    c.end.ensures.script ∙ c.tell.ensures.script ∙ h.1.0

pub returns-in_err-reply-clause-values : goal.returns-in_err-reply-clause-values
returns-in_err-reply-clause-values g c =
    let at = g.D.Desk.at in
    let r = c.requires in
    let start = c.args.desk.now in
    let n = c.args.guide.now in
    let E = env_of c.args.env.now in
    let course : Course = course_of (g.D.Served.Tickets.meaning (g.D.Desk.script start)) (at start) n.program.now n.handler (run (block_code c.args.body.now) E) in
    let b = begins course n.late n.settled (list_with course.declared n.point n.values.now) (entry E) r.gives r.declares r.promises r.fresh r.idle r.going r.present r.settled r.told n.point (sym r.first) in
    let h = c.in_err-reply.ensures course.whole (n, start) (refl, b.0, b.1, b.2, refl, b.3) in
    h.2

pub returns-clause-values : goal.returns-clause-values
returns-clause-values g c =
    let at = g.D.Desk.at in
    let r = c.requires in
    let start = c.args.desk.now in
    let n = c.args.guide.now in
    let E = env_of c.args.env.now in
    let course : Course = course_of (g.D.Served.Tickets.meaning (g.D.Desk.script start)) (at start) n.program.now n.handler (run (block_code c.args.body.now) E) in
    let b = begins course n.late n.settled (list_with course.declared n.point n.values.now) (entry E) r.gives r.declares r.promises r.fresh r.idle r.going r.present r.settled r.told n.point (sym r.first) in
    let h = c.in_ok-reply.ensures course.whole (n, start) (refl, b.0, b.1, b.2, refl, b.3) in
    h.1.4
