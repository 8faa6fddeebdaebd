use Rattle.std.proofs.Common.{◌≡◌, ◌<◌, ℕ, List, length, sym, ap, ◌∙◌, subst}
use Rattle.session_values.specs.declared.value.Value.{Value}
use Rattle.check_meaning.specs.Dialogue.{entry, env_of, run}
use Rattle.handler_check.specs.Resolved.{code_at, params_at}
use Rattle.request_files.specs.Servable.{IsRequestOf}
use Rattle.request_files.specs.Session.{request_at}
use Rattle.declaration_insertion.specs.Promises.{list_at}
use Rattle.declaration_insertion.specs.Program.{declared_at}
use Rattle.session_journal.specs.Script.{Meaning}
use Rattle.handler_machine.specs.Scripts.{ScriptsView, meaning, meaning_over}
use Rattle.handler_machine.specs.Serving.{DeclaresHandler, Gives}
use Rattle.handler_machine.proofs.Lawful.{gives_ticket, request_is}
use Rattle.handler_machine.proofs.Sites.{declares_handler, declares_over}
use Rattle.handler_machine.proofs.scripts.Scripts.serve_at.Goals as goal

pub serve_one-requires-clause-args : goal.serve_one-requires-clause-args
serve_one-requires-clause-args g c κs within =
    let s : ScriptsView = record { program = c.self.inside.program.now; opening = c.self.inside.opening.now; requests = c.self.inside.requests.now } in
    let r = request_at s.requests c.args.ticket in
    let below : c.args.ticket < length s.requests = subst (λ (z : ScriptsView). c.args.ticket < (meaning z).requests) (sym c.self.view_is) c.requires.within in
    let is : IsRequestOf s.program.file r = request_is s.program.file s.requests c.args.ticket below c.self.invariant.0.servable.each in
    ap (λ (vs : List Value). length vs) c.args_of.ensures ∙ is.args ∙ ap (λ (h : ℕ). params_at s.program.file h) (sym c.handler_of-h.ensures)

pub serve_one-requires-clause-present : goal.serve_one-requires-clause-present
serve_one-requires-clause-present g c κs within =
    let s : ScriptsView = record { program = c.self.inside.program.now; opening = c.self.inside.opening.now; requests = c.self.inside.requests.now } in
    let r = request_at s.requests c.args.ticket in
    let here : (g.D.Desk.at c.args.desk.now).present ≡ list_at (declared_at s.program r.handler) (entry (env_of r.args)) =
    subst (λ (z : ScriptsView). (g.D.Desk.at c.args.desk.now).present ≡ (meaning z).entry c.args.ticket) (sym c.self.view_is) c.requires.present in
    here ∙ ap (λ (h : ℕ). list_at (declared_at s.program h) (entry (env_of r.args))) (sym c.handler_of-h.ensures)
    ∙ ap (λ (vs : List Value). list_at (declared_at s.program c.handler_of-h.result) (entry (env_of vs))) (sym c.args_of.ensures)

pub serve_one-requires-clause-gives : goal.serve_one-requires-clause-gives
serve_one-requires-clause-gives g c κs within =
    let s : ScriptsView = record { program = c.self.inside.program.now; opening = c.self.inside.opening.now; requests = c.self.inside.requests.now } in
    let o = c.requires.same.0 in
    let r = request_at s.requests c.args.ticket in
    let p = s.program in
    let h = c.handler_of-h.result in
    let vs = c.args_of.result.now in
    let one : Gives (meaning_over s o) c.args.ticket (declared_at p h) (entry (env_of r.args)) (run (code_at p.file h) (env_of r.args)) =
    subst (λ (k : ℕ). Gives (meaning_over s o) c.args.ticket (declared_at p k) (entry (env_of r.args)) (run (code_at p.file k) (env_of r.args))) (sym c.handler_of-h.ensures) (gives_ticket (record { program = p; opening = o; requests = s.requests }) c.args.ticket) in
    let two : Gives (meaning_over s o) c.args.ticket (declared_at p h) (entry (env_of vs)) (run (code_at p.file h) (env_of vs)) =
    subst (λ (xs : List Value). Gives (meaning_over s o) c.args.ticket (declared_at p h) (entry (env_of xs)) (run (code_at p.file h) (env_of xs))) (sym c.args_of.ensures) one in
    let three = subst (λ (z : ScriptsView). Gives (meaning_over z o) c.args.ticket (declared_at p h) (entry (env_of vs)) (run (code_at p.file h) (env_of vs))) c.self.view_is two in
    let four = subst (λ (m : Meaning). Gives m c.args.ticket (declared_at p h) (entry (env_of vs)) (run (code_at p.file h) (env_of vs))) (sym c.requires.same.1) three in
    subst (λ (t : ℕ). Gives (g.D.Served.Tickets.meaning (g.D.Desk.script c.args.desk.now)) t (declared_at p h) (entry (env_of vs)) (run (code_at p.file h) (env_of vs))) (sym c.requires.ticket) four

pub serve_one-requires-clause-declares : goal.serve_one-requires-clause-declares
serve_one-requires-clause-declares g c κs within =
    let s : ScriptsView = record { program = c.self.inside.program.now; opening = c.self.inside.opening.now; requests = c.self.inside.requests.now } in
    let o = c.requires.same.0 in
    let r = request_at s.requests c.args.ticket in
    let below : c.args.ticket < length s.requests = subst (λ (z : ScriptsView). c.args.ticket < (meaning z).requests) (sym c.self.view_is) c.requires.within in
    let is : IsRequestOf s.program.file r = request_is s.program.file s.requests c.args.ticket below c.self.invariant.0.servable.each in
    let one : DeclaresHandler (meaning s) s.program c.handler_of-h.result =
    subst (DeclaresHandler (meaning s) s.program) (sym c.handler_of-h.ensures) (declares_handler s c.self.invariant.0 r.handler is.handler) in
    let two = subst (λ (z : ScriptsView). DeclaresHandler (meaning_over z o) s.program c.handler_of-h.result) c.self.view_is (declares_over s o c.handler_of-h.result one) in
    subst (λ (m : Meaning). DeclaresHandler m s.program c.handler_of-h.result) (sym c.requires.same.1) two
