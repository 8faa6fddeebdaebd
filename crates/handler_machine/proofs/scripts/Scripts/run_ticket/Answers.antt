use Rattle.std.proofs.Common.{◌≡◌, ◌<◌, ℕ, List, length, IfOk, OnErr, sym, ap, ◌∙◌, subst}
use Rattle.session_values.specs.declared.reply.Reply.{Reply}
use Rattle.session_values.specs.declared.value.Value.{Value}
use Rattle.session_values.specs.Dialogue.{Dialogue}
use Rattle.syntax_trees.specs.declared.file.File.{File}
use Rattle.check_meaning.specs.Dialogue.{env_of, next}
use Rattle.handler_check.specs.Resolved.{code_at, params_at, shape_of}
use Rattle.handler_machine.specs.Asking.{Breaks, Runs}
use Rattle.request_files.specs.Servable.{IsRequestOf}
use Rattle.request_files.specs.Session.{request_at}
use Rattle.handler_machine.specs.Scripts.{ScriptsView, meaning}
use Rattle.handler_machine.proofs.Lawful.{request_is}
use Rattle.handler_machine.proofs.scripts.Scripts.run_ticket.Goals as goal

pub run_handler-requires-clause-handler : goal.run_handler-requires-clause-handler
run_handler-requires-clause-handler g c =
    let s : ScriptsView = record { program = c.self.inside.program.now; opening = c.self.inside.opening.now; requests = c.self.inside.requests.now } in
    let r = request_at s.requests c.args.t in
    let below : c.args.t < length s.requests = subst (λ (z : ScriptsView). c.args.t < (meaning z).requests) (sym c.self.view_is) c.requires.ticket in
    let is : IsRequestOf s.program.file r = request_is s.program.file s.requests c.args.t below c.self.invariant.0.servable.each in
    let here : c.handler_of-h.result < length s.program.file.handlers = subst (λ (h : ℕ). h < length s.program.file.handlers) (sym c.handler_of-h.ensures) is.handler in
    subst (λ (f : File). c.handler_of-h.result < length f.handlers) (sym c.self.invariant.1) here

pub run_handler-requires-clause-args : goal.run_handler-requires-clause-args
run_handler-requires-clause-args g c =
    let s : ScriptsView = record { program = c.self.inside.program.now; opening = c.self.inside.opening.now; requests = c.self.inside.requests.now } in
    let r = request_at s.requests c.args.t in
    let below : c.args.t < length s.requests = subst (λ (z : ScriptsView). c.args.t < (meaning z).requests) (sym c.self.view_is) c.requires.ticket in
    let is : IsRequestOf s.program.file r = request_is s.program.file s.requests c.args.t below c.self.invariant.0.servable.each in
    ap (λ (vs : List Value). length vs) c.args_of.ensures ∙ is.args ∙ ap (λ (h : ℕ). params_at s.program.file h) (sym c.handler_of-h.ensures)
    ∙ ap (λ (f : File). params_at f c.handler_of-h.result) (sym c.self.invariant.1)

pub run_handler-requires-clause-shape : goal.run_handler-requires-clause-shape
run_handler-requires-clause-shape g c =
    c.requires.shape ∙ ap (λ (z : ScriptsView). (meaning z).shape) (sym c.self.view_is) ∙ ap (λ (f : File). shape_of f) (sym c.self.invariant.1)

pub returns-clause-runs : goal.returns-clause-runs
returns-clause-runs g c =
    let A = g.A.Answerer in
    let one : next (code_at c.self.inside.checked.now c.handler_of-h.result) (env_of c.args_of.result.now) ≡ next (code_at c.self.inside.program.now.file (request_at c.self.inside.requests.now c.args.t).handler) (env_of (request_at c.self.inside.requests.now c.args.t).args) =
    (λ i. next (code_at (c.self.invariant.1 i) (c.handler_of-h.ensures i)) (env_of (c.args_of.ensures i))) in
    let same = one ∙ ap (λ (z : ScriptsView). (meaning z).next c.args.t) c.self.view_is in
    subst (λ (f : Dialogue). IfOk c.run_handler.result (λ (r : Reply). Runs A.Step f c.args.who.now c.run_handler.new.who r)) same c.run_handler.ensures.runs

pub returns-clause-breaks : goal.returns-clause-breaks
returns-clause-breaks g c =
    let A = g.A.Answerer in
    let one : next (code_at c.self.inside.checked.now c.handler_of-h.result) (env_of c.args_of.result.now) ≡ next (code_at c.self.inside.program.now.file (request_at c.self.inside.requests.now c.args.t).handler) (env_of (request_at c.self.inside.requests.now c.args.t).args) =
    (λ i. next (code_at (c.self.invariant.1 i) (c.handler_of-h.ensures i)) (env_of (c.args_of.ensures i))) in
    let same = one ∙ ap (λ (z : ScriptsView). (meaning z).next c.args.t) c.self.view_is in
    subst (λ (f : Dialogue). OnErr c.run_handler.result (Breaks A.Step f c.args.who.now c.run_handler.new.who)) same c.run_handler.ensures.breaks
