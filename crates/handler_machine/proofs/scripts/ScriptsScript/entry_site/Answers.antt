use Rattle.std.proofs.Common.{◌≡◌, ◌<◌, ℕ, List, length, map, arith, sym, ap, ◌∙◌, subst}
use Rattle.session_values.specs.declared.value.Value.{Value}
use Rattle.session_journal.specs.Script.{HasSite, declared_with}
use Rattle.session_journal.specs.declared.site.Site.{Site}
use Rattle.check_meaning.specs.Dialogue.{Env, env_of}
use Rattle.handler_check.specs.Checked.{HandlerWithin}
use Rattle.handler_check.proofs.Codes.{all_within}
use Rattle.request_files.specs.Servable.{IsRequestOf}
use Rattle.request_files.specs.Session.{request_at}
use Rattle.declaration_insertion.specs.Promises.{symbol_at}
use Rattle.declaration_insertion.specs.Program.{declared_at}
use Rattle.declaration_insertion.proofs.Values.{instantiated}
use Rattle.handler_machine.specs.Scripts.{ScriptsView, meaning}
use Rattle.handler_machine.proofs.Lawful.{request_is}
use Rattle.handler_machine.proofs.Sites.{has_entry}
use Rattle.handler_machine.proofs.scripts.ScriptsScript.entry_site.Goals as goal

pub set_up-requires : goal.set_up-requires
set_up-requires c =
    let s : ScriptsView = record { program = c.self.inside.program.now; opening = c.self.inside.opening.now; requests = c.self.inside.requests.now } in
    let r = request_at s.requests c.args.t in
    let below : c.args.t < length s.requests = subst (λ (z : ScriptsView). c.args.t < (meaning z).requests) (sym c.self.view_is) c.requires.ticket in
    let is : IsRequestOf s.program.file r = request_is s.program.file s.requests c.args.t below c.self.invariant.0.servable.each in
    let within : HandlerWithin s.program.file r.handler = all_within s.program.file c.self.invariant.0.program.accepted c.self.invariant.0.program.bounds r.handler in
    let long : length c.args_of.result.now ≡ length r.args = ap (λ (vs : List Value). length vs) c.args_of.ensures in
    let args = is.args in
    let few = within.params in
    let room = c.requires.room in
    omega (arith, long, args, few, room)

pub returns-clause-site : goal.returns-clause-site
returns-clause-site c =
    let s : ScriptsView = record { program = c.self.inside.program.now; opening = c.self.inside.opening.now; requests = c.self.inside.requests.now } in
    let r = request_at s.requests c.args.t in
    let below : c.args.t < length s.requests = subst (λ (z : ScriptsView). c.args.t < (meaning z).requests) (sym c.self.view_is) c.requires.ticket in
    let is : IsRequestOf s.program.file r = request_is s.program.file s.requests c.args.t below c.self.invariant.0.servable.each in
    let values = c.set_up.new.env in
    let site : Site = record { part = c.handler_of.result; point = 0 } in
    let has : HasSite (meaning s) site 32 = subst (λ (h : ℕ). HasSite (meaning s) (record { part = h; point = 0 }) 32) (sym c.handler_of.ensures) (has_entry s c.self.invariant.0 r.handler is.handler) in
    let put : env_of values ≡ env_of r.args = c.set_up.ensures.values ∙ ap (λ (vs : List Value). env_of vs) c.args_of.ensures in
    let list : declared_with (meaning s) site values ≡ (meaning s).entry c.args.t =
    instantiated values (declared_at s.program c.handler_of.result 0)
    ∙ ap (λ (e : Env). map (symbol_at e) (declared_at s.program c.handler_of.result 0)) put
    ∙ ap (λ (h : ℕ). map (symbol_at (env_of r.args)) (declared_at s.program h 0)) c.handler_of.ensures in (
      subst (λ (z : ScriptsView). HasSite (meaning z) site 32) c.self.view_is has,
      subst (λ (z : ScriptsView). declared_with (meaning z) site values ≡ (meaning z).entry c.args.t) c.self.view_is list,
    )
