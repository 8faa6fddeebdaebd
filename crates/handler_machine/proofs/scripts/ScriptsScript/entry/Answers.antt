use Rattle.std.proofs.Common.{◌≡◌, ◌<◌, ℕ, zero, suc, List, length, map, replicate, arith, refl, sym, ap, ◌∙◌, subst}
use Rattle.std.specs.Prelude.{slice_index_or}
use Rattle.session_values.specs.declared.value.Value.{Value}
use Rattle.session_values.specs.declared.value.Value.TheVariants.{Nil}
use Rattle.symbolic_ops.specs.declared.symbol.Symbol.{Symbol}
use Rattle.check_meaning.specs.Dialogue.{Env, env_of}
use Rattle.handler_check.specs.Checked.{HandlerWithin}
use Rattle.handler_check.proofs.Codes.{all_within}
use Rattle.request_files.specs.Servable.{IsRequestOf}
use Rattle.request_files.specs.Session.{request_at}
use Rattle.handler_machine.proofs.Answering.{same_values}
use Rattle.declaration_insertion.specs.Promises.{symbol_at}
use Rattle.declaration_insertion.specs.Program.{declared_at}
use Rattle.declaration_insertion.proofs.Values.{instantiated}
use Rattle.handler_machine.specs.Scripts.{ScriptsView, meaning}
use Rattle.handler_machine.proofs.Lawful.{request_is}
use Rattle.handler_machine.proofs.scripts.ScriptsScript.entry.Goals as goal

nils : (n k : ℕ) → slice_index_or (replicate n Nil) k Nil ≡ Nil
nils zero k = refl
nils (suc n) zero = refl
nils (suc n) (suc k) = nils n k

pub put_args-requires : goal.put_args-requires
put_args-requires c =
    let s : ScriptsView = record { program = c.self.inside.program.now; opening = c.self.inside.opening.now; requests = c.self.inside.requests.now } in
    let r = request_at s.requests c.args.t in
    let below : c.args.t < length s.requests = subst (λ (z : ScriptsView). c.args.t < (meaning z).requests) (sym c.self.view_is) c.requires.ticket in
    let is : IsRequestOf s.program.file r = request_is s.program.file s.requests c.args.t below c.self.invariant.0.servable.each in
    let within : HandlerWithin s.program.file r.handler = all_within s.program.file c.self.invariant.0.program.accepted c.self.invariant.0.program.bounds r.handler in
    let long : length c.args_of.result.now ≡ length r.args = ap (λ (vs : List Value). length vs) c.args_of.ensures in
    let args = is.args in
    let few = within.params in
    omega arith

pub returns : goal.returns
returns c =
    let s : ScriptsView = record { program = c.self.inside.program.now; opening = c.self.inside.opening.now; requests = c.self.inside.requests.now } in
    let r = request_at s.requests c.args.t in
    let room = c.args.out.now.room in
    let env = c.put_args.new.env in
    let list : c.entry-list.result.now ≡ declared_at s.program r.handler 0 = c.entry-list.ensures.list ∙ ap (λ (h : ℕ). declared_at s.program h 0) c.handler_of.ensures in
    let put = same_values env c.args_of.result.now c.put_args.ensures.values (λ k h. c.put_args.ensures.kept k h ∙ nils 32 k) in
    let values : env_of env ≡ env_of r.args = put ∙ ap (λ (vs : List Value). env_of vs) c.args_of.ensures in
    let one : c.instantiate.new.out ≡ record { symbols = map (symbol_at (env_of env)) c.entry-list.result.now; room = room } =
    c.instantiate.ensures ∙ ap (λ (l : List Symbol). record { symbols = l; room = room }) (instantiated env c.entry-list.result.now) in
    let two : c.instantiate.new.out ≡ record { symbols = map (symbol_at (env_of r.args)) c.entry-list.result.now; room = room } =
    one ∙ ap (λ (e : Env). record { symbols = map (symbol_at e) c.entry-list.result.now; room = room }) values in
    subst (λ (z : ScriptsView). c.instantiate.new.out ≡ record { symbols = (meaning z).entry c.args.t; room = room }) c.self.view_is
    (two ∙ ap (λ (l : List Symbol). record { symbols = map (symbol_at (env_of r.args)) l; room = room }) list)
