use Rattle.std.proofs.Common.{◌≡◌, List, drop, length, map, ap, ◌∙◌, arith}
use Rattle.std.proofs.lemmas.List.{take_at}
use Rattle.session_values.specs.declared.value.Value.{Value}
use Rattle.symbolic_ops.specs.declared.symbol.Symbol.{Symbol}
use Rattle.symbolic_ops.specs.Foresight.{ForesightView}
use Rattle.check_meaning.specs.Dialogue.{Env, env_of}
use Rattle.declaration_insertion.specs.Promises.{symbol_at}
use Rattle.declaration_insertion.proofs.Values.{instantiated}
use Rattle.live_session.proofs.admitting.put_entry.Goals as goal

pub returns : goal.returns
returns c =
    let env : List Value = c.as_slice.result.now in
    let long : length c.set_up.new.env ≡ c.args.scratch.now.values.len = omega (arith, c.set_up.auto.env, c.as_mut_slice.ensures.len, c.args.scratch.now.values.ok.0, ap (λ (l : List Value). length l) c.as_mut_slice.ensures.value) in
    let same : env ≡ c.set_up.new.env = c.as_slice.ensures.value ∙ take_at c.set_up.new.env (drop (length c.set_up.new.env) c.args.scratch.now.values.items) c.args.scratch.now.values.len long in
    let values : env_of env ≡ env_of c.args.args.now = ap env_of same ∙ c.set_up.ensures.values in
    ap (λ (f : ForesightView). f.symbols) c.instantiate.ensures ∙ instantiated env c.entry-list.result.now
    ∙ ap (λ (e : Env). map (symbol_at e) c.entry-list.result.now) values ∙ ap (λ (l : List Symbol). map (symbol_at (env_of c.args.args.now)) l) c.entry-list.ensures.list
