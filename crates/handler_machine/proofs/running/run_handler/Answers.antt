use Rattle.std.proofs.Common.{◌≡◌, ℕ, List, length, sym, subst, arith}
use Rattle.session_values.specs.declared.kind.TableKind.{TableKind}
use Rattle.check_meaning.specs.Code.{Code, block_code}
use Rattle.check_meaning.specs.Dialogue.{env_of, next}
use Rattle.check_meaning.specs.Keeps.{CallsFit}
use Rattle.check_meaning.specs.Within.{CodeWithin}
use Rattle.check_meaning.proofs.Held.{calls_fit}
use Rattle.handler_check.specs.Resolved.{code_at, shape_of}
use Rattle.handler_machine.proofs.running.run_handler.Goals as goal

pub run_body-requires-clause-within : goal.run_body-requires-clause-within
run_body-requires-clause-within g c =
    let shape : List TableKind = shape_of c.args.checked.now in
    let long : length c.as_mut_slice.result.now ≡ 32 = (let n = c.args.scratch.now.variables in omega arith) in
    let body : CodeWithin shape 32 (block_code c.handler.result.now.body) = subst (CodeWithin shape 32) (sym c.handler.ensures.body) c.handler.ensures.within.within in
    (shape, subst (λ (n : ℕ). CodeWithin shape n (block_code c.handler.result.now.body)) (sym long) body)

pub run_body-requires-clause-fits : goal.run_body-requires-clause-fits
run_body-requires-clause-fits g c =
    let f = c.args.checked.now in
    let env = env_of c.args.args.now in
    let fits : CallsFit (shape_of f) (next (code_at f c.args.h) env) = calls_fit (shape_of f) 32 (code_at f c.args.h) env c.handler.ensures.within.within in
    subst (λ (shape : List TableKind). CallsFit shape (next (block_code c.handler.result.now.body) env)) (sym c.requires.shape)
    (subst (λ (code : Code). CallsFit (shape_of f) (next code env)) (sym c.handler.ensures.body) fits)
