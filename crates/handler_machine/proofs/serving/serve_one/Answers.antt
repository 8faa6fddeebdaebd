use Rattle.std.proofs.Common.{◌≡◌, ◌+◌, ◌∙◌, ℕ, List, length, sym, ap, subst, arith}
use Rattle.session_values.specs.declared.kind.TableKind.{TableKind}
use Rattle.syntax_trees.specs.declared.file.File.{File}
use Rattle.check_meaning.specs.Code.{Code, block_code, points}
use Rattle.check_meaning.specs.Dialogue.{Env, entry, env_of, run}
use Rattle.check_meaning.specs.Within.{CodeWithin}
use Rattle.handler_check.specs.Checked.{HandlerWithin}
use Rattle.handler_check.specs.Resolved.{code_at, shape_of}
use Rattle.declaration_insertion.specs.Program.{declared_at}
use Rattle.declaration_insertion.proofs.Programs.{program_promised}
use Rattle.handler_machine.specs.Serving.{Promises}
use Rattle.handler_machine.proofs.Promised.{promised}
use Rattle.handler_machine.proofs.serving.serve_one.Goals as goal

pub serve_body-result-requires-clause-within : goal.serve_body-result-requires-clause-within
serve_body-result-requires-clause-within g c κs within =
    let shape : List TableKind = shape_of c.checked.result.now in
    let long : length c.set_up.new.env ≡ 32 = (let n = c.args.scratch.now.variables in omega arith) in
    let body : CodeWithin shape 32 (block_code c.handler-handler.result.now.body) = subst (CodeWithin shape 32) (sym c.handler-handler.ensures.body) c.handler-handler.ensures.within.within in
    (shape, subst (λ (n : ℕ). CodeWithin shape n (block_code c.handler-handler.result.now.body)) (sym long) body)

pub serve_body-result-requires-clause-promises : goal.serve_body-result-requires-clause-promises
serve_body-result-requires-clause-promises g c κs within =
    let p = c.args.program.now in
    let h = c.args.h in
    let E = env_of c.set_up.new.env in
    let declared = declared_at p h in
    let here : HandlerWithin p.file h = subst (λ (f : File). HandlerWithin f h) c.checked.ensures.file c.handler-handler.ensures.within in
    let body : block_code c.handler-handler.result.now.body ≡ code_at p.file h = c.handler-handler.ensures.body ∙ ap (λ (f : File). code_at f h) c.checked.ensures.file in
    let whole : Promises (1 + points (code_at p.file h)) declared (entry E) (run (code_at p.file h) E) = subst (λ (e : Env). Promises (1 + points (code_at p.file h)) declared (entry e) (run (code_at p.file h) e)) (sym c.set_up.ensures.values) (promised (code_at p.file h) declared (env_of c.args.args.now) here.numbered (program_promised p c.checked.ensures.program h c.requires.handler c.args.args.now c.set_up.ensures.held)) in
    subst (λ (code : Code). Promises (1 + points (code_at p.file h)) declared (entry E) (run code E)) (sym body) whole
