use Rattle.std.proofs.Common.{map, arith, ◌∙◌}
use Rattle.check_meaning.specs.Code.{Term, expr_term}
use Rattle.check_meaning.specs.Dialogue.{env_of, value_of}
use Rattle.handler_machine.proofs.Answering.{lengths, made_is, made_keeps}
use Rattle.handler_machine.proofs.replies.reply_of.Goals as goal

pub new-requires : goal.new-requires
new-requires c =
    let env = env_of c.args.env.now in
    let n = lengths expr_term (λ (t : Term). value_of t env) c.args.values.now in
    made_keeps (map (λ (t : Term). value_of t env) (map expr_term c.args.values.now)) _ _ _ _ (omega arith) c.value_at-b.ensures c.value_at-c.ensures c.value_at-d.ensures (omega arith) (omega arith)

pub returns : goal.returns
returns c =
    let env = env_of c.args.env.now in
    let n = lengths expr_term (λ (t : Term). value_of t env) c.args.values.now in
    c.new.ensures ∙ made_is (map (λ (t : Term). value_of t env) (map expr_term c.args.values.now)) _ _ _ _ _ (omega arith) c.value_at-a.ensures c.value_at-b.ensures c.value_at-c.ensures c.value_at-d.ensures (omega arith) (omega arith)
