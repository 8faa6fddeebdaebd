use Rattle.std.proofs.Common.{length, sym, ap, ◌∙◌, subst}
use Rattle.check_meaning.specs.declared.tree.CheckedExpr.{CheckedExpr}
use Rattle.check_meaning.specs.Code.{Term, expr_term}
use Rattle.check_meaning.specs.Dialogue.{env_of, value_of}
use Rattle.check_meaning.specs.Within.{TermWithin}
use Rattle.handler_machine.proofs.Answering.{all_at, value_listed}
use Rattle.handler_machine.proofs.replies.value_at.Goals as goal

pub value_of-requires : goal.value_of-requires
value_of-requires c =
    let n = length c.args.env.now in
    let e = c.index-values-i.result in
    subst (λ (z : CheckedExpr). TermWithin n (expr_term z)) (sym c.index-values-i.is) (all_at expr_term (TermWithin n) c.args.values.now c.args.i e c.if-i-values.true c.requires)

pub returns-then-i-values : goal.returns-then-i-values
returns-then-i-values c =
    let env = env_of c.args.env.now in
    let e = c.index-values-i.result in
    c.value_of.ensures ∙ ap (λ (z : CheckedExpr). value_of (expr_term z) env) c.index-values-i.is ∙ value_listed expr_term (λ (t : Term). value_of t env) c.args.values.now c.args.i e c.if-i-values.true
