use Rattle.std.proofs.Common.{◌≡◌, refl, subst, Contains, ◌⊎◌, ◌↔◌}
use Rattle.symbolic_ops.specs.declared.symbol.Symbol.{Symbol}
use Rattle.may_use_analysis.specs.Flow.{RepliedBack}
use Rattle.may_use_analysis.proofs.WalkSteps.{ask_step}
use Rattle.may_use_analysis.proofs.walk.before_call.Goals as goal

pub returns : goal.returns
returns c =
    let add = subst (λ (z : Symbol). (q : Symbol) → Contains c.insert.new.self q ↔ (Contains c.before_reply-set.result q ⊎ (q ≡ z))) c.symbol_of.ensures c.in_ok-insert.ensures in
    ask_step c.args.var c.args.call.now (Contains c.args.after) (RepliedBack c.args.var (Contains c.args.after)) c.before_reply-set.result c.insert.new.self refl c.before_reply-set.ensures add
