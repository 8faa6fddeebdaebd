use Rattle.std.proofs.Common.{ℕ, Option, Contains, sym, subst}
use Rattle.may_use_analysis.specs.Flow.{RepliedBack}
use Rattle.may_use_analysis.specs.Ordered.{Are}
use Rattle.may_use_analysis.proofs.walk.before_reply.Goals as goal

pub returns-in-Some : goal.returns-in-Some
returns-in-Some c =
    subst (λ (o : Option ℕ). Are c.carry.new.self (RepliedBack o (Contains c.args.after))) (sym c.in-Some.is) c.carry.ensures
