use Rattle.std.proofs.Common.{take, ap, ◌∙◌}
use Rattle.may_use_analysis.proofs.KeptLemmas.{cut}
use Rattle.may_use_analysis.proofs.kept.PointLists.truncate.Goals as goal

pub returns : goal.returns
returns c = cut c.self.inside.entries.items c.truncate.new.self.items c.args.n c.truncate.ensures.items c.self.invariant ∙ ap (take c.args.n) c.self.view_is
