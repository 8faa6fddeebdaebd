use Rattle.std.proofs.Common.{ap, ◌∙◌, List, length, subst, arith}
use Rattle.session_values.specs.Opening.{Pair, AreKept}
use Rattle.session_values.proofs.KeptLemmas.{entries_here, few_each}
use Rattle.session_values.proofs.opening.Opening.len.Goals as goal

pub returns : goal.returns
returns c =
    let at = entries_here c.self.inside.tables.items c.args.self.now c.args.table c.index.result.now c.self.view_is c.requires c.index.ensures in
    c.len.ensures ∙ ap (λ (es : List Pair). length es) at

pub overflow_cast-result : goal.overflow_cast-result
overflow_cast-result c =
    let kept : AreKept c.args.self.now = subst AreKept c.self.view_is c.self.invariant.0 in
    omega (arith, returns c, few_each c.args.self.now c.args.table kept)
