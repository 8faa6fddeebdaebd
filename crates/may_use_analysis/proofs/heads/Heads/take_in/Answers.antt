use Rattle.std.proofs.Common.{List, Contains, subst}
use Rattle.symbolic_ops.specs.declared.symbol.Symbol.{Symbol}
use Rattle.may_use_analysis.proofs.SpreadLemmas.{taken_in}
use Rattle.may_use_analysis.proofs.heads.Heads.take_in.Goals as goal

pub returns : goal.returns
returns c =
    let given = subst (λ (z : List Symbol). (q : Symbol) → Contains c.in_ok-fresh.fresh q → Contains z q) c.as_slice.ensures.symbols c.in_ok-fresh.ensures in
    taken_in c.args.point c.args.symbols.now c.args.self.now c.keep.new.self c.in_ok-fresh.fresh c.in_ok-head.head c.join.new.self c.in_ok-head.ensures given c.in_ok-join.ensures.union c.in_ok-keep.ensures
