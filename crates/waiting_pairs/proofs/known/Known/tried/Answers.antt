use Rattle.std.proofs.Common.{List, sym, subst}
use Rattle.std.specs.List.{All}
use Rattle.symbolic_ops.specs.declared.symbol.Symbol.{Symbol}
use Rattle.waiting_pairs.specs.declared.asked.Asked.{Asked}
use Rattle.waiting_pairs.specs.Chosen.{Chosen}
use Rattle.waiting_pairs.specs.Delays.{Delays}
use Rattle.waiting_pairs.proofs.ChosenLists.{none_of_ops}
use Rattle.waiting_pairs.proofs.known.Known.tried.Goals as goal

pub returns-then-delays_none : goal.returns-then-delays_none
returns-then-delays_none c = λ asked k.
    let none : All (λ o. Delays c.args.symbol.now o → ⊥) c.args.self.now.ops.items =
    subst (λ (z : List Symbol). All (λ o. Delays c.args.symbol.now o → ⊥) z) c.deref.ensures.value (c.delays_none.ensures c.if-delays_none.true) in
    subst (λ (z : List Asked). Chosen c.args.symbol.now asked z) (sym c.new.ensures.items) (none_of_ops c.args.symbol.now c.args.self.now.ops.items asked k.ops none)
