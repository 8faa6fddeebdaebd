use Rattle.std.proofs.Common.{List, drop, sym, ap, ◌∙◌, subst}
use Rattle.std.specs.List.{AllByRecursion}
use Rattle.hall_rule.specs.declared.held.Held.{Held}
use Rattle.session_hall.specs.Closings.{IsTable}
use Rattle.session_hall.proofs.Reopened.{are_tables, same_parts}
use Rattle.session_hall.proofs.reopening.shards_back.Goals as goal

pub parts_of-requires-clause-tables : goal.parts_of-requires-clause-tables
parts_of-requires-clause-tables g c =
    let b = c.requires.book in
    let rest = c.remove.ensures.items ∙ ap (λ (l : List (Held g.row.S.Denot)). drop 1 l) b.2 in
    subst (λ (l : List (Held g.row.S.Denot)). AllByRecursion IsTable l) (sym rest) (are_tables g.row.S.Denot b.1)

pub returns : goal.returns
returns g c = λ b ps is. same_parts g.row.S.Denot _ ps (c.parts_of.ensures ∙ c.remove.ensures.items ∙ ap (λ (l : List (Held g.row.S.Denot)). drop 1 l) is)
