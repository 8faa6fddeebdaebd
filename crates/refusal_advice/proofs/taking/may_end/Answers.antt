use Rattle.std.proofs.Common.{◌≡◌, true, false, sym, ap, ◌∙◌}
use Rattle.syntax_grammar.specs.Next as next
use Rattle.refusal_advice.specs.Parts.{part_of, parts_of}
use Rattle.refusal_advice.proofs.Kept.{kept_last, ends_not, ends_behind}
use Rattle.refusal_advice.proofs.taking.may_end.Goals as goal

pub returns-then-not-may_be_empty : goal.returns-then-not-may_be_empty
returns-then-not-may_be_empty c =
    let not : next.may_be_empty (part_of c.in-Some.part) ≡ false = sym c.may_be_empty.ensures ∙ c.if-not-may_be_empty.true in
    sym (c.parts.invariant ∙ ap next.may_end (kept_last c.parts.parts.items c.pop.new.self.items c.in-Some.part c.in-Some.ensures.items) ∙ ends_not (part_of c.in-Some.part) (parts_of c.pop.new.self.items) not)

pub parts-preserved : goal.parts-preserved
parts-preserved c =
    let may : next.may_be_empty (part_of c.in-Some.part) ≡ true = sym c.may_be_empty.ensures ∙ c.if-not-may_be_empty.false in
    c.parts.invariant ∙ ap next.may_end (kept_last c.parts.parts.items c.pop.new.self.items c.in-Some.part c.in-Some.ensures.items) ∙ ends_behind (part_of c.in-Some.part) (parts_of c.pop.new.self.items) may
