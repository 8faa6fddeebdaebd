use Rattle.std.proofs.Common.{◌≡◌, true, false, Some, sym, ap, ◌∙◌}
use Rattle.syntax_grammar.specs.Next as next
use Rattle.refusal_advice.specs.Parts.{behind, part_of, parts_of}
use Rattle.refusal_advice.proofs.Kept.{kept_last, took, refused, passed}
use Rattle.refusal_advice.proofs.taking.take.Goals as goal

pub returns-in-Some-row : goal.returns-in-Some-row
returns-in-Some-row c =
    ap behind (c.parts.invariant ∙ ap (λ ps. next.taking ps c.args.sort) (kept_last c.parts.parts.items c.pop.new.self.items c.in-Some.part c.in-Some.ensures.items))
    ∙ took (part_of c.in-Some.part) c.pop.new.self.items c.in-Some-row.left.now c.args.sort c.in-Some-row.ensures
    ∙ ap (λ l. Some (parts_of l)) (sym c.in_ok-extend_from_slice-in-Some-row.ensures.items)

pub returns-then-not-may_be_empty : goal.returns-then-not-may_be_empty
returns-then-not-may_be_empty c =
    let not : next.may_be_empty (part_of c.in-Some.part) ≡ false = sym c.may_be_empty.ensures ∙ c.if-not-may_be_empty.true in
    c.parts.invariant ∙ ap (λ ps. next.taking ps c.args.sort) (kept_last c.parts.parts.items c.pop.new.self.items c.in-Some.part c.in-Some.ensures.items) ∙ refused (part_of c.in-Some.part) (parts_of c.pop.new.self.items) c.args.sort c.in-None.ensures not

pub parts-preserved : goal.parts-preserved
parts-preserved c =
    let may : next.may_be_empty (part_of c.in-Some.part) ≡ true = sym c.may_be_empty.ensures ∙ c.if-not-may_be_empty.false in
    c.parts.invariant ∙ ap (λ ps. next.taking ps c.args.sort) (kept_last c.parts.parts.items c.pop.new.self.items c.in-Some.part c.in-Some.ensures.items) ∙ passed (part_of c.in-Some.part) (parts_of c.pop.new.self.items) c.args.sort c.in-None.ensures may
