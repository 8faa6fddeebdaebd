-- The order of the rule, at a moment.
use Rattle.hall_writing.proofs.laws.alone_in_order.Goals as goal

pub returns : goal.returns
returns c = λ v items h a. h.rule.order h.place v h.own a
