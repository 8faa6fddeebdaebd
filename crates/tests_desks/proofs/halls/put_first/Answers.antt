use Rattle.std.proofs.Common.{◌∙◌, ap}
use Rattle.symbolic_ops.specs.Matching.{exact_symbol}
use Rattle.tests_desks.proofs.HallCalls.{may_enter_2, has_applied, has_entered, in_flight, pushed}
use Rattle.tests_desks.proofs.halls.put_first.Goals as goal

pub apply-put-requires-clause-stage : goal.apply-put-requires-clause-stage
apply-put-requires-clause-stage g c = in_flight _ _ _ c.requires.younger.stage

pub finish-requires-clause-may : goal.finish-requires-clause-may
finish-requires-clause-may g c =
    let b = has_applied c.args.hall.now c.args.younger.now c.apply-put.new.self 1 _ _ c.apply-put.ensures.caller.0 _ _ _ _ _ c.requires.younger c.apply-put.ensures.applied in
    may_enter_2 c.args.hall.now c.requires.script c.apply-put.new.self c.apply-put.result _ (pushed _ _ _ _ _ c.clear.ensures c.push.ensures (c.exact.ensures ∙ ap exact_symbol c.put_1.ensures)) b

pub returns-clause-younger : goal.returns-clause-younger
returns-clause-younger g c =
    let b = has_applied c.args.hall.now c.args.younger.now c.apply-put.new.self 1 _ _ c.apply-put.ensures.caller.0 _ _ _ _ _ c.requires.younger c.apply-put.ensures.applied in
    has_entered c.args.hall.now c.apply-put.new.self c.finish.new.self 1 _ _ c.finish.ensures.caller.0 _ _ _ _ _ (pushed _ _ _ _ _ c.clear.ensures c.push.ensures (c.exact.ensures ∙ ap exact_symbol c.put_1.ensures)) b c.finish.ensures.finished
