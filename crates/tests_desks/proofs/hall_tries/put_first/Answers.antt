use Rattle.std.proofs.Common.{◌∙◌, ap}
use Rattle.symbolic_ops.specs.Matching.{exact_symbol}
use Rattle.tests_desks.proofs.HallCalls.{in_flight, pushed}
use Rattle.tests_desks.proofs.HallTries.{admitted_so, applied_so, calls_first, enters_first, finished_so}
use Rattle.tests_desks.proofs.hall_tries.put_first.Goals as goal

pub try_admit-requires-clause-may : goal.try_admit-requires-clause-may
try_admit-requires-clause-may g c = rw c.put_2.ensures (calls_first c.args.hall.now c.requires.script c.args.younger.now c.requires.younger)

pub try_apply-requires-clause-stage : goal.try_apply-requires-clause-stage
try_apply-requires-clause-stage g c =
    let a = admitted_so c.args.hall.now c.args.younger.now c.try_admit.new.self 1 _ _ c.try_admit.ensures.caller.0 _ _ _ _ c.in-Admitted.is c.put_2.ensures c.requires.younger c.try_admit.ensures.admitted in
    in_flight _ _ _ a.stage

pub try_finish-requires-clause-may : goal.try_finish-requires-clause-may
try_finish-requires-clause-may g c =
    let a = admitted_so c.args.hall.now c.args.younger.now c.try_admit.new.self 1 _ _ c.try_admit.ensures.caller.0 _ _ _ _ c.in-Admitted.is c.put_2.ensures c.requires.younger c.try_admit.ensures.admitted in
    let b = applied_so c.args.hall.now c.try_admit.new.self c.try_apply.new.self 1 _ _ c.try_apply.ensures.caller.0 _ _ _ _ _ _ c.in-Applied.is a c.try_apply.ensures.applied in
    enters_first c.args.hall.now c.requires.script c.try_apply.new.self _ _ (pushed _ _ _ _ _ c.clear.ensures c.push.ensures (c.exact.ensures ∙ ap exact_symbol c.put_1.ensures)) b

pub returns-clause-younger : goal.returns-clause-younger
returns-clause-younger g c =
    let a = admitted_so c.args.hall.now c.args.younger.now c.try_admit.new.self 1 _ _ c.try_admit.ensures.caller.0 _ _ _ _ c.in-Admitted.is c.put_2.ensures c.requires.younger c.try_admit.ensures.admitted in
    let b = applied_so c.args.hall.now c.try_admit.new.self c.try_apply.new.self 1 _ _ c.try_apply.ensures.caller.0 _ _ _ _ _ _ c.in-Applied.is a c.try_apply.ensures.applied in
    finished_so c.args.hall.now c.try_apply.new.self c.try_finish.new.self 1 _ _ c.try_finish.ensures.caller.0 _ _ _ _ _ _ c.in-Done.is (pushed _ _ _ _ _ c.clear.ensures c.push.ensures (c.exact.ensures ∙ ap exact_symbol c.put_1.ensures)) b c.try_finish.ensures.finished
