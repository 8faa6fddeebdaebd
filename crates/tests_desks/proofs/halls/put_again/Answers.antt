use Rattle.tests_desks.proofs.BookRows.{cleared}
use Rattle.tests_desks.proofs.HallCalls.{flies, may_put_1, may_declare, may_enter_1, has_admitted, has_applied, has_entered, has_declared, was_delayed, in_flight}
use Rattle.tests_desks.proofs.halls.put_again.Goals as goal

pub try_admit-requires-clause-may : goal.try_admit-requires-clause-may
try_admit-requires-clause-may g c = rw c.put_1.ensures (may_put_1 c.args.hall.now c.requires.script c.args.younger.now c.args.first.put c.requires.younger)

pub declare-requires-clause-may : goal.declare-requires-clause-may
declare-requires-clause-may g c = may_declare c.args.hall.now c.requires.script c.args.older.now c.args.first.got _ (cleared _ _ c.clear.ensures) c.requires.older

pub admit-requires-clause-may : goal.admit-requires-clause-may
admit-requires-clause-may g c =
    let a = was_delayed c.args.hall.now c.args.younger.now c.try_admit.new.self 1 _ _ c.try_admit.ensures.caller.0 _ _ _ _ _ c.in-Delayed.is c.requires.younger c.try_admit.ensures.admitted in
    rw c.put_1-2.ensures (may_put_1 c.args.hall.now c.requires.script c.try_admit.new.self c.args.first.put a)

pub apply-put-requires-clause-stage : goal.apply-put-requires-clause-stage
apply-put-requires-clause-stage g c =
    let a = was_delayed c.args.hall.now c.args.younger.now c.try_admit.new.self 1 _ _ c.try_admit.ensures.caller.0 _ _ _ _ _ c.in-Delayed.is c.requires.younger c.try_admit.ensures.admitted in
    let b = flies _ _ _ _ _ _ _ c.put_1-2.ensures (has_admitted c.args.hall.now c.try_admit.new.self c.admit.new.self 1 _ _ c.admit.ensures.caller.0 _ _ a c.admit.ensures.admitted) in
    in_flight _ _ _ b.stage

pub finish-requires-clause-may : goal.finish-requires-clause-may
finish-requires-clause-may g c =
    let a = was_delayed c.args.hall.now c.args.younger.now c.try_admit.new.self 1 _ _ c.try_admit.ensures.caller.0 _ _ _ _ _ c.in-Delayed.is c.requires.younger c.try_admit.ensures.admitted in
    let b = flies _ _ _ _ _ _ _ c.put_1-2.ensures (has_admitted c.args.hall.now c.try_admit.new.self c.admit.new.self 1 _ _ c.admit.ensures.caller.0 _ _ a c.admit.ensures.admitted) in
    let d = has_applied c.args.hall.now c.admit.new.self c.apply-put.new.self 1 _ _ c.apply-put.ensures.caller.0 _ _ _ _ _ b c.apply-put.ensures.applied in
    may_enter_1 c.args.hall.now c.requires.script c.apply-put.new.self c.args.first.put c.apply-put.result _ (cleared _ _ c.clear.ensures) d

pub returns-clause-older : goal.returns-clause-older
returns-clause-older g c = has_declared c.args.hall.now c.args.older.now c.declare.new.self 0 _ _ c.declare.ensures.caller.0 _ _ _ (cleared _ _ c.clear.ensures) c.requires.older c.declare.ensures.declared

pub returns-clause-younger : goal.returns-clause-younger
returns-clause-younger g c =
    let a = was_delayed c.args.hall.now c.args.younger.now c.try_admit.new.self 1 _ _ c.try_admit.ensures.caller.0 _ _ _ _ _ c.in-Delayed.is c.requires.younger c.try_admit.ensures.admitted in
    let b = flies _ _ _ _ _ _ _ c.put_1-2.ensures (has_admitted c.args.hall.now c.try_admit.new.self c.admit.new.self 1 _ _ c.admit.ensures.caller.0 _ _ a c.admit.ensures.admitted) in
    let d = has_applied c.args.hall.now c.admit.new.self c.apply-put.new.self 1 _ _ c.apply-put.ensures.caller.0 _ _ _ _ _ b c.apply-put.ensures.applied in
    has_entered c.args.hall.now c.apply-put.new.self c.finish.new.self 1 _ _ c.finish.ensures.caller.0 _ _ _ _ _ (cleared _ _ c.clear.ensures) d c.finish.ensures.finished
