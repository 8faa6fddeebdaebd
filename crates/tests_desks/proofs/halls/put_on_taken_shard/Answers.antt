use Rattle.std.proofs.Common.{◌∙◌, ap}
use Rattle.symbolic_ops.specs.Matching.{exact_symbol}
use Rattle.tests_desks.proofs.HallCalls.{flies, may_get, may_put_2, may_enter_get, has_admitted, has_applied, has_entered, was_busy, in_flight, pushed}
use Rattle.tests_desks.proofs.halls.put_on_taken_shard.Goals as goal

pub admit-requires-clause-may : goal.admit-requires-clause-may
admit-requires-clause-may g c = rw c.get_4.ensures (may_get c.args.hall.now c.requires.script c.args.older.now c.requires.older)

pub apply-got-requires-clause-stage : goal.apply-got-requires-clause-stage
apply-got-requires-clause-stage g c =
    let a = flies _ _ _ _ _ _ _ c.get_4.ensures (has_admitted c.args.hall.now c.args.older.now c.admit.new.self 0 _ _ c.admit.ensures.caller.0 _ _ c.requires.older c.admit.ensures.admitted) in
    in_flight _ _ _ a.stage

pub admit-requires-2-clause-may : goal.admit-requires-2-clause-may
admit-requires-2-clause-may g c = rw c.put_2.ensures (may_put_2 c.args.hall.now c.requires.script c.args.younger.now c.requires.younger)

pub try_apply-requires-clause-stage : goal.try_apply-requires-clause-stage
try_apply-requires-clause-stage g c =
    let a = flies _ _ _ _ _ _ _ c.put_2.ensures (has_admitted c.args.hall.now c.args.younger.now c.admit-2.new.self 1 _ _ c.admit-2.ensures.caller.0 _ _ c.requires.younger c.admit-2.ensures.admitted) in
    in_flight _ _ _ a.stage

pub finish-requires-clause-may : goal.finish-requires-clause-may
finish-requires-clause-may g c =
    let a = flies _ _ _ _ _ _ _ c.get_4.ensures (has_admitted c.args.hall.now c.args.older.now c.admit.new.self 0 _ _ c.admit.ensures.caller.0 _ _ c.requires.older c.admit.ensures.admitted) in
    let b = has_applied c.args.hall.now c.admit.new.self c.apply-got.new.self 0 _ _ c.apply-got.ensures.caller.0 _ _ _ _ _ a c.apply-got.ensures.applied in
    may_enter_get c.args.hall.now c.requires.script c.apply-got.new.self c.apply-got.result _ (pushed _ _ _ _ _ c.clear.ensures c.push.ensures (c.exact.ensures ∙ ap exact_symbol c.get_1.ensures)) b

pub returns-clause-older : goal.returns-clause-older
returns-clause-older g c =
    let a = flies _ _ _ _ _ _ _ c.get_4.ensures (has_admitted c.args.hall.now c.args.older.now c.admit.new.self 0 _ _ c.admit.ensures.caller.0 _ _ c.requires.older c.admit.ensures.admitted) in
    let b = has_applied c.args.hall.now c.admit.new.self c.apply-got.new.self 0 _ _ c.apply-got.ensures.caller.0 _ _ _ _ _ a c.apply-got.ensures.applied in
    has_entered c.args.hall.now c.apply-got.new.self c.finish.new.self 0 _ _ c.finish.ensures.caller.0 _ _ _ _ _ (pushed _ _ _ _ _ c.clear.ensures c.push.ensures (c.exact.ensures ∙ ap exact_symbol c.get_1.ensures)) b c.finish.ensures.finished

pub returns-clause-younger : goal.returns-clause-younger
returns-clause-younger g c =
    let a = flies _ _ _ _ _ _ _ c.put_2.ensures (has_admitted c.args.hall.now c.args.younger.now c.admit-2.new.self 1 _ _ c.admit-2.ensures.caller.0 _ _ c.requires.younger c.admit-2.ensures.admitted) in
    was_busy c.args.hall.now c.admit-2.new.self c.try_apply.new.self 1 _ _ c.try_apply.ensures.caller.0 _ _ _ _ _ _ c.in-Busy.is a c.try_apply.ensures.applied
