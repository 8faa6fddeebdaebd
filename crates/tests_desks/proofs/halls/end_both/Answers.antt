use Rattle.tests_desks.proofs.HallCalls.{may_end_0, may_end_1, has_ended, between}
use Rattle.tests_desks.proofs.halls.end_both.Goals as goal

pub end-requires-clause-may : goal.end-requires-clause-may
end-requires-clause-may g c = rw c.nil.ensures (may_end_0 c.args.hall.now c.requires.script c.args.older.now c.args.first.got c.requires.older)

pub end-requires-2-clause-may : goal.end-requires-2-clause-may
end-requires-2-clause-may g c = rw c.nil-2.ensures (may_end_1 c.args.hall.now c.requires.script c.args.younger.now c.args.first.put c.args.second c.requires.younger)

pub leave-requires-clause-stage : goal.leave-requires-clause-stage
leave-requires-clause-stage g c = between _ (has_ended c.args.hall.now c.args.older.now c.end.new.self 0 _ _ c.end.ensures.caller.0 _ _ c.requires.older c.end.ensures.ended)

pub leave-requires-2-clause-stage : goal.leave-requires-2-clause-stage
leave-requires-2-clause-stage g c = between _ (has_ended c.args.hall.now c.args.younger.now c.end-2.new.self 1 _ _ c.end-2.ensures.caller.0 _ _ c.requires.younger c.end-2.ensures.ended)
