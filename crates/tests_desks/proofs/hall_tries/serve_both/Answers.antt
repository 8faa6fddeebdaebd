use Rattle.std.proofs.Common.{refl}
use Rattle.tests_desks.proofs.HallCalls.{begins, between}
use Rattle.tests_desks.proofs.hall_tries.serve_both.Goals as goal

pub begin-requires-clause-stage : goal.begin-requires-clause-stage
begin-requires-clause-stage g c = between _ c.requires.older.1

pub begin-requires-2-clause-stage : goal.begin-requires-2-clause-stage
begin-requires-2-clause-stage g c = between _ c.requires.younger.1

pub put_first-first-requires-clause-younger : goal.put_first-first-requires-clause-younger
put_first-first-requires-clause-younger g c = begins _ c.args.hall.now c.requires.script c.begin-2.new.caller 1 _ refl c.begin-2.ensures.begun

pub end_older-requires-clause-older : goal.end_older-requires-clause-older
end_older-requires-clause-older g c = begins _ c.args.hall.now c.requires.script c.begin.new.caller 0 _ refl c.begin.ensures.begun

pub leave-requires-clause-stage : goal.leave-requires-clause-stage
leave-requires-clause-stage g c = between _ c.end_older.ensures.older.1

pub leave-requires-2-clause-stage : goal.leave-requires-2-clause-stage
leave-requires-2-clause-stage g c = between _ c.end_younger.ensures.younger.1
