use Rattle.std.proofs.Common.{refl}
use Rattle.tests_desks.proofs.HallCalls.{begins, between}
use Rattle.tests_desks.proofs.halls.serve_both.Goals as goal

pub begin-requires-clause-stage : goal.begin-requires-clause-stage
begin-requires-clause-stage g c = between _ c.requires.older.1

pub begin-requires-2-clause-stage : goal.begin-requires-2-clause-stage
begin-requires-2-clause-stage g c = between _ c.requires.younger.1

pub put_on_taken_shard-got-requires-clause-older : goal.put_on_taken_shard-got-requires-clause-older
put_on_taken_shard-got-requires-clause-older g c = begins _ c.args.hall.now c.requires.script c.begin.new.caller 0 _ refl c.begin.ensures.begun

pub put_on_taken_shard-got-requires-clause-younger : goal.put_on_taken_shard-got-requires-clause-younger
put_on_taken_shard-got-requires-clause-younger g c = begins _ c.args.hall.now c.requires.script c.begin-2.new.caller 1 _ refl c.begin-2.ensures.begun
