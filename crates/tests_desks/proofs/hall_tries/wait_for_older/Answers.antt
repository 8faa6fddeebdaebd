use Rattle.tests_desks.proofs.HallCalls.{was_delayed}
use Rattle.tests_desks.proofs.HallTries.{calls_second}
use Rattle.tests_desks.proofs.hall_tries.wait_for_older.Goals as goal

pub try_admit-requires-clause-may : goal.try_admit-requires-clause-may
try_admit-requires-clause-may g c = rw c.put_1.ensures (calls_second c.args.hall.now c.requires.script c.args.younger.now c.args.first c.requires.younger)

pub returns-clause-younger : goal.returns-clause-younger
returns-clause-younger g c = was_delayed c.args.hall.now c.args.younger.now c.try_admit.new.self 1 _ _ c.try_admit.ensures.caller.0 _ _ _ _ _ c.in-Delayed.is c.requires.younger c.try_admit.ensures.admitted
