use Rattle.tests_desks.proofs.HallTries.{ended_so, ends_second}
use Rattle.tests_desks.proofs.hall_tries.end_younger.Goals as goal

pub try_end-requires-clause-may : goal.try_end-requires-clause-may
try_end-requires-clause-may g c = rw c.nil.ensures (ends_second c.args.hall.now c.requires.script c.args.younger.now c.args.first c.args.second c.requires.younger)

pub returns-clause-younger : goal.returns-clause-younger
returns-clause-younger g c = (c.try_end.ensures.caller.0, ended_so c.args.hall.now c.args.younger.now c.try_end.new.self 1 _ _ c.try_end.ensures.caller.0 _ _ _ c.in-Ended.is c.requires.younger c.try_end.ensures.ended)
