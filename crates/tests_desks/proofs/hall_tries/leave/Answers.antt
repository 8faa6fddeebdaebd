use Rattle.tests_desks.proofs.HallTries.{all_begun_so}
use Rattle.tests_desks.proofs.hall_tries.leave.Goals as goal

pub returns-clause-out : goal.returns-clause-out
returns-clause-out g c = all_begun_so c.args.hall.now c.args.caller.now c.try_begin.new.self c.try_begin.ensures.caller.0 _ _ c.in-AllBegun.is c.try_begin.ensures.began
