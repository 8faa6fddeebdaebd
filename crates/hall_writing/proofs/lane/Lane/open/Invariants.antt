-- The lane's replies are the serial ones of the script.
use Rattle.session_values.specs.Serial.{serial_replies}
use Rattle.session_journal.specs.Script.{session_of}
use Rattle.hall_writing.proofs.lane.Lane.open.Given as goal

abbrev pub ghosts-opened : goal.ghosts-opened
ghosts-opened g a = record { replies = serial_replies (session_of (g.S.Script.meaning a.plan.now)) (g.S.Script.meaning a.plan.now).requests; callers = a.callers }
