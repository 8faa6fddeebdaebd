-- The numbers and lines of what a session answers.
use Rattle.std.specs.Prelude.{ℕ, List, [], codes}
use Rattle.serve_faults.specs.Message.{ended, message_of}
use Rattle.serve_faults.specs.declared.status.Fault.TheVariants.{HasRequests}
use Rattle.serve_faults.specs.declared.status.Status.TheVariants as status
use Rattle.live_session.specs.declared.answers.Answered.{Answered}
use Rattle.live_session.specs.declared.answers.Answered.TheVariants as answered
use Rattle.live_session.specs.declared.answers.LineRefusal.{LineRefusal}
use Rattle.live_session.specs.declared.answers.LineRefusal.TheVariants as rule
use Rattle.live_session.specs.declared.batch.Ended.{Ended}
use Rattle.live_session.specs.declared.batch.Ended.TheVariants as batch
use Rattle.live_session.specs.declared.opening.OpenError.{OpenError}
use Rattle.live_session.specs.declared.opening.OpenError.TheVariants as unopened
use Rattle.foresight_c.specs.Numbers.{delayed, fine, full, no_memory, no_room, refused, too_many_names}

abbrev pub answered_number : Answered → ℕ
answered_number answered.Served = fine
answered_number answered.Nothing = fine
answered_number (answered.Refused why) = refused
answered_number answered.TooManyNames = too_many_names
answered_number (answered.Delayed u) = delayed
answered_number answered.NoNumber = full
answered_number answered.NoMemory = no_memory

abbrev pub ended_number : Ended → ℕ
ended_number batch.All = fine
ended_number batch.Full = no_room
ended_number (batch.Stopped a) = answered_number a

-- the open ticket that is in the way of a line that is delayed, and else 0
abbrev pub answered_older : Answered → ℕ
answered_older answered.Served = 0
answered_older answered.Nothing = 0
answered_older (answered.Refused why) = 0
answered_older answered.TooManyNames = 0
answered_older (answered.Delayed u) = u
answered_older answered.NoNumber = 0
answered_older answered.NoMemory = 0

abbrev pub ended_older : Ended → ℕ
ended_older batch.All = 0
ended_older batch.Full = 0
ended_older (batch.Stopped a) = answered_older a

abbrev pub unopened_number : OpenError → ℕ
unopened_number (unopened.Refused fault) = refused
unopened_number unopened.HasRequests = refused
unopened_number unopened.TooManyNames = too_many_names
unopened_number unopened.NoMemory = no_memory

-- ---- the lines
abbrev pub refused_line : LineRefusal → List ℕ
refused_line rule.ManyLines = ended (codes "more than one line")
refused_line rule.TooLong = ended (codes "a line too long")
refused_line rule.UnknownHandler = ended (codes "unknown handler")
refused_line rule.Arity = ended (codes "wrong number of arguments")
refused_line rule.BadWord = ended (codes "a word that is no value")

abbrev pub answered_line : Answered → List ℕ
answered_line answered.Served = []
answered_line answered.Nothing = []
answered_line (answered.Refused why) = refused_line why
answered_line answered.TooManyNames = ended (codes "too many names")
answered_line (answered.Delayed u) = ended (codes "delayed")
answered_line answered.NoNumber = ended (codes "no number left")
answered_line answered.NoMemory = ended (codes "no memory")

-- there is none where all lines are used, nor where room is wanting
abbrev pub ended_line : Ended → List ℕ
ended_line batch.All = []
ended_line batch.Full = []
ended_line (batch.Stopped a) = answered_line a

abbrev pub unopened_line : OpenError → List ℕ
unopened_line (unopened.Refused fault) = message_of (status.Refused fault)
unopened_line unopened.HasRequests = message_of (status.Refused HasRequests)
unopened_line unopened.TooManyNames = ended (codes "too many names")
unopened_line unopened.NoMemory = message_of status.NoMemory
