-- What the calls of a session do at its desk, and what a caller gets of them.
use Rattle.std.specs.Prelude.{◌≡◌, IsUtf8, ℕ, ◌≤◌, ◌⊎◌, min, List, [], codes, length}
use Rattle.serve_faults.specs.Message.{ended}
use Rattle.serve_faults.specs.declared.status.Status.{Status}
use Rattle.serve_faults.specs.declared.status.Status.TheVariants as status
use Rattle.live_session.specs.Batches.{BatchAnswered}
use Rattle.live_session.specs.Live.{LiveView, dump_of}
use Rattle.live_session.specs.Openings.{HasOpened, IsUnopened}
use Rattle.live_session.specs.declared.batch.Batch.{Batch}
use Rattle.live_session.specs.declared.dumping.Dumped.{Dumped}
use Rattle.live_session.specs.declared.dumping.Dumped.TheVariants as dumped
use Rattle.live_session.specs.declared.opening.OpenError.{OpenError}
use Rattle.foresight_c.specs.declared.desk.Desk.{Desk}
use Rattle.foresight_c.specs.declared.desk.Desk.TheVariants.{Tables, Session}
use Rattle.foresight_c.specs.declared.session_desk.SessionDesk.{SessionDesk}
use Rattle.foresight_c.specs.Answered.{IsHandedOver}
use Rattle.foresight_c.specs.Endings.{ending}
use Rattle.foresight_c.specs.Fronts.{put_at_front}
use Rattle.foresight_c.specs.Numbers.{not_text, wrong}
use Rattle.foresight_c.specs.SessionMessages.{ended_line, ended_number, ended_older}
use Rattle.foresight_c.specs.declared.answer.Answer.{Answer}
use Rattle.foresight_c.specs.declared.served.Served.{Served}

-- a session may have no more names than this
abbrev pub names_bound : ℕ → ℕ
names_bound most = min most 4000000000

-- the desk has a session that was opened over the text, with searches by the seed
abbrev pub HasOpenedDesk : List ℕ → ℕ → ℕ → Desk → Type 0
HasOpenedDesk text seed most (Session d) = HasOpened text seed (names_bound most) d.session
HasOpenedDesk text seed most (Tables d) = ⊥

-- the same of what a box has
abbrev pub HasOpenedIn : List ℕ → ℕ → ℕ → Desk → Type 0
HasOpenedIn text seed most value = (d : Desk) × (value ≡ d) × HasOpenedDesk text seed most d

abbrev pub IsUnopenedDesk : List ℕ → ℕ → OpenError → Type 0
IsUnopenedDesk text most why = IsUnopened text (names_bound most) why

-- a line at the front of the room for the message, and how many bytes of it
pub record HasMessage (message message_new line : List ℕ) (told : ℕ) : Type 0 where
  pub message_is : message_new ≡ put_at_front message line
  pub told_is : told ≡ min (length message) (length line)

-- nothing was served, and this is why
pub record IsTold (message message_new : List ℕ) (s : Served) (why : ℕ) (line : List ℕ)
    (number : ℕ) : Type 0 where
  pub used : s.used ≡ 0
  pub written : s.written ≡ 0
  pub requests : s.requests ≡ 0
  pub older : s.older ≡ 0
  pub message_has : HasMessage message message_new line s.told
  pub number_is : number ≡ why

-- lines were served by a session, as many as the batch says; their replies, all of them, stand at
-- the front of their room, and the line of how it ended at the front of its own
pub record IsServing (d e : SessionDesk) (lines out out_new message message_new : List ℕ)
    (s : Served) (number : ℕ) : Type 0 where
  pub batch : Batch
  pub replies : List ℕ
  pub answered : BatchAnswered d.session lines (length out) [] batch e.session replies
  pub whole : length replies ≤ length out
  pub used : s.used ≡ batch.used
  pub requests : s.requests ≡ batch.requests
  pub older : s.older ≡ ended_older batch.ended
  pub out_is : out_new ≡ put_at_front out replies
  pub written : s.written ≡ length replies
  pub message_has : HasMessage message message_new (ended_line batch.ended) s.told
  pub number_is : number ≡ ended_number batch.ended

-- lines at a session's desk: bytes that are UTF-8 are served, and others aren't read
abbrev pub ServeAt : SessionDesk → SessionDesk → List ℕ → List ℕ → List ℕ → List ℕ → List ℕ → Served
    → ℕ → Type 0
ServeAt d e lines out out_new message message_new s n =
    (IsUtf8 lines × IsServing d e lines out out_new message message_new s n)
    ⊎ ((IsUtf8 lines → ⊥) × (e ≡ d) × (out_new ≡ out)
    × IsTold message message_new s not_text (ended (codes "not text")) n)

-- the tables of a session are handed over as their text, or memory ran out
abbrev pub IsDumped : LiveView → List ℕ → List ℕ → List ℕ → List ℕ → Answer → ℕ → Type 0
IsDumped v out out_new message message_new a n =
    IsHandedOver (ending status.Fine (length (dump_of v)) (length out)) (dump_of v) out out_new
    message message_new a n
    ⊎ IsHandedOver status.NoMemory [] out out_new message message_new a n

-- the status of a dump to a store in memory that ended so
abbrev pub dump_status : Dumped → Status
dump_status dumped.Written = status.Fine
dump_status dumped.Failed = status.NoMemory
dump_status dumped.NoMemory = status.NoMemory

-- nothing was handed over, since the handle has no session
pub record IsWrong (out out_new message message_new : List ℕ) (a : Answer) (number : ℕ)
    : Type 0 where
  pub out_still : out_new ≡ out
  pub message_still : message_new ≡ message
  pub written : a.written ≡ 0
  pub needed : a.needed ≡ 0
  pub told : a.told ≡ 0
  pub number_is : number ≡ wrong
