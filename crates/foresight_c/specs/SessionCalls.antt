-- What the calls over a handle of a session do.
use Rattle.std.specs.Prelude.{◌≡◌, ℕ, ◌⊎◌, List, [], Option, Some, None}
use Rattle.live_session.specs.declared.opening.OpenError.{OpenError}
use Rattle.foresight_c.specs.declared.answer.Answer.{Answer}
use Rattle.foresight_c.specs.declared.desk.Desk.{Desk}
use Rattle.foresight_c.specs.declared.desk.Desk.TheVariants.{Tables, Session}
use Rattle.foresight_c.specs.declared.served.Served.{Served}
use Rattle.foresight_c.specs.declared.session_desk.SessionDesk.{SessionDesk}
use Rattle.foresight_c.specs.Numbers.{fine, wrong}
use Rattle.foresight_c.specs.SessionMessages.{unopened_line, unopened_number}
use Rattle.foresight_c.specs.Sessions.{HasMessage, HasOpenedDesk, IsDumped, IsTold, IsUnopenedDesk, IsWrong, ServeAt}

-- nothing is told but a message of so many bytes
pub record IsSilent (a : Answer) : Type 0 where
  pub written : a.written ≡ 0
  pub needed : a.needed ≡ 0

-- a handle of nothing has a session, or none, and the message says why; a handle of something keeps
-- it
abbrev pub OpensOn : Option Desk → Option Desk → List ℕ → ℕ → ℕ → List ℕ → List ℕ → Answer → ℕ
    → Type 0
OpensOn (Some d) e text seed most message message_new a n =
    (e ≡ Some d) × (n ≡ wrong) × (message_new ≡ message) × IsSilent a × (a.told ≡ 0)
OpensOn None e text seed most message message_new a n = IsSilent a
    × (((d : Desk) × (e ≡ Some d) × HasOpenedDesk text seed most d × (n ≡ fine)
    × (message_new ≡ message) × (a.told ≡ 0))
    ⊎ ((why : OpenError) × (e ≡ None) × IsUnopenedDesk text most why × (n ≡ unopened_number why)
    × HasMessage message message_new (unopened_line why) a.told))

-- lines at a desk: its session serves them; tables alone serve none
abbrev pub ServeOn : Desk → Desk → List ℕ → List ℕ → List ℕ → List ℕ → List ℕ → Served → ℕ
    → Type 0
ServeOn (Session d) e lines out out_new message message_new s n =
    (x : SessionDesk) × (e ≡ Session x) × ServeAt d x lines out out_new message message_new s n
ServeOn (Tables d) e lines out out_new message message_new s n =
    (e ≡ Tables d) × (out_new ≡ out) × IsTold message message_new s wrong [] n

-- lines over a handle
abbrev pub ServesOn : Option Desk → Option Desk → List ℕ → List ℕ → List ℕ → List ℕ → List ℕ
    → Served → ℕ → Type 0
ServesOn (Some d) e lines out out_new message message_new s n =
    (x : Desk) × (e ≡ Some x) × ServeOn d x lines out out_new message message_new s n
ServesOn None e lines out out_new message message_new s n =
    (e ≡ None) × (out_new ≡ out) × IsTold message message_new s wrong [] n

-- the tables of a desk's session
abbrev pub DumpOn : Desk → List ℕ → List ℕ → List ℕ → List ℕ → Answer → ℕ → Type 0
DumpOn (Session d) out out_new message message_new a n =
    IsDumped d.session out out_new message message_new a n
DumpOn (Tables d) out out_new message message_new a n =
    IsWrong out out_new message message_new a n

-- the tables over a handle, which keeps its session
abbrev pub DumpsOn : Option Desk → Option Desk → List ℕ → List ℕ → List ℕ → List ℕ → Answer → ℕ
    → Type 0
DumpsOn (Some d) e out out_new message message_new a n =
    (e ≡ Some d) × DumpOn d out out_new message message_new a n
DumpsOn None e out out_new message message_new a n =
    (e ≡ None) × IsWrong out out_new message message_new a n
