-- What the calls of names do at a session's desk, and what a caller gets of them.
use Rattle.std.specs.Prelude.{◌≡◌, IsUtf8, ℕ, ◌⊎◌, List, Option, Some, None, length, slice_get}
use Rattle.std.specs.declared.result.Result.{Result}
use Rattle.std.specs.declared.result.Result.TheVariants.{Ok, Err}
use Rattle.live_session.specs.Naming.{NamedAs}
use Rattle.live_session.specs.declared.answers.NameError.{NameError}
use Rattle.live_session.specs.declared.answers.NameError.TheVariants as unnamed
use Rattle.foresight_c.specs.declared.desk.Desk.{Desk}
use Rattle.foresight_c.specs.declared.desk.Desk.TheVariants.{Tables, Session}
use Rattle.foresight_c.specs.declared.session_desk.SessionDesk.{SessionDesk}
use Rattle.foresight_c.specs.Fronts.{put_at_front}
use Rattle.foresight_c.specs.Numbers.{fine, no_memory, not_text, refused, too_many_names, unread, wrong}
use Rattle.foresight_c.specs.Tickets.{KeepsReplies}

-- why a text has no number
abbrev pub unnamed_number : NameError → ℕ
unnamed_number unnamed.NoSymbol = refused
unnamed_number unnamed.TooManyNames = too_many_names
unnamed_number unnamed.NoMemory = no_memory

-- the number of a name is told where there is one
abbrev pub NameTold : Result ℕ NameError → ℕ → ℕ → ℕ → Type 0
NameTold (Ok place) was out n = (out ≡ place) × (n ≡ fine)
NameTold (Err why) was out n = (out ≡ was) × (n ≡ unnamed_number why)

-- ---- at a session's desk
abbrev pub NameAt : SessionDesk → SessionDesk → List ℕ → ℕ → ℕ → ℕ → Type 0
NameAt d e text was out n =
    ((IsUtf8 text → ⊥) × (e ≡ d) × (out ≡ was) × (n ≡ not_text))
    ⊎ (IsUtf8 text × ((r : Result ℕ NameError) × NamedAs d.session e.session text r
    × KeepsReplies d e × NameTold r was out n))

-- the text of a name's number stands at the front of a room, as much of it as the room takes, and
-- its length is told; where there is no such name, nothing is
abbrev pub TextAt : SessionDesk → ℕ → List ℕ → List ℕ → ℕ → ℕ → ℕ → Type 0
TextAt d number out out_new was size n =
    ((slice_get d.session.names number ≡ None) × (out_new ≡ out) × (size ≡ was) × (n ≡ unread))
    ⊎ ((text : List ℕ) × (slice_get d.session.names number ≡ Some text)
    × (out_new ≡ put_at_front out text) × (size ≡ length text) × (n ≡ fine))

-- ---- at a desk: tables alone have no names
abbrev pub NameOn : Desk → Desk → List ℕ → ℕ → ℕ → ℕ → Type 0
NameOn (Session d) e text was out n =
    (x : SessionDesk) × (e ≡ Session x) × NameAt d x text was out n
NameOn (Tables d) e text was out n = (e ≡ Tables d) × (out ≡ was) × (n ≡ wrong)

abbrev pub TextOn : Desk → ℕ → List ℕ → List ℕ → ℕ → ℕ → ℕ → Type 0
TextOn (Session d) number out out_new was size n = TextAt d number out out_new was size n
TextOn (Tables d) number out out_new was size n =
    (out_new ≡ out) × (size ≡ was) × (n ≡ wrong)

-- ---- over a handle, which keeps its desk
abbrev pub OnText : Option Desk → Option Desk → ℕ → List ℕ → List ℕ → ℕ → ℕ → ℕ → Type 0
OnText None e number out out_new was size n =
    (e ≡ None) × (n ≡ wrong) × (out_new ≡ out) × (size ≡ was)
OnText (Some d) e number out out_new was size n =
    (e ≡ Some d) × TextOn d number out out_new was size n
