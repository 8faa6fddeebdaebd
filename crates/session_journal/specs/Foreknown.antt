-- What is known of a ticket while older ones still run.
use Rattle.std.specs.Prelude.{◌≡◌, ℕ, List, ◌++◌, Some}
use Rattle.session_values.specs.declared.reply.Reply.{Reply}
use Rattle.session_values.specs.Dialogue.{Entry}
use Rattle.session_values.specs.Serial.{serial}
use Rattle.session_journal.specs.declared.event.Event.{Event}
use Rattle.session_journal.specs.Journal.{entries, ended}
use Rattle.session_journal.specs.Script.{Meaning, session_of}

-- the list begins so
pub record IsPrefixOf (es fs : List Entry) : Type 0 where
  pub back : List Entry
  pub is : es ++ back ≡ fs

-- the entries of a ticket are the first ones that it has when the tickets are served one at a time,
-- and where it has ended, its Reply is the one that it has then
pub record Foreknown (m : Meaning) (J : List Event) (t : ℕ) : Type 0 where
  pub entries : IsPrefixOf (entries J t) (serial (session_of m) t).entries
  pub answer : (r : Reply) → ended J t ≡ Some r → (serial (session_of m) t).answer ≡ Some r
