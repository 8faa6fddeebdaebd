-- A ticket served from its beginning to its end, or until memory is wanted.
use Rattle.std.specs.Prelude.{◌≡◌, None, true, false}
use Rattle.session_values.specs.declared.op.Op.{Op}
use Rattle.session_values.specs.declared.reply.Reply.{Reply}
use Rattle.session_values.specs.Dialogue.{Answers, Calls, Follows, replies}
use Rattle.session_journal.specs.Desks.{DeskView}
use Rattle.session_journal.specs.Script.{Meaning}

-- the entries are the calls of the ticket's dialogue with the replies that the desk gave, then it
-- answers, and the desk has ended; it is the same ticket at the same place
pub record IsServed (m : Meaning) (start now : DeskView) : Type 0 where
  pub follows : Follows (m.next start.ticket) now.entries
  pub answer : Reply
  pub answers : m.next start.ticket (replies now.entries) ≡ Answers answer
  pub ended : now.ended ≡ true
  pub ticket_is : now.ticket ≡ start.ticket
  pub home_is : now.home ≡ start.home
  pub sure_is : now.sure ≡ start.sure

-- A call wanted memory, and the desk stands as that call left it: the entries are calls of the
-- ticket's dialogue with the replies that the desk gave, the next thing that it does is a call,
-- none waits, what is present is the last declaration before that call, and the ticket hasn't
-- ended. It is the same ticket at the same place, and the desk isn't sure.
pub record IsStopped (m : Meaning) (start now : DeskView) : Type 0 where
  pub follows : Follows (m.next start.ticket) now.entries
  pub wanted : Op
  pub calls : m.next start.ticket (replies now.entries) ≡ Calls wanted
  pub due : now.present ≡ m.due start.ticket (replies now.entries)
  pub idle : now.waiting ≡ None
  pub going : now.ended ≡ false
  pub ticket_is : now.ticket ≡ start.ticket
  pub home_is : now.home ≡ start.home
  pub sure_is : now.sure ≡ start.sure
  pub unsure : start.sure ≡ false
