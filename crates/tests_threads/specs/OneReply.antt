-- A script of one ticket that answers nil.
use Rattle.std.specs.Prelude.{List, [], ◌∷◌}
use Rattle.session_values.specs.declared.value.Value.TheVariants.{Nil}
use Rattle.session_values.specs.declared.reply.Reply.{Reply}
use Rattle.session_journal.specs.Lists.{Ticket, answers_only}

abbrev pub nil_reply : Reply
nil_reply = record { count = 1; a = Nil; b = Nil; c = Nil; d = Nil }

-- its ticket, and its replies
abbrev pub one_ticket : List Ticket
one_ticket = answers_only nil_reply ∷ []

abbrev pub one_reply : List Reply
one_reply = nil_reply ∷ []
