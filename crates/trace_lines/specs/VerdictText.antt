-- The line of a verdict.
use Rattle.std.specs.Prelude.{ℕ, List, ◌++◌, codes, decimal, length, slice_index}
use Rattle.session_journal.specs.Traces.{TraceView}
use Rattle.session_journal.specs.declared.verdict.Verdict.{Verdict}
use Rattle.session_journal.specs.declared.verdict.Verdict.TheVariants.{Accepted as IsFine, Event as AtEvent, Ticket as AtTicket}

-- the number of the events
abbrev pub accepted : ℕ → List ℕ
accepted events = codes "accepted " ++ decimal events ++ codes "\n"

-- the rule that is broken, and where: a line of the file, or a ticket
abbrev pub rejected : ℕ → List ℕ → ℕ → List ℕ
rejected rule place n =
    codes "rejected V" ++ decimal rule ++ place ++ decimal n ++ codes "\n"

-- accepted, with the number of the events; or the first fault: the rule, and the line that the
-- event at its place was read from, or the ticket
abbrev pub verdict_text : TraceView → Verdict → List ℕ
verdict_text trace IsFine = accepted (length trace.events)
verdict_text trace (AtEvent rule at) = rejected rule (codes " line ") (slice_index trace.lines at)
verdict_text trace (AtTicket rule ticket) = rejected rule (codes " ticket ") ticket
