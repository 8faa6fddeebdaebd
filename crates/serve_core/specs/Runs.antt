-- What a run promises, over its command, its input, its outputs, how it ended and the hall that it
-- leaves.
use Rattle.std.specs.Prelude.{◌≡◌, ℕ, Bool, ◌&&◌, true, false, is_some, List, length, sum, Option, Some, None, IfSome}
use Rattle.serve_words.specs.declared.command.Command.{Command}
use Rattle.reply_sheet.specs.declared.arrival.Arrival.{Arrival}
use Rattle.reply_sheet.specs.Arrivals.{IsDrawn}
use Rattle.client_feed.specs.Rounds.{AreRounds, last_hall}
use Rattle.session_journal.specs.Symbol.{Symbol}
use Rattle.session_journal.specs.declared.event.Event.{Event}
use Rattle.session_journal.specs.Script.{Meaning, session_of}
use Rattle.session_hall.specs.Closings.{ClosedView, IsDone}
use Rattle.serve_faults.specs.Language.{File}
use Rattle.handler_machine.specs.Scripts.{meaning}
use Rattle.serve_faults.specs.declared.status.Status.{Status}
use Rattle.serve_faults.specs.declared.status.Status.TheVariants as status
use Rattle.serve_faults.specs.Clients.{client_counts}
use Rattle.byte_ends.specs.Changes.{Change, WroteAll, WrotePrefix}
use Rattle.serve_faults.specs.Commands.{callers_of, input_of, shards_of}
use Rattle.serve_faults.specs.Input.{Parts, client_parts, parts_of}
use Rattle.serve_faults.specs.Session.{IsSession, opened_of, requests_of, session_of_parts}
use Rattle.serve_faults.specs.Traced.{traced_text}
use Rattle.serve_single.specs.Runs.{AnswersSingle, RunsSingle, Told}
use Rattle.serve_core.specs.Commands.{has_begun_writing, has_served, has_ticket, is_gathering, opens_always, writes_events}
use Rattle.serve_core.specs.Replied.{text_of_arrivals}

-- ---- the hall through which was served

-- what a file means with these lists, its table part and its part of requests, as a script: the
-- entries with which the tables open, each request's dialogue and bounds, and what it declares at
-- each point
abbrev pub script_of_session : Parts → File → List (List (List Symbol)) → Meaning
script_of_session parts file lists = meaning (record {
  program = record { file = file; lists = lists };
  opening = opened_of parts file;
  requests = requests_of parts file;
})

-- The session of the input was served through this hall to its end, with the declarations that its
-- points have: the journal is that of a lawful book in which all tickets have ended, the replies
-- are those of the serial run, and the shards are the parts of its final tables. There were as many
-- callers and shards as the command's words say.
pub record IsServedThrough (command : Command) (input : List ℕ) (closed : ClosedView) : Type 0 where
  pub file : File
  pub is_session : IsSession (parts_of input) file
  pub script : Meaning
  pub script_is : script
      ≡ script_of_session (parts_of input) file is_session.program.lists
  pub session_is : session_of script ≡ session_of_parts (parts_of input) file
  pub done : IsDone script closed
  pub callers_are : closed.callers ≡ callers_of command
  pub shards_are : closed.shards ≡ shards_of command

-- The requests of the input's clients arrived in this order, all of them and each client's in its
-- own, and were served so, in rounds, each through a hall over the tables that the rounds before
-- left. This is the last one's. Where the run ended well, it wrote the replies that they have in this
-- order; where the sink failed, a front of them.
pub record IsServedInRounds {O : Type 0} (command : Command) (input : List ℕ) (out : Change O)
    (s : Status) (closed : ClosedView) : Type 0 where
  pub file : File
  pub is_session : IsSession (client_parts input) file
  pub got : List Arrival
  pub drawn : IsDrawn (client_counts input) got
  pub all : length got ≡ sum (client_counts input)
  pub halls : List ClosedView
  pub rounds : AreRounds (record { file = file; lists = is_session.program.lists })
      (opened_of (client_parts input) file) (record {
        requests = requests_of (client_parts input) file;
        counts = client_counts input;
      }) got (callers_of command) (shards_of command) halls
  pub last : Some closed ≡ last_hall halls
  pub took : s ≡ status.Fine → WroteAll out (text_of_arrivals input file got)
  pub front : s ≡ status.WriteFault → WrotePrefix out (text_of_arrivals input file got)

-- what a hall that is left holds, by whether several clients were served in rounds
abbrev pub IsLeftBy : {O : Type 0} → Bool → Command → List ℕ → Change O → Status → ClosedView
    → Type 0
IsLeftBy true command input out s d = IsServedInRounds command input out s d
IsLeftBy false command input out s d = IsServedThrough command input d

abbrev pub IsLeft : {O : Type 0} → Command → List ℕ → Change O → Status → ClosedView → Type 0
IsLeft command input out s d = IsLeftBy (is_gathering command) command input out s d

-- so it is with the hall that a run leaves, if it leaves one
abbrev pub Holds : {O : Type 0} → Option Command → List ℕ → Change O → Status
    → Option ClosedView → Type 0
Holds None bytes out s closed = Unit {0}
Holds (Some command) bytes out s closed =
    IfSome closed (IsLeft command (input_of command bytes) out s)

-- a hall is left exactly where there was something to serve and the run came to its output
abbrev pub Opens : Option Command → List ℕ → Status → Option ClosedView → Type 0
Opens None bytes s closed = closed ≡ None
Opens (Some command) bytes s closed = is_some closed
    ≡ (has_ticket command (input_of command bytes) && has_served (Some command) s)

-- these events were written, with the names of the input's session, or a front of them where the sink
-- failed
pub record WroteEvents {O : Type 0} (input : List ℕ) (out : Change O) (s : Status)
    (events : List Event) : Type 0 where
  pub file : File
  pub is_session : IsSession (parts_of input) file
  pub took : s ≡ status.Fine → WroteAll out (traced_text (parts_of input) file events)
  pub front : s ≡ status.WriteFault → WrotePrefix out (traced_text (parts_of input) file events)

-- where a command writes the events of its run, they are those of the hall's journal
abbrev pub WroteJournal : {O : Type 0} → Option Command → List ℕ → Change O → Status
    → Option ClosedView → Type 0
WroteJournal None bytes out s closed = Unit {0}
WroteJournal (Some command) bytes out s closed = writes_events command ≡ true
    → has_begun_writing s ≡ true
    → IfSome closed (λ (d : ClosedView). WroteEvents (input_of command bytes) out s d.journal)

-- ---- what is promised

-- what a command answers to an input, and with which hall
pub record AnswersTo {O : Type 0} (command : Command) (bytes : List ℕ) (out : Change O) (s : Status)
    (closed : Option ClosedView) : Type 0 where
  pub single : AnswersSingle command bytes out s
  pub served : Opens (Some command) bytes s closed
  pub hall : Holds (Some command) bytes out s closed
  pub traced : WroteJournal (Some command) bytes out s closed

-- A run of a command, or of no command where the words are none.
pub record Runs {I O : Type 0} (command : Option Command) (source : Change I) (out : Change O)
    (s : Status) (closed : Option ClosedView) : Type 0 where
  -- All that is promised of any run, with a hall or without. Its clauses are `usage`, `unread` and
  -- `made`; `answered`, `refusing` and `complete`; `read_fault`, `read_well` and `written`; `end`,
  -- `gone` and `lost`.
  pub single : RunsSingle command source out s
  -- `serve`, `dump`, `work` and `trace` leave a closed hall exactly where they end well or the sink
  -- fails, and `clients` does so where there is a request.
  pub served : opens_always command ≡ true → is_some closed ≡ has_served command s
  pub ticketed : Told command source (λ bytes. Opens command bytes s closed)
  -- Through it the session was served, or the last round of it.
  pub hall : Told command source (λ bytes. Holds command bytes out s closed)
  -- What `trace` writes are the events of the journal of that hall.
  pub traced : Told command source (λ bytes. WroteJournal command bytes out s closed)
