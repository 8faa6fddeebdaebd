-- What is answered to a command line and an input.
use Rattle.std.specs.Prelude.{◌≡◌, ◌≢◌, ℕ, ◌⊎◌, true, false, IsUtf8, List, [], length, Option, Some, None}
use Rattle.session_journal.specs.Symbol.{Symbol}
use Rattle.handler_syntax.specs.Language.{names_of, File, HasFault, IsSourceOf, SyntaxRefusal, canonical_text, shown_text}
use Rattle.handler_syntax.specs.Language.syntax_refusal
use Rattle.handler_check.specs.declared.refusal.CheckRefusal.{CheckRefusal}
use Rattle.handler_check.specs.Checking.{IsAccepted, IsRefusal}
use Rattle.declaration_insertion.specs.Shown.{shown_of as points_shown}
use Rattle.may_use_analysis.specs.declared.refusal.AnalysisRefusal.{AnalysisRefusal}
use Rattle.may_use_analysis.specs.Later.{IsTooMany}
use Rattle.range_tables.specs.Faults.{text_fault}
use Rattle.range_tables.specs.Session.{IsRangesText}
use Rattle.request_files.specs.declared.refusal.RequestRefusal.{RequestRefusal}
use Rattle.serve_words.specs.declared.command.Command.{Command}
use Rattle.serve_words.specs.declared.command.Command.TheVariants.{Check, Show, Serve, Dump, Work, Ranges, Trace, Audit, Clients}
use Rattle.serve_words.specs.Commands.{command_of}
use Rattle.serve_words.specs.Summary.{summary}
use Rattle.serve_faults.specs.declared.status.Fault.{Fault}
use Rattle.serve_faults.specs.declared.status.Fault.TheVariants as fault
use Rattle.serve_faults.specs.Commands.{fixes_text, input_of, has_requests, has_handlers, is_judging}
use Rattle.serve_faults.specs.Audited.{HasTraceFault, IsAudited}
use Rattle.serve_faults.specs.Clients.{IsClientsText}
use Rattle.serve_faults.specs.Input.{Parts, parts_in, parts_of, parts_fault, handlers_of, IsInput, IsShort, IsTooLarge}
use Rattle.serve_faults.specs.Session.{IsProgram, IsSession, table_fault, request_fault, session_of_parts, replies_text, tables_text, serial_calls}
use Rattle.serve_faults.specs.Traced.{IsTraced}
use Rattle.table_lines.specs.declared.refusal.TableRefusal.{TableRefusal}

-- ---- faults

-- The handlers' text has this first fault. Want of memory is no fault.
pub record HasSyntaxFault (text : List ℕ) (e : SyntaxRefusal) : Type 0 where
  pub first : HasFault [] text e
  pub certain : e ≢ syntax_refusal.NoMemory

-- the handlers' text has a tree, which breaks this rule first
pub record HasCheckFault (text : List ℕ) (e : CheckRefusal) : Type 0 where
  pub file : File
  pub form : IsSourceOf [] text file
  pub first : IsRefusal file e

-- the handlers' text has a tree, which breaks no rule, and this is the first point at which too
-- many operations may still come
pub record HasAnalysisFault (text : List ℕ) (e : AnalysisRefusal) : Type 0 where
  pub file : File
  pub form : IsSourceOf [] text file
  pub accepted : IsAccepted file
  pub first : IsTooMany file e

-- the handlers break no rule, and this is the first fault of the table part
pub record HasTableFault (parts : Parts) (e : TableRefusal) : Type 0 where
  pub file : File
  pub program : IsProgram parts.handlers file
  pub first : table_fault parts file ≡ Some e

-- neither the handlers nor the table part break a rule, and this is the first fault of the requests
pub record HasRequestFault (parts : Parts) (e : RequestRefusal) : Type 0 where
  pub file : File
  pub program : IsProgram parts.handlers file
  pub tables : table_fault parts file ≡ None
  pub first : request_fault parts file ≡ Some e

-- the first broken rule of an input, in the order too large, no text, no dividing line or a mark,
-- no trace part, too many clients, syntax, check, analysis, tables, requests, events, or, of a range
-- session, its lines
abbrev pub IsRefused : Command → List ℕ → Fault → Type 0
IsRefused command input fault.TooLarge = IsTooLarge command input
IsRefused command input fault.NotText = IsShort command input × (IsUtf8 input → ⊥)
IsRefused command input fault.NoRequests = IsShort command input × IsUtf8 input
    × (parts_fault command input ≡ Some fault.NoRequests)
IsRefused command input fault.HasRequests = IsShort command input × IsUtf8 input
    × (parts_fault command input ≡ Some fault.HasRequests)
IsRefused command input fault.NoTrace = IsShort command input × IsUtf8 input
    × (parts_fault command input ≡ Some fault.NoTrace)
IsRefused command input fault.TooManyClients = IsShort command input × IsUtf8 input
    × (parts_fault command input ≡ Some fault.TooManyClients)
IsRefused command input (fault.Syntax e) = IsInput command input
    × HasSyntaxFault (handlers_of command input) e × (has_handlers command ≡ true)
IsRefused command input (fault.Check e) = IsInput command input
    × HasCheckFault (handlers_of command input) e × (has_handlers command ≡ true)
IsRefused command input (fault.Analysis e) = IsInput command input
    × HasAnalysisFault (handlers_of command input) e × (has_handlers command ≡ true)
IsRefused command input (fault.Tables e) = IsInput command input × (has_requests command ≡ true)
    × HasTableFault (parts_in command input) e
IsRefused command input (fault.Request e) = IsInput command input × (has_requests command ≡ true)
    × HasRequestFault (parts_in command input) e
IsRefused command input (fault.Trace e) = IsInput command input × (is_judging command ≡ true)
    × HasTraceFault input e
IsRefused command input (fault.Ranges e) = IsInput command input × (has_handlers command ≡ false)
    × (text_fault input ≡ Some e)

-- ---- texts

-- the canonical text of the handlers
pub record IsChecked (input text : List ℕ) : Type 0 where
  pub file : File
  pub program : IsProgram input file
  pub text_is : text ≡ canonical_text (names_of [] input) file

abbrev pub shown_of : List ℕ → File → List (List (List Symbol)) → List ℕ
shown_of input file lists = shown_text (names_of [] input)
    (points_shown (record { file = file; lists = lists })) file

-- the text with what is declared at each point, which is the list of the operations that may still
-- come there
pub record IsShown (input text : List ℕ) : Type 0 where
  pub file : File
  pub program : IsProgram input file
  pub text_is : text ≡ shown_of input file program.lists

-- the replies of the serial run, as text
abbrev pub served_text : List ℕ → File → List ℕ
served_text input file = replies_text (parts_of input) file

-- the text of the replies
pub record IsServed (input text : List ℕ) : Type 0 where
  pub file : File
  pub is_session : IsSession (parts_of input) file
  pub text_is : text ≡ served_text input file

-- the final tables of the serial run, as text
abbrev pub dumped_text : List ℕ → File → List ℕ
dumped_text input file = tables_text (parts_of input) file

-- the text of the final tables
pub record IsDumped (input text : List ℕ) : Type 0 where
  pub file : File
  pub is_session : IsSession (parts_of input) file
  pub text_is : text ≡ dumped_text input file

-- the summary of a session of so many requests: how many operations the serial run makes, and how
-- many bytes its replies take
abbrev pub summary_of : ℕ → List ℕ → File → List ℕ
summary_of requests input file =
    summary requests (serial_calls (session_of_parts (parts_of input) file)
    (session_of_parts (parts_of input) file).requests)
    (length (replies_text (parts_of input) file))

pub record IsSummary (requests : ℕ) (input text : List ℕ) : Type 0 where
  pub file : File
  pub is_session : IsSession (parts_of input) file
  pub text_is : text ≡ summary_of requests input file

-- the text that a command writes
abbrev pub IsTextOf : Command → List ℕ → List ℕ → Type 0
IsTextOf Check input text = IsChecked input text
IsTextOf Show input text = IsShown input text
IsTextOf (Serve callers shards) input text = IsServed input text
IsTextOf (Dump callers shards) input text = IsDumped input text
IsTextOf (Work requests start) input text = IsSummary requests input text
IsTextOf Ranges input text = IsRangesText input text
IsTextOf (Trace callers shards) input text = IsTraced input text
IsTextOf Audit input text = IsAudited input text
IsTextOf (Clients callers shards) input text = IsClientsText input text

-- ---- the answer

-- an answer: usage, a refusal for a fault, or a text
pub data Answer : Type 0 where
  Usage : Answer
  Refused : Fault → Answer
  Text : List ℕ → Answer

-- the answer is a text
abbrev pub IsText : Answer → Type 0
IsText Usage = ⊥
IsText (Refused e) = ⊥
IsText (Text text) = Unit {0}

-- the words are a command whose text the input doesn't fix
abbrev pub IsUnfixed : Option Command → Type 0
IsUnfixed None = ⊥
IsUnfixed (Some command) = fixes_text command ≡ false

-- what a command answers to its input
abbrev pub Answers : Command → List ℕ → Answer → Type 0
Answers command input Usage = ⊥
Answers command input (Refused e) = IsRefused command input e
Answers command input (Text text) = IsInput command input × IsTextOf command input text

-- what is answered where this is the command, if the words are one, and the source has these bytes
abbrev pub CommandAnswers : Option Command → List ℕ → Answer → Type 0
CommandAnswers None bytes Usage = Unit {0}
CommandAnswers None bytes (Refused e) = ⊥
CommandAnswers None bytes (Text text) = ⊥
CommandAnswers (Some command) bytes answer = Answers command (input_of command bytes) answer

-- what is answered to a command line of these words, where the source has these bytes
abbrev pub IsAnswer : List (List ℕ) → List ℕ → Answer → Type 0
IsAnswer words bytes answer = CommandAnswers (command_of words) bytes answer

-- no rule is broken
abbrev pub IsUnrefused : Option Command → List ℕ → Type 0
IsUnrefused command bytes = (fault : Fault) → CommandAnswers command bytes (Refused fault) → ⊥

-- two answers are one, or two texts of a command whose text the input doesn't fix
abbrev pub AreOne : List (List ℕ) → Answer → Answer → Type 0
AreOne words a b = (a ≡ b) ⊎ (IsUnfixed (command_of words) × IsText a × IsText b)
