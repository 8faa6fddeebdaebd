-- What opening a session answers.
use Rattle.std.specs.Prelude.{◌≡◌, ◌≢◌, ℕ, ◌<◌, ◌≤◌, List, [], length, map}
use Rattle.session_values.specs.Limits.{max_input}
use Rattle.session_values.specs.Opening.{IsOpening, tables_of}
use Rattle.session_values.specs.Tables.{Container, Tables}
use Rattle.shard_tables.specs.Slots.{factor_of}
use Rattle.handler_check.specs.Checking.{IsAccepted}
use Rattle.handler_check.specs.Resolved.{shape_of}
use Rattle.serve_faults.specs.Language.{IsNamedFile}
use Rattle.handler_check.specs.File.{File}
use Rattle.text_lines.specs.Text.{Text}
use Rattle.request_files.specs.Requests.{AreKnown}
use Rattle.serve_faults.specs.TableRows.{ArePrintable}
use Rattle.serve_faults.specs.Input.{parts_of}
use Rattle.syntax_trees.specs.Mentions.{AreBelow, file_mentions}
use Rattle.serve_faults.specs.Session.{IsSession, all_names_of, handler_names_of, opened_of}
use Rattle.serve_faults.specs.Session.{opening_names_of}
use Rattle.serve_faults.specs.Session.{rows_of}
use Rattle.serve_faults.specs.declared.status.Fault.TheVariants.{TooLarge}
use Rattle.serve_reading.specs.declared.session.Loaded.{Loaded}
use Rattle.serve_reading.specs.declared.load_error.LoadError.{LoadError}
use Rattle.serve_reading.specs.declared.load_error.LoadError.TheVariants as load_error
use Rattle.serve_reading.specs.Reasons.{IsInputReason}
use Rattle.serve_reading.specs.Sessions.{IsSessionInput}
use Rattle.live_session.specs.declared.opening.OpenError.{OpenError}
use Rattle.live_session.specs.declared.opening.OpenError.TheVariants as unopened
use Rattle.live_session.specs.Live.{LiveView}

-- the factors of tables whose searches begin as the seed has it: each table's is the seed's
abbrev pub seeded : ℕ → Tables → List ℕ
seeded seed ts = map (λ (t : Container). factor_of seed) ts

-- a session over this file, with these entries and names, before any line was served
abbrev pub first_view : Loaded → ℕ → ℕ → LiveView
first_view l seed most = record {
  file = l.program.file;
  lists = l.program.lists;
  opened = l.opening;
  first_names = l.names;
  handler_names = l.handler_names;
  most_names = most;
  names = l.names;
  tables = tables_of (shape_of l.program.file) l.opening;
  seed = seed;
  factors = seeded seed (tables_of (shape_of l.program.file) l.opening);
  generation = 0;
  tickets = record { next = 0; tickets = []; acts = [] };
  driven = 0;
  lines = [];
  replies = [];
}

-- the text is a session file without requests, and the session is the one over its handlers, the
-- entries of its table part and their names, whose searches are the seed's
pub record HasOpened (text : Text) (seed most : ℕ) (v : LiveView) : Type 0 where
  pub input : IsSessionInput text
  pub is_session : IsSession (parts_of text) v.file
  pub bare : rows_of (parts_of text) ≡ []
  pub opened_are : v.opened ≡ opened_of (parts_of text) v.file
  pub first_are : v.first_names ≡ opening_names_of (parts_of text)
  pub names_are : v.names ≡ v.first_names
  pub handlers_are : v.handler_names ≡ length (handler_names_of (parts_of text))
  pub most_is : v.most_names ≡ most
  pub tables_are : v.tables ≡ tables_of (shape_of v.file) v.opened
  pub seed_is : v.seed ≡ seed
  pub factors_are : v.factors ≡ seeded seed v.tables
  pub first_generation : v.generation ≡ 0
  pub no_tickets : v.tickets ≡ record { next = 0; tickets = []; acts = [] }
  pub none_driven : v.driven ≡ 0
  pub no_lines : v.lines ≡ []
  pub no_replies : v.replies ≡ []

-- the text is a session file of this file
pub record IsFileOf (text : Text) (file : File) : Type 0 where
  pub input : IsSessionInput text
  pub is_session : IsSession (parts_of text) file

-- why a text isn't opened
abbrev pub IsUnopened : Text → ℕ → OpenError → Type 0
IsUnopened text most (unopened.Refused TooLarge) = max_input < length text
IsUnopened text most (unopened.Refused e) = IsInputReason text (load_error.Refused e)
IsUnopened text most unopened.HasRequests =
    (file : File) × IsFileOf text file × (rows_of (parts_of text) ≢ [])
IsUnopened text most unopened.TooManyNames =
    (file : File) × IsFileOf text file × (most < length (all_names_of (parts_of text)))
IsUnopened text most unopened.NoMemory = Unit {0}

-- what is loaded can be opened. Only this crate's own functions cite this.
pub record CanOpen (l : Loaded) (most : ℕ) : Type 0 where
  pub accepted : IsAccepted l.program.file
  pub opens : IsOpening (shape_of l.program.file) l.opening
  pub handlers_below : AreBelow l.handler_names (file_mentions l.program.file)
  pub handlers_first : l.handler_names ≤ length l.names
  pub named : IsNamedFile l.names l.program.file
  pub known : AreKnown l.names l.program.file
  pub printable : ArePrintable l.names l.opening
  pub few : length l.names ≤ most

-- ---- on the way. Only this crate's own functions cite these.

-- a session was made of what was loaded, which has no requests
abbrev pub IsMade : Loaded → ℕ → ℕ → LiveView → Type 0
IsMade l seed most v = (length l.requests ≡ 0) × (v ≡ first_view l seed most)

-- why none was made
abbrev pub IsUnmade : Loaded → ℕ → OpenError → Type 0
IsUnmade l most (unopened.Refused e) = ⊥
IsUnmade l most unopened.HasRequests = 0 < length l.requests
IsUnmade l most unopened.TooManyNames = most < length l.names
IsUnmade l most unopened.NoMemory = Unit {0}

-- why nothing is opened where nothing is loaded
abbrev pub unopened_by : LoadError → OpenError
unopened_by (load_error.Refused e) = unopened.Refused e
unopened_by load_error.NoMemory = unopened.NoMemory
