-- What a line is answered, and what that leaves.
use Rattle.std.specs.Prelude.{◌≡◌, suc, ◌<◌, ◌≤◌, Bool, true, false, nat_lt, List, [], ◌∷◌, ◌++◌}
use Rattle.std.specs.Prelude.{drop, length, None, Some}
use Rattle.session_values.specs.Limits.{max_input}
use Rattle.session_values.specs.declared.reply.Reply.{Reply}
use Rattle.session_values.specs.Reply.{values_of}
use Rattle.session_values.specs.ReplyText.{values_text}
use Rattle.text_lines.specs.Rows.{Row, row_of}
use Rattle.text_lines.specs.Text.{Text, lines, words}
use Rattle.text_lines.specs.Values.{placed_all}
use Rattle.request_files.specs.Requests.{request_of}
use Rattle.live_session.specs.declared.answers.Answered.{Answered}
use Rattle.live_session.specs.declared.answers.Answered.TheVariants as answered
use Rattle.live_session.specs.declared.answers.LineRefusal.TheVariants as rule
use Rattle.live_session.specs.Accepting.{TakesMemory}
use Rattle.symbolic_ops.specs.declared.symbol.Symbol.{Symbol}
use Rattle.request_files.specs.declared.request.Request.{Request}
use Rattle.driven_tickets.specs.Acts.{Act}
use Rattle.driven_tickets.specs.Commuting.{IsClear, IsHeldUpBy}
use Rattle.driven_tickets.specs.Desk.{last_number}
use Rattle.live_session.specs.Entries.{acts_of, entry_list}
use Rattle.live_session.specs.Live.{LiveView, program_in}
use Rattle.live_session.specs.Served.{IsServed, line_fault}

-- a reply's line: each value behind a blank, but for the first blank, and a line feed
abbrev pub reply_line : List Text → Reply → Text
reply_line names r = drop 1 (values_text names (values_of r) ++ 10 ∷ [])

-- the names behind a row that is served
abbrev pub names_with : LiveView → Row → List Text
names_with v r = placed_all v.names r.args

-- the request of a row
abbrev pub request_in : LiveView → Row → Request
request_in v r = request_of v.names (names_with v r) v.file r

-- what it declares at its handler's entry
abbrev pub list_in : LiveView → Row → List Symbol
list_in v r = entry_list (program_in v) (request_in v r).handler (request_in v r).args

-- the acts of its run alone from the tables, as the next ticket
abbrev pub acts_in : LiveView → Row → List Act
acts_in v r = acts_of (program_in v) v.tickets.next (request_in v r).handler
    (request_in v r).args v.tables

-- a line with this row was served: it has no fault and its names have room, no open ticket is in
-- its way and a number is left; its request was served alone from the tables, this is the line of
-- its reply, and its acts are those of that run, as the next ticket, which isn't open any more
pub record LineServed (v : LiveView) (line : Text) (r : Row) (text : Text) (w : LiveView)
    : Type 0 where
  pub fine : line_fault v.names v.file r ≡ None
  pub room : length (names_with v r) ≤ v.most_names
  pub clear : IsClear v.tickets (list_in v r)
  pub numbered : v.tickets.next < last_number
  pub reply : Reply
  pub served : IsServed v.file (request_of v.names w.names v.file r) v.tables reply w.tables
  pub text_is : text ≡ reply_line w.names reply
  pub names_are : w.names ≡ names_with v r
  pub lines_are : w.lines ≡ v.lines ++ line ∷ []
  pub replies_are : w.replies ≡ v.replies ++ reply ∷ []
  pub tickets_are : w.tickets ≡ record {
    next = suc v.tickets.next;
    tickets = v.tickets.tickets;
    acts = v.tickets.acts ++ acts_in v r;
  }
  pub factors_still : w.factors ≡ v.factors
  pub driven_still : w.driven ≡ v.driven
  pub file_still : w.file ≡ v.file
  pub lists_still : w.lists ≡ v.lists
  pub opened_still : w.opened ≡ v.opened
  pub first_still : w.first_names ≡ v.first_names
  pub handlers_still : w.handler_names ≡ v.handler_names
  pub most_still : w.most_names ≡ v.most_names
  pub seed_still : w.seed ≡ v.seed
  pub generation_still : w.generation ≡ v.generation

-- nothing changed, and nothing was written
abbrev pub IsStill : LiveView → Text → LiveView → Type 0
IsStill v text w = (w ≡ v) × (text ≡ [])

-- it has no fault, and its names have room
abbrev pub CanBeRead : LiveView → Row → Type 0
CanBeRead v r =
    (line_fault v.names v.file r ≡ None) × (length (names_with v r) ≤ v.most_names)

-- what a line with this row is answered: it is served; or it breaks a rule, the first of which is
-- told; or there would be too many names; or what it declares doesn't commute with what an open
-- ticket has declared, the least of which is told; or no number is left for it; or memory ran out,
-- for a new name or for a key that its handler may add
abbrev pub RowAnswered : LiveView → Text → Row → Answered → Text → LiveView → Type 0
RowAnswered v line r answered.Served text w = LineServed v line r text w
RowAnswered v line r answered.Nothing text w = ⊥
RowAnswered v line r (answered.Refused e) text w =
    IsStill v text w × (line_fault v.names v.file r ≡ Some e)
RowAnswered v line r answered.TooManyNames text w =
    IsStill v text w × (line_fault v.names v.file r ≡ None)
    × (v.most_names < length (names_with v r))
RowAnswered v line r (answered.Delayed u) text w =
    IsStill v text w × CanBeRead v r × IsHeldUpBy v.tickets (list_in v r) u
RowAnswered v line r answered.NoNumber text w =
    IsStill v text w × CanBeRead v r × IsClear v.tickets (list_in v r)
    × (v.tickets.next ≡ last_number)
RowAnswered v line r answered.NoMemory text w =
    IsStill v text w × (line_fault v.names v.file r ≡ None) × TakesMemory v.names v.file r

-- what a line of these words is answered: nothing where it has none
abbrev pub WordsAnswered : LiveView → Text → List Text → Answered → Text → LiveView → Type 0
WordsAnswered v line [] a text w = IsStill v text w × (a ≡ answered.Nothing)
WordsAnswered v line (name ∷ args) a text w = RowAnswered v line (row_of 0 name args) a text w

-- the same, where it is said whether the line is too long
abbrev pub AnsweredBy : Bool → LiveView → Text → Answered → Text → LiveView → Type 0
AnsweredBy true v line a text w = IsStill v text w × (a ≡ answered.Refused rule.TooLong)
AnsweredBy false v line a text w = WordsAnswered v line (words line) a text w

-- what a line is answered
abbrev pub LineAnswered : LiveView → Text → Answered → Text → LiveView → Type 0
LineAnswered v line a text w = AnsweredBy (nat_lt max_input (length line)) v line a text w

-- what some lines are answered, of which there is to be one at most
abbrev pub LinesAnswered : LiveView → List Text → Answered → Text → LiveView → Type 0
LinesAnswered v [] a text w = IsStill v text w × (a ≡ answered.Nothing)
LinesAnswered v (line ∷ []) a text w = LineAnswered v line a text w
LinesAnswered v (line ∷ next ∷ more) a text w =
    IsStill v text w × (a ≡ answered.Refused rule.ManyLines)

-- what a text is answered
abbrev pub TextAnswered : LiveView → Text → Answered → Text → LiveView → Type 0
TextAnswered v text a out w = LinesAnswered v (lines text) a out w

-- a text of this kind, of at most 264 bytes, was appended to what a room held
abbrev pub IsAnswered : Text → Text → (Text → Type 0) → Type 0
IsAnswered before after P =
    (text : Text) × (after ≡ before ++ text) × (length text ≤ 264) × P text
