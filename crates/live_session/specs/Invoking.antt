-- What a request by its handler's number is answered: as the line that says it.
use Rattle.std.specs.Prelude.{◌≡◌, ◌≢◌, ℕ, ◌<◌, ◌≤◌, List, [], ◌∷◌, ◌++◌, length, map, Option}
use Rattle.std.specs.Prelude.{Some, None, slice_get, Result, Ok, Err}
use Rattle.std.specs.List.{AllByRecursion}
use Rattle.session_values.specs.declared.reply.Reply.{Reply}
use Rattle.session_values.specs.declared.value.Value.{Value}
use Rattle.session_values.specs.ReplyText.{value_text}
use Rattle.syntax_trees.specs.declared.file.Handler.{Handler}
use Rattle.handler_check.specs.File.{File}
use Rattle.handler_check.specs.Resolved.{params_at}
use Rattle.text_lines.specs.Rows.{Row, row_of}
use Rattle.text_lines.specs.Text.{Text}
use Rattle.text_lines.specs.Values.{placed_all}
use Rattle.text_lines.specs.Words.{spaced}
use Rattle.live_session.specs.declared.answers.Answered.{Answered}
use Rattle.live_session.specs.declared.answers.Answered.TheVariants as answered
use Rattle.live_session.specs.declared.answers.InvokeError.{InvokeError}
use Rattle.live_session.specs.declared.answers.InvokeError.TheVariants as uninvoked
use Rattle.live_session.specs.declared.argument.Argument.{Argument}
use Rattle.declaration_insertion.specs.Program.{ProgramView}
use Rattle.driven_tickets.specs.Desk.{TicketsView}
use Rattle.live_session.specs.Accepting.{IsTurnedAway}
use Rattle.live_session.specs.Answers.{TextAnswered, reply_line}
use Rattle.live_session.specs.ArgumentWords.{IsHeld, first_fault, name_at, words_of}
use Rattle.live_session.specs.Live.{LiveView}

-- ---- the line that says a request

-- the name of a handler, which is empty where there is none
abbrev pub name_of : List Text → Option Handler → Text
name_of names None = []
name_of names (Some h) = name_at names h.name

abbrev pub handler_name : List Text → File → ℕ → Text
handler_name names f h = name_of names (slice_get f.handlers h)

-- the row of a request: its handler's name, and the words of its arguments
abbrev pub row_given : List Text → File → ℕ → List Argument → Row
row_given names f h args = row_of 0 (handler_name names f h) (words_of names args)

-- its line, with a space between two words
abbrev pub line_given : List Text → File → ℕ → List Argument → Text
line_given names f h args = spaced (handler_name names f h ∷ words_of names args)

-- the line of a request with these values as its arguments
abbrev pub line_of : List Text → File → ℕ → List Value → Text
line_of names f h vs = spaced (handler_name names f h ∷ map (value_text names) vs)

-- a handler of this number has so many parameters
abbrev pub Takes : File → ℕ → ℕ → Type 0
Takes f h n = (h < length f.handlers) × (n ≡ params_at f h)

-- there is a handler of this number that has so many parameters, and a word says each argument
pub record CanBeSaid (names : List Text) (f : File) (h : ℕ) (args : List Argument)
    : Type 0 where
  pub handler : h < length f.handlers
  pub params : length args ≡ params_at f h
  pub fine : first_fault names args ≡ None

-- ---- answers

-- it can be said by a line, and is answered as `request` answers that line
abbrev pub SaidAnswered : LiveView → ℕ → List Argument → Answered → Text → LiveView → Type 0
SaidAnswered v h args a text w = CanBeSaid v.names v.file h args
    × TextAnswered v (line_given v.names v.file h args) a text w

-- it is served, and this is its reply; or it can't be said by a line, and nothing changed; or its
-- line isn't served
abbrev pub InvokeAnswered : LiveView → ℕ → List Argument → Result Reply InvokeError → LiveView
    → Type 0
InvokeAnswered v h args (Ok reply) w =
    SaidAnswered v h args answered.Served (reply_line w.names reply) w
    × (w.replies ≡ v.replies ++ reply ∷ [])
InvokeAnswered v h args (Err uninvoked.UnknownHandler) w =
    (w ≡ v) × (length v.file.handlers ≤ h)
InvokeAnswered v h args (Err uninvoked.Arity) w =
    (w ≡ v) × (h < length v.file.handlers) × (length args ≢ params_at v.file h)
InvokeAnswered v h args (Err uninvoked.NoSymbol) w =
    (w ≡ v) × Takes v.file h (length args)
    × (first_fault v.names args ≡ Some uninvoked.NoSymbol)
InvokeAnswered v h args (Err uninvoked.NoName) w =
    (w ≡ v) × Takes v.file h (length args)
    × (first_fault v.names args ≡ Some uninvoked.NoName)
InvokeAnswered v h args (Err uninvoked.TooManyNames) w =
    SaidAnswered v h args answered.TooManyNames [] w
InvokeAnswered v h args (Err (uninvoked.Delayed u)) w =
    SaidAnswered v h args (answered.Delayed u) [] w
InvokeAnswered v h args (Err uninvoked.NoNumber) w =
    SaidAnswered v h args answered.NoNumber [] w
InvokeAnswered v h args (Err uninvoked.NoMemory) w =
    SaidAnswered v h args answered.NoMemory [] w

-- ---- on the way. Only this crate's own functions cite these.

-- a word says each argument, and a program holds its number
abbrev pub AreFine : List Text → List Argument → Type 0
AreFine names args = (first_fault names args ≡ None) × AllByRecursion IsHeld args

-- why arguments aren't read over these names, of which there may be so many
abbrev pub AreNotRead : List Text → ℕ → List Argument → InvokeError → Type 0
AreNotRead names most args uninvoked.UnknownHandler = ⊥
AreNotRead names most args uninvoked.Arity = ⊥
AreNotRead names most args uninvoked.NoSymbol =
    first_fault names args ≡ Some uninvoked.NoSymbol
AreNotRead names most args uninvoked.NoName = first_fault names args ≡ Some uninvoked.NoName
AreNotRead names most args uninvoked.TooManyNames =
    AreFine names args × (most < length (placed_all names (words_of names args)))
AreNotRead names most args (uninvoked.Delayed u) = ⊥
AreNotRead names most args uninvoked.NoNumber = ⊥
AreNotRead names most args uninvoked.NoMemory =
    AreFine names args × (placed_all names (words_of names args) ≢ names)

-- why a request isn't read
abbrev pub IsNotGiven : File → List Text → ℕ → ℕ → List Argument → InvokeError → Type 0
IsNotGiven f names most h args uninvoked.UnknownHandler = length f.handlers ≤ h
IsNotGiven f names most h args uninvoked.Arity =
    (h < length f.handlers) × (length args ≢ params_at f h)
IsNotGiven f names most h args e = Takes f h (length args) × AreNotRead names most args e

-- the same of what isn't let run
abbrev pub invoke_error : Answered → InvokeError
invoke_error answered.Served = uninvoked.NoMemory
invoke_error answered.Nothing = uninvoked.NoMemory
invoke_error (answered.Refused e) = uninvoked.NoMemory
invoke_error answered.TooManyNames = uninvoked.NoMemory
invoke_error (answered.Delayed u) = uninvoked.Delayed u
invoke_error answered.NoNumber = uninvoked.NoNumber
invoke_error answered.NoMemory = uninvoked.NoMemory

-- it can be said by a line, and a program holds its numbers, but its row isn't accepted
abbrev pub IsSaidAway : ProgramView → TicketsView → List Text → ℕ → ℕ → List Argument → Answered
    → Type 0
IsSaidAway p k names most h args a =
    CanBeSaid names p.file h args × AllByRecursion IsHeld args
    × IsTurnedAway p k names most (row_given names p.file h args) a

-- why a request isn't accepted
abbrev pub IsNotReceived : ProgramView → TicketsView → List Text → ℕ → ℕ → List Argument
    → InvokeError → Type 0
IsNotReceived p k names most h args uninvoked.UnknownHandler = length p.file.handlers ≤ h
IsNotReceived p k names most h args uninvoked.Arity =
    (h < length p.file.handlers) × (length args ≢ params_at p.file h)
IsNotReceived p k names most h args uninvoked.NoSymbol =
    Takes p.file h (length args) × (first_fault names args ≡ Some uninvoked.NoSymbol)
IsNotReceived p k names most h args uninvoked.NoName =
    Takes p.file h (length args) × (first_fault names args ≡ Some uninvoked.NoName)
IsNotReceived p k names most h args uninvoked.TooManyNames =
    IsSaidAway p k names most h args answered.TooManyNames
IsNotReceived p k names most h args (uninvoked.Delayed u) =
    IsSaidAway p k names most h args (answered.Delayed u)
IsNotReceived p k names most h args uninvoked.NoNumber =
    IsSaidAway p k names most h args answered.NoNumber
IsNotReceived p k names most h args uninvoked.NoMemory =
    IsSaidAway p k names most h args answered.NoMemory
