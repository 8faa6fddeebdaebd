-- What the calls of tickets do at a desk, and the numbers that they answer.
use Rattle.std.specs.Prelude.{◌≡◌, ℕ, ◌+◌, ◌<◌, ◌≤◌, ◌⊎◌, List, [], ◌∷◌, ◌++◌, length, replicate}
use Rattle.std.specs.declared.result.Result.{Result}
use Rattle.std.specs.declared.result.Result.TheVariants.{Ok, Err}
use Rattle.session_values.specs.Limits.{max_symbols, max_tables}
use Rattle.session_values.specs.declared.kind.TableKind.TheVariants.{Map, Set}
use Rattle.session_values.specs.declared.op.Op.{Op}
use Rattle.session_values.specs.Tables.{start}
use Rattle.symbolic_ops.specs.declared.symbol.Symbol.{Symbol}
use Rattle.symbolic_ops.specs.Foresight.{ForesightView}
use Rattle.driven_tickets.specs.declared.answers.BeginError.{BeginError}
use Rattle.driven_tickets.specs.declared.answers.BeginError.TheVariants as unbegun
use Rattle.driven_tickets.specs.declared.answers.Called.{Called}
use Rattle.driven_tickets.specs.declared.answers.Called.TheVariants as called
use Rattle.driven_tickets.specs.declared.answers.NarrowError.{NarrowError}
use Rattle.driven_tickets.specs.declared.answers.NarrowError.TheVariants as wide
use Rattle.driven_tickets.specs.declared.answers.NoTicket.{NoTicket}
use Rattle.driven_tickets.specs.Desk.{BegunAs, CalledAs, DeskView, EndedAs, NarrowedAs}
use Rattle.live_session.specs.Driven.{BeginAnswered, CallAnswered, EndAnswered, NarrowAnswered}
use Rattle.foresight_c.specs.declared.desk.Desk.{Desk}
use Rattle.foresight_c.specs.declared.desk.Desk.TheVariants.{Tables, Session}
use Rattle.foresight_c.specs.declared.session_desk.SessionDesk.{SessionDesk}
use Rattle.foresight_c.specs.declared.values.COperation.{COperation}
use Rattle.foresight_c.specs.declared.values.CValue.{CValue}
use Rattle.foresight_c.specs.Numbers.{delayed, fine, full, misfit, no_memory, no_ticket, undeclared, unread}
use Rattle.foresight_c.specs.Reading.{IsOperationOf, IsSymbolOf, IsUnread}
use Rattle.foresight_c.specs.Values.{told_value}

-- ---- the numbers
abbrev pub begun_number : BeginError → ℕ
begun_number unbegun.NoNumber = full
begun_number unbegun.NoMemory = no_memory

abbrev pub called_number : Called → ℕ
called_number (called.Done v) = fine
called_number (called.Delayed u) = delayed
called_number called.Undeclared = undeclared
called_number called.Misfit = misfit
called_number called.NoTicket = no_ticket
called_number called.NoMemory = no_memory

abbrev pub narrowed_number : NarrowError → ℕ
narrowed_number wide.Undeclared = undeclared
narrowed_number wide.NoTicket = no_ticket

-- ---- what C gives
-- each symbol is the one that C gives at its place
abbrev pub AreSymbolsOf : List COperation → List Symbol → Type 0
AreSymbolsOf [] ys = ys ≡ []
AreSymbolsOf (g ∷ gs) [] = ⊥
AreSymbolsOf (g ∷ gs) (y ∷ ys) = IsSymbolOf g y × AreSymbolsOf gs ys

-- one of them means nothing
abbrev pub HasUnread : List COperation → Type 0
HasUnread [] = ⊥
HasUnread (g ∷ gs) = IsUnread 4 g ⊎ HasUnread gs

-- why what C gives isn't read: there are too many, one means nothing, or memory ran out
abbrev pub IsNoList : List COperation → ℕ → Type 0
IsNoList gs n = ((n ≡ full) × (max_symbols < length gs))
    ⊎ ((length gs ≤ max_symbols) × (((n ≡ unread) × HasUnread gs) ⊎ (n ≡ no_memory)))

-- a list is read, or not
abbrev pub ReadAs : List COperation → Result ForesightView ℕ → Type 0
ReadAs gs (Ok f) = (length gs ≤ max_symbols) × AreSymbolsOf gs f.symbols
ReadAs gs (Err n) = IsNoList gs n

-- ---- tables
-- they are opened, or not, since there are too many, or memory ran out
abbrev pub OpensTables : ℕ → ℕ → Result Desk ℕ → Type 0
OpensTables maps sets (Ok d) = (maps + sets ≤ max_tables) × (d ≡ Tables (record {
  opening = start (replicate maps Map ++ replicate sets Set);
  tables = start (replicate maps Map ++ replicate sets Set);
  next = 0;
  tickets = [];
  acts = [];
}))
OpensTables maps sets (Err n) = (n ≡ no_memory) ⊎ ((n ≡ unread) × (max_tables < maps + sets))

-- ---- acts of a ticket on what a desk has: its tables, or the tables of its session
-- the session's desk keeps its buffer
abbrev pub KeepsReplies : SessionDesk → SessionDesk → Type 0
KeepsReplies d e = e ≡ record d { session = e.session }

abbrev pub HasBegun : Desk → Desk → List Symbol → Result ℕ BeginError → Type 0
HasBegun (Tables s) e ys r = (t : DeskView) × BegunAs s t ys r × (e ≡ Tables t)
HasBegun (Session s) e ys r = (t : SessionDesk) × BeginAnswered s.session t.session ys r
    × KeepsReplies s t × (e ≡ Session t)

abbrev pub HasCalled : Desk → Desk → ℕ → Op → Called → Type 0
HasCalled (Tables s) e t op c = (u : DeskView) × CalledAs s u t op c × (e ≡ Tables u)
HasCalled (Session s) e t op c = (u : SessionDesk) × CallAnswered s.session u.session t op c
    × KeepsReplies s u × (e ≡ Session u)

abbrev pub HasNarrowed : Desk → Desk → ℕ → List Symbol → Result (Unit {0}) NarrowError → Type 0
HasNarrowed (Tables s) e t ys r = (u : DeskView) × NarrowedAs s u t ys r × (e ≡ Tables u)
HasNarrowed (Session s) e t ys r = (u : SessionDesk) × NarrowAnswered s.session u.session t ys r
    × KeepsReplies s u × (e ≡ Session u)

abbrev pub HasEnded : Desk → Desk → ℕ → Result (Unit {0}) NoTicket → Type 0
HasEnded (Tables s) e t r = (u : DeskView) × EndedAs s u t r × (e ≡ Tables u)
HasEnded (Session s) e t r = (u : SessionDesk) × EndAnswered s.session u.session t r
    × KeepsReplies s u × (e ≡ Session u)

-- ---- the calls, of what C gives, or of none where that can't be read
-- the number of a ticket is told where one began
abbrev pub BegunTold : Result ℕ BeginError → ℕ → ℕ → ℕ → Type 0
BegunTold (Ok t) was out n = (out ≡ t) × (n ≡ fine)
BegunTold (Err why) was out n = (out ≡ was) × (n ≡ begun_number why)

-- the next ticket begins, and declares the symbols
abbrev pub BeginOn : Desk → Desk → List COperation → ℕ → ℕ → ℕ → Type 0
BeginOn d e gs was out n =
    (IsNoList gs n × (e ≡ d) × (out ≡ was))
    ⊎ ((length gs ≤ max_symbols) × ((ys : List Symbol) × AreSymbolsOf gs ys
    × (r : Result ℕ BeginError) × HasBegun d e ys r × BegunTold r was out n))

-- what a call tells beside its number: a reply, or an older ticket
abbrev pub CallTold : Called → CValue → CValue → ℕ → ℕ → Type 0
CallTold (called.Done v) was out older_was older = (out ≡ told_value v) × (older ≡ older_was)
CallTold (called.Delayed u) was out older_was older = (out ≡ was) × (older ≡ u)
CallTold c was out older_was older = (out ≡ was) × (older ≡ older_was)

-- an operation of a ticket is called
abbrev pub CallOn : Desk → Desk → ℕ → COperation → CValue → CValue → ℕ → ℕ → ℕ → Type 0
CallOn d e t g was out older_was older n =
    (IsUnread 3 g × (e ≡ d) × (n ≡ unread) × (out ≡ was) × (older ≡ older_was))
    ⊎ ((op : Op) × IsOperationOf g op × (c : Called) × HasCalled d e t op c
    × CallTold c was out older_was older × (n ≡ called_number c))

-- the number of whether a ticket is narrowed
abbrev pub narrowing_number : Result (Unit {0}) NarrowError → ℕ
narrowing_number (Ok done) = fine
narrowing_number (Err why) = narrowed_number why

-- an open ticket declares the symbols in place of its own
abbrev pub NarrowOn : Desk → Desk → ℕ → List COperation → ℕ → Type 0
NarrowOn d e t gs n =
    (IsNoList gs n × (e ≡ d))
    ⊎ ((length gs ≤ max_symbols) × ((ys : List Symbol) × AreSymbolsOf gs ys
    × (r : Result (Unit {0}) NarrowError) × HasNarrowed d e t ys r × (n ≡ narrowing_number r)))

-- the number of whether a ticket is ended
abbrev pub ending_number : Result (Unit {0}) NoTicket → ℕ
ending_number (Ok done) = fine
ending_number (Err why) = no_ticket

-- an open ticket ends
abbrev pub EndOn : Desk → Desk → ℕ → ℕ → Type 0
EndOn d e t n = (r : Result (Unit {0}) NoTicket) × HasEnded d e t r × (n ≡ ending_number r)
