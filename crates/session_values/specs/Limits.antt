-- The limits of files, handlers, sessions and those who serve them: the most that is allowed.
use Rattle.std.specs.Prelude.{ℕ}

-- the bytes of a session file
abbrev pub max_input : ℕ
max_input = 4194304

-- the bytes of a name, and of a symbol without its quote
abbrev pub max_name : ℕ
max_name = 64

-- the blocks inside one another, a handler's own being the first
abbrev pub max_depth : ℕ
max_depth = 16

-- the parentheses that are open at once in one expression
abbrev pub max_open : ℕ
max_open = 16

-- the operator signs of one expression
abbrev pub max_signs : ℕ
max_signs = 64

-- the tables of a file
abbrev pub max_tables : ℕ
max_tables = 7

-- the handlers of a file
abbrev pub max_handlers : ℕ
max_handlers = 64

-- the variables of a handler, its parameters among them
abbrev pub max_variables : ℕ
max_variables = 32

-- the turns of a `repeat`
abbrev pub max_turns : ℕ
max_turns = 1000

-- the calls that a handler may make, by its text
abbrev pub max_calls : ℕ
max_calls = 10000

-- the work that a handler may do, by its text
abbrev pub max_work : ℕ
max_work = 100000

-- the symbols of what may still be called at a point
abbrev pub max_symbols : ℕ
max_symbols = 256

-- the requests of a session
abbrev pub max_requests : ℕ
max_requests = 20000

-- the calls of all requests of a session, by their handlers' texts
abbrev pub max_session_calls : ℕ
max_session_calls = 200000

-- the work of all requests of a session, by their handlers' texts
abbrev pub max_session_work : ℕ
max_session_work = 10000000

-- the callers that serve a session
abbrev pub max_callers : ℕ
max_callers = 32

-- the shards of each table
abbrev pub max_shards : ℕ
max_shards = 8
