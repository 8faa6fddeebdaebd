-- The text of a made session.
use Rattle.std.specs.Prelude.{ℕ, zero, suc, ◌+◌, ◌*◌, ◌%◌, ◌==◌, if◌then◌else◌, List, [], ◌++◌, codes, decimal}
use Rattle.serve_words.specs.Draws.{draw}

-- the handlers' part
abbrev pub handlers_text : List ℕ
handlers_text = codes "map seats;\nset online;\nhandler login(u, now) {\n  let old = swap(seats, u, now);\n  mark(online, u);\n  reply old;\n}\nhandler logout(u) {\n  del(seats, u);\n  drop(online, u);\n}\nhandler seen(u) {\n  let at = get(seats, u);\n  let on = has(online, u);\n  reply at, on;\n}\nhandler crowd() {\n  let n = count(online);\n  reply n;\n}\n"

-- a request's line, by its three draws
abbrev pub request_line : ℕ → ℕ → ℕ → List ℕ
request_line a b c =
    if a % 4 == 0
    then codes "login u" ++ decimal (b % 100) ++ codes " " ++ decimal (c % 1000) ++ codes "\n"
    else (if a % 4 == 1 then codes "logout u" ++ decimal (b % 100) ++ codes "\n"
    else (if a % 4 == 2 then codes "seen u" ++ decimal (b % 100) ++ codes "\n"
    else codes "crowd\n"))

-- the line of request t, from 0: it has the draws from number 3 t on
abbrev pub line_at : ℕ → ℕ → List ℕ
line_at start t = request_line (draw start (3 * t)) (draw start (3 * t + 1))
    (draw start (3 * t + 2))

-- the lines of the first n requests
unfoldable pub lines_of : ℕ → ℕ → List ℕ
lines_of start zero = []
lines_of start (suc t) = lines_of start t ++ line_at start t

-- the session of `work N START`: the handlers, the dividing line, and N requests
abbrev pub session_text : ℕ → ℕ → List ℕ
session_text requests start = handlers_text ++ codes "%%\n" ++ lines_of start requests
