-- The lines that tell who waited for whom.
use Rattle.std.specs.Prelude.{ℕ, List, ◌∷◌, [], ◌++◌, codes, Option, Some, None}
use Rattle.std.specs.List.{flat_map}
use Rattle.std.specs.Fmt.{decimal}
use Rattle.symbolic_ops.specs.Matching.{exact_symbol}
use Rattle.serve_reading.specs.Language.{File}
use Rattle.waiting_pairs.specs.Lines.{symbol_words, handler_word as handler_name_word}
use Rattle.session_values.specs.declared.op.Op.{Op}
use Rattle.symbolic_ops.specs.declared.symbol.Symbol.{Symbol}
use Rattle.waiting_pairs.specs.declared.counting.Row.{Row}
use Rattle.waiting_pairs.specs.declared.cause.Cause.{Cause}

-- the name of a handler; a question mark where the file has no such request
abbrev pub handler_word : List (List ℕ) → File → Option ℕ → List ℕ
handler_word names f None = codes "?"
handler_word names f (Some h) = handler_name_word names f h

-- an operation or a symbol as handlers write it; neither has a variable, so it doesn't matter of
-- which handler it is
abbrev pub trace_symbol_words : List (List ℕ) → File → Symbol → List ℕ
trace_symbol_words names f s = symbol_words names f 0 s

abbrev pub operation_words : List (List ℕ) → File → Op → List ℕ
operation_words names f op = trace_symbol_words names f (exact_symbol op)

-- ---- rows
-- the handler that waited, and its operation
abbrev pub waiter_words : List (List ℕ) → File → Cause → List ℕ
waiter_words names f c =
    handler_word names f c.waits ++ 9 ∷ [] ++ operation_words names f c.operation ++ 9 ∷ []

-- the handler for which it waited, and the symbol, to the end of the line
abbrev pub holder_words : List (List ℕ) → File → Cause → List ℕ
holder_words names f c =
    handler_word names f c.holder ++ 9 ∷ [] ++ trace_symbol_words names f c.symbol ++ 10 ∷ []

abbrev pub line : List (List ℕ) → File → Row → List ℕ
line names f r =
    decimal r.count ++ 9 ∷ [] ++ waiter_words names f r.cause ++ holder_words names f r.cause

-- ---- chains
-- a blank and the number of a ticket
abbrev pub ticket_word : ℕ → List ℕ
ticket_word t = codes " " ++ decimal t

abbrev pub chain_line : List ℕ → List ℕ
chain_line chain = codes "# chain, each waits for the next:" ++ flat_map ticket_word chain ++ 10 ∷ []

-- ---- all lines
-- what stands above the rows: how many delays there are, and the columns' names
abbrev pub head : ℕ → List ℕ
head count = codes "# " ++ decimal count ++ codes " delays: count, waits, operation, for, symbol\n"

abbrev pub row_lines : List (List ℕ) → File → List Row → List ℕ
row_lines names f rows = flat_map (line names f) rows

abbrev pub lines : List (List ℕ) → File → ℕ → List Row → List (List ℕ) → List ℕ
lines names f count rows chains =
    head count ++ row_lines names f rows ++ flat_map chain_line chains
