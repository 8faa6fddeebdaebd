-- Who waits for whom.
use Rattle.std.specs.Prelude.{◌≡◌, ℕ, zero, suc, ◌+◌, ◌<◌, ◌⊎◌, List, [], ◌∷◌, ◌++◌, length, map}
use Rattle.std.specs.Prelude.{Contains}
use Rattle.std.specs.List.{flat_map}
use Rattle.symbolic_ops.specs.declared.symbol.Symbol.{Symbol}
use Rattle.check_meaning.specs.Code.{Code, Finish, Move, Ask, Fork, Loop, Quit, points}
use Rattle.serve_reading.specs.Language.{File}
use Rattle.serve_reading.specs.Resolved.{code_at}
use Rattle.serve_reading.specs.Steps.{symbol_of}
use Rattle.serve_reading.specs.Program.{ProgramView, declared_at}
use Rattle.waiting_pairs.specs.declared.asked.Asked.{Asked}
use Rattle.waiting_pairs.specs.declared.waiting.Wait.{Wait}
use Rattle.waiting_pairs.specs.Delays.{Delays}

-- ---- the operations of handlers
-- those of a block of the handler of this number, in the order of the text
abbrev pub operations : ℕ → Code → List Asked
operations h Finish = []
operations h (Move x e rest) = operations h rest
operations h (Ask at p x c rest) =
    record { handler = h; at = at; op = symbol_of c } ∷ operations h rest
operations h (Fork at p q test a b rest) = operations h a ++ (operations h b ++ operations h rest)
operations h (Loop at p n x body rest) = operations h body ++ operations h rest
operations h (Quit es rest) = operations h rest

-- the lists of the first so many numbers, one behind another
abbrev pub gather : {X : Type 0} → (ℕ → List X) → ℕ → List X
gather f zero = []
gather f (suc n) = gather f n ++ f n

-- those of all handlers of a file
abbrev pub all_asked : File → List Asked
all_asked f = gather (λ h. operations h (code_at f h)) (length f.handlers)

-- ---- what may wait for what
-- a symbol of a point with an operation
abbrev pub wait : (holder point : ℕ) → Symbol → Asked → Wait
wait holder point s a = record { holder = holder; point = point; symbol = s; asked = a }

-- a symbol of a point with each of these operations
abbrev pub against : (holder point : ℕ) → List Asked → Symbol → List Wait
against holder point asked s = map (wait holder point s) asked

-- the symbols that are declared at a point, each with each of these operations
abbrev pub at_point : ProgramView → List Asked → (holder point : ℕ) → List Wait
at_point p asked holder point = flat_map (against holder point asked) (declared_at p holder point)

-- all points of a handler
abbrev pub of_holder : ProgramView → List Asked → (holder : ℕ) → List Wait
of_holder p asked holder = gather (at_point p asked holder) (1 + points (code_at p.file holder))

-- each symbol of each point of each handler with each operation of each handler, in the order of
-- the text: handler, point, symbol, operation
abbrev pub pairs : ProgramView → List Wait
pairs p = gather (of_holder p (all_asked p.file)) (length p.file.handlers)

-- ---- who waits for whom
-- the symbol delays the operation
abbrev pub IsDelay : Wait → Type 0
IsDelay w = Delays w.symbol w.asked.op

-- the second list has those of the first that delay, and no others, in the same order
abbrev pub Picks : List Wait → List Wait → Type 0
Picks [] found = found ≡ []
Picks (w ∷ ws) found = (IsDelay w × ((rest : List Wait) × Picks ws rest × (found ≡ w ∷ rest)))
    ⊎ ((IsDelay w → ⊥) × Picks ws found)

-- those of a list that delay were appended
abbrev pub Adds : List Wait → (old new : List Wait) → Type 0
Adds ws old new = (found : List Wait) × Picks ws found × (new ≡ old ++ found)

-- the list has all pairs of which the symbol delays the operation, and no others, in the order of
-- the text
abbrev pub AreWaits : ProgramView → List Wait → Type 0
AreWaits p found = Picks (pairs p) found

-- ---- the same, pair by pair
-- the symbol may still come at a point of the one handler, the operation is one of the other's, and
-- the symbol delays it
pub record IsWait (p : ProgramView) (w : Wait) : Type 0 where
  pub holder : w.holder < length p.file.handlers
  pub point : w.point < 1 + points (code_at p.file w.holder)
  pub symbol : Contains (declared_at p w.holder w.point) w.symbol
  pub waiter : w.asked.handler < length p.file.handlers
  pub operation : Contains (operations w.asked.handler (code_at p.file w.asked.handler)) w.asked
  pub delays : IsDelay w
