-- The lists of all points of a file, and the first point that has too many symbols.
use Rattle.std.specs.Prelude.{◌≡◌, ℕ, ◌+◌, ◌<◌, ◌≤◌, ◌⊎◌, List, [], ◌∷◌, length, Option, Some, None, slice_get, slice_index_or}
use Rattle.session_values.specs.Limits.{max_symbols}
use Rattle.symbolic_ops.specs.declared.symbol.Symbol.{Symbol}
use Rattle.handler_check.specs.File.{File}
use Rattle.handler_check.specs.Handler.{Handler}
use Rattle.check_meaning.specs.Code.{Code, points}
use Rattle.handler_check.specs.Resolved.{code_at, handler_code}
use Rattle.may_use_analysis.specs.declared.refusal.AnalysisRefusal.{AnalysisRefusal}
use Rattle.may_use_analysis.specs.declared.refusal.AnalysisRefusal.TheVariants.{TooManySymbols, NoMemory}
use Rattle.may_use_analysis.specs.Ordered.{Lists}
use Rattle.may_use_analysis.specs.Places.{places}
use Rattle.may_use_analysis.specs.Trails.{LaterAt}

-- the symbols of all operations on all trails from the point, in order and each once
abbrev pub IsLaterList : Code → ℕ → List Symbol → Type 0
IsLaterList code p list = Lists list (LaterAt code p)

-- a list for each point, by its number, of at most 256 symbols
pub record HasLists (code : Code) (lists : List (List Symbol)) : Type 0 where
  pub count : length lists ≡ 1 + points code
  pub each : (p : ℕ) → p < 1 + points code → IsLaterList code p (slice_index_or lists p [])
  pub few : (p : ℕ) → p < 1 + points code → length (slice_index_or lists p []) ≤ max_symbols

-- each point of each handler has its list
pub record AreLater (f : File) (all : List (List (List Symbol))) : Type 0 where
  pub count : length all ≡ length f.handlers
  pub each : (h : ℕ) → h < length f.handlers → HasLists (code_at f h) (slice_index_or all h [])

-- ---- refusals

abbrev pub places_in : File → Option Handler → List ℕ
places_in f None = []
places_in f (Some h) = h.at ∷ places (handler_code f h)

-- the places of the points of the handler of this number; its entry's is that of its name
abbrev pub places_at : File → ℕ → List ℕ
places_at f h = places_in f (slice_get f.handlers h)

-- the point has at most 256 symbols
abbrev pub IsShort : Code → ℕ → Type 0
IsShort code p = (list : List Symbol) × IsLaterList code p list × (length list ≤ max_symbols)

-- one point stands before another one in the text: handlers in their order, points by their numbers
abbrev pub IsBefore : ℕ → ℕ → ℕ → ℕ → Type 0
IsBefore h p g q = (h < g) ⊎ ((h ≡ g) × (p < q))

-- the first point in the text that has more than 256 symbols, by its place and the number of its
-- symbols
pub record IsExcess (f : File) (at count : ℕ) : Type 0 where
  pub handler : ℕ
  pub point : ℕ
  pub inside : handler < length f.handlers
  pub is_point : point < 1 + points (code_at f handler)
  pub place : slice_get (places_at f handler) point ≡ Some at
  pub list : List Symbol
  pub later : IsLaterList (code_at f handler) point list
  pub count_is : count ≡ length list
  pub many : max_symbols < length list
  pub first : (h p : ℕ) → h < length f.handlers → p < 1 + points (code_at f h)
      → IsBefore h p handler point → IsShort (code_at f h) p

-- why a file has no lists
abbrev pub IsTooMany : File → AnalysisRefusal → Type 0
IsTooMany f (TooManySymbols at count) = IsExcess f at count
IsTooMany f NoMemory = ⊥

-- each point of each handler has a list of at most 256 symbols
abbrev pub HasLater : File → Type 0
HasLater f = (all : List (List (List Symbol))) × AreLater f all

-- ---- the answer to a file

-- its lists, or its first point that has too many symbols
abbrev pub HasAnswer : File → Type 0
HasAnswer f = HasLater f ⊎ ((e : AnalysisRefusal) × IsTooMany f e)
