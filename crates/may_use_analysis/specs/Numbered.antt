-- What is kept of the lists of a handler, by the numbers of its points.
use Rattle.std.specs.Prelude.{◌≡◌, ℕ, ◌+◌, ◌-◌, ◌<◌, List, ◌∷◌, length, map, reverse, Option, Some, None, slice_get, slice_index_or}
use Rattle.symbolic_ops.specs.declared.symbol.Symbol.{Symbol}
use Rattle.check_meaning.specs.Code.{Code, block_code, points}
use Rattle.check_meaning.specs.declared.tree.CheckedHandler.{CheckedHandler}
use Rattle.may_use_analysis.specs.declared.handler.Excess.{Excess}
use Rattle.may_use_analysis.specs.declared.refusal.AnalysisRefusal.{AnalysisRefusal}
use Rattle.may_use_analysis.specs.declared.refusal.AnalysisRefusal.TheVariants.{TooManySymbols, NoMemory}
use Rattle.may_use_analysis.specs.Places.{places}
use Rattle.may_use_analysis.specs.PointList.{PointList, Counted, IsPointList, count_in, list_in}
use Rattle.may_use_analysis.specs.Trails.{LaterAt}

-- what is kept of the list of this point, where the last point's comes first
abbrev pub point_list_at : List PointList → ℕ → PointList
point_list_at kept p = slice_index_or kept (length kept - (p + 1)) (Counted 0)

-- the lists by the numbers of the points
abbrev pub by_number : List PointList → List (List Symbol)
by_number kept = reverse (map list_in kept)

-- what is kept of each point's list
pub record ArePointLists (code : Code) (kept : List PointList) : Type 0 where
  pub count : length kept ≡ 1 + points code
  pub each : (p : ℕ) → p < 1 + points code → IsPointList (point_list_at kept p) (LaterAt code p)

-- no point before this one has too many symbols
abbrev pub AreShortBelow : List PointList → ℕ → Type 0
AreShortBelow kept n = (p : ℕ) → p < n → count_in (point_list_at kept p) ≡ None

-- the first point that has too many symbols, if there is one
abbrev pub IsFirstExcess : List PointList → Option Excess → Type 0
IsFirstExcess kept None = AreShortBelow kept (length kept)
IsFirstExcess kept (Some e) = (e.point < length kept)
    × (count_in (point_list_at kept e.point) ≡ Some e.count) × AreShortBelow kept e.point

-- the place and the count of the first point of a handler that has too many symbols
pub record IsFirstLong (c : CheckedHandler) (at count : ℕ) : Type 0 where
  pub kept : List PointList
  pub lists : ArePointLists (block_code c.body) kept
  pub excess : Excess
  pub first : IsFirstExcess kept (Some excess)
  pub count_is : count ≡ excess.count
  pub place : slice_get (c.at ∷ places (block_code c.body)) excess.point ≡ Some at

-- why a handler has no lists: that first point, or want of memory
abbrev pub IsTooLong : CheckedHandler → AnalysisRefusal → Type 0
IsTooLong c (TooManySymbols at count) = IsFirstLong c at count
IsTooLong c NoMemory = Unit {0}
