-- Some requests of a list, by their numbers, in another order.
use Rattle.std.specs.Prelude.{◌≢◌, ℕ, ◌<◌, List, [], ◌∷◌, map}
use Rattle.std.specs.List.{AllByRecursion}
use Rattle.request_files.specs.declared.request.Request.{Request}
use Rattle.request_files.specs.Session.{request_at}

-- no number stands there twice
abbrev pub AreDifferent : List ℕ → Type 0
AreDifferent [] = Unit {0}
AreDifferent (n ∷ ns) = AllByRecursion (λ m. m ≢ n) ns × AreDifferent ns

-- the numbers are different ones of so many requests
pub record AreNumbersOf (count : ℕ) (ns : List ℕ) : Type 0 where
  pub below : AllByRecursion (λ n. n < count) ns
  pub different : AreDifferent ns

-- the requests of these numbers, in this order
abbrev pub picked : List Request → List ℕ → List Request
picked requests ns = map (request_at requests) ns
