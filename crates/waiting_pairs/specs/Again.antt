-- The waits of points at which the same is declared. Only this crate's own functions cite it.
use Rattle.std.specs.Prelude.{◌≡◌, ℕ, List}
use Rattle.serve_reading.specs.Program.{ProgramView, declared_at}
use Rattle.waiting_pairs.specs.declared.asked.Asked.{Asked}
use Rattle.waiting_pairs.specs.declared.waiting.Wait.{Wait}
use Rattle.waiting_pairs.specs.Waits.{Picks, at_point}

-- the same wait at another point
abbrev pub moved_to : ℕ → Wait → Wait
moved_to point w =
    record { holder = w.holder; point = point; symbol = w.symbol; asked = w.asked }

-- these are the waits of a point at which the same is declared as at this one
pub record AreAlike (p : ProgramView) (asked : List Asked) (holder point : ℕ) (found : List Wait)
    : Type 0 where
  pub at : ℕ
  pub same : declared_at p holder at ≡ declared_at p holder point
  pub picked : Picks (at_point p asked holder at) found
