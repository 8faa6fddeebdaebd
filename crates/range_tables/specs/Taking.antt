-- What taking a step does to what a session holds. Only this crate's own functions cite it.
use Rattle.std.specs.Prelude.{◌≡◌, ℕ, List, [], ◌∷◌, ◌++◌, Ok, map}
use Rattle.range_tables.specs.Shards.{MapView, map_shard}
use Rattle.text_lines.specs.Text.{Text}
use Rattle.range_tables.specs.declared.step.Step.{Step}
use Rattle.range_tables.specs.Faults.{Holds}
use Rattle.range_tables.specs.Session.{Desk, Does}
use Rattle.range_tables.specs.Steps.{step_of}
use Rattle.range_tables.specs.Words.{word_of}

-- the desk of a map, some holds and the number of operations asked for
abbrev pub desk_of : MapView → Holds → ℕ → Desk
desk_of map holds asked = record {
  tables = (map_shard map).container ∷ [];
  holds = holds;
  asked = asked;
}

-- what a step writes stands behind what was written before
pub record Takes (names : List Text) (d : Desk) (step : Step) (before after : Text)
    (next : Desk) : Type 0 where
  pub line : Text
  pub does : Does names d (Ok step) line next
  pub behind : after ≡ before ++ line

-- a line is taken: the step that its words ask for
pub record TakesLine (names : List Text) (d : Desk) (name : Text) (words : List Text)
    (before after : Text) (next : Desk) : Type 0 where
  pub step : Step
  pub step_is : step_of name (map (word_of names) words) ≡ Ok step
  pub takes : Takes names d step before after next
