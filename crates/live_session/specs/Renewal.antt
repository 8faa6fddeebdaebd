-- What a renewal puts in place of names and tables. Only this crate's own functions cite it.
use Rattle.std.specs.Prelude.{◌≡◌, ℕ, ◌<◌, Bool, false, List, [], length, map, replicate}
use Rattle.std.specs.List.{AllByRecursion}
use Rattle.session_values.specs.Names.{AreDistinct}
use Rattle.session_values.specs.Opening.{AreApart, IsPair, Pair, tables_of}
use Rattle.session_values.specs.Tables.{kind_of}
use Rattle.shard_tables.specs.Slots.{factor_of}
use Rattle.shard_tables.specs.declared.part.Part.{Part}
use Rattle.text_lines.specs.Text.{Text}
use Rattle.live_session.specs.declared.renewing.Replacement.{Replacement}
use Rattle.live_session.specs.Held.{factors_in, held, lists_in}
use Rattle.live_session.specs.Moving.{kept, marked_by_all, marked_first, moved_entries, place_in, set_before}

-- the flags of so many names, of which the first ones are kept, and those of these entries
abbrev pub held_flags : ℕ → ℕ → List (List Pair) → List Bool
held_flags count first lists = marked_by_all (marked_first (replicate count false) first) lists

-- the names that are kept, and the tables with the places that these have
pub record IsRenewal (names : List Text) (first seed : ℕ) (ps : List Part) (r : Replacement) : Type 0
  where
    pub places : List ℕ
    pub distinct : AreDistinct names
    pub names_are : r.names ≡ kept (held_flags (length names) first (lists_in ps)) names
    pub places_are : (i : ℕ) → i < length names
        → place_in places i ≡ set_before i (held_flags (length names) first (lists_in ps))
    pub tables_are : held r.tables.parts.items ≡ tables_of (map kind_of (held ps))
        (map (moved_entries (place_in places)) (lists_in ps))
    pub apart : AllByRecursion AreApart (lists_in ps)
    pub pairs : AllByRecursion (AllByRecursion IsPair)
        (map (moved_entries (place_in places)) (lists_in ps))
    pub factors : AllByRecursion (λ n. n ≡ factor_of seed) (factors_in r.tables.parts.items)
    pub history_is : r.history ≡ record {
      opened = map (moved_entries (place_in places)) (lists_in ps);
      first_names = r.names;
      driven = 0;
      lines = [];
      replies = [];
    }
