-- A list of different texts.
use Rattle.std.specs.Prelude.{◌≡◌, ℕ, ◌≤◌, List, [], ◌∷◌, ◌++◌, length, slice_get, Some, if◌then◌else◌}
use Rattle.std.specs.List.{list_any, position_or_len}
use Rattle.std.specs.Str.{bytes_eq}
use Rattle.session_values.specs.Limits.{max_name}

-- the list with a text at its end, unless it is there
abbrev pub with_text : List (List ℕ) → List ℕ → List (List ℕ)
with_text names text = if list_any (bytes_eq text) names then names else names ++ text ∷ []

-- no text stands at two places
abbrev pub AreDistinct : List (List ℕ) → Type 0
AreDistinct names = (i j : ℕ) (text : List ℕ) → slice_get names i ≡ Some text
    → slice_get names j ≡ Some text → i ≡ j

-- the place of a text, or the length of the list where it isn't there
abbrev pub place_of : List (List ℕ) → List ℕ → ℕ
place_of names text = position_or_len (bytes_eq text) names

-- the first list stands at the front of the second
abbrev pub Begins : List (List ℕ) → List (List ℕ) → Type 0
Begins front all = (more : List (List ℕ)) × (all ≡ front ++ more)

-- the place has a text, of at most 64 bytes, as that of a name or a symbol is
pub record IsNamed (names : List (List ℕ)) (place : ℕ) : Type 0 where
  pub text : List ℕ
  pub at : slice_get names place ≡ Some text
  pub short : length text ≤ max_name
