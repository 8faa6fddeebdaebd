-- What stands between tokens, in words of its own.
use Rattle.std.specs.Prelude.{◌≡◌, ◌≢◌, ℕ, Bool, true, ◌||◌, ◌==◌, List, [], ◌∷◌, ◌++◌}
use Rattle.std.specs.List.{AllByRecursion}
use Rattle.text_lines.specs.Bytes.{is_blank}

-- a blank or a line feed
abbrev pub is_space : ℕ → Bool
is_space b = is_blank b || b == 10

-- one blank or line feed, or a comment, given without its `#`
pub data Filler : Type 0 where
  Space : ℕ → Filler
  Comment : List ℕ → Filler

-- the text is at an end of a line
abbrev pub EndsLine : List ℕ → Type 0
EndsLine [] = Unit {0}
EndsLine (b ∷ bs) = b ≡ 10

-- the text is a comment, which has no line feed, and then what stands after it, from the end of the
-- line on
pub record IsComment (comment text after : List ℕ) : Type 0 where
  pub whole : text ≡ 35 ∷ comment ++ after
  pub one_line : AllByRecursion (λ b. b ≢ 10) comment
  pub ends : EndsLine after

-- the text is these blanks, line feeds and comments, and then the rest
abbrev pub Fills : List Filler → List ℕ → List ℕ → Type 0
Fills [] text rest = text ≡ rest
Fills (Space b ∷ more) text rest = (after : List ℕ) × (text ≡ b ∷ after) × (is_space b ≡ true)
    × Fills more after rest
Fills (Comment comment ∷ more) text rest = (after : List ℕ) × IsComment comment text after
    × Fills more after rest

-- only blanks, line feeds and comments stand in the text before the rest
abbrev pub IsGap : List ℕ → List ℕ → Type 0
IsGap text rest = (fillers : List Filler) × Fills fillers text rest
