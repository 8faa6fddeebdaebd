-- What the two iterators give, and what a word's value takes of a line.
use Rattle.std.specs.Prelude.{◌≡◌, ℕ, ◌+◌, List, [], ◌∷◌, ◌++◌, drop, Option, None, MatchOption, Result, MatchResult}
use denote.Ref.{Bor}
use Rattle.session_values.specs.declared.value.Value.{Value}
use Rattle.text_lines.specs.Text.{Text, lines, words}
use Rattle.text_lines.specs.Values.{placed, value_of}
use Rattle.text_lines.specs.declared.line.Line.{Line}
use Rattle.text_lines.specs.declared.lines.Lines.{Lines}

-- the word stands in the line from some place on, and the rest behind it
abbrev pub IsSliceOf : Text → Text → Text → Type 0
IsSliceOf line word rest = (k : ℕ) × (word ++ rest ≡ drop k line)

-- the first word of a line, as a slice of it, and the rest behind it
abbrev pub IsFirstWord : Text → Text → Text → Type 0
IsFirstWord line word rest = (words line ≡ word ∷ words rest) × IsSliceOf line word rest

-- no word is left, and nothing changes; or the first that is left, as a slice of the line
abbrev pub TakesWord : Line → Option (Bor Text) → Line → Type 0
TakesWord old r new = MatchOption r
    ((words old.rest.now ≡ []) × (new ≡ old))
    (λ w. IsFirstWord old.rest.now w.now new.rest.now)

-- the value of a word, if it is one, and the names with the word
abbrev pub IsValueOf : List Text → Text → Option Value → List Text → Type 0
IsValueOf names word v after = (v ≡ value_of after word) × (after ≡ placed names word)

-- the first word of a line is taken, with the names in which it has its value
abbrev pub IsTaken : List Text → Text → Option Value → Text → List Text → Type 0
IsTaken names line v rest after = (word : Text) × IsFirstWord line word rest
    × IsValueOf names word v after

-- no word is left, and nothing changes; or the first word that is left is taken so
abbrev pub FindsValue : Line → List Text → Option (Option Value) → Line → List Text → Type 0
FindsValue old names found new after = MatchOption found (TakesWord old None new × (after ≡ names))
    (λ v. IsTaken names old.rest.now v new.rest.now after)

-- so, or the first word is taken where memory is too small for the names, and they stay
abbrev pub TakesValue : {E : Type 0} → Line → List Text → Result (Option (Option Value)) E → Line
    → List Text → Type 0
TakesValue old names r new after = MatchResult r (λ found. FindsValue old names found new after)
    (λ _. (word : Text) × IsFirstWord old.rest.now word new.rest.now × (after ≡ names))

-- no line is left, and nothing changes; or the first that is left, with its number
abbrev pub TakesLine : Lines → Option (ℕ × Line) → Lines → Type 0
TakesLine old r new = MatchOption r
    ((lines old.rest.now ≡ []) × (new ≡ old))
    (λ l. (lines old.rest.now ≡ l.1.rest.now ∷ lines new.rest.now) × (l.0 ≡ old.number)
    × (new.number ≡ old.number + 1))
