-- The number of a text among a session's names.
use Rattle.std.specs.Prelude.{◌≡◌, ℕ, suc, ◌<◌, ◌≤◌, ◌⊎◌, true, false, [], ◌∷◌, ◌++◌, length}
use Rattle.std.specs.Prelude.{slice_get, Some, Contains, Result, Ok, Err}
use Rattle.text_lines.specs.Text.{Text}
use Rattle.text_lines.specs.Values.{is_symbol}
use Rattle.live_session.specs.declared.answers.NameError.{NameError}
use Rattle.live_session.specs.declared.answers.NameError.TheVariants as unnamed
use Rattle.live_session.specs.Live.{LiveView}

-- a symbol's text that isn't among the names
pub record IsNewName (v : LiveView) (text : Text) : Type 0 where
  pub symbol : is_symbol text ≡ true
  pub absent : Contains v.names text → ⊥

-- the text was there, and nothing changed; or it was new, and stands behind the other names
abbrev pub HasName : LiveView → Text → LiveView → Type 0
HasName v text w = (w ≡ v)
    ⊎ (IsNewName v text × (length v.names < v.most_names)
    × (w ≡ record v { names = v.names ++ text ∷ []; driven = suc v.driven }))

-- the number of a text is told; or it has none, and nothing changed
abbrev pub NamedAs : LiveView → LiveView → Text → Result ℕ NameError → Type 0
NamedAs v w text (Ok place) =
    (is_symbol text ≡ true) × (slice_get w.names place ≡ Some text) × HasName v text w
NamedAs v w text (Err unnamed.NoSymbol) = (w ≡ v) × (is_symbol text ≡ false)
NamedAs v w text (Err unnamed.TooManyNames) =
    (w ≡ v) × IsNewName v text × (v.most_names ≤ length v.names)
NamedAs v w text (Err unnamed.NoMemory) = (w ≡ v) × IsNewName v text
