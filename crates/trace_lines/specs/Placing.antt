-- Words with the places of their symbols. Only this crate's own functions cite it.
use Rattle.std.specs.Prelude.{◌≡◌, ℕ, ◌==◌, if◌then◌else◌, List, drop, map, slice_get, slice_index, Option, Some, None, IfSome}
use Rattle.session_values.specs.Names.{place_of}
use Rattle.text_lines.specs.Text.{Text}
use Rattle.text_lines.specs.Values.{is_symbol}
use Rattle.trace_lines.specs.declared.words.Word.{Word}

-- more words than stand behind the first of an event
abbrev pub max_words : ℕ
max_words = 11

-- the texts of some words
abbrev pub texts : List Word → List Text
texts ws = map (λ (w : Word). w.text.now) ws

-- the place of a text, if it is a symbol's
abbrev pub place_if_symbol : List Text → Text → Option ℕ
place_if_symbol names t = if is_symbol t then Some (place_of names t) else None

-- the place of the symbol of which the word is the literal, if it is one
abbrev pub symbol_place : List Text → Text → Option ℕ
symbol_place names w = if slice_index w 0 == 39 then place_if_symbol names (drop 1 w) else None

-- the word has its symbol's place, where the symbol stands
pub record IsPlaced (names : List Text) (w : Word) : Type 0 where
  pub place : w.place ≡ symbol_place names w.text.now
  pub there : IfSome w.place (λ p. slice_get names p ≡ Some (drop 1 w.text.now))
