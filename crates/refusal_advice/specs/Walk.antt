-- The walk over words up to a place, as the code does it. Only this crate's own functions cite it.
use Rattle.std.specs.Prelude.{◌≡◌, ℕ, Bool, ◌==◌, if◌then◌else◌, List, [], ◌∷◌, ◌++◌, Option, Some, None, is_some}
use Rattle.std.specs.List.{filter}
use Rattle.syntax_grammar.specs.Reading.{Reading}
use Rattle.syntax_grammar.specs.declared.word.Sort.{Sort}
use Rattle.syntax_grammar.specs.declared.word.Sort.TheVariants as sort
use Rattle.syntax_grammar.specs.declared.word.Word.{Word}
use Rattle.syntax_grammar.specs.Next.{Part, Taken, tables, handlers, taking, may_end}
use Rattle.syntax_grammar.specs.Phrase.{word}
use Rattle.refusal_advice.specs.Classes.{classes, word_of}
use Rattle.refusal_advice.specs.declared.class.Class.{Class}
use Rattle.refusal_advice.specs.declared.class.Class.TheVariants as class
use Rattle.refusal_advice.specs.declared.stop.Stop.{Stop}

-- a word of the class can come where these parts are to come
abbrev pub allows : List Part → Class → Bool
allows ps class.End = may_end ps
allows ps c = is_some (taking ps (word_of c))

-- a word, the one before it, and the parts that are to come there
pub record Place : Type 0 where
  pub word : Word
  pub last : Option Sort
  pub parts : List Part

abbrev pub place_of : Word → Option Sort → List Part → Place
place_of w last ps = record { word = w; last = last; parts = ps }

abbrev pub behind_taken : (List Part → Option Place) → Option Taken → Option Place
behind_taken rest None = None
behind_taken rest (Some t) = rest (t.left ++ t.under)

-- the first word at a place, if the parts take all words before it
abbrev pub found_in : ℕ → Option Sort → List Part → List Word → Option Place
found_in at last ps [] = None
found_in at last ps (w ∷ ws) =
    if w.at == at then Some (place_of w last ps)
    else behind_taken (λ qs. found_in at (Some w.sort) qs ws) (taking ps w.sort)

-- the words that a reader still has, and the end
abbrev pub with_end : Reading → List Word
with_end r = r.words ++ word sort.End r.end ∷ []

-- what the code found, with the parts that it left
abbrev pub IsFound : Option Place → List Part → Option (Word × Option Sort) → Type 0
IsFound found ps None = found ≡ None
IsFound found ps (Some f) = found ≡ Some (place_of f.0 f.1 ps)

-- the parts of a whole text
abbrev pub whole : List Part
whole = tables ∷ handlers ∷ []

-- what was found there, and the classes that the parts allow
abbrev pub IsStopIn : Option Place → Option Stop → Type 0
IsStopIn found None = found ≡ None
IsStopIn found (Some s) = (ps : List Part) × (found ≡ Some (place_of s.word s.last ps))
    × (s.wanted.items ≡ filter (allows ps) classes)
