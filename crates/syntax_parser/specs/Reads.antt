-- What a function of the parser does to its input. Only this crate's own functions cite it.
use Rattle.std.specs.Prelude.{◌≡◌, ◌≢◌, ◌≤◌, ◌<◌, length, List, [], ◌∷◌, ◌++◌, Option, Some, Result, Ok, Err, OnOk}
use Rattle.std.specs.List.{AllByRecursion}
use Rattle.syntax_grammar.specs.declared.word.Sort.TheVariants as sort
use Rattle.syntax_grammar.specs.declared.word.Word.{Word}
use Rattle.syntax_grammar.specs.Reading.{Reading}
use Rattle.syntax_parser.specs.declared.input.Input.{Input}
use Rattle.syntax_grammar.specs.declared.refusals.SyntaxRefusal.{SyntaxRefusal}
use Rattle.syntax_grammar.specs.declared.refusals.SyntaxRefusal.TheVariants.{NoMemory}
use Rattle.syntax_grammar.specs.Next.{Part, fault}

-- the end is none of these words
abbrev pub HasNoEnd : List Word → Type 0
HasNoEnd ws = AllByRecursion (λ w. w.sort ≢ sort.End) ws

-- the first fault, where these parts are to come
abbrev pub fault_at : Input → List Part → Option SyntaxRefusal
fault_at input ps = fault input.reader.end ps input.signs input.reader.words

-- Whatever is still to come behind these parts, where U holds of it, this is the first fault.
pub record Refused (U : List Part → Type 0) (ps : List Part) (old : Input)
    (e : SyntaxRefusal) : Type 0 where
  pub fault_is : (under : List Part) → U under → fault_at old (ps ++ under) ≡ Some e

-- No fault comes between: where parts were to come, now others are.
pub record Passed (U : List Part → Type 0) (ps qs : List Part) (old new : Input) : Type 0 where
  pub end_same : new.reader.end ≡ old.reader.end
  pub no_longer : length new.reader.words ≤ length old.reader.words
  pub no_end : HasNoEnd old.reader.words → HasNoEnd new.reader.words
  pub fault_same : (under : List Part) → U under
      → fault_at old (ps ++ under) ≡ fault_at new (qs ++ under)

-- the words of the phrase were read, and the value is its tree
pub record Found {P T : Type 0} (words : P → List Word → List Word) (tree : P → T)
    (old new : List Word) (t : T) : Type 0 where
  pub phrase : P
  pub read : old ≡ words phrase new
  pub value : t ≡ tree phrase

-- the tree of a phrase whose words were read, or the first fault
abbrev pub Outcome : {P T : Type 0} → (P → List Word → List Word) → (P → T)
    → (List Part → Type 0) → List Part → List Part → Input → Result T SyntaxRefusal → Input → Type 0
Outcome words tree U ps qs old (Ok t) new =
    Found words tree old.reader.words new.reader.words t × Passed U ps qs old new
Outcome words tree U ps qs old (Err e) new = e ≢ NoMemory → Refused U ps old e

-- The names behind all words stay those that they are, and their list the same one, from which no
-- name that was placed is taken back.
pub record NamesStay (old new : Reading) : Type 0 where
  pub same : new.names ≡ old.names
  pub no_fewer : old.count ≤ new.count
  pub home : new.home ≡ old.home

-- A phrase is read, or the first fault is found; and the names stay, also by a refusal.
pub record Reads {P T : Type 0} (words : P → List Word → List Word) (tree : P → T)
    (U : List Part → Type 0) (ps qs : List Part) (old : Input) (r : Result T SyntaxRefusal)
    (new : Input) : Type 0 where
  pub outcome : Outcome words tree U ps qs old r new
  pub kept : NamesStay old.reader new.reader

-- One more phrase is read where a part stands for any number of them. It takes a word at least.
pub record ReadsOneMore {P T : Type 0} (words : P → List Word → List Word) (tree : P → T)
    (U : List Part → Type 0) (p : Part) (old : Input) (r : Result T SyntaxRefusal)
    (new : Input) : Type 0 where
  pub reads : Reads words tree U (p ∷ []) (p ∷ []) old r new
  pub shorter : OnOk r (length new.reader.words < length old.reader.words)
