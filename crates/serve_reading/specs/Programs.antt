-- Handlers that break no rule, with their lists.
use Rattle.std.specs.Prelude.{◌≡◌, ℕ, Bool, true, false, List, []}
use Rattle.handler_syntax.specs.Language.{File, IsSourceOf, AreNamed, canonical_text, file_mentions, names_of, shown_text}
use Rattle.handler_check.specs.Checking.{IsAccepted}
use Rattle.may_use_analysis.specs.Later.{AreLater, HasLater}
use Rattle.declaration_insertion.specs.Program.{ProgramView}
use Rattle.declaration_insertion.specs.Shown.{shown_of}
use Rattle.serve_faults.specs.Input.{IsInput}
use Rattle.serve_faults.specs.Ways.{describing}

-- they are those of the text and break no rule, and their lists are those of their points
pub record IsProgramOf (text : List ℕ) (p : ProgramView) : Type 0 where
  pub form : IsSourceOf [] text p.file
  pub accepted : IsAccepted p.file
  pub later : AreLater p.file p.lists

-- bytes are the text of this file, whose names are these
pub record IsParsed (bytes : List ℕ) (file : File) (names : List (List ℕ)) : Type 0 where
  pub input : (shown : Bool) → IsInput (describing shown) bytes
  pub form : IsSourceOf [] bytes file
  pub names_are : names ≡ names_of [] bytes
  pub named : AreNamed names (file_mentions file)

-- the file breaks no rule, has lists, and this is its canonical text
pub record IsCanonical (names : List (List ℕ)) (file : File) (text : List ℕ) : Type 0 where
  pub accepted : IsAccepted file
  pub later : HasLater file
  pub text_is : text ≡ canonical_text names file

-- the file breaks no rule, has lists, and this is its text with the declarations
pub record IsDeclared (names : List (List ℕ)) (file : File) (text : List ℕ) : Type 0 where
  pub accepted : IsAccepted file
  pub later : HasLater file
  pub text_is : text ≡ shown_text names (shown_of (record { file = file; lists = later.0 })) file

-- with the declarations or without
abbrev pub Describes : Bool → List (List ℕ) → File → List ℕ → Type 0
Describes true names file text = IsDeclared names file text
Describes false names file text = IsCanonical names file text
