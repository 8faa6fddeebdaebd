-- What is written, and what becomes of the output.
use Rattle.std.specs.Prelude.{◌≡◌, ◌≢◌, ◌⊎◌, ℕ, Bool, true, false, List, ◌++◌, Option, Some, None}
use Rattle.refusal_advice.specs.Json.{IsJson}
use Rattle.refusal_advice.specs.Told.{IsTold}
use Rattle.refusal_places.specs.Answers.{answer}
use Rattle.byte_ends.specs.Changes.{Change, Failed, HasNotFailed, IsUntouched, WroteAll, WrotePrefix}
use Rattle.foresight_where.specs.Chosen.{back_of, front_of, refusal_line}
use Rattle.foresight_where.specs.Endings.{null_line}
use Rattle.refusal_advice.specs.declared.explaining.Form.{Form}
use Rattle.refusal_advice.specs.declared.explaining.Form.TheVariants as form
use Rattle.foresight_where.specs.declared.ending.Ending.{Ending}
use Rattle.foresight_where.specs.declared.ending.Ending.TheVariants.{Reported, HandedOn, Usage, NoMemory, ReadFault, TooLarge, WriteFault}

-- whether a run that ended so has written all
abbrev pub has_written : Ending → Bool
has_written Reported = true
has_written HandedOn = true
has_written Usage = false
has_written NoMemory = false
has_written ReadFault = false
has_written TooLarge = false
has_written WriteFault = false

-- whether a run that ended so came to its output
abbrev pub has_begun_writing : Ending → Bool
has_begun_writing WriteFault = true
has_begun_writing e = has_written e

-- what becomes of the output
pub record Written {O : Type 0} (out : Change O) (e : Ending) : Type 0 where
  -- One write failed, and none was tried after it; with any other ending none failed.
  pub write_fault : e ≡ WriteFault → Failed out
  pub written_well : e ≢ WriteFault → HasNotFailed out
  -- Where the run didn't come to its output, nothing is written.
  pub unwritten : has_begun_writing e ≡ false → IsUntouched out

-- how a run ends by the text of a place, if there is one
abbrev pub placed : Option (List ℕ) → Ending
placed (Some text) = Reported
placed None = HandedOn

-- The first refusal of an input is told of: in place of its line stands the text of the place, and
-- behind that what is advised there; the lines before and behind it stand as they were.
pub record IsToldWithin (name input file text : List ℕ) : Type 0 where
  pub told : List ℕ
  pub told_is : IsTold name file (refusal_line input) told
  pub text_is : text ≡ front_of input ++ (told ++ back_of input)

-- What a run writes that ends so: its first refusal is told of, or the input stands as it is. As JSON
-- the first refusal alone is told of, or nothing is; the input's other lines aren't written.
abbrev pub IsTextOf : Form → List ℕ → List ℕ → List ℕ → List ℕ → Ending → Type 0
IsTextOf form.Text name input file text Reported = IsToldWithin name input file text
IsTextOf form.Text name input file text HandedOn = text ≡ input
IsTextOf form.Json name input file text Reported = IsJson name file (refusal_line input) text
IsTextOf form.Json name input file text HandedOn = text ≡ null_line
IsTextOf f name input file text Usage = ⊥
IsTextOf f name input file text NoMemory = ⊥
IsTextOf f name input file text ReadFault = ⊥
IsTextOf f name input file text TooLarge = ⊥
IsTextOf f name input file text WriteFault = ⊥

-- What follows is spoken of by this crate's functions alone.

-- these bytes were written and it ended as wanted, or a write failed and a front of them stands
-- there
abbrev pub Writes : {O : Type 0} → List ℕ → Ending → Change O → Ending → Type 0
Writes bytes wanted out e = ((e ≡ wanted) × WroteAll out bytes)
    ⊎ ((e ≡ WriteFault) × Failed out × WrotePrefix out bytes)

-- a run ends so that reads nothing more: it is at its output, or wants memory
abbrev pub is_shown : Ending → Bool
is_shown Reported = true
is_shown HandedOn = true
is_shown Usage = false
is_shown NoMemory = true
is_shown ReadFault = false
is_shown TooLarge = false
is_shown WriteFault = true

-- what is written for an input and a file
pub record Shows {O : Type 0} (f : Form) (name input file : List ℕ) (out : Change O) (e : Ending)
    : Type 0 where
  pub ends : is_shown e ≡ true
  pub ending : (e ≡ placed (answer name file (refusal_line input))) ⊎ ((e ≡ NoMemory) ⊎ (e ≡ WriteFault))
  pub written : has_written e ≡ true
      → (text : List ℕ) × IsTextOf f name input file text e × WroteAll out text
  pub front : e ≡ WriteFault → (text : List ℕ)
      × IsTextOf f name input file text (placed (answer name file (refusal_line input)))
      × WrotePrefix out text
  pub output : Written out e
