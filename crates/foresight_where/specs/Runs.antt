-- What a run promises, over its words, its input, the file, its outputs and how it ended.
use Rattle.std.specs.Prelude.{◌≡◌, ◌≢◌, ◌+◌, ◌⊎◌, ℕ, Bool, true, false, ◌&&◌, nat_lt, nat_le, if◌then◌else◌, List, [], ◌∷◌, length, Option, Some, IfSome, codes}
use Rattle.std.specs.Str.{bytes_eq}
use Rattle.byte_ends.specs.Ends.{IsAtEnd, ConsumedAtMost}
use Rattle.refusal_places.specs.Answers.{answer, needs_file, said_of}
use Rattle.refusal_places.specs.RuleTable.{rules_text}
use Rattle.byte_ends.specs.Changes.{Change, Failed, HasNotFailed, IsUntouched, WroteAll, WrotePrefix}
use Rattle.refusal_advice.specs.declared.explaining.Form.{Form}
use Rattle.refusal_advice.specs.declared.explaining.Form.TheVariants as form
use Rattle.foresight_where.specs.declared.ending.Ending.{Ending}
use Rattle.foresight_where.specs.declared.ending.Ending.TheVariants.{Reported, Usage, NoMemory, ReadFault, TooLarge, WriteFault}
use Rattle.foresight_where.specs.Chosen.{refusal_line}
use Rattle.foresight_where.specs.Endings.{line_of, most, version_line}
use Rattle.foresight_where.specs.Showing.{IsTextOf, Written, has_begun_writing, has_written, placed}

-- where the test holds, the first, else the second
abbrev pub Either : Bool → Type 0 → Type 0 → Type 0
Either true A B = A
Either false A B = B

-- ---- what is due

-- whether what is told of the first refusal of this input depends on the file
abbrev pub asks_for_file : List ℕ → Bool
asks_for_file input = needs_file (said_of (refusal_line input))

-- whether the file is read for this input, which isn't too long
abbrev pub is_looked_at : List ℕ → Bool
is_looked_at input = nat_le (length input) most && asks_for_file input

-- the bytes of the file that are looked at, where they are told: none where it isn't read
abbrev pub looked_at : List ℕ → Option (List ℕ) → Option (List ℕ)
looked_at input file = if is_looked_at input then file else (Some [])

-- How a run ends in which nothing fails and memory suffices: an input or a file is too large, or
-- the first refusal of the input names nothing or a place of the file, or the input is handed on.
abbrev pub due : List ℕ → List ℕ → List ℕ → Ending
due name input file =
    if nat_lt most (length input) then TooLarge
    else (if nat_lt most (length file) then TooLarge
    else (placed (answer name file (refusal_line input))))

-- what an input and a file are answered with, and what of the answer was written
pub record Answered {O : Type 0} (f : Form) (name input file : List ℕ) (out : Change O) (e : Ending)
    : Type 0 where
  -- It ends as is due, unless memory runs out, a read fails or a write fails.
  pub ending : (e ≡ due name input file)
      ⊎ ((e ≡ NoMemory) ⊎ ((e ≡ ReadFault) ⊎ (e ≡ WriteFault)))
  -- All of its text was written,
  pub written : has_written e ≡ true
      → (text : List ℕ) × IsTextOf f name input file text e × WroteAll out text
  -- or, before a write failed, a front of the text that is due.
  pub front : e ≡ WriteFault → (text : List ℕ)
      × IsTextOf f name input file text (due name input file) × WrotePrefix out text

-- ---- what is promised

-- What is written where a text is asked for that takes no input: all of it, or a front of it before
-- a write failed, or memory ran out.
pub record Prints {O : Type 0} (text : List ℕ) (out : Change O) (e : Ending) : Type 0 where
  pub ending : (e ≡ Reported) ⊎ ((e ≡ NoMemory) ⊎ (e ≡ WriteFault))
  pub told : e ≡ Reported → WroteAll out text
  pub front : e ≡ WriteFault → WrotePrefix out text
  -- Its clauses are `write_fault`, `written_well` and `unwritten`.
  pub written : Written out e

-- what is shown to an input that is read
pub record PlacesIn {F O : Type 0} (f : Form) (name input : List ℕ) (files : Change F)
    (file : Option (List ℕ)) (out : Change O) (e : Ending) : Type 0 where
  pub usage : e ≢ Usage
  -- An opening or one read of the file failed; with any other ending none failed.
  pub read_fault : e ≡ ReadFault → Failed files
  pub read_well : e ≢ ReadFault → HasNotFailed files
  pub written : Written out e
  -- The file is opened only where the first refusal needs it, and is read to its end.
  pub unopened : asks_for_file input ≡ false → IsUntouched files
  pub file_end : asks_for_file input ≡ true → has_begun_writing e ≡ true
      → IsAtEnd file (files.bytes files.new)
  pub answered : IfSome (looked_at input file) (λ bytes. Answered f name input bytes out e)

-- a run that is asked to tell of a file with this name in this form; what the file has, where that is
-- told, is given beside it
pub record Places {I F O : Type 0} (f : Form) (name : List ℕ) (source : Change I) (files : Change F)
    (file : Option (List ℕ)) (out : Change O) (e : Ending) : Type 0 where
  pub usage : e ≢ Usage
  -- One read of the input failed and no file was opened, or an opening or a read of the file
  -- failed, and nothing was read after it. With any other ending none failed.
  pub read_fault : e ≡ ReadFault
      → (Failed source × IsUntouched files) ⊎ (HasNotFailed source × Failed files)
  pub read_well : e ≢ ReadFault → HasNotFailed source × HasNotFailed files
  -- Its clauses are `write_fault`, `written_well` and `unwritten`.
  pub written : Written out e
  -- The input is read to its end, or up to the first byte that is too many; never further.
  pub end : has_begun_writing e ≡ true → IsAtEnd (source.bytes source.old) (source.bytes source.new)
  pub lost : ConsumedAtMost (source.bytes source.old) (source.bytes source.new) (most + 1)
  -- The file is opened only where the first refusal needs it, and is read to its end.
  pub unopened : IfSome (source.bytes source.old)
      (λ input. is_looked_at input ≡ false → IsUntouched files)
  pub file_end : IfSome (source.bytes source.old)
      (λ input. is_looked_at input ≡ true → has_begun_writing e ≡ true
      → IsAtEnd file (files.bytes files.new))
  -- Its clauses are `ending`, `written` and `front`.
  pub answered : IfSome (source.bytes source.old)
      (λ input. IfSome (looked_at input file) (λ bytes. Answered f name input bytes out e))

-- a run that was asked for such a text; it reads nothing
pub record Tells {I F O : Type 0} (text : List ℕ) (source : Change I) (files : Change F)
    (out : Change O) (e : Ending) : Type 0 where
  pub unread : IsUntouched source × IsUntouched files
  pub printed : Prints text out e

-- a run with words that are none of the program's; it reads and writes nothing
pub record IsRefused {I F O : Type 0} (source : Change I) (files : Change F) (out : Change O)
    (e : Ending) : Type 0 where
  pub usage : e ≡ Usage
  pub unread : IsUntouched source × IsUntouched files
  pub unwritten : IsUntouched out

-- a run with one word, which is a file's name unless it is one of three; the version takes no memory
abbrev pub RunsAlone : {I F O : Type 0} → List ℕ → Change I → Change F → Option (List ℕ)
    → Change O → Ending → Type 0
RunsAlone word source files file out e =
    Either (bytes_eq word (codes "--rules")) (Tells rules_text source files out e)
    (Either (bytes_eq word (codes "--version"))
    (Tells version_line source files out e × (e ≢ NoMemory))
    (Either (bytes_eq word (codes "--json")) (IsRefused source files out e)
    (Places form.Text word source files file out e)))

-- a run with a word and a file's name
abbrev pub RunsBefore : {I F O : Type 0} → List ℕ → List ℕ → Change I → Change F
    → Option (List ℕ) → Change O → Ending → Type 0
RunsBefore word name source files file out e =
    Either (bytes_eq word (codes "--json")) (Places form.Json name source files file out e)
    (IsRefused source files out e)

-- A run with these words. Beside the files stands what the file of each name has, where that is
-- told.
abbrev pub Runs : {I F O : Type 0} → List (List ℕ) → Change I → Change F
    → (List ℕ → Option (List ℕ)) → Change O → Ending → Type 0
Runs (word ∷ []) source files file_of out e =
    RunsAlone word source files (file_of word) out e
Runs (word ∷ name ∷ []) source files file_of out e =
    RunsBefore word name source files (file_of name) out e
Runs [] source files file_of out e = IsRefused source files out e
Runs (word ∷ name ∷ more ∷ words) source files file_of out e = IsRefused source files out e

-- The line on the error output is that of the ending and no write of it failed; or a write failed,
-- none was tried after it, and a front of the line stands there.
pub record EndsWithLine {E : Type 0} (err : Change E) (e : Ending) : Type 0 where
  pub line : WroteAll err (line_of e) ⊎ Failed err × WrotePrefix err (line_of e)
  -- A run that has written all writes none.
  pub quiet : has_written e ≡ true → IsUntouched err
