-- What is written for a file.
use Rattle.std.specs.Prelude.{◌≡◌, ◌⊎◌, IsUtf8, if◌then◌else◌, List, [], codes}
use Rattle.std.specs.List.{list_any}
use Rattle.refusal_places.specs.Text.{Text, lines as lines_of}
use Rattle.serve_reading.specs.Divide.{before, is_dividing, is_table_mark}
use Rattle.serve_reading.specs.Language.{File, names_of}
use Rattle.serve_reading.specs.Message.{fault_line}
use Rattle.serve_reading.specs.Program.{ProgramView}
use Rattle.serve_reading.specs.Programs.{IsProgramOf}
use Rattle.serve_reading.specs.Reasons.{IsProgramReason}
use Rattle.serve_reading.specs.declared.load_error.LoadError.{LoadError}
use Rattle.serve_reading.specs.declared.load_error.LoadError.TheVariants.{NoMemory, Refused}
use Rattle.waiting_pairs.specs.declared.waiting.Wait.{Wait}
use Rattle.waiting_pairs.specs.declared.form.Form.{Form}
use Rattle.waiting_pairs.specs.declared.form.Form.TheVariants.{Lines, Json}
use Rattle.waiting_pairs.specs.Json.{json}
use Rattle.waiting_pairs.specs.Lines.{lines}
use Rattle.waiting_pairs.specs.Waits.{AreWaits}

-- the handlers of a file: of a session file what stands before its tables and requests, else all
abbrev pub handlers_of : Text → Text
handlers_of text = if list_any is_dividing (lines_of text)
    then before is_table_mark (before is_dividing text) else text

-- the text of waits in this form
abbrev pub text_in : Form → List Text → File → Text → List Wait → Text
text_in Lines names f text waits = lines names f text waits
text_in Json names f text waits = json names f text waits

-- the text tells in this form who waits for whom in the program that these handlers are
pub record IsToldOf (form : Form) (handlers text : Text) : Type 0 where
  pub program : ProgramView
  pub is_program : IsProgramOf handlers program
  pub waits : List Wait
  pub are_waits : AreWaits program waits
  pub text_is : text ≡ text_in form (names_of [] handlers) program.file handlers waits

abbrev pub IsTold : Form → Text → Text → Type 0
IsTold form input text = IsToldOf form (handlers_of input) text

-- the file is no UTF-8, and that is said
abbrev pub IsNoText : Text → LoadError → Type 0
IsNoText input (Refused fault) = (fault_line fault ≡ codes "refused T4\n") × (IsUtf8 input → ⊥)
IsNoText input NoMemory = ⊥

-- why nothing is told: the file is no UTF-8, memory ran out, or this is the first fault of the
-- handlers
abbrev pub IsUntold : Text → LoadError → Type 0
IsUntold input e = IsNoText input e ⊎ IsProgramReason (handlers_of input) e
