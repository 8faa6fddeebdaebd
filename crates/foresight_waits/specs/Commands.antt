-- The command lines of the program.
use Rattle.std.specs.Prelude.{ℕ, if◌then◌else◌, ◌&&◌, List, [], ◌∷◌, Option, Some, None, codes}
use Rattle.std.specs.Str.{bytes_eq}
use denote.Ref.{Bor}
use Rattle.waiting_pairs.specs.declared.form.Form.{Form}
use Rattle.waiting_pairs.specs.declared.form.Form.TheVariants.{Lines, Json}
use Rattle.foresight_waits.specs.declared.command.Subject.{Subject}
use Rattle.foresight_waits.specs.declared.command.Subject.TheVariants.{Waits, Delays}
use Rattle.foresight_waits.specs.declared.command.Command.{Command}
use Rattle.foresight_waits.specs.declared.command.Command.TheVariants.{Tell, Version}

-- what is asked for: to tell of this in this form, of the file with this name, or without one of
-- the input; or to tell the program's version
pub data Asked : Type 0 where
  tell : Subject → Form → Option (List ℕ) → Asked
  version : Asked

-- the command of one word
abbrev pub alone : List ℕ → Asked
alone word =
    if bytes_eq word (codes "--json") then tell Waits Json None
    else (if bytes_eq word (codes "--trace") then tell Delays Lines None
    else (if bytes_eq word (codes "--version") then version else tell Waits Lines (Some word)))

-- the command of a word behind `--trace`
abbrev pub behind_trace : List ℕ → Asked
behind_trace word =
    if bytes_eq word (codes "--json") then tell Delays Json None else tell Delays Lines (Some word)

-- the command of two words: behind `--json` comes a file's name
abbrev pub followed : List ℕ → List ℕ → Option Asked
followed word next =
    if bytes_eq word (codes "--json") then Some (tell Waits Json (Some next))
    else (if bytes_eq word (codes "--trace") then Some (behind_trace next) else None)

-- the command of two words and a file's name
abbrev pub behind_both : List ℕ → List ℕ → List ℕ → Option Asked
behind_both word next name =
    if bytes_eq word (codes "--trace") && bytes_eq next (codes "--json")
    then Some (tell Delays Json (Some name)) else None

-- the command that the words ask for, if they are a command line
abbrev pub command_of : List (List ℕ) → Option Asked
command_of [] = Some (tell Waits Lines None)
command_of (word ∷ []) = Some (alone word)
command_of (word ∷ name ∷ []) = followed word name
command_of (word ∷ next ∷ name ∷ []) = behind_both word next name
command_of (word ∷ next ∷ name ∷ more ∷ words) = None

-- ---- what the code finds

-- what a text of the code holds, if there is one
abbrev pub text_option : Option (Bor (List ℕ)) → Option (List ℕ)
text_option None = None
text_option (Some t) = Some t.now

-- what a command of the code asks for, if there is one
abbrev pub asked : Command → Asked
asked (Tell subject form name) = tell subject form (text_option name)
asked Version = version

abbrev pub asked_option : Option Command → Option Asked
asked_option None = None
asked_option (Some command) = Some (asked command)
