-- What is printed of a file of handlers.
use Rattle.std.specs.Prelude.{ℕ, List}
use Rattle.handler_syntax.specs.Language.{File, AreNamed, IsCountable, canonical_text, file_mentions, shown_text}
use Rattle.declaration_insertion.specs.Shown.{shown_of}
use Rattle.serve_reading.specs.declared.describing.DescribedFile.{DescribedFile}
use Rattle.serve_reading.specs.declared.describing.DescribedFile.TheVariants.{Canonical, Declared}
use Rattle.serve_reading.specs.declared.describing.Description.{Description}

-- the file itself
abbrev pub file_of : DescribedFile → File
file_of (Canonical file) = file
file_of (Declared program) = program.file

-- its text, with or without its declarations
abbrev pub text_with : List (List ℕ) → DescribedFile → List ℕ
text_with names (Canonical file) = canonical_text names file
text_with names (Declared program) = shown_text names (shown_of program) program.file

abbrev pub text_of : Description → List ℕ
text_of d = text_with d.names d.file

-- the names of the file are in the list, and its text can be put with counters of 32 bits
abbrev pub IsPrintableWith : List (List ℕ) → DescribedFile → Type 0
IsPrintableWith names found =
    AreNamed names (file_mentions (file_of found)) × IsCountable (file_of found)

abbrev pub IsPrintable : Description → Type 0
IsPrintable d = IsPrintableWith d.names d.file
