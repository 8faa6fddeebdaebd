-- What is loaded, and why nothing is, from what the parts of the reading say.
use Rattle.std.proofs.Common.{◌≡◌, ℕ, Bool, true, false, List, [], ◌∷◌, length, map, ◌≤◌, arith, length-append, None, Some, refl, sym, ap, ◌∙◌, subst}
use Rattle.std.specs.Prelude.{IsUtf8}
use Rattle.session_values.specs.Limits.{max_input}
use Rattle.session_values.specs.Names.{Begins}
use Rattle.syntax_trees.specs.Mentions.{AreBelow, AreNamed, Mention, file_mentions}
use Rattle.syntax_trees.proofs.Mentions.{below_kept}
use Rattle.handler_syntax.proofs.TextsKept.{texts_kept}
use Rattle.handler_syntax.specs.Language.{names_of, File, IsNamedFile, canonical_text, shown_text}
use Rattle.handler_check.specs.Checking.{IsAccepted}
use Rattle.may_use_analysis.specs.Later.{AreLater, HasLater}
use Rattle.declaration_insertion.specs.Program.{ProgramView}
use Rattle.declaration_insertion.specs.Shown.{shown_of}
use Rattle.request_files.specs.declared.request.Request.{Request}
use Rattle.request_files.specs.Requests.{request_of, AreRequests, ArePrintable, first_fault, no_requests}
use Rattle.request_files.specs.declared.refusal.RequestRefusal.{RequestRefusal}
use Rattle.session_values.specs.Opening.{Pair, IsOpening}
use Rattle.table_lines.specs.TableRows.{ArePrintable as ArePrintableEntries, AreTables, first_table_fault}
use Rattle.table_lines.specs.Opened.{opened_by}
use Rattle.table_lines.proofs.OpenedLemmas.{opened_is}
use Rattle.handler_check.specs.Resolved.{shape_of}
use Rattle.session_values.specs.ReplyText.{IsPrintable}
use Rattle.session_values.proofs.Named.{begins_then, printable_kept}
use Rattle.std.specs.List.{AllByRecursion}
use Rattle.request_files.specs.Rows.{Row, names_behind}
use Rattle.request_files.specs.Servable.{IsServable}
use Rattle.serve_faults.specs.declared.status.Fault.TheVariants as fault
use Rattle.serve_faults.specs.Input.{Parts, alone_fault, has_mark, IsInput}
use Rattle.serve_faults.specs.Session.{IsProgram, rows_of, table_rows_of, opening_names_of}
use Rattle.serve_faults.specs.Answer.{IsRefused, IsTextOf}
use Rattle.serve_faults.specs.Ways.{describing}
use Rattle.serve_reading.specs.declared.session.Loaded.{Loaded}
use Rattle.serve_reading.specs.declared.load_error.LoadError.{LoadError}
use Rattle.serve_reading.specs.declared.load_error.LoadError.TheVariants.{Refused, NoMemory}
use Rattle.serve_reading.specs.Programs.{Describes, IsDeclared, IsParsed, IsProgramOf}
use Rattle.serve_reading.specs.Reasons.{IsFileReason, IsLinesReason, IsReason, IsSessionReason, IsSyntaxReason}
use Rattle.serve_reading.specs.Sessions.{AreHandlersFirst, AreOpened, IsLoaded}

abbrev pub as_program : (text : List ℕ) (p : ProgramView) → IsProgramOf text p → IsProgram text p.file
as_program text p h = record { form = h.form; accepted = h.accepted; lists = p.lists; later = h.later }

-- ---- tables and requests
-- what can be printed can be printed with more names behind
entries_kept : (old new : List (List ℕ)) (es : List Pair) → Begins old new → AllByRecursion (λ (e : Pair). IsPrintable old e.0 × IsPrintable old e.1) es → AllByRecursion (λ (e : Pair). IsPrintable new e.0 × IsPrintable new e.1) es
entries_kept old new [] b h = tt
entries_kept old new (e ∷ es) b h = ((printable_kept old new e.0 b h.0.0, printable_kept old new e.1 b h.0.1), entries_kept old new es b h.1)

lists_kept : (old new : List (List ℕ)) (lists : List (List Pair)) → Begins old new → ArePrintableEntries old lists → ArePrintableEntries new lists
lists_kept old new [] b h = tt
lists_kept old new (es ∷ lists) b h = (entries_kept old new es b h.0, lists_kept old new lists b h.1)

-- what is mentioned is below a longer list too
pub mentions_kept : (old new : List (List ℕ)) (ms : List Mention) → Begins old new → AreNamed old ms → AreNamed new ms
mentions_kept old new ms b h = below_kept (length old) (length new) ms (omega (arith, ap length b.1, length-append old b.0)) h

-- what both calls of reading say, together
pub both_read : (old mid new : List (List ℕ)) (f : File) (ts rs : List Row) (opening : List (List Pair)) (requests : List Request)
    → AreTables old mid f.tables ts opening → IsOpening (shape_of f) opening → ArePrintableEntries mid opening → Begins old mid
    → AreRequests mid new f rs requests → IsServable f requests → ArePrintable new requests → Begins mid new → AreOpened old new f ts rs opening requests
both_read old mid new f ts rs opening requests tables opens p b read servable printable c =
    let r = subst (λ (ns : List (List ℕ)). AreRequests ns new f rs requests) tables.names read in
    record {
      tables_fine = tables.fine;
      fine = r.fine;
      names_are = r.names;
      opening_is = subst (λ (ns : List (List ℕ)). opening ≡ opened_by old ns f.tables ts) tables.names (opened_is old mid f.tables ts opening tables);
      opens = opens;
      requests_are = r.requests;
      servable = servable;
      kept = begins_then old mid new b c;
      printable_opening = lists_kept mid new opening c p;
      printable = printable;
    }

-- the requests behind tables without a fault have this one
pub behind_tables : (old mid : List (List ℕ)) (f : File) (ts rs : List Row) (opening : List (List Pair)) (e : RequestRefusal) → AreTables old mid f.tables ts opening → first_fault mid f no_requests rs ≡ Some e
    → (first_table_fault old f.tables [] ts ≡ None) × (first_fault (names_behind old ts) f no_requests rs ≡ Some e)
behind_tables old mid f ts rs opening e tables h = (tables.fine, ap (λ (ns : List (List ℕ)). first_fault ns f no_requests rs) (sym tables.names) ∙ h)

-- ---- sessions
pub loaded : (parts : Parts) (l : Loaded) (old : List (List ℕ)) → IsProgramOf parts.handlers l.program → old ≡ names_of [] parts.handlers
    → AreOpened old l.names l.program.file (table_rows_of parts) (rows_of parts) l.opening l.requests → IsNamedFile old l.program.file → IsLoaded parts l
loaded parts l old program e read named =
    let r = subst (λ (ns : List (List ℕ)). AreOpened ns l.names l.program.file (table_rows_of parts) (rows_of parts) l.opening l.requests) e read in
    record {
      program_of = program;
      tables_fine = r.tables_fine;
      fine = r.fine;
      names_are = r.names_are;
      opening_is = r.opening_is;
      opens = r.opens;
      requests_are = r.requests_are ∙ ap (λ (ns : List (List ℕ)). map (request_of (opening_names_of parts) ns l.program.file) (rows_of parts)) r.names_are;
      servable = r.servable;
      named = texts_kept old l.names read.kept (file_mentions l.program.file) named;
      printable_opening = r.printable_opening;
      printable = r.printable;
    }

-- the names of the handlers stand before all others
pub handlers_first : (parts : Parts) (l : Loaded) (old : List (List ℕ)) → old ≡ names_of [] parts.handlers → Begins old l.names → AreNamed old (file_mentions l.program.file) → l.handler_names ≡ length old → AreHandlersFirst parts l
handlers_first parts l old is more below many = record {
  handlers_are = many ∙ ap (λ (ns : List (List ℕ)). length ns) is;
  handlers_first = omega (arith, many, ap length more.1, length-append old more.0);
  handlers_below = subst (λ (n : ℕ). AreBelow n (file_mentions l.program.file)) (sym many) below;
}

-- why lines were refused is why the session is
pub lines_reason : (parts : Parts) (p : ProgramView) (old : List (List ℕ)) (e : LoadError) → IsProgramOf parts.handlers p → old ≡ names_of [] parts.handlers → IsLinesReason old p.file (table_rows_of parts) (rows_of parts) e → IsSessionReason parts e
lines_reason parts p old NoMemory program is h = tt
lines_reason parts p old (Refused (fault.Tables e)) program is h = record {
  file = p.file;
  program = as_program parts.handlers p program;
  first = ap (λ (ns : List (List ℕ)). first_table_fault ns p.file.tables [] (table_rows_of parts)) (sym is) ∙ h;
}
lines_reason parts p old (Refused (fault.Request e)) program is h = record {
  file = p.file;
  program = as_program parts.handlers p program;
  tables = ap (λ (ns : List (List ℕ)). first_table_fault ns p.file.tables [] (table_rows_of parts)) (sym is) ∙ h.0;
  first = ap (λ (ns : List (List ℕ)). first_fault (names_behind ns (table_rows_of parts)) p.file no_requests (rows_of parts)) (sym is) ∙ h.1;
}
lines_reason parts p old (Refused (fault.Syntax e)) program is h = absurd h
lines_reason parts p old (Refused (fault.Check e)) program is h = absurd h
lines_reason parts p old (Refused (fault.Analysis e)) program is h = absurd h
lines_reason parts p old (Refused (fault.Trace e)) program is h = absurd h
lines_reason parts p old (Refused (fault.Ranges e)) program is h = absurd h
lines_reason parts p old (Refused fault.TooLarge) program is h = absurd h
lines_reason parts p old (Refused fault.NotText) program is h = absurd h
lines_reason parts p old (Refused fault.NoRequests) program is h = absurd h
lines_reason parts p old (Refused fault.HasRequests) program is h = absurd h
lines_reason parts p old (Refused fault.NoTrace) program is h = absurd h
lines_reason parts p old (Refused fault.TooManyClients) program is h = absurd h

-- ---- describing
pub describing_input : (shown : Bool) (bytes : List ℕ) → length bytes ≤ max_input → IsUtf8 bytes → has_mark bytes ≡ false → IsInput (describing shown) bytes
describing_input true bytes short utf8 e = record { short = short; utf8 = utf8; parts = ap alone_fault e }
describing_input false bytes short utf8 e = record { short = short; utf8 = utf8; parts = ap alone_fault e }

pub describing_bytes : (shown : Bool) (bytes : List ℕ) → length bytes ≤ max_input → (IsUtf8 bytes → ⊥) → IsRefused (describing shown) bytes fault.NotText
describing_bytes true bytes short none = (short, none)
describing_bytes false bytes short none = (short, none)

pub describing_marked : (shown : Bool) (bytes : List ℕ) → length bytes ≤ max_input → IsUtf8 bytes → has_mark bytes ≡ true → IsRefused (describing shown) bytes fault.HasRequests
describing_marked true bytes short utf8 e = (short, utf8, ap alone_fault e)
describing_marked false bytes short utf8 e = (short, utf8, ap alone_fault e)

-- what is wrong with a file is wrong with the bytes that it is made of
pub file_reason : (shown : Bool) (bytes : List ℕ) (file : File) (names : List (List ℕ)) (e : LoadError) → IsParsed bytes file names → IsFileReason file e → IsReason (describing shown) bytes e
file_reason shown bytes file names NoMemory p h = tt
file_reason true bytes file names (Refused (fault.Check e)) p h = (p.input true, record { file = file; form = p.form; first = h }, refl)
file_reason false bytes file names (Refused (fault.Check e)) p h = (p.input false, record { file = file; form = p.form; first = h }, refl)
file_reason true bytes file names (Refused (fault.Analysis e)) p h = (p.input true, record { file = file; form = p.form; accepted = h.0; first = h.1 }, refl)
file_reason false bytes file names (Refused (fault.Analysis e)) p h = (p.input false, record { file = file; form = p.form; accepted = h.0; first = h.1 }, refl)
file_reason shown bytes file names (Refused (fault.Syntax e)) p h = absurd h
file_reason shown bytes file names (Refused (fault.Tables e)) p h = absurd h
file_reason shown bytes file names (Refused (fault.Request e)) p h = absurd h
file_reason shown bytes file names (Refused (fault.Trace e)) p h = absurd h
file_reason shown bytes file names (Refused (fault.Ranges e)) p h = absurd h
file_reason shown bytes file names (Refused fault.TooLarge) p h = absurd h
file_reason shown bytes file names (Refused fault.NotText) p h = absurd h
file_reason shown bytes file names (Refused fault.NoRequests) p h = absurd h
file_reason shown bytes file names (Refused fault.HasRequests) p h = absurd h
file_reason shown bytes file names (Refused fault.NoTrace) p h = absurd h
file_reason shown bytes file names (Refused fault.TooManyClients) p h = absurd h

pub syntax_reason : (shown : Bool) (bytes : List ℕ) (e : LoadError) → IsInput (describing shown) bytes → IsSyntaxReason bytes e → IsReason (describing shown) bytes e
syntax_reason shown bytes NoMemory i h = tt
syntax_reason true bytes (Refused (fault.Syntax e)) i h = (i, h, refl)
syntax_reason false bytes (Refused (fault.Syntax e)) i h = (i, h, refl)
syntax_reason shown bytes (Refused (fault.Check e)) i h = absurd h
syntax_reason shown bytes (Refused (fault.Analysis e)) i h = absurd h
syntax_reason shown bytes (Refused (fault.Tables e)) i h = absurd h
syntax_reason shown bytes (Refused (fault.Request e)) i h = absurd h
syntax_reason shown bytes (Refused (fault.Trace e)) i h = absurd h
syntax_reason shown bytes (Refused (fault.Ranges e)) i h = absurd h
syntax_reason shown bytes (Refused fault.TooLarge) i h = absurd h
syntax_reason shown bytes (Refused fault.NotText) i h = absurd h
syntax_reason shown bytes (Refused fault.NoRequests) i h = absurd h
syntax_reason shown bytes (Refused fault.HasRequests) i h = absurd h
syntax_reason shown bytes (Refused fault.NoTrace) i h = absurd h
syntax_reason shown bytes (Refused fault.TooManyClients) i h = absurd h

abbrev pub as_parsed : (bytes : List ℕ) (file : File) (names : List (List ℕ)) → IsParsed bytes file names → IsAccepted file → HasLater file → IsProgram bytes file
as_parsed bytes file names p a l = record { form = p.form; accepted = a; lists = l.0; later = l.1 }

pub described_is : (shown : Bool) (bytes text : List ℕ) (file : File) (names : List (List ℕ)) → IsParsed bytes file names → Describes shown names file text → IsTextOf (describing shown) bytes text
described_is true bytes text file names p d = record {
  file = file;
  program = as_parsed bytes file names p d.accepted d.later;
  text_is = d.text_is ∙ ap (λ (ns : List (List ℕ)). shown_text ns (shown_of (record { file = file; lists = d.later.0 })) file) p.names_are;
}
described_is false bytes text file names p d = record {
  file = file;
  program = as_parsed bytes file names p d.accepted d.later;
  text_is = d.text_is ∙ ap (λ (ns : List (List ℕ)). canonical_text ns file) p.names_are;
}

pub described_by : (shown : Bool) (bytes text : List ℕ) (file found : File) (names all : List (List ℕ)) → IsParsed bytes found all → Describes shown names file text → found ≡ file → all ≡ names → IsTextOf (describing shown) bytes text
described_by shown bytes text file found names all p d e f = described_is shown bytes text file names (subst (IsParsed bytes file) f (subst (λ (x : File). IsParsed bytes x all) e p)) d

pub declared_is : (names : List (List ℕ)) (file : File) (text : List ℕ) (p : ProgramView) → IsAccepted file → p.file ≡ file → AreLater p.file p.lists → text ≡ shown_text names (shown_of p) p.file → IsDeclared names file text
declared_is names file text p a is later t = subst (λ (f : File). IsAccepted f → IsDeclared names f text) is (λ b. record { accepted = b; later = (p.lists, later); text_is = t }) a

pub reason_of : (shown : Bool) (bytes : List ℕ) (e found : LoadError) → ((s : Bool) → IsReason (describing s) bytes found) → found ≡ e → IsReason (describing shown) bytes e
reason_of shown bytes e found h is = subst (λ (x : LoadError). IsReason (describing shown) bytes x) is (h shown)
