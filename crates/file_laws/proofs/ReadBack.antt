-- What was dumped of a session reads back.
use Rattle.std.proofs.Common.{◌≡◌, ℕ, suc, ◌<◌, ◌≤◌, Bool, true, false, List, [], ◌∷◌, ◌++◌, length, map, IsUtf8, slice_get, Some, None, codes, refl, sym, ap, ◌∙◌, subst, arith}
use Rattle.std.specs.List.{AllByRecursion}
use Rattle.session_values.proofs.Lists.{all_join}
use Rattle.serve_faults.specs.Command.TheVariants.{Dump}
use Rattle.handler_syntax.specs.Language.{File, names_of}
use Rattle.text_lines.specs.Text.{Text, lines}
use Rattle.text_lines.proofs.WholeTexts.{line_joined}
use Rattle.table_lines.specs.TableText.{Entry, WrittenTable, all_entries, entries_text, table_text}
use Rattle.table_lines.specs.ReadBack.{texts_of}
use Rattle.table_lines.specs.TableRows.{table_of}
use Rattle.serve_faults.specs.Answer.{IsDumped, dumped_text}
use Rattle.serve_faults.specs.Input.{IsInput, Parts, divided_fault, is_divided, parts_of}
use Rattle.serve_faults.specs.Session.{IsSession, all_names_of, table_fault, tables_text}
use Rattle.file_laws.specs.Reopened.{EndsAlike, HasFewLines, OpensAsEnded, final_tables, reopened}
use Rattle.file_laws.proofs.Again.{divided, final_of, first_of, new_final, new_fine, new_first, new_parts, new_session, parts_are, whole}
use Rattle.file_laws.proofs.Dividing.{IsFront, handlers_front}
use Rattle.file_laws.proofs.EntryLines.{entries_ascii, entries_lines, line_of}
use Rattle.file_laws.proofs.Sessions.{AreSayable, final_sayable, known, old_all}
use Rattle.serve_faults.proofs.SymbolTexts.{AreSymbols, handler_symbols}
use Rattle.file_laws.proofs.ShortParts.{are_short}
use Rattle.file_laws.proofs.TableNames.{differ, texts_kept}
use Rattle.file_laws.proofs.Utf8.{ascii_behind, handlers_utf8}

pub is_marked : (b : Bool) → divided_fault b ≡ None → b ≡ true
is_marked true e = refl
is_marked false e = cc

lines_length : (es : List Entry) → length (map line_of es) ≡ length es
lines_length [] = refl
lines_length (e ∷ es) = ap suc (lines_length es)

module _ (input : Text) (file : File) (is : IsSession (parts_of input) file) (short : length input ≤ 4194304) (marked : is_divided input ≡ true) where
  abbrev handlers : Text
  handlers = (parts_of input).handlers

  abbrev old : List Text
  old = names_of [] handlers

  abbrev ws : List WrittenTable
  ws = final_tables input file

  w : AreSayable old file.tables ws
  w = let few = are_short input short in final_sayable (parts_of input) file is few.handlers few.tables few.requests

  front : IsFront handlers
  front = handlers_front input marked

  symbols : AreSymbols old
  symbols = handler_symbols handlers

  apart : (i : ℕ) (t : Text) → slice_get (texts_of old file.tables) i ≡ Some t → table_of old file.tables t ≡ i
  apart = differ old file symbols.distinct (known (parts_of input) file is) is.program.accepted.keeps

  abbrev es : List Entry
  es = all_entries (texts_of old file.tables) ws

  -- tables go by the names of the handlers
  text_is : dumped_text input file ≡ table_text (texts_of old file.tables) ws
  text_is = ap (λ (ts : List Text). table_text ts ws) (texts_kept old (all_names_of (parts_of input)) file.tables (old_all (parts_of input) file is) (known (parts_of input) file is))

  -- the other file, by these
  abbrev again : Text → Text
  again requests = whole handlers front es w.say requests

  again_is : (requests : Text) → reopened input (dumped_text input file) requests ≡ again requests
  again_is requests = ap (λ (t : Text). reopened input t requests) text_is

  module _ (lines_few : HasFewLines (dumped_text input file)) where
    few : length es ≤ 100000
    few =
        let all : length (lines (table_text (texts_of old file.tables) ws)) ≤ 100001 = subst (λ (t : Text). length (lines t) ≤ 100001) text_is lines_few in
        omega (arith, all, ap length (line_joined (codes "%% tables") (entries_text es) refl), ap length (entries_lines es w.say), lines_length es)

    abbrev parts : Text → Parts
    parts requests = new_parts handlers front es w.say requests

    opens_there : (requests : Text) → OpensAsEnded input (again requests) requests file
    opens_there requests =
        let is_parts : parts_of (again requests) ≡ parts requests = parts_are handlers front es w.say requests in
        record {
          divided = divided handlers front es w.say requests;
          handlers = ap (λ (p : Parts). p.handlers) is_parts;
          requests_are = ap (λ (p : Parts). p.requests) is_parts;
          fine = ap (λ (p : Parts). table_fault p file) is_parts ∙ new_fine handlers file is.program front ws w symbols apart few requests;
          same = ap (λ (p : Parts). first_of p file) is_parts ∙ new_first handlers file is.program front ws w symbols apart few requests;
        }

    -- whatever requests follow
    pub opens_again : (requests : Text) → OpensAsEnded input (reopened input (dumped_text input file) requests) requests file
    opens_again requests = subst (λ (t : Text). OpensAsEnded input t requests file) (sym (again_is requests)) (opens_there requests)

    session_there : IsSession (parts []) file
    session_there = new_session handlers file is.program front ws w symbols apart few

    final_there : final_of (parts []) file ≡ ws
    final_there = new_final handlers file is.program front ws w symbols apart few

    ends_there : EndsAlike input (again []) file
    ends_there = record {
      is_session = subst (λ (p : Parts). IsSession p file) (sym (parts_are handlers front es w.say [])) session_there;
      same = ap (λ (p : Parts). final_of p file) (parts_are handlers front es w.say []) ∙ final_there;
    }

    -- and where there are none
    pub ends_again : EndsAlike input (reopened input (dumped_text input file) []) file
    ends_again = subst (λ (t : Text). EndsAlike input t file) (sym (again_is [])) ends_there

    -- the text is the one that was dumped
    text_there : dumped_text (again []) file ≡ dumped_text input file
    text_there =
        ap (λ (p : Parts). tables_text p file) (parts_are handlers front es w.say [])
        ∙ ap (λ (ts : List Text). table_text ts (final_of (parts []) file)) (texts_kept old (all_names_of (parts [])) file.tables (old_all (parts []) file session_there) (known (parts []) file session_there))
        ∙ ap (table_text (texts_of old file.tables)) final_there
        ∙ sym text_is

    ascii_there : AllByRecursion (λ b. b < 128) (table_text (texts_of old file.tables) ws ++ (codes "%%" ++ 10 ∷ []))
    ascii_there =
        let back : AllByRecursion (λ b. b < 128) (entries_text es ++ (codes "%%" ++ 10 ∷ [])) = all_join (λ b. b < 128) (entries_text es) (codes "%%" ++ 10 ∷ []) (entries_ascii es w.say) (omega arith, (omega arith, (omega arith, tt))) in
        (omega arith, (omega arith, (omega arith, (omega arith, (omega arith, (omega arith, (omega arith, (omega arith, (omega arith, (omega arith, back))))))))))

    module _ (short_there : length (reopened input (dumped_text input file) []) ≤ 4194304) where
      input_there : (callers shards : ℕ) → IsUtf8 input → IsInput (Dump callers shards) (again [])
      input_there callers shards utf8 = record {
        short = subst (λ (t : Text). length t ≤ 4194304) (again_is []) short_there;
        utf8 = ascii_behind handlers (table_text (texts_of old file.tables) ws ++ (codes "%%" ++ 10 ∷ [])) (handlers_utf8 input marked utf8) ascii_there;
        parts = ap divided_fault (divided handlers front es w.say []);
      }

      pub dumped_again : (callers shards : ℕ) → IsUtf8 input → IsInput (Dump callers shards) (reopened input (dumped_text input file) []) × IsDumped (reopened input (dumped_text input file) []) (dumped_text input file)
      dumped_again callers shards utf8 =
          subst (λ (t : Text). IsInput (Dump callers shards) t × IsDumped t (dumped_text input file)) (sym (again_is []))
          (input_there callers shards utf8, record { file = file; is_session = ends_there.is_session; text_is = sym text_there })
