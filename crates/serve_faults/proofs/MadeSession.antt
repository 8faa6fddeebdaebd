-- A made session breaks no rule.
use Rattle.std.proofs.Common.{◌≡◌, ℕ, ◌*◌, ◌≤◌, true, false, List, [], ◌∷◌, ◌++◌, length, None, refl, sym, ap, ◌∙◌, subst, arith, append_assoc, append-nil, length-append}
use Rattle.std.specs.Prelude.{codes, IsUtf8}
use Rattle.std.specs.List.{list_all, list_any, AllByRecursion}
use Rattle.std.proofs.lemmas.Str.{IsUtf8-append, IsUtf8-nil}
use Rattle.session_values.specs.Limits.{max_requests}
use Rattle.text_lines.specs.Text.{Text, lines}
use Rattle.serve_faults.specs.Divide.{is_dividing, is_table_mark}
use Rattle.text_lines.specs.Laws.{with_feeds}
use Rattle.serve_faults.specs.Requests.{first_fault, no_requests}
use Rattle.text_lines.specs.Rows.{rows, names_behind}
use Rattle.text_lines.proofs.RowLemmas.{rows_nil, behind_nil}
use Rattle.serve_faults.specs.TableRows.{first_table_fault}
use Rattle.serve_faults.proofs.Going.{fault_end}
use Rattle.text_lines.proofs.TextLemmas.{lines_nil}
use Rattle.serve_faults.specs.Command.TheVariants.{Work}
use Rattle.serve_faults.specs.ServeSession.{handlers_text, lines_of, session_text}
use Rattle.serve_faults.specs.declared.status.Fault.{Fault}
use Rattle.serve_faults.specs.Answer.{IsRefused}
use Rattle.serve_faults.specs.Answer as answer
use Rattle.serve_faults.specs.Input.{Parts, parts_by, parts_of, divided_fault, is_divided, IsInput}
use Rattle.serve_faults.specs.Session.{IsSession, handler_names_of, opening_names_of, table_rows_of}
use Rattle.serve_faults.proofs.OneAnswer.{text_or_refused}
use Rattle.serve_faults.proofs.Accepted.{made_program}
use Rattle.serve_faults.proofs.Lines.{IsMade, made_lines, lines_count, lines_made, lines_are, utf8_of, utf8_plain, are_lines, have_light, feeds_length}
use Rattle.serve_faults.proofs.Parts.{is_line, lines_behind, divided, parts_are, table_line}
use Rattle.serve_faults.proofs.Phrases.{made_file}
use Rattle.serve_faults.proofs.LightRows.{none_found, rows_light}
use Rattle.serve_faults.proofs.Tokens.{made_names, names_are}

-- ---- the handlers' part

abbrev handler_lines : List Text
handler_lines =
    codes "map seats;" ∷ codes "set online;" ∷ codes "handler login(u, now) {" ∷ codes "  let old = swap(seats, u, now);" ∷ codes "  mark(online, u);" ∷ codes "  reply old;" ∷ codes "}"
    ∷ codes "handler logout(u) {" ∷ codes "  del(seats, u);" ∷ codes "  drop(online, u);" ∷ codes "}"
    ∷ codes "handler seen(u) {" ∷ codes "  let at = get(seats, u);" ∷ codes "  let on = has(online, u);" ∷ codes "  reply at, on;" ∷ codes "}"
    ∷ codes "handler crowd() {" ∷ codes "  let n = count(online);" ∷ codes "  reply n;" ∷ codes "}" ∷ []

handlers_are : handlers_text ≡ with_feeds handler_lines
handlers_are = refl

handlers_plain : list_all is_line handler_lines ≡ true
handlers_plain = refl

none_divides : list_any is_dividing handler_lines ≡ false
unfolding is_dividing
none_divides = refl

none_marked : list_any is_table_mark handler_lines ≡ false
unfolding is_table_mark
none_marked = refl

-- ---- the requests' part

lines_found : (start n : ℕ) → lines (lines_of start n) ≡ made_lines start n
lines_found start n =
    let ls : List Text = made_lines start n in
    ap lines (lines_are start n) ∙ ap lines (sym (append-nil (with_feeds ls))) ∙ lines_behind ls [] (are_lines ls (lines_made start n))
    ∙ ap (λ t. ls ++ t) lines_nil ∙ append-nil ls

fault_none : (first start n : ℕ) → n ≤ 20000 → first_fault made_names made_file no_requests (rows first (lines (lines_of start n))) ≡ None
fault_none first start n few =
    let ls : List Text = made_lines start n in
    let light = rows_light made_names made_file first ls (have_light ls (lines_made start n)) in
    let count : length (rows first ls) ≡ length ls = light.1 in
    ap (λ t. first_fault made_names made_file no_requests (rows first t)) (lines_found start n)
    ∙ none_found made_names made_file no_requests (rows first ls) light.0 (omega (arith, few, count, lines_count start n)) (omega arith) (omega arith)

-- ---- the session

-- each byte of some lines is ASCII
utf8_feeds : (ls : List Text) → AllByRecursion IsMade ls → IsUtf8 (with_feeds ls)
utf8_feeds [] a = IsUtf8-nil
utf8_feeds (l ∷ ls) a =
    let made : IsMade l = a.0 in
    IsUtf8-append l (10 ∷ with_feeds ls) (utf8_plain l made.plain) (IsUtf8-append (10 ∷ []) (with_feeds ls) line_feed (utf8_feeds ls a.1))
  where
    line_feed : IsUtf8 (10 ∷ [])
    line_feed = utf8_of (10 ∷ []) refl

handlers_utf8 : IsUtf8 handlers_text
handlers_utf8 = utf8_of handlers_text refl

mark_utf8 : IsUtf8 (codes "%%\n")
mark_utf8 = utf8_of (codes "%%\n") refl

lines_utf8 : (start n : ℕ) → IsUtf8 (lines_of start n)
lines_utf8 start n = subst IsUtf8 (sym (lines_are start n)) (utf8_feeds (made_lines start n) (lines_made start n))

lines_short : (start n : ℕ) → length (lines_of start n) ≤ 31 * n
lines_short start n =
    let same : length (lines_of start n) ≡ length (with_feeds (made_lines start n)) = ap length (lines_are start n) in
    omega (arith, same, feeds_length (made_lines start n) (lines_made start n), lines_count start n)

short_whole : (head rest : Text) (n : ℕ) → length head ≡ 317 → length rest ≤ 31 * n → n ≤ 20000 → length (head ++ codes "%%\n" ++ rest) ≤ 4194304
short_whole head rest n own behind few = omega (arith, own, behind, few, length-append (head ++ codes "%%\n") rest, length-append head (codes "%%\n"))

module _ (n start : ℕ) (few : n ≤ max_requests) where
  -- the handlers, and what stands behind them
  in_two : session_text n start ≡ handlers_text ++ (codes "%%\n" ++ lines_of start n)
  in_two = append_assoc handlers_text (codes "%%\n") (lines_of start n)

  abbrev the_parts : Parts
  the_parts = parts_by handlers_text [] (lines_of start n) (table_line handler_lines handlers_plain none_divides none_marked (lines_of start n)) 22

  made_parts : parts_of (session_text n start) ≡ the_parts
  made_parts = ap parts_of in_two ∙ parts_are handler_lines handlers_plain none_divides none_marked (lines_of start n)

  -- a text without bytes has no table lines
  no_rows : table_rows_of the_parts ≡ []
  no_rows = ap (rows the_parts.first_table) lines_nil ∙ rows_nil the_parts.first_table

  opening_names : opening_names_of the_parts ≡ made_names
  opening_names = ap (names_behind (handler_names_of the_parts)) no_rows ∙ behind_nil (handler_names_of the_parts) ∙ names_are

  of_parts : IsSession the_parts made_file
  of_parts = record {
    program = made_program;
    tables = ap (first_table_fault (handler_names_of the_parts) made_file.tables []) no_rows ∙ fault_end (handler_names_of the_parts) made_file.tables [];
    requests = ap (λ (names : List Text). first_fault names made_file no_requests (rows 22 (lines (lines_of start n)))) opening_names ∙ fault_none 22 start n few;
  }

  pub is_session : IsSession (parts_of (session_text n start)) made_file
  is_session = subst (λ (p : Parts). IsSession p made_file) (sym made_parts) of_parts

  pub is_input : IsInput (Work n start) (session_text n start)
  is_input = record {
    short = short_whole handlers_text (lines_of start n) n refl (lines_short start n) few;
    utf8 = IsUtf8-append (handlers_text ++ codes "%%\n") (lines_of start n) (IsUtf8-append handlers_text (codes "%%\n") handlers_utf8 mark_utf8) (lines_utf8 start n);
    parts = ap divided_fault (ap is_divided in_two ∙ divided handler_lines handlers_plain none_divides none_marked (lines_of start n));
  }

  pub unrefused : (fault : Fault) → IsRefused (Work n start) (session_text n start) fault → ⊥
  unrefused fault refused =
      text_or_refused (Work n start) (session_text n start) (answer.summary_of n (session_text n start) made_file) fault is_input (record { file = made_file; is_session = is_session; text_is = refl }) refused
