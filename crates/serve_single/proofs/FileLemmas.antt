-- What is loaded of a session file can be served, and then its replies can be printed.
use Rattle.std.proofs.Common.{◌≡◌, ℕ, List, true, sym, subst}
use Rattle.std.specs.List.{AllByRecursion}
use Rattle.session_values.specs.Serial.{serial_replies}
use Rattle.session_journal.specs.Script.{session_of}
use Rattle.handler_machine.specs.Scripts.{meaning}
use Rattle.request_files.specs.Values.{is_symbol}
use Rattle.reply_sheet.specs.Printable.{ArePrintableReplies}
use Rattle.serve_faults.specs.Input.{Parts}
use Rattle.serve_faults.specs.Session.{all_names_of, handler_names_of, opening_names_of, rows_of, table_rows_of}
use Rattle.serve_faults.proofs.PrintableRuns.{replies_said}
use Rattle.serve_faults.proofs.SymbolTexts.{handler_symbols, row_symbols}
use Rattle.serve_reading.specs.declared.session.Loaded.{Loaded}
use Rattle.serve_reading.specs.Sessions.{IsLoaded}
use Rattle.serve_reading.proofs.Loading.{as_program}
use Rattle.serve_single.specs.Serving.{CanServe, script_of_loaded}

-- each text of a session's names is a symbol's
names_symbols : (parts : Parts) → AllByRecursion (λ (t : List ℕ). is_symbol t ≡ true) (all_names_of parts)
names_symbols parts = (row_symbols (opening_names_of parts) (rows_of parts) (row_symbols (handler_names_of parts) (table_rows_of parts) (handler_symbols parts.handlers))).each

-- what was loaded can be served
pub can_serve : (parts : Parts) (l : Loaded) → IsLoaded parts l → CanServe l
can_serve parts l h = record {
  symbols = subst (AllByRecursion (λ (t : List ℕ). is_symbol t ≡ true)) (sym h.names_are) (names_symbols parts);
  accepted = (as_program parts.handlers l.program h.program_of).accepted;
  opens = h.opens;
  servable = h.servable;
  named = h.named;
  printable_opening = h.printable_opening;
  printable = h.printable;
}

-- and then its replies can be printed
pub replies_print : (l : Loaded) → CanServe l → ArePrintableReplies l.names (serial_replies (session_of (meaning (script_of_loaded l))) (meaning (script_of_loaded l)).requests)
replies_print l h = replies_said l.names l.program.file l.opening l.requests h.named h.printable_opening h.printable (meaning (script_of_loaded l)).requests
