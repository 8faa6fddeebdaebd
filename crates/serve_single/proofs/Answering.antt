-- The replies of what was served can be written, and their text is the one that is asked.
use Rattle.std.proofs.Common.{◌≡◌, ℕ, ◌≤◌, false, List, length, sym, ap, subst, arith}
use Rattle.session_values.specs.Limits.{max_requests}
use Rattle.session_values.specs.ReplyText.{reply_text}
use Rattle.session_values.specs.Tables.{Tables}
use Rattle.session_values.specs.declared.reply.Reply.{Reply}
use Rattle.session_journal.specs.Script.{Meaning, session_of}
use Rattle.handler_machine.specs.Scripts.{meaning}
use Rattle.reply_sheet.specs.Printable.{ArePrintableReplies}
use Rattle.byte_ends.specs.Changes.{Change, Failed, WroteAll, WrotePrefix}
use Rattle.serve_faults.specs.declared.status.Status.TheVariants as status
use Rattle.serve_reading.specs.declared.session.Loaded.{Loaded}
use Rattle.serve_single.proofs.FileLemmas.{replies_print}
use Rattle.serve_single.specs.Serving.{AreServed, CanServe, EndsOrWants, asked_text, script_of_loaded}

module _ (l : Loaded) (can : CanServe l) (rs : List Reply) (ts : Tables) (done : AreServed (meaning (script_of_loaded l)) (meaning (script_of_loaded l)).requests rs ts) where
  abbrev m : Meaning
  m = meaning (script_of_loaded l)

  pub few_replies : length rs ≤ max_requests
  few_replies = omega (arith, done.long, can.servable.few)

  pub print_replies : ArePrintableReplies l.names rs
  print_replies = subst (λ (xs : List Reply). ArePrintableReplies l.names xs) (sym done.replies_are) (replies_print l can)

  pub replied_is : reply_text l.names 0 rs ≡ asked_text false l.names l.program.file (session_of m)
  replied_is = ap (λ (xs : List Reply). reply_text l.names 0 xs) done.replies_are

-- the text that was asked was written, or a front of it
module _ {O : Type 0} (text asked : List ℕ) (out : Change O) (is : text ≡ asked) where
  pub wrote : WroteAll out text → EndsOrWants asked out status.Fine
  wrote took = subst (λ (t : List ℕ). WroteAll out t) is took

  pub wrote_front : Failed out → WrotePrefix out text → EndsOrWants asked out status.WriteFault
  wrote_front failed took = (failed, subst (λ (t : List ℕ). WrotePrefix out t) is took)
