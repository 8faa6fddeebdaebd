-- What is told of a trace that was read.
use Rattle.std.proofs.Common.{◌≡◌, ℕ, List, length, map, ap, ◌∙◌, subst}
use Rattle.session_journal.specs.declared.event.Event.{Event}
use Rattle.serve_reading.specs.declared.auditing.Audited.{Audited}
use Rattle.waiting_pairs.specs.declared.form.Form.{Form}
use Rattle.waiting_pairs.specs.declared.counting.Row.{Row}
use Rattle.waiting_pairs.specs.Causes.{cause_of}
use Rattle.waiting_pairs.specs.Chains.{AreLongest}
use Rattle.waiting_pairs.specs.TraceDelays.{delays}
use Rattle.waiting_pairs.specs.Rows.{AreRows}
use Rattle.waiting_pairs.specs.TraceTold.{IsToldOf, handlers_of, text_in}

pub told_by : (form : Form) (a : Audited) (events : List Event) (text : List ℕ) (count : ℕ) (rows : List Row) (chains : List (List ℕ)) → events ≡ a.trace.events → count ≡ length (delays events)
    → AreRows (map (cause_of (handlers_of a.requests)) (delays events)) rows → AreLongest (length a.requests) (delays events) chains
    → text ≡ text_in form a.names a.program.file count rows chains → IsToldOf form a text
told_by form a events text count rows chains e count_is are_rows are_chains is = record {
  rows = rows;
  are_rows = subst (λ (es : List Event). AreRows (map (cause_of (handlers_of a.requests)) (delays es)) rows) e are_rows;
  chains = chains;
  are_chains = subst (λ (es : List Event). AreLongest (length a.requests) (delays es) chains) e are_chains;
  text_is = is ∙ ap (λ (n : ℕ). text_in form a.names a.program.file n rows chains) (count_is ∙ ap (λ (es : List Event). length (delays es)) e);
}
