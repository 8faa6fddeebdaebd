-- What is written of a trace.
use Rattle.std.specs.Prelude.{◌≡◌, ℕ, List, length, map}
use Rattle.refusal_places.specs.Text.{Text}
use Rattle.serve_reading.specs.Language.{File}
use Rattle.serve_reading.specs.Audits.{IsAuditOf}
use Rattle.serve_reading.specs.declared.auditing.Audited.{Audited}
use Rattle.request_files.specs.declared.request.Request.{Request}
use Rattle.waiting_pairs.specs.declared.form.Form.{Form}
use Rattle.waiting_pairs.specs.declared.form.Form.TheVariants.{Lines, Json}
use Rattle.waiting_pairs.specs.declared.counting.Row.{Row}
use Rattle.waiting_pairs.specs.declared.delay.Delay.{Delay}
use Rattle.waiting_pairs.specs.declared.cause.Cause.{Cause}
use Rattle.waiting_pairs.specs.Causes.{cause_of}
use Rattle.waiting_pairs.specs.Chains.{AreLongest}
use Rattle.waiting_pairs.specs.TraceDelays.{delays}
use Rattle.waiting_pairs.specs.Rows.{AreRows}
use Rattle.waiting_pairs.specs.CountLines.{lines}
use Rattle.waiting_pairs.specs.CountJson.{json}

-- the numbers of the handlers of requests
abbrev pub handlers_of : List Request → List ℕ
handlers_of = map (λ (r : Request). r.handler)

-- the delays of the trace that was read, and their causes
abbrev pub delays_in : Audited → List Delay
delays_in a = delays a.trace.events

abbrev pub causes_in : Audited → List Cause
causes_in a = map (cause_of (handlers_of a.requests)) (delays_in a)

-- the text of rows and chains in this form, of so many delays
abbrev pub text_in : Form → List Text → File → ℕ → List Row → List (List ℕ) → Text
text_in Lines names f count rows chains = lines names f count rows chains
text_in Json names f count rows chains = json names f rows chains

-- the text tells in this form of the rows and of the longest chains of what was read
pub record IsToldOf (form : Form) (a : Audited) (text : Text) : Type 0 where
  pub rows : List Row
  pub are_rows : AreRows (causes_in a) rows
  pub chains : List (List ℕ)
  pub are_chains : AreLongest (length a.requests) (delays_in a) chains
  pub text_is : text ≡ text_in form a.names a.program.file (length (delays_in a)) rows chains

-- the text tells so of the trace that the input ends in
pub record IsTraceTold (form : Form) (input text : Text) : Type 0 where
  pub audited : Audited
  pub is_audited : IsAuditOf input audited
  pub is_told : IsToldOf form audited text
