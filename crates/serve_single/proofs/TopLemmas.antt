-- Whole runs, from what their parts say.
use Rattle.std.proofs.Common.{◌≡◌, ℕ, ◌<◌, ◌⊎◌, inl, inr, Bool, true, false, List, length, Some, refl, sym, subst}
use Rattle.session_values.specs.Limits.{max_input}
use Rattle.byte_ends.specs.Ends.{Counted, Appended, AppendedPrefix}
use Rattle.serve_faults.specs.Command.TheVariants.{Audit, Dump, Ranges, Serve}
use Rattle.serve_faults.specs.declared.status.Fault.TheVariants.{TooLarge}
use Rattle.serve_faults.specs.declared.status.Status.{Status}
use Rattle.serve_faults.specs.declared.status.Status.TheVariants as status
use Rattle.serve_faults.specs.Commands.{is_reading}
use Rattle.byte_ends.specs.Changes.{Change, Failed, IsUntouched, WroteAll, WrotePrefix}
use Rattle.serve_faults.specs.Input.{max_audit_input, most_of}
use Rattle.serve_faults.specs.Ways.{HasRead, StoppedAs, describing}
use Rattle.serve_single.specs.Runs.{AnswersSingle, EndsUnanswered, RunsOver, RunsSingle}
use Rattle.serve_single.specs.Serving.{serving}
use Rattle.serve_single.proofs.RunLemmas.{large_over, large_refused, read_run, runs_over, stopped_run}

-- all of a line was written, or a write failed
pub told_line : {S : Type 0} (c : Change S) (text line : List ℕ) → text ≡ line → (b : Bool) → Counted b (c.faults c.old) (c.faults c.new) → (b ≡ true → Appended (c.bytes c.old) (c.bytes c.new) text) → (b ≡ false → AppendedPrefix (c.bytes c.old) (c.bytes c.new) text) → WroteAll c line ⊎ Failed c × WrotePrefix c line
told_line c text line is true counted all front = inl (counted.0 refl, subst (Appended (c.bytes c.old) (c.bytes c.new)) is (all refl))
told_line c text line is false counted all front = inr (counted.1 refl, subst (AppendedPrefix (c.bytes c.old) (c.bytes c.new)) is (front refl))

describing_reads : (shown : Bool) → is_reading (Some (describing shown)) ≡ true
describing_reads true = refl
describing_reads false = refl

describing_most : (shown : Bool) → most_of (describing shown) ≡ max_input
describing_most true = refl
describing_most false = refl

module _ {I O : Type 0} (source : Change I) (out : Change O) where
  -- ---- describing
  pub described_run : (shown : Bool) (bytes : List ℕ) (s : Status) → HasRead max_input source bytes → AnswersSingle (describing shown) bytes out s → RunsSingle (Some (describing shown)) source out s
  described_run shown bytes s h a = read_run (describing shown) (describing_reads shown) source out bytes s (subst (λ (n : ℕ). HasRead n source bytes) (sym (describing_most shown)) h) a

  pub undescribed_run : (shown : Bool) (s : Status) → StoppedAs max_input source s → IsUntouched out → RunsSingle (Some (describing shown)) source out s
  undescribed_run shown s h same = stopped_run (describing shown) (describing_reads shown) source out s (subst (λ (n : ℕ). StoppedAs n source s) (sym (describing_most shown)) h) same

  -- ---- range sessions
  pub ranged_run : (bytes : List ℕ) (s : Status) → HasRead max_input source bytes → AnswersSingle Ranges bytes out s → RunsSingle (Some Ranges) source out s
  ranged_run bytes s h a = read_run Ranges refl source out bytes s h a

  pub unranged_run : (s : Status) → StoppedAs max_input source s → IsUntouched out → RunsSingle (Some Ranges) source out s
  unranged_run s h same = stopped_run Ranges refl source out s h same

  -- ---- audits
  pub audited_run : (bytes : List ℕ) (s : Status) → HasRead max_audit_input source bytes → AnswersSingle Audit bytes out s → RunsSingle (Some Audit) source out s
  audited_run bytes s h a = read_run Audit refl source out bytes s h a

  pub unaudited_run : (s : Status) → StoppedAs max_audit_input source s → IsUntouched out → RunsSingle (Some Audit) source out s
  unaudited_run s h same = stopped_run Audit refl source out s h same

  -- ---- serving alone
  pub served_run : (callers shards : ℕ) (tables : Bool) (bytes : List ℕ) (s : Status) → HasRead max_input source bytes → AnswersSingle (serving tables callers shards) bytes out s → RunsSingle (Some (serving tables callers shards)) source out s
  served_run callers shards true bytes s h a = read_run (Dump callers shards) refl source out bytes s h a
  served_run callers shards false bytes s h a = read_run (Serve callers shards) refl source out bytes s h a

  pub unserved_run : (callers shards : ℕ) (tables : Bool) (s : Status) → StoppedAs max_input source s → IsUntouched out → RunsSingle (Some (serving tables callers shards)) source out s
  unserved_run callers shards true s h same = stopped_run (Dump callers shards) refl source out s h same
  unserved_run callers shards false s h same = stopped_run (Serve callers shards) refl source out s h same

-- ---- bytes that a caller keeps
pub undescribed_large : (shown : Bool) (bytes : List ℕ) → max_input < length bytes → EndsUnanswered (describing shown) bytes (status.Refused TooLarge)
undescribed_large shown bytes long = large_refused (describing shown) bytes (describing_reads shown) (subst (λ (n : ℕ). n < length bytes) (sym (describing_most shown)) long)

pub unranged_large : (bytes : List ℕ) → max_input < length bytes → EndsUnanswered Ranges bytes (status.Refused TooLarge)
unranged_large bytes long = large_refused Ranges bytes refl long

module _ {O : Type 0} (bytes : List ℕ) (out : Change O) where
  pub audited_over : (s : Status) → AnswersSingle Audit bytes out s → RunsOver Audit bytes out s
  audited_over s a = runs_over Audit bytes out s a

  pub unaudited_over : max_audit_input < length bytes → IsUntouched out → RunsOver Audit bytes out (status.Refused TooLarge)
  unaudited_over long same = large_over Audit bytes out refl long same

  pub served_over : (callers shards : ℕ) (tables : Bool) (s : Status) → AnswersSingle (serving tables callers shards) bytes out s → RunsOver (serving tables callers shards) bytes out s
  served_over callers shards tables s a = runs_over (serving tables callers shards) bytes out s a

  pub unserved_over : (callers shards : ℕ) (tables : Bool) → max_input < length bytes → IsUntouched out → RunsOver (serving tables callers shards) bytes out (status.Refused TooLarge)
  unserved_over callers shards true long same = large_over (Dump callers shards) bytes out refl long same
  unserved_over callers shards false long same = large_over (Serve callers shards) bytes out refl long same
