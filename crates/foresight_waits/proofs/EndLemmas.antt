-- What was written of a line, and the number with which a run ends.
use Rattle.std.proofs.Common.{◌≡◌, ◌⊎◌, inl, inr, ℕ, Bool, true, false, List, Option, refl, subst}
use Rattle.byte_ends.specs.Ends.{Appended, AppendedPrefix, Counted}
use Rattle.byte_ends.specs.Changes.{Change, Failed, IsUntouched, WroteAll, WrotePrefix}
use Rattle.serve_faults.specs.ExitStatus.{exit_status}
use Rattle.serve_faults.specs.declared.status.Status.{Status}
use Rattle.serve_faults.specs.Message.{message_of}
use Rattle.serve_faults.specs.declared.status.Status.TheVariants as status
use Rattle.foresight_waits.specs.Endings.{EndsWithLine, line_of}
use Rattle.foresight_waits.specs.Runs.{EndsAsRun, EndsWithoutRun, Runs}

-- all of a text was taken, or a front of it
pub told_line : {E : Type 0} (err : Change E) (bytes text : List ℕ) → bytes ≡ text → (well : Bool) → Counted well (err.faults err.old) (err.faults err.new) → (well ≡ true → Appended (err.bytes err.old) (err.bytes err.new) bytes)
    → (well ≡ false → AppendedPrefix (err.bytes err.old) (err.bytes err.new) bytes) → WroteAll err text ⊎ Failed err × WrotePrefix err text
told_line err bytes text is true counted all front = inl (counted.0 refl, subst (λ (t : List ℕ). Appended (err.bytes err.old) (err.bytes err.new) t) is (all refl))
told_line err bytes text is false counted all front = inr (counted.1 refl, subst (λ (t : List ℕ). AppendedPrefix (err.bytes err.old) (err.bytes err.new) t) is (front refl))

module _ {I F O E : Type 0} (source : Change I) (files : Change F) (out : Change O) (err : Change E) where
  pub ends_as_run : (words : List (List ℕ)) (file_of : List ℕ → Option (List ℕ)) (s : Status) (number : ℕ) → Runs words source files file_of out s → EndsWithLine err s → number ≡ exit_status s → EndsAsRun words source files file_of out err number
  ends_as_run words file_of s number runs line is = record { status = s; runs = runs; line = line; number_is = is }

  pub ends_without_run : (s : Status) (number : ℕ) → IsUntouched source → IsUntouched files → IsUntouched out → EndsWithLine err s → number ≡ exit_status s → EndsWithoutRun source files out err s number
  ends_without_run s number unread unopened unwritten line is = record { unread = (unread, unopened); unwritten = unwritten; line = line; number_is = is }

-- but for usage the line is the same as that of `foresight`
pub other_line : (s : Status) → (s ≡ status.Usage → ⊥) → message_of s ≡ line_of s
other_line status.Fine n = refl
other_line (status.Refused f) n = refl
other_line status.Usage n = absurd (n refl)
other_line status.NoMemory n = refl
other_line status.ReadFault n = refl
other_line status.WriteFault n = refl
