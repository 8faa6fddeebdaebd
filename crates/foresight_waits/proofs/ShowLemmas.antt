-- What is shown of an input that was read.
use Rattle.std.proofs.Common.{◌≡◌, ◌≢◌, ℕ, List, Option, inl, inr, refl, subst, sym}
use Rattle.byte_ends.specs.Changes.{Change, Failed, WroteAll, WrotePrefix, change}
use Rattle.serve_faults.specs.declared.status.Fault.{Fault}
use Rattle.serve_faults.specs.declared.status.Status.{Status}
use Rattle.serve_faults.specs.declared.status.Status.TheVariants.{Fine, Usage, NoMemory, ReadFault, WriteFault}
use Rattle.serve_faults.specs.declared.status.Status.TheVariants as status
use Rattle.serve_reading.specs.declared.load_error.LoadError.TheVariants as load_error
use Rattle.waiting_pairs.specs.declared.form.Form.{Form}
use Rattle.foresight_waits.specs.declared.command.Subject.{Subject}
use Rattle.foresight_waits.specs.Endings.{Writes}
use Rattle.foresight_waits.specs.Runs.{IsFaultOf, IsReasonOf, IsTextOf, Shows, Written}

module _ {O : Type 0} (subject : Subject) (form : Form) (input : List ℕ) (out : Change O) where
  -- its text, or a front of it
  shows_all : (text : List ℕ) → IsTextOf subject form input text → WroteAll out text → Shows subject form input out Fine
  shows_all text is took = record {
    usage = λ x. cc x;
    read_fault = λ x. cc x;
    written = record { write_fault = λ x. absurd (cc x); written_well = λ _. took.0; unwritten = λ x. absurd (cc x) };
    answered = record { fine = λ _. (text, is, took); front = λ x. absurd (cc x); refused = λ f x. absurd (cc x) };
  }

  shows_front : (text : List ℕ) → IsTextOf subject form input text → Failed out → WrotePrefix out text → Shows subject form input out WriteFault
  shows_front text is failed front = record {
    usage = λ x. cc x;
    read_fault = λ x. cc x;
    written = record { write_fault = λ _. failed; written_well = λ x. absurd (x refl); unwritten = λ x. absurd (cc x) };
    answered = record { fine = λ x. absurd (cc x); front = λ _. (text, is, front); refused = λ f x. absurd (cc x) };
  }

  pub shows_text : (text : List ℕ) (s : Status) → IsTextOf subject form input text → Writes text out s → Shows subject form input out s
  shows_text text s is wrote = elim wrote [
    | inl k ↦ subst (λ s. Shows subject form input out s) (sym k.0) (shows_all text is k.1)
    | inr k ↦ subst (λ s. Shows subject form input out s) (sym k.0) (shows_front text is k.1 k.2)
  ]

-- nothing
module _ {O : Type 0} (subject : Subject) (form : Form) (input : List ℕ) (bytes : O → Option (List ℕ)) (faults : O → ℕ) (o : O) where
  untouched : (s : Status) → s ≢ WriteFault → Written (change bytes faults o o) s
  untouched s other = record { write_fault = λ x. absurd (other x); written_well = λ _. refl; unwritten = λ _. refl }

  pub shows_refusal : (fault : Fault) → IsReasonOf subject input (load_error.Refused fault) → Shows subject form input (change bytes faults o o) (status.Refused fault)
  shows_refusal fault is = record {
    usage = λ x. cc x;
    read_fault = λ x. cc x;
    written = untouched (status.Refused fault) (λ x. cc x);
    answered = record {
      fine = λ x. absurd (cc x);
      front = λ x. absurd (cc x);
      refused = λ f x. let same : fault ≡ f = cc in subst (λ f. IsFaultOf subject input f) same (inr is);
    };
  }

  pub shows_nothing : Shows subject form input (change bytes faults o o) NoMemory
  shows_nothing = record {
    usage = λ x. cc x;
    read_fault = λ x. cc x;
    written = untouched NoMemory (λ x. cc x);
    answered = record { fine = λ x. absurd (cc x); front = λ x. absurd (cc x); refused = λ f x. absurd (cc x) };
  }
