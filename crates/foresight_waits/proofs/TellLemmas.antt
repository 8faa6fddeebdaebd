-- What is told of a source.
use Rattle.std.proofs.Common.{◌≡◌, ◌≢◌, ◌<◌, ℕ, true, List, length, Option, Some, None, IfSome, inl, refl, ◌∙◌, subst}
use Rattle.byte_ends.specs.Ends.{IsAtEnd, IsRaised}
use Rattle.byte_ends.specs.Changes.{Change, Failed, change}
use Rattle.serve_faults.specs.Ways.{HasRead, StoppedAs, StopsAs}
use Rattle.serve_faults.specs.declared.status.Fault.{Fault}
use Rattle.serve_faults.specs.declared.status.Fault.TheVariants.{TooLarge}
use Rattle.serve_faults.specs.declared.status.Status.{Status}
use Rattle.serve_faults.specs.declared.status.Status.TheVariants.{NoMemory, ReadFault, WriteFault}
use Rattle.serve_faults.specs.declared.status.Status.TheVariants as status
use Rattle.waiting_pairs.specs.declared.form.Form.{Form}
use Rattle.foresight_waits.specs.declared.command.Subject.{Subject}
use Rattle.foresight_waits.specs.Endings.{has_read_all}
use Rattle.foresight_waits.specs.Runs.{Answered, Shows, Tells, Written, most}

-- what holds of these bytes holds of those that are told
of_told : (o : Option (List ℕ)) (bytes : List ℕ) (P : List ℕ → Type 0) → IfSome o (λ all. bytes ≡ all) → P bytes → IfSome o P
of_told None bytes P is p = tt
of_told (Some all) bytes P is p = subst P is p

of_any : (o : Option (List ℕ)) (P Q : List ℕ → Type 0) → ((bytes : List ℕ) → P bytes → Q bytes) → IfSome o P → IfSome o Q
of_any None P Q f h = tt
of_any (Some all) P Q f h = f all h

always : (o : Option (List ℕ)) (Q : List ℕ → Type 0) → ((bytes : List ℕ) → Q bytes) → IfSome o Q
always None Q f = tt
always (Some all) Q f = f all

module _ {S O : Type 0} (subject : Subject) (form : Form) where
  -- all was read
  pub tells_shown : (source : Change S) (out : Change O) (s : Status) (input : List ℕ) → HasRead (most subject) source input → Shows subject form input out s → Tells subject form (source.bytes source.old) source out s
  tells_shown source out s input read h = record {
    usage = h.usage;
    read_fault = λ x. absurd (h.read_fault x);
    read_well = λ _. read.well;
    written = h.written;
    end = λ _. read.end;
    answered = of_told (source.bytes source.old) input (λ bytes. Answered subject form bytes out s) read.all h.answered;
  }

  -- nothing is shown
  module _ (source : Change S) (bytes : O → Option (List ℕ)) (faults : O → ℕ) (o : O) where
    abbrev pub unshown : Change O
    unshown = change bytes faults o o

    untouched : (s : Status) → s ≢ WriteFault → Written unshown s
    untouched s other = record { write_fault = λ x. absurd (other x); written_well = λ _. refl; unwritten = λ _. refl }

    too_large : (input : List ℕ) → most subject < length input → Answered subject form input unshown (status.Refused TooLarge)
    too_large input more = record {
      fine = λ x. absurd (cc x);
      front = λ x. absurd (cc x);
      refused = λ f x. inl (more, (let same : f ≡ TooLarge = cc in same));
    }

    no_answer : (s : Status) → s ≢ status.Fine → s ≢ WriteFault → ((f : Fault) → s ≢ status.Refused f) → (input : List ℕ) → Answered subject form input unshown s
    no_answer s fine front refused input = record { fine = λ x. absurd (fine x); front = λ x. absurd (front x); refused = λ f x. absurd (refused f x) }

    no_memory : source.faults source.new ≡ source.faults source.old → (given : Option (List ℕ)) → Tells subject form given source unshown NoMemory
    no_memory well given = record {
      usage = λ x. cc x;
      read_fault = λ x. absurd (cc x);
      read_well = λ _. well;
      written = untouched NoMemory (λ x. cc x);
      end = λ x. absurd (cc x);
      answered = always given (λ input. Answered subject form input unshown NoMemory) (no_answer NoMemory (λ x. cc x) (λ x. cc x) (λ f x. cc x));
    }

    failed : Failed source → (given : Option (List ℕ)) → Tells subject form given source unshown ReadFault
    failed rose given = record {
      usage = λ x. cc x;
      read_fault = λ _. rose;
      read_well = λ x. absurd (x refl);
      written = untouched ReadFault (λ x. cc x);
      end = λ x. absurd (cc x);
      answered = always given (λ input. Answered subject form input unshown ReadFault) (no_answer ReadFault (λ x. cc x) (λ x. cc x) (λ f x. cc x));
    }

    stopped : (s : Status) → StopsAs (most subject) source s → Tells subject form (source.bytes source.old) source unshown s
    stopped (status.Refused TooLarge) h = record {
      usage = λ x. cc x;
      read_fault = λ x. absurd (cc x);
      read_well = λ _. h.2;
      written = untouched (status.Refused TooLarge) (λ x. cc x);
      end = λ x. absurd (cc x);
      answered = of_any (source.bytes source.old) (λ all. most subject < length all) (λ input. Answered subject form input unshown (status.Refused TooLarge)) too_large h.0;
    }
    stopped (status.Refused f) h = absurd h
    stopped status.ReadFault h = failed h (source.bytes source.old)
    stopped status.NoMemory h = no_memory h (source.bytes source.old)
    stopped status.Fine h = absurd h
    stopped status.Usage h = absurd h
    stopped status.WriteFault h = absurd h

    pub tells_stopped : (s : Status) → StoppedAs (most subject) source s → Tells subject form (source.bytes source.old) source unshown s
    tells_stopped s h = stopped s h.1

    -- it couldn't be opened
    pub tells_unopened : Failed source → (given : Option (List ℕ)) → Tells subject form given source unshown ReadFault
    tells_unopened = failed

    pub tells_unopened_wanting : source.faults source.new ≡ source.faults source.old → (given : Option (List ℕ)) → Tells subject form given source unshown NoMemory
    tells_unopened_wanting = no_memory

-- what the opened file has, where that is told
opened : (file left : Option (List ℕ)) (P : Option (List ℕ) → Type 0) → IfSome file (λ all. left ≡ Some all) → P None → P left → P file
opened None left P is none some = none
opened (Some all) left P is none some = subst P is some

module _ {S O : Type 0} (subject : Subject) (form : Form) (bytes : S → Option (List ℕ)) (faults : S → ℕ) (old mid new : S) (out : Change O) (s : Status) where
  -- a file is told of once it is open
  pub tells_opened : (file : Option (List ℕ)) → faults mid ≡ faults old → IfSome file (λ all. bytes mid ≡ Some all) → Tells subject form (bytes mid) (change bytes faults mid new) out s → Tells subject form file (change bytes faults old new) out s
  tells_opened file same is h = record {
    usage = h.usage;
    read_fault = λ x. subst (λ (n : ℕ). IsRaised n (faults new)) same (h.read_fault x);
    read_well = λ x. h.read_well x ∙ same;
    written = h.written;
    end = opened file (bytes mid) (λ (o : Option (List ℕ)). has_read_all s ≡ true → IsAtEnd o (bytes new)) is (λ _. tt) h.end;
    answered = opened file (bytes mid) (λ (o : Option (List ℕ)). IfSome o (λ input. Answered subject form input out s)) is tt h.answered;
  }
