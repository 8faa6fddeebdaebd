-- What a run promises, from what its parts say.
use Rattle.std.proofs.Common.{◌≡◌, ◌≢◌, ℕ, ◌+◌, ◌<◌, ◌≤◌, ◌⊎◌, inl, inr, Bool, true, false, List, length, Option, Some, None, IfSome, refl, sym, ap, ◌∙◌, subst, arith}
use Rattle.std.proofs.lemmas.List.{drop_all}
use Rattle.session_values.proofs.Options.{if_some}
use Rattle.byte_ends.specs.Ends.{IsAtEnd, Consumed, ConsumedAtMost}
use Rattle.serve_faults.specs.Command.{Command}
use Rattle.serve_faults.specs.Command.TheVariants.{Check, Show, Serve, Dump, Work, Ranges, Trace, Audit, Clients}
use Rattle.serve_faults.specs.declared.status.Fault.{Fault}
use Rattle.serve_faults.specs.declared.status.Fault.TheVariants.{TooLarge}
use Rattle.serve_faults.specs.declared.status.Status.{Status}
use Rattle.serve_faults.specs.declared.status.Status.TheVariants as status
use Rattle.serve_faults.specs.Answer.{IsRefused, IsTextOf, IsUnrefused}
use Rattle.serve_faults.specs.Commands.{input_of, is_reading}
use Rattle.serve_faults.specs.Input.{IsInput, IsTooLarge, most_of}
use Rattle.byte_ends.specs.Changes.{Change, Failed, HasNotFailed, IsUntouched, WroteAll, WrotePrefix}
use Rattle.serve_faults.specs.Ways.{HasRead, StoppedAs}
use Rattle.serve_faults.proofs.OneAnswer.{refused_once, text_or_refused}
use Rattle.serve_single.specs.Runs.{Answered, AnswersSingle, RunsOver, RunsSingle, Told, ToldBy, Written, has_read_all}

-- ---- what a command answers to its input
module _ {O : Type 0} (c : Command) (bytes : List ℕ) (out : Change O) where
  -- nothing, with a status that says so
  pub refused_answer : (f : Fault) → IsRefused c (input_of c bytes) f → Answered (Some c) bytes out (status.Refused f)
  refused_answer f r = record {
    fine = λ e. absurd (cc);
    refused = λ g e. (let same : f ≡ g = cc in subst (λ h. IsRefused c (input_of c bytes) h) same r);
    front = λ e. absurd (cc);
  }

  pub no_answer : (s : Status) → s ≢ status.Fine → ((f : Fault) → s ≢ status.Refused f) → s ≢ status.WriteFault → Answered (Some c) bytes out s
  no_answer s fine refused front = record {
    fine = λ e. absurd (fine e);
    refused = λ f e. absurd (refused f e);
    front = λ e. absurd (front e);
  }

  -- the text, or a front of it
  pub fine_answer : (text : List ℕ) → IsInput c (input_of c bytes) → IsTextOf c (input_of c bytes) text → WroteAll out text → Answered (Some c) bytes out status.Fine
  fine_answer text i is took = record {
    fine = λ e. (text, (i, is), took);
    refused = λ f e. absurd (cc);
    front = λ e. absurd (cc);
  }

  pub front_answer : (text : List ℕ) → IsInput c (input_of c bytes) → IsTextOf c (input_of c bytes) text → WrotePrefix out text → Answered (Some c) bytes out status.WriteFault
  front_answer text i is took = record {
    fine = λ e. absurd (cc);
    refused = λ f e. absurd (cc);
    front = λ e. (text, (i, is), took);
  }

-- ---- of what is told

told_by : {S : Type 0} (reads : Bool) (s : Change S) (P Q : List ℕ → Type 0) → ((bytes : List ℕ) → P bytes → Q bytes) → ToldBy reads s P → ToldBy reads s Q
told_by true s P Q f h = if_some P Q (s.bytes s.old) f h
told_by false s P Q f h = λ bytes. f bytes (h bytes)

told_map : {S : Type 0} (c : Command) (s : Change S) (P Q : List ℕ → Type 0) → ((bytes : List ℕ) → P bytes → Q bytes) → Told (Some c) s P → Told (Some c) s Q
told_map c s P Q f h = told_by (is_reading (Some c)) s P Q f h

-- what a command's source tells that reads
pub told_some : {S : Type 0} (c : Command) (s : Change S) (P : List ℕ → Type 0) → is_reading (Some c) ≡ true → IfSome (s.bytes s.old) P → Told (Some c) s P
told_some c s P e h = subst (λ (reads : Bool). ToldBy reads s P) (sym e) h

pub untold : {X : Type 0} (P : X → Type 0) (o : Option X) → ((x : X) → P x) → IfSome o P
untold P None f = tt
untold P (Some x) f = f x

-- what holds of whatever bytes holds of those that are told
pub told_always : {S : Type 0} (reads : Bool) (s : Change S) (P : List ℕ → Type 0) → ((bytes : List ℕ) → P bytes) → ToldBy reads s P
told_always true s P f = untold P (s.bytes s.old) f
told_always false s P f = f

-- and so does what holds of the bytes that were read
pub told_read : {S : Type 0} (c : Command) (s : Change S) (P : List ℕ → Type 0) (most : ℕ) (bytes : List ℕ) → is_reading (Some c) ≡ true → HasRead most s bytes → P bytes → Told (Some c) s P
told_read c s P most bytes reads h p = told_some c s P reads (if_some (λ all. bytes ≡ all) P (s.bytes s.old) (λ all e. subst P e p) h.all)

-- ---- a whole run
module _ {I O : Type 0} (c : Command) (source : Change I) (out : Change O) where
  -- what a status tells besides
  pub record Ends (s : Status) : Type 0 where
    pub usage : s ≢ status.Usage
    pub read_fault : s ≡ status.ReadFault → Failed source
    pub read_well : s ≢ status.ReadFault → HasNotFailed source
    pub written : Written out s

  refuses : (bytes : List ℕ) (s : Status) (f : Fault) → Ends s → Answered (Some c) bytes out s → IsRefused c (input_of c bytes) f → (Failed source → ⊥) → (s ≡ status.Refused f) ⊎ (s ≡ status.NoMemory)
  refuses bytes status.Fine f h a r ok = let t = a.fine refl in absurd (text_or_refused c (input_of c bytes) t.0 f t.1.0 t.1.1 r)
  refuses bytes (status.Refused g) f h a r ok = inl (ap status.Refused (refused_once c (input_of c bytes) g f (a.refused g refl) r))
  refuses bytes status.Usage f h a r ok = absurd (h.usage refl)
  refuses bytes status.NoMemory f h a r ok = inr refl
  refuses bytes status.ReadFault f h a r ok = absurd (ok (h.read_fault refl))
  refuses bytes status.WriteFault f h a r ok = let t = a.front refl in absurd (text_or_refused c (input_of c bytes) t.0 f t.1.0 t.1.1 r)

  completes : (bytes : List ℕ) (s : Status) → Ends s → Answered (Some c) bytes out s → IsUnrefused (Some c) bytes → (Failed source → ⊥) → (Failed out → ⊥) → (s ≡ status.Fine) ⊎ (s ≡ status.NoMemory)
  completes bytes status.Fine h a u ok ok' = inl refl
  completes bytes (status.Refused g) h a u ok ok' = absurd (u g (a.refused g refl))
  completes bytes status.Usage h a u ok ok' = absurd (h.usage refl)
  completes bytes status.NoMemory h a u ok ok' = inr refl
  completes bytes status.ReadFault h a u ok ok' = absurd (ok (h.read_fault refl))
  completes bytes status.WriteFault h a u ok ok' = absurd (ok' (h.written.write_fault refl))

  abbrev left : Option (List ℕ)
  left = source.bytes source.old

  abbrev rest : Option (List ℕ)
  rest = source.bytes source.new

  pub runs_of : (s : Status) → Ends s → (is_reading (Some c) ≡ false → IsUntouched source × (s ≢ status.ReadFault)) → (is_reading (Some c) ≡ false → (fault : Fault) → s ≢ status.Refused fault) → Told (Some c) source (λ bytes. Answered (Some c) bytes out s)
      → (is_reading (Some c) ≡ true → has_read_all s ≡ true → IsAtEnd left rest) → (is_reading (Some c) ≡ true → s ≡ status.Refused TooLarge → Consumed left rest (most_of c + 1)) → ConsumedAtMost left rest (most_of c + 1)
      → RunsSingle (Some c) source out s
  runs_of s h unread made answered end gone lost = record {
    usage = (λ e. absurd (h.usage e), λ e. absurd (cc));
    unread = unread;
    made = made;
    answered = answered;
    refusing = told_map c source (λ bytes. Answered (Some c) bytes out s) _ (λ bytes a f r ok. refuses bytes s f h a r ok) answered;
    complete = λ e. told_map c source (λ bytes. Answered (Some c) bytes out s) _ (λ bytes a u ok ok'. completes bytes s h a u ok ok') answered;
    read_fault = h.read_fault;
    read_well = h.read_well;
    written = h.written;
    end = end;
    gone = gone;
    lost = lost;
  }

-- ---- commands that read
reading_input : (c : Command) (bytes : List ℕ) → is_reading (Some c) ≡ true → input_of c bytes ≡ bytes
reading_input Check bytes e = refl
reading_input Show bytes e = refl
reading_input (Serve callers shards) bytes e = refl
reading_input (Dump callers shards) bytes e = refl
reading_input (Work requests start) bytes e = absurd (cc)
reading_input Ranges bytes e = refl
reading_input (Trace callers shards) bytes e = refl
reading_input Audit bytes e = refl
reading_input (Clients callers shards) bytes e = refl

-- an input of more bytes than the command takes is too large
too_long : (c : Command) (input : List ℕ) → most_of c < length input → IsTooLarge c input
too_long Check input l = l
too_long Show input l = l
too_long (Serve callers shards) input l = l
too_long (Dump callers shards) input l = l
too_long (Work requests start) input l = l
too_long Ranges input l = l
too_long (Trace callers shards) input l = l
too_long Audit input l = inl l
too_long (Clients callers shards) input l = l

-- where all of so few bytes is gone, so are one more than the most of them
all_gone : (old new : Option (List ℕ)) (bytes : List ℕ) (most : ℕ) → IfSome old (λ all. bytes ≡ all) → IsAtEnd old new → length bytes ≤ most → Consumed old new (most + 1)
all_gone None new bytes most h end short = tt
all_gone (Some all) new bytes most h end short =
    let few : length all ≤ most + 1 = omega (arith, ap (λ (bs : List ℕ). length bs) h, short) in
    end ∙ ap Some (sym (drop_all (most + 1) all few))

module _ {I O : Type 0} (c : Command) (reads : is_reading (Some c) ≡ true) (source : Change I) (out : Change O) where
  unread_none : (s : Status) → is_reading (Some c) ≡ false → IsUntouched source × (s ≢ status.ReadFault)
  unread_none s e = absurd (cc)

  made_none : (s : Status) → is_reading (Some c) ≡ false → (fault : Fault) → s ≢ status.Refused fault
  made_none s e = absurd (cc)

  unanswered : (s : Status) → s ≢ status.Fine → ((f : Fault) → s ≢ status.Refused f) → s ≢ status.WriteFault → Told (Some c) source (λ bytes. Answered (Some c) bytes out s)
  unanswered s fine refused front = told_always (is_reading (Some c)) source (λ bytes. Answered (Some c) bytes out s) (λ bytes. no_answer c bytes out s fine refused front)

  -- reading stopped
  pub stopped_run : (s : Status) → StoppedAs (most_of c) source s → IsUntouched out → RunsSingle (Some c) source out s
  stopped_run (status.Refused TooLarge) h same =
      runs_of c source out (status.Refused TooLarge) (record { usage = λ e. cc; read_fault = λ e. absurd (cc); read_well = λ _. h.1.2; written = record { write_fault = λ e. absurd (cc); written_well = λ e. absurd (cc); unwritten = λ _ _. same } })
      (unread_none (status.Refused TooLarge)) (made_none (status.Refused TooLarge))
      (told_some c source (λ bytes. Answered (Some c) bytes out (status.Refused TooLarge)) reads
      (if_some (λ all. most_of c < length all) _ (source.bytes source.old) (λ bytes l. refused_answer c bytes out TooLarge (too_long c (input_of c bytes) (subst (λ (bs : List ℕ). most_of c < length bs) (sym (reading_input c bytes reads)) l))) h.1.0))
      (λ _ e. absurd (cc)) (λ _ _. h.1.1) h.0
  stopped_run (status.Refused f) h same = absurd h.1
  stopped_run status.Fine h same = absurd h.1
  stopped_run status.Usage h same = absurd h.1
  stopped_run status.WriteFault h same = absurd h.1
  stopped_run status.ReadFault h same =
      runs_of c source out status.ReadFault (record { usage = λ e. cc; read_fault = λ _. h.1; read_well = λ away. absurd (away refl); written = record { write_fault = λ e. absurd (cc); written_well = λ e. absurd (cc); unwritten = λ _ _. same } })
      (unread_none status.ReadFault) (made_none status.ReadFault) (unanswered status.ReadFault (λ e. cc) (λ f e. cc) (λ e. cc))
      (λ _ e. absurd (cc)) (λ _ e. absurd (cc)) h.0
  stopped_run status.NoMemory h same =
      runs_of c source out status.NoMemory (record { usage = λ e. cc; read_fault = λ e. absurd (cc); read_well = λ _. h.1; written = record { write_fault = λ e. absurd (cc); written_well = λ e. absurd (cc); unwritten = λ _ _. same } })
      (unread_none status.NoMemory) (made_none status.NoMemory) (unanswered status.NoMemory (λ e. cc) (λ f e. cc) (λ e. cc))
      (λ _ e. absurd (cc)) (λ _ e. absurd (cc)) h.0

  -- all was read, and answered
  pub read_run : (bytes : List ℕ) (s : Status) → HasRead (most_of c) source bytes → AnswersSingle c bytes out s → RunsSingle (Some c) source out s
  read_run bytes s h a =
      runs_of c source out s (record { usage = a.usage; read_fault = λ e. absurd (a.read_fault e); read_well = λ _. h.well; written = a.written })
      (unread_none s) (made_none s)
      (told_read c source (λ bs. Answered (Some c) bs out s) (most_of c) bytes reads h a.answered)
      (λ _ _. h.end)
      (λ _ e. all_gone (source.bytes source.old) (source.bytes source.new) bytes (most_of c) h.all h.end h.short)
      h.lost

-- ---- bytes that a caller keeps

-- more of them than the command takes
pub large_refused : (c : Command) (bytes : List ℕ) → is_reading (Some c) ≡ true → most_of c < length bytes → IsRefused c (input_of c bytes) TooLarge
large_refused c bytes reads long = too_long c (input_of c bytes) (subst (λ (bs : List ℕ). most_of c < length bs) (sym (reading_input c bytes reads)) long)

module _ {O : Type 0} (c : Command) (bytes : List ℕ) (out : Change O) where
  still_refuses : (s : Status) (f : Fault) → AnswersSingle c bytes out s → IsRefused c (input_of c bytes) f → (s ≡ status.Refused f) ⊎ (s ≡ status.NoMemory)
  still_refuses status.Fine f a r = let t = a.answered.fine refl in absurd (text_or_refused c (input_of c bytes) t.0 f t.1.0 t.1.1 r)
  still_refuses (status.Refused g) f a r = inl (ap status.Refused (refused_once c (input_of c bytes) g f (a.answered.refused g refl) r))
  still_refuses status.Usage f a r = absurd (a.usage refl)
  still_refuses status.NoMemory f a r = inr refl
  still_refuses status.ReadFault f a r = absurd (a.read_fault refl)
  still_refuses status.WriteFault f a r = let t = a.answered.front refl in absurd (text_or_refused c (input_of c bytes) t.0 f t.1.0 t.1.1 r)

  still_completes : (s : Status) → AnswersSingle c bytes out s → IsUnrefused (Some c) bytes → (Failed out → ⊥) → (s ≡ status.Fine) ⊎ (s ≡ status.NoMemory)
  still_completes status.Fine a u ok = inl refl
  still_completes (status.Refused g) a u ok = absurd (u g (a.answered.refused g refl))
  still_completes status.Usage a u ok = absurd (a.usage refl)
  still_completes status.NoMemory a u ok = inr refl
  still_completes status.ReadFault a u ok = absurd (a.read_fault refl)
  still_completes status.WriteFault a u ok = absurd (ok (a.written.write_fault refl))

  pub runs_over : (s : Status) → AnswersSingle c bytes out s → RunsOver c bytes out s
  runs_over s a = record {
    answers = a;
    refusing = λ f r. still_refuses s f a r;
    complete = λ u ok. still_completes s a u ok;
  }

  pub large_over : is_reading (Some c) ≡ true → most_of c < length bytes → IsUntouched out → RunsOver c bytes out (status.Refused TooLarge)
  large_over reads long same = runs_over (status.Refused TooLarge) (record {
    usage = λ e. cc;
    read_fault = λ e. cc;
    answered = refused_answer c bytes out TooLarge (large_refused c bytes reads long);
    written = record { write_fault = λ e. absurd (cc); written_well = λ e. absurd (cc); unwritten = λ _ _. same };
  })
