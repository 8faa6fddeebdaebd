-- Whole runs, from what their parts say.
use Rattle.std.proofs.Common.{◌≡◌, ℕ, ◌+◌, ◌≤◌, true, List, [], ap, Option, Some, None, IfSome, refl, sym, subst, arith}
use Rattle.session_values.specs.Limits.{max_input, max_requests}
use Rattle.byte_ends.specs.Ends.{ConsumedAtMost}
use Rattle.session_hall.specs.Closings.{ClosedView}
use Rattle.serve_words.specs.declared.command.Command.{Command}
use Rattle.serve_words.specs.declared.command.Command.TheVariants.{Work}
use Rattle.serve_words.specs.Commands.{IsWithinBounds}
use Rattle.serve_faults.specs.declared.status.Status.{Status}
use Rattle.serve_faults.specs.declared.status.Status.TheVariants as status
use Rattle.serve_faults.specs.Commands.{is_reading}
use Rattle.byte_ends.specs.Changes.{Change, IsUntouched}
use Rattle.serve_faults.specs.Input.{most_of}
use Rattle.serve_faults.proofs.MadeSession.{unrefused}
use Rattle.serve_core.specs.declared.asked.Writes.{Writes}
use Rattle.serve_core.specs.declared.asked.Writes.TheVariants.{ClientReplies, Events, Replies, Tables}
use Rattle.serve_core.specs.Commands.{command_for}
use Rattle.serve_core.specs.Runs.{AnswersTo, Runs}
use Rattle.serve_faults.specs.Ways.{HasRead, StoppedAs}
use Rattle.serve_core.proofs.RunLemmas.{opened_always, read_run, stopped_run}
use Rattle.serve_single.proofs.RunLemmas.{runs_of}

-- a source that isn't touched has lost nothing
nothing_lost : (o p : Option (List ℕ)) (most : ℕ) → p ≡ o → ConsumedAtMost o p (most + 1)
nothing_lost None p most e = tt
nothing_lost (Some bytes) p most e = (0, omega arith, omega arith, e)

-- the words of `work` are within their bounds
pub few_requests : (o : Option Command) (requests start : ℕ) → o ≡ Some (Work requests start) → IfSome o IsWithinBounds → requests ≤ max_requests
few_requests o requests start is within = (let bounds : IsWithinBounds (Work requests start) = subst (λ (c : Option Command). IfSome c IsWithinBounds) is within in bounds.1)

module _ {I O : Type 0} (source : Change I) (out : Change O) where
  abbrev same_bytes : IsUntouched source → source.bytes source.new ≡ source.bytes source.old
  same_bytes e = (let f : I → Option (List ℕ) = source.bytes in ap f e)

  abbrev same_faults : IsUntouched source → source.faults source.new ≡ source.faults source.old
  same_faults e = (let f : I → ℕ = source.faults in ap f e)

  -- the words are no command line
  pub usage_run : IsUntouched source → IsUntouched out → Runs None source out status.Usage None
  usage_run still same = record {
    single = record {
      usage = (λ e. refl, λ e. refl);
      unread = λ e. (still, λ x. cc);
      made = λ e f x. cc;
      answered = λ bytes. record { fine = λ e. absurd (cc); refused = λ f e. absurd (cc); front = λ e. absurd (cc) };
      refusing = λ bytes f h ok. absurd h;
      complete = λ e. absurd (cc);
      read_fault = λ e. absurd (cc);
      read_well = λ _. same_faults still;
      written = record { write_fault = λ e. absurd (cc); written_well = λ e. absurd (cc); unwritten = λ _ _. same };
      end = λ e. absurd (cc);
      gone = λ e. absurd (cc);
      lost = nothing_lost (source.bytes source.old) (source.bytes source.new) 0 (same_bytes still);
    };
    served = λ e. refl;
    ticketed = λ bytes. refl;
    hall = λ bytes. tt;
    traced = λ bytes. tt;
  }

  -- a made session
  pub work_run : (requests start : ℕ) → requests ≤ max_requests → (s : Status) (closed : Option ClosedView) → IsUntouched source → ((bytes : List ℕ) → AnswersTo (Work requests start) bytes out s closed) → Runs (Some (Work requests start)) source out s closed
  work_run requests start few s closed still a =
      let one = (a []).single in
      record {
        single = runs_of (Work requests start) source out s (record { usage = one.usage; read_fault = λ e. absurd (one.read_fault e); read_well = λ _. same_faults still; written = one.written })
            (λ e. (still, one.read_fault))
            (λ e fault is. unrefused requests start few fault (one.answered.refused fault is))
            (λ bytes. (a bytes).single.answered)
            (λ e. absurd (cc))
            (λ e. absurd (cc))
            (nothing_lost (source.bytes source.old) (source.bytes source.new) max_input (same_bytes still));
        served = opened_always (Work requests start) [] s closed (a []).served;
        ticketed = λ bytes. (a bytes).served;
        hall = λ bytes. (a bytes).hall;
        traced = λ bytes. (a bytes).traced;
      }

  -- ---- commands that serve what they read
  serving_reads : (w : Writes) (callers shards : ℕ) → is_reading (Some (command_for w callers shards)) ≡ true
  serving_reads Replies callers shards = refl
  serving_reads Tables callers shards = refl
  serving_reads Events callers shards = refl
  serving_reads ClientReplies callers shards = refl

  serving_most : (w : Writes) (callers shards : ℕ) → most_of (command_for w callers shards) ≡ max_input
  serving_most Replies callers shards = refl
  serving_most Tables callers shards = refl
  serving_most Events callers shards = refl
  serving_most ClientReplies callers shards = refl

  pub served_run : (w : Writes) (callers shards : ℕ) (bytes : List ℕ) (s : Status) (closed : Option ClosedView) → HasRead max_input source bytes → AnswersTo (command_for w callers shards) bytes out s closed → Runs (Some (command_for w callers shards)) source out s closed
  served_run w callers shards bytes s closed h a = read_run (command_for w callers shards) (serving_reads w callers shards) source out bytes s closed (subst (λ (n : ℕ). HasRead n source bytes) (sym (serving_most w callers shards)) h) a

  pub unserved_run : (w : Writes) (callers shards : ℕ) (s : Status) → StoppedAs max_input source s → IsUntouched out → Runs (Some (command_for w callers shards)) source out s None
  unserved_run w callers shards s h same = stopped_run (command_for w callers shards) (serving_reads w callers shards) source out s (subst (λ (n : ℕ). StoppedAs n source s) (sym (serving_most w callers shards)) h) same
