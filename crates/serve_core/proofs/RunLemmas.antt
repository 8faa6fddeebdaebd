-- What a run promises of its hall, beside what any run does.
use Rattle.std.proofs.Common.{◌≡◌, ℕ, Bool, ◌&&◌, true, false, if◌then◌else◌, is_some, List, length, nat_lt, Option, Some, None, refl, ap, ◌∙◌}
use Rattle.session_hall.specs.Closings.{ClosedView}
use Rattle.serve_words.specs.declared.command.Command.{Command}
use Rattle.serve_faults.specs.declared.status.Status.{Status}
use Rattle.serve_faults.specs.declared.status.Status.TheVariants as status
use Rattle.serve_faults.specs.Commands.{input_of, is_reading, is_serving}
use Rattle.serve_faults.specs.Input.{client_parts, most_of}
use Rattle.serve_faults.specs.Session.{rows_of}
use Rattle.byte_ends.specs.Changes.{Change, IsUntouched}
use Rattle.serve_faults.specs.Ways.{HasRead, StoppedAs}
use Rattle.serve_single.specs.Runs.{RunsSingle}
use Rattle.serve_single.proofs.RunLemmas.{told_always, told_read}
use Rattle.serve_single.proofs.RunLemmas as single
use Rattle.serve_core.specs.Commands.{has_begun_writing, has_served, has_ticket, is_gathering, opens_always}
use Rattle.serve_core.specs.Runs.{AnswersTo, Holds, Opens, Runs, WroteJournal}

-- ---- no hall
and_false : (a b : Bool) → false ≡ b → false ≡ (a && b)
and_false true b e = e
and_false false b e = refl

not_served : (c : Command) (s : Status) → false ≡ has_begun_writing s → false ≡ has_served (Some c) s
not_served c s unwritten = and_false (is_serving c) (has_begun_writing s) unwritten

-- where nothing is served, no hall is left
none_opened : (c : Command) (bytes : List ℕ) (s : Status) → false ≡ has_served (Some c) s → Opens (Some c) bytes s None
none_opened c bytes s none = and_false (has_ticket c (input_of c bytes)) (has_served (Some c) s) none

pub not_opened : (c : Command) (bytes : List ℕ) (s : Status) → false ≡ has_begun_writing s → Opens (Some c) bytes s None
not_opened c bytes s unwritten = none_opened c bytes s (not_served c s unwritten)

-- a reading that stopped has come to no output
stopped_before : {I : Type 0} (most : ℕ) (source : Change I) (s : Status) → StoppedAs most source s → false ≡ has_begun_writing s
stopped_before most source status.Fine h = absurd h.1
stopped_before most source status.WriteFault h = absurd h.1
stopped_before most source (status.Refused f) h = refl
stopped_before most source status.Usage h = refl
stopped_before most source status.NoMemory h = refl
stopped_before most source status.ReadFault h = refl

-- a run that serves nothing leaves no hall, and promises all that any run does
pub without_hall : {I O : Type 0} (c : Command) (source : Change I) (out : Change O) (s : Status) → false ≡ has_served (Some c) s → RunsSingle (Some c) source out s → Runs (Some c) source out s None
without_hall c source out s none r = record {
  single = r;
  served = λ _. none;
  ticketed = told_always (is_reading (Some c)) source (λ bytes. Opens (Some c) bytes s None) (λ bytes. none_opened c bytes s none);
  hall = told_always (is_reading (Some c)) source (λ bytes. Holds (Some c) bytes out s None) (λ bytes. tt);
  traced = told_always (is_reading (Some c)) source (λ bytes. WroteJournal (Some c) bytes out s None) (λ bytes _ _. tt);
}

-- ---- a hall
-- where a hall is opened whatever the input is, it is left exactly where the run came to its output
ticket_always : (gathers ticket : Bool) → (if gathers then false else true) ≡ true → (if gathers then ticket else true) ≡ true
ticket_always true ticket e = absurd (cc)
ticket_always false ticket e = refl

has_ticket_always : (c : Command) (input : List ℕ) → opens_always (Some c) ≡ true → has_ticket c input ≡ true
has_ticket_always c input e = ticket_always (is_gathering c) (nat_lt 0 (length (rows_of (client_parts input)))) e

pub opened_always : (c : Command) (bytes : List ℕ) (s : Status) (closed : Option ClosedView) → Opens (Some c) bytes s closed → opens_always (Some c) ≡ true → is_some closed ≡ has_served (Some c) s
opened_always c bytes s closed o e = o ∙ ap (λ (b : Bool). b && has_served (Some c) s) (has_ticket_always c (input_of c bytes) e)

module _ {I O : Type 0} (c : Command) (reads : is_reading (Some c) ≡ true) (source : Change I) (out : Change O) where
  -- reading stopped
  pub stopped_run : (s : Status) → StoppedAs (most_of c) source s → IsUntouched out → Runs (Some c) source out s None
  stopped_run s h same = without_hall c source out s (not_served c s (stopped_before (most_of c) source s h)) (single.stopped_run c reads source out s h same)

  -- all was read, and answered
  pub read_run : (bytes : List ℕ) (s : Status) (closed : Option ClosedView) → HasRead (most_of c) source bytes → AnswersTo c bytes out s closed → Runs (Some c) source out s closed
  read_run bytes s closed h a = record {
    single = single.read_run c reads source out bytes s h a.single;
    served = opened_always c bytes s closed a.served;
    ticketed = told_read c source (λ bs. Opens (Some c) bs s closed) (most_of c) bytes reads h a.served;
    hall = told_read c source (λ bs. Holds (Some c) bs out s closed) (most_of c) bytes reads h a.hall;
    traced = told_read c source (λ bs. WroteJournal (Some c) bs out s closed) (most_of c) bytes reads h a.traced;
  }
