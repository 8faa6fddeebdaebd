-- How a call of the library ends, from what a run over memory promises.
use Rattle.std.proofs.Common.{◌≡◌, ℕ, inl, inr, Bool, true, false, cond, nat_le, List, [], length, Option, Some, ap, refl, sym, subst}
use Rattle.std.proofs.lemmas.Bool.{leb-true, leb-false}
use Rattle.byte_ends.specs.Ends.{Appended}
use Rattle.serve_faults.specs.Command.{Command}
use Rattle.serve_faults.specs.declared.status.Fault.{Fault}
use Rattle.serve_faults.specs.declared.status.Status.{Status}
use Rattle.serve_faults.specs.declared.status.Status.TheVariants as status
use Rattle.serve_faults.specs.Answer.{CommandAnswers}
use Rattle.serve_faults.specs.Answer as answer
use Rattle.byte_ends.specs.Changes.{Change}
use Rattle.serve_faults.specs.Commands.{input_of}
use Rattle.serve_faults.proofs.OneAnswer.{text_or_refused}
use Rattle.serve_faults.proofs.OneFault.{refused_once}
use Rattle.serve_single.specs.Runs.{Answered, EndsUnanswered, RunsOver}
use Rattle.foresight_c.specs.Calls.{command_of}
use Rattle.foresight_c.specs.declared.calling.Call.{Call}
use Rattle.foresight_c.specs.Answered.{IsAnswered, IsGiven, IsHandedOver, MayEnd}
use Rattle.foresight_c.specs.declared.answer.Answer.{Answer}
use Rattle.foresight_c.specs.Endings.{ending, handed}

-- what an empty store holds of a text that it took is the text
pub whole : (o p : Option (List ℕ)) (text got : List ℕ) → o ≡ Some [] → p ≡ Some got → Appended o p text → text ≡ got
whole o p text got empty held grew =
    let first : Appended (Some []) p text = subst (λ (q : Option (List ℕ)). Appended q p text) empty grew in
    let now : Appended (Some []) (Some got) text = subst (λ (q : Option (List ℕ)). Appended (Some []) q text) held first in
    cc

-- a call answers its command, by another name of the call
pub of_call : (call same : Call) (callers shards : ℕ) (input out out_new message message_new : List ℕ) (a : Answer) (number : ℕ) → call ≡ same → IsAnswered (command_of same callers shards) input out out_new message message_new a number → IsAnswered (command_of call callers shards) input out out_new message message_new a number
of_call call same callers shards input out out_new message message_new a number is r = subst (λ (x : Call). IsAnswered (command_of x callers shards) input out out_new message message_new a number) (sym is) r

module _ (command : Command) (input : List ℕ) (room : ℕ) where
  wanting : MayEnd command input room status.NoMemory []
  wanting = record {
    fine = λ x. absurd (cc);
    short = λ x. absurd (cc);
    unwritten = λ _ _. refl;
    refused = λ f x. absurd (cc);
    refusing = λ f h. inr refl;
    complete = λ _. inr refl;
    usage = λ x. cc;
    read_fault = λ x. cc;
  }

  -- where the text is the command's, it is whole or longer than the room
  ends_with : (text : List ℕ) → CommandAnswers (Some command) input (answer.Text text) → (b : Bool) → nat_le (length text) room ≡ b → MayEnd command input room (cond b status.Fine status.WriteFault) text
  ends_with text is true e = record {
    fine = λ _. (is, leb-true (length text) room e);
    short = λ x. absurd (cc);
    unwritten = λ x y. absurd (x refl);
    refused = λ f x. absurd (cc);
    refusing = λ f h. absurd (text_or_refused command (input_of command input) text f is.0 is.1 h);
    complete = λ _. inl (inl refl);
    usage = λ x. cc;
    read_fault = λ x. cc;
  }
  ends_with text is false e = record {
    fine = λ x. absurd (cc);
    short = λ _. (is, leb-false (length text) room e);
    unwritten = λ x y. absurd (y refl);
    refused = λ f x. absurd (cc);
    refusing = λ f h. absurd (text_or_refused command (input_of command input) text f is.0 is.1 h);
    complete = λ _. inl (inr refl);
    usage = λ x. cc;
    read_fault = λ x. cc;
  }

  refuses : (fault : Fault) → CommandAnswers (Some command) input (answer.Refused fault) → MayEnd command input room (status.Refused fault) []
  refuses fault is = record {
    fine = λ x. absurd (cc);
    short = λ x. absurd (cc);
    unwritten = λ _ _. refl;
    refused = λ f x. (let same : fault ≡ f = cc in subst (λ (g : Fault). CommandAnswers (Some command) input (answer.Refused g)) same is);
    refusing = λ f h. inl (ap status.Refused (refused_once command (input_of command input) fault f is h));
    complete = λ u. absurd (u fault is);
    usage = λ x. cc;
    read_fault = λ x. cc;
  }

module _ (command : Command) (input text out out_new message message_new : List ℕ) (a : Answer) (number : ℕ) where
  -- a text was handed over
  handed_whole : (b : Bool) → handed (cond b status.Fine status.WriteFault) text ≡ text
  handed_whole true = refl
  handed_whole false = refl

  pub given_by : CommandAnswers (Some command) input (answer.Text text) → IsGiven text out out_new message message_new a number → IsAnswered command input out out_new message message_new a number
  given_by is (inl given) = record {
    status = ending status.Fine (length text) (length out);
    text = text;
    ends = ends_with command input (length out) text is (nat_le (length text) (length out)) refl;
    handed = given;
  }
  given_by is (inr given) = record {
    status = status.NoMemory;
    text = [];
    ends = wanting command input (length out);
    handed = given.1;
  }

  pub whole_by : CommandAnswers (Some command) input (answer.Text text) → IsHandedOver (ending status.Fine (length text) (length out)) (handed (ending status.Fine (length text) (length out)) text) out out_new message message_new a number → IsAnswered command input out out_new message message_new a number
  whole_by is given =
      given_by is (inl (subst (λ (t : List ℕ). IsHandedOver (ending status.Fine (length text) (length out)) t out out_new message message_new a number) (handed_whole (nat_le (length text) (length out))) given))

-- there was none to hand over
module _ (command : Command) (input out out_new message message_new : List ℕ) (a : Answer) (number : ℕ) where
  pub none_by : (s : Status) → EndsUnanswered command input s → IsHandedOver s [] out out_new message message_new a number → IsAnswered command input out out_new message message_new a number
  none_by (status.Refused fault) is given = record {
    status = status.Refused fault;
    text = [];
    ends = refuses command input (length out) fault is;
    handed = given;
  }
  none_by status.NoMemory is given = record {
    status = status.NoMemory;
    text = [];
    ends = wanting command input (length out);
    handed = given;
  }
  none_by status.Fine is given = absurd is
  none_by status.Usage is given = absurd is
  none_by status.ReadFault is given = absurd is
  none_by status.WriteFault is given = absurd is

-- a call answers its command, from a run to a store and from what it hands over of that
module _ {O : Type 0} (command : Command) (input text out out_new message message_new : List ℕ) (a : Answer) (number : ℕ) (store : Change O) (empty : store.bytes store.old ≡ Some []) (held : store.bytes store.new ≡ Some text) where
  -- the text of a run that ended well
  fine_text : Answered (Some command) input store status.Fine → CommandAnswers (Some command) input (answer.Text text)
  fine_text r =
      let got = r.fine refl in
      subst (λ (t : List ℕ). CommandAnswers (Some command) input (answer.Text t)) (whole (store.bytes store.old) (store.bytes store.new) got.0 text empty held got.2.1) got.1

  pub answered_by : (s : Status) → RunsOver command input store s → IsHandedOver (ending s (length text) (length out)) (handed (ending s (length text) (length out)) text) out out_new message message_new a number → IsAnswered command input out out_new message message_new a number
  answered_by status.Fine r given = whole_by command input text out out_new message message_new a number (fine_text r.answers.answered) given
  answered_by (status.Refused fault) r given = none_by command input out out_new message message_new a number (status.Refused fault) (r.answers.answered.refused fault refl) given
  answered_by status.Usage r given = absurd (r.answers.usage refl)
  answered_by status.NoMemory r given = none_by command input out out_new message message_new a number status.NoMemory tt given
  answered_by status.ReadFault r given = absurd (r.answers.read_fault refl)
  answered_by status.WriteFault r given = none_by command input out out_new message message_new a number status.NoMemory tt given
