-- The tickets of a script, run one after another on tables.
use Rattle.std.proofs.Common.{◌≡◌, ℕ, suc, ◌+◌, List, [], ◌∷◌, ◌++◌, length, map, Option, sym, ◌∙◌, ap, subst, add-one, arith, length-append}
use Rattle.session_values.specs.declared.reply.Reply.{Reply}
use Rattle.session_values.specs.Dialogue.{Entry}
use Rattle.session_values.specs.Serial.{Session, answered, serial_replies, serve, tables_before}
use Rattle.session_values.specs.Tables.{Tables, kind_of}
use Rattle.session_journal.proofs.Openings.{opening_kinds}
use Rattle.session_journal.specs.Journal.{Replays, run}
use Rattle.session_journal.specs.Script.{IsScript, Meaning, session_of}
use Rattle.session_journal.proofs.Serial.{GoesOn, goes_on}
use Rattle.handler_machine.specs.Asking.{Runs, Steps}
use Rattle.serve_single.specs.Serving.{AreServed}
use Rattle.serve_single.specs.Tables.{WholeStep}
use Rattle.serve_single.specs.declared.tables.Answering.{Answering}

abbrev tables_in : Answering → Tables
tables_in a = a.tables

-- what steps do is what their operations do
steps_replay : (es : List Entry) (old new : Answering) → Steps WholeStep old es new → Replays (tables_in old) es × (tables_in new ≡ run (tables_in old) es)
steps_replay [] old new s = (tt, ap tables_in s)
steps_replay (e ∷ es) old new s =
    let rest = steps_replay es s.0 new s.2 in
    let P : Tables → Type 0 = λ ts. Replays ts es in
    ((sym s.1.0, subst P s.1.1 rest.0), rest.1 ∙ ap (λ (ts : Tables). run ts es) s.1.1)

-- one ticket more has its serial reply, and leaves the tables that it leaves in the serial run
pub served_next : (m : Meaning) (t : ℕ) (old new : Answering) (r : Reply) (rs : List Reply) → IsScript m → AreServed m t rs (tables_in old) → Runs WholeStep (m.next t) old new r → map kind_of (tables_in new) ≡ map kind_of (tables_in old) → AreServed m (t + 1) (rs ++ r ∷ []) (tables_in new)
served_next m t old new r rs script before runs stays =
    let s : Session = session_of m in
    let ts : Tables = tables_before s t in
    let done = steps_replay runs.entries old new runs.steps in
    let P : Tables → Type 0 = λ us. Replays us runs.entries in
    let g : GoesOn (m.length t) (m.next t) ts runs.entries = goes_on (m.length t) (m.next t) ts runs.entries (script.ends t) runs.follows (subst P before.tables_are done.0) in
    let whole = g.answered r runs.answers in
    let after : (serve (m.length t) (m.next t) ts).after ≡ run ts runs.entries = g.after ∙ ap (run (run ts runs.entries)) whole.0 in
    let Q : ℕ → Type 0 = λ n. AreServed m n (rs ++ r ∷ []) (tables_in new) in
    let onward : AreServed m (suc t) (rs ++ r ∷ []) (tables_in new) = record {
      replies_are = ap (λ (xs : List Reply). xs ++ r ∷ []) before.replies_are ∙ sym (ap (λ (o : Option Reply). serial_replies s t ++ answered o) whole.1);
      long = omega (arith, length-append rs (r ∷ []), before.long);
      tables_are = done.1 ∙ ap (λ (us : Tables). run us runs.entries) before.tables_are ∙ sym after;
      kinds = stays ∙ before.kinds;
    } in
    subst Q (sym (add-one t)) onward

-- no ticket was served
pub none_served : (m : Meaning) (rs : List Reply) (ts : Tables) → IsScript m → rs ≡ [] → ts ≡ m.opening → AreServed m 0 rs ts
none_served m rs ts script none opening = record {
  replies_are = none;
  long = ap (λ (xs : List Reply). length xs) none;
  tables_are = opening;
  kinds = ap (map kind_of) (opening ∙ script.opening) ∙ opening_kinds m.shape m.opened;
}
