-- An accepted trace is the serial run.
use Rattle.std.proofs.Common.{◌≡◌, ℕ, zero, suc, ◌<◌, ◌≤◌, ◌⊎◌, inl, inr, List, [], ◌∷◌, ◌++◌, Some, None, refl, sym, ◌∙◌, ap, subst, append_assoc, arith, append-nil}
use Rattle.std.proofs.lemmas.Option.{same_Some}
use Rattle.std.proofs.lemmas.Bool.{cases_eq, cases_lt}
use Rattle.session_values.specs.declared.reply.Reply.{Reply}
use Rattle.session_values.specs.Tables.{Tables}
use Rattle.session_values.specs.Dialogue.{Answers, Entry, Follows, replies}
use Rattle.session_values.specs.Serial.{serial, tables_before}
use Rattle.session_journal.specs.declared.event.Event.{Event}
use Rattle.session_journal.specs.declared.event.Event.TheVariants.{Begin, Done, Delay, End}
use Rattle.session_journal.specs.Journal.{DoneOperation, Replays, begun, by_ticket, done_operations, ended, entries, of_ticket, run, end_of}
use Rattle.session_journal.specs.Script.{Meaning, IsScript, session_of}
use Rattle.session_journal.proofs.Replay.{run-append, Replays-front, Replays-back}
use Rattle.session_journal.proofs.Serial.{GoesOn, goes_on}
use Rattle.session_journal.specs.EventsInTurn.{now}
use Rattle.session_journal.specs.Accepted.{Accepted, AreAllowed, IsAllowed}
use Rattle.session_journal.proofs.Allowed.{only_begun, through_allowed}
use Rattle.session_values.proofs.EntriesFacts.{follows_more}
use Rattle.session_values.proofs.Options.{some_none}
use Rattle.session_journal.proofs.Events.{begun_more, begun_stays, done_operations_stay, ended_new, ended_other, entries_more, entries_other, first_same}

-- what allowed events tell of each ticket
pub record Told (m : Meaning) (J : List Event) : Type 0 where
  pub follows : (t : ℕ) → Follows (m.next t) (entries J t)
  pub answered : (t : ℕ) (r : Reply) → ended J t ≡ Some r → now m J t ≡ Answers r
  pub few : begun J ≤ m.requests

-- an event that is no Done and no End
quiet : (m : Meaning) (J : List Event) (e : Event) → done_operations (e ∷ []) ≡ [] → ((u : ℕ) → end_of u e ≡ None) → begun (J ++ e ∷ []) ≤ m.requests → Told m J → Told m (J ++ e ∷ [])
quiet m J e d n few h = record {
  follows = λ u. let P : List Entry → Type 0 = λ es. Follows (m.next u) es in subst P (sym (same u)) (h.follows u);
  answered = λ u r f. ap (λ (es : List Entry). m.next u (replies es)) (same u) ∙ h.answered u r (sym (first_same (end_of u) J e (n u)) ∙ f);
  few = few;
}
  where
    same : (u : ℕ) → entries (J ++ e ∷ []) u ≡ entries J u
    same u = ap (of_ticket u) (done_operations_stay J e d)

told_step : (m : Meaning) (J : List Event) (e : Event) → Told m J → IsAllowed m J e → Told m (J ++ e ∷ [])
told_step m J (Begin t c) h may = quiet m J (Begin t c) refl (λ u. refl) (let n : begun (J ++ Begin t c ∷ []) ≡ suc (begun J) = begun_more J t c in omega (arith, n, may.next, may.left)) h
told_step m J (Delay t op older s) h may = quiet m J (Delay t op older s) refl (λ u. refl) (let n : begun (J ++ Delay t op older s ∷ []) ≡ begun J = begun_stays J (Delay t op older s) refl in omega (arith, n, h.few)) h
told_step m J (Done t op v) h may = record {
  follows = λ u. elim (cases_eq u t) [
    | inl e ↦ let P : ℕ → Type 0 = λ j. Follows (m.next j) (entries (J ++ Done t op v ∷ []) j) in subst P (sym e) here
    | inr e ↦ let P : List Entry → Type 0 = λ es. Follows (m.next u) es in subst P (sym (entries_other J t op v u e)) (h.follows u)
  ];
  answered = λ u r f. elim (cases_eq u t) [
    | inl e ↦ absurd (some_none r (sym (sym (first_same (end_of u) J (Done t op v) refl) ∙ f) ∙ ap (ended J) e ∙ may.0.is_open.not_ended))
    | inr e ↦ ap (λ (es : List Entry). m.next u (replies es)) (entries_other J t op v u e) ∙ h.answered u r (sym (first_same (end_of u) J (Done t op v) refl) ∙ f)
  ];
  few = let n : begun (J ++ Done t op v ∷ []) ≡ begun J = begun_stays J (Done t op v) refl in omega (arith, n, h.few);
}
  where
    here : Follows (m.next t) (entries (J ++ Done t op v ∷ []) t)
    here = let P : List Entry → Type 0 = λ es. Follows (m.next t) es in subst P (sym (entries_more J t op v)) (follows_more (m.next t) (entries J t) (record { op = op; reply = v }) (h.follows t) may.0.calls)
told_step m J (End t r) h may = record {
  follows = λ u. let P : List Entry → Type 0 = λ es. Follows (m.next u) es in subst P (sym (same u)) (h.follows u);
  answered = λ u q f. ap (λ (es : List Entry). m.next u (replies es)) (same u) ∙ answer u q f (cases_eq u t);
  few = let n : begun (J ++ End t r ∷ []) ≡ begun J = begun_stays J (End t r) refl in omega (arith, n, h.few);
}
  where
    same : (u : ℕ) → entries (J ++ End t r ∷ []) u ≡ entries J u
    same u = ap (of_ticket u) (done_operations_stay J (End t r) refl)

    answer : (u : ℕ) (q : Reply) → ended (J ++ End t r ∷ []) u ≡ Some q → (u ≡ t) ⊎ (u ≡ t → ⊥) → now m J u ≡ Answers q
    answer u q f (inl e) =
        let is : ended (J ++ End t r ∷ []) t ≡ Some q = ap (ended (J ++ End t r ∷ [])) (sym e) ∙ f in
        let new : ended (J ++ End t r ∷ []) t ≡ Some r = ended_new J t r may.is_open.not_ended in
        ap (λ (j : ℕ). now m J j) e ∙ may.answers ∙ ap (λ (x : Reply). Answers x) (same_Some r q (sym new ∙ is))
    answer u q f (inr e) = h.answered u q (sym (ended_other J t r u e) ∙ f)

told_none : (m : Meaning) → Told m []
told_none m = record { follows = λ t. tt; answered = λ t r e. absurd (some_none r (sym e)); few = omega arith }

pub told : (m : Meaning) (J : List Event) → AreAllowed m [] J → Told m J
told m J a = through_allowed m (Told m) (λ K e k may. told_step m K e k may) [] J (told_none m) a

-- ---- the tickets one after another
record Front (t n : ℕ) (ds : List DoneOperation) : Type 0 where
  back : List Entry
  is : by_ticket n ds ≡ by_ticket t ds ++ back

front_of : (n t : ℕ) (ds : List DoneOperation) → t ≤ n → Front t n ds
front_of zero t ds l = let P : ℕ → Type 0 = λ j. Front j zero ds in let e : zero ≡ t = omega (arith, l) in subst P e (record { back = []; is = refl })
front_of (suc n) t ds l = elim (le_cases t n l) [
  | inl e ↦ let P : ℕ → Type 0 = λ j. Front j (suc n) ds in subst P (sym e) (record { back = []; is = sym (append-nil (by_ticket (suc n) ds)) })
  | inr m ↦ let f : Front t n ds = front_of n t ds m in record { back = f.back ++ of_ticket n ds; is = ap (λ (es : List Entry). es ++ of_ticket n ds) f.is ∙ append_assoc (by_ticket t ds) f.back (of_ticket n ds) }
]
  where
    le_cases : (t n : ℕ) → t ≤ suc n → (t ≡ suc n) ⊎ (t ≤ n)
    le_cases t n l = grind arith

pub replays_to : (ts : Tables) (n t : ℕ) (ds : List DoneOperation) → t ≤ n → Replays ts (by_ticket n ds) → Replays ts (by_ticket t ds)
replays_to ts n t ds l h =
    let f : Front t n ds = front_of n t ds l in
    let P : List Entry → Type 0 = λ es. Replays ts es in
    Replays-front ts (by_ticket t ds) f.back (subst P f.is h)

-- how one ticket of an accepted trace was served
record Same (m : Meaning) (J : List Event) (t : ℕ) : Type 0 where
  entries : entries J t ≡ (serial (session_of m) t).entries
  answer : ended J t ≡ (serial (session_of m) t).answer
  after : tables_before (session_of m) (suc t) ≡ run m.opening (by_ticket (suc t) (done_operations J))

module _ (m : Meaning) (J : List Event) (S : IsScript m) (a : Accepted m J) where
  all_told : Told m J
  all_told = told m J a.allowed

  is_begun : (t : ℕ) → t < m.requests → t < begun J
  is_begun t l = by (cases_lt t (begun J))
    where
      by : (t < begun J) ⊎ (begun J ≤ t) → t < begun J
      by (inl h) = h
      by (inr h) = let e = a.ended t l in absurd (some_none e.0 (sym e.1 ∙ (only_begun m J a.allowed).ended t h))

  one_ticket : (t : ℕ) → t < m.requests → tables_before (session_of m) t ≡ run m.opening (by_ticket t (done_operations J)) → Same m J t
  one_ticket t l before =
      let ds : List DoneOperation = done_operations J in
      let P : Tables → Type 0 = λ ts. Replays ts (of_ticket t ds) in
      let here : Replays (tables_before (session_of m) t) (of_ticket t ds) = subst P (sym before) (Replays-back m.opening (by_ticket t ds) (of_ticket t ds) (replays_to m.opening (begun J) (suc t) ds (omega (arith, is_begun t l)) a.regrouped)) in
      let g : GoesOn (m.length t) (m.next t) (tables_before (session_of m) t) (of_ticket t ds) = goes_on (m.length t) (m.next t) (tables_before (session_of m) t) (of_ticket t ds) (S.ends t) ((all_told).follows t) here in
      let e = a.ended t l in
      let w = g.answered e.0 ((all_told).answered t e.0 e.1) in
      record {
        entries = sym (g.entries ∙ ap (λ (back : List Entry). of_ticket t ds ++ back) w.0 ∙ append-nil (of_ticket t ds));
        answer = e.1 ∙ sym w.1;
        after = g.after ∙ ap (run (run (tables_before (session_of m) t) (of_ticket t ds))) w.0 ∙ ap (λ (ts : Tables). run ts (of_ticket t ds)) before ∙ sym (run-append m.opening (by_ticket t ds) (of_ticket t ds));
      }

  before_each : (t : ℕ) → t ≤ m.requests → tables_before (session_of m) t ≡ run m.opening (by_ticket t (done_operations J))
  before_each zero l = refl
  before_each (suc t) l = (one_ticket t l (before_each t (omega (arith, l)))).after

  pub same_entries : (t : ℕ) → t < m.requests → entries J t ≡ (serial (session_of m) t).entries
  same_entries t l = (one_ticket t l (before_each t (omega (arith, l)))).entries

  pub same_answer : (t : ℕ) → t < m.requests → ended J t ≡ (serial (session_of m) t).answer
  same_answer t l = (one_ticket t l (before_each t (omega (arith, l)))).answer
