-- Each script has events that are accepted: its tickets, served one after another by one caller.
use Rattle.std.proofs.Common.{◌≡◌, ℕ, zero, suc, ◌<◌, ◌≤◌, ◌^◌, ◌⊎◌, inl, inr, List, [], ◌∷◌, ◌++◌, Bool, false, cond, Some, None, refl, sym, ◌∙◌, ap, subst, append_assoc, append-nil, arith, lit<}
use Rattle.std.proofs.lemmas.Bool.{cases_eq, cases_lt}
use Rattle.std.proofs.lemmas.Bool.Decides.{nat_tests}
use Rattle.std.specs.List.{AllByRecursion}
use Rattle.std.specs.Prelude.{Option, IsSome, ◌==◌}
use Rattle.session_values.specs.declared.op.Op.{Op}
use Rattle.session_values.specs.declared.reply.Reply.{Reply}
use Rattle.session_values.specs.declared.value.Value.{Value}
use Rattle.session_values.specs.Dialogue.{Calls, Answers, Dialogue, Entry, EndsBy, replies, rest}
use Rattle.session_values.specs.Limits.{max_callers, max_requests}
use Rattle.session_values.specs.Op.{IsHeld}
use Rattle.session_values.specs.Reply.{IsHeldReply}
use Rattle.session_values.specs.Serial.{Served, served_first, serve, tables_before}
use Rattle.session_values.specs.Tables.{Tables, reply, step}
use Rattle.session_values.specs.Values.{IsValue}
use Rattle.session_values.proofs.Lists.{all_push, all_weaker}
use Rattle.session_values.proofs.Options.{some_none}
use Rattle.session_journal.specs.declared.event.Event.{Event}
use Rattle.session_journal.specs.declared.event.Event.TheVariants.{Begin, Done, End}
use Rattle.session_journal.specs.EventsInTurn.{MayBegin, MayBeDone, MayEnd}
use Rattle.session_journal.specs.Journal.{DoneOperation, InversionsCommute, Replays, begun, done_operations, end_of, ended, entries, entry_of, in_order, of_ticket, owner, run}
use Rattle.session_journal.specs.Script.{HasValues, IsScript, Meaning, session_of}
use Rattle.session_journal.proofs.Events.{OnlyBegun, begun_more, begun_stays, done_operations-append, done_operations_stay, ended_new, ended_other, entries_more, first_same, in_order-append}
use Rattle.session_journal.proofs.Regroup.{InversionsCommute-push, regrouped_replays}
use Rattle.session_journal.proofs.Replay.{Replays-append, run-append}
use Rattle.session_journal.proofs.Serial.{EndsBy-rest, serve-answers, serve-calls}
use Rattle.session_journal.proofs.Serving.{serial_values}
use Rattle.session_journal.proofs.Values.{AreReplies}
use Rattle.session_journal.specs.Accepted.{Accepted, AreAllowed, IsAllowed}
use Rattle.session_journal.specs.Traces.{HasKnownSymbol}
use Rattle.session_journal.proofs.Allowed.{only_begun}
use Rattle.serve_faults.specs.Bounds.{IsHeldEvent}
use Rattle.file_laws.proofs.Served.{GivesValues}

-- ---- one event more

-- events that are allowed, and the tables that they leave; a program can hold them
record Tells (m : Meaning) (J : List Event) (ts : Tables) : Type 0 where
  allowed : AreAllowed m [] J
  tables : run m.opening (in_order (done_operations J)) ≡ ts
  replays : Replays m.opening (in_order (done_operations J))
  inversions : InversionsCommute (done_operations J)
  held : AllByRecursion IsHeldEvent J
  known : AllByRecursion HasKnownSymbol J

allowed_push : (m : Meaning) (front J : List Event) (e : Event) → AreAllowed m front J → IsAllowed m (front ++ J) e → AreAllowed m front (J ++ e ∷ [])
allowed_push m front [] e h k = let P : List Event → Type 0 = λ K. IsAllowed m K e in (subst P (append-nil front) k, tt)
allowed_push m front (x ∷ J) e h k =
    let P : List Event → Type 0 = λ K. IsAllowed m K e in
    (h.0, allowed_push m (front ++ x ∷ []) J e h.1 (subst P (sym (append_assoc front (x ∷ []) J)) k))

-- an event that is no Done
tells_quiet : (m : Meaning) (J : List Event) (ts : Tables) (e : Event) → Tells m J ts → IsAllowed m J e → done_operations (e ∷ []) ≡ [] → IsHeldEvent e → HasKnownSymbol e → Tells m (J ++ e ∷ []) ts
tells_quiet m J ts e h may none held known =
    let same : done_operations (J ++ e ∷ []) ≡ done_operations J = done_operations_stay J e none in
    let P : List DoneOperation → Type 0 = λ ds. Replays m.opening (in_order ds) in
    record {
      allowed = allowed_push m [] J e h.allowed may;
      tables = ap (λ (ds : List DoneOperation). run m.opening (in_order ds)) same ∙ h.tables;
      replays = subst P (sym same) h.replays;
      inversions = subst InversionsCommute (sym same) h.inversions;
      held = all_push IsHeldEvent J e h.held held;
      known = all_push HasKnownSymbol J e h.known known;
    }

-- an operation of the last ticket
tells_done : (m : Meaning) (J : List Event) (ts : Tables) (t : ℕ) (op : Op) → Tells m J ts → MayBeDone m J t op → begun J ≡ suc t → t < 2 ^ 32 → IsHeld op → IsValue (reply ts op) → Tells m (J ++ Done t op (reply ts op) ∷ []) (step ts op)
tells_done m J ts t op h may last few held value =
    let d : DoneOperation = record { ticket = t; op = op; reply = reply ts op } in
    let ds : List DoneOperation = done_operations J in
    let es : List Entry = in_order ds in
    let more : done_operations (J ++ Done t op (reply ts op) ∷ []) ≡ ds ++ d ∷ [] = done_operations-append J (Done t op (reply ts op) ∷ []) in
    let all : in_order (done_operations (J ++ Done t op (reply ts op) ∷ [])) ≡ es ++ entry_of d ∷ [] = ap in_order more ∙ in_order-append ds (d ∷ []) in
    let gives : reply (run m.opening es) op ≡ reply ts op = ap (λ (us : Tables). reply us op) h.tables in
    let P : List Entry → Type 0 = λ xs. Replays m.opening xs in
    record {
      allowed = allowed_push m [] J (Done t op (reply ts op)) h.allowed (may, gives);
      tables = ap (run m.opening) all ∙ run-append m.opening es (entry_of d ∷ []) ∙ ap (λ (us : Tables). step us op) h.tables;
      replays = subst P (sym all) (Replays-append m.opening es (entry_of d ∷ []) h.replays (gives, tt));
      inversions = subst InversionsCommute (sym more) (InversionsCommute-push ds d h.inversions (all_weaker _ _ (λ e l k. absurd (omega (arith, l, k, last))) ds (only_begun m J h.allowed).done_operations));
      held = all_push IsHeldEvent J (Done t op (reply ts op)) h.held (few, held, value);
      known = all_push HasKnownSymbol J (Done t op (reply ts op)) h.known tt;
    }

-- ---- one ticket

-- the tickets below this one have begun and ended, and no other has begun
record Between (m : Meaning) (J : List Event) (t : ℕ) (ts : Tables) : Type 0 where
  tells : Tells m J ts
  begun_is : begun J ≡ t
  ended_are : (u : ℕ) → u < t → (r : Reply) × (ended J u ≡ Some r)

-- this one has begun too, has these entries, and hasn't ended
record Within (m : Meaning) (J : List Event) (t : ℕ) (es : List Entry) (ts : Tables) : Type 0 where
  tells : Tells m J ts
  begun_is : begun J ≡ suc t
  entries_are : entries J t ≡ es
  unended : ended J t ≡ None
  ended_are : (u : ℕ) → u < t → (r : Reply) × (ended J u ≡ Some r)

none_of : (t : ℕ) (ds : List DoneOperation) → AllByRecursion (λ (d : DoneOperation). d.ticket < t) ds → of_ticket t ds ≡ []
none_of t [] h = refl
none_of t (d ∷ ds) h = ap (λ (b : Bool). cond b (entry_of d ∷ of_ticket t ds) (of_ticket t ds)) (other d.ticket t h.0) ∙ none_of t ds h.1
  where
    other : (n t : ℕ) → n < t → (n == t) ≡ false
    other n t l = grind (arith, nat_tests)

module _ (m : Meaning) (t : ℕ) (few : t < 2 ^ 32) where
  begins : (J : List Event) (ts : Tables) → t < m.requests → Between m J t ts → Within m (J ++ Begin t 0 ∷ []) t [] ts
  begins J ts left h =
      let is_begun = h.begun_is in
      let may : MayBegin m max_callers J t 0 = record { next = sym h.begun_is; left = left; caller = lit< tt; others = λ u o. by u o (cases_lt u t) } in
      let below : AllByRecursion (λ (d : DoneOperation). d.ticket < t) (done_operations J) = all_weaker _ _ (λ d l. omega (arith, l, is_begun)) (done_operations J) only.done_operations in
      record {
        tells = tells_quiet m J ts (Begin t 0) h.tells may refl (few, lit< tt) tt;
        begun_is = begun_more J t 0 ∙ ap suc h.begun_is;
        entries_are = ap (of_ticket t) (done_operations_stay J (Begin t 0) refl) ∙ none_of t (done_operations J) below;
        unended = first_same (end_of t) J (Begin t 0) refl ∙ only.ended t (omega (arith, is_begun));
        ended_are = λ u l. let e = h.ended_are u l in (e.0, first_same (end_of u) J (Begin t 0) refl ∙ e.1);
      }
    where
      only : OnlyBegun J
      only = only_begun m J h.tells.allowed

      by : (u : ℕ) → owner J u ≡ Some 0 → (u < t) ⊎ (t ≤ u) → IsSome (ended J u)
      by u o (inl l) = let P : Option Reply → Type 0 = λ x. IsSome x in let e = h.ended_are u l in subst P (sym e.1) refl
      by u o (inr l) = let is_begun = h.begun_is in absurd (some_none 0 (sym o ∙ only.owner u (omega (arith, l, is_begun))))

  calls : (J : List Event) (es : List Entry) (ts : Tables) (op : Op) → Within m J t es ts → m.next t (replies es) ≡ Calls op → IsHeld op → IsValue (reply ts op)
      → Within m (J ++ Done t op (reply ts op) ∷ []) t (es ++ record { op = op; reply = reply ts op } ∷ []) (step ts op)
  calls J es ts op h c held value =
      let is_begun = h.begun_is in
      let e : Entry = record { op = op; reply = reply ts op } in
      let may : MayBeDone m J t op = record { is_open = record { begun = omega (arith, is_begun); not_ended = h.unended }; calls = ap (λ (xs : List Entry). m.next t (replies xs)) h.entries_are ∙ c } in
      record {
        tells = tells_done m J ts t op h.tells may h.begun_is few held value;
        begun_is = begun_stays J (Done t op (reply ts op)) refl ∙ h.begun_is;
        entries_are = entries_more J t op (reply ts op) ∙ ap (λ (xs : List Entry). xs ++ e ∷ []) h.entries_are;
        unended = first_same (end_of t) J (Done t op (reply ts op)) refl ∙ h.unended;
        ended_are = λ u l. let x = h.ended_are u l in (x.0, first_same (end_of u) J (Done t op (reply ts op)) refl ∙ x.1);
      }

  ends : (J : List Event) (es : List Entry) (ts : Tables) (r : Reply) → Within m J t es ts → m.next t (replies es) ≡ Answers r → IsHeldReply r → Between m (J ++ End t r ∷ []) (suc t) ts
  ends J es ts r h a held =
      let is_begun = h.begun_is in
      let may : MayEnd m J t r = record { is_open = record { begun = omega (arith, is_begun); not_ended = h.unended }; answers = ap (λ (xs : List Entry). m.next t (replies xs)) h.entries_are ∙ a } in
      record {
        tells = tells_quiet m J ts (End t r) h.tells may refl (few, held) tt;
        begun_is = begun_stays J (End t r) refl ∙ h.begun_is;
        ended_are = λ u l. by u l (cases_eq u t);
      }
    where
      by : (u : ℕ) → u < suc t → (u ≡ t) ⊎ (u ≡ t → ⊥) → (q : Reply) × (ended (J ++ End t r ∷ []) u ≡ Some q)
      by u l (inl e) = (r, ap (ended (J ++ End t r ∷ [])) e ∙ ended_new J t r h.unended)
      by u l (inr e) = let x = h.ended_are u (below u t l e) in (x.0, ended_other J t r u e ∙ x.1)
        where
          below : (u t : ℕ) → u < suc t → (u ≡ t → ⊥) → u < t
          below u t l e = grind arith

  -- ---- its dialogue

  -- the ticket is served to its end, which leaves these tables
  abbrev IsServed : Tables → Type 0
  IsServed ts = (K : List Event) × Between m K (suc t) ts

  replies_more : (es : List Entry) (e : Entry) (more : List Value) → replies es ++ e.reply ∷ more ≡ replies (es ++ e ∷ []) ++ more
  replies_more [] e more = refl
  replies_more (x ∷ es) e more = ap (λ (vs : List Value). x.reply ∷ vs) (replies_more es e more)

  -- the dialogue is the ticket's after these entries
  abbrev IsRest : Dialogue → List Entry → Type 0
  IsRest f es = (more : List Value) → f more ≡ m.next t (replies es ++ more)

  answered : (n : ℕ) (J : List Event) (es : List Entry) (ts : Tables) (f : Dialogue) (r : Reply) → Within m J t es ts → IsRest f es → GivesValues f → f [] ≡ Answers r → IsServed (serve n f ts).after
  answered n J es ts f r h is gives a =
      let after : (serve n f ts).after ≡ ts = ap (λ (s : Served). s.after) (serve-answers n f ts r a) in
      let now : m.next t (replies es) ≡ Answers r = ap (m.next t) (sym (append-nil (replies es))) ∙ sym (is []) ∙ a in
      subst IsServed (sym after) (J ++ End t r ∷ [], ends J es ts r h now (subst HasValues a (gives [] tt)))

  serve_on : (n : ℕ) (J : List Event) (es : List Entry) (ts : Tables) (f : Dialogue) → Within m J t es ts → IsRest f es → EndsBy n f → GivesValues f → AreReplies (serve n f ts).entries → IsServed (serve n f ts).after
  serve_on zero J es ts f h is end gives values = let a : (r : Reply) × (f [] ≡ Answers r) = end.answers [] (omega arith) in answered zero J es ts f a.0 h is gives a.1
  serve_on (suc n) J es ts f h is end gives values = elim (f []) as (λ x. f [] ≡ x → IsServed (serve (suc n) f ts).after) [
    | Calls op ↦ λ c.
        (let v : Value = reply ts op in
        let e : Entry = record { op = op; reply = v } in
        let first : serve (suc n) f ts ≡ served_first e (serve n (rest f (v ∷ [])) (step ts op)) = serve-calls n f ts op c in
        let all : AreReplies (served_first e (serve n (rest f (v ∷ [])) (step ts op))).entries = subst (λ (s : Served). AreReplies s.entries) first values in
        let now : m.next t (replies es) ≡ Calls op = ap (m.next t) (sym (append-nil (replies es))) ∙ sym (is []) ∙ c in
        let done : Within m (J ++ Done t op v ∷ []) t (es ++ e ∷ []) (step ts op) = calls J es ts op h now (subst HasValues c (gives [] tt)) all.0 in
        let more : IsRest (rest f (v ∷ [])) (es ++ e ∷ []) = λ vs. is (v ∷ vs) ∙ ap (m.next t) (replies_more es e vs) in
        subst IsServed (sym (ap (λ (s : Served). s.after) first))
        (serve_on n (J ++ Done t op v ∷ []) (es ++ e ∷ []) (step ts op) (rest f (v ∷ [])) done more (EndsBy-rest n f v end) (λ vs l. gives (v ∷ vs) (all.0, l)) all.1))
    | Answers r ↦ λ a. answered (suc n) J es ts f r h is gives a
  ] refl

-- ---- one ticket after another

all_served : (m : Meaning) → IsScript m → (t : ℕ) → t ≤ m.requests → (J : List Event) × Between m J t (tables_before (session_of m) t)
all_served m s zero l = (
  [],
  record {
    tells = record { allowed = tt; tables = refl; replays = tt; inversions = tt; held = tt; known = tt };
    begun_is = refl;
    ended_are = λ u k. absurd (omega (arith, k));
  },
)
all_served m s (suc t) l =
    let all = all_served m s t (omega (arith, l)) in
    let few : t < 2 ^ 32 = small t m.requests l s.few_requests in
    let begun : Within m (all.0 ++ Begin t 0 ∷ []) t [] (tables_before (session_of m) t) = begins m t few all.0 (tables_before (session_of m) t) (omega (arith, l)) all.1 in
    serve_on m t few (m.length t) (all.0 ++ Begin t 0 ∷ []) [] (tables_before (session_of m) t) (m.next t) begun (λ vs. refl) (s.ends t) (s.values t) (serial_values m s t (omega (arith, l)))
  where
    small : (t n : ℕ) → suc t ≤ n → n ≤ max_requests → t < 2 ^ 32
    small t n l k = omega (arith, l, k)

-- events that are accepted, and can be written
pub record SerialTrace (m : Meaning) : Type 0 where
  pub events : List Event
  pub accepted : Accepted m events
  pub held : AllByRecursion IsHeldEvent events
  pub known : AllByRecursion HasKnownSymbol events

pub serial_trace : (m : Meaning) → IsScript m → SerialTrace m
serial_trace m s =
    let all = all_served m s m.requests (omega arith) in
    let tells = all.1.tells in
    let ds : List DoneOperation = done_operations all.0 in
    record {
      events = all.0;
      accepted = record {
        allowed = tells.allowed;
        ended = all.1.ended_are;
        regrouped = (regrouped_replays (begun all.0) m.opening ds (only_begun m all.0 tells.allowed).done_operations tells.inversions tells.replays).replays;
      };
      held = tells.held;
      known = tells.known;
    }
