-- One event more at the end of a journal.
use Rattle.std.proofs.Common.{◌≡◌, ℕ, suc, ◌+◌, ◌<◌, ◌≤◌, ◌≢◌, List, [], ◌∷◌, ◌++◌, length, Option, Some, None, true, false, cond, eqb, refl, sym, ◌∙◌, ap, subst, append-nil, append_assoc, arith}
use Rattle.std.specs.List.{AllByRecursion}
use Rattle.std.proofs.lemmas.Bool.Decides.{nat_tests}
use Rattle.session_values.specs.declared.op.Op.{Op}
use Rattle.session_values.specs.declared.value.Value.{Value}
use Rattle.session_values.specs.declared.reply.Reply.{Reply}
use Rattle.symbolic_ops.specs.declared.symbol.Symbol.{Symbol}
use Rattle.session_journal.specs.declared.event.Event.{Event}
use Rattle.session_journal.specs.declared.event.Event.TheVariants.{Begin, Done, Delay, End}
use Rattle.session_values.specs.Dialogue.{Entry}
use Rattle.session_values.proofs.Lists.{all_push, all_weaker}
use Rattle.session_journal.specs.Journal.{DoneOperation, entry_of, done_operations, of_ticket, in_order, entries, begun, first, end_of, caller_of, ended, owner}
use Rattle.session_journal.specs.Script.{Meaning}
use Rattle.session_journal.specs.EventsInTurn.{MayCome, ComeInTurn}

pub done_operations-append : (J K : List Event) → done_operations (J ++ K) ≡ done_operations J ++ done_operations K
done_operations-append [] K = refl
done_operations-append (Begin t c ∷ J) K = done_operations-append J K
done_operations-append (Done t op r ∷ J) K = ap (λ (ds : List DoneOperation). record { ticket = t; op = op; reply = r } ∷ ds) (done_operations-append J K)
done_operations-append (Delay t op o s ∷ J) K = done_operations-append J K
done_operations-append (End t r ∷ J) K = done_operations-append J K

pub of_ticket-append : (t : ℕ) (ds es : List DoneOperation) → of_ticket t (ds ++ es) ≡ of_ticket t ds ++ of_ticket t es
of_ticket-append t [] es = refl
of_ticket-append t (d ∷ ds) es =
    elim (eqb d.ticket t) as (λ b. cond b (entry_of d ∷ of_ticket t (ds ++ es)) (of_ticket t (ds ++ es)) ≡ cond b (entry_of d ∷ of_ticket t ds) (of_ticket t ds) ++ of_ticket t es) [
      | true ↦ ap (λ (fs : List Entry). entry_of d ∷ fs) (of_ticket-append t ds es)
      | false ↦ of_ticket-append t ds es
    ]

pub in_order-append : (ds es : List DoneOperation) → in_order (ds ++ es) ≡ in_order ds ++ in_order es
in_order-append [] es = refl
in_order-append (d ∷ ds) es = ap (λ (fs : List Entry). entry_of d ∷ fs) (in_order-append ds es)

pub begun-append : (J K : List Event) → begun (J ++ K) ≡ begun J + begun K
begun-append [] K = omega arith
begun-append (Begin t c ∷ J) K = omega (arith, begun-append J K)
begun-append (Done t op r ∷ J) K = begun-append J K
begun-append (Delay t op o s ∷ J) K = begun-append J K
begun-append (End t r ∷ J) K = begun-append J K

pub first-append : {X : Type 0} (f : Event → Option X) (J K : List Event) → first f (J ++ K) ≡ (elim (first f J) [ Some x ↦ Some x | None ↦ first f K ])
first-append f [] K = refl
first-append {X} f (e ∷ J) K =
    elim (f e) as (λ (v : Option X). (elim v as (λ _. Option X) [ Some x ↦ Some x | None ↦ first f (J ++ K) ]) ≡ (elim (elim v as (λ _. Option X) [ Some x ↦ Some x | None ↦ first f J ]) as (λ _. Option X) [ Some x ↦ Some x | None ↦ first f K ])) [
      | Some x ↦ refl
      | None ↦ first-append f J K
    ]

-- what was found is found
pub first_stays : {X : Type 0} (f : Event → Option X) (J K : List Event) (x : X) → first f J ≡ Some x → first f (J ++ K) ≡ Some x
first_stays {X} f J K x h = first-append f J K ∙ ap (λ (v : Option X). elim v as (λ _. Option X) [ Some y ↦ Some y | None ↦ first f K ]) h

pub first_new : {X : Type 0} (f : Event → Option X) (J K : List Event) → first f J ≡ None → first f (J ++ K) ≡ first f K
first_new {X} f J K h = first-append f J K ∙ ap (λ (v : Option X). elim v as (λ _. Option X) [ Some y ↦ Some y | None ↦ first f K ]) h

-- where the new event isn't one that the test finds, nothing changes
pub first_same : {X : Type 0} (f : Event → Option X) (J : List Event) (e : Event) → f e ≡ None → first f (J ++ e ∷ []) ≡ first f J
first_same {X} f J e h =
    first-append f J (e ∷ []) ∙ (elim (first f J) as (λ (v : Option X). (elim v as (λ _. Option X) [ Some y ↦ Some y | None ↦ first f (e ∷ []) ]) ≡ v) [
      | Some x ↦ refl
      | None ↦ ap (λ (v : Option X). elim v as (λ _. Option X) [ Some y ↦ Some y | None ↦ None ]) h
    ])

pub ComeInTurn-push : (m : Meaning) (callers : ℕ) (front J : List Event) (e : Event) → ComeInTurn m callers front J → MayCome m callers (front ++ J) e → ComeInTurn m callers front (J ++ e ∷ [])
ComeInTurn-push m callers front [] e h k = let P : List Event → Type 0 = λ K. MayCome m callers K e in (subst P (append-nil front) k, tt)
ComeInTurn-push m callers front (x ∷ J) e h k =
    let P : List Event → Type 0 = λ K. MayCome m callers K e in
    (h.0, ComeInTurn-push m callers (front ++ x ∷ []) J e h.1 (subst P (sym (append_assoc front (x ∷ []) J)) k))

-- what each event keeps holds of the whole journal
pub through_turns : (m : Meaning) (callers : ℕ) (P : List Event → Type 0) → ((J : List Event) (e : Event) → P J → MayCome m callers J e → P (J ++ e ∷ [])) → (front J : List Event) → P front → ComeInTurn m callers front J → P (front ++ J)
through_turns m callers P keep front [] p h = subst P (sym (append-nil front)) p
through_turns m callers P keep front (e ∷ J) p h = subst P (append_assoc front (e ∷ []) J) (through_turns m callers P keep (front ++ e ∷ []) J (keep front e p h.0) h.1)

-- only begun tickets have events
pub record OnlyBegun (J : List Event) : Type 0 where
  pub done_operations : AllByRecursion (λ d. d.ticket < begun J) (done_operations J)
  pub ended : (t : ℕ) → begun J ≤ t → ended J t ≡ None
  pub owner : (t : ℕ) → begun J ≤ t → owner J t ≡ None

-- ---- each kind of event at the end
append_nil : (ds : List DoneOperation) → ds ++ [] ≡ ds
append_nil [] = refl
append_nil (d ∷ ds) = ap (λ (es : List DoneOperation). d ∷ es) (append_nil ds)

-- an event that is no Done
pub done_operations_stay : (J : List Event) (e : Event) → done_operations (e ∷ []) ≡ [] → done_operations (J ++ e ∷ []) ≡ done_operations J
done_operations_stay J e h = done_operations-append J (e ∷ []) ∙ ap (λ (ds : List DoneOperation). done_operations J ++ ds) h ∙ append_nil (done_operations J)

pub begun_stays : (J : List Event) (e : Event) → begun (e ∷ []) ≡ 0 → begun (J ++ e ∷ []) ≡ begun J
begun_stays J e h = omega (arith, begun-append J (e ∷ []), h)

pub begun_more : (J : List Event) (t c : ℕ) → begun (J ++ Begin t c ∷ []) ≡ suc (begun J)
begun_more J t c = omega (arith, begun-append J (Begin t c ∷ []))

pub other_test : {X : Type 0} (u t : ℕ) (x : X) → t ≢ u → ◌≡◌ {A = Option X} (cond (eqb u t) (Some x) None) None
other_test {X} u t x h = elim (eqb u t) as (λ b. eqb u t ≡ b → ◌≡◌ {A = Option X} (cond b (Some x) None) None) [ true ↦ λ e. absurd (h (grind (arith, nat_tests))) | false ↦ λ e. refl ] refl

pub same_test : {X : Type 0} (t : ℕ) (x : X) → ◌≡◌ {A = Option X} (cond (eqb t t) (Some x) None) (Some x)
same_test {X} t x = elim (eqb t t) as (λ b. eqb t t ≡ b → ◌≡◌ {A = Option X} (cond b (Some x) None) (Some x)) [ true ↦ λ e. refl | false ↦ λ e. absurd (grind (arith, nat_tests)) ] refl

pub owner_other : (J : List Event) (t c u : ℕ) → u ≢ t → owner (J ++ Begin t c ∷ []) u ≡ owner J u
owner_other J t c u h = first_same (caller_of u) J (Begin t c) (other_test t u c h)

pub owner_new : (J : List Event) (t c : ℕ) → owner J t ≡ None → owner (J ++ Begin t c ∷ []) t ≡ Some c
owner_new J t c h = first_new (caller_of t) J (Begin t c ∷ []) h ∙ ap (λ (v : Option ℕ). elim v as (λ _. Option ℕ) [ Some y ↦ Some y | None ↦ None ]) (same_test t c)

pub ended_other : (J : List Event) (t : ℕ) (r : Reply) (u : ℕ) → u ≢ t → ended (J ++ End t r ∷ []) u ≡ ended J u
ended_other J t r u h = first_same (end_of u) J (End t r) (other_test t u r h)

pub ended_new : (J : List Event) (t : ℕ) (r : Reply) → ended J t ≡ None → ended (J ++ End t r ∷ []) t ≡ Some r
ended_new J t r h = first_new (end_of t) J (End t r ∷ []) h ∙ ap (λ (v : Option Reply). elim v as (λ _. Option Reply) [ Some y ↦ Some y | None ↦ None ]) (same_test t r)

pub entries_other : (J : List Event) (t : ℕ) (op : Op) (r : Value) (u : ℕ) → u ≢ t → entries (J ++ Done t op r ∷ []) u ≡ entries J u
entries_other J t op r u h =
    ap (of_ticket u) (done_operations-append J (Done t op r ∷ [])) ∙ of_ticket-append u (done_operations J) _
    ∙ (elim (eqb t u) as (λ b. eqb t u ≡ b → entries J u ++ cond b (record { op = op; reply = r } ∷ []) [] ≡ entries J u) [ true ↦ λ e. absurd (h (grind (arith, nat_tests))) | false ↦ λ e. append_nil_entries (entries J u) ] refl)
  where
    append_nil_entries : (es : List Entry) → es ++ [] ≡ es
    append_nil_entries [] = refl
    append_nil_entries (e ∷ es) = ap (λ (fs : List Entry). e ∷ fs) (append_nil_entries es)

pub entries_more : (J : List Event) (t : ℕ) (op : Op) (r : Value) → entries (J ++ Done t op r ∷ []) t ≡ entries J t ++ record { op = op; reply = r } ∷ []
entries_more J t op r =
    ap (of_ticket t) (done_operations-append J (Done t op r ∷ [])) ∙ of_ticket-append t (done_operations J) _
    ∙ (elim (eqb t t) as (λ b. eqb t t ≡ b → entries J t ++ cond b (record { op = op; reply = r } ∷ []) [] ≡ entries J t ++ record { op = op; reply = r } ∷ []) [ true ↦ λ e. refl | false ↦ λ e. absurd (grind (arith, nat_tests)) ] refl)

pub only_begun : (m : Meaning) (callers : ℕ) (J : List Event) → ComeInTurn m callers [] J → OnlyBegun J
only_begun m callers J h = through_turns m callers OnlyBegun keep [] J (record { done_operations = tt; ended = λ t _. refl; owner = λ t _. refl }) h
  where
    keep_begin : (J : List Event) (t c : ℕ) → OnlyBegun J → t ≡ begun J → OnlyBegun (J ++ Begin t c ∷ [])
    keep_begin J t c p k =
        let P : List DoneOperation → Type 0 = λ ds. AllByRecursion (λ d. d.ticket < begun (J ++ Begin t c ∷ [])) ds in
        let more : begun (J ++ Begin t c ∷ []) ≡ suc (begun J) = begun_more J t c in
        record {
          done_operations = subst P (sym (done_operations_stay J (Begin t c) refl)) (all_weaker _ _ (λ d l. omega arith) (done_operations J) p.done_operations);
          ended = λ u l. first_same (end_of u) J (Begin t c) refl ∙ p.ended u (omega arith);
          owner = λ u l. owner_other J t c u (omega arith) ∙ p.owner u (omega arith);
        }

    keep_done : (J : List Event) (t : ℕ) (op : Op) (r : Value) → OnlyBegun J → t < begun J → OnlyBegun (J ++ Done t op r ∷ [])
    keep_done J t op r p k =
        let P : List DoneOperation → Type 0 = λ ds. AllByRecursion (λ d. d.ticket < begun (J ++ Done t op r ∷ [])) ds in
        let same : begun (J ++ Done t op r ∷ []) ≡ begun J = begun_stays J (Done t op r) refl in
        record {
          done_operations = subst P (sym (done_operations-append J (Done t op r ∷ []))) (all_push _ (done_operations J) _ (all_weaker _ _ (λ d l. omega arith) (done_operations J) p.done_operations) (omega arith));
          ended = λ u l. first_same (end_of u) J (Done t op r) refl ∙ p.ended u (omega arith);
          owner = λ u l. first_same (caller_of u) J (Done t op r) refl ∙ p.owner u (omega arith);
        }

    keep_delay : (J : List Event) (t : ℕ) (op : Op) (o : ℕ) (s : Symbol) → OnlyBegun J → OnlyBegun (J ++ Delay t op o s ∷ [])
    keep_delay J t op o s p =
        let P : List DoneOperation → Type 0 = λ ds. AllByRecursion (λ d. d.ticket < begun (J ++ Delay t op o s ∷ [])) ds in
        let same : begun (J ++ Delay t op o s ∷ []) ≡ begun J = begun_stays J (Delay t op o s) refl in
        record {
          done_operations = subst P (sym (done_operations_stay J (Delay t op o s) refl)) (all_weaker _ _ (λ d l. omega arith) (done_operations J) p.done_operations);
          ended = λ u l. first_same (end_of u) J (Delay t op o s) refl ∙ p.ended u (omega arith);
          owner = λ u l. first_same (caller_of u) J (Delay t op o s) refl ∙ p.owner u (omega arith);
        }

    keep_end : (J : List Event) (t : ℕ) (r : Reply) → OnlyBegun J → t < begun J → OnlyBegun (J ++ End t r ∷ [])
    keep_end J t r p k =
        let P : List DoneOperation → Type 0 = λ ds. AllByRecursion (λ d. d.ticket < begun (J ++ End t r ∷ [])) ds in
        let same : begun (J ++ End t r ∷ []) ≡ begun J = begun_stays J (End t r) refl in
        record {
          done_operations = subst P (sym (done_operations_stay J (End t r) refl)) (all_weaker _ _ (λ d l. omega arith) (done_operations J) p.done_operations);
          ended = λ u l. ended_other J t r u (omega arith) ∙ p.ended u (omega arith);
          owner = λ u l. first_same (caller_of u) J (End t r) refl ∙ p.owner u (omega arith);
        }

    keep : (J : List Event) (e : Event) → OnlyBegun J → MayCome m callers J e → OnlyBegun (J ++ e ∷ [])
    keep J (Begin t c) p k = keep_begin J t c p k.next
    keep J (Done t op r) p k = keep_done J t op r p k.is_open.begun
    keep J (Delay t op o s) p k = keep_delay J t op o s p
    keep J (End t r) p k = keep_end J t r p k.is_open.begun

-- what comes came in its turn
pub come_then : (m : Meaning) (callers : ℕ) (front J K : List Event) (e : Event) → ComeInTurn m callers front (J ++ e ∷ K) → MayCome m callers (front ++ J) e
come_then m callers front [] K e h = let P : List Event → Type 0 = λ I. MayCome m callers I e in subst P (sym (append-nil front)) h.0
come_then m callers front (x ∷ J) K e h = let P : List Event → Type 0 = λ I. MayCome m callers I e in subst P (append_assoc front (x ∷ []) J) (come_then m callers (front ++ x ∷ []) J K e h.1)
