-- What holds of all events that are allowed, one after another.
use Rattle.std.proofs.Common.{◌≡◌, ℕ, suc, ◌<◌, ◌≤◌, List, [], ◌∷◌, ◌++◌, None, refl, sym, ◌∙◌, subst, append-nil, append_assoc, arith}
use Rattle.std.specs.List.{AllByRecursion}
use Rattle.session_journal.specs.declared.event.Event.{Event}
use Rattle.session_journal.specs.declared.event.Event.TheVariants.{Begin, Done, Delay, End}
use Rattle.session_journal.specs.Journal.{DoneOperation, begun, caller_of, done_operations, end_of}
use Rattle.session_journal.specs.Script.{Meaning}
use Rattle.session_journal.proofs.Events.{OnlyBegun, begun_more, begun_stays, done_operations-append, done_operations_stay, ended_other, first_same, owner_other}
use Rattle.session_journal.specs.Accepted.{AreAllowed, IsAllowed}
use Rattle.session_values.proofs.Lists.{all_push, all_weaker}

-- what each event keeps holds of the whole list
pub through_allowed : (m : Meaning) (P : List Event → Type 0) → ((J : List Event) (e : Event) → P J → IsAllowed m J e → P (J ++ e ∷ [])) → (front J : List Event) → P front → AreAllowed m front J → P (front ++ J)
through_allowed m P keep front [] p h = subst P (sym (append-nil front)) p
through_allowed m P keep front (e ∷ J) p h = subst P (append_assoc front (e ∷ []) J) (through_allowed m P keep (front ++ e ∷ []) J (keep front e p h.0) h.1)

-- an event of a begun ticket, which is no Begin
keep_begun : (J : List Event) (e : Event) → OnlyBegun J → begun (J ++ e ∷ []) ≡ begun J → AllByRecursion (λ (d : DoneOperation). d.ticket < begun J) (done_operations (J ++ e ∷ [])) → ((u : ℕ) → begun J ≤ u → end_of u e ≡ None) → ((u : ℕ) → caller_of u e ≡ None) → OnlyBegun (J ++ e ∷ [])
keep_begun J e p same dones ends callers =
    let P : ℕ → Type 0 = λ n. AllByRecursion (λ (d : DoneOperation). d.ticket < n) (done_operations (J ++ e ∷ [])) in
    record {
      done_operations = subst P (sym same) dones;
      ended = λ u l. first_same (end_of u) J e (ends u (omega (arith, same, l))) ∙ p.ended u (omega (arith, same, l));
      owner = λ u l. first_same (caller_of u) J e (callers u) ∙ p.owner u (omega (arith, same, l));
    }

only_step : (m : Meaning) (J : List Event) (e : Event) → OnlyBegun J → IsAllowed m J e → OnlyBegun (J ++ e ∷ [])
only_step m J (Begin t c) p may =
    let P : List DoneOperation → Type 0 = λ ds. AllByRecursion (λ (d : DoneOperation). d.ticket < begun (J ++ Begin t c ∷ [])) ds in
    let more : begun (J ++ Begin t c ∷ []) ≡ suc (begun J) = begun_more J t c in
    let is : t ≡ begun J = may.next in
    record {
      done_operations = subst P (sym (done_operations_stay J (Begin t c) refl)) (all_weaker _ _ (λ d l. omega (arith, more, l)) (done_operations J) p.done_operations);
      ended = λ u l. first_same (end_of u) J (Begin t c) refl ∙ p.ended u (omega (arith, more, l));
      owner = λ u l. owner_other J t c u (λ e. omega (arith, more, l, e, is)) ∙ p.owner u (omega (arith, more, l));
    }
only_step m J (Done t op v) p may =
    let P : List DoneOperation → Type 0 = λ ds. AllByRecursion (λ (d : DoneOperation). d.ticket < begun J) ds in
    let below : t < begun J = may.0.is_open.begun in
    keep_begun J (Done t op v) p (begun_stays J (Done t op v) refl) (subst P (sym (done_operations-append J (Done t op v ∷ []))) (all_push _ (done_operations J) _ p.done_operations below)) (λ u l. refl) (λ u. refl)
only_step m J (Delay t op older s) p may =
    let P : List DoneOperation → Type 0 = λ ds. AllByRecursion (λ (d : DoneOperation). d.ticket < begun J) ds in
    keep_begun J (Delay t op older s) p (begun_stays J (Delay t op older s) refl) (subst P (sym (done_operations_stay J (Delay t op older s) refl)) p.done_operations) (λ u l. refl) (λ u. refl)
only_step m J (End t r) p may =
    let P : List DoneOperation → Type 0 = λ ds. AllByRecursion (λ (d : DoneOperation). d.ticket < begun J) ds in
    let same : begun (J ++ End t r ∷ []) ≡ begun J = begun_stays J (End t r) refl in
    let below : t < begun J = may.is_open.begun in
    record {
      done_operations = (let Q : ℕ → Type 0 = λ n. AllByRecursion (λ (d : DoneOperation). d.ticket < n) (done_operations (J ++ End t r ∷ [])) in subst Q (sym same) (subst P (sym (done_operations_stay J (End t r) refl)) p.done_operations));
      ended = λ u l. ended_other J t r u (λ e. omega (arith, same, l, e, below)) ∙ p.ended u (omega (arith, same, l));
      owner = λ u l. first_same (caller_of u) J (End t r) refl ∙ p.owner u (omega (arith, same, l));
    }

-- only begun tickets have events
pub only_begun : (m : Meaning) (J : List Event) → AreAllowed m [] J → OnlyBegun J
only_begun m J a = through_allowed m OnlyBegun (λ K e p h. only_step m K e p h) [] J (record { done_operations = tt; ended = λ t _. refl; owner = λ t _. refl }) a
