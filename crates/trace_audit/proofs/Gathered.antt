-- The entries of each ticket, gathered event by event.
use Rattle.std.proofs.Common.{◌≡◌, ◌≢◌, ℕ, ◌+◌, ◌<◌, ◌≤◌, ◌⊎◌, inl, inr, List, [], ◌∷◌, ◌++◌, length, replicate, take, Bool, true, false, cond, ltb, refl, sym, ◌∙◌, ap, subst, arith, drop, get_or}
use Rattle.std.specs.Prelude.{slice_set}
use Rattle.std.proofs.lemmas.List.{get_or-replicate, get_or-set_same, get_or-set_other, length-replicate, length-set, take_all, take_at, take_more}
use Rattle.std.proofs.lemmas.Bool.{ltb-true, ltb-false, cases_eq}
use Rattle.session_values.specs.declared.op.Op.{Op}
use Rattle.session_values.specs.declared.value.Value.{Value}
use Rattle.session_values.specs.Dialogue.{Entry}
use Rattle.session_journal.specs.declared.event.Event.{Event}
use Rattle.session_journal.specs.declared.event.Event.TheVariants.{Begin, Done, Delay, End}
use Rattle.session_journal.specs.Journal.{DoneOperation, done_operations, entries, of_ticket}
use Rattle.session_journal.proofs.Events.{done_operations_stay, entries_more, entries_other}
use Rattle.trace_audit.specs.Desk.{AreGathered, ReplayView, fresh, replay_at}
use Rattle.trace_audit.specs.Keeping.{noted, with_entry}

pub gathered_none : (n : ℕ) (xs : List ReplayView) → xs ≡ replicate n (fresh []) → AreGathered n [] xs
gathered_none n xs is = record {
  count = ap (λ (rs : List ReplayView). length rs) is ∙ length-replicate n (fresh []);
  each = λ t l. ap (λ (rs : List ReplayView). replay_at rs t) is ∙ get_or-replicate n t (fresh []) (fresh []) l;
}

-- an event that isn't a Done
quiet : (n : ℕ) (J : List Event) (xs : List ReplayView) (e : Event) → done_operations (e ∷ []) ≡ [] → AreGathered n J xs → AreGathered n (J ++ e ∷ []) xs
quiet n J xs e d g = record { count = g.count; each = λ t l. g.each t l ∙ sym (ap (λ (ds : List DoneOperation). fresh (of_ticket t ds)) (done_operations_stay J e d)) }

done_noted : (n : ℕ) (J : List Event) (xs : List ReplayView) (t : ℕ) (op : Op) (v : Value) → AreGathered n J xs → t < n → AreGathered n (J ++ Done t op v ∷ []) (slice_set xs t (with_entry (replay_at xs t) (record { op = op; reply = v })))
done_noted n J xs t op v g l = record { count = length-set xs t _ ∙ g.count; each = λ u m. by u m (cases_eq u t) }
  where
    e : Entry
    e = record { op = op; reply = v }

    by : (u : ℕ) → u < n → (u ≡ t) ⊎ (u ≢ t) → replay_at (slice_set xs t (with_entry (replay_at xs t) e)) u ≡ fresh (entries (J ++ Done t op v ∷ []) u)
    by u m (inl q) =
        ap (λ (j : ℕ). replay_at (slice_set xs t (with_entry (replay_at xs t) e)) j) q
        ∙ get_or-set_same xs t (with_entry (replay_at xs t) e) (fresh []) (omega (arith, l, g.count))
        ∙ ap (λ (x : ReplayView). with_entry x e) (g.each t l)
        ∙ ap (λ (es : List Entry). fresh es) (sym (entries_more J t op v))
        ∙ ap (λ (j : ℕ). fresh (entries (J ++ Done t op v ∷ []) j)) (sym q)
    by u m (inr d) = get_or-set_other xs t u (with_entry (replay_at xs t) e) (fresh []) d ∙ g.each u m ∙ ap (λ (es : List Entry). fresh es) (sym (entries_other J t op v u d))

done_past : (n : ℕ) (J : List Event) (xs : List ReplayView) (t : ℕ) (op : Op) (v : Value) → AreGathered n J xs → n ≤ t → AreGathered n (J ++ Done t op v ∷ []) xs
done_past n J xs t op v g l = record { count = g.count; each = λ u m. g.each u m ∙ ap (λ (es : List Entry). fresh es) (sym (entries_other J t op v u (λ q. omega (arith, q, m, l)))) }

gathered_step : (n : ℕ) (J : List Event) (xs : List ReplayView) (e : Event) → AreGathered n J xs → AreGathered n (J ++ e ∷ []) (noted xs e)
gathered_step n J xs (Begin t c) g = quiet n J xs (Begin t c) refl g
gathered_step n J xs (Delay t op older s) g = quiet n J xs (Delay t op older s) refl g
gathered_step n J xs (End t r) g = quiet n J xs (End t r) refl g
gathered_step n J xs (Done t op v) g = by (ltb t (length xs)) refl
  where
    by : (b : Bool) → ltb t (length xs) ≡ b → AreGathered n (J ++ Done t op v ∷ []) (cond b (slice_set xs t (with_entry (replay_at xs t) (record { op = op; reply = v }))) xs)
    by true q = done_noted n J xs t op v g (omega (arith, ltb-true t (length xs) q, g.count))
    by false q = done_past n J xs t op v g (omega (arith, ltb-false t (length xs) q, g.count))

-- one event more of a list
pub gathered_more : (n : ℕ) (J : List Event) (i : ℕ) (e : Event) (xs ys : List ReplayView) → i < length J → e ≡ get_or J i e → ys ≡ noted xs e → AreGathered n (take i J) xs → AreGathered n (take (i + 1) J) ys
gathered_more n J i e xs ys l is made g =
    let P : List Event → Type 0 = λ K. AreGathered n K ys in
    let Q : List ReplayView → Type 0 = λ rs. AreGathered n (take i J ++ e ∷ []) rs in
    let longer : take (i + 1) J ≡ take i J ++ e ∷ [] = take_more J i e l ∙ ap (λ (x : Event). take i J ++ x ∷ []) (sym is) in
    subst P (sym longer) (subst Q (sym made) (gathered_step n (take i J) xs e g))

-- the whole slice is written back
pub gathered_back : (n : ℕ) (J : List Event) (xs ys : List ReplayView) (len : ℕ) → length ys ≡ len → AreGathered n J ys → AreGathered n J (take len (ys ++ drop (length ys) xs))
gathered_back n J xs ys len is g = let P : List ReplayView → Type 0 = λ rs. AreGathered n J rs in subst P (sym (take_at ys (drop (length ys) xs) len is)) g

pub gathered_all : (n : ℕ) (J : List Event) (i : ℕ) (xs : List ReplayView) → length J ≤ i → AreGathered n (take i J) xs → AreGathered n J xs
gathered_all n J i xs l g = let P : List Event → Type 0 = λ K. AreGathered n K xs in subst P (take_all i J l) g
