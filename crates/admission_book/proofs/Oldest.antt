-- The search for the least open ticket.
use Rattle.std.proofs.Common.{◌≡◌, ℕ, ◌+◌, ◌<◌, ◌≤◌, List, ◌⊎◌, inl, inr, Option, Some, None, length, get_or, refl, sym, ◌∙◌, ap, subst, arith}
use Rattle.std.proofs.lemmas.Bool.{cases_lt}
use Rattle.std.proofs.lemmas.List.{get_or_past, length-map}
use Rattle.std.proofs.lemmas.Option.{none-some}
use Rattle.session_values.specs.declared.reply.Reply.{Reply}
use Rattle.session_journal.specs.declared.event.Event.{Event}
use Rattle.session_journal.specs.Script.{Meaning}
use Rattle.admission_book.specs.Book.{Serving, IsFree}
use Rattle.admission_book.specs.Found.{book_with}
use Rattle.session_values.specs.declared.op.Op.{Op}
use Rattle.session_journal.specs.EventsInTurn.{IsOpen}
use Rattle.admission_book.specs.Lawful.{Lawful}
use Rattle.admission_book.specs.declared.caller_record.CallerRecord.{CallerRecord}
use Rattle.admission_book.specs.CallerRecord.{idle_record, serving_of, servings, record_at}
use Rattle.admission_book.specs.Methods.{IsOldestOpen}
use Rattle.admission_book.specs.Kept.{book_of, AreFrom, IsAtMost, IfServed, IsLeastTicket, IsLesser}
use Rattle.admission_book.proofs.Records.{within}
use Rattle.admission_book.proofs.Shown.{served, serving_is, servings_at, ticket_is, record_here}

at_most_more : (o : Option ℕ) (v u : ℕ) → IsAtMost o v → v ≤ u → IsAtMost o u
at_most_more None v u h l = h
at_most_more (Some t) v u h l = omega arith

itself : (o : Option ℕ) (u : ℕ) → o ≡ Some u → IsAtMost o u
itself o u e = let P : Option ℕ → Type 0 = λ x. IsAtMost x u in let l : u ≤ u = omega arith in subst P (sym e) l

served_by : (rs : List CallerRecord) (i : ℕ) (o : Option ℕ) → (record_at rs i).ticket ≡ o → IfServed rs o
served_by rs i None e = tt
served_by rs i (Some t) e = record { caller = i; ticket = e }

last_or : (c i : ℕ) → c < i + 1 → (c < i) ⊎ (i ≡ c)
last_or c i l = grind arith

-- one record more
pub least_more : (rs : List CallerRecord) (i : ℕ) (found r : Option ℕ) (x : CallerRecord) → i < length rs → x ≡ get_or rs i x → IsLeastTicket rs i found → IsLesser found x.ticket r → IsLeastTicket rs (i + 1) r
least_more rs i found r x l is s (inl h) =
    let P : Option ℕ → Type 0 = λ o. IsLeastTicket rs (i + 1) o in
    subst P (sym h.0) (record { each = each; at = s.at })
  where
    here : record_at rs i ≡ x
    here = record_here rs i x l is

    each : (c u : ℕ) → c < i + 1 → (record_at rs c).ticket ≡ Some u → IsAtMost found u
    each c u k e = elim (last_or c i k) [
      | inl j ↦ s.each c u j e
      | inr j ↦ h.1 u (sym (ap (λ (z : CallerRecord). z.ticket) here) ∙ ap (λ (d : ℕ). (record_at rs d).ticket) j ∙ e)
    ]
least_more rs i found r x l is s (inr h) =
    let P : Option ℕ → Type 0 = λ o. IsLeastTicket rs (i + 1) o in
    subst P (sym h.0) (record { each = each; at = served_by rs i x.ticket (ap (λ (z : CallerRecord). z.ticket) here) })
  where
    here : record_at rs i ≡ x
    here = record_here rs i x l is

    further : (o : Option ℕ) → found ≡ o → (u : ℕ) → IsAtMost o u → IsAtMost x.ticket u
    further None e u a = absurd a
    further (Some v) e u a = at_most_more x.ticket v u (h.1 v e) a

    each : (c u : ℕ) → c < i + 1 → (record_at rs c).ticket ≡ Some u → IsAtMost x.ticket u
    each c u k e = elim (last_or c i k) [
      | inl j ↦ further found refl u (s.each c u j e)
      | inr j ↦ itself x.ticket u (sym (ap (λ (z : CallerRecord). z.ticket) here) ∙ ap (λ (d : ℕ). (record_at rs d).ticket) j ∙ e)
    ]

-- in a lawful book it is the least open ticket
pub oldest : (m : Meaning) (J : List Event) (k : List (Option Reply)) (xs rs : List CallerRecord) (r : Option ℕ) → xs ≡ rs → Lawful m (book_of m J k rs) → IsLeastTicket xs (length xs) r → IsOldestOpen r J
oldest m J k xs rs r same L h = go r (let P : List CallerRecord → Type 0 = λ l. IsLeastTicket l (length l) r in subst P same h)
  where
    least : (r : Option ℕ) → IsLeastTicket rs (length rs) r → (u : ℕ) → IsOpen J u → IsAtMost r u
    least r s u o =
        let x : (c : ℕ) × (z : Serving) × (get_or (servings m rs) c None ≡ Some z) × (z.ticket ≡ u) = L.placed u o in
        let l : x.0 < length rs = omega (arith, within (servings m rs) x.0 x.1 x.2, length-map rs (λ (q : CallerRecord). serving_of m q)) in
        s.each x.0 u l (ticket_is m (record_at rs x.0) x.1 (sym (servings_at m rs x.0) ∙ x.2) ∙ ap (λ (t : ℕ). Some t) x.3)

    go : (r : Option ℕ) → IsLeastTicket rs (length rs) r → IsOldestOpen r J
    go None s = λ u o. least None s u o
    go (Some t) s = ((L.records s.at.caller (served m t (record_at rs s.at.caller)) (servings_at m rs s.at.caller ∙ serving_is m (record_at rs s.at.caller) t s.at.ticket)).is_open, λ u o. least (Some t) s u o)

-- where no open ticket is older than this one, nobody delays it or an older one
pub none_older : (m : Meaning) (rs : List CallerRecord) (oldest t : ℕ) (op : Op) → AreFrom oldest rs → t ≤ oldest → IsFree (book_with (servings m rs)) t op
none_older m rs oldest t op from near c s at less = absurd (let l : oldest ≤ s.ticket = from.each c s.ticket (ticket_is m (record_at rs c) s (sym (servings_at m rs c) ∙ at)) in omega arith)

-- a record that has a ticket stands at one of the places
has_place : (rs : List CallerRecord) (c u : ℕ) → (record_at rs c).ticket ≡ Some u → c < length rs
has_place rs c u e = elim (cases_lt c (length rs)) [
  | inl l ↦ l
  | inr g ↦ absurd (none-some u (sym (ap (λ (r : CallerRecord). r.ticket) (get_or_past rs c idle_record g)) ∙ e))
]

-- no record has an older ticket than the least one, or than any where none has one
pub from_least : (rs : List CallerRecord) (t bound : ℕ) → bound ≤ t → IsLeastTicket rs (length rs) (Some t) → AreFrom bound rs
from_least rs t bound near s = record { each = λ c u e. let l : t ≤ u = s.each c u (has_place rs c u e) e in omega arith }

pub from_nothing : (rs : List CallerRecord) (bound : ℕ) → IsLeastTicket rs (length rs) None → AreFrom bound rs
from_nothing rs bound s = record { each = λ c u e. absurd (s.each c u (has_place rs c u e) e) }
