-- The records of a book as its fields keep them.
use Rattle.std.proofs.Common.{◌≡◌, ◌≢◌, ℕ, zero, suc, ◌+◌, ◌*◌, ◌<◌, ◌≤◌, List, [], ◌∷◌, ◌++◌, inl, inr, Option, Some, None, Bool, true, false, cond, eqb, length, get_or, length-append, refl, sym, ◌∙◌, ap, subst, arith}
use Rattle.std.proofs.Math.ListN.{set}
use Rattle.std.proofs.lemmas.List.{map-set, get_or-set_same, get_or-set_other, get_or_default}
use Rattle.std.proofs.lemmas.Bool.Decides.{nat_tests}
use Rattle.std.proofs.lemmas.Option.{same_Some, none-some}
use Rattle.std.proofs.lemmas.Bool.{cases_eq}
use Rattle.session_values.specs.declared.op.Op.{Op}
use Rattle.session_values.specs.declared.reply.Reply.{Reply}
use Rattle.symbolic_ops.specs.declared.symbol.Symbol.{Symbol}
use Rattle.session_journal.specs.declared.event.Event.{Event}
use Rattle.session_journal.specs.declared.event.Event.TheVariants.{Begin, Done, Delay, End}
use Rattle.session_journal.specs.Journal.{JournalView, begun, ticket_of}
use Rattle.session_journal.specs.Script.{Meaning, IsScript, calls}
use Rattle.admission_book.specs.Book.{Book, Serving, kept_for, record_of}
use Rattle.session_journal.specs.EventsInTurn.{delayed_after, is_delayed}
use Rattle.admission_book.specs.Lawful.{Lawful}
use Rattle.admission_book.specs.declared.caller_record.CallerRecord.{CallerRecord}
use Rattle.admission_book.specs.CallerRecord.{IsRecord, serving_at, serving_of, servings, record_at, idle_record}
use Rattle.admission_book.specs.Foresights.{KeepsForesight, symbols_of}
use Rattle.admission_book.specs.Methods.{BookView}
use Rattle.admission_book.specs.Kept.{book_of, AreFrom, Keeps, KeepsRecord}
use Rattle.admission_book.proofs.Keep.{one_caller}
use Rattle.admission_book.proofs.Room.{few_events}
use Rattle.session_journal.proofs.EventCounts.{is_delayed-append}

-- ---- between the fields and what contracts see of them
pub here : {S : Type 0} (P : Meaning → Book → Type 0) (meaning : S → Meaning) (s : S) (b : Book) (v : BookView S) → record { script = s; book = b } ≡ v → P (meaning v.script) v.book → P (meaning s) b
here {S} P meaning s b v is p = let Q : BookView S → Type 0 = λ w. P (meaning w.script) w.book in subst Q (sym is) p

pub there : {S : Type 0} (P : Meaning → Book → Type 0) (meaning : S → Meaning) (s : S) (b : Book) (v : BookView S) → record { script = s; book = b } ≡ v → P (meaning s) b → P (meaning v.script) v.book
there {S} P meaning s b v is p = let Q : BookView S → Type 0 = λ w. P (meaning w.script) w.book in subst Q is p

pub kept_there : {S : Type 0} (s : S) (b : Book) (v : BookView S) (t : ℕ) → record { script = s; book = b } ≡ v → kept_for b t ≡ kept_for v.book t
kept_there {S} s b v t is = ap (λ (w : BookView S). kept_for w.book t) is

-- what a call leaves, where d is the book that the new fields show
pub leaves : {S : Type 0} (P : Book → Book → Type 0) (s : S) (b : Book) (v : BookView S) (d d2 : Book) → record { script = s; book = b } ≡ v → d ≡ d2 → P b d2 → P v.book d
leaves {S} P s b v d d2 is e p = let Q : BookView S → Type 0 = λ w. P w.book d in let R : Book → Type 0 = λ x. P b x in subst Q is (subst R (sym e) p)

pub leaves_of : {S : Type 0} (P : Meaning → Book → Book → Type 0) (meaning : S → Meaning) (s : S) (b : Book) (v : BookView S) (d d2 : Book) → record { script = s; book = b } ≡ v → d ≡ d2 → P (meaning s) b d2 → P (meaning v.script) v.book d
leaves_of {S} P meaning s b v d d2 is e p = let Q : BookView S → Type 0 = λ w. P (meaning w.script) w.book d in let R : Book → Type 0 = λ x. P (meaning s) b x in subst Q is (subst R (sym e) p)

pub lawful_same : (m : Meaning) (d d2 : Book) → d ≡ d2 → Lawful m d2 → Lawful m d
lawful_same m d d2 e L = let P : Book → Type 0 = λ x. Lawful m x in subst P (sym e) L

pub events_are : (j : JournalView) (K : List Event) (room : ℕ) → j ≡ record { events = K; room = room } → j.events ≡ K
events_are j K room e = ap (λ (x : JournalView). x.events) e

-- ---- one record
-- what a record shows that has the ticket t
abbrev pub served : Meaning → ℕ → CallerRecord → Serving
served m t r = record { ticket = t; foresight = symbols_of m r.foresight; flight = r.flight }

pub serving_is : (m : Meaning) (r : CallerRecord) (t : ℕ) → r.ticket ≡ Some t → serving_of m r ≡ Some (served m t r)
serving_is m r t e = ap (λ (o : Option ℕ). serving_at o (symbols_of m r.foresight) r.flight) e

-- what a record shows of which all is known
pub serving_so : (m : Meaning) (r : CallerRecord) (t : ℕ) (f : List Symbol) (w : Option Op) (d : Bool) → IsRecord m r (Some t) f w d → serving_of m r ≡ Some (record { ticket = t; foresight = f; flight = w })
serving_so m r t f w d h = (λ i. serving_at (h.ticket i) (h.foresight.is i) (h.flight i))

pub ticket_is : (m : Meaning) (r : CallerRecord) (s : Serving) → serving_of m r ≡ Some s → r.ticket ≡ Some s.ticket
ticket_is m r s e = go r.ticket refl
  where
    go : (o : Option ℕ) → r.ticket ≡ o → r.ticket ≡ Some s.ticket
    go None p = absurd (none-some s (sym (ap (λ (x : Option ℕ). serving_at x (symbols_of m r.foresight) r.flight) p) ∙ e))
    go (Some u) p = p ∙ ap (λ (z : Serving). Some z.ticket) (same_Some (served m u r) s (sym (serving_is m r u p) ∙ e))

pub keeps_has : (m : Meaning) (J : List Event) (r : CallerRecord) (t : ℕ) → r.ticket ≡ Some t → KeepsForesight m r.foresight → r.delayed ≡ is_delayed J t → KeepsRecord m J r
keeps_has m J r t has kept noted = record { foresight = kept; noted = λ s e. noted ∙ ap (is_delayed J) (same_Some t s.ticket (sym has ∙ ticket_is m r s e)) }

pub keeps_none : (m : Meaning) (J : List Event) (r : CallerRecord) → r.ticket ≡ None → KeepsForesight m r.foresight → KeepsRecord m J r
keeps_none m J r has kept = record { foresight = kept; noted = λ s e. none s (sym has ∙ ticket_is m r s e) }
  where
    none : {A : Type 0} (s : Serving) → ◌≡◌ {A = Option ℕ} None (Some s.ticket) → A
    none s h = cc

-- ---- all records
pub servings_at : (m : Meaning) (rs : List CallerRecord) (c : ℕ) → get_or (servings m rs) c None ≡ serving_of m (record_at rs c)
servings_at m [] c = refl
servings_at m (r ∷ rs) zero = refl
servings_at m (r ∷ rs) (suc c) = servings_at m rs c

pub record_here : (rs : List CallerRecord) (i : ℕ) (old : CallerRecord) → i < length rs → old ≡ get_or rs i old → record_at rs i ≡ old
record_here rs i old within is = get_or_default rs i idle_record old within ∙ sym is

-- the book that the fields show after one record is replaced
pub shown : (m : Meaning) (K : List Event) (k : List (Option Reply)) (rs : List CallerRecord) (i : ℕ) (new : CallerRecord) (x : Option Serving) → serving_of m new ≡ x → book_of m K k (set rs i new) ≡ record { journal = K; kept = k; records = set (servings m rs) i x }
shown m K k rs i new x e = ap (λ (us : List (Option Serving)). record { journal = K; kept = k; records = us }) (map-set (λ (r : CallerRecord). serving_of m r) rs i new ∙ ap (λ (o : Option Serving). set (servings m rs) i o) e)

pub keeps_set : (m : Meaning) (J : List Event) (rs : List CallerRecord) (i : ℕ) (new : CallerRecord) → i < length rs → KeepsRecord m J new → ((c : ℕ) → c ≢ i → KeepsRecord m J (record_at rs c)) → (c : ℕ) → KeepsRecord m J (record_at (set rs i new) c)
keeps_set m J rs i new within this others c =
    let P : CallerRecord → Type 0 = λ r. KeepsRecord m J r in
    elim (cases_eq c i) [
      | inl e ↦ let Q : ℕ → Type 0 = λ j. KeepsRecord m J (record_at (set rs i new) j) in subst Q (sym e) (subst P (sym (get_or-set_same rs i new idle_record within)) this)
      | inr e ↦ subst P (sym (get_or-set_other rs i c new idle_record e)) (others c e)
    ]

-- ---- one event more

cond_other : (u t : ℕ) (x b : Bool) → u ≢ t → cond (eqb t u) x b ≡ b
cond_other u t x b h = elim (eqb t u) as (λ v. eqb t u ≡ v → cond v x b ≡ b) [ true ↦ λ e. absurd (h (grind (arith, nat_tests))) | false ↦ λ e. refl ] refl

pub cond_same : (t : ℕ) (x b : Bool) → cond (eqb t t) x b ≡ x
cond_same t x b = elim (eqb t t) as (λ v. eqb t t ≡ v → cond v x b ≡ x) [ true ↦ λ e. refl | false ↦ λ e. absurd (grind (arith, nat_tests)) ] refl

after_other : (e : Event) (b : Bool) (u : ℕ) → u ≢ ticket_of e → delayed_after u e b ≡ b
after_other (Begin t c) b u h = cond_other u t false b h
after_other (Done t op r) b u h = cond_other u t false b h
after_other (Delay t op o y) b u h = cond_other u t true b h
after_other (End t r) b u h = cond_other u t false b h

-- a record of another ticket is kept
pub keeps_more : (m : Meaning) (J : List Event) (rs : List CallerRecord) (c : ℕ) (e : Event) → ((s : Serving) → get_or (servings m rs) c None ≡ Some s → s.ticket ≢ ticket_of e) → KeepsRecord m J (record_at rs c) → KeepsRecord m (J ++ e ∷ []) (record_at rs c)
keeps_more m J rs c e apart k = record {
  foresight = k.foresight;
  noted = λ s p. k.noted s p ∙ sym (is_delayed-append false J e s.ticket ∙ after_other e (is_delayed J s.ticket) s.ticket (apart s (servings_at m rs c ∙ p)));
}

-- the fields with one event more
pub keeps_with : (m : Meaning) (count count2 oldest oldest2 : ℕ) (journal journal2 : JournalView) (k k2 : List (Option Reply)) (rs rs2 : List CallerRecord) (K : List Event)
    → Keeps m count oldest journal k rs → journal2 ≡ record { events = K; room = journal.room } → count2 ≡ begun K → length k2 ≡ length k → ((c : ℕ) → KeepsRecord m K (record_at rs2 c)) → AreFrom oldest2 rs2 → oldest2 ≤ count2 → Keeps m count2 oldest2 journal2 k2 rs2
keeps_with m count count2 oldest oldest2 journal journal2 k k2 rs rs2 K keeps is counted same each from near =
    let P : JournalView → Type 0 = λ j. Keeps m count2 oldest2 j k2 rs2 in
    subst P (sym is) (record { script = keeps.script; counted = counted; from = from; is_begun = near; events = keeps.events; one_each = same ∙ keeps.one_each; each = each })

-- ---- no open ticket is older
module _ (oldest : ℕ) (rs : List CallerRecord) (i : ℕ) (new : CallerRecord) (l : i < length rs) (from : AreFrom oldest rs) where
  -- after one record is replaced
  from_set : ((u : ℕ) → new.ticket ≡ Some u → oldest ≤ u) → AreFrom oldest (set rs i new)
  from_set h = record { each = each }
    where
      each : (c u : ℕ) → (record_at (set rs i new) c).ticket ≡ Some u → oldest ≤ u
      each c u e = elim (cases_eq c i) [
        | inl p ↦ h u (ap (λ (r : CallerRecord). r.ticket) (sym (get_or-set_same rs i new idle_record l)) ∙ ap (λ (j : ℕ). (record_at (set rs i new) j).ticket) (sym p) ∙ e)
        | inr p ↦ from.each c u (ap (λ (r : CallerRecord). r.ticket) (sym (get_or-set_other rs i c new idle_record p)) ∙ e)
      ]

  -- by one with the same ticket
  pub from_same : (old : CallerRecord) → record_at rs i ≡ old → new.ticket ≡ old.ticket → AreFrom oldest (set rs i new)
  from_same old is same = from_set (λ u e. from.each i u (ap (λ (r : CallerRecord). r.ticket) is ∙ sym same ∙ e))

  -- by one with a younger ticket
  pub from_younger : (t : ℕ) → oldest ≤ t → new.ticket ≡ Some t → AreFrom oldest (set rs i new)
  from_younger t near has = from_set (λ u e. let p : t ≡ u = same_Some t u (sym has ∙ e) in omega arith)

  -- by one with no ticket
  pub from_none : new.ticket ≡ None → AreFrom oldest (set rs i new)
  from_none has = from_set (λ u e. absurd (none-some u (sym has ∙ e)))

-- there is room for an event that leads to a lawful book
pub room_for : (m : Meaning) (J : List Event) (e : Event) (k : List (Option Reply)) (us : List (Option Serving)) (room : ℕ) → IsScript m → 2 * m.requests + 2 * calls m ≤ room → Lawful m (record { journal = J ++ e ∷ []; kept = k; records = us }) → length J < room
room_for m J e k us room S h L = omega (arith, few_events m _ S L, length-append J (e ∷ []), h)

-- ---- a ticket stands in one record
module _ (m : Meaning) (b : Book) (L : Lawful m b) where
  pub one : (c d : ℕ) (s z : Serving) → record_of b c ≡ Some s → record_of b d ≡ Some z → s.ticket ≡ z.ticket → (c ≡ d) × (s ≡ z)
  one c d s z p q e = let h : c ≡ d = one_caller m b L c d s z p q e in (h, same_Some s z (sym p ∙ ap (λ (j : ℕ). record_of b j) h ∙ q))

  pub others : (i c : ℕ) (z : Serving) → record_of b i ≡ Some z → c ≢ i → (s : Serving) → record_of b c ≡ Some s → s.ticket ≢ z.ticket
  others i c z at apart s p = λ e. apart (one c i s z p at e).0

-- ---- the record that has the ticket t stands at place i
pub record Place (rs : List CallerRecord) (i t : ℕ) (old : CallerRecord) : Type 0 where
  pub within : i < length rs
  pub is : record_at rs i ≡ old
  pub has : old.ticket ≡ Some t

pub place : (xs rs : List CallerRecord) (i t : ℕ) (old : CallerRecord) → xs ≡ rs → i < length xs → (record_at xs i).ticket ≡ Some t → old ≡ get_or rs i old → Place rs i t old
place xs rs i t old same within has is =
    let here : i < length rs = let P : List CallerRecord → Type 0 = λ l. i < length l in subst P same within in
    let at : record_at rs i ≡ old = record_here rs i old here is in
    let Q : List CallerRecord → Type 0 = λ l. (record_at l i).ticket ≡ Some t in
    record { within = here; is = at; has = sym (ap (λ (r : CallerRecord). r.ticket) at) ∙ subst Q same has }

pub served_at : (m : Meaning) (J : List Event) (k : List (Option Reply)) (rs : List CallerRecord) (i t : ℕ) (old : CallerRecord) → Place rs i t old → record_of (book_of m J k rs) i ≡ Some (served m t old)
served_at m J k rs i t old p = servings_at m rs i ∙ ap (λ (r : CallerRecord). serving_of m r) p.is ∙ serving_is m old t p.has

-- its foresight is one that it can have
pub foresight_at : (m : Meaning) (J : List Event) (rs : List CallerRecord) (i t : ℕ) (old : CallerRecord) → Place rs i t old → ((c : ℕ) → KeepsRecord m J (record_at rs c)) → KeepsForesight m old.foresight
foresight_at m J rs i t old p each = let P : CallerRecord → Type 0 = λ r. KeepsForesight m r.foresight in subst P p.is (each i).foresight
