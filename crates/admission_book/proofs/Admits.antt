-- The fields of a book in which an operation is admitted or delayed.
use Rattle.std.proofs.Common.{◌≡◌, ℕ, ◌+◌, ◌*◌, ◌<◌, ◌≤◌, List, [], ◌∷◌, ◌++◌, Option, Some, None, Bool, true, false, cond, length, refl, sym, ◌∙◌, ap, subst, arith}
use Rattle.std.proofs.Math.ListN.{set}
use Rattle.std.proofs.lemmas.List.{set-get_or}
use Rattle.session_values.specs.declared.op.Op.{Op}
use Rattle.session_values.specs.declared.reply.Reply.{Reply}
use Rattle.symbolic_ops.specs.declared.symbol.Symbol.{Symbol}
use Rattle.session_journal.specs.declared.event.Event.{Event}
use Rattle.session_journal.specs.declared.event.Event.TheVariants.{Delay}
use Rattle.session_journal.specs.Journal.{begun}
use Rattle.session_journal.specs.Script.{Meaning, IsScript, calls}
use Rattle.admission_book.specs.Book.{Book, Holds, Serving, IsFree, IsBlocker, record_of, with_event, after_admit, after_delay}
use Rattle.session_journal.specs.EventsInTurn.{IsForeseen, IsOpen, is_delayed}
use Rattle.admission_book.specs.Lawful.{Lawful}
use Rattle.admission_book.specs.declared.caller_record.CallerRecord.{CallerRecord}
use Rattle.admission_book.specs.declared.admission.Admission.TheVariants.{Admitted, Delayed}
use Rattle.admission_book.specs.CallerRecord.{serving_of, servings, record_at, with_flight, with_delay}
use Rattle.admission_book.specs.Methods.{MayAdmit, Admits, IsOldestOpen}
use Rattle.admission_book.specs.Foresights.{symbols_of}
use Rattle.admission_book.specs.Found.{book_with, Found}
use Rattle.admission_book.specs.declared.blocker.Blocker.{Blocker}
use Rattle.admission_book.specs.Kept.{book_of, KeepsRecord}
use Rattle.session_journal.proofs.Events.{begun_stays}
use Rattle.admission_book.proofs.Keep.{keeps_admit, keeps_delay}
use Rattle.session_journal.proofs.EventCounts.{is_delayed-append}
use Rattle.admission_book.proofs.Shown.{served, serving_is, servings_at, shown, keeps_has, keeps_more, keeps_set, cond_same, room_for, one, others, Place, served_at}

-- what the search found, at the records of the book
pub free_here : (m : Meaning) (J : List Event) (k : List (Option Reply)) (xs rs : List CallerRecord) (t : ℕ) (op : Op) (r : Option Blocker) → xs ≡ rs → r ≡ None → Found (servings m xs) t op r → IsFree (book_of m J k rs) t op
free_here m J k xs rs t op r same none h =
    let P : Option Blocker → Type 0 = λ o. Found (servings m xs) t op o in
    let Q : List CallerRecord → Type 0 = λ l. Found (servings m l) t op None in
    subst Q same (subst P none h)

pub blocker_here : (m : Meaning) (xs rs : List CallerRecord) (t : ℕ) (op : Op) (r : Option Blocker) (b : Blocker) → xs ≡ rs → r ≡ Some b → Found (servings m xs) t op r → IsBlocker (book_with (servings m rs)) t op b.older b.symbol
blocker_here m xs rs t op r b same some h =
    let P : Option Blocker → Type 0 = λ o. Found (servings m xs) t op o in
    let Q : List CallerRecord → Type 0 = λ l. Found (servings m l) t op (Some b) in
    subst Q same (subst P some h)

-- who is against an operation doesn't depend on what else the book keeps
pub blocker_at : (m : Meaning) (J : List Event) (k : List (Option Reply)) (rs : List CallerRecord) (t : ℕ) (op : Op) (older : ℕ) (y : Symbol) → IsBlocker (book_with (servings m rs)) t op older y → IsBlocker (book_of m J k rs) t op older y
blocker_at m J k rs t op older y x = record { caller = x.caller; serving = x.serving; is = x.is; ticket = x.ticket; is_older = x.is_older; symbol = x.symbol; least = x.least }

-- the oldest open ticket has no blocker
pub never_oldest : {A : Type 0} (m : Meaning) (b : Book) (t : ℕ) (op : Op) (older : ℕ) (y : Symbol) → Lawful m b → IsBlocker b t op older y → IsOldestOpen (Some t) b.journal → A
never_oldest m b t op older y L x o =
    let P : ℕ → Type 0 = λ u. IsOpen b.journal u in
    absurd (omega (arith, x.is_older, o.1 older (subst P x.ticket (L.records x.caller x.serving x.is).is_open)))

module _ (m : Meaning) (J : List Event) (k : List (Option Reply)) (rs : List CallerRecord) (t : ℕ) (op : Op) (i : ℕ) (old : CallerRecord)
    (L : Lawful m (book_of m J k rs)) (may : MayAdmit m (book_of m J k rs) t op) (p : Place rs i t old) where
  at : record_of (book_of m J k rs) i ≡ Some (served m t old)
  at = served_at m J k rs i t old p

  -- ---- admitted
  module _ (free : IsFree (book_of m J k rs) t op) where
    pub admit_lawful : Lawful m (after_admit (book_of m J k rs) i (served m t old) op)
    admit_lawful = keeps_admit m (book_of m J k rs) i (served m t old) op L at may.calls free

    pub admitted : Admits (book_of m J k rs) t op Admitted (after_admit (book_of m J k rs) i (served m t old) op)
    admitted = (free, λ c s q e. let h : (i ≡ c) × (served m t old ≡ s) = one m (book_of m J k rs) L i c (served m t old) s at q (sym e) in λ j. after_admit (book_of m J k rs) (h.0 j) (h.1 j) op)

  pub admit_shown : (new : CallerRecord) → new ≡ with_flight old op → book_of m J k (set rs i new) ≡ after_admit (book_of m J k rs) i (served m t old) op
  admit_shown new e = shown m J k rs i new (Some (record { ticket = t; foresight = symbols_of m old.foresight; flight = Some op })) (ap (λ (r : CallerRecord). serving_of m r) e ∙ serving_is m (with_flight old op) t p.has)

  pub admit_keeps : (new : CallerRecord) → new ≡ with_flight old op → ((c : ℕ) → KeepsRecord m J (record_at rs c)) → (c : ℕ) → KeepsRecord m J (record_at (set rs i new) c)
  admit_keeps new e each =
      let P : CallerRecord → Type 0 = λ r. KeepsRecord m J r in
      let k_old : KeepsRecord m J old = subst P p.is (each i) in
      keeps_set m J rs i new p.within (subst P (sym e) (keeps_has m J (with_flight old op) t p.has k_old.foresight (k_old.noted (served m t old) (serving_is m old t p.has)))) (λ c _. each c)

  -- ---- delayed
  module _ (older : ℕ) (y : Symbol) (found : IsBlocker (book_with (servings m rs)) t op older y) (each : (c : ℕ) → KeepsRecord m J (record_at rs c)) where
    pub blocker : IsBlocker (book_of m J k rs) t op older y
    blocker = blocker_at m J k rs t op older y found

    k_old : KeepsRecord m J old
    k_old = let P : CallerRecord → Type 0 = λ r. KeepsRecord m J r in subst P p.is (each i)

    noted : old.delayed ≡ is_delayed J t
    noted = k_old.noted (served m t old) (serving_is m old t p.has)

    held_older : Holds m (book_of m J k rs) found.caller found.serving
    held_older = L.records found.caller found.serving found.is

    older_open : IsOpen J older
    older_open = let P : ℕ → Type 0 = λ u. IsOpen J u in subst P found.ticket held_older.is_open

    -- the symbol is in the foresight of the older ticket's record
    named : IsForeseen m J older y
    named =
        let P : ℕ → Type 0 = λ u. IsForeseen m J u y in
        subst P found.ticket (record { foresight = found.serving.foresight; front = found.symbol.front; back = found.symbol.back; is = found.symbol.is; covers = held_older.foresight; declared = held_older.declared })

    pub delay_lawful : Lawful m (after_delay (book_of m J k rs) t op older y)
    delay_lawful = keeps_delay m (book_of m J k rs) t op older y L (L.records i (served m t old) at).is_open may.calls found.is_older found.symbol.against older_open named

    pub delay_room : (room : ℕ) → IsScript m → 2 * m.requests + 2 * calls m ≤ room → old.delayed ≡ false → length J < room
    delay_room room S h none =
        let P : Bool → Type 0 = λ d. Lawful m (cond d (book_of m J k rs) (with_event (book_of m J k rs) (Delay t op older y))) in
        room_for m J (Delay t op older y) k (servings m rs) room S h (subst P (sym noted ∙ none) delay_lawful)

    shows_same : (new : CallerRecord) → new ≡ with_delay old → set (servings m rs) i (serving_of m new) ≡ servings m rs
    shows_same new e =
        ap (λ (o : Option Serving). set (servings m rs) i o) (ap (λ (r : CallerRecord). serving_of m r) e ∙ sym (ap (λ (r : CallerRecord). serving_of m r) p.is) ∙ sym (servings_at m rs i))
        ∙ set-get_or (servings m rs) i None

    pub delay_shown : (K : List Event) (new : CallerRecord) → K ≡ cond old.delayed J (J ++ Delay t op older y ∷ []) → new ≡ with_delay old → book_of m K k (set rs i new) ≡ after_delay (book_of m J k rs) t op older y
    delay_shown K new grown e =
        shown m K k rs i new (serving_of m new) refl
        ∙ (λ j. record { journal = grown j; kept = k; records = shows_same new e j })
        ∙ both old.delayed
        ∙ ap (λ (d : Bool). cond d (book_of m J k rs) (with_event (book_of m J k rs) (Delay t op older y))) noted
      where
        both : (d : Bool) → record { journal = cond d J (J ++ Delay t op older y ∷ []); kept = k; records = servings m rs } ≡ cond d (book_of m J k rs) (with_event (book_of m J k rs) (Delay t op older y))
        both true = refl
        both false = refl

    pub delayed : Admits (book_of m J k rs) t op (Delayed older y) (after_delay (book_of m J k rs) t op older y)
    delayed = (blocker, refl)

    pub delay_keeps : (new : CallerRecord) → new ≡ with_delay old → (c : ℕ) → KeepsRecord m (cond old.delayed J (J ++ Delay t op older y ∷ [])) (record_at (set rs i new) c)
    delay_keeps new e = go old.delayed refl
      where
        go : (d : Bool) → old.delayed ≡ d → (c : ℕ) → KeepsRecord m (cond d J (J ++ Delay t op older y ∷ [])) (record_at (set rs i new) c)
        go true is =
            let P : CallerRecord → Type 0 = λ r. KeepsRecord m J r in
            keeps_set m J rs i new p.within (subst P (sym e) (keeps_has m J (with_delay old) t p.has k_old.foresight (sym is ∙ noted))) (λ c _. each c)
        go false is =
            let Q : CallerRecord → Type 0 = λ r. KeepsRecord m (J ++ Delay t op older y ∷ []) r in
            keeps_set m (J ++ Delay t op older y ∷ []) rs i new p.within
            (subst Q (sym e) (keeps_has m (J ++ Delay t op older y ∷ []) (with_delay old) t p.has k_old.foresight (sym (is_delayed-append false J (Delay t op older y) t ∙ cond_same t true (is_delayed J t)))))
            (λ c apart. keeps_more m J rs c (Delay t op older y) (others m (book_of m J k rs) L i c (served m t old) at apart) (each c))

    pub delay_count : (n : ℕ) → n ≡ begun J → n ≡ begun (cond old.delayed J (J ++ Delay t op older y ∷ []))
    delay_count n e = e ∙ go old.delayed
      where
        go : (d : Bool) → begun J ≡ begun (cond d J (J ++ Delay t op older y ∷ []))
        go true = refl
        go false = sym (begun_stays J (Delay t op older y) refl)
