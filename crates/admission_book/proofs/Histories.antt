-- The events of one ticket, taken out of a journal.
use Rattle.std.proofs.Common.{◌≡◌, ℕ, ◌<◌, ◌≤◌, List, [], ◌∷◌, ◌++◌, Option, Some, None, Bool, true, false, cond, eqb, refl, sym, ◌∙◌, ap, subst, arith, append-nil}
use Rattle.std.proofs.lemmas.Bool.{eqb-true, eqb-false}
use Rattle.session_values.specs.declared.op.Op.{Op}
use Rattle.session_values.specs.declared.value.Value.{Value}
use Rattle.session_values.specs.declared.reply.Reply.{Reply}
use Rattle.symbolic_ops.specs.declared.symbol.Symbol.{Symbol}
use Rattle.session_journal.specs.declared.event.Event.{Event}
use Rattle.session_journal.specs.declared.event.Event.TheVariants.{Begin, Done, Delay, End}
use Rattle.symbolic_ops.specs.Commuting.{CommutesWith}
use Rattle.session_journal.specs.Journal.{entries, begun, ended}
use Rattle.session_values.specs.Dialogue.{Calls, Answers, Dialogue, rest, replies}
use Rattle.session_journal.specs.Script.{Meaning}
use Rattle.session_journal.specs.EventsInTurn.{IsOpen, now, is_delayed_from, is_delayed, MayCome, ComeInTurn, events_of, TellsOn, TellsAll}
use Rattle.session_journal.specs.Journal.{ticket_of}
use Rattle.session_journal.proofs.Events.{through_turns, begun_more, begun_stays}

events_of-append : (t : ℕ) (J K : List Event) → events_of t (J ++ K) ≡ events_of t J ++ events_of t K
events_of-append t [] K = refl
events_of-append t (e ∷ J) K =
    elim (eqb (ticket_of e) t) as (λ b. cond b (e ∷ events_of t (J ++ K)) (events_of t (J ++ K)) ≡ cond b (e ∷ events_of t J) (events_of t J) ++ events_of t K) [
      | true ↦ ap (λ (H : List Event). e ∷ H) (events_of-append t J K)
      | false ↦ events_of-append t J K
    ]

-- what is left of a dialogue, whether the present call is noted, and whether the ticket has ended, after its events
abbrev left : Dialogue → List Event → Dialogue
left f [] = f
left f (Done t op r ∷ K) = left (rest f (r ∷ [])) K
left f (Begin t c ∷ K) = left f K
left f (Delay t op o y ∷ K) = left f K
left f (End t r ∷ K) = left f K

abbrev noted_after : Bool → List Event → Bool
noted_after b [] = b
noted_after b (Begin t c ∷ K) = noted_after false K
noted_after b (Done t op r ∷ K) = noted_after false K
noted_after b (Delay t op o y ∷ K) = noted_after true K
noted_after b (End t r ∷ K) = noted_after false K

abbrev goes_on : List Event → Bool
goes_on [] = true
goes_on (End t r ∷ K) = false
goes_on (_ ∷ K) = goes_on K

-- one event more
TellsOn-done : (f : Dialogue) (b : Bool) (K : List Event) (t : ℕ) (op : Op) (r : Value) → TellsOn f b K → goes_on K ≡ true → left f K [] ≡ Calls op → TellsOn f b (K ++ Done t op r ∷ [])
TellsOn-done f b [] t op r h g c = (c, tt)
TellsOn-done f b (Begin u c' ∷ K) t op r h g c = h
TellsOn-done f b (Done u o q ∷ K) t op r h g c = (h.0, TellsOn-done (rest f (q ∷ [])) false K t op r h.1 g c)
TellsOn-done f b (Delay u o w y ∷ K) t op r h g c = (h.0, h.1, h.2, h.3, TellsOn-done f true K t op r h.4 g c)
TellsOn-done f b (End u q ∷ K) t op r h g c = cc

TellsOn-delay : (f : Dialogue) (b : Bool) (K : List Event) (t : ℕ) (op : Op) (older : ℕ) (y : Symbol) → TellsOn f b K → goes_on K ≡ true → noted_after b K ≡ false → left f K [] ≡ Calls op → older < t → (CommutesWith op y → ⊥) → TellsOn f b (K ++ Delay t op older y ∷ [])
TellsOn-delay f b [] t op older y h g n c l a = (n, c, l, a, tt)
TellsOn-delay f b (Begin u c' ∷ K) t op older y h g n c l a = h
TellsOn-delay f b (Done u o q ∷ K) t op older y h g n c l a = (h.0, TellsOn-delay (rest f (q ∷ [])) false K t op older y h.1 g n c l a)
TellsOn-delay f b (Delay u o w z ∷ K) t op older y h g n c l a = (h.0, h.1, h.2, h.3, TellsOn-delay f true K t op older y h.4 g n c l a)
TellsOn-delay f b (End u q ∷ K) t op older y h g n c l a = cc

TellsOn-end : (f : Dialogue) (b : Bool) (K : List Event) (t : ℕ) (r : Reply) → TellsOn f b K → goes_on K ≡ true → left f K [] ≡ Answers r → TellsOn f b (K ++ End t r ∷ [])
TellsOn-end f b [] t r h g c = (c, refl)
TellsOn-end f b (Begin u c' ∷ K) t r h g c = h
TellsOn-end f b (Done u o q ∷ K) t r h g c = (h.0, TellsOn-end (rest f (q ∷ [])) false K t r h.1 g c)
TellsOn-end f b (Delay u o w z ∷ K) t r h g c = (h.0, h.1, h.2, h.3, TellsOn-end f true K t r h.4 g c)
TellsOn-end f b (End u q ∷ K) t r h g c = cc

-- with the Begin at the front
TellsAll-done : (f : Dialogue) (K : List Event) (t : ℕ) (op : Op) (r : Value) → (K ≡ [] → ⊥) → TellsAll f K → goes_on K ≡ true → left f K [] ≡ Calls op → TellsAll f (K ++ Done t op r ∷ [])
TellsAll-done f [] t op r some h g c = absurd (some refl)
TellsAll-done f (Begin u d ∷ K) t op r some h g c = TellsOn-done f false K t op r h g c
TellsAll-done f (Done u o q ∷ K) t op r some h g c = h
TellsAll-done f (Delay u o w z ∷ K) t op r some h g c = h
TellsAll-done f (End u q ∷ K) t op r some h g c = h

TellsAll-delay : (f : Dialogue) (K : List Event) (t : ℕ) (op : Op) (older : ℕ) (y : Symbol) → (K ≡ [] → ⊥) → TellsAll f K → goes_on K ≡ true → noted_after false K ≡ false → left f K [] ≡ Calls op → older < t → (CommutesWith op y → ⊥) → TellsAll f (K ++ Delay t op older y ∷ [])
TellsAll-delay f [] t op older y some h g n c l a = absurd (some refl)
TellsAll-delay f (Begin u d ∷ K) t op older y some h g n c l a = TellsOn-delay f false K t op older y h g n c l a
TellsAll-delay f (Done u o q ∷ K) t op older y some h g n c l a = h
TellsAll-delay f (Delay u o w z ∷ K) t op older y some h g n c l a = h
TellsAll-delay f (End u q ∷ K) t op older y some h g n c l a = h

TellsAll-end : (f : Dialogue) (K : List Event) (t : ℕ) (r : Reply) → (K ≡ [] → ⊥) → TellsAll f K → goes_on K ≡ true → left f K [] ≡ Answers r → TellsAll f (K ++ End t r ∷ [])
TellsAll-end f [] t r some h g c = absurd (some refl)
TellsAll-end f (Begin u d ∷ K) t r some h g c = TellsOn-end f false K t r h g c
TellsAll-end f (Done u o q ∷ K) t r some h g c = h
TellsAll-end f (Delay u o w z ∷ K) t r some h g c = h
TellsAll-end f (End u q ∷ K) t r some h g c = h

-- ---- the events of a ticket say what the journal says of it
left_is : (t : ℕ) (f : Dialogue) (J : List Event) (more : List Value) → left f (events_of t J) more ≡ f (replies (entries J t) ++ more)
left_is t f [] more = refl
left_is t f (Begin u c ∷ J) more = elim (eqb u t) as (λ b. left f (cond b (Begin u c ∷ events_of t J) (events_of t J)) more ≡ f (replies (entries J t) ++ more)) [ true ↦ left_is t f J more | false ↦ left_is t f J more ]
left_is t f (Done u op r ∷ J) more = elim (eqb u t) as (λ b. left f (cond b (Done u op r ∷ events_of t J) (events_of t J)) more ≡ f (replies (cond b (record { op = op; reply = r } ∷ entries J t) (entries J t)) ++ more)) [ true ↦ left_is t (rest f (r ∷ [])) J more | false ↦ left_is t f J more ]
left_is t f (Delay u op o y ∷ J) more = elim (eqb u t) as (λ b. left f (cond b (Delay u op o y ∷ events_of t J) (events_of t J)) more ≡ f (replies (entries J t) ++ more)) [ true ↦ left_is t f J more | false ↦ left_is t f J more ]
left_is t f (End u r ∷ J) more = elim (eqb u t) as (λ b. left f (cond b (End u r ∷ events_of t J) (events_of t J)) more ≡ f (replies (entries J t) ++ more)) [ true ↦ left_is t f J more | false ↦ left_is t f J more ]

noted_is : (t : ℕ) (b : Bool) (J : List Event) → noted_after b (events_of t J) ≡ is_delayed_from b J t
noted_is t b [] = refl
noted_is t b (Begin u c ∷ J) = elim (eqb u t) as (λ x. noted_after b (cond x (Begin u c ∷ events_of t J) (events_of t J)) ≡ is_delayed_from (cond x false b) J t) [ true ↦ noted_is t false J | false ↦ noted_is t b J ]
noted_is t b (Done u op r ∷ J) = elim (eqb u t) as (λ x. noted_after b (cond x (Done u op r ∷ events_of t J) (events_of t J)) ≡ is_delayed_from (cond x false b) J t) [ true ↦ noted_is t false J | false ↦ noted_is t b J ]
noted_is t b (Delay u op o y ∷ J) = elim (eqb u t) as (λ x. noted_after b (cond x (Delay u op o y ∷ events_of t J) (events_of t J)) ≡ is_delayed_from (cond x true b) J t) [ true ↦ noted_is t true J | false ↦ noted_is t b J ]
noted_is t b (End u r ∷ J) = elim (eqb u t) as (λ x. noted_after b (cond x (End u r ∷ events_of t J) (events_of t J)) ≡ is_delayed_from (cond x false b) J t) [ true ↦ noted_is t false J | false ↦ noted_is t b J ]

going_is : (t : ℕ) (J : List Event) → ended J t ≡ None → goes_on (events_of t J) ≡ true
going_is t [] h = refl
going_is t (Begin u c ∷ J) h = elim (eqb u t) as (λ x. goes_on (cond x (Begin u c ∷ events_of t J) (events_of t J)) ≡ true) [ true ↦ going_is t J h | false ↦ going_is t J h ]
going_is t (Done u op r ∷ J) h = elim (eqb u t) as (λ x. goes_on (cond x (Done u op r ∷ events_of t J) (events_of t J)) ≡ true) [ true ↦ going_is t J h | false ↦ going_is t J h ]
going_is t (Delay u op o y ∷ J) h = elim (eqb u t) as (λ x. goes_on (cond x (Delay u op o y ∷ events_of t J) (events_of t J)) ≡ true) [ true ↦ going_is t J h | false ↦ going_is t J h ]
going_is t (End u r ∷ J) h = (elim (eqb u t) as (λ x. (elim (cond x (Some r) None) as (λ _. Option Reply) [ Some y ↦ Some y | None ↦ ended J t ]) ≡ None → goes_on (cond x (End u r ∷ events_of t J) (events_of t J)) ≡ true) [ true ↦ λ e. some_none e | false ↦ λ e. going_is t J e ]) h
  where
    some_none : {A : Type 0} → ◌≡◌ {A = Option Reply} (Some r) None → A
    some_none e = cc

-- ---- along the journal
record History (m : Meaning) (t : ℕ) (J : List Event) : Type 0 where
  tells : TellsAll (m.next t) (events_of t J)
  none : begun J ≤ t → events_of t J ≡ []
  some : t < begun J → events_of t J ≡ [] → ⊥

own_event : (J : List Event) (e : Event) (t : ℕ) → eqb (ticket_of e) t ≡ true → events_of t (J ++ e ∷ []) ≡ events_of t J ++ e ∷ []
own_event J e t h = events_of-append t J (e ∷ []) ∙ ap (λ (b : Bool). events_of t J ++ cond b (e ∷ []) []) h

other_event : (J : List Event) (e : Event) (t : ℕ) → eqb (ticket_of e) t ≡ false → events_of t (J ++ e ∷ []) ≡ events_of t J
other_event J e t h = events_of-append t J (e ∷ []) ∙ ap (λ (b : Bool). events_of t J ++ cond b (e ∷ []) []) h ∙ append-nil (events_of t J)

nil_append : (es : List Value) → es ++ [] ≡ es
nil_append [] = refl
nil_append (e ∷ es) = ap (λ (fs : List Value). e ∷ fs) (nil_append es)

now_is : (m : Meaning) (t : ℕ) (J : List Event) → left (m.next t) (events_of t J) [] ≡ now m J t
now_is m t J = left_is t (m.next t) J [] ∙ ap (m.next t) (nil_append (replies (entries J t)))

not_empty : (K : List Event) (e : Event) → K ++ e ∷ [] ≡ [] → ⊥
not_empty [] e h = cc
not_empty (x ∷ K) e h = cc

history_other : (m : Meaning) (t : ℕ) (J : List Event) (e : Event) → History m t J → eqb (ticket_of e) t ≡ false → (begun (J ++ e ∷ []) ≤ t → begun J ≤ t) → (t < begun (J ++ e ∷ []) → t < begun J) → History m t (J ++ e ∷ [])
history_other m t J e s h less more =
    let P : List Event → Type 0 = λ K. TellsAll (m.next t) K in
    record {
      tells = subst P (sym (other_event J e t h)) s.tells;
      none = λ l. other_event J e t h ∙ s.none (less l);
      some = λ l k. s.some (more l) (sym (other_event J e t h) ∙ k);
    }

history_own : (m : Meaning) (t : ℕ) (J : List Event) (e : Event) → eqb (ticket_of e) t ≡ true → TellsAll (m.next t) (events_of t J ++ e ∷ []) → t < begun (J ++ e ∷ []) → History m t (J ++ e ∷ [])
history_own m t J e h told l =
    let P : List Event → Type 0 = λ K. TellsAll (m.next t) K in
    record {
      tells = subst P (sym (own_event J e t h)) told;
      none = λ g. absurd (omega arith);
      some = λ g k. not_empty (events_of t J) e (sym (own_event J e t h) ∙ k);
    }

histories : (m : Meaning) (callers : ℕ) (t : ℕ) (J : List Event) → ComeInTurn m callers [] J → History m t J
histories m callers t J h = through_turns m callers (History m t) keep [] J (record { tells = tt; none = λ l. refl; some = λ l k. absurd (omega arith) }) h
  where
    keep : (J : List Event) (e : Event) → History m t J → MayCome m callers J e → History m t (J ++ e ∷ [])
    keep J (Begin u c) s w = go (eqb u t) refl
      where
        go : (b : Bool) → eqb u t ≡ b → History m t (J ++ Begin u c ∷ [])
        go true q = let P : List Event → Type 0 = λ K. TellsAll (m.next t) (K ++ Begin u c ∷ []) in history_own m t J (Begin u c) q (subst P (sym (s.none (omega (arith, eqb-true u t q, w.next)))) tt) (omega (arith, begun_more J u c, eqb-true u t q, w.next))
        go false q = history_other m t J (Begin u c) s q (λ l. omega (arith, begun_more J u c)) (λ l. omega (arith, begun_more J u c, eqb-false u t q, w.next))
    keep J (Done u op r) s w = go (eqb u t) refl
      where
        n : begun (J ++ Done u op r ∷ []) ≡ begun J
        n = begun_stays J (Done u op r) refl

        go : (b : Bool) → eqb u t ≡ b → History m t (J ++ Done u op r ∷ [])
        go true q =
            let e : u ≡ t = eqb-true u t q in
            let O : ℕ → Type 0 = λ x. IsOpen J x in
            let o : IsOpen J t = subst O e w.is_open in
            history_own m t J (Done u op r) q (TellsAll-done (m.next t) (events_of t J) u op r (s.some o.begun) s.tells (going_is t J o.not_ended) (now_is m t J ∙ ap (now m J) (sym e) ∙ w.calls)) (omega (arith, n, o.begun))
        go false q = history_other m t J (Done u op r) s q (λ l. omega (arith, n)) (λ l. omega (arith, n))
    keep J (Delay u op older y) s w = go (eqb u t) refl
      where
        n : begun (J ++ Delay u op older y ∷ []) ≡ begun J
        n = begun_stays J (Delay u op older y) refl

        go : (b : Bool) → eqb u t ≡ b → History m t (J ++ Delay u op older y ∷ [])
        go true q =
            let e : u ≡ t = eqb-true u t q in
            let O : ℕ → Type 0 = λ x. IsOpen J x in
            let o : IsOpen J t = subst O e w.is_open in
            history_own m t J (Delay u op older y) q (TellsAll-delay (m.next t) (events_of t J) u op older y (s.some o.begun) s.tells (going_is t J o.not_ended) (noted_is t false J ∙ ap (is_delayed J) (sym e) ∙ w.once) (now_is m t J ∙ ap (now m J) (sym e) ∙ w.calls) w.is_older w.symbol) (omega (arith, n, o.begun))
        go false q = history_other m t J (Delay u op older y) s q (λ l. omega (arith, n)) (λ l. omega (arith, n))
    keep J (End u r) s w = go (eqb u t) refl
      where
        n : begun (J ++ End u r ∷ []) ≡ begun J
        n = begun_stays J (End u r) refl

        go : (b : Bool) → eqb u t ≡ b → History m t (J ++ End u r ∷ [])
        go true q =
            let e : u ≡ t = eqb-true u t q in
            let O : ℕ → Type 0 = λ x. IsOpen J x in
            let o : IsOpen J t = subst O e w.is_open in
            history_own m t J (End u r) q (TellsAll-end (m.next t) (events_of t J) u r (s.some o.begun) s.tells (going_is t J o.not_ended) (now_is m t J ∙ ap (now m J) (sym e) ∙ w.answers)) (omega (arith, n, o.begun))
        go false q = history_other m t J (End u r) s q (λ l. omega (arith, n)) (λ l. omega (arith, n))

-- the events of each ticket of a journal that comes in turn read as they should
pub told : (m : Meaning) (callers : ℕ) (t : ℕ) (J : List Event) → ComeInTurn m callers [] J → TellsAll (m.next t) (events_of t J)
told m callers t J h = (histories m callers t J h).tells
