-- What a judge keeps of the events so far decides the next event, and is kept by it.
use Rattle.std.proofs.Common.{◌≡◌, ◌≢◌, ℕ, suc, ◌+◌, ◌<◌, ◌≤◌, ◌⊎◌, inl, inr, List, [], ◌∷◌, ◌++◌, length, Bool, true, false, cond, Option, Some, None, IsSome, is_some, refl, sym, ◌∙◌, ap, subst, append-nil, append_assoc, arith, Decides, length-append}
use Rattle.std.specs.Prelude.{slice_set}
use Rattle.std.proofs.lemmas.List.{get_or-set_same, get_or-set_other}
use Rattle.std.proofs.lemmas.Bool.{ne_eqb, false≢true, cases_lt, cases_eq, eq-eqb}
use Rattle.std.proofs.lemmas.Option.{same_Some}
use Rattle.session_values.specs.Limits.{max_callers}
use Rattle.session_values.specs.declared.op.Op.{Op}
use Rattle.session_values.specs.declared.reply.Reply.{Reply}
use Rattle.session_values.specs.declared.value.Value.{Value}
use Rattle.session_values.specs.Dialogue.{Entry}
use Rattle.session_values.proofs.Options.{some_none}
use Rattle.symbolic_ops.specs.declared.symbol.Symbol.{Symbol}
use Rattle.session_journal.specs.declared.event.Event.{Event}
use Rattle.session_journal.specs.declared.event.Event.TheVariants.{Begin, Done, Delay, End}
use Rattle.session_journal.specs.Journal.{DoneOperation, begun, caller_of, end_of, ended, entries, of_ticket, owner}
use Rattle.session_journal.specs.Script.{Meaning}
use Rattle.session_journal.specs.EventsInTurn.{is_delayed}
use Rattle.session_journal.proofs.Events.{OnlyBegun, begun_more, begun_stays, done_operations_stay, ended_new, ended_other, entries_more, entries_other, first_same, first_stays, owner_new, owner_other}
use Rattle.session_journal.proofs.EventCounts.{is_delayed-append}
use Rattle.trace_audit.specs.declared.standing.Standing.{Standing}
use Rattle.session_journal.specs.Accepted.{AreAllowed, IsAllowed}
use Rattle.trace_audit.specs.Desk.{ReplayView}
use Rattle.trace_audit.specs.Judging.{FrontView, IsFront, IsLatest, IsStanding, is_free, latest_of, no_standing, standing_at}
use Rattle.session_journal.proofs.Allowed.{only_begun, through_allowed}

pub allowed_push : (m : Meaning) (front J : List Event) (e : Event) → AreAllowed m front J → IsAllowed m (front ++ J) e → AreAllowed m front (J ++ e ∷ [])
allowed_push m front [] e a h = let P : List Event → Type 0 = λ K. IsAllowed m K e in (subst P (append-nil front) h, tt)
allowed_push m front (x ∷ J) e a h =
    let P : List Event → Type 0 = λ K. IsAllowed m K e in
    (a.0, allowed_push m (front ++ x ∷ []) J e a.1 (subst P (sym (append_assoc front (x ∷ []) J)) h))

-- ---- how tickets stand after one event more
module _ (F : List Event) (u : ℕ) (s : Standing) (is : IsStanding F u s) where
  -- an event of another ticket, or a Begin
  pub stands_begin : (t c : ℕ) → u ≢ t → IsStanding (F ++ Begin t c ∷ []) u s
  stands_begin t c d = record {
    done = is.done ∙ sym (ap (λ (ds : List DoneOperation). length (of_ticket u ds)) (done_operations_stay F (Begin t c) refl));
    delayed = is.delayed ∙ sym (is_delayed-append false F (Begin t c) u ∙ ap (λ (b : Bool). cond b false (is_delayed F u)) (ne_eqb t u (λ e. d (sym e))));
    ended = is.ended ∙ sym (ap is_some (first_same (end_of u) F (Begin t c) refl));
  }

  pub stands_done : (t : ℕ) (op : Op) (v : Value) → u ≢ t → IsStanding (F ++ Done t op v ∷ []) u s
  stands_done t op v d = record {
    done = is.done ∙ sym (ap (λ (es : List Entry). length es) (entries_other F t op v u d));
    delayed = is.delayed ∙ sym (is_delayed-append false F (Done t op v) u ∙ ap (λ (b : Bool). cond b false (is_delayed F u)) (ne_eqb t u (λ e. d (sym e))));
    ended = is.ended ∙ sym (ap is_some (first_same (end_of u) F (Done t op v) refl));
  }

  pub stands_delay : (t : ℕ) (op : Op) (older : ℕ) (y : Symbol) → u ≢ t → IsStanding (F ++ Delay t op older y ∷ []) u s
  stands_delay t op older y d = record {
    done = is.done ∙ sym (ap (λ (ds : List DoneOperation). length (of_ticket u ds)) (done_operations_stay F (Delay t op older y) refl));
    delayed = is.delayed ∙ sym (is_delayed-append false F (Delay t op older y) u ∙ ap (λ (b : Bool). cond b true (is_delayed F u)) (ne_eqb t u (λ e. d (sym e))));
    ended = is.ended ∙ sym (ap is_some (first_same (end_of u) F (Delay t op older y) refl));
  }

  pub stands_end : (t : ℕ) (r : Reply) → u ≢ t → IsStanding (F ++ End t r ∷ []) u s
  stands_end t r d = record {
    done = is.done ∙ sym (ap (λ (ds : List DoneOperation). length (of_ticket u ds)) (done_operations_stay F (End t r) refl));
    delayed = is.delayed ∙ sym (is_delayed-append false F (End t r) u ∙ ap (λ (b : Bool). cond b false (is_delayed F u)) (ne_eqb t u (λ e. d (sym e))));
    ended = is.ended ∙ sym (ap is_some (ended_other F t r u d));
  }

-- a ticket that began just now
pub stands_begun : (F : List Event) (t c : ℕ) (s : Standing) → OnlyBegun F → begun F ≤ t → IsStanding F t s → s.delayed ≡ false → IsStanding (F ++ Begin t c ∷ []) t s
stands_begun F t c s o l is n = record {
  done = is.done ∙ sym (ap (λ (ds : List DoneOperation). length (of_ticket t ds)) (done_operations_stay F (Begin t c) refl));
  delayed = n ∙ sym (is_delayed-append false F (Begin t c) t ∙ ap (λ (b : Bool). cond b false (is_delayed F t)) (eq-eqb t t refl));
  ended = is.ended ∙ sym (ap is_some (first_same (end_of t) F (Begin t c) refl));
}

-- the ticket of the event
pub stands_done_now : (F : List Event) (t : ℕ) (op : Op) (v : Value) (s : Standing) → IsStanding F t s → ended F t ≡ None → IsStanding (F ++ Done t op v ∷ []) t (record { done = s.done + 1; delayed = false; ended = false })
stands_done_now F t op v s is o = record {
  done = ap (λ (n : ℕ). n + 1) is.done ∙ sym (ap (λ (es : List Entry). length es) (entries_more F t op v) ∙ length-append (entries F t) (record { op = op; reply = v } ∷ []));
  delayed = sym (is_delayed-append false F (Done t op v) t ∙ ap (λ (b : Bool). cond b false (is_delayed F t)) (eq-eqb t t refl));
  ended = sym (ap is_some (first_same (end_of t) F (Done t op v) refl ∙ o));
}

pub stands_delay_now : (F : List Event) (t : ℕ) (op : Op) (older : ℕ) (y : Symbol) (s : Standing) → IsStanding F t s → ended F t ≡ None → IsStanding (F ++ Delay t op older y ∷ []) t (record { done = s.done; delayed = true; ended = false })
stands_delay_now F t op older y s is o = record {
  done = is.done ∙ sym (ap (λ (ds : List DoneOperation). length (of_ticket t ds)) (done_operations_stay F (Delay t op older y) refl));
  delayed = sym (is_delayed-append false F (Delay t op older y) t ∙ ap (λ (b : Bool). cond b true (is_delayed F t)) (eq-eqb t t refl));
  ended = sym (ap is_some (first_same (end_of t) F (Delay t op older y) refl ∙ o));
}

pub stands_end_now : (F : List Event) (t : ℕ) (r : Reply) (s : Standing) → IsStanding F t s → ended F t ≡ None → IsStanding (F ++ End t r ∷ []) t (record { done = s.done; delayed = false; ended = true })
stands_end_now F t r s is o = record {
  done = is.done ∙ sym (ap (λ (ds : List DoneOperation). length (of_ticket t ds)) (done_operations_stay F (End t r) refl));
  delayed = sym (is_delayed-append false F (End t r) t ∙ ap (λ (b : Bool). cond b false (is_delayed F t)) (eq-eqb t t refl));
  ended = sym (ap is_some (ended_new F t r o));
}

-- one ticket stands otherwise
pub standings_set : (F G : List Event) (n : ℕ) (ss : List Standing) (t : ℕ) (s : Standing) → t < length ss → ((u : ℕ) → u < n → u ≢ t → IsStanding F u (standing_at ss u) → IsStanding G u (standing_at ss u)) → IsStanding G t s → ((u : ℕ) → u < n → IsStanding F u (standing_at ss u)) → (u : ℕ) → u < n → IsStanding G u (standing_at (slice_set ss t s) u)
standings_set F G n ss t s l others here each u m = by (cases_eq u t)
  where
    P : Standing → Type 0
    P x = IsStanding G u x

    by : (u ≡ t) ⊎ (u ≢ t) → IsStanding G u (standing_at (slice_set ss t s) u)
    by (inl e) = let Q : ℕ → Type 0 = λ j. IsStanding G j (standing_at (slice_set ss t s) j) in let H : Standing → Type 0 = λ x. IsStanding G t x in subst Q (sym e) (subst H (sym (get_or-set_same ss t s no_standing l)) here)
    by (inr d) = let H : Standing → Type 0 = λ x. IsStanding G u x in subst H (sym (get_or-set_other ss t u s no_standing d)) (others u m d (each u m))

-- no Delay is of a ticket that hasn't begun
abbrev NotDelayed : List Event → Type 0
NotDelayed F = (t : ℕ) → begun F ≤ t → is_delayed F t ≡ false

undelayed_step : (m : Meaning) (F : List Event) (e : Event) → NotDelayed F → IsAllowed m F e → NotDelayed (F ++ e ∷ [])
undelayed_step m F (Begin u c) h may t l =
    let n : begun (F ++ Begin u c ∷ []) ≡ suc (begun F) = begun_more F u c in
    is_delayed-append false F (Begin u c) t ∙ ap (λ (b : Bool). cond b false (is_delayed F t)) (ne_eqb u t (λ e. omega (arith, n, l, e, may.next))) ∙ h t (omega (arith, n, l))
undelayed_step m F (Done u op v) h may t l =
    let n : begun (F ++ Done u op v ∷ []) ≡ begun F = begun_stays F (Done u op v) refl in
    is_delayed-append false F (Done u op v) t ∙ ap (λ (b : Bool). cond b false (is_delayed F t)) (ne_eqb u t (λ e. omega (arith, n, l, e, may.0.is_open.begun))) ∙ h t (omega (arith, n, l))
undelayed_step m F (Delay u op older s) h may t l =
    let n : begun (F ++ Delay u op older s ∷ []) ≡ begun F = begun_stays F (Delay u op older s) refl in
    is_delayed-append false F (Delay u op older s) t ∙ ap (λ (b : Bool). cond b true (is_delayed F t)) (ne_eqb u t (λ e. omega (arith, n, l, e, may.is_open.begun))) ∙ h t (omega (arith, n, l))
undelayed_step m F (End u r) h may t l =
    let n : begun (F ++ End u r ∷ []) ≡ begun F = begun_stays F (End u r) refl in
    is_delayed-append false F (End u r) t ∙ ap (λ (b : Bool). cond b false (is_delayed F t)) (ne_eqb u t (λ e. omega (arith, n, l, e, may.is_open.begun))) ∙ h t (omega (arith, n, l))

pub undelayed : (m : Meaning) (F : List Event) → AreAllowed m [] F → NotDelayed F
undelayed m F a = through_allowed m NotDelayed (λ K e p h. undelayed_step m K e p h) [] F (λ t l. refl) a

-- ---- the latest ticket of a caller
none_not : (X : Type 0) → IsSome {T = X} None → ⊥
none_not X i = cc

some_so : {X : Type 0} (x : X) → IsSome (Some x)
some_so x = refl

ended_more : (F : List Event) (e : Event) (u : ℕ) → IsSome (ended F u) → IsSome (ended (F ++ e ∷ []) u)
ended_more F e u h = by (ended F u) refl h
  where
    by : (o : Option Reply) → ended F u ≡ o → IsSome o → IsSome (ended (F ++ e ∷ []) u)
    by None q i = absurd (none_not Reply i)
    by (Some r) q i = let P : Option Reply → Type 0 = λ x. IsSome x in subst P (sym (first_stays (end_of u) F (e ∷ []) r q)) (some_so r)

-- an event that is no Begin
pub latest_stays : (F : List Event) (e : Event) (c : ℕ) (o : Option ℕ) → ((u : ℕ) → caller_of u e ≡ None) → IsLatest F c o → IsLatest (F ++ e ∷ []) c o
latest_stays F e c None n h = λ u q. h u (sym (first_same (caller_of u) F e (n u)) ∙ q)
latest_stays F e c (Some t) n h = (first_same (caller_of t) F e (n t) ∙ h.0, λ u q d. ended_more F e u (h.1 u (sym (first_same (caller_of u) F e (n u)) ∙ q) d))

latest_other : (F : List Event) (t b c : ℕ) (o : Option ℕ) → OnlyBegun F → t ≡ begun F → c ≢ b → IsLatest F c o → IsLatest (F ++ Begin t b ∷ []) c o
latest_other F t b c o only is d h = go o h
  where
    new : owner (F ++ Begin t b ∷ []) t ≡ Some b
    new = owner_new F t b (only.owner t (omega (arith, is)))

    old : (u : ℕ) → owner (F ++ Begin t b ∷ []) u ≡ Some c → owner F u ≡ Some c
    old u q = by (cases_eq u t)
      where
        by : (u ≡ t) ⊎ (u ≢ t) → owner F u ≡ Some c
        by (inl e) = absurd (d (same_Some c b (sym q ∙ ap (owner (F ++ Begin t b ∷ [])) e ∙ new)))
        by (inr n) = sym (owner_other F t b u n) ∙ q

    not_new : (u : ℕ) → owner F u ≡ Some c → u ≢ t
    not_new u q e = some_none c (sym q ∙ ap (owner F) e ∙ only.owner t (omega (arith, is)))

    go : (o : Option ℕ) → IsLatest F c o → IsLatest (F ++ Begin t b ∷ []) c o
    go None h = λ u q. h u (old u q)
    go (Some w) h = (owner_other F t b w (not_new w h.0) ∙ h.0, λ u q n. ended_more F (Begin t b) u (h.1 u (old u q) n))

latest_new : (F : List Event) (t c : ℕ) → OnlyBegun F → t ≡ begun F → ((u : ℕ) → owner F u ≡ Some c → IsSome (ended F u)) → IsLatest (F ++ Begin t c ∷ []) c (Some t)
latest_new F t c only is others = (owner_new F t c (only.owner t (omega (arith, is))), λ u q n. ended_more F (Begin t c) u (others u (sym (owner_other F t c u n) ∙ q)))

pub latest_set : (F : List Event) (t c : ℕ) (ls : List (Option ℕ)) → length ls ≡ max_callers → OnlyBegun F → t ≡ begun F → c < max_callers → ((u : ℕ) → owner F u ≡ Some c → IsSome (ended F u)) → ((d : ℕ) → d < max_callers → IsLatest F d (latest_of ls d)) → (d : ℕ) → d < max_callers → IsLatest (F ++ Begin t c ∷ []) d (latest_of (slice_set ls c (Some t)) d)
latest_set F t c ls n only is l others each d m = by (cases_eq d c)
  where
    within : c < length ls
    within = omega (arith, l, n)

    by : (d ≡ c) ⊎ (d ≢ c) → IsLatest (F ++ Begin t c ∷ []) d (latest_of (slice_set ls c (Some t)) d)
    by (inl e) =
        let Q : ℕ → Type 0 = λ j. IsLatest (F ++ Begin t c ∷ []) j (latest_of (slice_set ls c (Some t)) j) in
        let P : Option ℕ → Type 0 = λ o. IsLatest (F ++ Begin t c ∷ []) c o in
        subst Q (sym e) (subst P (sym (get_or-set_same ls c (Some t) None within)) (latest_new F t c only is others))
    by (inr k) =
        let P : Option ℕ → Type 0 = λ o. IsLatest (F ++ Begin t c ∷ []) d o in
        subst P (sym (get_or-set_other ls c d (Some t) None k)) (latest_other F t c d (latest_of ls d) only is k (each d m))

-- ---- whether a caller is free
is_some-true : {X : Type 0} (o : Option X) → is_some o ≡ true → IsSome o
is_some-true None e = absurd (false≢true e)
is_some-true (Some x) e = some_so x

pub is_some-from : {X : Type 0} (o : Option X) → IsSome o → is_some o ≡ true
is_some-from {X} None i = absurd (none_not X i)
is_some-from {X} (Some x) i = refl

pub free_decides : (m : Meaning) (rs : List ReplayView) (F : List Event) (f : FrontView) (c : ℕ) → IsFront m rs F f → begun F ≤ m.requests → c < max_callers → Decides (is_free f.standings (latest_of f.latest c)) ((u : ℕ) → owner F u ≡ Some c → IsSome (ended F u))
free_decides m rs F f c k few l = by (latest_of f.latest c) (k.latest c l)
  where
    only : OnlyBegun F
    only = only_begun m F k.allowed

    begun_owner : (t : ℕ) → owner F t ≡ Some c → t < m.requests
    begun_owner t q = go (cases_lt t (begun F))
      where
        go : (t < begun F) ⊎ (begun F ≤ t) → t < m.requests
        go (inl h) = omega (arith, h, few)
        go (inr h) = absurd (some_none c (sym q ∙ only.owner t h))

    by : (o : Option ℕ) → IsLatest F c o → Decides (is_free f.standings o) ((u : ℕ) → owner F u ≡ Some c → IsSome (ended F u))
    by None h = (λ e u q. absurd (h u q), λ g. refl)
    by (Some t) h =
        let st : IsStanding F t (standing_at f.standings t) = k.each t (begun_owner t h.0) in
        (λ e u q. which e u q (cases_eq u t), λ g. st.ended ∙ is_some-from (ended F t) (g t h.0))
      where
        which : (standing_at f.standings t).ended ≡ true → (u : ℕ) → owner F u ≡ Some c → (u ≡ t) ⊎ (u ≢ t) → IsSome (ended F u)
        which e u q (inl s) = let P : ℕ → Type 0 = λ j. IsSome (ended F j) in subst P (sym s) (is_some-true (ended F t) (sym (k.each t (begun_owner t h.0)).ended ∙ e))
        which e u q (inr d) = h.1 u q d
