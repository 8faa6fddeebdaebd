-- The next event is decided by what a judge keeps, which then is that of one event more.
use Rattle.std.proofs.Common.{◌≡◌, ◌≢◌, ℕ, suc, ◌+◌, ◌<◌, ◌≤◌, ◌⊎◌, inl, inr, List, [], ◌∷◌, ◌++◌, length, take, Bool, true, false, cond, not, ◌&&◌, ◌==◌, Option, Some, None, is_some, map, refl, sym, ◌∙◌, ap, subst, arith, Decides, length-append}
use Rattle.std.specs.Prelude.{slice_get, nat_lt}
use Rattle.std.specs.Option.{option_map}
use Rattle.std.proofs.lemmas.Bool.Decides.{nat_tests}
use Rattle.std.proofs.lemmas.List.{length-set, take_at}
use Rattle.std.proofs.lemmas.Bool.{and_parts, and_from, false≢true, ltb-true, lt-ltb, cases_lt, cases_eq, eq-eqb}
use Rattle.std.proofs.lemmas.Option.{same_Some, none-some}
use Rattle.session_values.specs.Limits.{max_callers}
use Rattle.session_values.specs.declared.op.Op.{Op}
use Rattle.session_values.specs.declared.reply.Reply.{Reply}
use Rattle.session_values.specs.declared.value.Value.{Value}
use Rattle.session_values.specs.Dialogue.{Answers, Calls, Entry, replies}
use Rattle.session_values.specs.Tables.{Tables, kind_of, reply, step}
use Rattle.symbolic_ops.specs.declared.symbol.Symbol.{Symbol}
use Rattle.session_journal.specs.declared.event.Event.{Event}
use Rattle.session_journal.specs.declared.event.Event.TheVariants.{Begin, Done, Delay, End}
use Rattle.session_journal.specs.Journal.{DoneOperation, after, begun, done_operations, ended, entries, in_order, of_ticket, run}
use Rattle.session_journal.specs.Script.{Meaning}
use Rattle.session_journal.proofs.Replay.{run-append}
use Rattle.session_journal.specs.EventsInTurn.{IsOpen, MayBegin, MayBeDone, MayEnd, now}
use Rattle.session_journal.proofs.Events.{OnlyBegun, begun_more, begun_stays, done_operations-append, done_operations_stay, entries_more, entries_other, in_order-append, of_ticket-append}
use Rattle.trace_audit.specs.declared.standing.Standing.{Standing}
use Rattle.session_journal.specs.Accepted.{AreAllowed, IsDelayAllowed}
use Rattle.trace_audit.specs.Desk.{Break, Kept, ReplayView, given_entries, kept_next, next_call, next_of, replay_at}
use Rattle.trace_audit.specs.Judging.{AnswersNow, CallsNow, FrontView, IsFront, IsStanding, WasRun, WereRun, begins, call_of, delayed_at, done_at, ends_at, is_free, is_open, latest_of, may_begin, standing_at}
use Rattle.session_journal.proofs.Allowed.{only_begun}
use Rattle.session_journal.proofs.TraceSerial.{told}
use Rattle.trace_audit.proofs.Runs.{tells}
use Rattle.trace_audit.proofs.Fronts.{allowed_push, free_decides, latest_set, latest_stays, stands_begin, stands_begun, stands_delay, stands_delay_now, stands_done, stands_done_now, stands_end, stands_end_now, standings_set, undelayed}

few_begun : (m : Meaning) (F : List Event) → AreAllowed m [] F → begun F ≤ m.requests
few_begun m F a = (told m F a).few

-- ---- a Begin
pub begin_decides : (m : Meaning) (rs : List ReplayView) (F : List Event) (f : FrontView) (t c : ℕ) → IsFront m rs F f → Decides (may_begin f t c) (MayBegin m max_callers F t c)
begin_decides m rs F f t c k = (to, from)
  where
    ready : Bool
    ready = t == f.begun && nat_lt t (length f.standings) && nat_lt c (length f.latest)

    free : Bool
    free = is_free f.standings (latest_of f.latest c)

    numbers : (x y n l : ℕ) → (x == y && nat_lt x n && nat_lt c l) ≡ true → (x ≡ y) × (x < n) × (c < l)
    numbers x y n l e = (grind (arith, nat_tests), grind (arith, nat_tests), grind (arith, nat_tests))

    back : (x y n l : ℕ) → x ≡ y → x < n → c < l → (x == y && nat_lt x n && nat_lt c l) ≡ true
    back x y n l a b d = grind (arith, nat_tests)

    to : may_begin f t c ≡ true → MayBegin m max_callers F t c
    to e =
        let p : (ready ≡ true) × (free ≡ true) = and_parts ready free e in
        let q : (t ≡ f.begun) × (t < length f.standings) × (c < length f.latest) = numbers t f.begun (length f.standings) (length f.latest) p.0 in
        let l : c < max_callers = omega (arith, q.2, k.callers) in
        record {
          next = q.0 ∙ k.begun;
          left = omega (arith, q.1, k.count);
          caller = l;
          others = (free_decides m rs F f c k (few_begun m F k.allowed) l).0 p.1;
        }

    from : MayBegin m max_callers F t c → may_begin f t c ≡ true
    from may = and_from ready free (back t f.begun (length f.standings) (length f.latest) (may.next ∙ sym k.begun) (omega (arith, may.left, k.count)) (omega (arith, may.caller, k.callers))) ((free_decides m rs F f c k (few_begun m F k.allowed) may.caller).1 may.others)

pub begin_front : (m : Meaning) (rs : List ReplayView) (F : List Event) (f : FrontView) (t c : ℕ) → IsFront m rs F f → MayBegin m max_callers F t c → IsFront m rs (F ++ Begin t c ∷ []) (begins f t c)
begin_front m rs F f t c k may =
    let e : Event = Begin t c in
    let only : OnlyBegun F = only_begun m F k.allowed in
    let same : done_operations (F ++ e ∷ []) ≡ done_operations F = done_operations_stay F e refl in
    record {
      allowed = allowed_push m [] F e k.allowed may;
      begun = ap (λ (n : ℕ). n + 1) k.begun ∙ one (begun F) ∙ sym (begun_more F t c);
      callers = length-set f.latest c (Some t) ∙ k.callers;
      latest = latest_set F t c f.latest k.callers only may.next may.caller may.others k.latest;
      count = k.count;
      each = λ u l. stands u l;
      given = λ u l. (let q : length (entries (F ++ e ∷ []) u) ≡ length (entries F u) = ap (λ (ds : List DoneOperation). length (of_ticket u ds)) same in omega (arith, q, k.given u l));
      tables = k.tables ∙ sym (ap (λ (ds : List DoneOperation). run m.opening (in_order ds)) same);
      kinds = k.kinds;
    }
  where
    one : (n : ℕ) → n + 1 ≡ suc n
    one n = omega arith

    stands : (u : ℕ) → u < m.requests → IsStanding (F ++ Begin t c ∷ []) u (standing_at f.standings u)
    stands u l = by (cases_eq u t)
      where
        by : (u ≡ t) ⊎ (u ≢ t) → IsStanding (F ++ Begin t c ∷ []) u (standing_at f.standings u)
        by (inl e) =
            let Q : ℕ → Type 0 = λ j. IsStanding (F ++ Begin t c ∷ []) j (standing_at f.standings j) in
            let s : IsStanding F t (standing_at f.standings t) = k.each t may.left in
            let past : begun F ≤ t = omega (arith, may.next) in
            subst Q (sym e) (stands_begun F t c (standing_at f.standings t) (only_begun m F k.allowed) past s (s.delayed ∙ undelayed m F k.allowed t past))
        by (inr d) = stands_begin F u (standing_at f.standings u) (k.each u l) t c d

-- ---- what the ticket does next
module _ (m : Meaning) (J : List Event) (rs : List ReplayView) (F K : List Event) (f : FrontView) (w : WereRun m J rs) (is : J ≡ F ++ K) (k : IsFront m rs F f) where
  -- the entries so far are the first of the trace's
  pub entries_front : (t : ℕ) → entries J t ≡ entries F t ++ entries K t
  entries_front t = ap (λ (I : List Event). entries I t) is ∙ ap (of_ticket t) (done_operations-append F K) ∙ of_ticket-append t (done_operations F) (done_operations K)

  taken : (t : ℕ) → take (length (entries F t)) (entries J t) ≡ entries F t
  taken t = ap (take (length (entries F t))) (entries_front t) ∙ take_at (entries F t) (entries K t) (length (entries F t)) refl

  pub open_ticket : (t : ℕ) → IsOpen F t → t < m.requests
  open_ticket t o = omega (arith, o.begun, few_begun m F k.allowed)

  pub open_to : (t : ℕ) → is_open f t ≡ true → IsOpen F t
  open_to t e =
      let p : (nat_lt t f.begun ≡ true) × (not (standing_at f.standings t).ended ≡ true) = and_parts (nat_lt t f.begun) (not (standing_at f.standings t).ended) e in
      let l : t < begun F = omega (arith, ltb-true t f.begun p.0, k.begun) in
      let st : IsStanding F t (standing_at f.standings t) = k.each t (omega (arith, l, few_begun m F k.allowed)) in
      record { begun = l; not_ended = none (ended F t) (sym (ap not st.ended) ∙ p.1) }
    where
      none : (o : Option Reply) → not (is_some o) ≡ true → o ≡ None
      none None q = refl
      none (Some r) q = absurd (false≢true q)

  pub open_from : (t : ℕ) → IsOpen F t → is_open f t ≡ true
  open_from t o =
      let st : IsStanding F t (standing_at f.standings t) = k.each t (open_ticket t o) in
      and_from (nat_lt t f.begun) (not (standing_at f.standings t).ended) (lt-ltb t f.begun (omega (arith, o.begun, k.begun))) (ap not (st.ended ∙ ap is_some o.not_ended))

  pub now_is : (t : ℕ) (l : t < m.requests) → now m F t ≡ next_of (w.each t l).reply (call_of f rs t)
  now_is t l =
      let x : WasRun m J t (replay_at rs t) = w.each t l in
      let st : IsStanding F t (standing_at f.standings t) = k.each t l in
      let at : m.next t (replies (take (length (entries F t)) (entries J t))) ≡ kept_next (entries J t) (replay_at rs t).kept x.reply (length (entries F t)) = tells (m.next t) (entries J t) (replay_at rs t).kept x.reply (length (entries F t)) x.run (k.given t l) in
      ap (λ (es : List Entry). m.next t (replies es)) (sym (taken t)) ∙ at
      ∙ ap (λ (es : List Entry). kept_next es (replay_at rs t).kept x.reply (length (entries F t))) (sym x.from_trace)
      ∙ ap (λ (n : ℕ). kept_next (replay_at rs t).entries (replay_at rs t).kept x.reply n) (sym st.done)

  calls_is : (r : Reply) (o : Option Op) (op : Op) → next_of r o ≡ Calls op → o ≡ Some op
  calls_is r None op e = absurd (no e)
    where
      no : Answers r ≡ Calls op → ⊥
      no e = cc
  calls_is r (Some p) op e = inside e
    where
      inside : Calls p ≡ Calls op → ◌≡◌ {A = Option Op} (Some p) (Some op)
      inside e = cc

  answers_is : (r : Reply) (o : Option Op) (q : Reply) → next_of r o ≡ Answers q → (o ≡ None) × (r ≡ q)
  answers_is r None q e = (refl, inside e)
    where
      inside : Answers r ≡ Answers q → r ≡ q
      inside e = cc
  answers_is r (Some p) q e = absurd (no e)
    where
      no : Calls p ≡ Answers q → ⊥
      no e = cc

  pub done_to : (t : ℕ) (op : Op) → CallsNow f rs t op → MayBeDone m F t op
  done_to t op c =
      let o : IsOpen F t = open_to t c.0 in
      let l : t < m.requests = open_ticket t o in
      record { is_open = o; calls = now_is t l ∙ ap (next_of (w.each t l).reply) c.1 }

  pub done_from : (t : ℕ) (op : Op) → MayBeDone m F t op → CallsNow f rs t op
  done_from t op may =
      let l : t < m.requests = open_ticket t may.is_open in
      (open_from t may.is_open, calls_is (w.each t l).reply (call_of f rs t) op (sym (now_is t l) ∙ may.calls))

  pub end_to : (t : ℕ) (r : Reply) → AnswersNow f rs t r → MayEnd m F t r
  end_to t r a =
      let o : IsOpen F t = open_to t a.0 in
      let l : t < m.requests = open_ticket t o in
      let x : WasRun m J t (replay_at rs t) = w.each t l in
      record { is_open = o; answers = now_is t l ∙ ap (next_of x.reply) a.1 ∙ ap (λ (q : Reply). Answers q) (same_Some x.reply r (sym x.answer ∙ a.2)) }

  pub end_from : (t : ℕ) (r : Reply) → MayEnd m F t r → AnswersNow f rs t r
  end_from t r may =
      let l : t < m.requests = open_ticket t may.is_open in
      let x : WasRun m J t (replay_at rs t) = w.each t l in
      let e : (call_of f rs t ≡ None) × (x.reply ≡ r) = answers_is x.reply (call_of f rs t) r (sym (now_is t l) ∙ may.answers) in
      (open_from t may.is_open, e.0, x.answer ∙ ap (λ (q : Reply). Some q) e.1)

  -- ---- one event more
  pub delay_front : (t : ℕ) (op : Op) (older : ℕ) (s : Symbol) → IsDelayAllowed m F t op older s → IsFront m rs (F ++ Delay t op older s ∷ []) (delayed_at f t)
  delay_front t op older s may =
      let e : Event = Delay t op older s in
      let l : t < m.requests = open_ticket t may.is_open in
      let same : done_operations (F ++ e ∷ []) ≡ done_operations F = done_operations_stay F e refl in
      let st : Standing = standing_at f.standings t in
      record {
        allowed = allowed_push m [] F e k.allowed may;
        begun = k.begun ∙ sym (begun_stays F e refl);
        callers = k.callers;
        latest = λ c n. latest_stays F e c (latest_of f.latest c) (λ u. refl) (k.latest c n);
        count = length-set f.standings t _ ∙ k.count;
        each = standings_set F (F ++ e ∷ []) m.requests f.standings t (record { done = st.done; delayed = true; ended = false }) (omega (arith, l, k.count)) (λ u n d h. stands_delay F u (standing_at f.standings u) h t op older s d) (stands_delay_now F t op older s st (k.each t l) may.is_open.not_ended) k.each;
        given = λ u n. (let q : length (entries (F ++ e ∷ []) u) ≡ length (entries F u) = ap (λ (ds : List DoneOperation). length (of_ticket u ds)) same in omega (arith, q, k.given u n));
        tables = k.tables ∙ sym (ap (λ (ds : List DoneOperation). run m.opening (in_order ds)) same);
        kinds = k.kinds;
      }

  pub end_front : (t : ℕ) (r : Reply) → MayEnd m F t r → IsFront m rs (F ++ End t r ∷ []) (ends_at f t)
  end_front t r may =
      let e : Event = End t r in
      let l : t < m.requests = open_ticket t may.is_open in
      let same : done_operations (F ++ e ∷ []) ≡ done_operations F = done_operations_stay F e refl in
      let st : Standing = standing_at f.standings t in
      record {
        allowed = allowed_push m [] F e k.allowed may;
        begun = k.begun ∙ sym (begun_stays F e refl);
        callers = k.callers;
        latest = λ c n. latest_stays F e c (latest_of f.latest c) (λ u. refl) (k.latest c n);
        count = length-set f.standings t _ ∙ k.count;
        each = standings_set F (F ++ e ∷ []) m.requests f.standings t (record { done = st.done; delayed = false; ended = true }) (omega (arith, l, k.count)) (λ u n d h. stands_end F u (standing_at f.standings u) h t r d) (stands_end_now F t r st (k.each t l) may.is_open.not_ended) k.each;
        given = λ u n. (let q : length (entries (F ++ e ∷ []) u) ≡ length (entries F u) = ap (λ (ds : List DoneOperation). length (of_ticket u ds)) same in omega (arith, q, k.given u n));
        tables = k.tables ∙ sym (ap (λ (ds : List DoneOperation). run m.opening (in_order ds)) same);
        kinds = k.kinds;
      }

-- past what was given the break is called
record AtBreak (kept : Kept) (n : ℕ) (op : Op) : Type 0 where
  gap : Break
  is : kept.broken ≡ Some gap
  called : gap.op ≡ op
  place : gap.place ≡ n

at_break : (es : List Entry) (kept : Kept) (n : ℕ) (op : Op) → n ≡ given_entries kept → next_call es kept n ≡ Some op → AtBreak kept n op
at_break es kept n op e c = go kept.broken refl
  where
    past : (x y : ℕ) → x ≡ y → nat_lt x y ≡ false
    past x y q = grind (arith, nat_tests)

    last : option_map (λ (b : Break). b.op) kept.broken ≡ Some op
    last = sym (ap (λ (t : Bool). cond t (option_map (λ (x : Entry). x.op) (slice_get es n)) (option_map (λ (b : Break). b.op) kept.broken)) (past n (given_entries kept) e)) ∙ c

    inside : (p : Op) → ◌≡◌ {A = Option Op} (Some p) (Some op) → p ≡ op
    inside p q = cc

    go : (o : Option Break) → kept.broken ≡ o → AtBreak kept n op
    go None q = absurd (none-some op (sym (ap (option_map (λ (b : Break). b.op)) q) ∙ last))
    go (Some b) q = record {
      gap = b;
      is = q;
      called = inside b.op (sym (ap (option_map (λ (x : Break). x.op)) q) ∙ last);
      place = sym (e ∙ ap (λ (o : Option Break). elim o as (λ _. ℕ) [ None ↦ kept.calls | Some x ↦ x.place ]) q);
    }

at_end : (es fs : List Entry) (e : Entry) → slice_get (es ++ e ∷ fs) (length es) ≡ Some e
at_end [] fs e = refl
at_end (x ∷ es) fs e = at_end es fs e

first_entry : (t : ℕ) (op : Op) (v : Value) (K : List Event) → entries (Done t op v ∷ K) t ≡ record { op = op; reply = v } ∷ entries K t
first_entry t op v K = ap (λ (b : Bool). cond b (record { op = op; reply = v } ∷ entries K t) (entries K t)) (eq-eqb t t refl)

module _ (m : Meaning) (J : List Event) (rs : List ReplayView) (F K : List Event) (f : FrontView) (t : ℕ) (op : Op) (v : Value) (w : WereRun m J rs) (is : J ≡ F ++ Done t op v ∷ K) (k : IsFront m rs F f) (calls : CallsNow f rs t op) where
  here : IsOpen F t
  here = open_to m J rs F (Done t op v ∷ K) f w is k t calls.0

  below : t < m.requests
  below = open_ticket m J rs F (Done t op v ∷ K) f w is k t here

  done_given : length (entries F t) + 1 ≤ given_entries (replay_at rs t).kept
  done_given = by (cases_lt (length (entries F t)) (given_entries (replay_at rs t).kept))
    where
      by : (length (entries F t) < given_entries (replay_at rs t).kept) ⊎ (given_entries (replay_at rs t).kept ≤ length (entries F t)) → length (entries F t) + 1 ≤ given_entries (replay_at rs t).kept
      by (inl l) = omega (arith, l)
      by (inr l) =
          let x : WasRun m J t (replay_at rs t) = w.each t below in
          let n : (standing_at f.standings t).done ≡ length (entries F t) = (k.each t below).done in
          let same : (standing_at f.standings t).done ≡ given_entries (replay_at rs t).kept = omega (arith, n, l, k.given t below) in
          let a : AtBreak (replay_at rs t).kept (standing_at f.standings t).done op = at_break (replay_at rs t).entries (replay_at rs t).kept (standing_at f.standings t).done op same calls.1 in
          let es : entries J t ≡ entries F t ++ record { op = op; reply = v } ∷ entries K t = entries_front m J rs F (Done t op v ∷ K) f w is k t ∙ ap (λ (fs : List Entry). entries F t ++ fs) (first_entry t op v K) in
          let there : slice_get (entries J t) a.gap.place ≡ Some (record { op = op; reply = v }) = ap (slice_get (entries J t)) (a.place ∙ n) ∙ ap (λ (fs : List Entry). slice_get fs (length (entries F t))) es ∙ at_end (entries F t) (entries K t) (record { op = op; reply = v }) in
          absurd (x.run.other a.gap a.is (record { op = op; reply = v }) there (sym a.called))

  pub done_front : reply (after m.opening F) op ≡ v → map kind_of (step f.tables op) ≡ m.shape → IsFront m rs (F ++ Done t op v ∷ []) (done_at f t op)
  done_front given kinds =
      let e : Event = Done t op v in
      let st : Standing = standing_at f.standings t in
      let may : MayBeDone m F t op = done_to m J rs F (Done t op v ∷ K) f w is k t op calls in
      record {
        allowed = allowed_push m [] F e k.allowed (may, given);
        begun = k.begun ∙ sym (begun_stays F e refl);
        callers = k.callers;
        latest = λ c n. latest_stays F e c (latest_of f.latest c) (λ u. refl) (k.latest c n);
        count = length-set f.standings t _ ∙ k.count;
        each = standings_set F (F ++ e ∷ []) m.requests f.standings t (record { done = st.done + 1; delayed = false; ended = false }) (omega (arith, below, k.count)) (λ u n d h. stands_done F u (standing_at f.standings u) h t op v d) (stands_done_now F t op v st (k.each t below) here.not_ended) k.each;
        given = λ u n. more_given u n (cases_eq u t);
        tables = ap (λ (ts : Tables). step ts op) k.tables ∙ sym (ap (λ (ds : List DoneOperation). run m.opening (in_order ds)) (done_operations-append F (e ∷ [])) ∙ ap (run m.opening) (in_order-append (done_operations F) (record { ticket = t; op = op; reply = v } ∷ [])) ∙ run-append m.opening (in_order (done_operations F)) (record { op = op; reply = v } ∷ []));
        kinds = kinds;
      }
    where
      more_given : (u : ℕ) → u < m.requests → (u ≡ t) ⊎ (u ≢ t) → length (entries (F ++ Done t op v ∷ []) u) ≤ given_entries (replay_at rs u).kept
      more_given u n (inl e) =
          let Q : ℕ → Type 0 = λ j. length (entries (F ++ Done t op v ∷ []) j) ≤ given_entries (replay_at rs j).kept in
          let q : length (entries (F ++ Done t op v ∷ []) t) ≡ length (entries F t) + 1 = ap (λ (es : List Entry). length es) (entries_more F t op v) ∙ length-append (entries F t) (record { op = op; reply = v } ∷ []) in
          let h : length (entries (F ++ Done t op v ∷ []) t) ≤ given_entries (replay_at rs t).kept = omega (arith, q, done_given) in
          subst Q (sym e) h
      more_given u n (inr d) = let q : length (entries (F ++ Done t op v ∷ []) u) ≡ length (entries F u) = ap (λ (es : List Entry). length es) (entries_other F t op v u d) in omega (arith, q, k.given u n)
