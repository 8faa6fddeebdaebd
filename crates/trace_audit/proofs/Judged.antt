-- The verdict on a trace from what its parts were judged.
use Rattle.std.proofs.Common.{◌≡◌, ℕ, zero, suc, ◌+◌, ◌<◌, ◌≤◌, ◌⊎◌, inl, inr, List, [], ◌∷◌, ◌++◌, length, map, take, true, false, Option, Some, None, IfOk, IsSome, Result, Ok, Err, is_some, refl, sym, ◌∙◌, ap, subst, arith, get_or, length-append}
use Rattle.std.specs.List.{AllByRecursion}
use Rattle.std.proofs.lemmas.List.{get_or-replicate, get_or_at, get_or_default, length-replicate, take_all}
use Rattle.std.proofs.lemmas.Option.{none-some}
use Rattle.std.proofs.lemmas.Bool.{false≢true, true≢false, cases_lt}
use Rattle.session_values.specs.Limits.{max_callers}
use Rattle.session_values.specs.declared.kind.TableKind.{TableKind}
use Rattle.session_values.specs.declared.op.Op.{Op}
use Rattle.session_values.specs.declared.reply.Reply.{Reply}
use Rattle.session_values.specs.declared.value.Value.{Value}
use Rattle.session_values.specs.Dialogue.{Calls, Dialogue, Entry, Follows, rest}
use Rattle.session_values.specs.Tables.{Fits, Tables, kind_of}
use Rattle.session_values.proofs.Options.{some_none}
use Rattle.session_journal.proofs.Openings.{opening_kinds}
use Rattle.session_journal.specs.declared.event.Event.{Event}
use Rattle.session_journal.specs.Journal.{Replays, begun, by_ticket, done_operations, ended, entries}
use Rattle.session_journal.specs.Script.{IsScript, Meaning}
use Rattle.trace_audit.specs.declared.standing.Standing.{Standing}
use Rattle.session_journal.specs.declared.verdict.Verdict.{Verdict}
use Rattle.session_journal.specs.declared.verdict.Verdict.TheVariants.{Accepted as IsFine, Event as AtEvent, Ticket as AtTicket}
use Rattle.session_journal.specs.Accepted.{HaveEnded}
use Rattle.trace_audit.specs.Desk.{AreAnswered, AuditView, ReplayView, fresh, replay_at}
use Rattle.trace_audit.specs.Keeping.{KeepsAudit, KeepsReplay}
use Rattle.session_journal.specs.Traces.{HasKnownSymbol, max_events}
use Rattle.trace_audit.specs.Judging.{FindsOpen, FrontView, IsAgainst, IsFirst, IsFront, IsLatest, IsStanding, Judged, JudgesEvents, MayJudge, WasRun, WereRun, no_standing, opened, standing_at}
use Rattle.trace_audit.specs.Replaying.{AllFit, EntriesFit, TicketsFit, TicketsJudged, joined}
use Rattle.session_journal.specs.Verdicts.{IsVerdict, rule_of}
use Rattle.session_journal.proofs.Allowed.{only_begun}
use Rattle.session_journal.proofs.TraceSerial.{told}
use Rattle.trace_audit.proofs.Tickets.{joined_more}

-- ---- before any event
script_kinds : (m : Meaning) → IsScript m → map kind_of m.opening ≡ m.shape
script_kinds m s = ap (map kind_of) s.opening ∙ opening_kinds m.shape m.opened

opened_front : (m : Meaning) (J : List Event) (rs : List ReplayView) (n : ℕ) → WereRun m J rs → n ≡ m.requests → IsFront m rs [] (opened m.opening n)
opened_front m J rs n w is = record {
  allowed = tt;
  begun = refl;
  callers = length-replicate {A = Option ℕ} max_callers None;
  latest = λ c l. (let P : Option ℕ → Type 0 = λ o. IsLatest [] c o in subst P (sym (get_or-replicate {A = Option ℕ} max_callers c None None l)) (λ u e. none-some c e));
  count = length-replicate n no_standing ∙ is;
  each = λ t l. (let P : Standing → Type 0 = λ s. IsStanding [] t s in subst P (sym (get_or-replicate n t no_standing no_standing (omega (arith, l, is)))) (record { done = refl; delayed = refl; ended = refl }));
  given = λ t l. omega arith;
  tables = refl;
  kinds = script_kinds m w.script;
}

pub front_opened : (m : Meaning) (ts : Tables) (J : List Event) (rs : List ReplayView) (n : ℕ) (f : FrontView) → m.opening ≡ ts → WereRun m J rs → n ≡ length rs → f ≡ opened ts n → IsFront m rs [] f
front_opened m ts J rs n f opens w is made =
    let P : FrontView → Type 0 = λ g. IsFront m rs [] g in
    let Q : Tables → Type 0 = λ us. IsFront m rs [] (opened us n) in
    subst P (sym made) (subst Q opens (opened_front m J rs n w (is ∙ w.count)))

pub judging_starts : (ts : Tables) (J : List Event) (rs : List ReplayView) (n : ℕ) (f : FrontView) → MayJudge ts rs J → n ≡ length rs → f ≡ opened ts n → IsFirst rs J f
judging_starts ts J rs n f may is made = record { meaning = may.meaning; run = may.run; kept = front_opened may.meaning ts J rs n f may.opening may.run is made }

-- ---- the first event against a rule
pub event_verdict : (m : Meaning) (J : List Event) (at : ℕ) (e : Event) (rule : ℕ) → IsAgainst m J at → e ≡ get_or J at e → rule ≡ rule_of e → IsVerdict m J (AtEvent rule at)
event_verdict m J at e rule a is rule_is =
    let same : e ≡ a.event = is ∙ ap (λ (K : List Event). get_or K at e) a.is ∙ get_or_at a.front a.event a.back e at a.count in
    record { front = a.front; event = a.event; back = a.back; is = a.is; place = a.count; before = a.before; against = a.against; rule_is = ap rule_of (sym same) ∙ sym rule_is }

-- ---- a ticket that hasn't ended
ended_some : (o : Option Reply) → is_some o ≡ true → (r : Reply) × (o ≡ Some r)
ended_some None e = absurd (false≢true e)
ended_some (Some r) e = (r, refl)

ended_none : (o : Option Reply) → is_some o ≡ false → o ≡ None
ended_none None e = refl
ended_none (Some r) e = absurd (true≢false e)

has_ended : (m : Meaning) (rs : List ReplayView) (J : List Event) (f : FrontView) (t : ℕ) → IsFront m rs J f → t < m.requests → (standing_at f.standings t).ended ≡ true → (r : Reply) × (ended J t ≡ Some r)
has_ended m rs J f t k l e = ended_some (ended J t) (sym (k.each t l).ended ∙ e)

pub open_verdict : (m : Meaning) (rs : List ReplayView) (J : List Event) (f : FrontView) (t : ℕ) → IsFront m rs J f → FindsOpen f.standings (Some t) → IsVerdict m J (AtTicket 5 t)
open_verdict m rs J f t k o =
    let l : t < m.requests = omega (arith, o.0, k.count) in
    inl (
      refl,
      record {
        allowed = k.allowed;
        before = λ u s. has_ended m rs J f u k (omega (arith, s, l)) (o.2 u s);
        exists = l;
        open_still = ended_none (ended J t) (sym (k.each t l).ended ∙ o.1);
      },
    )

all_ended : (m : Meaning) (rs : List ReplayView) (J : List Event) (f : FrontView) → IsFront m rs J f → FindsOpen f.standings None → HaveEnded m.requests J
all_ended m rs J f k o t l = has_ended m rs J f t k l (o t (omega (arith, l, k.count)))

-- ---- the tickets one after another
joined_is : (m : Meaning) (J : List Event) (rs : List ReplayView) (t : ℕ) → WereRun m J rs → t ≤ m.requests → joined (take t rs) ≡ by_ticket t (done_operations J)
joined_is m J rs zero w l = refl
joined_is m J rs (suc t) w l =
    let less : t < m.requests = omega (arith, l) in
    let within : t < length rs = omega (arith, less, w.count) in
    let one : suc t ≡ t + 1 = omega arith in
    let at : replay_at rs t ≡ get_or rs t (replay_at rs t) = get_or_default rs t (fresh []) (replay_at rs t) within in
    ap (λ (n : ℕ). joined (take n rs)) one
    ∙ joined_more rs t (replay_at rs t) within at
    ∙ ap (λ (es : List Entry). es ++ (replay_at rs t).entries) (joined_is m J rs t w (omega (arith, less)))
    ∙ ap (λ (es : List Entry). by_ticket t (done_operations J) ++ es) (w.each t less).from_trace

pub tickets_verdict : (m : Meaning) (start : Tables) (rs : List ReplayView) (J : List Event) (f : FrontView) (v : Verdict) → m.opening ≡ start → WereRun m J rs → IsFront m rs J f → FindsOpen f.standings None → TicketsJudged start rs v → IsVerdict m J v
tickets_verdict m start rs J f v opens w k o judged = by v judged
  where
    to : (t : ℕ) (es : List Entry) → es ≡ by_ticket t (done_operations J) → Replays start es → Replays m.opening (by_ticket t (done_operations J))
    to t es is h = let P : List Entry → Type 0 = λ fs. Replays start fs in let Q : Tables → Type 0 = λ ts. Replays ts (by_ticket t (done_operations J)) in subst Q (sym opens) (subst P is h)

    back : (t : ℕ) (es : List Entry) → es ≡ by_ticket t (done_operations J) → Replays m.opening (by_ticket t (done_operations J)) → Replays start es
    back t es is h = let P : List Entry → Type 0 = λ fs. Replays start fs in let Q : Tables → Type 0 = λ ts. Replays ts (by_ticket t (done_operations J)) in subst P (sym is) (subst Q opens h)

    ends : HaveEnded m.requests J
    ends = all_ended m rs J f k o

    all_begun : begun J ≡ m.requests
    all_begun = go (cases_lt (begun J) m.requests)
      where
        go : (begun J < m.requests) ⊎ (m.requests ≤ begun J) → begun J ≡ m.requests
        go (inl l) = let e = ends (begun J) l in absurd (some_none e.0 (sym e.1 ∙ (only_begun m J k.allowed).ended (begun J) (omega arith)))
        go (inr l) = omega (arith, l, (told m J k.allowed).few)

    whole : joined rs ≡ by_ticket m.requests (done_operations J)
    whole = ap joined (sym (take_all m.requests rs (omega (arith, w.count)))) ∙ joined_is m J rs m.requests w (omega arith)

    by : (v : Verdict) → TicketsJudged start rs v → IsVerdict m J v
    by IsFine h = record {
      allowed = k.allowed;
      ended = ends;
      regrouped = (let P : ℕ → Type 0 = λ n. Replays m.opening (by_ticket n (done_operations J)) in subst P (sym all_begun) (to m.requests (joined rs) whole h));
    }
    by (AtEvent rule at) h = absurd h
    by (AtTicket rule t) h =
        let l : t < m.requests = omega (arith, h.1.0, w.count) in
        let one : t + 1 ≡ suc t = omega arith in
        inr (
          h.0,
          record {
            allowed = k.allowed;
            all_ended = ends;
            exists = l;
            before = to t (joined (take t rs)) (joined_is m J rs t w (omega (arith, l))) h.1.1;
            against = λ r. h.1.2 (back (suc t) (joined (take (t + 1) rs)) (ap (λ (n : ℕ). joined (take n rs)) one ∙ joined_is m J rs (suc t) w (omega (arith, l))) r);
          },
        )

-- ---- the entries fit
follows_fit : (shape : List TableKind) (f : Dialogue) (es : List Entry) → ((vs : List Value) (op : Op) → f vs ≡ Calls op → Fits shape op) → Follows f es → EntriesFit shape es
follows_fit shape f [] fits w = tt
follows_fit shape f (e ∷ es) fits w = ((fits [] e.op w.0).table, follows_fit shape (rest f (e.reply ∷ [])) es (λ vs op c. fits (e.reply ∷ vs) op c) w.1)

fit_all : (shape : List TableKind) (rs : List ReplayView) → ((t : ℕ) → t < length rs → EntriesFit shape (replay_at rs t).entries) → AllFit shape rs
fit_all shape [] h = tt
fit_all shape (x ∷ rs) h = (h 0 (omega arith), fit_all shape rs (λ t l. h (suc t) (omega (arith, l))))

pub tickets_fit : (m : Meaning) (ts : Tables) (rs : List ReplayView) (J : List Event) (f : FrontView) → m.opening ≡ ts → WereRun m J rs → IsFront m rs J f → TicketsFit (map kind_of ts) rs
tickets_fit m ts rs J f opens w k = record {
  fit = fit_all (map kind_of ts) rs (λ t l. one t (omega (arith, l, w.count)));
  few = omega (arith, w.count, w.script.few_requests);
}
  where
    kinds : m.shape ≡ map kind_of ts
    kinds = sym (script_kinds m w.script) ∙ ap (map kind_of) opens

    one : (t : ℕ) → t < m.requests → EntriesFit (map kind_of ts) (replay_at rs t).entries
    one t l =
        let P : List TableKind → Type 0 = λ ks. EntriesFit ks (entries J t) in
        let Q : List Entry → Type 0 = λ es. EntriesFit (map kind_of ts) es in
        subst Q (sym (w.each t l).from_trace) (subst P kinds (follows_fit m.shape (m.next t) (entries J t) (λ vs op c. w.script.fits t vs op c) ((told m J k.allowed).follows t)))

-- ---- as the code's branches know them
pub against_within : (m : Meaning) (J : List Event) (at : ℕ) → IsAgainst m J at → at < length J
against_within m J at a =
    let n : length J ≡ length a.front + length (a.event ∷ a.back) = ap (λ (K : List Event). length K) a.is ∙ length-append a.front (a.event ∷ a.back) in
    omega (arith, n, a.count)

pub against_from : (m : Meaning) (rs : List ReplayView) (J : List Event) (f g : FrontView) (o : Option ℕ) (at : ℕ) → JudgesEvents rs J f o g → o ≡ Some at → WereRun m J rs → IsFront m rs [] f → IsAgainst m J at
against_from m rs J f g o at h is w k = let P : Option ℕ → Type 0 = λ p. JudgesEvents rs J f p g in (subst P is h) m w k

pub all_from : (m : Meaning) (rs : List ReplayView) (J : List Event) (f g : FrontView) (o : Option ℕ) → JudgesEvents rs J f o g → o ≡ None → WereRun m J rs → IsFront m rs [] f → IsFront m rs J g
all_from m rs J f g o h is w k = let P : Option ℕ → Type 0 = λ p. JudgesEvents rs J f p g in (subst P is h) m w k

pub open_from : (ss : List Standing) (o p : Option ℕ) → o ≡ p → FindsOpen ss o → FindsOpen ss p
open_from ss o p is h = subst (FindsOpen ss) is h

pub whole_map : {E : Type 0} (ts : Tables) (rs : List ReplayView) (f : FrontView) (o : Option ℕ) (r : Result Verdict E) → FindsOpen f.standings o → o ≡ None → IfOk r (λ v. TicketsJudged ts rs v) → IfOk r (λ v. (m : Meaning) (J : List Event) → m.opening ≡ ts → WereRun m J rs → IsFront m rs J f → IsVerdict m J v)
whole_map ts rs f o (Ok v) found is h = λ m J opens w k. tickets_verdict m ts rs J f v opens w k (open_from f.standings o None is found) h
whole_map ts rs f o (Err e) found is h = h

pub trace_map : {E : Type 0} (ts : Tables) (rs : List ReplayView) (J : List Event) (f g : FrontView) (o : Option ℕ) (r : Result Verdict E) → f ≡ opened ts (length rs) → JudgesEvents rs J f o g → o ≡ None → IfOk r (λ v. (m : Meaning) (K : List Event) → m.opening ≡ ts → WereRun m K rs → IsFront m rs K g → IsVerdict m K v) → IfOk r (λ v. Judged ts rs J v)
trace_map ts rs J f g o (Ok v) made judges is h = λ m opens w. h m J opens w (all_from m rs J f g o judges is w (front_opened m ts J rs (length rs) f opens w refl made))
trace_map ts rs J f g o (Err e) made judges is h = h

-- ---- the desk, whose tickets have all answered
answered_run : (m : Meaning) (J : List Event) (t : ℕ) (x : ReplayView) (o : Option Reply) → x.answer ≡ o → IsSome o → KeepsReplay m J t x → WasRun m J t x
answered_run m J t x None is some k = absurd (not some)
  where
    not : IsSome {T = Reply} None → ⊥
    not e = cc
answered_run m J t x (Some r) is some k = record { reply = r; answer = is; from_trace = k.from_trace; run = k.run r is }

were_run : (m : Meaning) (J : List Event) (o : Option ℕ) (rs : List ReplayView) → KeepsAudit m J o rs → AreAnswered m.requests rs → AllByRecursion HasKnownSymbol J → length J ≤ max_events → WereRun m J rs
were_run m J o rs k all known few = record {
  script = k.script;
  count = k.count;
  each = λ t l. answered_run m J t (replay_at rs t) (replay_at rs t).answer refl (all t l) (k.each t l);
  known = known;
  few = few;
}

pub may_judge : {S : Type 0} (meaning : S → Meaning) (script : S) (J : List Event) (o : Option ℕ) (rs : List ReplayView) (d : AuditView S) (ts : Tables) → record { script = script; events = J; turn = o; tickets = rs } ≡ d → KeepsAudit (meaning script) J o rs → ts ≡ (meaning script).opening → AreAnswered (meaning d.script).requests d.tickets → AllByRecursion HasKnownSymbol J → length J ≤ max_events → MayJudge ts rs J
may_judge {S} meaning script J o rs d ts seen k opens answers known few =
    let P : AuditView S → Type 0 = λ e. AreAnswered (meaning e.script).requests e.tickets in
    let all : AreAnswered (meaning script).requests rs = subst P (sym seen) answers in
    record {
      meaning = meaning script;
      opening = sym opens;
      run = were_run (meaning script) J o rs k all known few;
    }

pub desk_map : {S E : Type 0} (meaning : S → Meaning) (script : S) (J : List Event) (o : Option ℕ) (rs : List ReplayView) (d : AuditView S) (ts : Tables) (r : Result Verdict E) → record { script = script; events = J; turn = o; tickets = rs } ≡ d → KeepsAudit (meaning script) J o rs → ts ≡ (meaning script).opening → AreAnswered (meaning d.script).requests d.tickets → AllByRecursion HasKnownSymbol J → length J ≤ max_events → IfOk r (λ v. Judged ts rs J v) → IfOk r (λ v. IsVerdict (meaning d.script) d.events v)
desk_map {S} {E} meaning script J o rs d ts (Err e) seen k opens answers known few h = h
desk_map {S} {E} meaning script J o rs d ts (Ok v) seen k opens answers known few h =
    let P : AuditView S → Type 0 = λ e. IsVerdict (meaning e.script) e.events v in
    let Q : AuditView S → Type 0 = λ e. AreAnswered (meaning e.script).requests e.tickets in
    subst P seen (h (meaning script) (sym opens) (were_run (meaning script) J o rs k (subst Q (sym seen) answers) known few))

-- the same of the slices that the code reads
pub slices_judge : {S : Type 0} (meaning : S → Meaning) (script : S) (J : List Event) (o : Option ℕ) (rs : List ReplayView) (d : AuditView S) (ts : Tables) (K : List Event) (ss : List ReplayView) → record { script = script; events = J; turn = o; tickets = rs } ≡ d → KeepsAudit (meaning script) J o rs → ts ≡ (meaning script).opening → AreAnswered (meaning d.script).requests d.tickets → K ≡ J → ss ≡ rs → AllByRecursion HasKnownSymbol K → length K ≤ max_events → MayJudge ts ss K
slices_judge {S} meaning script J o rs d ts K ss seen k opens answers events_are replays_are known few =
    let A : List Event → Type 0 = λ I. AllByRecursion HasKnownSymbol I in
    let B : List Event → Type 0 = λ I. length I ≤ max_events in
    let P : List Event → Type 0 = λ I. MayJudge ts rs I in
    let Q : List ReplayView → Type 0 = λ ys. MayJudge ts ys K in
    subst Q (sym replays_are) (subst P (sym events_are) (may_judge meaning script J o rs d ts seen k opens answers (subst A events_are known) (subst B events_are few)))

pub slices_map : {S E : Type 0} (meaning : S → Meaning) (script : S) (J : List Event) (o : Option ℕ) (rs : List ReplayView) (d : AuditView S) (ts : Tables) (r : Result Verdict E) (K : List Event) (ss : List ReplayView) → record { script = script; events = J; turn = o; tickets = rs } ≡ d → KeepsAudit (meaning script) J o rs → ts ≡ (meaning script).opening → AreAnswered (meaning d.script).requests d.tickets → K ≡ J → ss ≡ rs → AllByRecursion HasKnownSymbol K → length K ≤ max_events → IfOk r (λ v. Judged ts ss K v) → IfOk r (λ v. IsVerdict (meaning d.script) d.events v)
slices_map {S} {E} meaning script J o rs d ts r K ss seen k opens answers events_are replays_are known few h =
    let A : List Event → Type 0 = λ I. AllByRecursion HasKnownSymbol I in
    let B : List Event → Type 0 = λ I. length I ≤ max_events in
    let P : List Event → Type 0 = λ I. IfOk r (λ v. Judged ts ss I v) in
    let Q : List ReplayView → Type 0 = λ ys. IfOk r (λ v. Judged ts ys J v) in
    desk_map meaning script J o rs d ts r seen k opens answers (subst A events_are known) (subst B events_are few) (subst Q replays_are (subst P events_are h))
