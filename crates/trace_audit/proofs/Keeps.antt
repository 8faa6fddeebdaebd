-- What an audit's desk keeps stands through its calls.
use Rattle.std.proofs.Common.{◌≡◌, ◌≢◌, ℕ, ◌<◌, ◌⊎◌, inl, inr, List, [], length, Option, Some, None, refl, sym, ◌∙◌, ap, subst, arith, get_or}
use Rattle.std.specs.Prelude.{slice_set}
use Rattle.std.proofs.lemmas.List.{get_or-set_same, get_or-set_other, get_or_default, length-set}
use Rattle.std.proofs.lemmas.Option.{none-some, same_Some}
use Rattle.std.proofs.lemmas.Bool.{cases_eq}
use Rattle.session_values.specs.declared.op.Op.{Op}
use Rattle.session_values.specs.declared.reply.Reply.{Reply}
use Rattle.session_values.specs.declared.value.Value.{Value}
use Rattle.session_values.specs.Dialogue.{Entry}
use Rattle.session_journal.specs.declared.event.Event.{Event}
use Rattle.session_journal.specs.Journal.{entries}
use Rattle.session_journal.specs.Script.{IsScript, Meaning}
use Rattle.trace_audit.specs.Desk.{Answering, AreGathered, AuditStep, AuditView, IsAnswered, IsRun, IsTurnAnswered, Kept, MayAnswer, ReplayView, TurnAnswers, fresh, replay_at, tickets_answered, with_answer}
use Rattle.trace_audit.specs.Keeping.{KeepsAudit, KeepsReplay}

-- a gathered desk
pub keeps_gathered : (m : Meaning) (J : List Event) (rs : List ReplayView) → IsScript m → AreGathered m.requests J rs → KeepsAudit m J None rs
keeps_gathered m J rs script g = record {
  script = script;
  count = g.count;
  each = λ t l. record {
    from_trace = ap (λ (x : ReplayView). x.entries) (g.each t l);
    run = λ r e. absurd (none-some r (sym (ap (λ (x : ReplayView). x.answer) (g.each t l)) ∙ e));
  };
  set = λ t e. absurd (none-some t e);
}

-- another ticket is set
pub keeps_turn : (m : Meaning) (J : List Event) (o : Option ℕ) (rs : List ReplayView) (t : ℕ) (es : List Entry) → KeepsAudit m J o rs → t < m.requests → replay_at rs t ≡ fresh es → KeepsAudit m J (Some t) rs
keeps_turn m J o rs t es k l f = record {
  script = k.script;
  count = k.count;
  each = k.each;
  set = λ u e. (let P : ℕ → Type 0 = λ j. (j < m.requests) × ((replay_at rs j).answer ≡ None) in subst P (same_Some t u e) (l, ap (λ (x : ReplayView). x.answer) f));
}

-- one ticket's replay is another one
keeps_set : (m : Meaning) (J : List Event) (n : ℕ) (rs : List ReplayView) (t : ℕ) (y : ReplayView) → length rs ≡ n → t < n → KeepsReplay m J t y → ((u : ℕ) → u < n → KeepsReplay m J u (replay_at rs u)) → (u : ℕ) → u < n → KeepsReplay m J u (replay_at (slice_set rs t y) u)
keeps_set m J n rs t y c l h each u m' = by (cases_eq u t)
  where
    by : (u ≡ t) ⊎ (u ≢ t) → KeepsReplay m J u (replay_at (slice_set rs t y) u)
    by (inl e) =
        let Q : ℕ → Type 0 = λ j. KeepsReplay m J j (replay_at (slice_set rs t y) j) in
        let P : ReplayView → Type 0 = λ x. KeepsReplay m J t x in
        subst Q (sym e) (subst P (sym (get_or-set_same rs t y (fresh []) (omega (arith, l, c)))) h)
    by (inr d) =
        let P : ReplayView → Type 0 = λ x. KeepsReplay m J u x in
        subst P (sym (get_or-set_other rs t u y (fresh []) d)) (each u m')

-- the ticket that is set, read by its place
pub read_is : (rs : List ReplayView) (t : ℕ) (x : ReplayView) → t < length rs → x ≡ get_or rs t x → x ≡ replay_at rs t
read_is rs t x l e = e ∙ get_or_default rs t x (fresh []) l

-- it answers a call
pub keeps_answer : (m : Meaning) (J : List Event) (o : Option ℕ) (rs : List ReplayView) (t : ℕ) (x y : ReplayView) → o ≡ Some t → x ≡ get_or rs t x → y.entries ≡ x.entries → y.answer ≡ x.answer → KeepsAudit m J o rs → KeepsAudit m J o (slice_set rs t y)
keeps_answer m J o rs t x y is read es an k =
    let s : (t < m.requests) × ((replay_at rs t).answer ≡ None) = k.set t is in
    let at : x ≡ replay_at rs t = read_is rs t x (omega (arith, s.0, k.count)) read in
    let none : y.answer ≡ None = an ∙ ap (λ (z : ReplayView). z.answer) at ∙ s.1 in
    record {
      script = k.script;
      count = length-set rs t y ∙ k.count;
      each = keeps_set m J m.requests rs t y k.count s.0 (record {
        from_trace = es ∙ ap (λ (z : ReplayView). z.entries) at ∙ (k.each t s.0).from_trace;
        run = λ r e. absurd (none-some r (sym none ∙ e));
      }) k.each;
      set = λ u e. (let q : t ≡ u = same_Some t u (sym is ∙ e) in let P : ℕ → Type 0 = λ j. (j < m.requests) × ((replay_at (slice_set rs t y) j).answer ≡ None) in subst P q (s.0, ap (λ (z : ReplayView). z.answer) (get_or-set_same rs t y (fresh []) (omega (arith, s.0, k.count))) ∙ none));
    }

-- its answer is kept
pub keeps_answered : {S : Type 0} (m : Meaning) (d : AuditView S) (t : ℕ) (x y : ReplayView) (r : Reply) → d.turn ≡ Some t → x ≡ get_or d.tickets t x → y ≡ with_answer x r → MayAnswer m d r → KeepsAudit m d.events d.turn d.tickets → KeepsAudit m d.events None (slice_set d.tickets t y)
keeps_answered m d t x y r is read made may k =
    let s : (t < m.requests) × ((replay_at d.tickets t).answer ≡ None) = k.set t is in
    let at : x ≡ replay_at d.tickets t = read_is d.tickets t x (omega (arith, s.0, k.count)) read in
    let same : may.ticket ≡ t = same_Some may.ticket t (sym may.set ∙ is) in
    let R : ℕ → Type 0 = λ j. IsRun (m.next j) (entries d.events j) (replay_at d.tickets j).kept r in
    let run : IsRun (m.next t) (entries d.events t) (replay_at d.tickets t).kept r = subst R same may.run in
    let kept : (replay_at d.tickets t).kept ≡ y.kept = ap (λ (z : ReplayView). z.kept) (sym at) ∙ ap (λ (z : ReplayView). z.kept) (sym made) in
    let T : Reply → Type 0 = λ q. IsRun (m.next t) (entries d.events t) y.kept q in
    record {
      script = k.script;
      count = length-set d.tickets t y ∙ k.count;
      each = keeps_set m d.events m.requests d.tickets t y k.count s.0 (record {
        from_trace = ap (λ (z : ReplayView). z.entries) made ∙ ap (λ (z : ReplayView). z.entries) at ∙ (k.each t s.0).from_trace;
        run = λ q e. subst T (same_Some r q (sym (ap (λ (z : ReplayView). z.answer) made) ∙ e)) (with_kept kept run);
      }) k.each;
      set = λ u e. absurd (none-some u e);
    }
  where
    with_kept : (replay_at d.tickets t).kept ≡ y.kept → IsRun (m.next t) (entries d.events t) (replay_at d.tickets t).kept r → IsRun (m.next t) (entries d.events t) y.kept r
    with_kept e h = (let P : Kept → Type 0 = λ q. IsRun (m.next t) (entries d.events t) q r in subst P e h)

-- ---- what the calls leave, as contracts see it
pub shown_answer : {S : Type 0} (m : Meaning) (d : AuditView S) (t : ℕ) (op : Op) (v : Value) (x y : ReplayView) → d.turn ≡ Some t → x ≡ get_or d.tickets t x → y.entries ≡ x.entries → IsAnswered x.entries x.kept op v y.kept → y.answer ≡ x.answer → KeepsAudit m d.events d.turn d.tickets → AuditStep d op v (record { script = d.script; events = d.events; turn = d.turn; tickets = slice_set d.tickets t y })
shown_answer m d t op v x y is read es kept an k =
    let s : (t < m.requests) × ((replay_at d.tickets t).answer ≡ None) = k.set t is in
    let within : t < length d.tickets = omega (arith, s.0, k.count) in
    let at : x ≡ replay_at d.tickets t = read_is d.tickets t x within read in
    let one : Answering x op v y = record { entries = es; kept = kept; answer = an } in
    record { script = refl; events = refl; turn = refl; tickets = turned d.turn is (record { exists = within; replay = y; answering = (let P : ReplayView → Type 0 = λ z. Answering z op v y in subst P at one); after = refl }) }
  where
    turned : (o : Option ℕ) → o ≡ Some t → TurnAnswers d.tickets t op v (slice_set d.tickets t y) → IsTurnAnswered d.tickets o op v (slice_set d.tickets t y)
    turned o e a = (let P : Option ℕ → Type 0 = λ p. IsTurnAnswered d.tickets p op v (slice_set d.tickets t y) in subst P (sym e) a)

-- ---- the same of the fields
abbrev view_of : {S : Type 0} → S → List Event → Option ℕ → List ReplayView → AuditView S
view_of script J o rs = record { script = script; events = J; turn = o; tickets = rs }

pub field_answer : {S : Type 0} (m : Meaning) (script : S) (J : List Event) (o : Option ℕ) (rs : List ReplayView) (d : AuditView S) (t : ℕ) (op : Op) (v : Value) (x y : ReplayView) → view_of script J o rs ≡ d → o ≡ Some t → x ≡ get_or rs t x → y.entries ≡ x.entries → IsAnswered x.entries x.kept op v y.kept → y.answer ≡ x.answer → KeepsAudit m J o rs → AuditStep d op v (view_of script J o (slice_set rs t y))
field_answer {S} m script J o rs d t op v x y seen is read es kept an k =
    let P : AuditView S → Type 0 = λ e. AuditStep e op v (view_of script J o (slice_set rs t y)) in
    subst P seen (shown_answer m (view_of script J o rs) t op v x y is read es kept an k)

pub field_keeps : {S : Type 0} (meaning : S → Meaning) (script : S) (J : List Event) (o : Option ℕ) (rs : List ReplayView) (d : AuditView S) (t : ℕ) (x y : ReplayView) (r : Reply) → view_of script J o rs ≡ d → o ≡ Some t → x ≡ get_or rs t x → y ≡ with_answer x r → MayAnswer (meaning d.script) d r → KeepsAudit (meaning script) J o rs → KeepsAudit (meaning script) J None (slice_set rs t y)
field_keeps {S} meaning script J o rs d t x y r seen is read made may k =
    let P : AuditView S → Type 0 = λ e. MayAnswer (meaning e.script) e r in
    keeps_answered (meaning script) (view_of script J o rs) t x y r is read made (subst P (sym seen) may) k

pub field_answered : {S : Type 0} (m : Meaning) (script : S) (J : List Event) (o : Option ℕ) (rs : List ReplayView) (d : AuditView S) (t : ℕ) (x y : ReplayView) (r : Reply) → view_of script J o rs ≡ d → o ≡ Some t → x ≡ get_or rs t x → y ≡ with_answer x r → KeepsAudit m J o rs → view_of script J None (slice_set rs t y) ≡ view_of d.script d.events None (tickets_answered d.tickets d.turn r)
field_answered {S} m script J o rs d t x y r seen is read made k =
    let s : (t < m.requests) × ((replay_at rs t).answer ≡ None) = k.set t is in
    let at : x ≡ replay_at rs t = read_is rs t x (omega (arith, s.0, k.count)) read in
    ap (λ (z : ReplayView). view_of script J None (slice_set rs t z)) (made ∙ ap (λ (z : ReplayView). with_answer z r) at)
    ∙ ap (λ (p : Option ℕ). view_of script J None (tickets_answered rs p r)) (sym is)
    ∙ ap (λ (e : AuditView S). view_of e.script e.events None (tickets_answered e.tickets e.turn r)) seen
