-- What is judged of a list of events can be found out: each has a verdict.
use Rattle.std.proofs.Common.{◌≡◌, ℕ, zero, suc, ◌<◌, ◌≤◌, ◌⊎◌, inl, inr, Bool, true, false, List, [], ◌∷◌, ◌++◌, length, Option, Some, None, IsSome, Decides, refl, sym, ◌∙◌, ap, subst, append_assoc, append-nil, arith}
use Rattle.std.specs.List.{AllByRecursion}
use Rattle.std.proofs.lemmas.Bool.{cases_eq, cases_lt, false≢true}
use Rattle.std.proofs.lemmas.Option.{none-some, same_Some}
use Rattle.session_values.specs.declared.value.Value.{Value}
use Rattle.session_values.specs.declared.kind.Kind.{Kind}
use Rattle.session_values.specs.declared.op.Op.{Op}
use Rattle.session_values.specs.declared.reply.Reply.{Reply}
use Rattle.session_values.specs.Dialogue.{Next, Calls, Answers, Entry}
use Rattle.session_values.specs.Kinds.{kind_place}
use Rattle.session_values.specs.Tables.{Tables, reply, step}
use Rattle.session_values.specs.Values.{value_eq}
use Rattle.session_values.proofs.Equal.{same_value, not_same}
use Rattle.session_values.proofs.KindLemmas.{one_place}
use Rattle.session_values.specs.Limits.{max_callers}
use Rattle.symbolic_ops.specs.declared.symbol.Symbol.{Symbol}
use Rattle.symbolic_ops.specs.Commuting.{CommutesWith}
use Rattle.commute_tables.specs.Relation.{commutes_symbol}
use Rattle.commute_tables.proofs.AgainstSymbols.{Decides-commute_symbol}
use Rattle.session_journal.specs.declared.event.Event.{Event}
use Rattle.session_journal.specs.declared.event.Event.TheVariants.{Begin, Done, Delay, End}
use Rattle.session_journal.specs.EventsInTurn.{IsOpen, MayBegin, MayBeDone, MayEnd, is_delayed, now}
use Rattle.session_journal.specs.Journal.{DoneOperation, Replays, after, begun, by_ticket, done_operations, ended, owner}
use Rattle.session_journal.specs.Script.{Meaning}
use Rattle.session_journal.proofs.Events.{other_test}
use Rattle.session_journal.specs.declared.verdict.Verdict.{Verdict}
use Rattle.session_journal.specs.declared.verdict.Verdict.TheVariants.{Accepted as IsFine, Event as AtEvent, Ticket as AtTicket}
use Rattle.session_journal.specs.Accepted.{AreAllowed, HaveEnded, IsAllowed, IsDelayAllowed}
use Rattle.session_journal.specs.Verdicts.{FirstAgainst, IsVerdict, rule_of}
use Rattle.session_journal.proofs.TraceSerial.{told}
use Rattle.trace_audit.specs.Deciding.{CanBeJudged}
use Rattle.trace_audit.proofs.Fronts.{allowed_push}

-- so or not so
abbrev Known : Type 0 → Type 0
Known P = P ⊎ (P → ⊥)

both : {P Q : Type 0} → Known P → Known Q → Known (P × Q)
both (inl p) (inl q) = inl (p, q)
both (inl p) (inr q) = inr (λ h. q h.1)
both (inr p) k = inr (λ h. p h.0)

three : {P Q R : Type 0} → Known P → Known Q → Known R → Known (P × Q × R)
three (inl p) (inl q) (inl r) = inl (p, q, r)
three (inr n) q r = inr (λ h. n h.0)
three (inl p) (inr n) r = inr (λ h. n h.1)
three (inl p) (inl q) (inr n) = inr (λ h. n h.2)

four : {P Q R S : Type 0} → Known P → Known Q → Known R → Known S → Known (P × Q × R × S)
four (inl p) (inl q) (inl r) (inl s) = inl (p, q, r, s)
four (inr n) q r s = inr (λ h. n h.0)
four (inl p) (inr n) r s = inr (λ h. n h.1)
four (inl p) (inl q) (inr n) s = inr (λ h. n h.2)
four (inl p) (inl q) (inl r) (inr n) = inr (λ h. n h.3)

five : {P Q R S T : Type 0} → Known P → Known Q → Known R → Known S → Known T → Known (P × Q × R × S × T)
five (inl p) (inl q) (inl r) (inl s) (inl t) = inl (p, q, r, s, t)
five (inr n) q r s t = inr (λ h. n h.0)
five (inl p) (inr n) r s t = inr (λ h. n h.1)
five (inl p) (inl q) (inr n) s t = inr (λ h. n h.2)
five (inl p) (inl q) (inl r) (inr n) t = inr (λ h. n h.3)
five (inl p) (inl q) (inl r) (inl s) (inr n) = inr (λ h. n h.4)

-- ---- values, operations, replies
value_known : (v w : Value) → Known (v ≡ w)
value_known v w = by (value_eq v w) refl where
  by : (b : Bool) → value_eq v w ≡ b → Known (v ≡ w)
  by true e = inl (same_value v w e)
  by false e = inr (not_same v w e)

kind_known : (a b : Kind) → Known (a ≡ b)
kind_known a b = by (cases_eq (kind_place a) (kind_place b)) where
  by : (kind_place a ≡ kind_place b) ⊎ (kind_place a ≡ kind_place b → ⊥) → Known (a ≡ b)
  by (inl e) = inl (one_place a b e)
  by (inr n) = inr (λ e. n (ap kind_place e))

op_known : (a b : Op) → Known (a ≡ b)
op_known a b = by (four (kind_known a.kind b.kind) (cases_eq a.table b.table) (value_known a.key b.key) (value_known a.value b.value)) where
  by : Known ((a.kind ≡ b.kind) × (a.table ≡ b.table) × (a.key ≡ b.key) × (a.value ≡ b.value)) → Known (a ≡ b)
  by (inl e) = inl (λ i. record { kind = e.0 i; table = e.1 i; key = e.2 i; value = e.3 i })
  by (inr n) = inr (λ e. n (ap (λ (o : Op). o.kind) e, ap (λ (o : Op). o.table) e, ap (λ (o : Op). o.key) e, ap (λ (o : Op). o.value) e))

reply_known : (a b : Reply) → Known (a ≡ b)
reply_known a b = by (five (cases_eq a.count b.count) (value_known a.a b.a) (value_known a.b b.b) (value_known a.c b.c) (value_known a.d b.d)) where
  by : Known ((a.count ≡ b.count) × (a.a ≡ b.a) × (a.b ≡ b.b) × (a.c ≡ b.c) × (a.d ≡ b.d)) → Known (a ≡ b)
  by (inl e) = inl (λ i. record { count = e.0 i; a = e.1 i; b = e.2 i; c = e.3 i; d = e.4 i })
  by (inr n) = inr (λ e. n (ap (λ (r : Reply). r.count) e, ap (λ (r : Reply). r.a) e, ap (λ (r : Reply). r.b) e, ap (λ (r : Reply). r.c) e, ap (λ (r : Reply). r.d) e))

abbrev called : Next → Op → Op
called (Calls op) other = op
called (Answers r) other = other

abbrev told_reply : Next → Reply → Reply
told_reply (Calls op) other = other
told_reply (Answers r) other = r

calls_known : (n : Next) (op : Op) → Known (n ≡ Calls op)
calls_known (Calls a) op = by (op_known a op) where
  by : Known (a ≡ op) → Known (Calls a ≡ Calls op)
  by (inl e) = inl (ap (λ o. Calls o) e)
  by (inr n) = inr (λ e. n (ap (λ x. called x op) e))
calls_known (Answers r) op = inr (λ e. cc)

answers_known : (n : Next) (r : Reply) → Known (n ≡ Answers r)
answers_known (Answers a) r = by (reply_known a r) where
  by : Known (a ≡ r) → Known (Answers a ≡ Answers r)
  by (inl e) = inl (ap (λ o. Answers o) e)
  by (inr n) = inr (λ e. n (ap (λ x. told_reply x r) e))
answers_known (Calls op) r = inr (λ e. cc)

below_known : (a b : ℕ) → Known (a < b)
below_known a b = by (cases_lt a b) where
  by : (a < b) ⊎ (b ≤ a) → Known (a < b)
  by (inl l) = inl l
  by (inr g) = inr (λ l. omega (arith, l, g))

none_known : {X : Type 0} (o : Option X) → Known (o ≡ None)
none_known None = inl refl
none_known (Some x) = inr (λ e. none-some x (sym e))

some_known : {X : Type 0} (o : Option X) → Known (IsSome o)
some_known None = inr (λ h. cc)
some_known (Some x) = inl refl

number_known : (o : Option ℕ) (c : ℕ) → Known (o ≡ Some c)
number_known None c = inr (none-some c)
number_known (Some d) c = by (cases_eq d c) where
  by : (d ≡ c) ⊎ (d ≡ c → ⊥) → Known (◌≡◌ {A = Option ℕ} (Some d) (Some c))
  by (inl e) = inl (ap (λ x. Some x) e)
  by (inr n) = inr (λ e. n (same_Some d c e))

-- ---- the four rules
open_known : (J : List Event) (t : ℕ) → Known (IsOpen J t)
open_known J t = by (both (below_known t (begun J)) (none_known (ended J t))) where
  by : Known ((t < begun J) × (ended J t ≡ None)) → Known (IsOpen J t)
  by (inl h) = inl (record { begun = h.0; not_ended = h.1 })
  by (inr n) = inr (λ h. n (h.begun, h.not_ended))

-- a ticket of the list begins by this caller
HasBegun : ℕ → ℕ → List Event → Type 0
HasBegun u c [] = ⊥
HasBegun u c (Begin t d ∷ K) = (t ≡ u) ⊎ HasBegun u c K
HasBegun u c (_ ∷ K) = HasBegun u c K

skip : (t d : ℕ) (K : List Event) (u : ℕ) → (t ≡ u → ⊥) → owner (Begin t d ∷ K) u ≡ owner K u
skip t d K u n = ap (λ (v : Option ℕ). elim v as (λ _. Option ℕ) [ Some y ↦ Some y | None ↦ owner K u ]) (other_test t u d (λ e. n (sym e)))

begun_or : (t d : ℕ) (K : List Event) (u c : ℕ) → owner (Begin t d ∷ K) u ≡ Some c → (owner K u ≡ Some c → HasBegun u c K) → (t ≡ u) ⊎ (t ≡ u → ⊥) → (t ≡ u) ⊎ HasBegun u c K
begun_or t d K u c e more (inl s) = inl s
begun_or t d K u c e more (inr n) = inr (more (sym (skip t d K u n) ∙ e))

owned_begun : (J : List Event) (u c : ℕ) → owner J u ≡ Some c → HasBegun u c J
unfolding HasBegun
owned_begun [] u c e = absurd (none-some c e)
owned_begun (Begin t d ∷ K) u c e = begun_or t d K u c e (owned_begun K u c) (cases_eq t u)
owned_begun (Done t op v ∷ K) u c e = owned_begun K u c e
owned_begun (Delay t op older s ∷ K) u c e = owned_begun K u c e
owned_begun (End t r ∷ K) u c e = owned_begun K u c e

-- the tickets of this caller that begin in the list, and are its own in the journal, have ended
AllLeft : List Event → ℕ → List Event → Type 0
AllLeft J c K = (u : ℕ) → HasBegun u c K → owner J u ≡ Some c → IsSome (ended J u)

left_known : (J : List Event) (c : ℕ) (K : List Event) → Known (AllLeft J c K)
unfolding AllLeft HasBegun
left_known J c [] = inl (λ u h. absurd h)
left_known J c (Begin t d ∷ K) = by (number_known (owner J t) c) (some_known (ended J t)) (left_known J c K) where
  first_of : (owner J t ≡ Some c → IsSome (ended J t)) → AllLeft J c K → (u : ℕ) → (t ≡ u) ⊎ HasBegun u c K → owner J u ≡ Some c → IsSome (ended J u)
  first_of one more u (inl e) o = subst (λ (j : ℕ). owner J j ≡ Some c → IsSome (ended J j)) e one o
  first_of one more u (inr h) o = more u h o

  by : Known (owner J t ≡ Some c) → Known (IsSome (ended J t)) → Known (AllLeft J c K) → Known (AllLeft J c (Begin t d ∷ K))
  by owns gone (inr n) = inr (λ h. n (λ u b. h u (inr b)))
  by (inl o) (inr g) (inl more) = inr (λ h. g (h t (inl refl) o))
  by (inl o) (inl g) (inl more) = inl (first_of (λ _. g) more)
  by (inr n) gone (inl more) = inl (first_of (λ o. absurd (n o)) more)
left_known J c (Done t op v ∷ K) = left_known J c K
left_known J c (Delay t op older s ∷ K) = left_known J c K
left_known J c (End t r ∷ K) = left_known J c K

begin_known : (m : Meaning) (J : List Event) (t c : ℕ) → Known (MayBegin m max_callers J t c)
unfolding AllLeft
begin_known m J t c = by (four (cases_eq t (begun J)) (below_known t m.requests) (below_known c max_callers) (left_known J c J)) where
  by : Known ((t ≡ begun J) × (t < m.requests) × (c < max_callers) × AllLeft J c J) → Known (MayBegin m max_callers J t c)
  by (inl h) = inl (record { next = h.0; left = h.1; caller = h.2; others = λ u o. h.3 u (owned_begun J u c o) o })
  by (inr n) = inr (λ h. n (h.next, h.left, h.caller, λ u b o. h.others u o))

done_known : (m : Meaning) (J : List Event) (t : ℕ) (op : Op) (v : Value) → Known (MayBeDone m J t op × (reply (after m.opening J) op ≡ v))
done_known m J t op v = by (three (open_known J t) (calls_known (now m J t) op) (value_known (reply (after m.opening J) op) v)) where
  by : Known (IsOpen J t × (now m J t ≡ Calls op) × (reply (after m.opening J) op ≡ v)) → Known (MayBeDone m J t op × (reply (after m.opening J) op ≡ v))
  by (inl h) = inl (record { is_open = h.0; calls = h.1 }, h.2)
  by (inr n) = inr (λ h. n (h.0.is_open, h.0.calls, h.1))

commutes_known : (t : ℕ) (op : Op) (older : ℕ) (s : Symbol) → CanBeJudged (Delay t op older s) → Known (CommutesWith op s → ⊥)
commutes_known t op older s can = by (commutes_symbol op s) (Decides-commute_symbol op s (commutes_symbol op s) can.0 can.1 can.2 refl) where
  by : (r : Bool) → Decides r (CommutesWith op s) → Known (CommutesWith op s → ⊥)
  by true d = inr (λ h. h (d.0 refl))
  by false d = inl (λ k. false≢true (d.1 k))

false_known : (b : Bool) → Known (b ≡ false)
false_known false = inl refl
false_known true = inr (λ e. false≢true (sym e))

delay_known : (m : Meaning) (J : List Event) (t : ℕ) (op : Op) (older : ℕ) (s : Symbol) → CanBeJudged (Delay t op older s) → Known (IsDelayAllowed m J t op older s)
delay_known m J t op older s can = by (five (open_known J t) (calls_known (now m J t) op) (below_known older t) (commutes_known t op older s can) (false_known (is_delayed J t))) where
  by : Known (IsOpen J t × (now m J t ≡ Calls op) × (older < t) × (CommutesWith op s → ⊥) × (is_delayed J t ≡ false)) → Known (IsDelayAllowed m J t op older s)
  by (inl h) = inl (record { is_open = h.0; calls = h.1; is_older = h.2; symbol = h.3; once = h.4 })
  by (inr n) = inr (λ h. n (h.is_open, h.calls, h.is_older, h.symbol, h.once))

end_known : (m : Meaning) (J : List Event) (t : ℕ) (r : Reply) → Known (MayEnd m J t r)
end_known m J t r = by (both (open_known J t) (answers_known (now m J t) r)) where
  by : Known (IsOpen J t × (now m J t ≡ Answers r)) → Known (MayEnd m J t r)
  by (inl h) = inl (record { is_open = h.0; answers = h.1 })
  by (inr n) = inr (λ h. n (h.is_open, h.answers))

allowed_known : (m : Meaning) (J : List Event) (e : Event) → CanBeJudged e → Known (IsAllowed m J e)
allowed_known m J (Begin t c) can = begin_known m J t c
allowed_known m J (Done t op v) can = done_known m J t op v
allowed_known m J (Delay t op older s) can = delay_known m J t op older s can
allowed_known m J (End t r) can = end_known m J t r

-- ---- the first event against a rule, the first ticket without an end, the first that doesn't replay
module _ (m : Meaning) where
  Against : List Event → Type 0
  Against J = AreAllowed m [] J ⊎ ((rule : ℕ) × (at : ℕ) × FirstAgainst m J rule at)

  next_against : (front : List Event) (e : Event) (back : List Event) → AreAllowed m [] front → (IsAllowed m front e → Against ((front ++ e ∷ []) ++ back)) → Known (IsAllowed m front e) → Against (front ++ e ∷ back)
  unfolding Against
  next_against front e back so_far more (inl may) = subst Against (append_assoc front (e ∷ []) back) (more may)
  next_against front e back so_far more (inr n) = inr (rule_of e, length front, record { front = front; event = e; back = back; is = refl; place = refl; before = so_far; against = n; rule_is = refl })

  first_against : (front back : List Event) → AllByRecursion CanBeJudged back → AreAllowed m [] front → Against (front ++ back)
  unfolding Against
  first_against front [] can so_far = inl (subst (λ (J : List Event). AreAllowed m [] J) (sym (append-nil front)) so_far)
  first_against front (e ∷ back) can so_far = next_against front e back so_far (λ may. first_against (front ++ e ∷ []) back can.1 (allowed_push m [] front e so_far may)) (allowed_known m front e can.0)

  module _ (J : List Event) where
    first_open : (n : ℕ) → HaveEnded n J ⊎ ((t : ℕ) × (t < n) × HaveEnded t J × (ended J t ≡ None))
    first_open zero = inl (λ t l. absurd (omega (arith, l)))
    first_open (suc n) = by (first_open n) where
      last : HaveEnded n J → (o : Option Reply) → ended J n ≡ o → HaveEnded (suc n) J ⊎ ((t : ℕ) × (t < suc n) × HaveEnded t J × (ended J t ≡ None))
      last before None e = inr (n, omega (arith), before, e)
      last before (Some r) e = inl (λ t l. elim (cases_lt t n) [
        | inl k ↦ before t k
        | inr k ↦ let is : n ≡ t = omega (arith, l, k) in (r, subst (λ (j : ℕ). ended J j ≡ Some r) is e)
      ])

      by : HaveEnded n J ⊎ ((t : ℕ) × (t < n) × HaveEnded t J × (ended J t ≡ None)) → HaveEnded (suc n) J ⊎ ((t : ℕ) × (t < suc n) × HaveEnded t J × (ended J t ≡ None))
      by (inl before) = last before (ended J n) refl
      by (inr f) = inr (f.0, omega (arith, f.1), f.2, f.3)

  replays_known : (ts : Tables) (es : List Entry) → Known (Replays ts es)
  replays_known ts [] = inl tt
  replays_known ts (e ∷ es) = both (value_known (reply ts e.op) e.reply) (replays_known (step ts e.op) es)

  first_astray : (ts : Tables) (ds : List DoneOperation) (n : ℕ) → Replays ts (by_ticket n ds) ⊎ ((t : ℕ) × (t < n) × Replays ts (by_ticket t ds) × (Replays ts (by_ticket (suc t) ds) → ⊥))
  first_astray ts ds zero = inl tt
  first_astray ts ds (suc n) = by (first_astray ts ds n) where
    last : Replays ts (by_ticket n ds) → Known (Replays ts (by_ticket (suc n) ds)) → Replays ts (by_ticket (suc n) ds) ⊎ ((t : ℕ) × (t < suc n) × Replays ts (by_ticket t ds) × (Replays ts (by_ticket (suc t) ds) → ⊥))
    last before (inl r) = inl r
    last before (inr k) = inr (n, omega (arith), before, k)

    by : Replays ts (by_ticket n ds) ⊎ ((t : ℕ) × (t < n) × Replays ts (by_ticket t ds) × (Replays ts (by_ticket (suc t) ds) → ⊥)) → Replays ts (by_ticket (suc n) ds) ⊎ ((t : ℕ) × (t < suc n) × Replays ts (by_ticket t ds) × (Replays ts (by_ticket (suc t) ds) → ⊥))
    by (inl before) = last before (replays_known ts (by_ticket (suc n) ds))
    by (inr f) = inr (f.0, omega (arith, f.1), f.2, f.3)

  module _ (J : List Event) (allowed : AreAllowed m [] J) where
    of_replays : HaveEnded m.requests J → Replays m.opening (by_ticket (begun J) (done_operations J)) ⊎ ((t : ℕ) × (t < begun J) × Replays m.opening (by_ticket t (done_operations J)) × (Replays m.opening (by_ticket (suc t) (done_operations J)) → ⊥)) → (v : Verdict) × IsVerdict m J v
    of_replays all (inl r) = (IsFine, record { allowed = allowed; ended = all; regrouped = r })
    of_replays all (inr f) = (AtTicket 6 f.0, inr (refl, record { allowed = allowed; all_ended = all; exists = (let few : begun J ≤ m.requests = (told m J allowed).few in omega (arith, few, f.1)); before = f.2; against = f.3 }))

    of_open : HaveEnded m.requests J ⊎ ((t : ℕ) × (t < m.requests) × HaveEnded t J × (ended J t ≡ None)) → (v : Verdict) × IsVerdict m J v
    of_open (inl all) = of_replays all (first_astray m.opening (done_operations J) (begun J))
    of_open (inr f) = (AtTicket 5 f.0, inl (refl, record { allowed = allowed; before = f.2; exists = f.1; open_still = f.3 }))

  pub some_verdict : (J : List Event) → AllByRecursion CanBeJudged J → (v : Verdict) × IsVerdict m J v
  unfolding Against
  some_verdict J can = by (first_against [] J can tt) where
    by : AreAllowed m [] J ⊎ ((rule : ℕ) × (at : ℕ) × FirstAgainst m J rule at) → (v : Verdict) × IsVerdict m J v
    by (inl allowed) = of_open J allowed (first_open J m.requests)
    by (inr f) = (AtEvent f.0 f.1, f.2)
