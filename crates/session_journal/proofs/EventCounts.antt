-- How many events a journal has at most.
use Rattle.std.proofs.Common.{◌≡◌, ℕ, zero, suc, ◌+◌, ◌*◌, ◌<◌, ◌≤◌, ◌≢◌, List, [], ◌∷◌, ◌++◌, length, length-append, inl, inr, Option, Some, None, Bool, true, false, cond, eqb, refl, sym, ◌∙◌, ap, subst, arith, add-zero}
use Rattle.std.proofs.lemmas.Bool.Decides.{nat_tests}
use Rattle.std.proofs.lemmas.Bool.{cases_lt, eq-eqb, cases_eq}
use Rattle.session_values.specs.declared.op.Op.{Op}
use Rattle.session_values.specs.declared.value.Value.{Value}
use Rattle.session_values.specs.declared.reply.Reply.{Reply}
use Rattle.symbolic_ops.specs.declared.symbol.Symbol.{Symbol}
use Rattle.session_journal.specs.declared.event.Event.{Event}
use Rattle.session_journal.specs.declared.event.Event.TheVariants.{Begin, Done, Delay, End}
use Rattle.session_values.specs.Dialogue.{Entry}
use Rattle.session_journal.specs.Journal.{DoneOperation, of_ticket, entries, begun, end_of, ended}
use Rattle.session_values.specs.Dialogue.{Next, Calls, Answers, Dialogue, rest, replies, Follows, EndsBy}
use Rattle.session_values.specs.Sums.{sum_below}
use Rattle.session_journal.specs.Script.{Meaning, IsScript, calls}
use Rattle.session_journal.specs.EventsInTurn.{IsOpen, now, delayed_after, is_delayed_from, is_delayed, MayCome, ComeInTurn}
use Rattle.session_journal.proofs.Events.{done_operations_stay, begun_stays, begun_more, first_same, ended_other, ended_new, entries_other, entries_more, through_turns}
use Rattle.session_values.proofs.Sums.{sum_below_le, sum_below_zero}
use Rattle.session_values.proofs.Numbers.{lesser}
use Rattle.session_journal.proofs.Serial.{not_ended, EndsBy-rest, follows_few}

abbrev ticket_of : Event → ℕ
ticket_of (Begin t c) = t
ticket_of (Done t op r) = t
ticket_of (Delay t op o s) = t
ticket_of (End t r) = t

-- how many events of the ticket there are
abbrev mine : ℕ → List Event → ℕ
mine t [] = 0
mine t (e ∷ J) = cond (eqb (ticket_of e) t) 1 0 + mine t J

mine-append : (t : ℕ) (J : List Event) (e : Event) → mine t (J ++ e ∷ []) ≡ mine t J + cond (eqb (ticket_of e) t) 1 0
mine-append t [] e = omega arith
mine-append t (x ∷ J) e = omega (arith, mine-append t J e)

mine_other : (t : ℕ) (J : List Event) (e : Event) → t ≢ ticket_of e → mine t (J ++ e ∷ []) ≡ mine t J
mine_other t J e h = mine-append t J e ∙ ap (λ (b : Bool). mine t J + cond b 1 0) (apart (ticket_of e) t h) ∙ add-zero (mine t J)
  where
    apart : (u t : ℕ) → t ≢ u → eqb u t ≡ false
    apart u t h = grind (arith, nat_tests)

mine_own : (J : List Event) (e : Event) → mine (ticket_of e) (J ++ e ∷ []) ≡ mine (ticket_of e) J + 1
mine_own J e = mine-append (ticket_of e) J e ∙ ap (λ (b : Bool). mine (ticket_of e) J + cond b 1 0) (eq-eqb (ticket_of e) (ticket_of e) refl)

pub is_delayed-append : (b : Bool) (J : List Event) (e : Event) (t : ℕ) → is_delayed_from b (J ++ e ∷ []) t ≡ delayed_after t e (is_delayed_from b J t)
is_delayed-append b [] e t = refl
is_delayed-append b (x ∷ J) e t = is_delayed-append (delayed_after t x b) J e t

cond_other : (u t : ℕ) (v b : Bool) → t ≢ u → cond (eqb u t) v b ≡ b
cond_other u t v b h = ap (λ (x : Bool). cond x v b) (apart u t h)
  where
    apart : (u t : ℕ) → t ≢ u → eqb u t ≡ false
    apart u t h = grind (arith, nat_tests)

cond_own : (t : ℕ) (v b : Bool) → cond (eqb t t) v b ≡ v
cond_own t v b = ap (λ (x : Bool). cond x v b) (eq-eqb t t refl)

delayed_other : (e : Event) (t : ℕ) (b : Bool) → t ≢ ticket_of e → delayed_after t e b ≡ b
delayed_other (Begin u c) t b h = cond_other u t false b h
delayed_other (Done u op r) t b h = cond_other u t false b h
delayed_other (Delay u op o s) t b h = cond_other u t true b h
delayed_other (End u r) t b h = cond_other u t false b h

entries_apart : (J : List Event) (e : Event) (t : ℕ) → t ≢ ticket_of e → entries (J ++ e ∷ []) t ≡ entries J t
entries_apart J (Begin u c) t h = ap (of_ticket t) (done_operations_stay J (Begin u c) refl)
entries_apart J (Done u op r) t h = entries_other J u op r t h
entries_apart J (Delay u op o s) t h = ap (of_ticket t) (done_operations_stay J (Delay u op o s) refl)
entries_apart J (End u r) t h = ap (of_ticket t) (done_operations_stay J (End u r) refl)

ended_apart : (J : List Event) (e : Event) (t : ℕ) → t ≢ ticket_of e → ended (J ++ e ∷ []) t ≡ ended J t
ended_apart J (Begin u c) t h = first_same (end_of t) J (Begin u c) refl
ended_apart J (Done u op r) t h = first_same (end_of t) J (Done u op r) refl
ended_apart J (Delay u op o s) t h = first_same (end_of t) J (Delay u op o s) refl
ended_apart J (End u r) t h = ended_other J u r t h

abbrev one_if : Bool → ℕ
one_if true = 1
one_if false = 0

abbrev one_if_some : Option Reply → ℕ
one_if_some None = 0
one_if_some (Some r) = 1

-- a ticket has its Begin, two events for each entry, a Delay where it is delayed, and its End where it has ended
pub record Counted (m : Meaning) (t : ℕ) (J : List Event) : Type 0 where
  none : begun J ≤ t → mine t J ≡ 0
  few : mine t J ≤ 1 + 2 * length (entries J t) + one_if (is_delayed J t) + one_if_some (ended J t)
  delayed : is_delayed J t ≡ true → (op : Op) × (now m J t ≡ Calls op)

counted_apart : (m : Meaning) (t : ℕ) (J : List Event) (e : Event) → Counted m t J → t ≢ ticket_of e → begun J ≤ begun (J ++ e ∷ []) → Counted m t (J ++ e ∷ [])
counted_apart m t J e k h more =
    let a : mine t (J ++ e ∷ []) ≡ mine t J = mine_other t J e h in
    let b : entries (J ++ e ∷ []) t ≡ entries J t = entries_apart J e t h in
    let c : is_delayed (J ++ e ∷ []) t ≡ is_delayed J t = is_delayed-append false J e t ∙ delayed_other e t (is_delayed J t) h in
    let d : ended (J ++ e ∷ []) t ≡ ended J t = ended_apart J e t h in
    record {
      none = λ l. a ∙ k.none (omega arith);
      few = omega (arith, a, k.few, ap (λ (es : List Entry). length es) b, ap one_if c, ap one_if_some d);
      delayed = λ f. let p : (op : Op) × (now m J t ≡ Calls op) = k.delayed (sym c ∙ f) in (p.0, ap (λ (es : List Entry). m.next t (replies es)) b ∙ p.1);
    }

one_if_small : (b : Bool) → one_if b ≤ 1
one_if_small true = omega arith
one_if_small false = omega arith

begun_grows : (J : List Event) (e : Event) → begun J ≤ begun (J ++ e ∷ [])
begun_grows J (Begin u c) = omega (arith, begun_more J u c)
begun_grows J (Done u op r) = omega (arith, begun_stays J (Done u op r) refl)
begun_grows J (Delay u op o s) = omega (arith, begun_stays J (Delay u op o s) refl)
begun_grows J (End u r) = omega (arith, begun_stays J (End u r) refl)

true_false : {b : Bool} → b ≡ true → b ≡ false → ⊥
true_false {b} p q = cc

counted_begin : (m : Meaning) (J : List Event) (t c : ℕ) → Counted m t J → t ≡ begun J → Counted m t (J ++ Begin t c ∷ [])
counted_begin m J t c k h =
    let v : Event = Begin t c in
    let a : mine t (J ++ v ∷ []) ≡ mine t J + 1 = mine_own J v in
    let z : mine t J ≡ 0 = k.none (omega arith) in
    let d : is_delayed (J ++ v ∷ []) t ≡ false = is_delayed-append false J v t ∙ cond_own t false (is_delayed J t) in
    record {
      none = λ l. absurd (omega (arith, begun_more J t c));
      few = omega (arith, a, z);
      delayed = λ f. absurd (true_false f d);
    }

counted_done : (m : Meaning) (J : List Event) (t : ℕ) (op : Op) (r : Value) → Counted m t J → t < begun J → Counted m t (J ++ Done t op r ∷ [])
counted_done m J t op r k h =
    let v : Event = Done t op r in
    let a : mine t (J ++ v ∷ []) ≡ mine t J + 1 = mine_own J v in
    let d : is_delayed (J ++ v ∷ []) t ≡ false = is_delayed-append false J v t ∙ cond_own t false (is_delayed J t) in
    let l : length (entries (J ++ v ∷ []) t) ≡ length (entries J t) + 1 = ap (λ (es : List Entry). length es) (entries_more J t op r) ∙ length-append (entries J t) (record { op = op; reply = r } ∷ []) in
    let e : one_if_some (ended (J ++ v ∷ []) t) ≡ one_if_some (ended J t) = ap one_if_some (first_same (end_of t) J v refl) in
    record {
      none = λ g. absurd (omega (arith, begun_stays J v refl));
      few = omega (arith, a, k.few, one_if_small (is_delayed J t), l, e);
      delayed = λ f. absurd (true_false f d);
    }

counted_delay : (m : Meaning) (J : List Event) (t : ℕ) (op : Op) (o : ℕ) (s : Symbol) → Counted m t J → t < begun J → now m J t ≡ Calls op → is_delayed J t ≡ false → Counted m t (J ++ Delay t op o s ∷ [])
counted_delay m J t op o s k h c n =
    let v : Event = Delay t op o s in
    let a : mine t (J ++ v ∷ []) ≡ mine t J + 1 = mine_own J v in
    let d : one_if (is_delayed (J ++ v ∷ []) t) ≡ 1 = ap one_if (is_delayed-append false J v t ∙ cond_own t true (is_delayed J t)) in
    let b : one_if (is_delayed J t) ≡ 0 = ap one_if n in
    let l : length (entries (J ++ v ∷ []) t) ≡ length (entries J t) = ap (λ (ds : List DoneOperation). length (of_ticket t ds)) (done_operations_stay J v refl) in
    let e : one_if_some (ended (J ++ v ∷ []) t) ≡ one_if_some (ended J t) = ap one_if_some (first_same (end_of t) J v refl) in
    record {
      none = λ g. absurd (omega (arith, begun_stays J v refl));
      few = omega (arith, a, k.few, b, d, l, e);
      delayed = λ f. (op, ap (λ (ds : List DoneOperation). m.next t (replies (of_ticket t ds))) (done_operations_stay J v refl) ∙ c);
    }

counted_end : (m : Meaning) (J : List Event) (t : ℕ) (r : Reply) → Counted m t J → IsOpen J t → now m J t ≡ Answers r → Counted m t (J ++ End t r ∷ [])
counted_end m J t r k h w =
    let v : Event = End t r in
    let a : mine t (J ++ v ∷ []) ≡ mine t J + 1 = mine_own J v in
    let d : is_delayed (J ++ v ∷ []) t ≡ false = is_delayed-append false J v t ∙ cond_own t false (is_delayed J t) in
    let b : is_delayed J t ≡ false = undelayed (is_delayed J t) refl in
    let b0 : one_if (is_delayed J t) ≡ 0 = ap one_if b in
    let l : length (entries (J ++ v ∷ []) t) ≡ length (entries J t) = ap (λ (ds : List DoneOperation). length (of_ticket t ds)) (done_operations_stay J v refl) in
    let e : one_if_some (ended (J ++ v ∷ []) t) ≡ 1 = ap one_if_some (ended_new J t r h.not_ended) in
    let e0 : one_if_some (ended J t) ≡ 0 = ap one_if_some h.not_ended in
    record {
      none = λ g. absurd (omega (arith, begun_stays J v refl, h.begun));
      few = omega (arith, a, k.few, b0, l, e, e0);
      delayed = λ f. absurd (true_false f d);
    }
  where
    clash : (x : Next) (op : Op) → x ≡ Calls op → x ≡ Answers r → ⊥
    clash x op p q = cc

    undelayed : (b : Bool) → is_delayed J t ≡ b → is_delayed J t ≡ false
    undelayed true e = absurd (clash (now m J t) (k.delayed e).0 (k.delayed e).1 w)
    undelayed false e = e

pub counted_none : (m : Meaning) (t : ℕ) → Counted m t []
counted_none m t = record { none = λ l. refl; few = omega arith; delayed = λ e. absurd (true_false e refl) }

-- what is asked of an event behind J, so that the events of each ticket stay counted
abbrev pub IsCountable : Meaning → List Event → Event → Type 0
IsCountable m J (Begin t c) = t ≡ begun J
IsCountable m J (Done t op r) = IsOpen J t
IsCountable m J (Delay t op o s) = IsOpen J t × (now m J t ≡ Calls op) × (is_delayed J t ≡ false)
IsCountable m J (End t r) = IsOpen J t × (now m J t ≡ Answers r)

pub counted_step : (m : Meaning) (t : ℕ) (J : List Event) (e : Event) → Counted m t J → IsCountable m J e → Counted m t (J ++ e ∷ [])
counted_step m t J e k w = elim (cases_eq t (ticket_of e)) [ inl is ↦ own J e k w is | inr n ↦ counted_apart m t J e k n (begun_grows J e) ]
  where
    own : (J : List Event) (e : Event) → Counted m t J → IsCountable m J e → t ≡ ticket_of e → Counted m t (J ++ e ∷ [])
    own J (Begin u c) k w is = let P : ℕ → Type 0 = λ x. Counted m t (J ++ Begin x c ∷ []) in subst P is (counted_begin m J t c k (is ∙ w))
    own J (Done u op r) k w is = let P : ℕ → Type 0 = λ x. Counted m t (J ++ Done x op r ∷ []) in subst P is (counted_done m J t op r k (omega (arith, is, w.begun)))
    own J (Delay u op o s) k w is =
        let P : ℕ → Type 0 = λ x. Counted m t (J ++ Delay x op o s ∷ []) in
        subst P is (counted_delay m J t op o s k (omega (arith, is, w.0.begun)) (ap (now m J) is ∙ w.1) (ap (is_delayed J) is ∙ w.2))
    own J (End u r) k w is =
        let P : ℕ → Type 0 = λ x. Counted m t (J ++ End x r ∷ []) in
        let Q : ℕ → Type 0 = λ x. IsOpen J x in
        subst P is (counted_end m J t r k (subst Q (sym is) w.0) (ap (now m J) is ∙ w.1))

countable : (m : Meaning) (callers : ℕ) (J : List Event) (e : Event) → MayCome m callers J e → IsCountable m J e
countable m callers J (Begin t c) w = w.next
countable m callers J (Done t op r) w = w.is_open
countable m callers J (Delay t op o s) w = (w.is_open, w.calls, w.once)
countable m callers J (End t r) w = (w.is_open, w.answers)

pub counted : (m : Meaning) (callers : ℕ) (t : ℕ) (J : List Event) → ComeInTurn m callers [] J → Counted m t J
counted m callers t J h = through_turns m callers (Counted m t) (λ K e k w. counted_step m t K e k (countable m callers K e w)) [] J (counted_none m t) h

-- where a call is still to come it is shorter
follows_fewer : (n : ℕ) (f : Dialogue) (es : List Entry) (op : Op) → EndsBy n f → Follows f es → f (replies es) ≡ Calls op → length es < n
follows_fewer n f [] op e w c = let k : (k : ℕ) × (n ≡ suc k) = not_ended n f op e c in omega (arith, k.1)
follows_fewer n f (x ∷ es) op e w c =
    let k : (k : ℕ) × (n ≡ suc k) = not_ended n f x.op e w.0 in
    let P : ℕ → Type 0 = λ j. EndsBy j f in
    omega (arith, k.1, follows_fewer k.0 (rest f (x.reply ∷ [])) es op (EndsBy-rest k.0 f x.reply (subst P k.1 e)) w.1 c)

mine_few : (m : Meaning) (J : List Event) → IsScript m → (t : ℕ) → Counted m t J → Follows (m.next t) (entries J t) → mine t J ≤ 2 + 2 * m.length t
mine_few m J S t k f = by_delay (is_delayed J t) refl
  where
    ended_small : (o : Option Reply) → one_if_some o ≤ 1
    ended_small None = omega arith
    ended_small (Some r) = omega arith

    by_delay : (d : Bool) → is_delayed J t ≡ d → mine t J ≤ 2 + 2 * m.length t
    by_delay true e =
        let p : (op : Op) × (now m J t ≡ Calls op) = k.delayed e in
        let i : one_if (is_delayed J t) ≡ 1 = ap one_if e in
        omega (arith, k.few, i, ended_small (ended J t), follows_fewer (m.length t) (m.next t) (entries J t) p.0 (S.ends t) f p.1)
    by_delay false e =
        let i : one_if (is_delayed J t) ≡ 0 = ap one_if e in
        omega (arith, k.few, i, ended_small (ended J t), follows_few (m.length t) (m.next t) (entries J t) (S.ends t) f)

-- ---- all tickets together
sum_of_bounds : (n : ℕ) (f : ℕ → ℕ) → sum_below n (λ t. 2 + 2 * f t) ≡ 2 * n + 2 * sum_below n f
sum_of_bounds zero f = omega arith
sum_of_bounds (suc n) f = omega (arith, sum_of_bounds n f)

sum_below_none : (n u : ℕ) → n ≤ u → (f : ℕ → ℕ) → sum_below n (λ t. cond (eqb u t) 1 0 + f t) ≡ sum_below n f
sum_below_none zero u h f = refl
sum_below_none (suc n) u h f =
    let e : eqb u n ≡ false = apart u n h in
    let c : cond {A = ℕ} (eqb u n) 1 0 ≡ 0 = ap (λ (b : Bool). cond b 1 0) e in
    omega (arith, sum_below_none n u (omega arith) f, c)
  where
    apart : (u n : ℕ) → suc n ≤ u → eqb u n ≡ false
    apart u n h = grind (arith, nat_tests)

sum_below_one : (n u : ℕ) → u < n → (f : ℕ → ℕ) → sum_below n (λ t. cond (eqb u t) 1 0 + f t) ≡ suc (sum_below n f)
sum_below_one zero u h f = absurd (omega arith)
sum_below_one (suc n) u h f = by_last (eqb u n) refl (λ l. sum_below_one n u l f)
  where
    itself : (u n : ℕ) → eqb u n ≡ true → n ≤ u
    itself u n e = grind (arith, nat_tests)

    by_last : (b : Bool) → eqb u n ≡ b → (u < n → sum_below n (λ t. cond (eqb u t) 1 0 + f t) ≡ suc (sum_below n f)) → sum_below (suc n) (λ t. cond (eqb u t) 1 0 + f t) ≡ suc (sum_below (suc n) f)
    by_last true e k = let c : cond {A = ℕ} (eqb u n) 1 0 ≡ 1 = ap (λ (b : Bool). cond b 1 0) e in omega (arith, sum_below_none n u (itself u n e) f, c)
    by_last false e k = let c : cond {A = ℕ} (eqb u n) 1 0 ≡ 0 = ap (λ (b : Bool). cond b 1 0) e in omega (arith, k (lesser u n h e), c)

-- each event is of one ticket
all_mine : (n : ℕ) (J : List Event) → ((t : ℕ) → n ≤ t → mine t J ≡ 0) → length J ≡ sum_below n (λ t. mine t J)
all_mine n [] h = sym (sum_below_zero n)
all_mine n (e ∷ J) h =
    let less : ticket_of e < n = elim (cases_lt (ticket_of e) n) [ inl l ↦ l | inr g ↦ absurd (not_none (h (ticket_of e) g)) ] in
    omega (arith, sum_below_one n (ticket_of e) less (λ t. mine t J), all_mine n J (λ t l. rest_none t (h t l)))
  where
    not_none : mine (ticket_of e) (e ∷ J) ≡ 0 → ⊥
    not_none p = let c : cond {A = ℕ} (eqb (ticket_of e) (ticket_of e)) 1 0 ≡ 1 = ap (λ (b : Bool). cond b 1 0) (eq-eqb (ticket_of e) (ticket_of e) refl) in omega (arith, p, c)

    rest_none : (t : ℕ) → mine t (e ∷ J) ≡ 0 → mine t J ≡ 0
    rest_none t p = omega (arith, p)

pub few_begun : (m : Meaning) (callers : ℕ) (J : List Event) → ComeInTurn m callers [] J → begun J ≤ m.requests
few_begun m callers J h = through_turns m callers (λ K. begun K ≤ m.requests) keep [] J (omega arith) h
  where
    keep : (J : List Event) (e : Event) → begun J ≤ m.requests → MayCome m callers J e → begun (J ++ e ∷ []) ≤ m.requests
    keep J (Begin t c) k w = omega (arith, begun_more J t c, w.left, w.next)
    keep J (Done t op r) k w = omega (arith, begun_stays J (Done t op r) refl)
    keep J (Delay t op o s) k w = omega (arith, begun_stays J (Delay t op o s) refl)
    keep J (End t r) k w = omega (arith, begun_stays J (End t r) refl)

-- where the events of each ticket are counted and its entries follow its dialogue, there are no more
-- events than these
pub few_counted : (m : Meaning) (J : List Event) → IsScript m → ((t : ℕ) → Counted m t J) → ((t : ℕ) → Follows (m.next t) (entries J t)) → begun J ≤ m.requests → length J ≤ 2 * m.requests + 2 * calls m
few_counted m J S k f few =
    let n : ℕ = m.requests in
    let all : length J ≡ sum_below n (λ t. mine t J) = all_mine n J (λ t l. (k t).none (omega (arith, few, l))) in
    omega (arith, all, sum_below_le n (λ t. mine t J) (λ t. 2 + 2 * m.length t) (λ t. mine_few m J S t (k t) (f t)), sum_of_bounds n m.length)
