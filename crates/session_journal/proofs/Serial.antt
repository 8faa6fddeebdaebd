-- Entries that follow a dialogue and replay from the serial tables are the first of the serial ones, and the rest moves past what commutes with it.
use Rattle.std.proofs.Common.{◌≡◌, ℕ, zero, suc, ◌+◌, ◌<◌, ◌≤◌, List, [], ◌∷◌, ◌++◌, length, ◌⊎◌, inl, inr, Some, None, refl, sym, ◌∙◌, ap, subst, append_assoc, arith, append-nil}
use Rattle.std.specs.List.{AllByRecursion}
use Rattle.session_values.specs.declared.op.Op.{Op}
use Rattle.session_values.specs.declared.value.Value.{Value}
use Rattle.session_values.specs.declared.reply.Reply.{Reply}
use Rattle.symbolic_ops.specs.declared.symbol.Symbol.{Symbol}
use Rattle.session_values.specs.Tables.{Tables, reply, step}
use Rattle.session_values.specs.Commuting.{Commute, Swaps}
use Rattle.symbolic_ops.specs.Matching.{Matches}
use Rattle.session_values.specs.Dialogue.{Entry}
use Rattle.session_journal.specs.Journal.{DoneOperation, run, Replays, of_ticket, by_ticket}
use Rattle.session_values.specs.Dialogue.{Next, Calls, Answers, Dialogue, rest, replies, Follows, EndsBy}
use Rattle.session_journal.specs.Script.{Covers, Meaning, session_of}
use Rattle.session_values.specs.Serial.{Served, served_first, serve, tables_before, serial}
use Rattle.session_journal.specs.Foreknown.{IsPrefixOf}
use Rattle.session_journal.proofs.Values.{AreReplies}
use Rattle.session_journal.proofs.Replay.{run-append, Replays-front, Replays-back}

-- one operation done before a list with which it commutes leaves the list's replies as they are
shifted : (ts : Tables) (a : Op) (ys : List Entry) → AllByRecursion (λ e. Commute a e.op) ys → Replays ts ys → Replays (step ts a) ys
shifted ts a [] c h = tt
shifted ts a (y ∷ ys) c h =
    let s : Swaps ts a y.op = c.0.at ts in
    let p : Tables → Type 0 = λ us. Replays us ys in
    (s.second ∙ h.0, subst p (sym s.tables) (shifted (step ts y.op) a ys c.1 h.1))

-- two lists that replay from the same tables and commute with each other replay one after the other
pub beside : (ts : Tables) (xs ys : List Entry) → AllByRecursion (λ x. AllByRecursion (λ y. Commute x.op y.op) ys) xs → Replays ts xs → Replays ts ys → Replays (run ts xs) ys
beside ts [] ys c h k = k
beside ts (x ∷ xs) ys c h k = beside (step ts x.op) xs ys c.1 h.1 (shifted ts x.op ys c.0 k)

pub EndsBy-rest : (n : ℕ) (f : Dialogue) (r : Value) → EndsBy (suc n) f → EndsBy n (rest f (r ∷ []))
EndsBy-rest n f r e = record { answers = λ rs h. e.answers (r ∷ rs) (omega arith) }

-- a dialogue that calls has not ended
pub not_ended : (n : ℕ) (f : Dialogue) (op : Op) → EndsBy n f → f [] ≡ Calls op → (k : ℕ) × (n ≡ suc k)
not_ended zero f op e c = let a : (r : Reply) × (f [] ≡ Answers r) = e.answers [] (omega arith) in absurd (differ f op a.0 c a.1)
  where
    differ : (f : Dialogue) (op : Op) (r : Reply) → f [] ≡ Calls op → f [] ≡ Answers r → ⊥
    differ f op r c a = cc
not_ended (suc k) f op e c = (k, refl)

-- what serving gives where the dialogue calls first
pub serve-calls : (n : ℕ) (f : Dialogue) (ts : Tables) (op : Op) → f [] ≡ Calls op → serve (suc n) f ts ≡ served_first (record { op = op; reply = reply ts op }) (serve n (rest f (reply ts op ∷ [])) (step ts op))
serve-calls n f ts op e = ap (λ (x : Next). elim x as (λ _. Served) [
  | Calls o ↦ served_first (record { op = o; reply = reply ts o }) (serve n (rest f (reply ts o ∷ [])) (step ts o))
  | Answers r ↦ record { entries = []; answer = Some r; after = ts }
]) e

pub serve-answers : (n : ℕ) (f : Dialogue) (ts : Tables) (r : Reply) → f [] ≡ Answers r → serve n f ts ≡ record { entries = []; answer = Some r; after = ts }
serve-answers zero f ts r e = ap (λ (x : Next). elim x as (λ _. Served) [ Calls op ↦ record { entries = []; answer = None; after = ts } | Answers s ↦ record { entries = []; answer = Some s; after = ts } ]) e
serve-answers (suc n) f ts r e = ap (λ (x : Next). elim x as (λ _. Served) [
  | Calls o ↦ served_first (record { op = o; reply = reply ts o }) (serve n (rest f (reply ts o ∷ [])) (step ts o))
  | Answers s ↦ record { entries = []; answer = Some s; after = ts }
]) e

pub differ : (f : Dialogue) (op : Op) (r : Reply) → f [] ≡ Calls op → f [] ≡ Answers r → ⊥
differ f op r c a = cc

same_reply : (f : Dialogue) (q r : Reply) → f [] ≡ Answers q → f [] ≡ Answers r → q ≡ r
same_reply f q r a b = cc

-- how a serving goes on after its first entries es: with those of back
pub record GoesOn (n : ℕ) (f : Dialogue) (ts : Tables) (es : List Entry) : Type 0 where
  pub back : List Entry
  pub entries : (serve n f ts).entries ≡ es ++ back
  pub after : (serve n f ts).after ≡ run (run ts es) back
  pub follows : Follows (rest f (replies es)) back
  pub replays : Replays (run ts es) back
  pub answered : (r : Reply) → f (replies es) ≡ Answers r → (back ≡ []) × ((serve n f ts).answer ≡ Some r)

goes_not : (n : ℕ) (f : Dialogue) (ts : Tables) (r : Reply) → f [] ≡ Answers r → GoesOn n f ts []
goes_not n f ts r e = record {
  back = [];
  entries = ap (λ (s : Served). s.entries) (serve-answers n f ts r e);
  after = ap (λ (s : Served). s.after) (serve-answers n f ts r e);
  follows = tt;
  replays = tt;
  answered = λ q d. (refl, ap (λ (s : Served). s.answer) (serve-answers n f ts r e) ∙ ap (λ (x : Reply). Some x) (same_reply f r q e d));
}

goes_first : (n : ℕ) (f : Dialogue) (ts : Tables) (op : Op) → f [] ≡ Calls op → GoesOn n (rest f (reply ts op ∷ [])) (step ts op) [] → GoesOn (suc n) f ts []
goes_first n f ts op c g =
    let is : serve (suc n) f ts ≡ served_first (record { op = op; reply = reply ts op }) (serve n (rest f (reply ts op ∷ [])) (step ts op)) = serve-calls n f ts op c in
    let e : Entry = record { op = op; reply = reply ts op } in
    record {
      back = e ∷ g.back;
      entries = ap (λ (s : Served). s.entries) is ∙ ap (λ (es : List Entry). e ∷ es) g.entries;
      after = ap (λ (s : Served). s.after) is ∙ g.after;
      follows = (c, g.follows);
      replays = (refl, g.replays);
      answered = λ r a. absurd (differ f op r c a);
    }

-- from its beginning
goes_whole : (n : ℕ) (f : Dialogue) (ts : Tables) → EndsBy n f → GoesOn n f ts []
goes_whole zero f ts e = let a : (r : Reply) × (f [] ≡ Answers r) = e.answers [] (omega arith) in goes_not zero f ts a.0 a.1
goes_whole (suc n) f ts e =
    elim (f []) as (λ x. f [] ≡ x → GoesOn (suc n) f ts []) [
      | Calls op ↦ λ c. goes_first n f ts op c (goes_whole n (rest f (reply ts op ∷ [])) (step ts op) (EndsBy-rest n f (reply ts op) e))
      | Answers r ↦ λ a. goes_not (suc n) f ts r a
    ] refl

goes_past : (n : ℕ) (f : Dialogue) (ts : Tables) (e : Entry) (es : List Entry) → f [] ≡ Calls e.op → reply ts e.op ≡ e.reply → GoesOn n (rest f (e.reply ∷ [])) (step ts e.op) es → GoesOn (suc n) f ts (e ∷ es)
goes_past n f ts e es c h g =
    let P : Value → Type 0 = λ r. serve (suc n) f ts ≡ served_first (record { op = e.op; reply = r }) (serve n (rest f (r ∷ [])) (step ts e.op)) in
    let is : serve (suc n) f ts ≡ served_first e (serve n (rest f (e.reply ∷ [])) (step ts e.op)) = subst P h (serve-calls n f ts e.op c) in
    record {
      back = g.back;
      entries = ap (λ (s : Served). s.entries) is ∙ ap (λ (fs : List Entry). e ∷ fs) g.entries;
      after = ap (λ (s : Served). s.after) is ∙ g.after;
      follows = g.follows;
      replays = g.replays;
      answered = λ r a. let q : (g.back ≡ []) × ((serve n (rest f (e.reply ∷ [])) (step ts e.op)).answer ≡ Some r) = g.answered r a in (q.0, ap (λ (s : Served). s.answer) is ∙ q.1);
    }

-- entries that follow the dialogue and replay are the first ones of its serving
pub goes_on : (n : ℕ) (f : Dialogue) (ts : Tables) (es : List Entry) → EndsBy n f → Follows f es → Replays ts es → GoesOn n f ts es
goes_on n f ts [] e w h = goes_whole n f ts e
goes_on n f ts (x ∷ es) e w h =
    let k : (k : ℕ) × (n ≡ suc k) = not_ended n f x.op e w.0 in
    let P : ℕ → Type 0 = λ j. EndsBy j f in
    let Q : ℕ → Type 0 = λ j. GoesOn j f ts (x ∷ es) in
    subst Q (sym k.1) (goes_past k.0 f ts x es w.0 h.0 (goes_on k.0 (rest f (x.reply ∷ [])) (step ts x.op) es (EndsBy-rest k.0 f x.reply (subst P k.1 e)) w.1 h.1))

-- what follows a covered dialogue is matched
pub matched : (f : Dialogue) (foresight : List Symbol) (es : List Entry) → Covers f foresight → AreReplies es → Follows f es → AllByRecursion (λ e. Matches foresight e.op) es
matched f foresight [] c v w = tt
matched f foresight (e ∷ es) c v w = (c.each [] e.op tt w.0, matched (rest f (e.reply ∷ [])) foresight es (record { each = λ more op h. c.each (e.reply ∷ more) op (v.0, h) }) v.1 w.1)

-- ---- the tickets one after another
-- the entries of ticket k, then those of the next one, and so on for m tickets
abbrev from_ticket : ℕ → ℕ → List DoneOperation → List Entry
from_ticket k zero ds = []
from_ticket k (suc m) ds = of_ticket k ds ++ from_ticket (suc k) m ds

by_ticket-from : (m k : ℕ) (ds : List DoneOperation) → by_ticket k ds ++ from_ticket k m ds ≡ by_ticket (m + k) ds
by_ticket-from zero k ds = append-nil (by_ticket k ds) ∙ ap (λ (n : ℕ). by_ticket n ds) (the k)
  where
    the : (k : ℕ) → k ≡ 0 + k
    the k = omega arith
by_ticket-from (suc m) k ds = sym (append_assoc (by_ticket k ds) (of_ticket k ds) (from_ticket (suc k) m ds)) ∙ by_ticket-from m (suc k) ds ∙ ap (λ (n : ℕ). by_ticket n ds) (the m k)
  where
    the : (m k : ℕ) → m + suc k ≡ suc m + k
    the m k = omega arith

-- what the induction takes of ticket t: its entries follow its dialogue, and what may still come commutes with the entries of younger tickets
pub record Settled (m : Meaning) (ds : List DoneOperation) (t : ℕ) : Type 0 where
  pub ends : EndsBy (m.length t) (m.next t)
  pub follows : Follows (m.next t) (of_ticket t ds)
  pub values : AreReplies (serial (session_of m) t).entries
  pub free : (w : ℕ) → t < w → (back : List Entry) → AreReplies back → Follows (rest (m.next t) (replies (of_ticket t ds))) back → AllByRecursion (λ x. AllByRecursion (λ y. Commute x.op y.op) (of_ticket w ds)) back

-- what it gives
pub record Known (m : Meaning) (ds : List DoneOperation) (t : ℕ) : Type 0 where
  pub entries : IsPrefixOf (of_ticket t ds) (serial (session_of m) t).entries
  pub answer : (r : Reply) → m.next t (replies (of_ticket t ds)) ≡ Answers r → (serial (session_of m) t).answer ≡ Some r

All-append : (P : Entry → Type 0) (es fs : List Entry) → AllByRecursion P es → AllByRecursion P fs → AllByRecursion P (es ++ fs)
All-append P [] fs a b = b
All-append P (e ∷ es) fs a b = (a.0, All-append P es fs a.1 b)

back_values : (es fs : List Entry) → AreReplies (es ++ fs) → AreReplies fs
back_values [] fs v = v
back_values (e ∷ es) fs v = back_values es fs v.1

-- past all younger tickets' entries
free_of_all : (m : Meaning) (ds : List DoneOperation) (t : ℕ) → Settled m ds t → (back : List Entry) → AreReplies back → Follows (rest (m.next t) (replies (of_ticket t ds))) back → (k c : ℕ) → t < k → AllByRecursion (λ x. AllByRecursion (λ y. Commute x.op y.op) (from_ticket k c ds)) back
free_of_all m ds t s back v w k zero h = nothing back
  where
    nothing : (back : List Entry) → AllByRecursion (λ x. AllByRecursion (λ (y : Entry). Commute x.op y.op) []) back
    nothing [] = tt
    nothing (x ∷ xs) = (tt, nothing xs)
free_of_all m ds t s back v w k (suc c) h = joined back (s.free k h back v w) (free_of_all m ds t s back v w (suc k) c (omega arith))
  where
    joined : (xs : List Entry) → AllByRecursion (λ x. AllByRecursion (λ y. Commute x.op y.op) (of_ticket k ds)) xs → AllByRecursion (λ x. AllByRecursion (λ y. Commute x.op y.op) (from_ticket (suc k) c ds)) xs → AllByRecursion (λ x. AllByRecursion (λ y. Commute x.op y.op) (of_ticket k ds ++ from_ticket (suc k) c ds)) xs
    joined [] a b = tt
    joined (x ∷ xs) a b = (All-append (λ y. Commute x.op y.op) (of_ticket k ds) (from_ticket (suc k) c ds) a.0 b.0, joined xs a.1 b.1)

known_from : (m : Meaning) (ds : List DoneOperation) (c k : ℕ) → ((t : ℕ) → t < c + k → Settled m ds t) → Replays (tables_before (session_of m) k) (from_ticket k c ds) → (t : ℕ) → k ≤ t → t < c + k → Known m ds t
known_from m ds zero k s h t a b = absurd (omega arith)
known_from m ds (suc c) k s h t a b =
    let here : Settled m ds k = s k (omega arith) in
    let g : GoesOn (m.length k) (m.next k) (tables_before (session_of m) k) (of_ticket k ds) = goes_on (m.length k) (m.next k) (tables_before (session_of m) k) (of_ticket k ds) here.ends here.follows (Replays-front _ (of_ticket k ds) (from_ticket (suc k) c ds) h) in
    let moved : Replays (run (run (tables_before (session_of m) k) (of_ticket k ds)) g.back) (from_ticket (suc k) c ds) = beside (run (tables_before (session_of m) k) (of_ticket k ds)) g.back (from_ticket (suc k) c ds) (free_of_all m ds k here g.back (back_values (of_ticket k ds) g.back (subst AreReplies g.entries here.values)) g.follows (suc k) c (omega arith)) g.replays (Replays-back _ (of_ticket k ds) (from_ticket (suc k) c ds) h) in
    let P : Tables → Type 0 = λ us. Replays us (from_ticket (suc k) c ds) in
    let onward : Replays (tables_before (session_of m) (suc k)) (from_ticket (suc k) c ds) = subst P (sym g.after) moved in
    elim (le_cases k t a) [
      | inl is ↦ subst (λ (j : ℕ). Known m ds j) is (record { entries = record { back = g.back; is = sym g.entries }; answer = λ r e. (g.answered r e).1 })
      | inr less ↦ known_from m ds c (suc k) (λ j l. s j (omega arith)) onward t less (omega arith)
    ]
  where
    le_cases : (k t : ℕ) → k ≤ t → (k ≡ t) ⊎ (suc k ≤ t)
    le_cases k t a = grind arith

-- where the list regrouped by ticket replays from the opening tables, each ticket's entries are the first ones of its serial serving
pub all_known : (m : Meaning) (ds : List DoneOperation) (n : ℕ) → ((t : ℕ) → t < n → Settled m ds t) → Replays (tables_before (session_of m) 0) (by_ticket n ds) → (t : ℕ) → t < n → Known m ds t
all_known m ds n s h t l =
    let P : ℕ → Type 0 = λ j. Replays (tables_before (session_of m) 0) (by_ticket j ds) in
    let Q : List Entry → Type 0 = λ es. Replays (tables_before (session_of m) 0) es in
    let e : n ≡ n + 0 = omega arith in
    known_from m ds n 0 (λ j k. s j (omega arith)) (subst Q (sym (by_ticket-from n 0 ds)) (subst P e h)) t (omega arith) (omega arith)

-- ---- where all have answered
whole : (m : Meaning) (ds : List DoneOperation) (t : ℕ) (r : Reply) (g : GoesOn (m.length t) (m.next t) (tables_before (session_of m) t) (of_ticket t ds)) → m.next t (replies (of_ticket t ds)) ≡ Answers r → tables_before (session_of m) (suc t) ≡ run (tables_before (session_of m) t) (of_ticket t ds)
whole m ds t r g a = g.after ∙ ap (run (run (tables_before (session_of m) t) (of_ticket t ds))) (g.answered r a).0

pub final_from : (m : Meaning) (ds : List DoneOperation) (c k : ℕ) → ((t : ℕ) → t < c + k → Settled m ds t) → ((t : ℕ) → t < c + k → (r : Reply) × (m.next t (replies (of_ticket t ds)) ≡ Answers r)) → Replays (tables_before (session_of m) k) (from_ticket k c ds) → run (tables_before (session_of m) k) (from_ticket k c ds) ≡ tables_before (session_of m) (c + k)
final_from m ds zero k s a h = let e : k ≡ 0 + k = omega arith in ap (tables_before (session_of m)) e
final_from m ds (suc c) k s a h =
    let here : Settled m ds k = s k (omega arith) in
    let g : GoesOn (m.length k) (m.next k) (tables_before (session_of m) k) (of_ticket k ds) = goes_on (m.length k) (m.next k) (tables_before (session_of m) k) (of_ticket k ds) here.ends here.follows (Replays-front _ (of_ticket k ds) (from_ticket (suc k) c ds) h) in
    let w : tables_before (session_of m) (suc k) ≡ run (tables_before (session_of m) k) (of_ticket k ds) = let p : (r : Reply) × (m.next k (replies (of_ticket k ds)) ≡ Answers r) = a k (omega arith) in whole m ds k p.0 g p.1 in
    let P : Tables → Type 0 = λ us. Replays us (from_ticket (suc k) c ds) in
    let e : c + suc k ≡ suc c + k = omega arith in
    run-append (tables_before (session_of m) k) (of_ticket k ds) (from_ticket (suc k) c ds)
    ∙ ap (λ (us : Tables). run us (from_ticket (suc k) c ds)) (sym w)
    ∙ final_from m ds c (suc k) (λ j l. s j (omega arith)) (λ j l. a j (omega arith)) (subst P (sym w) (Replays-back _ (of_ticket k ds) (from_ticket (suc k) c ds) h))
    ∙ ap (tables_before (session_of m)) e

pub final : (m : Meaning) (ds : List DoneOperation) (n : ℕ) → ((t : ℕ) → t < n → Settled m ds t) → ((t : ℕ) → t < n → (r : Reply) × (m.next t (replies (of_ticket t ds)) ≡ Answers r)) → Replays (tables_before (session_of m) 0) (by_ticket n ds) → run (tables_before (session_of m) 0) (by_ticket n ds) ≡ tables_before (session_of m) n
final m ds n s a h =
    let e : n ≡ n + 0 = omega arith in
    let same : by_ticket n ds ≡ from_ticket 0 n ds = ap (λ (j : ℕ). by_ticket j ds) e ∙ sym (by_ticket-from n 0 ds) in
    let Q : List Entry → Type 0 = λ es. Replays (tables_before (session_of m) 0) es in
    ap (run (tables_before (session_of m) 0)) same ∙ final_from m ds n 0 (λ j k. s j (omega arith)) (λ j k. a j (omega arith)) (subst Q same h) ∙ ap (tables_before (session_of m)) (sym e)

-- a dialogue that ends is answered when it is served
pub serve_answers : (n : ℕ) (f : Dialogue) (ts : Tables) → EndsBy n f → (r : Reply) × ((serve n f ts).answer ≡ Some r)
serve_answers zero f ts e = let a : (r : Reply) × (f [] ≡ Answers r) = e.answers [] (omega arith) in (a.0, ap (λ (s : Served). s.answer) (serve-answers zero f ts a.0 a.1))
serve_answers (suc n) f ts e =
    elim (f []) as (λ x. f [] ≡ x → (r : Reply) × ((serve (suc n) f ts).answer ≡ Some r)) [
      | Calls op ↦ λ c. let p : (r : Reply) × ((serve n (rest f (reply ts op ∷ [])) (step ts op)).answer ≡ Some r) = serve_answers n (rest f (reply ts op ∷ [])) (step ts op) (EndsBy-rest n f (reply ts op) e) in (p.0, ap (λ (s : Served). s.answer) (serve-calls n f ts op c) ∙ p.1)
      | Answers r ↦ λ a. (r, ap (λ (s : Served). s.answer) (serve-answers (suc n) f ts r a))
    ] refl

-- a list that follows a dialogue is no longer than the dialogue
pub follows_few : (n : ℕ) (f : Dialogue) (es : List Entry) → EndsBy n f → Follows f es → length es ≤ n
follows_few n f [] e w = omega arith
follows_few n f (x ∷ es) e w =
    let k : (k : ℕ) × (n ≡ suc k) = not_ended n f x.op e w.0 in
    let P : ℕ → Type 0 = λ j. EndsBy j f in
    omega (arith, k.1, follows_few k.0 (rest f (x.reply ∷ [])) es (EndsBy-rest k.0 f x.reply (subst P k.1 e)) w.1)
