-- The replies of the serial run are values that a program can hold.
use Rattle.std.proofs.Common.{◌≡◌, ℕ, zero, suc, ◌+◌, ◌-◌, ◌<◌, ◌≤◌, ◌^◌, List, [], ◌∷◌, ◌&&◌, eqb, Some, None, refl, sym, ap, subst, arith}
use Rattle.std.specs.List.{AllByRecursion}
use Rattle.session_values.specs.declared.value.Value.{Value}
use Rattle.session_values.specs.declared.op.Op.{Op}
use Rattle.session_values.specs.declared.reply.Reply.{Reply}
use Rattle.session_values.specs.Dialogue.{Next, Calls, Answers, Dialogue, Entry, rest, Follows}
use Rattle.session_values.specs.Kinds.{is_adding}
use Rattle.session_values.specs.Op.{IsHeld}
use Rattle.session_values.specs.Serial.{Served, served_first, serve, serial, tables_before}
use Rattle.session_values.specs.Sums.{sum_below}
use Rattle.session_values.specs.Tables.{AreValues, Tables, reply, size_of, step, table}
use Rattle.session_values.specs.Values.{IsValue}
use Rattle.session_values.proofs.Sizes.{one_if, step_few}
use Rattle.session_values.proofs.Sums.{sum_below_up}
use Rattle.session_values.specs.Opening.{tables_of}
use Rattle.session_values.proofs.Openings.{entries_few, opening_size, opening_values}
use Rattle.session_journal.specs.Script.{HasValues, IsScript, Meaning, adds_on, session_of}
use Rattle.session_journal.proofs.Serial.{serve-answers, serve-calls}
use Rattle.session_journal.proofs.Values.{AreReplies, reply_values, step_values}

-- how a dialogue is served that adds at most so many keys to each table
record KeepsValues (a : ℕ → ℕ) (ts : Tables) (s : Served) : Type 0 where
  replies : AreReplies s.entries
  values : AllByRecursion AreValues s.after
  few : (i : ℕ) → size_of (table s.after i) ≤ size_of (table ts i) + a i

keeps_first : (a b : ℕ → ℕ) (ts : Tables) (e : Entry) (s : Served) → IsValue e.reply → ((i : ℕ) → one_if (is_adding e.op.kind && eqb e.op.table i) + b i ≤ a i) → KeepsValues b (step ts e.op) s → KeepsValues a ts (served_first e s)
keeps_first a b ts e s v l k = record {
  replies = (v, k.replies);
  values = k.values;
  few = λ i. omega (arith, k.few i, step_few ts e.op i, l i);
}

serve_answers : (n : ℕ) (f : Dialogue) (ts : Tables) (a : ℕ → ℕ) (r : Reply) → f [] ≡ Answers r → AllByRecursion AreValues ts → KeepsValues a ts (serve n f ts)
serve_answers n f ts a r e h = subst (KeepsValues a ts) (sym (serve-answers n f ts r e)) (record { replies = tt; values = h; few = λ i. omega arith })

-- what is left of the keys that may be added
abbrev left : (ℕ → ℕ) → Op → ℕ → ℕ
left a op i = a i - one_if (is_adding op.kind && eqb op.table i)

abbrev GivesValues : Dialogue → Type 0
GivesValues f = (more : List Value) → AllByRecursion IsValue more → HasValues (f more)

abbrev AddsAtMost : (ℕ → ℕ) → Dialogue → Type 0
AddsAtMost a f = (i : ℕ) (es : List Entry) → Follows f es → adds_on i es ≤ a i

abbrev HasRoomFor : (ℕ → ℕ) → Tables → Type 0
HasRoomFor a ts = (i : ℕ) → size_of (table ts i) + a i < 2 ^ 63

serve_call : (n : ℕ) (f : Dialogue) (ts : Tables) (a : ℕ → ℕ) (op : Op) → f [] ≡ Calls op → GivesValues f → AddsAtMost a f → AllByRecursion AreValues ts → HasRoomFor a ts
    → (GivesValues (rest f (reply ts op ∷ [])) → AddsAtMost (left a op) (rest f (reply ts op ∷ [])) → AllByRecursion AreValues (step ts op) → HasRoomFor (left a op) (step ts op) → KeepsValues (left a op) (step ts op) (serve n (rest f (reply ts op ∷ [])) (step ts op)))
    → KeepsValues a ts (serve (suc n) f ts)
serve_call n f ts a op e v l h b go =
    let held : IsHeld op = subst HasValues e (v [] tt) in
    let r : Value = reply ts op in
    let value : IsValue r = reply_values ts op h (omega (arith, b op.table)) in
    let one : (i : ℕ) → one_if (is_adding op.kind && eqb op.table i) ≤ a i = λ i. omega (arith, l i (record { op = op; reply = r } ∷ []) (e, tt)) in
    subst (KeepsValues a ts) (sym (serve-calls n f ts op e))
    (keeps_first a (left a op) ts (record { op = op; reply = r }) (serve n (rest f (r ∷ [])) (step ts op)) value (λ i. omega (arith, one i))
    (go (λ more g. v (r ∷ more) (value, g)) (λ i es w. omega (arith, one i, l i (record { op = op; reply = r } ∷ es) (e, w))) (step_values ts op h held) (λ i. omega (arith, one i, b i, step_few ts op i))))

serve_values : (n : ℕ) (f : Dialogue) (ts : Tables) (a : ℕ → ℕ) → GivesValues f → AddsAtMost a f → AllByRecursion AreValues ts → HasRoomFor a ts → KeepsValues a ts (serve n f ts)
serve_values zero f ts a v l h b = elim (f []) as (λ x. f [] ≡ x → KeepsValues a ts (serve zero f ts)) [
  | Calls op ↦ λ e. subst (KeepsValues a ts) (sym (none op e)) (record { replies = tt; values = h; few = λ i. omega arith })
  | Answers r ↦ λ e. serve_answers zero f ts a r e h
] refl
  where
    none : (op : Op) → f [] ≡ Calls op → serve zero f ts ≡ record { entries = []; answer = None; after = ts }
    none op e = ap (λ (x : Next). elim x as (λ _. Served) [ Calls op ↦ record { entries = []; answer = None; after = ts } | Answers s ↦ record { entries = []; answer = Some s; after = ts } ]) e
serve_values (suc n) f ts a v l h b = elim (f []) as (λ x. f [] ≡ x → KeepsValues a ts (serve (suc n) f ts)) [
  | Calls op ↦ λ e. serve_call n f ts a op e v l h b (serve_values n (rest f (reply ts op ∷ [])) (step ts op) (left a op))
  | Answers r ↦ λ e. serve_answers (suc n) f ts a r e h
] refl

-- before each ticket
record IsSmall (m : Meaning) (t : ℕ) : Type 0 where
  values : AllByRecursion AreValues (tables_before (session_of m) t)
  few : (i : ℕ) → size_of (table (tables_before (session_of m) t) i) ≤ size_of (table m.opening i) + sum_below t (λ u. m.adds u i)

-- a table opens with few keys
pub opening_few : (m : Meaning) → IsScript m → (i : ℕ) → size_of (table m.opening i) ≤ 1000000
opening_few m S i = let e : size_of (table m.opening i) ≡ size_of (table (tables_of m.shape m.opened) i) = ap (λ ts. size_of (table ts i)) S.opening in omega (arith, e, opening_size m.shape m.opened i, entries_few m.opened i, S.opened.few)

ticket_values : (m : Meaning) → IsScript m → (t : ℕ) → t < m.requests → IsSmall m t → KeepsValues (m.adds t) (tables_before (session_of m) t) (serial (session_of m) t)
ticket_values m S t l k = serve_values (m.length t) (m.next t) (tables_before (session_of m) t) (m.adds t) (S.values t) (S.adds t) k.values (λ i. omega (arith, k.few i, opening_few m S i, sum_below_up (suc t) m.requests (λ u. m.adds u i) (omega (arith, l)), S.few_adds i))

before_values : (m : Meaning) → IsScript m → (t : ℕ) → t ≤ m.requests → IsSmall m t
before_values m S zero l = record {
  values = subst (AllByRecursion AreValues) (sym S.opening) (opening_values m.shape m.opened S.opened.entries);
  few = λ i. omega arith;
}
before_values m S (suc t) l =
    let k : IsSmall m t = before_values m S t (omega (arith, l)) in
    let s : KeepsValues (m.adds t) (tables_before (session_of m) t) (serial (session_of m) t) = ticket_values m S t (omega (arith, l)) k in
    record { values = s.values; few = λ i. omega (arith, s.few i, k.few i) }

-- the replies that a ticket of a script gets in the serial run
pub serial_values : (m : Meaning) → IsScript m → (t : ℕ) → t < m.requests → AreReplies (serial (session_of m) t).entries
serial_values m S t l = (ticket_values m S t l (before_values m S t (omega (arith, l)))).replies
