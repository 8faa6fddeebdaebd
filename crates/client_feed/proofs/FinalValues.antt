-- The tables behind the serial run of a script hold what a program can hold.
use Rattle.std.proofs.Common.{◌≡◌, ℕ, zero, suc, ◌≤◌, List, [], ◌∷◌, Some, None, refl, sym, ap, subst, arith}
use Rattle.std.specs.List.{AllByRecursion}
use Rattle.session_values.specs.declared.op.Op.{Op}
use Rattle.session_values.specs.declared.reply.Reply.{Reply}
use Rattle.session_values.specs.declared.value.Value.{Value}
use Rattle.session_values.specs.Dialogue.{Next, Calls, Answers, Dialogue, rest}
use Rattle.session_values.specs.Serial.{Served, served_first, serve, tables_before}
use Rattle.session_values.specs.Tables.{AreValues, Tables, reply, step, table}
use Rattle.session_values.specs.Values.{IsValue}
use Rattle.session_values.proofs.Starts.{values_none}
use Rattle.session_hall.specs.Script.{HasValues, IsScript, Meaning, session_of}
use Rattle.session_hall.specs.Closings.{ClosedView, IsDone}
use Rattle.session_values.proofs.Openings.{opening_values}
use Rattle.session_hall.proofs.Serial.{serve-answers, serve-calls}
use Rattle.hall_serving.proofs.Serving.{serial_values}
use Rattle.hall_serving.proofs.Values.{AreReplies, step_values}
use Rattle.client_feed.specs.Reopening.{final_of}

abbrev GivesValues : Dialogue → Type 0
GivesValues f = (more : List Value) → AllByRecursion IsValue more → HasValues (f more)

record IsKept (ts : Tables) (s : Served) : Type 0 where
  values : AllByRecursion AreValues s.after

kept_answer : (n : ℕ) (f : Dialogue) (ts : Tables) (r : Reply) → f [] ≡ Answers r → AllByRecursion AreValues ts → IsKept ts (serve n f ts)
kept_answer n f ts r e h = subst (IsKept ts) (sym (serve-answers n f ts r e)) (record { values = h })

keep : (n : ℕ) (f : Dialogue) (ts : Tables) → GivesValues f → AreReplies (serve n f ts).entries → AllByRecursion AreValues ts → IsKept ts (serve n f ts)
keep zero f ts v a h = elim (f []) as (λ x. f [] ≡ x → IsKept ts (serve zero f ts)) [
  | Calls op ↦ λ e. subst (IsKept ts) (sym (stopped op e)) (record { values = h })
  | Answers r ↦ λ e. kept_answer zero f ts r e h
] refl
  where
    stopped : (op : Op) → f [] ≡ Calls op → serve zero f ts ≡ record { entries = []; answer = None; after = ts }
    stopped op e = ap (λ (x : Next). elim x as (λ _. Served) [ Calls op ↦ record { entries = []; answer = None; after = ts } | Answers s ↦ record { entries = []; answer = Some s; after = ts } ]) e
keep (suc n) f ts v a h = elim (f []) as (λ x. f [] ≡ x → IsKept ts (serve (suc n) f ts)) [
  | Calls op ↦ λ e.
      (let r : Value = reply ts op in
      let is = serve-calls n f ts op e in
      let all : AreReplies (served_first (record { op = op; reply = r }) (serve n (rest f (r ∷ [])) (step ts op))).entries = subst (λ (s : Served). AreReplies s.entries) is a in
      let more = keep n (rest f (r ∷ [])) (step ts op) (λ vs l. v (r ∷ vs) (all.0, l)) all.1 (step_values ts op h (subst HasValues e (v [] tt))) in
      subst (IsKept ts) (sym is) (record { values = more.values }))
  | Answers r ↦ λ e. kept_answer (suc n) f ts r e h
] refl

held_before : (m : Meaning) → IsScript m → (t : ℕ) → t ≤ m.requests → AllByRecursion AreValues (tables_before (session_of m) t)
held_before m s zero l = subst (AllByRecursion AreValues) (sym s.opening) (opening_values m.shape m.opened s.opened.entries)
held_before m s (suc t) l = (keep (m.length t) (m.next t) (tables_before (session_of m) t) (s.values t) (serial_values m s t (omega (arith, l))) (held_before m s t (omega (arith, l)))).values

values_at : (ts : Tables) (t : ℕ) → AllByRecursion AreValues ts → AreValues (table ts t)
values_at [] t h = λ k v g. values_none k v g
values_at (c ∷ ts) zero h = h.0
values_at (c ∷ ts) (suc t) h = values_at ts t h.1

pub final_values : (m : Meaning) (d : ClosedView) → IsDone m d → (t : ℕ) → AreValues (table (final_of m) t)
final_values m d k t = values_at (final_of m) t (held_before m k.script_kept m.requests (omega arith))
