-- Tables whose keys and values a program can hold keep that, and reply such values.
use Rattle.std.proofs.Common.{◌≡◌, ℕ, zero, suc, ◌+◌, ◌<◌, ◌≤◌, ◌^◌, pos, List, [], ◌∷◌, Option, Some, None, Bool, true, false, cond, not, ◌&&◌, ◌||◌, refl, sym, ◌∙◌, subst, arith, lit<}
use Rattle.std.proofs.lemmas.Option.{same_Some, none-some}
use Rattle.std.specs.Prelude.{unwrap_or, if◌then◌else◌}
use Rattle.std.specs.List.{AllByRecursion}
use Rattle.std.specs.FinMap as map
use Rattle.std.specs.FinSet as set
use Rattle.session_values.specs.declared.kind.Kind.{Kind}
use Rattle.session_values.specs.declared.kind.Kind.TheVariants.{Get, Put, Swap, Del, Size, Bump, Has, Add, Mark, Drop, Count}
use Rattle.session_values.specs.declared.value.Value.{Value}
use Rattle.session_values.specs.declared.value.Value.TheVariants.{Nil, Num}
use Rattle.session_values.specs.declared.op.Op.{Op}
use Rattle.session_values.specs.Dialogue.{Entry}
use Rattle.session_values.specs.Op.{IsHeld}
use Rattle.session_values.specs.Values.{value_cmp, value_eq, value_cmp_total, IsValue}
use Rattle.session_values.specs.Tables.{AreValues, Bindings, Container, Members, Tables, after_on, bit, bound_to, bumped, map_after, map_reply, reply, reply_on, set_after, set_reply, size_of, step, table}
use Rattle.session_values.proofs.Bumps.{bumped_value}
use Rattle.session_values.proofs.Sizes.{step_few}
use Rattle.session_values.proofs.Starts.{values_none}
use Rattle.session_journal.specs.Journal.{run}
use Rattle.session_journal.specs.Script.{adds_on}
use Rattle.session_values.proofs.Equal.{same_value}
use Rattle.session_values.proofs.Puts.{values_put}

-- a program can hold the replies
abbrev pub AreReplies : List Entry → Type 0
AreReplies es = AllByRecursion (λ e. IsValue e.reply) es

-- ---- one container
map_insert_values : (m : map.FinMap value_cmp Value) (k v : Value) → AreValues (Bindings m) → IsValue k → IsValue v → AreValues (Bindings (map.insert m k v))
map_insert_values m k v h p q l x g = by_key (value_eq l k) refl (sym (map.get-insert value_cmp_total m k v l) ∙ g)
  where
    by_key : (b : Bool) → value_eq l k ≡ b → cond b (Some v) (map.get m l) ≡ Some x → IsValue l × IsValue x
    by_key true e g = (subst IsValue (sym (same_value l k e)) p, subst IsValue (same_Some v x g) q)
    by_key false e g = h l x g

map_remove_values : (m : map.FinMap value_cmp Value) (k : Value) → AreValues (Bindings m) → AreValues (Bindings (map.remove m k))
map_remove_values m k h l x g = by_key (value_eq l k) (sym (map.get-remove value_cmp_total m k l) ∙ g)
  where
    by_key : (b : Bool) → cond b None (map.get m l) ≡ Some x → IsValue l × IsValue x
    by_key true g = absurd (none-some x g)
    by_key false g = h l x g

set_insert_values : (s : set.FinSet value_cmp) (k : Value) → AreValues (Members s) → IsValue k → AreValues (Members (set.insert s k))
set_insert_values s k h p l g = by_key (value_eq l k) refl (sym (set.contains-insert value_cmp_total s k l) ∙ g)
  where
    by_key : (b : Bool) → value_eq l k ≡ b → (b || set.contains s l) ≡ true → IsValue l
    by_key true e g = subst IsValue (sym (same_value l k e)) p
    by_key false e g = h l g

set_remove_values : (s : set.FinSet value_cmp) (k : Value) → AreValues (Members s) → AreValues (Members (set.remove s k))
set_remove_values s k h l g = by_key (value_eq l k) (sym (set.contains-remove value_cmp_total s k l) ∙ g)
  where
    by_key : (b : Bool) → (not b && set.contains s l) ≡ true → IsValue l
    by_key true g = cc
    by_key false g = h l g

bump_values : (m : map.FinMap value_cmp Value) (k v : Value) → AreValues (Bindings m) → IsValue k → IsValue v → AreValues (Bindings (bound_to m k (bumped v (map.get m k))))
bump_values m k v h p q = by_case (bumped v (map.get m k)) (λ w e. bumped_value v w (map.get m k) q (λ x f. (h k x f).1) e)
  where
    by_case : (o : Option Value) → ((w : Value) → o ≡ Some w → IsValue w) → AreValues (Bindings (bound_to m k o))
    by_case None g = map_remove_values m k h
    by_case (Some w) g = map_insert_values m k w h p (g w refl)

map_values : (m : map.FinMap value_cmp Value) (kind : Kind) (k v : Value) → AreValues (Bindings m) → IsValue k → IsValue v → AreValues (Bindings (map_after m kind k v))
map_values m Get k v h p q = h
map_values m Put k v h p q = map_insert_values m k v h p q
map_values m Swap k v h p q = map_insert_values m k v h p q
map_values m Del k v h p q = map_remove_values m k h
map_values m Size k v h p q = h
map_values m Bump k v h p q = bump_values m k v h p q
map_values m Has k v h p q = h
map_values m Add k v h p q = h
map_values m Mark k v h p q = h
map_values m Drop k v h p q = h
map_values m Count k v h p q = h

set_values : (s : set.FinSet value_cmp) (kind : Kind) (k : Value) → AreValues (Members s) → IsValue k → AreValues (Members (set_after s kind k))
set_values s Get k h p = h
set_values s Put k h p = h
set_values s Swap k h p = h
set_values s Del k h p = h
set_values s Size k h p = h
set_values s Bump k h p = h
set_values s Has k h p = h
set_values s Add k h p = set_insert_values s k h p
set_values s Mark k h p = set_insert_values s k h p
set_values s Drop k h p = set_remove_values s k h
set_values s Count k h p = h

after_values : (c : Container) (op : Op) → AreValues c → IsHeld op → AreValues (after_on c op)
after_values (Bindings m) op h g = map_values m op.kind op.key op.value h g.key g.value
after_values (Members s) op h g = set_values s op.kind op.key h g.key

-- ---- its replies
bound_value : (m : map.FinMap value_cmp Value) (k : Value) → AreValues (Bindings m) → IsValue (unwrap_or (map.get m k) Nil)
bound_value m k h = by_case (map.get m k) refl
  where
    by_case : (o : Option Value) → map.get m k ≡ o → IsValue (unwrap_or o Nil)
    by_case None e = tt
    by_case (Some v) e = (h k v e).1

map_reply_value : (m : map.FinMap value_cmp Value) (kind : Kind) (k : Value) → AreValues (Bindings m) → map.len m < 2 ^ 63 → IsValue (map_reply m kind k)
map_reply_value m Get k h l = bound_value m k h
map_reply_value m Put k h l = tt
map_reply_value m Swap k h l = bound_value m k h
map_reply_value m Del k h l = tt
map_reply_value m Size k h l = l
map_reply_value m Bump k h l = tt
map_reply_value m Has k h l = tt
map_reply_value m Add k h l = tt
map_reply_value m Mark k h l = tt
map_reply_value m Drop k h l = tt
map_reply_value m Count k h l = tt

bit_value : (b : Bool) → IsValue (bit b)
bit_value true = lit< tt
bit_value false = lit< tt

new_value : (b : Bool) → IsValue (if b then Num (pos 0) else Num (pos 1))
new_value true = lit< tt
new_value false = lit< tt

set_reply_value : (s : set.FinSet value_cmp) (kind : Kind) (k : Value) → set.len s < 2 ^ 63 → IsValue (set_reply s kind k)
set_reply_value s Get k l = tt
set_reply_value s Put k l = tt
set_reply_value s Swap k l = tt
set_reply_value s Del k l = tt
set_reply_value s Size k l = tt
set_reply_value s Bump k l = tt
set_reply_value s Has k l = bit_value (set.contains s k)
set_reply_value s Add k l = new_value (set.contains s k)
set_reply_value s Mark k l = tt
set_reply_value s Drop k l = tt
set_reply_value s Count k l = l

reply_value : (c : Container) (op : Op) → AreValues c → size_of c < 2 ^ 63 → IsValue (reply_on c op)
reply_value (Bindings m) op h l = map_reply_value m op.kind op.key h l
reply_value (Members s) op h l = set_reply_value s op.kind op.key l

-- ---- all tables
table_values : (ts : Tables) (i : ℕ) → AllByRecursion AreValues ts → AreValues (table ts i)
table_values [] i h = values_none
table_values (c ∷ ts) zero h = h.0
table_values (c ∷ ts) (suc i) h = table_values ts i h.1

pub step_values : (ts : Tables) (op : Op) → AllByRecursion AreValues ts → IsHeld op → AllByRecursion AreValues (step ts op)
unfolding step
step_values ts op h g = values_put ts op.table (after_on (table ts op.table) op) (after_values (table ts op.table) op (table_values ts op.table h) g) h

pub reply_values : (ts : Tables) (op : Op) → AllByRecursion AreValues ts → size_of (table ts op.table) < 2 ^ 63 → IsValue (reply ts op)
unfolding reply
reply_values ts op h l = reply_value (table ts op.table) op (table_values ts op.table h) l

-- the sizes of tables after a list of operations
pub run_few : (ts : Tables) (es : List Entry) (i : ℕ) → size_of (table (run ts es) i) ≤ size_of (table ts i) + adds_on i es
run_few ts [] i = omega arith
run_few ts (e ∷ es) i = omega (arith, run_few (step ts e.op) es i, step_few ts e.op i)
