-- What comes next fits the tables, and a program can hold it.
use Rattle.std.proofs.Common.{◌≡◌, ℕ, zero, suc, ◌+◌, ◌<◌, ◌≤◌, ◌^◌, Bool, true, false, if◌then◌else◌, ◌&&◌, List, [], ◌∷◌, length, map, Option, Some, None, refl, sym, ap, subst, arith}
use Rattle.std.specs.Prelude.{ℤ, pos, negsuc, ◌+ℤ◌, ◌-ℤ◌, ◌*ℤ◌, int_le, ◌==◌}
use Rattle.std.specs.List.{AllByRecursion}
use Rattle.std.proofs.lemmas.Bool.{and_parts}
use Rattle.std.proofs.lemmas.Int.{ints}
use Rattle.session_values.specs.declared.value.Value.{Value}
use Rattle.session_values.specs.declared.value.Value.TheVariants.{Nil, Num, Sym}
use Rattle.session_values.specs.declared.kind.TableKind.{TableKind}
use Rattle.session_values.specs.declared.op.Op.{Op}
use Rattle.session_values.specs.Dialogue.{Calls as NextCalls}
use Rattle.session_values.specs.Reply.{reply_of, IsHeldReply}
use Rattle.session_values.specs.Tables.{Fits}
use Rattle.session_values.specs.Values.{IsValue}
use Rattle.syntax_trees.specs.declared.expr.Calc.{Calc}
use Rattle.syntax_trees.specs.declared.expr.Calc.TheVariants.{Plus, Minus, Times}
use Rattle.check_meaning.specs.declared.tree.CheckedAtom.{CheckedAtom}
use Rattle.check_meaning.specs.declared.tree.CheckedAtom.TheVariants.{Lit, Var}
use Rattle.check_meaning.specs.declared.tree.CheckedCall.{CheckedCall}
use Rattle.check_meaning.specs.Code.{Term, Atom, Calculate, Code, Finish, Move, Ask, Fork, Loop, Quit}
use Rattle.check_meaning.specs.Dialogue.{Env, env_of, with_value, in_range, calculated, atom_value, value_of, holds, op_of, Place, Outcome, Calls, Answers, Goes, after, then_do, pass, with_reply, turns, run, ended, next}
use Rattle.check_meaning.specs.Keeps.{CallsFit, IsHeldNext, KeepsValues}
use Rattle.check_meaning.specs.Within.{AtomWithin, TermWithin, CallWithin, CodeWithin}

-- ---- numbers
picked : (b : Bool) (v : Value) → (b ≡ true → IsValue v) → IsValue (if b then v else Nil)
picked true v h = h refl
picked false v h = tt

low_enough : (n : ℕ) → int_le (pos n) (pos 9223372036854775807) ≡ true → n < 2 ^ 63
low_enough n e = grind (arith, ints)

high_enough : (n : ℕ) → int_le (negsuc 9223372036854775807) (negsuc n) ≡ true → n < 2 ^ 63
high_enough n e = grind (arith, ints)

is_number : (z : ℤ) → IsValue (in_range z)
is_number (pos n) =
    let a : Bool = int_le (negsuc 9223372036854775807) (pos n) in
    let b : Bool = int_le (pos n) (pos 9223372036854775807) in
    picked (a && b) (Num (pos n)) (λ e. low_enough n (and_parts a b e).1)
is_number (negsuc n) =
    let a : Bool = int_le (negsuc 9223372036854775807) (negsuc n) in
    let b : Bool = int_le (negsuc n) (pos 9223372036854775807) in
    picked (a && b) (Num (negsuc n)) (λ e. high_enough n (and_parts a b e).0)

is_calculated : (calc : Calc) (v w : Value) → IsValue (calculated calc v w)
is_calculated Plus (Num a) (Num b) = is_number (a +ℤ b)
is_calculated Minus (Num a) (Num b) = is_number (a -ℤ b)
is_calculated Times (Num a) (Num b) = is_number (a *ℤ b)
is_calculated Plus Nil w = tt
is_calculated Plus (Sym p) w = tt
is_calculated Plus (Num a) Nil = tt
is_calculated Plus (Num a) (Sym p) = tt
is_calculated Minus Nil w = tt
is_calculated Minus (Sym p) w = tt
is_calculated Minus (Num a) Nil = tt
is_calculated Minus (Num a) (Sym p) = tt
is_calculated Times Nil w = tt
is_calculated Times (Sym p) w = tt
is_calculated Times (Num a) Nil = tt
is_calculated Times (Num a) (Sym p) = tt

-- ---- where each value of a program is of a kind V, and so are the variables and the replies, so is what comes next
module _ (V : Value → Type 0) (all : (v : Value) → IsValue v → V v) (shape : List TableKind) (n : ℕ) where
  env_with : (env : Env) (x : ℕ) (v : Value) → V v → ((y : ℕ) → V (env y)) → (y : ℕ) → V (with_value env x v y)
  env_with env x v h k y = pick (y == x)
    where
      pick : (b : Bool) → V (if b then v else env y)
      pick true = h
      pick false = k y

  env_reply : (x : Option ℕ) (v : Value) (env : Env) → V v → ((y : ℕ) → V (env y)) → (y : ℕ) → V (with_reply x v env y)
  env_reply None v env h k = k
  env_reply (Some x) v env h k = env_with env x v h k

  atom_held : (a : CheckedAtom) (env : Env) → AtomWithin n a → ((y : ℕ) → V (env y)) → V (atom_value a env)
  atom_held (Lit v) env w k = all v w
  atom_held (Var x) env w k = k x

  term_held : (e : Term) (env : Env) → TermWithin n e → ((y : ℕ) → V (env y)) → V (value_of e env)
  term_held (Atom a) env w k = atom_held a env w k
  term_held (Calculate calc l r) env w k = all (calculated calc (value_of l env) (value_of r env)) (is_calculated calc (value_of l env) (value_of r env))

  terms_held : (es : List Term) (env : Env) → AllByRecursion (TermWithin n) es → ((y : ℕ) → V (env y)) → AllByRecursion V (map (λ e. value_of e env) es)
  terms_held [] env w k = tt
  terms_held (e ∷ es) env w k = (term_held e env w.0 k, terms_held es env w.1 k)

  -- what is held of an outcome
  abbrev Holds : Outcome → Type 0
  Holds (Calls passed op) = Fits shape op × V op.key × V op.value
  Holds (Answers passed values) = (0 < length values) × (length values ≤ 4) × AllByRecursion V values
  Holds (Goes passed env left) = ((y : ℕ) → V (env y)) × AllByRecursion V left

  -- what is held of a part of a run
  abbrev Goal : (Env → List Value → Outcome) → Type 0
  Goal f = (env : Env) (left : List Value) → ((y : ℕ) → V (env y)) → AllByRecursion V left → Holds (f env left)

  holds_after : (ps : List Place) (o : Outcome) → Holds o → Holds (after ps o)
  holds_after ps (Calls qs op) h = h
  holds_after ps (Answers qs vs) h = h
  holds_after ps (Goes qs env left) h = h

  -- one point
  abbrev at : ℕ → Env → Bool → List Place
  at p env replied = record { point = p; env = env; replied = replied } ∷ []

  holds_then : (o : Outcome) (f : Env → List Value → Outcome) → Holds o → Goal f → Holds (then_do o f)
  holds_then (Calls qs op) f h k = h
  holds_then (Answers qs vs) f h k = h
  holds_then (Goes qs env left) f h k = holds_after qs (f env left) (k env left h.0 h.1)

  holds_turns : (body : Env → List Value → Outcome) (x : ℕ) → Goal body → (m i : ℕ) → m + i ≤ 1000 → Goal (turns body x m i)
  holds_turns body x h zero i le env left e l = (e, l)
  holds_turns body x h (suc m) i le env left e l =
      let turn : Value = Num (pos i) in
      let lt : i < 2 ^ 63 = omega arith in
      holds_then (body (with_value env x turn) left) (turns body x m (i + 1)) (h (with_value env x turn) left (env_with env x turn (all turn lt) e) l) (holds_turns body x h m (i + 1) (omega arith))

  holds_side : (r : Bool) (p q : ℕ) (env : Env) (o u : Outcome) → Holds o → Holds u → Holds (if r then pass p env false o else pass q env false u)
  holds_side true p q env o u h k = holds_after (at p env false) o h
  holds_side false p q env o u h k = holds_after (at q env false) u k

  call_held : (c : CheckedCall) (env : Env) → CallWithin shape n c → ((y : ℕ) → V (env y)) → Fits shape (op_of c env) × V (atom_value c.key env) × V (atom_value c.value env)
  call_held c env w e =
      (record { table = w.table; key = λ h. ap (λ (a : CheckedAtom). atom_value a env) (w.no_key h); value = λ h. ap (λ (a : CheckedAtom). atom_value a env) (w.no_value h) }, atom_held c.key env w.key e, atom_held c.value env w.value e)

  pub holds_run : (code : Code) → CodeWithin shape n code → Goal (run code)
  holds_run Finish w env left e l = (e, l)
  holds_run (Move x t rest) w env left e l = holds_run rest w.2 (with_value env x (value_of t env)) left (env_with env x (value_of t env) (term_held t env w.1 e) e) l
  holds_run (Ask place p x c rest) w env [] e l = call_held c env w.1 e
  holds_run (Ask place p x c rest) w env (v ∷ left) e l = holds_after (at p (with_reply x v env) true) (run rest (with_reply x v env) left) (holds_run rest w.2 (with_reply x v env) left (env_reply x v env l.0 e) l.1)
  holds_run (Fork place p q test a b rest) w env left e l =
      holds_then (if holds test env then pass p env false (run a env left) else pass q env false (run b env left)) (run rest) (holds_side (holds test env) p q env (run a env left) (run b env left) (holds_run a w.1 env left e l) (holds_run b w.2 env left e l)) (holds_run rest w.3)
  holds_run (Loop place p m x body rest) w env left e l =
      let few : m + 0 ≤ 1000 = omega (arith, w.2) in
      holds_then (turns (run body) x m 0 env left) (λ f k. pass p f false (run rest f k)) (holds_turns (run body) x (holds_run body w.3) m 0 few env left e l) (λ f k ef lk. holds_after (at p f false) (run rest f k) (holds_run rest w.4 f k ef lk))
  holds_run (Quit es rest) w env left e l =
      (subst (λ (k : ℕ). 0 < k) (sym (length_values es)) w.0, subst (λ (k : ℕ). k ≤ 4) (sym (length_values es)) w.1, terms_held es env w.2 e)
    where
      length_values : (ts : List Term) → length (map (λ t. value_of t env) ts) ≡ length ts
      length_values [] = refl
      length_values (t ∷ ts) = ap suc (length_values ts)

-- ---- the two laws
every_value : (v : Value) → IsValue v → Unit {0}
every_value v h = tt

all_of : (vs : List Value) → AllByRecursion (λ (v : Value). Unit {0}) vs
all_of [] = tt
all_of (v ∷ vs) = (tt, all_of vs)

fits_of : (shape : List TableKind) (o : Outcome) (op : Op) → ended o ≡ NextCalls op → Holds (λ v. Unit {0}) every_value shape 0 o → Fits shape op
fits_of shape (Calls qs u) op e h = (let is : u ≡ op = cc in subst (λ (z : Op). Fits shape z) is h.0)
fits_of shape (Answers qs vs) op e h = cc
fits_of shape (Goes qs env left) op e h = cc

reply_held : (vs : List Value) → length vs ≤ 4 → AllByRecursion IsValue vs → IsHeldReply (reply_of vs)
reply_held [] l h = record { a = tt; b = tt; c = tt; d = tt; count = (omega arith, omega arith, λ k. refl, λ k. refl, λ k. refl) }
reply_held (a ∷ []) l h = record { a = h.0; b = tt; c = tt; d = tt; count = (omega arith, omega arith, λ k. refl, λ k. refl, λ k. refl) }
reply_held (a ∷ b ∷ []) l h = record { a = h.0; b = h.1.0; c = tt; d = tt; count = (omega arith, omega arith, λ k. absurd (omega arith), λ k. refl, λ k. refl) }
reply_held (a ∷ b ∷ c ∷ []) l h = record { a = h.0; b = h.1.0; c = h.1.1.0; d = tt; count = (omega arith, omega arith, λ k. absurd (omega arith), λ k. absurd (omega arith), λ k. refl) }
reply_held (a ∷ b ∷ c ∷ d ∷ more) l h = record { a = h.0; b = h.1.0; c = h.1.1.0; d = h.1.1.1.0; count = (omega arith, omega arith, λ k. absurd (omega arith), λ k. absurd (omega arith), λ k. absurd (omega arith)) }

same_value : (v : Value) → IsValue v → IsValue v
same_value v h = h

next_held : (shape : List TableKind) (n : ℕ) (o : Outcome) → Holds IsValue same_value shape n o → IsHeldNext (ended o)
next_held shape n (Calls qs op) h = record { key = h.1; value = h.2; unused = (h.0.key, h.0.value) }
next_held shape n (Answers qs vs) h = reply_held vs h.1 h.2
next_held shape n (Goes qs env left) h = reply_held [] (omega arith) tt

pub calls_fit : (shape : List TableKind) (n : ℕ) (code : Code) (env : Env) → CodeWithin shape n code → CallsFit shape (next code env)
calls_fit shape n code env w rs op e = fits_of shape (run code env rs) op e (holds_run (λ v. Unit {0}) every_value shape n code w env rs (λ y. tt) (all_of rs))

env_held : (vs : List Value) → AllByRecursion IsValue vs → (x : ℕ) → IsValue (env_of vs x)
env_held [] h x = tt
env_held (v ∷ vs) h zero = h.0
env_held (v ∷ vs) h (suc x) = env_held vs h.1 x

pub keeps_values : (shape : List TableKind) (n : ℕ) (code : Code) (args : List Value) → CodeWithin shape n code → AllByRecursion IsValue args → KeepsValues (next code (env_of args))
keeps_values shape n code args w h rs k = next_held shape n (run code (env_of args) rs) (holds_run IsValue same_value shape n code w (env_of args) rs (env_held args h) k)
