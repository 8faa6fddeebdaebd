-- A run passes no more points that replies led to than it has replies, and points of its handler alone.
use Rattle.std.proofs.Common.{◌≡◌, ℕ, zero, suc, ◌+◌, ◌<◌, ◌≤◌, arith, Bool, true, false, if◌then◌else◌, List, [], ◌∷◌, ◌++◌, length}
use Rattle.std.specs.Prelude.{pos}
use Rattle.std.specs.List.{AllByRecursion}
use Rattle.session_values.specs.declared.value.Value.{Value}
use Rattle.session_values.specs.declared.value.Value.TheVariants.{Num}
use Rattle.check_meaning.specs.Code.{Code, Finish, Move, Ask, Fork, Loop, Quit, IsNumbered, points}
use Rattle.check_meaning.specs.Dialogue.{Env, with_value, value_of, holds, with_reply, Place, Outcome, Calls, Answers, Goes, after, then_do, pass, turns, run, passed_by}
use Rattle.handler_machine.specs.Serving.{replied_count}
use Rattle.handler_machine.proofs.Places.{count_append}

-- the replies that an outcome has used, by the points, and those that are left
abbrev Uses : ℕ → Outcome → Type 0
Uses n (Calls passed op) = replied_count passed ≤ n
Uses n (Answers passed values) = replied_count passed ≤ n
Uses n (Goes passed env left) = replied_count passed + length left ≤ n

uses_all : (n : ℕ) (o : Outcome) → Uses n o → replied_count (passed_by o) ≤ n
uses_all n (Calls passed op) h = h
uses_all n (Answers passed values) h = h
uses_all n (Goes passed env left) h = omega (arith, h)

uses_after : (n m : ℕ) (ps : List Place) (o : Outcome) → replied_count ps + m ≤ n → Uses m o → Uses n (after ps o)
uses_after n m ps (Calls qs op) h u = omega (arith, h, u, count_append ps qs)
uses_after n m ps (Answers qs vs) h u = omega (arith, h, u, count_append ps qs)
uses_after n m ps (Goes qs env left) h u = omega (arith, h, u, count_append ps qs)

uses_then : (n : ℕ) (o : Outcome) (f : Env → List Value → Outcome) → Uses n o → ((env : Env) (left : List Value) → Uses (length left) (f env left)) → Uses n (then_do o f)
uses_then n (Calls qs op) f u k = u
uses_then n (Answers qs vs) f u k = u
uses_then n (Goes qs env left) f u k = uses_after n (length left) qs (f env left) u (k env left)

uses_pass : (n p : ℕ) (env : Env) (o : Outcome) → Uses n o → Uses n (pass p env false o)
uses_pass n p env o u = uses_after n n (record { point = p; env = env; replied = false } ∷ []) o (omega arith) u

uses_turns : (body : Env → List Value → Outcome) (x : ℕ) → ((env : Env) (left : List Value) → Uses (length left) (body env left)) → (n i : ℕ) (env : Env) (left : List Value) → Uses (length left) (turns body x n i env left)
uses_turns body x h zero i env left = omega arith
uses_turns body x h (suc n) i env left = uses_then (length left) (body (with_value env x (Num (pos i))) left) (turns body x n (i + 1)) (h (with_value env x (Num (pos i))) left) (λ e l. uses_turns body x h n (i + 1) e l)

uses : (code : Code) (env : Env) (left : List Value) → Uses (length left) (run code env left)
uses Finish env left = omega arith
uses (Move x e rest) env left = uses rest (with_value env x (value_of e env)) left
uses (Ask at p x c rest) env [] = omega arith
uses (Ask at p x c rest) env (v ∷ left) = uses_after (length (v ∷ left)) (length left) (record { point = p; env = with_reply x v env; replied = true } ∷ []) (run rest (with_reply x v env) left) (omega arith) (uses rest (with_reply x v env) left)
uses (Fork at p q test a b rest) env left =
    uses_then (length left) (if holds test env then pass p env false (run a env left) else pass q env false (run b env left)) (run rest) (side (holds test env) (uses a env left) (uses b env left)) (λ e l. uses rest e l)
  where
    side : (r : Bool) → Uses (length left) (run a env left) → Uses (length left) (run b env left) → Uses (length left) (if r then pass p env false (run a env left) else pass q env false (run b env left))
    side true ua ub = uses_pass (length left) p env (run a env left) ua
    side false ua ub = uses_pass (length left) q env (run b env left) ub
uses (Loop at p n x body rest) env left =
    uses_then (length left) (turns (run body) x n 0 env left) (λ e l. pass p e false (run rest e l)) (uses_turns (run body) x (λ e l. uses body e l) n 0 env left) (λ e l. uses_pass (length l) p e (run rest e l) (uses rest e l))
uses (Quit es rest) env left = omega arith

pub counted : (code : Code) (env : Env) (rs : List Value) → replied_count (passed_by (run code env rs)) ≤ length rs
counted code env rs = uses_all (length rs) (run code env rs) (uses code env rs)

-- ---- the points of a run
abbrev Below : ℕ → Outcome → Type 0
Below n o = AllByRecursion (λ (p : Place). p.point < n) (passed_by o)

all_append : (n : ℕ) (ps qs : List Place) → AllByRecursion (λ (p : Place). p.point < n) ps → AllByRecursion (λ (p : Place). p.point < n) qs → AllByRecursion (λ (p : Place). p.point < n) (ps ++ qs)
all_append n [] qs h k = k
all_append n (p ∷ ps) qs h k = (h.0, all_append n ps qs h.1 k)

below_after : (n : ℕ) (ps : List Place) (o : Outcome) → AllByRecursion (λ (p : Place). p.point < n) ps → Below n o → Below n (after ps o)
below_after n ps (Calls qs op) h k = all_append n ps qs h k
below_after n ps (Answers qs vs) h k = all_append n ps qs h k
below_after n ps (Goes qs env left) h k = all_append n ps qs h k

below_then : (n : ℕ) (o : Outcome) (f : Env → List Value → Outcome) → Below n o → ((env : Env) (left : List Value) → Below n (f env left)) → Below n (then_do o f)
below_then n (Calls qs op) f h k = h
below_then n (Answers qs vs) f h k = h
below_then n (Goes qs env left) f h k = below_after n qs (f env left) h (k env left)

below_turns : (m : ℕ) (body : Env → List Value → Outcome) (x : ℕ) → ((env : Env) (left : List Value) → Below m (body env left)) → (n i : ℕ) (env : Env) (left : List Value) → Below m (turns body x n i env left)
below_turns m body x h zero i env left = tt
below_turns m body x h (suc n) i env left = below_then m (body (with_value env x (Num (pos i))) left) (turns body x n (i + 1)) (h (with_value env x (Num (pos i))) left) (λ e l. below_turns m body x h n (i + 1) e l)

below : (code : Code) (i n : ℕ) → IsNumbered code i → i + points code ≤ n → (env : Env) (left : List Value) → Below n (run code env left)
below Finish i n w le env left = tt
below (Move x e rest) i n w le env left = below rest i n w le (with_value env x (value_of e env)) left
below (Ask at p x c rest) i n w le env [] = tt
below (Ask at p x c rest) i n w le env (v ∷ left) =
    let e : p ≡ i = w.0 in
    below_after n (record { point = p; env = with_reply x v env; replied = true } ∷ []) (run rest (with_reply x v env) left) (omega arith, tt) (below rest (i + 1) n w.1 (omega arith) (with_reply x v env) left)
below (Fork at p q test a b rest) i n w le env left =
    let e : p ≡ i = w.0 in
    let f : q ≡ i + 1 + points a = w.2 in
    let ha : Below n (pass p env false (run a env left)) = below_after n (record { point = p; env = env; replied = false } ∷ []) (run a env left) (omega arith, tt) (below a (i + 1) n w.1 (omega arith) env left) in
    let hb : Below n (pass q env false (run b env left)) = below_after n (record { point = q; env = env; replied = false } ∷ []) (run b env left) (omega arith, tt) (below b (i + 2 + points a) n w.3 (omega arith) env left) in
    below_then n (if holds test env then pass p env false (run a env left) else pass q env false (run b env left)) (run rest) (side (holds test env) ha hb) (λ g l. below rest (i + 2 + points a + points b) n w.4 (omega arith) g l)
  where
    side : (r : Bool) → Below n (pass p env false (run a env left)) → Below n (pass q env false (run b env left)) → Below n (if r then pass p env false (run a env left) else pass q env false (run b env left))
    side true ha hb = ha
    side false ha hb = hb
below (Loop at p m x body rest) i n w le env left =
    let e : p ≡ i + points body = w.1 in
    below_then n (turns (run body) x m 0 env left) (λ g l. pass p g false (run rest g l)) (below_turns n (run body) x (λ g l. below body i n w.0 (omega arith) g l) m 0 env left)
    (λ g l. below_after n (record { point = p; env = g; replied = false } ∷ []) (run rest g l) (omega arith, tt) (below rest (i + points body + 1) n w.2 (omega arith) g l))
below (Quit es rest) i n w le env left = tt

-- ---- what makes the declarations of a handler lawful
pub points_below : (code : Code) → IsNumbered code 1 → (env : Env) (rs : List Value) → AllByRecursion (λ (p : Place). p.point < 1 + points code) (passed_by (run code env rs))
points_below code w env rs = below code 1 (1 + points code) w (omega arith) env rs
