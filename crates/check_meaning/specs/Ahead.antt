-- What is ahead of a run, and the run of a block with what comes after it: the form in which a walk
-- over the tree keeps it.
use Rattle.std.specs.Prelude.{ℕ, zero, suc, ◌+◌, Bool, true, false, if◌then◌else◌, pos, List, [], ◌∷◌, map}
use Rattle.session_values.specs.declared.value.Value.{Value}
use Rattle.session_values.specs.declared.value.Value.TheVariants.{Num}
use Rattle.session_values.specs.declared.op.Op.{Op}
use Rattle.check_meaning.specs.Code.{Code, Finish, Move, Ask, Fork, Loop, Quit}
use Rattle.check_meaning.specs.Dialogue.{Env, with_value, value_of, holds, op_of, Outcome, Calls, Answers, Goes, pass, with_reply}

-- what a run does with the replies that are still to come
abbrev pub Ahead : Type 0
Ahead = List Value → Outcome

-- calls an operation, and goes on with its reply
abbrev pub asked : Op → (Value → Ahead) → Ahead
asked op next [] = Calls [] op
asked op next (v ∷ left) = next v left

-- passes a point first
abbrev pub passing : ℕ → Env → Bool → Ahead → Ahead
passing p env replied next = λ left. pass p env replied (next left)

-- answers
abbrev pub answering : List Value → Ahead
answering values = λ left. Answers [] values

-- the end of a handler
abbrev pub goes : Env → Ahead
goes env = λ left. Goes [] env left

-- n turns, the first of which has the number i, and then the rest
abbrev pub turns_then : ((Env → Ahead) → Env → Ahead) → ℕ → ℕ → ℕ → (Env → Ahead) → Env → Ahead
turns_then body x zero i k env = k env
turns_then body x (suc n) i k env = body (turns_then body x n (i + 1) k)
    (with_value env x (Num (pos i)))

-- a block, and then the rest
abbrev pub run_then : Code → (Env → Ahead) → Env → Ahead
run_then Finish k env = k env
run_then (Move x e rest) k env = run_then rest k (with_value env x (value_of e env))
run_then (Ask at p x c rest) k env = asked (op_of c env)
    (λ v. passing p (with_reply x v env) true (run_then rest k (with_reply x v env)))
run_then (Fork at p q test a b rest) k env =
    if holds test env then passing p env false (run_then a (run_then rest k) env) else passing q
    env false (run_then b (run_then rest k) env)
run_then (Loop at p n x body rest) k env = turns_then (run_then body) x n 0
    (λ e. passing p e false (run_then rest k e)) env
run_then (Quit es rest) k env = answering (map (λ e. value_of e env) es)
