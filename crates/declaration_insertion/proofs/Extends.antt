-- More replies only add to a run.
use Rattle.std.proofs.Common.{◌≡◌, ℕ, zero, suc, ◌+◌, Bool, true, false, if◌then◌else◌, List, [], ◌∷◌, ◌++◌, refl, sym, ap, ◌∙◌, subst, append_assoc, append-nil}
use Rattle.std.specs.Prelude.{pos}
use Rattle.session_values.specs.declared.value.Value.{Value}
use Rattle.session_values.specs.declared.value.Value.TheVariants.{Num}
use Rattle.handler_check.specs.Code.{Code, Finish, Move, Ask, Fork, Loop, Quit}
use Rattle.handler_check.specs.Dialogue.{Env, with_value, value_of, holds, Place, Outcome, Calls, Answers, Goes, after, then_do, pass, with_reply, turns, run, passed_by}
use Rattle.handler_check.proofs.Runs.{passed_after}

-- the outcome with more replies
abbrev pub Extends : List Value → Outcome → Outcome → Type 0
Extends more (Calls passed op) o = (rest : List Place) × (passed_by o ≡ passed ++ rest)
Extends more (Answers passed values) o = o ≡ Answers passed values
Extends more (Goes passed env left) o = o ≡ Goes passed env (left ++ more)

extends_after : (more : List Value) (ps : List Place) (o u : Outcome) → Extends more o u → Extends more (after ps o) (after ps u)
extends_after more ps (Calls qs op) u h = (h.0, passed_after ps u ∙ ap (λ z. ps ++ z) h.1 ∙ sym (append_assoc ps qs h.0))
extends_after more ps (Answers qs values) u h = ap (after ps) h
extends_after more ps (Goes qs env left) u h = ap (after ps) h

passed_then : (u : Outcome) (next : Env → List Value → Outcome) → (rest : List Place) × (passed_by (then_do u next) ≡ passed_by u ++ rest)
passed_then (Calls qs op) next = ([], sym (append-nil qs))
passed_then (Answers qs values) next = ([], sym (append-nil qs))
passed_then (Goes qs env left) next = (passed_by (next env left), passed_after qs (next env left))

extends_then : (more : List Value) (o u : Outcome) (next : Env → List Value → Outcome) → Extends more o u → ((env : Env) (left : List Value) → Extends more (next env left) (next env (left ++ more))) → Extends more (then_do o next) (then_do u next)
extends_then more (Calls qs op) u next h k =
    let t = passed_then u next in
    (h.0 ++ t.0, t.1 ∙ ap (λ (z : List Place). z ++ t.0) h.1 ∙ append_assoc qs h.0 t.0)
extends_then more (Answers qs values) u next h k = ap (λ z. then_do z next) h
extends_then more (Goes qs env left) u next h k =
    subst (λ (z : Outcome). Extends more (after qs (next env left)) (then_do z next)) (sym h) (extends_after more qs (next env left) (next env (left ++ more)) (k env left))

extends_choice : (more : List Value) (b : Bool) (o p u v : Outcome) → Extends more o u → Extends more p v → Extends more (if b then o else p) (if b then u else v)
extends_choice more true o p u v h k = h
extends_choice more false o p u v h k = k

extends_turns : (more : List Value) (body : Env → List Value → Outcome) (x n i : ℕ) → ((env : Env) (left : List Value) → Extends more (body env left) (body env (left ++ more))) → (env : Env) (left : List Value) → Extends more (turns body x n i env left) (turns body x n i env (left ++ more))
extends_turns more body x zero i one env left = refl
extends_turns more body x (suc n) i one env left =
    extends_then more (body (with_value env x (Num (pos i))) left) (body (with_value env x (Num (pos i))) (left ++ more)) (turns body x n (i + 1)) (one (with_value env x (Num (pos i))) left) (λ e l. extends_turns more body x n (i + 1) one e l)

pub extends_run : (code : Code) (more : List Value) (env : Env) (left : List Value) → Extends more (run code env left) (run code env (left ++ more))
extends_run Finish more env left = refl
extends_run (Move x e rest) more env left = extends_run rest more (with_value env x (value_of e env)) left
extends_run (Ask at p x c rest) more env [] = (passed_by (run (Ask at p x c rest) env more), refl)
extends_run (Ask at p x c rest) more env (v ∷ left) =
    extends_after more (record { point = p; env = with_reply x v env; replied = true } ∷ []) (run rest (with_reply x v env) left) (run rest (with_reply x v env) (left ++ more)) (extends_run rest more (with_reply x v env) left)
extends_run (Fork at p q test a b rest) more env left =
    extends_then more (if holds test env then pass p env false (run a env left) else pass q env false (run b env left)) (if holds test env then pass p env false (run a env (left ++ more)) else pass q env false (run b env (left ++ more))) (run rest) (extends_choice more (holds test env) (pass p env false (run a env left)) (pass q env false (run b env left)) (pass p env false (run a env (left ++ more))) (pass q env false (run b env (left ++ more))) (extends_after more (record { point = p; env = env; replied = false } ∷ []) (run a env left) (run a env (left ++ more)) (extends_run a more env left)) (extends_after more (record { point = q; env = env; replied = false } ∷ []) (run b env left) (run b env (left ++ more)) (extends_run b more env left))) (λ e l. extends_run rest more e l)
extends_run (Loop at p n x body rest) more env left =
    extends_then more (turns (run body) x n 0 env left) (turns (run body) x n 0 env (left ++ more)) (λ e l. pass p e false (run rest e l)) (extends_turns more (run body) x n 0 (extends_run body more) env left) (λ e l. extends_after more (record { point = p; env = e; replied = false } ∷ []) (run rest e l) (run rest e (l ++ more)) (extends_run rest more e l))
extends_run (Quit es rest) more env left = refl
