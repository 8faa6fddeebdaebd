-- What each step of the walk leaves ahead.
use Rattle.std.proofs.Common.{◌≡◌, ℕ, zero, suc, ◌+◌, ◌-◌, ◌<◌, ◌≤◌, arith, Bool, true, false, if◌then◌else◌, List, [], ◌∷◌, length, get_or, drop, map, Option, Some, Result, Ok, Err, IsErr, MatchResult, refl, sym, ap, ◌∙◌, subst}
use Rattle.std.specs.Prelude.{pos}
use Rattle.std.specs.List.{AllByRecursion}
use Rattle.std.proofs.lemmas.List.{drop_more, drop_all}
use Rattle.session_values.specs.declared.op.Op.{Op}
use Rattle.session_values.specs.declared.reply.Reply.{Reply}
use Rattle.session_values.specs.declared.value.Value.{Value}
use Rattle.session_values.specs.declared.value.Value.TheVariants.{Num}
use Rattle.session_values.specs.Reply.{reply_of}
use Rattle.check_meaning.specs.declared.tree.CheckedCall.{CheckedCall}
use Rattle.check_meaning.specs.declared.tree.CheckedCond.{CheckedCond}
use Rattle.check_meaning.specs.declared.tree.CheckedExpr.{CheckedExpr}
use Rattle.check_meaning.specs.declared.tree.CheckedStmt.{CheckedStmt}
use Rattle.check_meaning.specs.declared.tree.CheckedStmt.TheVariants.{Store, Perform, Choose, Repeat, Answer}
use Rattle.check_meaning.specs.Ahead.{Ahead, asked, passing, answering, turns_then, run_then}
use Rattle.check_meaning.specs.Code.{Code, Finish, Move, Ask, Fork, Loop, Quit, cond_test, expr_term, stmt_code, block_code}
use Rattle.check_meaning.specs.Dialogue.{Env, with_value, with_reply, value_of, holds, op_of}
use Rattle.check_meaning.specs.Within.{TermWithin, VarWithin}
use Rattle.handler_machine.specs.declared.walk.Flow.{Flow}
use Rattle.handler_machine.specs.declared.walk.Flow.TheVariants.{On, Answered}
use Rattle.handler_machine.specs.Leading.{Leads}
use Rattle.handler_machine.specs.Rounds.{rounds_then}
use Rattle.handler_machine.specs.Runnable.{IsCallWithin, IsRunnable}
use Rattle.check_meaning.proofs.Codes.{code_store, code_perform, code_choose, code_repeat, code_answer}
use Rattle.handler_machine.proofs.Codes.{code_cases}

-- a statement, and then the rest of its block
pub stmt_then : (s : CheckedStmt) (rest : Code) (k : Env → Ahead) → run_then (stmt_code s rest) k ≡ run_then (stmt_code s Finish) (run_then rest k)
stmt_then = code_cases (λ f. (rest : Code) (k : Env → Ahead) → run_then (f rest) k ≡ run_then (f Finish) (run_then rest k))
    (λ x e rest k. refl) (λ at p x c rest k. refl) (λ at p q c a b rest k. refl) (λ at p n x body rest k. refl) (λ es rest k. refl)

pub within_stmt : (n : ℕ) (s : CheckedStmt) (rest : Code) → IsRunnable n (stmt_code s rest) → IsRunnable n (stmt_code s Finish) × IsRunnable n rest
within_stmt n = code_cases (λ f. (rest : Code) → IsRunnable n (f rest) → IsRunnable n (f Finish) × IsRunnable n rest)
    (λ x e rest h. ((h.0, (h.1.0, h.1.1, tt)), (h.0, h.1.2)))
    (λ at p x c rest h. ((h.0, (h.1.0, h.1.1, tt)), (h.0, h.1.2)))
    (λ at p q c a b rest h. ((h.0, (h.1.0, h.1.1, h.1.2, tt)), (h.0, h.1.3)))
    (λ at p m x body rest h. ((h.0, (h.1.0, h.1.1, h.1.2, h.1.3, tt)), (h.0, h.1.4)))
    (λ es rest h. ((h.0, (h.1.0, h.1.1, h.1.2, tt)), (h.0, h.1.3)))

-- the statement at i of an equal list
pub item_at : (ss ts : List CheckedStmt) (i : ℕ) (s d : CheckedStmt) → ts ≡ ss → i < length ts → s ≡ get_or ts i d → (i < length ss) × (s ≡ get_or ss i d)
item_at ss ts i s d e h is = subst (λ (l : List CheckedStmt). (i < length l) × (s ≡ get_or l i d)) e (h, is)

-- the statement at i and the ones behind it
pub code_at : (ss : List CheckedStmt) (i : ℕ) (s d : CheckedStmt) → i < length ss → s ≡ get_or ss i d → block_code (drop i ss) ≡ stmt_code s (block_code (drop (i + 1) ss))
code_at ss i s d h is = ap block_code (drop_more ss i d h) ∙ ap (λ (z : CheckedStmt). stmt_code z (block_code (drop (i + 1) ss))) (sym is)

-- what the kinds of statements keep
pub within_store : (n : ℕ) (s : CheckedStmt) (x : ℕ) (e : CheckedExpr) → s ≡ Store x e → IsRunnable n (stmt_code s Finish) → (x < n) × TermWithin n (expr_term e)
within_store n s x e is h = (let w : IsRunnable n (Move x (expr_term e) Finish) = subst (IsRunnable n) (ap (λ (z : CheckedStmt). stmt_code z Finish) is ∙ code_store x e Finish) h in (w.1.0, w.1.1))

pub within_perform : (n : ℕ) (s : CheckedStmt) (at p : ℕ) (x : Option ℕ) (c : CheckedCall) → s ≡ Perform at p x c → IsRunnable n (stmt_code s Finish) → VarWithin n x × IsCallWithin n c
within_perform n s at p x c is h = (let w : IsRunnable n (Ask at p x c Finish) = subst (IsRunnable n) (ap (λ (z : CheckedStmt). stmt_code z Finish) is ∙ code_perform at p x c Finish) h in (w.1.0, (w.0, w.1.1)))

pub within_choose : (n : ℕ) (s : CheckedStmt) (at p q : ℕ) (c : CheckedCond) (a b : List CheckedStmt) → s ≡ Choose at p q c a b → IsRunnable n (stmt_code s Finish)
    → TermWithin n (expr_term c.left) × TermWithin n (expr_term c.right) × IsRunnable n (block_code a) × IsRunnable n (block_code b)
within_choose n s at p q c a b is h =
    let w : IsRunnable n (Fork at p q (cond_test c) (block_code a) (block_code b) Finish) = subst (IsRunnable n) (ap (λ (z : CheckedStmt). stmt_code z Finish) is ∙ code_choose at p q c a b Finish) h in
    (w.1.0.0, w.1.0.1, (w.0, w.1.1), (w.0, w.1.2))

pub within_repeat : (n : ℕ) (s : CheckedStmt) (at p m x : ℕ) (body : List CheckedStmt) → s ≡ Repeat at p m x body → IsRunnable n (stmt_code s Finish) → (x < n) × IsRunnable n (block_code body)
within_repeat n s at p m x body is h =
    let w : IsRunnable n (Loop at p m x (block_code body) Finish) = subst (IsRunnable n) (ap (λ (z : CheckedStmt). stmt_code z Finish) is ∙ code_repeat at p m x body Finish) h in
    (w.1.0, (w.0, w.1.3))

pub record AnswerWithin (n : ℕ) (es : List CheckedExpr) : Type 0 where
  pub some : 0 < length (map expr_term es)
  pub few : length (map expr_term es) ≤ 4
  pub terms : AllByRecursion (TermWithin n) (map expr_term es)

pub within_answer : (n : ℕ) (s : CheckedStmt) (es : List CheckedExpr) → s ≡ Answer es → IsRunnable n (stmt_code s Finish) → AnswerWithin n es
within_answer n s es is h =
    let w : IsRunnable n (Quit (map expr_term es) Finish) = subst (IsRunnable n) (ap (λ (z : CheckedStmt). stmt_code z Finish) is ∙ code_answer es Finish) h in
    record { some = w.1.0; few = w.1.1; terms = w.1.2 }

-- the turns of a loop, as rounds with the number in its variable
turns_are_rounds : (body : (Env → Ahead) → Env → Ahead) (x n i : ℕ) (k : Env → Ahead) → rounds_then body (Some x) n i k ≡ turns_then body x n i k
turns_are_rounds body x zero i k = λ j env. k env
turns_are_rounds body x (suc n) i k = λ j env. body (turns_are_rounds body x n (i + 1) k j) (with_value env x (Num (pos i)))

-- where what is ahead has the property S
module _ (S : Ahead → Type 0) (k : Env → Ahead) where
  pub block_ahead : (ss : List CheckedStmt) (i : ℕ) (s d : CheckedStmt) (env : Env) → i < length ss → s ≡ get_or ss i d
      → S (run_then (block_code (drop i ss)) k env) → S (run_then (stmt_code s Finish) (run_then (block_code (drop (i + 1) ss)) k) env)
  block_ahead ss i s d env h is now =
      let one : S (run_then (stmt_code s (block_code (drop (i + 1) ss))) k env) = subst (λ (z : Code). S (run_then z k env)) (code_at ss i s d h is) now in
      subst (λ (z : (Env → Ahead)). S (z env)) (stmt_then s (block_code (drop (i + 1) ss)) k) one

  pub end_ahead : (ss : List CheckedStmt) (i : ℕ) (env : Env) → length ss ≤ i → S (run_then (block_code (drop i ss)) k env) → S (k env)
  end_ahead ss i env h now = subst (λ (z : List CheckedStmt). S (run_then (block_code z) k env)) (drop_all i ss h) now

  pub store_ahead : (s : CheckedStmt) (x : ℕ) (e : CheckedExpr) (env : Env) → s ≡ Store x e → S (run_then (stmt_code s Finish) k env) → S (k (with_value env x (value_of (expr_term e) env)))
  store_ahead s x e env is now = subst (λ (z : Code). S (run_then z k env)) (ap (λ (z : CheckedStmt). stmt_code z Finish) is ∙ code_store x e Finish) now

  pub ask_ahead : (s : CheckedStmt) (at p : ℕ) (x : Option ℕ) (c : CheckedCall) (env : Env) (op : Op) → s ≡ Perform at p x c → op ≡ op_of c env
      → S (run_then (stmt_code s Finish) k env) → S (asked op (λ v. passing p (with_reply x v env) true (k (with_reply x v env))))
  ask_ahead s at p x c env op is o now =
      let one : S (asked (op_of c env) (λ v. passing p (with_reply x v env) true (k (with_reply x v env)))) = subst (λ (z : Code). S (run_then z k env)) (ap (λ (z : CheckedStmt). stmt_code z Finish) is ∙ code_perform at p x c Finish) now in
      subst (λ (z : Op). S (asked z (λ v. passing p (with_reply x v env) true (k (with_reply x v env))))) (sym o) one

  fork_ahead : (s : CheckedStmt) (at p q : ℕ) (c : CheckedCond) (a b : List CheckedStmt) (env : Env) (r : Bool) → s ≡ Choose at p q c a b → holds (cond_test c) env ≡ r
      → S (run_then (stmt_code s Finish) k env) → S ((if r then passing p env false (run_then (block_code a) k env) else passing q env false (run_then (block_code b) k env)))
  fork_ahead s at p q c a b env r is tells now =
      let one : S (if holds (cond_test c) env then passing p env false (run_then (block_code a) k env) else passing q env false (run_then (block_code b) k env)) =
      subst (λ (z : Code). S (run_then z k env)) (ap (λ (z : CheckedStmt). stmt_code z Finish) is ∙ code_choose at p q c a b Finish) now in
      subst (λ (z : Bool). S (if z then passing p env false (run_then (block_code a) k env) else passing q env false (run_then (block_code b) k env))) tells one

  pub yes_ahead : (s : CheckedStmt) (at p q : ℕ) (c : CheckedCond) (a b : List CheckedStmt) (env : Env) → s ≡ Choose at p q c a b → holds (cond_test c) env ≡ true
      → S (run_then (stmt_code s Finish) k env) → S (passing p env false (run_then (block_code a) k env))
  yes_ahead s at p q c a b env is tells now = fork_ahead s at p q c a b env true is tells now

  pub no_ahead : (s : CheckedStmt) (at p q : ℕ) (c : CheckedCond) (a b : List CheckedStmt) (env : Env) → s ≡ Choose at p q c a b → holds (cond_test c) env ≡ false
      → S (run_then (stmt_code s Finish) k env) → S (passing q env false (run_then (block_code b) k env))
  no_ahead s at p q c a b env is tells now = fork_ahead s at p q c a b env false is tells now

  pub loop_ahead : (s : CheckedStmt) (at p n x : ℕ) (body : List CheckedStmt) (env : Env) → s ≡ Repeat at p n x body
      → S (run_then (stmt_code s Finish) k env) → S (rounds_then (run_then (block_code body)) (Some x) n 0 (λ e. passing p e false (k e)) env)
  loop_ahead s at p n x body env is now =
      let to : Env → Ahead = λ e. passing p e false (k e) in
      let one : S (turns_then (run_then (block_code body)) x n 0 to env) = subst (λ (z : Code). S (run_then z k env)) (ap (λ (z : CheckedStmt). stmt_code z Finish) is ∙ code_repeat at p n x body Finish) now in
      subst (λ (z : (Env → Ahead)). S (z env)) (sym (turns_are_rounds (run_then (block_code body)) x n 0 to)) one

  pub answer_ahead : (s : CheckedStmt) (es : List CheckedExpr) (env : Env) → s ≡ Answer es → S (run_then (stmt_code s Finish) k env) → S (answering (map (λ e. value_of e env) (map expr_term es)))
  answer_ahead s es env is now = subst (λ (z : Code). S (run_then z k env)) (ap (λ (z : CheckedStmt). stmt_code z Finish) is ∙ code_answer es Finish) now

  pub round_ahead : (body : (Env → Ahead) → Env → Ahead) (x : Option ℕ) (n i : ℕ) (env : Env) → i < n
      → S (rounds_then body x (n - i) i k env) → S (body (rounds_then body x (n - (i + 1)) (i + 1) k) (with_reply x (Num (pos i)) env))
  round_ahead body x n i env h now =
      let e : n - i ≡ suc (n - (i + 1)) = omega arith in
      subst (λ (z : ℕ). S (rounds_then body x z i k env)) e now

  pub rounds_end : (body : (Env → Ahead) → Env → Ahead) (x : Option ℕ) (n i : ℕ) (env : Env) → n ≤ i → S (rounds_then body x (n - i) i k env) → S (k env)
  rounds_end body x n i env h now =
      let e : n - i ≡ 0 = omega arith in
      subst (λ (z : ℕ). S (rounds_then body x z i k env)) e now

-- where a part led, of which the result is known
pub leads_on : {E : Type 0} (S : Ahead → Type 0) (T : Type 0) (k : Env → Ahead) (env : Env) (a : Reply) (flow : Flow) (r : Result Flow E) → r ≡ Ok flow → flow ≡ On → Leads S T k env a r → S (k env)
leads_on {E} S T k env a flow r was is h = subst (λ (z : Flow). Leads {E = E} S T k env a (Ok z)) is (subst (λ (z : Result Flow E). Leads S T k env a z) was h)

pub leads_answered : {E : Type 0} (S : Ahead → Type 0) (T : Type 0) (k : Env → Ahead) (env : Env) (a : Reply) (flow : Flow) (r : Result Flow E) → r ≡ Ok flow → flow ≡ Answered → Leads S T k env a r → (values : List Value) × (a ≡ reply_of values) × S (answering values)
leads_answered {E} S T k env a flow r was is h = subst (λ (z : Flow). Leads {E = E} S T k env a (Ok z)) is (subst (λ (z : Result Flow E). Leads S T k env a z) was h)

pub leads_stopped : {E : Type 0} (S : Ahead → Type 0) (T : Type 0) (k : Env → Ahead) (env : Env) (a : Reply) (r : Result Flow E) (e : E) → r ≡ Err e → Leads S T k env a r → T
leads_stopped {E} S T k env a r e is h = subst (λ (z : Result Flow E). Leads S T k env a z) is h

pub leads_err : {E : Type 0} (S : Ahead → Type 0) (T : Type 0) (k : Env → Ahead) (env : Env) (a : Reply) (r : Result Flow E) → IsErr r → T → Leads S T k env a r
leads_err S T k env a (Ok x) is t = cc
leads_err S T k env a (Err e) is t = t

pub call_stopped : {E : Type 0} (r : Result Value E) (e : E) (P : Value → Type 0) (T : Type 0) → r ≡ Err e → MatchResult r P (λ _. T) → T
call_stopped {E} r e P T is h = subst (λ (z : Result Value E). MatchResult z P (λ _. T)) is h

-- ---- the size of code, which falls at each call
abbrev pub code_size : Code → ℕ
code_size Finish = 0
code_size (Move x e rest) = 1 + code_size rest
code_size (Ask at p x c rest) = 1 + code_size rest
code_size (Fork at p q test a b rest) = 1 + code_size a + code_size b + code_size rest
code_size (Loop at p n x body rest) = 1 + code_size body + code_size rest
code_size (Quit es rest) = 1 + code_size rest

size_stmt : (s : CheckedStmt) (rest : Code) → code_size (stmt_code s rest) ≡ code_size (stmt_code s Finish) + code_size rest
size_stmt = code_cases (λ f. (rest : Code) → code_size (f rest) ≡ code_size (f Finish) + code_size rest)
    (λ x e rest. omega arith) (λ at p x c rest. omega arith) (λ at p q c a b rest. omega arith) (λ at p n x body rest. omega arith) (λ es rest. omega arith)

size_drop : (ss : List CheckedStmt) (i : ℕ) → code_size (block_code (drop i ss)) ≤ code_size (block_code ss)
size_drop ss zero = omega arith
size_drop [] (suc i) = omega arith
size_drop (s ∷ ss) (suc i) = omega (arith, size_drop ss i, size_stmt s (block_code ss))

pub size_at : (ss : List CheckedStmt) (i : ℕ) (s d : CheckedStmt) → i < length ss → s ≡ get_or ss i d → code_size (stmt_code s Finish) ≤ code_size (block_code ss)
size_at ss i s d h is =
    let e : code_size (block_code (drop i ss)) ≡ code_size (stmt_code s (block_code (drop (i + 1) ss))) = ap code_size (code_at ss i s d h is) in
    omega (arith, e, size_drop ss i, size_stmt s (block_code (drop (i + 1) ss)))

pub size_choose : (s : CheckedStmt) (at p q : ℕ) (c : CheckedCond) (a b : List CheckedStmt) → s ≡ Choose at p q c a b → (code_size (block_code a) < code_size (stmt_code s Finish)) × (code_size (block_code b) < code_size (stmt_code s Finish))
size_choose s at p q c a b is =
    let e : code_size (stmt_code s Finish) ≡ code_size (Fork at p q (cond_test c) (block_code a) (block_code b) Finish) = ap code_size (ap (λ (z : CheckedStmt). stmt_code z Finish) is ∙ code_choose at p q c a b Finish) in
    (omega (arith, e), omega (arith, e))

pub size_repeat : (s : CheckedStmt) (at p n x : ℕ) (body : List CheckedStmt) → s ≡ Repeat at p n x body → code_size (block_code body) < code_size (stmt_code s Finish)
size_repeat s at p n x body is =
    let e : code_size (stmt_code s Finish) ≡ code_size (Loop at p n x (block_code body) Finish) = ap code_size (ap (λ (z : CheckedStmt). stmt_code z Finish) is ∙ code_repeat at p n x body Finish) in
    omega (arith, e)
