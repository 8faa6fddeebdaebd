-- Each run passes declarations that cover each other and what comes.
use Rattle.std.proofs.Common.{ℕ, zero, suc, ◌+◌, Bool, true, false, if◌then◌else◌, List, [], ◌∷◌, ◌++◌, Option, Some, None, refl, inl, inr}
use Rattle.std.specs.Prelude.{pos}
use Rattle.session_values.specs.declared.value.Value.{Value}
use Rattle.session_values.specs.declared.value.Value.TheVariants.{Num}
use Rattle.handler_check.specs.Code.{Code, Finish, Move, Ask, Fork, Loop, Quit}
use Rattle.handler_check.specs.Dialogue.{Env, with_value, value_of, holds, op_of, Place, Outcome, Calls, Answers, Goes, after, then_do, pass, with_reply, turns, run}
use Rattle.may_use_analysis.specs.Steps.{Step, Other, store_step, symbol_of, back}
use Rattle.may_use_analysis.specs.Trails.{Symbols, Back}
use Rattle.may_use_analysis.specs.Flow.{RepliedBack, Flow, Head}
use Rattle.may_use_analysis.proofs.FlowLemmas.{Within}
use Rattle.may_use_analysis.proofs.LoopLemmas.{head_start, head_turn}
use Rattle.may_use_analysis.proofs.Sets.{Same}
use Rattle.may_use_analysis.proofs.Numbers.{Fits}
use Rattle.declaration_insertion.specs.Promises.{symbol_at}
use Rattle.declaration_insertion.proofs.SetLaw.{SetsAt, CoveredBy, SetMatches, IsCoveredRun, IsCovered}
use Rattle.declaration_insertion.proofs.Carry.{below_self_symbol, below_trans, stands_below, StepsTo, carry, store_steps, own_stands}

covered_within : (A B : Symbols) (env : Env) (Q : Symbols) (was : Env) → Within A B → CoveredBy B env Q was → CoveredBy A env Q was
covered_within A B env Q was h c s m = c s (h s m)

covered_self : (A B : Symbols) (env : Env) → Within A B → CoveredBy A env B env
covered_self A B env h s m = (s, h s m, below_self_symbol (symbol_at env s))

-- over a step
covered_step : (step : Step) (A : Symbols) (env next : Env) (Q : Symbols) (was : Env) → StepsTo step env next → CoveredBy (Back step A) env Q was → CoveredBy A next Q was
covered_step step A env next Q was e c s m =
    let f = c (back step s) (s, m, refl) in
    (f.0, f.1, below_trans (symbol_at next s) (symbol_at env (back step s)) (symbol_at was f.0) (carry step env next s e) f.2)

covered_reply : (x : Option ℕ) (v : Value) (A : Symbols) (env : Env) (Q : Symbols) (was : Env) → CoveredBy (RepliedBack x A) env Q was → CoveredBy A (with_reply x v env) Q was
covered_reply None v A env Q was c = c
covered_reply (Some x) v A env Q was c = covered_step (Other x) A env (with_value env x v) Q was (v, refl) c

module _ (D : SetsAt) where
  -- the set at a number has the symbols of another one
  abbrev pub HasSets : ℕ → Symbols → Type 0
  HasSets i A = Same (D i) A

  run_append : (ps qs : List Place) (at : Place) (F G : Place → Type 0) → IsCoveredRun D at ps F → ((last : Place) → F last → IsCoveredRun D last qs G) → IsCoveredRun D at (ps ++ qs) G
  run_append [] qs at F G r k = k at r
  run_append (p ∷ ps) qs at F G r k = (r.0, run_append ps qs p F G r.1 k)

  good_after : (ps : List Place) (o : Outcome) (B : Symbols) (at : Place) (F : Place → Type 0) → IsCoveredRun D at ps F → ((last : Place) → F last → IsCovered D B last o) → IsCovered D B at (after ps o)
  good_after ps (Calls qs op) B at F r k = run_append ps qs at F (λ last. SetMatches D last op) r k
  good_after ps (Answers qs values) B at F r k = run_append ps qs at F (λ last. Unit {0}) r k
  good_after ps (Goes qs env left) B at F r k = run_append ps qs at F (λ last. CoveredBy B env (D last.point) last.env) r k

  good_then : (o : Outcome) (next : Env → List Value → Outcome) (A B : Symbols) (at : Place) → IsCovered D A at o → ((last : Place) (env : Env) (left : List Value) → CoveredBy A env (D last.point) last.env → IsCovered D B last (next env left)) → IsCovered D B at (then_do o next)
  good_then (Calls ps op) next A B at r k = r
  good_then (Answers ps values) next A B at r k = r
  good_then (Goes ps env left) next A B at r k =
      good_after ps (next env left) B at (λ last. CoveredBy A env (D last.point) last.env) r (λ last c. k last env left c)

  good_pass : (p : ℕ) (env : Env) (r : Bool) (o : Outcome) (B : Symbols) (at : Place) → CoveredBy (D p) env (D at.point) at.env → IsCovered D B (record { point = p; env = env; replied = r }) o → IsCovered D B at (pass p env r o)
  good_pass p env r o B at c g =
      good_after (record { point = p; env = env; replied = r } ∷ []) o B at (λ last. IsCovered D B last o) (c, g) (λ last h. h)

  -- a point whose declaration has the symbols there
  good_point : (p : ℕ) (env : Env) (r : Bool) (o : Outcome) (A B : Symbols) (at : Place) → Same (D p) A → CoveredBy A env (D at.point) at.env → ((here : Place) → CoveredBy A env (D here.point) here.env → IsCovered D B here o) → IsCovered D B at (pass p env r o)
  good_point p env r o A B at same c k =
      good_pass p env r o B at (covered_within (D p) A env (D at.point) at.env (λ s m. (same s).0 m) c) (k (record { point = p; env = env; replied = r }) (covered_self A (D p) env (λ s m. (same s).1 m)))

  good_choice : (b : Bool) (o u : Outcome) (A : Symbols) (at : Place) → IsCovered D A at o → IsCovered D A at u → IsCovered D A at (if b then o else u)
  good_choice true o u A at g h = g
  good_choice false o u A at g h = h

  good_turns : (body : Code) (x n i : ℕ) (A : Symbols) → ((at : Place) (env : Env) (left : List Value) → CoveredBy (Flow body (Head x body A)) env (D at.point) at.env → IsCovered D (Head x body A) at (run body env left)) → (at : Place) (env : Env) (left : List Value) → CoveredBy (Head x body A) env (D at.point) at.env → IsCovered D (Head x body A) at (turns (run body) x n i env left)
  good_turns body x zero i A one at env left c = c
  good_turns body x (suc n) i A one at env left c =
      let H = Head x body A in
      let next = with_value env x (Num (pos i)) in
      let start : CoveredBy (Flow body H) next (D at.point) at.env = covered_step (Other x) (Flow body H) env next (D at.point) at.env (Num (pos i), refl) (covered_within (Back (Other x) (Flow body H)) H env (D at.point) at.env (head_turn x body A H (λ s m. m)) c) in
      good_then (run body next left) (turns (run body) x n (i + 1)) H H at (one at next left start) (λ last e l d. good_turns body x n (i + 1) A one last e l d)

  pub good_run : (code : Code) (A : Symbols) → Fits HasSets code A → (at : Place) (env : Env) (left : List Value) → CoveredBy (Flow code A) env (D at.point) at.env → IsCovered D A at (run code env left)
  good_run Finish A fits at env left c = c
  good_run (Move x e rest) A fits at env left c =
      good_run rest A fits at (with_value env x (value_of e env)) left (covered_step (store_step x e) (Flow rest A) env (with_value env x (value_of e env)) (D at.point) at.env (store_steps x e env) c)
  good_run (Ask w p x call rest) A fits at env [] c =
      let f = c (symbol_of call) (inl refl) in
      (f.0, f.1, stands_below (symbol_at env (symbol_of call)) (symbol_at at.env f.0) (op_of call env) f.2 (own_stands call env))
  good_run (Ask w p x call rest) A fits at env (v ∷ left) c =
      let d = covered_reply x v (Flow rest A) env (D at.point) at.env (covered_within (RepliedBack x (Flow rest A)) (Flow (Ask w p x call rest) A) env (D at.point) at.env (λ s m. inr m) c) in
      good_point p (with_reply x v env) true (run rest (with_reply x v env) left) (Flow rest A) A at fits.0 d (λ here h. good_run rest A fits.1 here (with_reply x v env) left h)
  good_run (Fork w p q test a b rest) A fits at env left c =
      let R = Flow rest A in
      let W = Flow (Fork w p q test a b rest) A in
      good_then (if holds test env then pass p env false (run a env left) else pass q env false (run b env left)) (run rest) R A at
      (good_choice (holds test env) (pass p env false (run a env left)) (pass q env false (run b env left)) R at
      (good_point p env false (run a env left) (Flow a R) R at fits.0 (covered_within (Flow a R) W env (D at.point) at.env (λ s m. inl m) c) (λ here h. good_run a R fits.2 here env left h))
      (good_point q env false (run b env left) (Flow b R) R at fits.1 (covered_within (Flow b R) W env (D at.point) at.env (λ s m. inr m) c) (λ here h. good_run b R fits.3 here env left h)))
      (λ last e l d. good_run rest A fits.4 last e l d)
  good_run (Loop w p n x body rest) A fits at env left c =
      let R = Flow rest A in
      let H = Head x body R in
      good_then (turns (run body) x n 0 env left) (λ e l. pass p e false (run rest e l)) H A at
      (good_turns body x n 0 R (λ a e l d. good_run body H fits.1 a e l d) at env left c)
      (λ last e l d. good_point p e false (run rest e l) R A last fits.0 (covered_within R H e (D last.point) last.env (head_start x body R) d) (λ here h. good_run rest A fits.2 here e l h))
  good_run (Quit es rest) A fits at env left c = tt
