-- The law on a whole handler, whose points have their lists.
use Rattle.std.proofs.Common.{◌≡◌, ℕ, zero, suc, ◌+◌, ◌<◌, ◌≤◌, Bool, true, false, if◌then◌else◌, List, [], ◌∷◌, ◌++◌, map, length, append_assoc, append-nil, refl, sym, ap, ◌∙◌, subst, inl, inr, ◌⊎◌, ◌↔◌, Contains, arith}
use Rattle.std.specs.Prelude.{slice_index_or}
use Rattle.std.specs.List.{AllByRecursion}
use Rattle.std.proofs.lemmas.Bool.{cases_lt}
use Rattle.std.proofs.lemmas.List.{length-map}
use Rattle.session_values.specs.declared.value.Value.{Value}
use Rattle.session_values.specs.declared.kind.TableKind.{TableKind}
use Rattle.session_values.specs.declared.op.Op.{Op}
use Rattle.session_values.specs.Dialogue.{Calls as NextCalls}
use Rattle.session_values.specs.Op.{IsHeld}
use Rattle.session_values.specs.Values.{IsValue}
use Rattle.symbolic_ops.specs.declared.arg.Arg.{Arg}
use Rattle.symbolic_ops.specs.declared.arg.Arg.TheVariants.{Known, Var, Any}
use Rattle.symbolic_ops.specs.declared.symbol.Symbol.{Symbol}
use Rattle.symbolic_ops.specs.Matching.{StandsFor, Matches, ArgBelow, Below, IsBelowSome, Covered, IsNoVar, HasNoVar}
use Rattle.symbolic_ops.proofs.Above.{covered_matches}
use Rattle.handler_check.specs.Code.{Code, points, IsNumbered}
use Rattle.handler_check.specs.Dialogue.{Env, env_of, Place, Outcome, Calls, Answers, Goes, run, ended, next, entry, told_place, last_place, last_replied, passed_by}
use Rattle.handler_check.specs.Keeps.{IsHeldNext}
use Rattle.handler_check.specs.Within.{CodeWithin}
use Rattle.handler_check.proofs.CheckHeld.{keeps_values}
use Rattle.may_use_analysis.specs.Trails.{Symbols, LaterAt}
use Rattle.may_use_analysis.specs.Flow.{Flow, FlowPoint}
use Rattle.may_use_analysis.specs.Later.{HasLists}
use Rattle.may_use_analysis.proofs.Numbers.{Fits, point_range, fits_numbered}
use Rattle.may_use_analysis.proofs.PointLemmas.{later_is_flow}
use Rattle.may_use_analysis.proofs.Sets.{Same}
use Rattle.may_use_analysis.proofs.TopLemmas.{point_later}
use Rattle.may_use_analysis.proofs.Unique.{none_in_nil, cons_head, cons_tail, cons_cases}
use Rattle.declaration_insertion.specs.Promises.{arg_at, symbol_at, Declarations, listed, list_at, IsCoveredChain, CoversRest, ArePromised}
use Rattle.declaration_insertion.proofs.SetLaw.{SetsAt, IsBelowArg, IsBelow, CoveredBy, SetMatches, IsCoveredRun, IsCovered}
use Rattle.declaration_insertion.proofs.Carry.{below_self_symbol}
use Rattle.declaration_insertion.proofs.Law.{HasSets, good_run}
use Rattle.declaration_insertion.proofs.Extends.{Extends, extends_run}

abbrev Empty : Symbols
Empty s = ⊥

-- past the end of a list of lists
past_end : (xs : List (List Symbol)) (i : ℕ) → length xs ≤ i → slice_index_or xs i [] ≡ []
past_end [] i le = refl
past_end (x ∷ xs) zero le = absurd (omega arith)
past_end (x ∷ xs) (suc i) le = past_end xs i (omega arith)

-- ---- the sets at the points

module _ (code : Code) (n : IsNumbered code 1) where
  later_fits : Fits (HasSets (LaterAt code)) code Empty
  later_fits = fits_numbered (HasSets (LaterAt code)) respects code 1 Empty n (λ p ge lt s. ((point_later code n p ge s).1, (point_later code n p ge s).0))
    where
      respects : (i : ℕ) (A B : Symbols) → Same A B → Same (LaterAt code i) A → Same (LaterAt code i) B
      respects i A B same h s = (λ d. (same s).0 ((h s).0 d), λ m. (h s).1 ((same s).1 m))

  set_law : (env : Env) (replies : List Value) → IsCovered (LaterAt code) Empty (entry env) (run code env replies)
  set_law env replies =
      good_run (LaterAt code) code Empty later_fits (entry env) env replies (λ s m. (s, (later_is_flow code 0 s).1 (inl (refl, m)), below_self_symbol (symbol_at env s)))

  -- the lists have the sets' symbols at each number
  pub listed_sets : (lists : List (List Symbol)) → HasLists code lists → (p : ℕ) (s : Symbol) → Contains (listed lists p) s ↔ LaterAt code p s
  listed_sets lists has p s = go (cases_lt p (1 + points code))
    where
      nothing : 1 + points code ≤ p → LaterAt code p s → ⊥
      nothing le m = none ((later_is_flow code p s).0 m)
        where
          none : ((p ≡ 0) × Flow code Empty s) ⊎ FlowPoint code p Empty s → ⊥
          none (inl m) = let e = m.0 in absurd (omega arith)
          none (inr m) = let r = point_range code p 1 Empty s n m in absurd (omega arith)

      go : (p < 1 + points code) ⊎ (1 + points code ≤ p) → Contains (listed lists p) s ↔ LaterAt code p s
      go (inl lt) = (has.each p lt).1 s
      go (inr le) =
          (λ m. absurd (none_in_nil s (subst (λ (l : List Symbol). Contains l s) (past_end lists p (omega (arith, has.count))) m)), λ m. absurd (nothing le m))

-- ---- from sets to lists

below_arg : (env : Env) (g a : Arg) → IsBelowArg g (arg_at env a) → ArgBelow g (arg_at env a)
below_arg env g (Known v) h = subst (λ (z : Arg). ArgBelow z (Known v)) (sym h) refl
below_arg env g (Var x) h = subst (λ (z : Arg). ArgBelow z (Known (env x))) (sym h) refl
below_arg env (Known w) Any h = tt
below_arg env (Var y) Any h = tt
below_arg env Any Any h = tt

below_symbol : (env : Env) (g s : Symbol) → IsBelow g (symbol_at env s) → Below g (symbol_at env s)
below_symbol env g s h = record { kind = h.0; table = h.1; key = below_arg env g.key s.key h.2; value = below_arg env g.value s.value h.3 }

matches_of : (list : List Symbol) (env : Env) (f : Symbol) (op : Op) → Contains list f → StandsFor (symbol_at env f) op → Matches (map (symbol_at env) list) op
matches_of [] env f op m h = absurd (none_in_nil f m)
matches_of (s ∷ list) env f op m h = go (cons_cases s list f m) (λ k. matches_of list env f op k h)
  where
    go : (f ≡ s) ⊎ Contains list f → (Contains list f → Matches (map (symbol_at env) list) op) → Matches (map (symbol_at env) (s ∷ list)) op
    go (inl e) rest = inl (subst (λ (z : Symbol). StandsFor (symbol_at env z) op) e h)
    go (inr k) rest = inr (rest k)

some_of : (list : List Symbol) (env : Env) (g f : Symbol) → Contains list f → Below g (symbol_at env f) → IsBelowSome g (map (symbol_at env) list)
some_of [] env g f m h = absurd (none_in_nil f m)
some_of (s ∷ list) env g f m h = go (cons_cases s list f m) (λ k. some_of list env g f k h)
  where
    go : (f ≡ s) ⊎ Contains list f → (Contains list f → IsBelowSome g (map (symbol_at env) list)) → IsBelowSome g (map (symbol_at env) (s ∷ list))
    go (inl e) rest = inl (subst (λ (z : Symbol). Below g (symbol_at env z)) e h)
    go (inr k) rest = inr (rest k)

covered_of : (list : List Symbol) (env : Env) (over : List Symbol) → ((s : Symbol) → Contains list s → IsBelowSome (symbol_at env s) over) → Covered (map (symbol_at env) list) over
covered_of [] env over all = tt
covered_of (s ∷ list) env over all = (all s (cons_head s list), covered_of list env over (λ q c. all q (cons_tail s list q c)))

module _ (D : SetsAt) (declared : Declarations) (are : (p : ℕ) (s : Symbol) → Contains (declared p) s ↔ D p s) where
  chain_of : (at : Place) (ps : List Place) (last : Place → Type 0) → IsCoveredRun D at ps last → IsCoveredChain declared at ps
  chain_of at [] last h = tt
  chain_of at (p ∷ ps) last h =
      (covered_of (declared p.point) p.env (list_at declared at) (λ s c. let f = h.0 s ((are p.point s).0 c) in some_of (declared at.point) at.env (symbol_at p.env s) f.0 ((are at.point f.0).1 f.1) (below_symbol at.env (symbol_at p.env s) f.0 f.2)), chain_of p ps last h.1)

  last_of : (at : Place) (ps : List Place) (last : Place → Type 0) → IsCoveredRun D at ps last → last (last_place at ps)
  last_of at [] last h = h
  last_of at (p ∷ ps) last h = last_of p ps last h.1

  covered_by : (at : Place) (B : Symbols) (o : Outcome) → IsCovered D B at o → IsCoveredChain declared at (passed_by o)
  covered_by at B (Calls ps op) h = chain_of at ps (λ last. SetMatches D last op) h
  covered_by at B (Answers ps vs) h = chain_of at ps (λ last. Unit {0}) h
  covered_by at B (Goes ps env left) h = chain_of at ps (λ last. CoveredBy B env (D last.point) last.env) h

  matched_by : (at : Place) (B : Symbols) (o : Outcome) (ps : List Place) (op : Op) → o ≡ Calls ps op → IsHeld op → IsCovered D B at o → Matches (list_at declared (last_place at ps)) op
  matched_by at B o ps op is held h =
      let run_is : IsCovered D B at (Calls ps op) = subst (IsCovered D B at) is h in
      let last = last_place at ps in
      let m : SetMatches D last op = last_of at ps (λ z. SetMatches D z op) run_is in
      matches_of (declared last.point) last.env m.0 op ((are last.point m.0).1 m.1) (m.2 held)

-- ---- lists alone

no_var_arg : (env : Env) (a : Arg) → IsNoVar (arg_at env a)
no_var_arg env (Known v) = tt
no_var_arg env (Var x) = tt
no_var_arg env Any = tt

no_vars : (env : Env) (list : List Symbol) → AllByRecursion HasNoVar (map (symbol_at env) list)
no_vars env [] = tt
no_vars env (s ∷ list) = ((no_var_arg env s.key, no_var_arg env s.value), no_vars env list)

values_both : (vs ws : List Value) → AllByRecursion IsValue vs → AllByRecursion IsValue ws → AllByRecursion IsValue (vs ++ ws)
values_both [] ws h k = k
values_both (v ∷ vs) ws h k = (h.0, values_both vs ws h.1 k)

-- an outcome after which an operation is called
calls_of : (o : Outcome) (op : Op) → ended o ≡ NextCalls op → (passed : List Place) × (o ≡ Calls passed op)
calls_of (Calls ps u) op e = let same : u ≡ op = cc in (ps, ap (λ (z : Op). Calls ps z) same)
calls_of (Answers ps vs) op e = absurd (cc e)
calls_of (Goes ps env left) op e = absurd (cc e)

-- the points passed with fewer replies come first
passed_first : (more : List Value) (o u : Outcome) (passed : List Place) (op : Op) → Extends more o u → u ≡ Calls passed op → (rest : List Place) × (passed ≡ passed_by o ++ rest)
passed_first more (Calls ps p) u passed op h e = (h.0, sym (ap passed_by e) ∙ h.1)
passed_first more (Answers ps values) u passed op h e = absurd (cc (sym h ∙ e))
passed_first more (Goes ps env left) u passed op h e = absurd (cc (sym h ∙ e))

module _ (declared : Declarations) (op : Op) where
  -- what the last declaration matches, each earlier one matches
  matched_before : (at : Place) (ps : List Place) → IsCoveredChain declared at ps → Matches (list_at declared (last_place at ps)) op → Matches (list_at declared at) op
  matched_before at [] chain m = m
  matched_before at (p ∷ ps) chain m = covered_matches (list_at declared p) (list_at declared at) op chain.0 (matched_before p ps chain.1 m)

  matched_front : (at : Place) (ps qs : List Place) → IsCoveredChain declared at (ps ++ qs) → Matches (list_at declared (last_place at (ps ++ qs))) op → Matches (list_at declared (last_place at ps)) op
  matched_front at [] qs chain m = matched_before at qs chain m
  matched_front at (p ∷ ps) qs chain m = matched_front p ps qs chain.1 m

-- the last place that a reply led to is the last one of some front
abbrev IsFrontOf : Place → List Place → Place → Type 0
IsFrontOf start all t = (front : List Place) × (past : List Place) × (all ≡ front ++ past) × (t ≡ last_place start front)

last_pushed : (start : Place) (ps : List Place) (p : Place) → last_place start (ps ++ p ∷ []) ≡ p
last_pushed start [] p = refl
last_pushed start (q ∷ ps) p = last_pushed q ps p

replied_front : (start : Place) (done ps : List Place) (t : Place) → IsFrontOf start done t → IsFrontOf start (done ++ ps) (last_replied t ps)
replied_front start done [] t f = (f.0, f.1, append-nil done ∙ f.2, f.3)
replied_front start done (p ∷ ps) t f =
    let g = replied_front start (done ++ p ∷ []) ps (if p.replied then p else t) (step p.replied) in
    (g.0, g.1, sym (append_assoc done (p ∷ []) ps) ∙ g.2, g.3)
  where
    step : (b : Bool) → IsFrontOf start (done ++ p ∷ []) (if b then p else t)
    step true = (done ++ p ∷ [], [], sym (append-nil (done ++ p ∷ [])), sym (last_pushed start done p))
    step false = (f.0, f.1 ++ p ∷ [], ap (λ (z : List Place). z ++ p ∷ []) f.2 ∙ append_assoc f.0 f.1 (p ∷ []), f.3)

-- ---- the law

pub promised : (code : Code) (lists : List (List Symbol)) (shape : List TableKind) (variables : ℕ) (args : List Value) → HasLists code lists → IsNumbered code 1 → CodeWithin shape variables code → AllByRecursion IsValue args → ArePromised code (listed lists) (env_of args)
promised code lists shape variables args has n within values =
    record {
      few = λ at. let long = length-map (declared at.point) (symbol_at at.env) in let short = few at.point in omega arith;
      known = λ at. no_vars at.env (declared at.point);
      covered = covered;
      matched = matched;
      covers = covers;
      opening = λ more op vm e. covers [] [] (passed_by (run code env [])) tt refl more op vm e;
      told = told;
      due = λ replies vr. covers replies (passed_by (run code env replies)) [] vr (sym (append-nil (passed_by (run code env replies))));
    }
  where
    env : Env
    env = env_of args

    declared : Declarations
    declared = listed lists

    are : (p : ℕ) (s : Symbol) → Contains (declared p) s ↔ LaterAt code p s
    are = listed_sets code n lists has

    few : (p : ℕ) → length (declared p) ≤ 256
    few p = go (cases_lt p (1 + points code))
      where
        go : (p < 1 + points code) ⊎ (1 + points code ≤ p) → length (declared p) ≤ 256
        go (inl lt) = has.few p lt
        go (inr le) = omega (arith, ap length (past_end lists p (omega (arith, has.count))))

    covered : (replies : List Value) → IsCoveredChain declared (entry env) (passed_by (run code env replies))
    covered replies = covered_by (LaterAt code) declared are (entry env) Empty (run code env replies) (set_law code n env replies)

    held : (replies : List Value) (op : Op) → AllByRecursion IsValue replies → next code env replies ≡ NextCalls op → IsHeld op
    held replies op vr e = subst IsHeldNext e (keeps_values shape variables code args within values replies vr)

    matched : (replies : List Value) (passed : List Place) (op : Op) → AllByRecursion IsValue replies → run code env replies ≡ Calls passed op → Matches (list_at declared (last_place (entry env) passed)) op
    matched replies passed op vr is =
        matched_by (LaterAt code) declared are (entry env) Empty (run code env replies) passed op is (held replies op vr (ap ended is)) (set_law code n env replies)

    covers : (replies : List Value) (front past : List Place) → AllByRecursion IsValue replies → passed_by (run code env replies) ≡ front ++ past → CoversRest code env replies (list_at declared (last_place (entry env) front))
    covers replies front past vr split more op vm e =
        let calls = calls_of (run code env (replies ++ more)) op e in
        let first = passed_first more (run code env replies) (run code env (replies ++ more)) calls.0 op (extends_run code more env replies) calls.1 in
        let whole : calls.0 ≡ front ++ (past ++ first.0) = first.1 ∙ ap (λ (z : List Place). z ++ first.0) split ∙ append_assoc front past first.0 in
        let chain = subst (IsCoveredChain declared (entry env)) (ap passed_by calls.1 ∙ whole) (covered (replies ++ more)) in
        let last = subst (λ (z : List Place). Matches (list_at declared (last_place (entry env) z)) op) whole (matched (replies ++ more) calls.0 op (values_both replies more vr vm) calls.1) in
        matched_front declared op (entry env) front (past ++ first.0) chain last

    told : (replies : List Value) → AllByRecursion IsValue replies → CoversRest code env replies (list_at declared (told_place code env replies))
    told replies vr =
        let f = replied_front (entry env) [] (passed_by (run code env replies)) (entry env) ([], [], refl, refl) in
        subst (λ (z : Place). CoversRest code env replies (list_at declared z)) (sym f.3) (covers replies f.0 f.1 vr f.2)
