-- What each step of the walk does to its list.
use Rattle.std.proofs.Common.{◌≡◌, ℕ, suc, ◌-◌, ◌<◌, ◌≤◌, arith, drop-cons, List, length, get_or, drop, Option, sym, ap, ◌∙◌, subst, inl, inr, ◌⊎◌, ◌↔◌, Contains}
use Rattle.std.proofs.lemmas.List.{drop_all}
use Rattle.symbolic_ops.specs.declared.symbol.Symbol.{Symbol}
use Rattle.check_meaning.specs.declared.tree.CheckedCall.{CheckedCall}
use Rattle.check_meaning.specs.declared.tree.CheckedStmt.{CheckedStmt}
use Rattle.check_meaning.specs.Code.{Code, Finish, stmt_code, block_code}
use Rattle.may_use_analysis.specs.Steps.{Other, symbol_of}
use Rattle.may_use_analysis.specs.Trails.{Symbols, Back}
use Rattle.may_use_analysis.specs.Flow.{RepliedBack, Flow, Head, AskFlow, StmtFlow}
use Rattle.may_use_analysis.specs.Ordered.{Are}
use Rattle.may_use_analysis.proofs.FlowLemmas.{Within, flow_within, back_within}
use Rattle.may_use_analysis.proofs.LoopLemmas.{head_least, head_turn}
use Rattle.may_use_analysis.proofs.Records.{stmt_rest}
use Rattle.may_use_analysis.proofs.Sets.{are_same}

pub block_step : (s : CheckedStmt) (rest : Code) (after : Symbols) (old new : List Symbol) → Are old (Flow rest after) → Are new (StmtFlow s (Contains old)) → Are new (Flow (stmt_code s rest) after)
block_step stmt rest after old new o n =
    let code = stmt_code stmt Finish in
    are_same new (StmtFlow stmt (Flow rest after)) (Flow (stmt_code stmt rest) after) (stmt_rest rest after stmt) (λ s. (λ c. flow_within code (Contains old) (Flow rest after) (λ z m. (o z).0 m) s ((n s).0 c), λ m. (n s).1 (flow_within code (Flow rest after) (Contains old) (λ z k. (o z).1 k) s m)))

pub ask_step : (x : Option ℕ) (c : CheckedCall) (A B : Symbols) (list new : List Symbol) → RepliedBack x A ≡ B → Are list B → ((q : Symbol) → Contains new q ↔ (Contains list q ⊎ (q ≡ symbol_of c))) → Are new (AskFlow x c A)
ask_step x c A B list new e is add s = (λ m. there ((add s).0 m), back_again)
  where
    there : Contains list s ⊎ (s ≡ symbol_of c) → AskFlow x c A s
    there (inl m) = inr (subst (λ Z. Z s) (sym e) ((is s).0 m))
    there (inr f) = inl f

    back_again : AskFlow x c A s → Contains new s
    back_again (inl f) = (add s).1 (inr f)
    back_again (inr m) = (add s).1 (inl ((is s).1 (subst (λ Z. Z s) e m)))

pub fork_step : (A B : Symbols) (a b new : List Symbol) → Are a A → Are b B → ((q : Symbol) → Contains new q ↔ (Contains a q ⊎ Contains b q)) → Are new (λ s. A s ⊎ B s)
fork_step A B a b new is_a is_b union s = (λ m. there ((union s).0 m), back_again)
  where
    there : Contains a s ⊎ Contains b s → A s ⊎ B s
    there (inl m) = inl ((is_a s).0 m)
    there (inr m) = inr ((is_b s).0 m)

    back_again : A s ⊎ B s → Contains new s
    back_again (inl m) = (union s).1 (inl ((is_a s).1 m))
    back_again (inr m) = (union s).1 (inr ((is_b s).1 m))

module _ (x : ℕ) (body : Code) (after head start turn new : List Symbol) where
  -- the head stays within its set
  pub turn_sound : Are start (Flow body (Contains head)) → Are turn (Back (Other x) (Contains start)) → ((q : Symbol) → Contains new q ↔ (Contains head q ⊎ Contains turn q)) → Within (Contains head) (Head x body (Contains after)) → Within (Contains new) (Head x body (Contains after))
  turn_sound is_start is_turn union sound s m = go ((union s).0 m)
    where
      go : Contains head s ⊎ Contains turn s → Head x body (Contains after) s
      go (inl c) = sound s c
      go (inr c) =
          head_turn x body (Contains after) (Contains head) sound s (back_within (Other x) (Contains start) (Flow body (Contains head)) (λ z k. (is_start z).0 k) s ((is_turn s).0 c))

  pub turn_start : ((q : Symbol) → Contains new q ↔ (Contains head q ⊎ Contains turn q)) → Within (Contains after) (Contains head) → Within (Contains after) (Contains new)
  turn_start union h s m = (union s).1 (inl (h s m))

  -- a turn that brings nothing new shows that the head has all
  pub turn_least : Are start (Flow body (Contains head)) → Are turn (Back (Other x) (Contains start)) → Within (Contains turn) (Contains head) → Within (Contains after) (Contains head) → Within (Head x body (Contains after)) (Contains head)
  turn_least is_start is_turn none first =
      head_least x body (Contains after) (Contains head) first (λ z k. none z ((is_turn z).1 (back_within (Other x) (Flow body (Contains head)) (Contains start) (λ y j. (is_start y).1 j) z k)))

  -- and that all is there
  pub turn_done : Are start (Flow body (Contains head)) → Are turn (Back (Other x) (Contains start)) → ((q : Symbol) → Contains new q ↔ (Contains head q ⊎ Contains turn q)) → Within (Contains turn) (Contains head) → Within (Contains head) (Head x body (Contains after)) → Within (Contains after) (Contains head) → Are new (Head x body (Contains after))
  turn_done is_start is_turn union none sound first s =
      (turn_sound is_start is_turn union sound s, λ m. (union s).1 (inl (turn_least is_start is_turn none first s m)))

-- one more statement of a block
pub drop_code : (items : List CheckedStmt) (i : ℕ) (s : CheckedStmt) → 0 < i → i ≤ length items → s ≡ get_or items (i - 1) s → block_code (drop (i - 1) items) ≡ stmt_code s (block_code (drop i items))
drop_code items i s some le e =
    let lt : i - 1 < length items = omega arith in
    let up : suc (i - 1) ≡ i = omega arith in
    ap block_code (drop-cons items (i - 1) s lt) ∙ ap (λ (z : CheckedStmt). stmt_code z (block_code (drop (suc (i - 1)) items))) (sym e) ∙ ap (λ (n : ℕ). stmt_code s (block_code (drop n items))) up

pub all_code : (items : List CheckedStmt) (i : ℕ) → i ≤ 0 → block_code (drop i items) ≡ block_code items
all_code items i h = let e : i ≡ 0 = omega arith in ap (λ (n : ℕ). block_code (drop n items)) e

pub no_code : (items : List CheckedStmt) (i : ℕ) → length items ≤ i → block_code (drop i items) ≡ Finish
no_code items i h = ap block_code (drop_all i items h)
