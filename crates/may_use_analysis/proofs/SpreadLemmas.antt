-- What comes to the heads of loops before the walk that keeps lists.
use Rattle.std.proofs.Common.{◌≡◌, ℕ, ◌+◌, ◌==◌, Bool, if◌then◌else◌, List, [], ◌↔◌, ap, ◌∙◌, sym, subst, inl, inr, ◌⊎◌, Contains, arith}
use Rattle.std.specs.Prelude.{slice_index_or}
use Rattle.std.proofs.lemmas.Bool.{ne_eqb}
use Rattle.symbolic_ops.specs.declared.symbol.Symbol.{Symbol}
use Rattle.check_meaning.specs.declared.tree.CheckedStmt.{CheckedStmt}
use Rattle.check_meaning.specs.Code.{Code, Finish, Loop, IsNumbered, points, stmt_code}
use Rattle.may_use_analysis.specs.Steps.{Other}
use Rattle.may_use_analysis.specs.Trails.{Symbols, Back}
use Rattle.may_use_analysis.specs.Flow.{Flow, Head, StmtFlow}
use Rattle.may_use_analysis.specs.Ordered.{Are}
use Rattle.may_use_analysis.specs.Warm.{HeadAt, AreWarm, SameOutside, StaysWarm, IsTakenIn}
use Rattle.may_use_analysis.proofs.FlowLemmas.{Within, back_within, flow_within, turned_within}
use Rattle.may_use_analysis.proofs.LoopLemmas.{head_turn}
use Rattle.may_use_analysis.proofs.Records.{stmt_rest}
use Rattle.may_use_analysis.proofs.WarmLemmas.{warm_inside, warm_larger, is_itself}

pub block_within : (s : CheckedStmt) (rest : Code) (after : Symbols) (old new : List Symbol) → Within (Contains old) (Flow rest after) → Within (Contains new) (StmtFlow s (Contains old)) → Within (Contains new) (Flow (stmt_code s rest) after)
block_within stmt rest after old new o n z m =
    (stmt_rest rest after stmt z).0 (flow_within (stmt_code stmt Finish) (Contains old) (Flow rest after) o z (n z m))

-- a turn from symbols of the head leads to symbols of the head
pub turn_within : (x : ℕ) (body : Code) (after fresh turn carried : List Symbol) → Within (Contains turn) (Flow body (Contains fresh)) → Are carried (Back (Other x) (Contains turn)) → Within (Contains fresh) (Head x body (Contains after)) → Within (Contains carried) (Head x body (Contains after))
turn_within x body after fresh turn carried t is f s m =
    head_turn x body (Contains after) (Contains fresh) f s (back_within (Other x) (Contains turn) (Flow body (Contains fresh)) t s ((is s).0 m))

pub head_wider : (x : ℕ) (body : Code) (A B : Symbols) → Within A B → Within (Head x body A) (Head x body B)
head_wider x body A B h s m = (m.0, turned_within x m.0 (Flow body) (flow_within body) A B h s m.1)

module _ (H K : List (List Symbol)) (p x low : ℕ) (body : Code) (base : List Symbol) (numbered : IsNumbered body low) (last : p ≡ low + points body) where
  -- the loop's own list has taken symbols of its head in
  pub taken_warm : (added fresh : List Symbol) → IsTakenIn p added H K fresh → Within (Contains added) (Head x body (Contains base)) → AreWarm H (Loop 0 p 0 x body Finish) (Contains base) → AreWarm K (Loop 0 p 0 x body Finish) (Contains base)
  taken_warm added fresh taken sound w =
      let inside = warm_inside H K body low (HeadAt H p) numbered (λ i g l. taken.others i (λ e. omega arith)) w.1 in
      (λ s m. either s (taken.within s m), warm_larger K body (HeadAt H p) (HeadAt K p) taken.kept inside, tt)
    where
      either : (s : Symbol) → HeadAt H p s ⊎ Contains added s → Head x body (Contains base) s
      either s (inl m) = w.0 s m
      either s (inr m) = sound s m

  pub taken_outside : (added fresh : List Symbol) → IsTakenIn p added H K fresh → SameOutside H K low (low + points body + 1)
  taken_outside added fresh taken i (inl lt) = taken.others i (λ e. omega arith)
  taken_outside added fresh taken i (inr le) = taken.others i (λ e. omega arith)

  -- its body was walked from some of the symbols that are kept
  pub walked_warm : (fresh : List Symbol) → StaysWarm body fresh H K → SameOutside H K low (low + points body) → Within (Contains fresh) (HeadAt H p) → AreWarm H (Loop 0 p 0 x body Finish) (Contains base) → AreWarm K (Loop 0 p 0 x body Finish) (Contains base)
  walked_warm fresh stays outside kept w =
      let here = outside p (inr (omega arith)) in
      let inside = stays (slice_index_or H p []) kept w.1 in
      (λ s m. w.0 s (subst (λ (l : List Symbol). Contains l s) here m), subst (λ (l : List Symbol). AreWarm K body (Contains l)) (sym here) inside, tt)

-- a list was put in the place of the kept one, which it joined with what is new
pub taken_in : (p : ℕ) (symbols : List Symbol) (H K : List (List Symbol)) (fresh before after : List Symbol) → before ≡ slice_index_or H p [] → Within (Contains fresh) (Contains symbols) → ((q : Symbol) → Contains after q ↔ (Contains before q ⊎ Contains fresh q)) → ((i : ℕ) → slice_index_or K i [] ≡ (if i == p then after else slice_index_or H i [])) → IsTakenIn p symbols H K fresh
taken_in p symbols H K fresh before after was given union put =
    record {
      given = given;
      there = λ s m. to_new s ((union s).1 (inr m));
      kept = λ s m. to_new s ((union s).1 (inl (subst (λ (l : List Symbol). Contains l s) (sym was) m)));
      within = λ s m. either s ((union s).0 (subst (λ (l : List Symbol). Contains l s) here m));
      others = λ i h. put i ∙ ap (λ (b : Bool). if b then after else slice_index_or H i []) (ne_eqb i p h);
    }
  where
    here : slice_index_or K p [] ≡ after
    here = put p ∙ ap (λ (b : Bool). if b then after else slice_index_or H p []) (is_itself p)

    to_new : (s : Symbol) → Contains after s → HeadAt K p s
    to_new s m = subst (λ (l : List Symbol). Contains l s) (sym here) m

    either : (s : Symbol) → Contains before s ⊎ Contains fresh s → HeadAt H p s ⊎ Contains symbols s
    either s (inl m) = inl (subst (λ (l : List Symbol). Contains l s) was m)
    either s (inr m) = inr (given s m)

-- the same symbols of a list and others
pub joined_within : (P : Symbols) (xs ys zs : List Symbol) → ((q : Symbol) → Contains zs q ↔ (Contains xs q ⊎ Contains ys q)) → Within (Contains xs) P → Within (Contains ys) P → Within (Contains zs) P
joined_within P xs ys zs union f g s m = go ((union s).0 m)
  where
    go : Contains xs s ⊎ Contains ys s → P s
    go (inl k) = f s k
    go (inr k) = g s k
