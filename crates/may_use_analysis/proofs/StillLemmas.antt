-- Code that changes none of the variables that symbols mention.
use Rattle.std.proofs.Common.{◌≡◌, ℕ, zero, suc, ◌+◌, ◌<◌, ◌==◌, Bool, List, [], ◌∷◌, length, get_or, drop, refl, sym, ap, ◌∙◌, subst, inl, inr, ◌⊎◌, ◌↔◌, Contains, arith}
use Rattle.std.specs.Prelude.{if◌then◌else◌}
use Rattle.check_meaning.specs.declared.tree.CheckedAtom.TheVariants as atom
use Rattle.symbolic_ops.specs.declared.arg.Arg.{Arg}
use Rattle.symbolic_ops.specs.declared.arg.Arg.TheVariants.{Known, Var, Any}
use Rattle.symbolic_ops.specs.declared.symbol.Symbol.{Symbol}
use Rattle.check_meaning.specs.Code.{Code, Finish, Move, Ask, Fork, Loop, Quit, Term, Atom, Calculate}
use Rattle.may_use_analysis.specs.Steps.{Step, Other, store_step, arg_back, back}
use Rattle.may_use_analysis.specs.Trails.{Symbols, Back}
use Rattle.may_use_analysis.specs.Flow.{Turned, Flow}
use Rattle.may_use_analysis.specs.Vars.{IsMarked, IsUnmarked, IsArgMarked, Covers, IsStill}
use Rattle.std.proofs.lemmas.List.{drop_more}
use Rattle.std.proofs.lemmas.Bool.{ne_eqb}
use Rattle.check_meaning.specs.declared.tree.CheckedStmt.{CheckedStmt}
use Rattle.check_meaning.specs.Code.{stmt_code, block_code}
use Rattle.check_meaning.proofs.Codes.{checked_cases, code_store, code_perform, code_choose, code_repeat, code_answer}
use Rattle.may_use_analysis.specs.Flow.{Head}
use Rattle.may_use_analysis.specs.Ordered.{Are}
use Rattle.may_use_analysis.proofs.Sets.{Same}

-- the symbols of a set mention these variables alone
abbrev pub CoversAll : ℕ → Symbols → Type 0
CoversAll bits A = (s : Symbol) → A s → Covers bits s

other_arg : (z x : ℕ) (a : Arg) → (z ≡ x → ⊥) → (if z == x then a else Var z) ≡ Var z
other_arg z x a h = ap (λ (b : Bool). if b then a else Var z) (ne_eqb z x h)

module _ (bits x : ℕ) (free : IsUnmarked bits x) where
  differs : (z : ℕ) → IsMarked bits z → z ≡ x → ⊥
  differs z m e = free (subst (IsMarked bits) e m)

  arg_same : (e : Term) (a : Arg) → IsArgMarked bits a → arg_back (store_step x e) a ≡ a
  arg_same e (Known v) m = refl
  arg_same e Any m = refl
  arg_same (Atom (atom.Lit v)) (Var z) m = other_arg z x (Known v) (differs z m)
  arg_same (Atom (atom.Var y)) (Var z) m = other_arg z x (Var y) (differs z m)
  arg_same (Calculate calc l r) (Var z) m = other_arg z x Any (differs z m)

  arg_other : (a : Arg) → IsArgMarked bits a → arg_back (Other x) a ≡ a
  arg_other (Known v) m = refl
  arg_other Any m = refl
  arg_other (Var z) m = other_arg z x Any (differs z m)

rebuilt : (step : Step) (s : Symbol) → arg_back step s.key ≡ s.key → arg_back step s.value ≡ s.value → back step s ≡ s
rebuilt step s e f = ap (λ (a : Arg). with_args s a (arg_back step s.value)) e ∙ ap (λ (a : Arg). with_args s s.key a) f
  where
    with_args : Symbol → Arg → Arg → Symbol
    with_args t a b = record { kind = t.kind; table = t.table; key = a; value = b }

back_same : (step : Step) (A : Symbols) → ((s : Symbol) → A s → back step s ≡ s) → Same (Back step A) A
back_same step A h s = (λ m. subst A (sym (m.2 ∙ h m.0 m.1)) m.1, λ m. (s, m, sym (h s m)))

pub store_same : (bits x : ℕ) (e : Term) (A : Symbols) → IsUnmarked bits x → CoversAll bits A → Same (Back (store_step x e) A) A
store_same bits x e A free covers = back_same (store_step x e) A (λ s m. rebuilt (store_step x e) s (arg_same bits x free e s.key (covers s m).0) (arg_same bits x free e s.value (covers s m).1))

pub other_same : (bits x : ℕ) (A : Symbols) → IsUnmarked bits x → CoversAll bits A → Same (Back (Other x) A) A
other_same bits x A free covers = back_same (Other x) A (λ s m. rebuilt (Other x) s (arg_other bits x free s.key (covers s m).0) (arg_other bits x free s.value (covers s m).1))

same_trans : (A B C : Symbols) → Same A B → Same B C → Same A C
same_trans A B C f g s = (λ m. (g s).0 ((f s).0 m), λ m. (f s).1 ((g s).1 m))

covers_same : (bits : ℕ) (A B : Symbols) → Same A B → CoversAll bits B → CoversAll bits A
covers_same bits A B f h s m = h s ((f s).0 m)

turned_same : (bits x k : ℕ) (body : Symbols → Symbols) (A : Symbols) → IsUnmarked bits x → CoversAll bits A → ((B : Symbols) → CoversAll bits B → Same (body B) B) → Same (Turned x body k A) A
turned_same bits x zero body A free covers f = λ s. (λ m. m, λ m. m)
turned_same bits x (suc k) body A free covers f =
    let T = Turned x body k A in
    let t = turned_same bits x k body A free covers f in
    let c = covers_same bits T A t covers in
    let b = f T c in
    same_trans (Back (Other x) (body T)) (body T) A (other_same bits x (body T) free (covers_same bits (body T) T b c)) (same_trans (body T) T A b t)

either_same : (A B C : Symbols) → Same A C → Same B C → Same (λ s. A s ⊎ B s) C
either_same A B C f g s = (there, λ m. inl ((f s).1 m))
  where
    there : A s ⊎ B s → C s
    there (inl m) = (f s).0 m
    there (inr m) = (g s).0 m

-- still code hands the symbols on
pub still_same : (bits : ℕ) (code : Code) (A : Symbols) → IsStill bits code → CoversAll bits A → Same (Flow code A) A
still_same bits Finish A still covers = λ s. (λ m. m, λ m. m)
still_same bits (Move x e rest) A still covers =
    let r = still_same bits rest A still.1 covers in
    same_trans (Back (store_step x e) (Flow rest A)) (Flow rest A) A (store_same bits x e (Flow rest A) still.0 (covers_same bits (Flow rest A) A r covers)) r
still_same bits (Ask at p x c rest) A still covers = absurd still
still_same bits (Fork at p q test a b rest) A still covers =
    let R = Flow rest A in
    let r = still_same bits rest A still.2 covers in
    let c = covers_same bits R A r covers in
    either_same (Flow a R) (Flow b R) A (same_trans (Flow a R) R A (still_same bits a R still.0 c) r) (same_trans (Flow b R) R A (still_same bits b R still.1 c) r)
still_same bits (Loop at p n x body rest) A still covers =
    let r = still_same bits rest A still.2 covers in
    let c = covers_same bits (Flow rest A) A r covers in
    let turns = λ (k : ℕ). turned_same bits x k (Flow body) (Flow rest A) still.0 c (λ B h. still_same bits body B still.1 h) in
    λ s. (λ m. (r s).0 ((turns m.0 s).0 m.1), λ m. (zero, (r s).1 m))
still_same bits (Quit es rest) A still covers = absurd still

pub still_are : (bits : ℕ) (code : Code) (list : List Symbol) → IsStill bits code → CoversAll bits (Contains list) → Are list (Flow code (Contains list))
still_are bits code list still covers s =
    let same = still_same bits code (Contains list) still covers s in
    (λ m. same.1 m, λ m. same.0 m)

-- ---- statements of a block

module _ (bits : ℕ) (rest : Code) where
  abbrev Parts : Code → Code → Type 0
  Parts whole one = IsStill bits whole ↔ (IsStill bits one × IsStill bits rest)

  both : (c d e f : Code) → c ≡ d → e ≡ f → Parts d f → Parts c e
  both c d e f p q h = subst (λ (z : Code). Parts z e) (sym p) (subst (λ (z : Code). Parts d z) (sym q) h)

  pub still_parts : (s : CheckedStmt) → Parts (stmt_code s rest) (stmt_code s Finish)
  still_parts = checked_cases (λ s. Parts (stmt_code s rest) (stmt_code s Finish))
      (λ x e. both _ _ _ _ (code_store x e rest) (code_store x e Finish) (λ w. ((w.0, tt), w.1), λ w. (w.0.0, w.1)))
      (λ at p x c. both _ _ _ _ (code_perform at p x c rest) (code_perform at p x c Finish) (λ w. absurd w, λ w. absurd w.0))
      (λ at p q c a b. both _ _ _ _ (code_choose at p q c a b rest) (code_choose at p q c a b Finish) (λ w. ((w.0, w.1, tt), w.2), λ w. (w.0.0, w.0.1, w.1)))
      (λ at p n x body. both _ _ _ _ (code_repeat at p n x body rest) (code_repeat at p n x body Finish) (λ w. ((w.0, w.1, tt), w.2), λ w. (w.0.0, w.0.1, w.1)))
      (λ es. both _ _ _ _ (code_answer es rest) (code_answer es Finish) (λ w. absurd w, λ w. absurd w.0))

pub still_at : (bits : ℕ) (items : List CheckedStmt) (i : ℕ) (d : CheckedStmt) → i < length items → IsStill bits (block_code items) → IsStill bits (stmt_code (get_or items i d) Finish)
still_at bits [] i d lt w = absurd (omega arith)
still_at bits (s ∷ ss) zero d lt w = ((still_parts bits (block_code ss) s).0 w).0
still_at bits (s ∷ ss) (suc i) d lt w = still_at bits ss i d (omega arith) ((still_parts bits (block_code ss) s).0 w).1

pub still_drop : (bits : ℕ) (items : List CheckedStmt) (i : ℕ) → IsStill bits (block_code items) → IsStill bits (block_code (drop i items))
still_drop bits items zero w = w
still_drop bits [] (suc i) w = w
still_drop bits (s ∷ ss) (suc i) w = still_drop bits ss i ((still_parts bits (block_code ss) s).0 w).1

-- one more statement of a block that was found still
pub still_more : (bits : ℕ) (items : List CheckedStmt) (i : ℕ) (s : CheckedStmt) (whole : Type 0) → i < length items → s ≡ get_or items i s → IsStill bits (stmt_code s Finish) → (IsStill bits (block_code (drop i items)) → whole) → IsStill bits (block_code (drop (i + 1) items)) → whole
still_more bits items i s whole lt is one so_far rest =
    let next = block_code (drop (i + 1) items) in
    let code : block_code (drop i items) ≡ stmt_code s next = ap block_code (drop_more items i s lt) ∙ ap (λ (z : CheckedStmt). stmt_code z next) (sym is) in
    so_far (subst (IsStill bits) (sym code) ((still_parts bits next s).1 (one, rest)))

pub head_still : (bits at p n x : ℕ) (body : Code) (A : Symbols) → IsStill bits (Loop at p n x body Finish) → CoversAll bits A → Same A (Head x body A)
head_still bits at p n x body A still covers s =
    let same = still_same bits (Loop at p n x body Finish) A still covers s in
    (λ m. same.1 m, λ m. same.0 m)
