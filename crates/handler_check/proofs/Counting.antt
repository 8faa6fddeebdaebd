-- Bounds of statements, and of what follows them in their block.
use Rattle.std.proofs.Common.{◌≡◌, ℕ, zero, suc, ◌+◌, ◌*◌, ◌<◌, ◌≤◌, max, min, Bool, true, false, nat_lt, ◌⊎◌, inl, inr, List, [], ◌∷◌, map, length, get_or, drop, refl, sym, ap, ◌∙◌, rules, arith}
use Rattle.std.proofs.lemmas.List.{drop_more, drop_all}
use Rattle.std.proofs.lemmas.Bool.Decides.{nat_tests}
use Rattle.check_meaning.specs.declared.tree.CheckedCond.{CheckedCond}
use Rattle.check_meaning.specs.declared.tree.CheckedStmt.{CheckedStmt, fold-CheckedStmt, the_lemmas}
use Rattle.check_meaning.specs.declared.tree.CheckedStmt.TheOpen.{CheckedStmt-F}
use Rattle.check_meaning.specs.declared.tree.CheckedStmt.TheVariants as stmt
use Rattle.check_meaning.specs.Bounds.{Weight, bound, work_bound}
use Rattle.check_meaning.proofs.Codes.{code_store, code_perform, code_choose, code_repeat, code_answer, checked_cases}
use Rattle.check_meaning.specs.Code.{Code, Finish, Move, Ask, Fork, Loop, Quit, expr_term, cond_test, stmt_code, block_code}

-- a statement's own bound
module _ (w : Weight) where
  pub bound_stmt : (s : CheckedStmt) (rest : Code) → bound w (stmt_code s rest) ≡ bound w (stmt_code s Finish) + bound w rest
  bound_stmt s rest = checked_cases (λ s. bound w (stmt_code s rest) ≡ bound w (stmt_code s Finish) + bound w rest)
      (λ x e. split (stmt_code (stmt.Store x e) rest) (stmt_code (stmt.Store x e) Finish) (Move x (expr_term e) rest) (Move x (expr_term e) Finish) (bound w rest) (code_store x e rest) (code_store x e Finish) (omega arith))
      (λ at p x c. split (stmt_code (stmt.Perform at p x c) rest) (stmt_code (stmt.Perform at p x c) Finish) (Ask at p x c rest) (Ask at p x c Finish) (bound w rest) (code_perform at p x c rest) (code_perform at p x c Finish) (omega arith))
      (λ at p q c a b. split (stmt_code (stmt.Choose at p q c a b) rest) (stmt_code (stmt.Choose at p q c a b) Finish) (Fork at p q (cond_test c) (block_code a) (block_code b) rest) (Fork at p q (cond_test c) (block_code a) (block_code b) Finish) (bound w rest) (code_choose at p q c a b rest) (code_choose at p q c a b Finish) (omega arith))
      (λ at p n x body. split (stmt_code (stmt.Repeat at p n x body) rest) (stmt_code (stmt.Repeat at p n x body) Finish) (Loop at p n x (block_code body) rest) (Loop at p n x (block_code body) Finish) (bound w rest) (code_repeat at p n x body rest) (code_repeat at p n x body Finish) (omega arith))
      (λ es. split (stmt_code (stmt.Answer es) rest) (stmt_code (stmt.Answer es) Finish) (Quit (map expr_term es) rest) (Quit (map expr_term es) Finish) (bound w rest) (code_answer es rest) (code_answer es Finish) (omega arith)) s
    where
      split : (a b c d : Code) (n : ℕ) → a ≡ c → b ≡ d → bound w c ≡ bound w d + n → bound w a ≡ bound w b + n
      split a b c d n e f h = ap (bound w) e ∙ h ∙ ap (λ (x : ℕ). x + n) (sym (ap (bound w) f))

  pub own_choose : (s : CheckedStmt) (at p q : ℕ) (c : CheckedCond) (a b xs ys : List CheckedStmt) → s ≡ stmt.Choose at p q c a b → xs ≡ a → ys ≡ b → bound w (stmt_code s Finish) ≡ max (bound w (block_code xs)) (bound w (block_code ys))
  own_choose s at p q c a b xs ys is e f =
      let own : bound w (stmt_code s Finish) ≡ max (bound w (block_code a)) (bound w (block_code b)) + 0 = ap (λ (x : CheckedStmt). bound w (stmt_code x Finish)) is ∙ ap (bound w) (code_choose at p q c a b Finish) in
      let x : bound w (block_code xs) ≡ bound w (block_code a) = ap (λ (l : List CheckedStmt). bound w (block_code l)) e in
      let y : bound w (block_code ys) ≡ bound w (block_code b) = ap (λ (l : List CheckedStmt). bound w (block_code l)) f in
      omega arith

  pub own_repeat : (s : CheckedStmt) (at p n x : ℕ) (body xs : List CheckedStmt) → s ≡ stmt.Repeat at p n x body → xs ≡ body → bound w (stmt_code s Finish) ≡ n * bound w (block_code xs)
  own_repeat s at p n x body xs is e =
      let own : bound w (stmt_code s Finish) ≡ n * bound w (block_code body) + 0 = ap (λ (z : CheckedStmt). bound w (stmt_code z Finish)) is ∙ ap (bound w) (code_repeat at p n x body Finish) in
      let same : n * bound w (block_code xs) ≡ n * bound w (block_code body) = ap (λ (l : List CheckedStmt). n * bound w (block_code l)) e in
      omega arith

-- ---- numbers that stand still at the end of 32 bits
is_larger : (b : ℕ) → nat_lt 4294967295 b ≡ true → 4294967295 < b
is_larger b e = grind (arith, nat_tests)

is_smaller : (b : ℕ) → nat_lt 4294967295 b ≡ false → b ≤ 4294967295
is_smaller b e = grind (arith, nat_tests)

pub capped_product : (n b : ℕ) → min (n * min b 4294967295) 4294967295 ≡ min (n * b) 4294967295
capped_product zero b = (let e : 0 * min b 4294967295 ≡ 0 * b = omega arith in ap (λ (n : ℕ). min n 4294967295) e)
capped_product (suc n) b = elim (decided (nat_lt 4294967295 b) refl) [
  | inl l ↦ (let e : min b 4294967295 ≡ b = omega arith in ap (λ (m : ℕ). min (suc n * m) 4294967295) e)
  | inr l ↦ (let e : min b 4294967295 ≡ 4294967295 = omega arith in ap (λ (m : ℕ). min (suc n * m) 4294967295) e ∙ large n b l)
]
  where
    decided : (t : Bool) → nat_lt 4294967295 b ≡ t → (b ≤ 4294967295) ⊎ (4294967295 < b)
    decided true e = inr (is_larger b e)
    decided false e = inl (is_smaller b e)

    large : (n b : ℕ) → 4294967295 < b → min (suc n * 4294967295) 4294967295 ≡ min (suc n * b) 4294967295
    large n b l = omega arith

pub capped_sum : (t own rest : ℕ) → min (min (t + min own 4294967295) 4294967295 + rest) 4294967295 ≡ min (t + (own + rest)) 4294967295
capped_sum t own rest = omega arith

-- ---- how large resolved statements are
abbrev pub all_sizes : List ℕ → ℕ
all_sizes [] = 1
all_sizes (n ∷ ns) = n + all_sizes ns

abbrev pub size_step : CheckedStmt-F ℕ → ℕ
size_step (CheckedStmt-F.Store x e) = 1
size_step (CheckedStmt-F.Perform at p x c) = 1
size_step (CheckedStmt-F.Choose at p q c a b) = 1 + (all_sizes a + all_sizes b)
size_step (CheckedStmt-F.Repeat at p n x body) = 1 + all_sizes body
size_step (CheckedStmt-F.Answer es) = 1

abbrev pub checked_size : CheckedStmt → ℕ
checked_size = fold-CheckedStmt ℕ size_step

abbrev pub checked_sizes : List CheckedStmt → ℕ
checked_sizes ss = all_sizes (map checked_size ss)

size_choose : (at p q : ℕ) (c : CheckedCond) (a b : List CheckedStmt) → checked_size (stmt.Choose at p q c a b) ≡ 1 + (checked_sizes a + checked_sizes b)
size_choose at p q c a b = search (rules, the_lemmas)

size_repeat : (at p n x : ℕ) (body : List CheckedStmt) → checked_size (stmt.Repeat at p n x body) ≡ 1 + checked_sizes body
size_repeat at p n x body = search (rules, the_lemmas)

sizes_some : (ns : List ℕ) → 0 < all_sizes ns
sizes_some [] = omega arith
sizes_some (n ∷ ns) = (let h = sizes_some ns in omega arith)

pub first_smaller : (s : CheckedStmt) (at p q : ℕ) (c : CheckedCond) (a b xs : List CheckedStmt) → s ≡ stmt.Choose at p q c a b → xs ≡ a → checked_sizes xs < checked_size s
first_smaller s at p q c a b xs is e = omega (arith, ap checked_size is ∙ size_choose at p q c a b, ap checked_sizes e)

pub second_smaller : (s : CheckedStmt) (at p q : ℕ) (c : CheckedCond) (a b xs : List CheckedStmt) → s ≡ stmt.Choose at p q c a b → xs ≡ b → checked_sizes xs < checked_size s
second_smaller s at p q c a b xs is e = omega (arith, ap checked_size is ∙ size_choose at p q c a b, ap checked_sizes e)

pub body_smaller : (s : CheckedStmt) (at p n x : ℕ) (body xs : List CheckedStmt) → s ≡ stmt.Repeat at p n x body → xs ≡ body → checked_sizes xs < checked_size s
body_smaller s at p n x body xs is e = omega (arith, ap checked_size is ∙ size_repeat at p n x body, ap checked_sizes e)

get_smaller : (xs : List CheckedStmt) (i : ℕ) (d : CheckedStmt) → i < length xs → checked_size (get_or xs i d) < checked_sizes xs
get_smaller [] i d h = absurd (omega arith)
get_smaller (x ∷ xs) zero d h = omega (arith, sizes_some (map checked_size xs))
get_smaller (x ∷ xs) (suc i) d h = omega (arith, get_smaller xs i d (omega arith))

pub member_smaller : (xs : List CheckedStmt) (i : ℕ) (x d : CheckedStmt) → i < length xs → x ≡ get_or xs i d → checked_size x < checked_sizes xs
member_smaller xs i x d h is = omega (arith, ap checked_size is, get_smaller xs i d h)

-- ---- the loop over a block
pub bound_turn : (w : Weight) (ss : List CheckedStmt) (i : ℕ) (s d : CheckedStmt) (total whole : ℕ) → i < length ss → s ≡ get_or ss i d
    → min (total + bound w (block_code (drop i ss))) 4294967295 ≡ whole → min (min (total + min (bound w (stmt_code s Finish)) 4294967295) 4294967295 + bound w (block_code (drop (i + 1) ss))) 4294967295 ≡ whole
bound_turn w ss i s d total whole h is so_far =
    let rest : Code = block_code (drop (i + 1) ss) in
    capped_sum total (bound w (stmt_code s Finish)) (bound w rest)
    ∙ ap (λ (n : ℕ). min (total + n) 4294967295) (sym (bound_stmt w s rest) ∙ ap (λ (z : CheckedStmt). bound w (stmt_code z rest)) is)
    ∙ ap (λ (zs : List CheckedStmt). min (total + bound w (block_code zs)) 4294967295) (sym (drop_more ss i d h)) ∙ so_far

pub bound_end : (w : Weight) (ss : List CheckedStmt) (i total whole : ℕ) → length ss ≤ i → total ≤ 4294967295 → min (total + bound w (block_code (drop i ss))) 4294967295 ≡ whole → total ≡ whole
bound_end w ss i total whole h small so_far = (let e : bound w (block_code (drop i ss)) ≡ 0 = ap (λ (zs : List CheckedStmt). bound w (block_code zs)) (drop_all i ss h) in omega arith)

-- ---- work
work_split : (a b c d : Code) (n : ℕ) → a ≡ c → b ≡ d → work_bound c ≡ work_bound d + n → work_bound a ≡ work_bound b + n
work_split a b c d n e f h = ap work_bound e ∙ h ∙ ap (λ (x : ℕ). x + n) (sym (ap work_bound f))

pub work_stmt : (s : CheckedStmt) (rest : Code) → work_bound (stmt_code s rest) ≡ work_bound (stmt_code s Finish) + work_bound rest
work_stmt s rest = checked_cases (λ s. work_bound (stmt_code s rest) ≡ work_bound (stmt_code s Finish) + work_bound rest)
    (λ x e. work_split (stmt_code (stmt.Store x e) rest) (stmt_code (stmt.Store x e) Finish) (Move x (expr_term e) rest) (Move x (expr_term e) Finish) (work_bound rest) (code_store x e rest) (code_store x e Finish) (omega arith))
    (λ at p x c. work_split (stmt_code (stmt.Perform at p x c) rest) (stmt_code (stmt.Perform at p x c) Finish) (Ask at p x c rest) (Ask at p x c Finish) (work_bound rest) (code_perform at p x c rest) (code_perform at p x c Finish) (omega arith))
    (λ at p q c a b. work_split (stmt_code (stmt.Choose at p q c a b) rest) (stmt_code (stmt.Choose at p q c a b) Finish) (Fork at p q (cond_test c) (block_code a) (block_code b) rest) (Fork at p q (cond_test c) (block_code a) (block_code b) Finish) (work_bound rest) (code_choose at p q c a b rest) (code_choose at p q c a b Finish) (omega arith))
    (λ at p n x body. work_split (stmt_code (stmt.Repeat at p n x body) rest) (stmt_code (stmt.Repeat at p n x body) Finish) (Loop at p n x (block_code body) rest) (Loop at p n x (block_code body) Finish) (work_bound rest) (code_repeat at p n x body rest) (code_repeat at p n x body Finish) (omega arith))
    (λ es. work_split (stmt_code (stmt.Answer es) rest) (stmt_code (stmt.Answer es) Finish) (Quit (map expr_term es) rest) (Quit (map expr_term es) Finish) (work_bound rest) (code_answer es rest) (code_answer es Finish) (omega arith)) s

pub work_turn : (ss : List CheckedStmt) (i : ℕ) (s d : CheckedStmt) (total whole : ℕ) → i < length ss → s ≡ get_or ss i d
    → min (total + work_bound (block_code (drop i ss))) 4294967295 ≡ whole → min (min (total + min (work_bound (stmt_code s Finish)) 4294967295) 4294967295 + work_bound (block_code (drop (i + 1) ss))) 4294967295 ≡ whole
work_turn ss i s d total whole h is so_far =
    let rest : Code = block_code (drop (i + 1) ss) in
    capped_sum total (work_bound (stmt_code s Finish)) (work_bound rest)
    ∙ ap (λ (n : ℕ). min (total + n) 4294967295) (sym (work_stmt s rest) ∙ ap (λ (z : CheckedStmt). work_bound (stmt_code z rest)) is)
    ∙ ap (λ (zs : List CheckedStmt). min (total + work_bound (block_code zs)) 4294967295) (sym (drop_more ss i d h)) ∙ so_far

pub work_end : (ss : List CheckedStmt) (i total whole : ℕ) → length ss ≤ i → total ≤ 4294967295 → min (total + work_bound (block_code (drop i ss))) 4294967295 ≡ whole → total ≡ whole
work_end ss i total whole h small so_far = (let e : work_bound (block_code (drop i ss)) ≡ 0 = ap (λ (zs : List CheckedStmt). work_bound (block_code zs)) (drop_all i ss h) in omega arith)
