-- How many statements and blocks there are, and that there are no more points.
use Rattle.std.proofs.Common.{◌≡◌, ℕ, ◌+◌, ◌^◌, ◌<◌, ◌≤◌, min, List, [], ◌∷◌, length, drop, get_or, sym, ap, ◌∙◌, subst, arith, rules}
use Rattle.std.proofs.lemmas.List.{drop_more, drop_all}
use Rattle.std.specs.List.{AllByRecursion}
use Rattle.syntax_trees.specs.declared.expr.Expr.{Expr}
use Rattle.syntax_trees.specs.declared.stmt.Call.{Call}
use Rattle.syntax_trees.specs.declared.stmt.Cond.{Cond}
use Rattle.syntax_trees.specs.declared.stmt.Right.{Right}
use Rattle.syntax_trees.specs.declared.stmt.Right.TheVariants as right
use Rattle.syntax_trees.specs.declared.stmt.Stmt.{Stmt, the_lemmas}
use Rattle.syntax_trees.specs.declared.stmt.Stmt.TheVariants as stmt
use Rattle.syntax_trees.proofs.Sizes.{block_size, stmt_size, size_choose, size_repeat}
use Rattle.syntax_printer.specs.declared.spot.Spot.{Spot}
use Rattle.syntax_printer.specs.Countable.{FitsAt}
use Rattle.syntax_printer.specs.Lines.{At, Part, block_parts, block_points, right_points, stmt_part}
use Rattle.syntax_printer.proofs.Inductions.{Simple, stmt_induction}
use Rattle.syntax_printer.proofs.Written.{part_let, part_assign, part_call, part_choose, part_repeat, part_reply}

-- ---- sizes

pub size_let : (n p : ℕ) (r : Right) → stmt_size (stmt.Let n p r) ≡ 1
size_let n p r = search (rules, the_lemmas)

pub size_assign : (n p : ℕ) (r : Right) → stmt_size (stmt.Assign n p r) ≡ 1
size_assign n p r = search (rules, the_lemmas)

pub size_call : (call : Call) → stmt_size (stmt.Perform call) ≡ 1
size_call call = search (rules, the_lemmas)

pub size_reply : (p : ℕ) (values : List Expr) → stmt_size (stmt.Answer p values) ≡ 1
size_reply p values = search (rules, the_lemmas)

pub block_some : (ss : List Stmt) → 0 < block_size ss
block_some [] = omega arith
block_some (s ∷ ss) = omega (arith, block_some ss)

pub size_turn : (xs : List Stmt) (i : ℕ) (x d : Stmt) → i < length xs → x ≡ get_or xs i d → block_size (drop i xs) ≡ stmt_size x + block_size (drop (i + 1) xs)
size_turn xs i x d h is = ap block_size (drop_more xs i d h) ∙ ap (λ y. stmt_size y + block_size (drop (i + 1) xs)) (sym is)

-- the sum that is cut goes on
pub measured_turn : (xs : List Stmt) (i size own : ℕ) (x d : Stmt) → i < length xs → x ≡ get_or xs i d → own ≡ min (stmt_size x) 4294967295 → size ≤ 4294967295
    → min (size + block_size (drop i xs)) 4294967296 ≡ min (1 + block_size xs) 4294967296 → min (min (size + own) 4294967295 + block_size (drop (i + 1) xs)) 4294967296 ≡ min (1 + block_size xs) 4294967296
measured_turn xs i size own x d h is e small so = omega (arith, e, small, so, size_turn xs i x d h is, block_some (drop (i + 1) xs))

pub measured_end : (xs : List Stmt) (i size : ℕ) → length xs ≤ i → size ≤ 4294967295 → min (size + block_size (drop i xs)) 4294967296 ≡ min (1 + block_size xs) 4294967296 → size ≡ min (block_size xs) 4294967295
measured_end xs i size h small so = omega (arith, small, so, ap block_size (drop_all i xs h))

-- ---- spots

-- a part fits at a spot that is given by its numbers
pub fits_at : {s : Spot} {handler depth point : ℕ} → s ≡ record { handler = handler; depth = depth; point = point } → (size : ℕ) → depth + size < 2 ^ 32 → point + size < 2 ^ 32 → FitsAt s size
fits_at {s} {handler} {depth} {point} e size deep far = subst (λ (x : Spot). FitsAt x size) (sym e) (deep, far)

-- the spot behind the first point inside a block
pub before_at : {s inner : Spot} {handler depth point first next : ℕ} → s ≡ record { handler = inner.handler; depth = inner.depth; point = first } → inner ≡ record { handler = handler; depth = depth; point = point } → first ≡ next
    → s ≡ record { handler = handler; depth = depth; point = next }
before_at e f k = e ∙ (λ i. record { handler = (f i).handler; depth = (f i).depth; point = k i })

-- ---- points

right_few : (r : Right) → right_points r ≤ 1
right_few (right.Plain e) = omega arith
right_few (right.Result call) = omega arith

module _ (names : List (List ℕ)) (at : At) where
  abbrev IsFew : Stmt → Type 0
  IsFew s = (stmt_part names at s).points ≤ stmt_size s

  block_few : (ss : List Stmt) → AllByRecursion IsFew ss → block_points (block_parts names at ss) + 1 ≤ block_size ss
  block_few [] all = omega arith
  block_few (s ∷ ss) all = omega (arith, all.0, block_few ss all.1)

  simple_few : Simple IsFew
  simple_few = record {
    let_stmt = λ n p r. omega (arith, ap (λ (x : Part). x.points) (part_let names at n p r), size_let n p r, right_few r);
    assign_stmt = λ n p r. omega (arith, ap (λ (x : Part). x.points) (part_assign names at n p r), size_assign n p r, right_few r);
    call_stmt = λ call. omega (arith, ap (λ (x : Part). x.points) (part_call names at call), size_call call);
    reply_stmt = λ p values. omega (arith, ap (λ (x : Part). x.points) (part_reply names at p values), size_reply p values);
  }

  choose_few : (p : ℕ) (cond : Cond) (first second : List Stmt) → AllByRecursion IsFew first → AllByRecursion IsFew second → IsFew (stmt.Choose p cond first second)
  choose_few p cond first second all_first all_second =
      omega (arith, ap (λ (x : Part). x.points) (part_choose names at p cond first second), size_choose p cond first second, block_few first all_first, block_few second all_second)

  repeat_few : (p turns q n r : ℕ) (body : List Stmt) → AllByRecursion IsFew body → IsFew (stmt.Repeat p turns q n r body)
  repeat_few p turns q n r body all = omega (arith, ap (λ (x : Part). x.points) (part_repeat names at p turns q n r body), size_repeat p turns q n r body, block_few body all)

  -- a statement has no more points than its size
  pub points_few : (s : Stmt) → (stmt_part names at s).points ≤ stmt_size s
  points_few s = stmt_induction IsFew simple_few choose_few repeat_few s

  all_few : (ss : List Stmt) → AllByRecursion IsFew ss
  all_few [] = tt
  all_few (s ∷ ss) = (points_few s, all_few ss)

  -- a block has fewer
  pub block_points_few : (ss : List Stmt) → block_points (block_parts names at ss) + 1 ≤ block_size ss
  block_points_few ss = block_few ss (all_few ss)
