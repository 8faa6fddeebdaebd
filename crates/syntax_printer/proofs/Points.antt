-- Each point of a handler has one line, in the order of the text.
use Rattle.std.proofs.Common.{◌≡◌, ℕ, zero, suc, ◌+◌, List, [], ◌∷◌, ◌++◌, append-nil, refl, sym, ap, ◌∙◌, arith}
use Rattle.std.specs.List.{AllByRecursion}
use Rattle.syntax_trees.specs.declared.stmt.Cond.{Cond}
use Rattle.syntax_trees.specs.declared.stmt.Right.{Right}
use Rattle.syntax_trees.specs.declared.stmt.Right.TheVariants as right
use Rattle.syntax_trees.specs.declared.stmt.Stmt.{Stmt}
use Rattle.syntax_trees.specs.declared.stmt.Stmt.TheVariants as stmt
use Rattle.syntax_trees.specs.declared.file.Handler.{Handler}
use Rattle.syntax_printer.specs.Lines.{At, Line, of_file, of_else, of_point, Part, block_lines, block_parts, block_points, branch_lines, close_line, count_on, else_line, handler_lines, line_points, right_lines, right_points, stmt_part}
use Rattle.syntax_printer.proofs.Inductions.{Simple, stmt_induction}
use Rattle.syntax_printer.proofs.Written.{part_let, part_assign, part_call, part_choose, part_repeat, part_reply}

points_join : (xs ys : List Line) → line_points (xs ++ ys) ≡ line_points xs ++ line_points ys
points_join [] ys = refl
points_join (of_file t ∷ xs) ys = points_join xs ys
points_join (of_else t ∷ xs) ys = points_join xs ys
points_join (of_point n t ∷ xs) ys = ap (λ ns. n ∷ ns) (points_join xs ys)

count_both : (n j k : ℕ) → count_on n (j + k) ≡ count_on n j ++ count_on (n + j) k
count_both n zero k =
    let none : 0 + k ≡ k = omega arith in
    let here : n ≡ n + 0 = omega arith in
    ap (count_on n) none ∙ ap (λ m. count_on m k) here
count_both n (suc j) k =
    let more : suc j + k ≡ suc (j + k) = omega arith in
    let next : n + 1 + j ≡ n + suc j = omega arith in
    ap (count_on n) more ∙ ap (λ ns. n ∷ ns) (count_both (n + 1) j k ∙ ap (λ m. count_on (n + 1) j ++ count_on m k) next)

-- counted parts, one behind the other
count_parts : (xs ys : List ℕ) (n m j k : ℕ) → m ≡ n + j → xs ≡ count_on n j → ys ≡ count_on m k → xs ++ ys ≡ count_on n (j + k)
count_parts xs ys n m j k e f g = (λ i. f i ++ g i) ∙ ap (λ p. count_on n j ++ count_on p k) e ∙ sym (count_both n j k)

module _ (names : List (List ℕ)) (at : At) where
  abbrev AreCounted : Stmt → Type 0
  AreCounted s = (depth point : ℕ) → line_points ((stmt_part names at s).lines depth point) ≡ count_on point (stmt_part names at s).points

  abbrev PartCounted : Part → Type 0
  PartCounted p = (depth point : ℕ) → line_points (p.lines depth point) ≡ count_on point p.points

  as_part : (s : Stmt) (p : Part) → stmt_part names at s ≡ p → PartCounted p → AreCounted s
  as_part s p e h depth point = ap (λ (x : Part). line_points (x.lines depth point)) e ∙ h depth point ∙ sym (ap (λ (x : Part). count_on point x.points) e)

  block_counted : (ss : List Stmt) → AllByRecursion AreCounted ss → (depth point : ℕ) → line_points (block_lines (block_parts names at ss) depth point) ≡ count_on point (block_points (block_parts names at ss))
  block_counted [] all depth point = refl
  block_counted (s ∷ ss) all depth point =
      let part = stmt_part names at s in
      let next = point + part.points in
      points_join (part.lines depth point) (block_lines (block_parts names at ss) depth next) ∙ count_parts _ _ point next part.points (block_points (block_parts names at ss)) refl (all.0 depth point) (block_counted ss all.1 depth next)

  branch_counted : (ss : List Stmt) → AllByRecursion AreCounted ss → (depth point : ℕ) → line_points (branch_lines at (block_parts names at ss) depth point) ≡ count_on point (1 + block_points (block_parts names at ss))
  branch_counted ss all depth point =
      let count = block_points (block_parts names at ss) in
      let more : suc count ≡ 1 + count = omega arith in
      ap (λ ns. point ∷ ns) (block_counted ss all (depth + 1) (point + 1)) ∙ ap (count_on point) more

  right_counted : (r : Right) (depth point : ℕ) → line_points (right_lines at r depth point) ≡ count_on point (right_points r)
  right_counted (right.Plain e) depth point = refl
  right_counted (right.Result call) depth point = refl

  else_uncounted : (ps : List Part) (depth : ℕ) (lines : List Line) → line_points (else_line ps depth ∷ lines) ≡ line_points lines
  else_uncounted [] depth lines = refl
  else_uncounted (p ∷ ps) depth lines = refl

  simple_counted : Simple AreCounted
  simple_counted = record {
    let_stmt = λ n p r. as_part _ _ (part_let names at n p r) (right_counted r);
    assign_stmt = λ n p r. as_part _ _ (part_assign names at n p r) (right_counted r);
    call_stmt = λ call. as_part _ _ (part_call names at call) (λ depth point. refl);
    reply_stmt = λ p values. as_part _ _ (part_reply names at p values) (λ depth point. refl);
  }

  choose_counted : (p : ℕ) (cond : Cond) (first second : List Stmt) → AllByRecursion AreCounted first → AllByRecursion AreCounted second → AreCounted (stmt.Choose p cond first second)
  choose_counted p cond first second all_first all_second = as_part _ _ (part_choose names at p cond first second) both
    where
      both : (depth point : ℕ) → line_points (branch_lines at (block_parts names at first) depth point ++ (else_line (block_parts names at second) depth ∷ (branch_lines at (block_parts names at second) depth (point + (1 + block_points (block_parts names at first))) ++ (close_line depth ∷ []))))
          ≡ count_on point (1 + block_points (block_parts names at first) + (1 + block_points (block_parts names at second)))
      both depth point =
          let j = 1 + block_points (block_parts names at first) in
          let one = branch_lines at (block_parts names at first) depth point in
          let two = branch_lines at (block_parts names at second) depth (point + j) in
          points_join one (else_line (block_parts names at second) depth ∷ (two ++ (close_line depth ∷ [])))
          ∙ count_parts _ _ point (point + j) j (1 + block_points (block_parts names at second)) refl (branch_counted first all_first depth point)
          (else_uncounted (block_parts names at second) depth _ ∙ points_join two (close_line depth ∷ []) ∙ append-nil (line_points two) ∙ branch_counted second all_second depth (point + j))

  repeat_counted : (p turns q n r : ℕ) (body : List Stmt) → AllByRecursion AreCounted body → AreCounted (stmt.Repeat p turns q n r body)
  repeat_counted p turns q n r body all = as_part _ _ (part_repeat names at p turns q n r body) whole
    where
      whole : (depth point : ℕ) → line_points (block_lines (block_parts names at body) (depth + 1) point ++ (close_line depth ∷ of_point (point + block_points (block_parts names at body)) (at depth (point + block_points (block_parts names at body))) ∷ []))
          ≡ count_on point (block_points (block_parts names at body) + 1)
      whole depth point =
          let k = block_points (block_parts names at body) in
          points_join (block_lines (block_parts names at body) (depth + 1) point) (close_line depth ∷ of_point (point + k) (at depth (point + k)) ∷ [])
          ∙ count_parts _ _ point (point + k) k 1 refl (block_counted body all (depth + 1) point) refl

  stmts_counted : (ss : List Stmt) → AllByRecursion AreCounted ss
  stmts_counted [] = tt
  stmts_counted (s ∷ ss) = (stmt_induction AreCounted simple_counted choose_counted repeat_counted s, stmts_counted ss)

  pub handler_counted : (h : Handler) → line_points (handler_lines names at h) ≡ count_on 0 (1 + block_points (block_parts names at h.body))
  handler_counted h =
      let lines = branch_lines at (block_parts names at h.body) 0 0 in
      points_join lines (close_line 0 ∷ []) ∙ append-nil (line_points lines) ∙ branch_counted h.body (stmts_counted h.body) 0 0
