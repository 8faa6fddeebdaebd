-- A statement has as many points for the printer as for the checker.
use Rattle.std.proofs.Common.{◌≡◌, ℕ, ◌+◌, List, [], ◌∷◌, refl, sym, ap, ◌∙◌, arith}
use Rattle.std.specs.List.{AllByRecursion}
use Rattle.syntax_trees.specs.declared.expr.Expr.{Expr}
use Rattle.syntax_trees.specs.declared.stmt.Cond.{Cond}
use Rattle.syntax_trees.specs.declared.stmt.Right.{Right}
use Rattle.syntax_trees.specs.declared.stmt.Right.TheVariants as right
use Rattle.syntax_trees.specs.declared.stmt.Stmt.{Stmt}
use Rattle.syntax_trees.specs.declared.stmt.Stmt.TheVariants as stmt
use Rattle.syntax_trees.specs.declared.file.File.{File}
use Rattle.syntax_trees.specs.declared.file.Handler.{Handler}
use Rattle.syntax_trees.specs.Source.{Source, stmt_source, block_source}
use Rattle.handler_check.specs.Code.{points}
use Rattle.handler_check.specs.Resolved.{code_of, handler_code, points_of, right_points, table_names, variables_of}
use Rattle.handler_check.proofs.Cases.{source_let, source_assign, source_call, source_choose, source_repeat, source_reply}
use Rattle.handler_check.proofs.Inductions.{stmt_induction}
use Rattle.handler_check.proofs.Numbers.{counted}
use Rattle.syntax_printer.specs.Lines.{At, Part, block_parts, block_points, stmt_part}
use Rattle.syntax_printer.specs.Lines as lines
use Rattle.syntax_printer.proofs.Written.{part_let, part_assign, part_call, part_choose, part_repeat, part_reply}

module _ (names : List (List ℕ)) (at : At) where
  abbrev part_points : Stmt → ℕ
  part_points s = (stmt_part names at s).points

  abbrev IsSame : Stmt → Type 0
  IsSame s = (rest : Source) → points_of (stmt_source s rest) ≡ part_points s + points_of rest

  block_same : (ss : List Stmt) → AllByRecursion IsSame ss → points_of (block_source ss) ≡ block_points (block_parts names at ss)
  block_same [] all = refl
  block_same (s ∷ ss) all = all.0 (block_source ss) ∙ ap (λ (n : ℕ). part_points s + n) (block_same ss all.1)

  right_same : (r : Right) → right_points r ≡ lines.right_points r
  right_same (right.Plain e) = refl
  right_same (right.Result c) = refl

  let_same : (n p : ℕ) (r : Right) → IsSame (stmt.Let n p r)
  let_same n p r rest =
      ap points_of (source_let n p r rest)
      ∙ ap (λ (k : ℕ). k + points_of rest) (right_same r ∙ sym (ap (λ (x : Part). x.points) (part_let names at n p r)))

  assign_same : (n p : ℕ) (r : Right) → IsSame (stmt.Assign n p r)
  assign_same n p r rest =
      ap points_of (source_assign n p r rest)
      ∙ ap (λ (k : ℕ). k + points_of rest) (right_same r ∙ sym (ap (λ (x : Part). x.points) (part_assign names at n p r)))

  choose_same : (p : ℕ) (cond : Cond) (first second : List Stmt) → AllByRecursion IsSame first → AllByRecursion IsSame second → IsSame (stmt.Choose p cond first second)
  choose_same p cond first second all more rest =
      let a = block_same first all in
      let b = block_same second more in
      let count : part_points (stmt.Choose p cond first second) ≡ 1 + block_points (block_parts names at first) + (1 + block_points (block_parts names at second)) = ap (λ (x : Part). x.points) (part_choose names at p cond first second) in
      ap points_of (source_choose p cond first second rest) ∙ omega (arith, a, b, count)

  repeat_same : (p turns q n r : ℕ) (body : List Stmt) → AllByRecursion IsSame body → IsSame (stmt.Repeat p turns q n r body)
  repeat_same p turns q n r body all rest =
      let a = block_same body all in
      let count : part_points (stmt.Repeat p turns q n r body) ≡ block_points (block_parts names at body) + 1 = ap (λ (x : Part). x.points) (part_repeat names at p turns q n r body) in
      ap points_of (source_repeat p turns q n r body rest) ∙ omega (arith, a, count)

  reply_same : (p : ℕ) (values : List Expr) → IsSame (stmt.Answer p values)
  reply_same p values rest =
      let count : part_points (stmt.Answer p values) ≡ 0 = ap (λ (x : Part). x.points) (part_reply names at p values) in
      ap points_of (source_reply p values rest) ∙ omega (arith, count)

  stmt_same : (s : Stmt) → IsSame s
  stmt_same = stmt_induction IsSame (record {
    let_stmt = let_same;
    assign_stmt = assign_same;
    call_stmt = λ call rest. ap points_of (source_call call rest) ∙ ap (λ (k : ℕ). k + points_of rest) (sym (ap (λ (x : Part). x.points) (part_call names at call)));
    choose_stmt = choose_same;
    repeat_stmt = repeat_same;
    reply_stmt = reply_same;
  })

  stmts_same : (ss : List Stmt) → AllByRecursion IsSame ss
  stmts_same [] = tt
  stmts_same (s ∷ ss) = (stmt_same s, stmts_same ss)

  pub block_points_same : (tables variables : List ℕ) (block : List Stmt) (p : ℕ) → block_points (block_parts names at block) ≡ points (code_of tables variables (block_source block) p)
  block_points_same tables variables block p =
      sym (counted tables variables (block_source block) p ∙ block_same block (stmts_same block))

pub stmt_points_same : (names : List (List ℕ)) (at : At) (tables variables : List ℕ) (s : Stmt) (p : ℕ) → (stmt_part names at s).points ≡ points (code_of tables variables (block_source (s ∷ [])) p)
stmt_points_same names at tables variables s p =
    let same = block_points_same names at tables variables (s ∷ []) p in
    omega (arith, same)

pub handler_points_same : (names : List (List ℕ)) (at : At) (f : File) (h : Handler) → block_points (block_parts names at h.body) ≡ points (handler_code f h)
handler_points_same names at f h = block_points_same names at (table_names f) (variables_of h) h.body 1
