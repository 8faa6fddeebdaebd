-- The lines of the file's own are its canonical text.
use Rattle.std.proofs.Common.{◌≡◌, ℕ, ◌+◌, false, List, [], ◌∷◌, ◌++◌, map, refl, sym, ap, ◌∙◌}
use Rattle.std.specs.Prelude.{codes}
use Rattle.std.specs.List.{AllByRecursion}
use Rattle.syntax_trees.specs.declared.stmt.Cond.{Cond}
use Rattle.syntax_trees.specs.declared.stmt.Right.{Right}
use Rattle.syntax_trees.specs.declared.stmt.Right.TheVariants as right
use Rattle.syntax_trees.specs.declared.stmt.Stmt.{Stmt}
use Rattle.syntax_trees.specs.declared.stmt.Stmt.TheVariants as stmt
use Rattle.syntax_trees.specs.declared.file.File.{File}
use Rattle.syntax_trees.specs.declared.file.Handler.{Handler}
use Rattle.syntax_trees.specs.declared.file.TableDecl.{TableDecl}
use Rattle.syntax_printer.specs.Canonical.{assignment_text, canonical_text, else_lines, each, handler_text, indent, lines_at, stmt_text, table_text}
use Rattle.syntax_printer.specs.Lines.{At, Line, of_file, Part, block_lines, block_parts, branch_lines, close_line, else_line, file_lines, handler_lines, handlers_lines, head_text, if_text, let_text, repeat_head_text, right_lines, stmt_part, written}
use Rattle.syntax_printer.specs.Points.{AtPoints, point_text}
use Rattle.syntax_printer.proofs.Inductions.{Simple, stmt_induction, text_let, text_assign, text_call, text_choose, text_repeat, text_reply}
use Rattle.syntax_printer.proofs.Written.{written_join, part_let, part_assign, part_call, part_choose, part_repeat, part_reply}

abbrev own : List Line → List ℕ → List ℕ
own lines rest = written false lines rest

module _ (names : List (List ℕ)) (at : At) where
  -- the lines of the file's own of a statement are its text
  abbrev IsOwn : Stmt → Type 0
  IsOwn s = (depth point : ℕ) (rest : List ℕ) → own ((stmt_part names at s).lines depth point) rest ≡ stmt_text names s depth rest

  block_own : (ss : List Stmt) → AllByRecursion IsOwn ss → (depth point : ℕ) (rest : List ℕ) → own (block_lines (block_parts names at ss) depth point) rest ≡ lines_at depth (map (stmt_text names) ss) rest
  block_own [] all depth point rest = refl
  block_own (s ∷ ss) all depth point rest =
      let part = stmt_part names at s in
      let more = block_lines (block_parts names at ss) depth (point + part.points) in
      written_join false (part.lines depth point) more rest ∙ all.0 depth point (own more rest) ∙ ap (stmt_text names s depth) (block_own ss all.1 depth (point + part.points) rest)

  right_own : (r : Right) (depth point : ℕ) (rest : List ℕ) → own (right_lines at r depth point) rest ≡ rest
  right_own (right.Plain e) depth point rest = refl
  right_own (right.Result call) depth point rest = refl

  -- a block of a statement, and what stands behind it
  branch_own : (ss : List Stmt) → AllByRecursion IsOwn ss → (depth point : ℕ) (lines : List Line) (rest : List ℕ) → own (branch_lines at (block_parts names at ss) depth point ++ lines) rest ≡ lines_at (depth + 1) (map (stmt_text names) ss) (own lines rest)
  branch_own ss all depth point lines rest = written_join false (branch_lines at (block_parts names at ss) depth point) lines rest ∙ block_own ss all (depth + 1) (point + 1) (own lines rest)

  else_own : (ss : List Stmt) → AllByRecursion IsOwn ss → (depth point : ℕ) (rest : List ℕ) → own (else_line (block_parts names at ss) depth ∷ (branch_lines at (block_parts names at ss) depth point ++ (close_line depth ∷ []))) rest
      ≡ else_lines depth (map (stmt_text names) ss) (indent depth (codes "}\n" ++ rest))
  else_own [] all depth point rest = refl
  else_own (s ∷ ss) all depth point rest = ap (λ t. indent depth (codes "} else {\n" ++ t)) (branch_own (s ∷ ss) all depth point (close_line depth ∷ []) rest)

  simple_own : Simple IsOwn
  simple_own = record {
    let_stmt = λ n p r depth point rest.
        ap (λ (x : Part). own (x.lines depth point) rest) (part_let names at n p r) ∙ ap (λ t. indent depth (let_text names n r t)) (right_own r depth point rest) ∙ sym (text_let names n p r depth rest);
    assign_stmt = λ n p r depth point rest.
        ap (λ (x : Part). own (x.lines depth point) rest) (part_assign names at n p r) ∙ ap (λ t. indent depth (assignment_text names n r t)) (right_own r depth point rest) ∙ sym (text_assign names n p r depth rest);
    call_stmt = λ call depth point rest. ap (λ (x : Part). own (x.lines depth point) rest) (part_call names at call) ∙ sym (text_call names call depth rest);
    reply_stmt = λ p values depth point rest. ap (λ (x : Part). own (x.lines depth point) rest) (part_reply names at p values) ∙ sym (text_reply names p values depth rest);
  }

  choose_own : (p : ℕ) (cond : Cond) (first second : List Stmt) → AllByRecursion IsOwn first → AllByRecursion IsOwn second → IsOwn (stmt.Choose p cond first second)
  choose_own p cond first second all_first all_second depth point rest =
      ap (λ (x : Part). own (x.lines depth point) rest) (part_choose names at p cond first second)
      ∙ ap (λ t. indent depth (if_text names cond t)) (branch_own first all_first depth point _ rest ∙ ap (lines_at (depth + 1) (map (stmt_text names) first)) (else_own second all_second depth _ rest))
      ∙ sym (text_choose names p cond first second depth rest)

  repeat_own : (p turns q n r : ℕ) (body : List Stmt) → AllByRecursion IsOwn body → IsOwn (stmt.Repeat p turns q n r body)
  repeat_own p turns q n r body all depth point rest =
      ap (λ (x : Part). own (x.lines depth point) rest) (part_repeat names at p turns q n r body)
      ∙ ap (λ t. indent depth (repeat_head_text names turns n t)) (written_join false (block_lines (block_parts names at body) (depth + 1) point) _ rest ∙ block_own body all (depth + 1) point _)
      ∙ sym (text_repeat names p turns q n r body depth rest)

  stmts_own : (ss : List Stmt) → AllByRecursion IsOwn ss
  stmts_own [] = tt
  stmts_own (s ∷ ss) = (stmt_induction IsOwn simple_own choose_own repeat_own s, stmts_own ss)

  handler_own : (h : Handler) (rest : List ℕ) → own (handler_lines names at h) rest ≡ handler_text names h rest
  handler_own h rest = ap (head_text names h) (branch_own h.body (stmts_own h.body) 0 0 (close_line 0 ∷ []) rest)

module _ (names : List (List ℕ)) (a : AtPoints) where
  handlers_own : (n : ℕ) (hs : List Handler) (rest : List ℕ) → own (handlers_lines names a n hs) rest ≡ each (map (handler_text names) hs) rest
  handlers_own n [] rest = refl
  handlers_own n (h ∷ hs) rest =
      let lines = handler_lines names (point_text names a n) h in
      let more = handlers_lines names a (n + 1) hs in
      written_join false lines more rest ∙ handler_own names (point_text names a n) h (own more rest) ∙ ap (handler_text names h) (handlers_own (n + 1) hs rest)

  tables_own : (ts : List TableDecl) (lines : List Line) (rest : List ℕ) → own (map (λ (t : TableDecl). of_file (table_text names t)) ts ++ lines) rest ≡ each (map (table_text names) ts) (own lines rest)
  tables_own [] lines rest = refl
  tables_own (t ∷ ts) lines rest = ap (table_text names t) (tables_own ts lines rest)

  pub own_is_canonical : (file : File) → written false (file_lines names a file) [] ≡ canonical_text names file
  own_is_canonical file = tables_own file.tables (handlers_lines names a 0 file.handlers) [] ∙ ap (each (map (table_text names) file.tables)) (handlers_own 0 file.handlers [])
