-- Equal trees, places aside, have equal text.
use Rattle.std.proofs.Common.{◌≡◌, ℕ, ◌+◌, List, [], ◌∷◌, ◌++◌, map, refl, sym, ap, ◌∙◌}
use Rattle.std.specs.Prelude.{codes}
use Rattle.std.specs.List.{AllByRecursion}
use Rattle.std.specs.Fmt.{decimal}
use Rattle.session_values.specs.Kinds.{word_of}
use Rattle.syntax_trees.specs.declared.expr.Atom.{Atom}
use Rattle.syntax_trees.specs.declared.expr.Atom.TheVariants as atom
use Rattle.syntax_trees.specs.declared.expr.Calc.{Calc}
use Rattle.syntax_trees.specs.declared.expr.Expr.{Expr}
use Rattle.syntax_trees.specs.declared.expr.Expr.TheVariants as expr
use Rattle.syntax_trees.specs.declared.stmt.Call.{Call}
use Rattle.syntax_trees.specs.declared.stmt.Cond.{Cond}
use Rattle.syntax_trees.specs.declared.stmt.Right.{Right}
use Rattle.syntax_trees.specs.declared.stmt.Right.TheVariants as right
use Rattle.syntax_trees.specs.declared.stmt.Stmt.{Stmt}
use Rattle.syntax_trees.specs.declared.stmt.Stmt.TheVariants as stmt
use Rattle.syntax_trees.specs.declared.file.Param.{Param}
use Rattle.syntax_trees.specs.declared.file.TableDecl.{TableDecl}
use Rattle.syntax_trees.specs.declared.file.Handler.{Handler}
use Rattle.syntax_trees.specs.declared.file.File.{File}
use Rattle.syntax_trees.specs.Alone.{alone}
use Rattle.syntax_printer.specs.declared.expr.Level.{Level}
use Rattle.syntax_printer.specs.declared.expr.Level.TheVariants as level
use Rattle.syntax_printer.specs.Canonical
use Rattle.syntax_printer.specs.Writing.{Text}
use Rattle.syntax_printer.proofs.Inductions as trees
use Rattle.syntax_trees.proofs.Inductions.{expr_induction}
use Rattle.handler_syntax.specs.SameTree.{atom_bare, expr_bare, call_bare, right_bare, cond_bare, stmt_bare, param_bare, table_bare, handler_bare, file_bare, SameTree}
use Rattle.handler_syntax.proofs.Bare.{bare_leaf, bare_binary, bare_let, bare_assign, bare_perform, bare_choose, bare_repeat, bare_answer}

-- two texts are the same before any rest
abbrev Alike : Text → Text → Type 0
Alike t u = (rest : List ℕ) → t rest ≡ u rest

module _ {X : Type 0} (t : X → Text) (b : X → X) where
  each_alike : (xs : List X) → AllByRecursion (λ x. Alike (t x) (t (b x))) xs → Alike (Canonical.each (map t xs)) (Canonical.each (map t (map b xs)))
  each_alike [] h rest = refl
  each_alike (x ∷ xs) h rest = h.0 (Canonical.each (map t xs) rest) ∙ ap (t (b x)) (each_alike xs h.1 rest)

  further_alike : (xs : List X) → AllByRecursion (λ x. Alike (t x) (t (b x))) xs → Alike (Canonical.further (map t xs)) (Canonical.further (map t (map b xs)))
  further_alike [] h rest = refl
  further_alike (x ∷ xs) h rest = ap (λ r. codes ", " ++ r) (h.0 (Canonical.further (map t xs) rest) ∙ ap (t (b x)) (further_alike xs h.1 rest))

  listed_alike : (xs : List X) → AllByRecursion (λ x. Alike (t x) (t (b x))) xs → Alike (Canonical.listed (map t xs)) (Canonical.listed (map t (map b xs)))
  listed_alike [] h rest = refl
  listed_alike (x ∷ xs) h rest = h.0 (Canonical.further (map t xs) rest) ∙ ap (t (b x)) (further_alike xs h.1 rest)

always : {X : Type 0} (P : X → Type 0) → ((x : X) → P x) → (xs : List X) → AllByRecursion P xs
always P h [] = tt
always P h (x ∷ xs) = (h x, always P h xs)

module _ (names : List (List ℕ)) where
  atom_alike : (a : Atom) → Alike (Canonical.atom_text names a) (Canonical.atom_text names (atom_bare a))
  atom_alike (atom.Lit v) rest = refl
  atom_alike (atom.Name n p) rest = refl

  abbrev ExprAlike : Expr → Type 0
  ExprAlike e = (l : Level) → Alike (Canonical.expr_text names e l) (Canonical.expr_text names (expr_bare e) l)

  leaf_alike : (a : Atom) → ExprAlike (alone a)
  leaf_alike a l rest = trees.text_leaf names a l rest ∙ atom_alike a rest ∙ sym (trees.text_leaf names (atom_bare a) l rest) ∙ ap (λ e. Canonical.expr_text names e l rest) (sym (bare_leaf a))

  binary_alike : (c : Calc) (left right : Expr) → ExprAlike left → ExprAlike right → ExprAlike (expr.Binary c (left, right))
  binary_alike c left right f g l rest =
      let after = Canonical.closing l c ++ rest in
      let second = Canonical.expr_text names right (Canonical.right_level c) after in
      trees.text_binary names c left right l rest
      ∙ ap (λ t. Canonical.opening l c ++ t) (f (Canonical.left_level c) (Canonical.operator_text c ++ second))
      ∙ ap (λ t. Canonical.opening l c ++ Canonical.expr_text names (expr_bare left) (Canonical.left_level c) (Canonical.operator_text c ++ t)) (g (Canonical.right_level c) after)
      ∙ sym (trees.text_binary names c (expr_bare left) (expr_bare right) l rest)
      ∙ ap (λ e. Canonical.expr_text names e l rest) (sym (bare_binary c left right))

  expr_alike : (e : Expr) → ExprAlike e
  expr_alike = expr_induction ExprAlike leaf_alike binary_alike

  whole_alike : (e : Expr) → Alike (Canonical.whole_text names e) (Canonical.whole_text names (expr_bare e))
  whole_alike e = expr_alike e level.Whole

  call_alike : (call : Call) → Alike (Canonical.call_text names call) (Canonical.call_text names (call_bare call))
  call_alike call rest =
      ap (λ t. word_of call.kind ++ (codes "(" ++ Canonical.name_text names call.table t)) (further_alike (Canonical.atom_text names) atom_bare call.args (always _ atom_alike call.args) (codes ")" ++ rest))

  right_alike : (r : Right) → Alike (Canonical.right_text names r) (Canonical.right_text names (right_bare r))
  right_alike (right.Plain e) rest = whole_alike e rest
  right_alike (right.Result call) rest = call_alike call rest

  cond_alike : (cond : Cond) → Alike (Canonical.cond_text names cond) (Canonical.cond_text names (cond_bare cond))
  cond_alike cond rest =
      whole_alike cond.left (Canonical.compare_text cond.compare ++ Canonical.whole_text names cond.right rest)
      ∙ ap (λ t. Canonical.whole_text names (expr_bare cond.left) (Canonical.compare_text cond.compare ++ t)) (whole_alike cond.right rest)

  assignment_alike : (n : ℕ) (r : Right) → Alike (Canonical.assignment_text names n r) (Canonical.assignment_text names n (right_bare r))
  assignment_alike n r rest = ap (λ t. Canonical.name_text names n (codes " = " ++ t)) (right_alike r (codes ";\n" ++ rest))

  -- ---- statements

  abbrev StmtAlike : Stmt → Type 0
  StmtAlike s = (depth : ℕ) → Alike (Canonical.stmt_text names s depth) (Canonical.stmt_text names (stmt_bare s) depth)

  abbrev lines : List Stmt → List Canonical.Lines
  lines ss = map (Canonical.stmt_text names) ss

  lines_alike : (ss : List Stmt) → AllByRecursion StmtAlike ss → (depth : ℕ) → Alike (Canonical.lines_at depth (lines ss)) (Canonical.lines_at depth (lines (map stmt_bare ss)))
  lines_alike [] h depth rest = refl
  lines_alike (s ∷ ss) h depth rest = h.0 depth (Canonical.lines_at depth (lines ss) rest) ∙ ap (Canonical.stmt_text names (stmt_bare s) depth) (lines_alike ss h.1 depth rest)

  else_alike : (ss : List Stmt) → AllByRecursion StmtAlike ss → (depth : ℕ) → Alike (Canonical.else_lines depth (lines ss)) (Canonical.else_lines depth (lines (map stmt_bare ss)))
  else_alike [] h depth rest = refl
  else_alike (s ∷ ss) h depth rest = ap (λ t. Canonical.indent depth (codes "} else {\n" ++ t)) (lines_alike (s ∷ ss) h (depth + 1) rest)

  bare_text : (s t : Stmt) (depth : ℕ) (rest : List ℕ) → stmt_bare s ≡ t → Canonical.stmt_text names t depth rest ≡ Canonical.stmt_text names (stmt_bare s) depth rest
  bare_text s t depth rest e = ap (λ x. Canonical.stmt_text names x depth rest) (sym e)

  let_alike : (n p : ℕ) (r : Right) → StmtAlike (stmt.Let n p r)
  let_alike n p r depth rest =
      trees.text_let names n p r depth rest ∙ ap (λ t. Canonical.indent depth (codes "let " ++ t)) (assignment_alike n r rest)
      ∙ sym (trees.text_let names n 0 (right_bare r) depth rest) ∙ bare_text (stmt.Let n p r) _ depth rest (bare_let n p r)

  assign_alike : (n p : ℕ) (r : Right) → StmtAlike (stmt.Assign n p r)
  assign_alike n p r depth rest =
      trees.text_assign names n p r depth rest ∙ ap (Canonical.indent depth) (assignment_alike n r rest)
      ∙ sym (trees.text_assign names n 0 (right_bare r) depth rest) ∙ bare_text (stmt.Assign n p r) _ depth rest (bare_assign n p r)

  perform_alike : (call : Call) → StmtAlike (stmt.Perform call)
  perform_alike call depth rest =
      trees.text_call names call depth rest ∙ ap (Canonical.indent depth) (call_alike call (codes ";\n" ++ rest))
      ∙ sym (trees.text_call names (call_bare call) depth rest) ∙ bare_text (stmt.Perform call) _ depth rest (bare_perform call)

  reply_alike : (p : ℕ) (values : List Expr) → StmtAlike (stmt.Answer p values)
  reply_alike p values depth rest =
      trees.text_reply names p values depth rest
      ∙ ap (λ t. Canonical.indent depth (codes "reply " ++ t)) (listed_alike (Canonical.whole_text names) expr_bare values (always _ whole_alike values) (codes ";\n" ++ rest))
      ∙ sym (trees.text_reply names 0 (map expr_bare values) depth rest) ∙ bare_text (stmt.Answer p values) _ depth rest (bare_answer p values)

  choose_alike : (p : ℕ) (cond : Cond) (first second : List Stmt) → AllByRecursion StmtAlike first → AllByRecursion StmtAlike second → StmtAlike (stmt.Choose p cond first second)
  choose_alike p cond first second f g depth rest =
      let close = Canonical.indent depth (codes "}\n" ++ rest) in
      let rear = Canonical.else_lines depth (lines second) close in
      trees.text_choose names p cond first second depth rest
      ∙ ap (λ t. Canonical.indent depth (codes "if " ++ t)) (cond_alike cond (codes " {\n" ++ Canonical.lines_at (depth + 1) (lines first) rear))
      ∙ ap (λ t. Canonical.indent depth (codes "if " ++ Canonical.cond_text names (cond_bare cond) (codes " {\n" ++ t)))
      (lines_alike first f (depth + 1) rear ∙ ap (Canonical.lines_at (depth + 1) (lines (map stmt_bare first))) (else_alike second g depth close))
      ∙ sym (trees.text_choose names 0 (cond_bare cond) (map stmt_bare first) (map stmt_bare second) depth rest)
      ∙ bare_text (stmt.Choose p cond first second) _ depth rest (bare_choose p cond first second)

  repeat_alike : (p turns q n r : ℕ) (body : List Stmt) → AllByRecursion StmtAlike body → StmtAlike (stmt.Repeat p turns q n r body)
  repeat_alike p turns q n r body f depth rest =
      trees.text_repeat names p turns q n r body depth rest
      ∙ ap (λ t. Canonical.indent depth (codes "repeat " ++ (decimal turns ++ (codes " as " ++ Canonical.name_text names n (codes " {\n" ++ t))))) (lines_alike body f (depth + 1) (Canonical.indent depth (codes "}\n" ++ rest)))
      ∙ sym (trees.text_repeat names 0 turns 0 n 0 (map stmt_bare body) depth rest)
      ∙ bare_text (stmt.Repeat p turns q n r body) _ depth rest (bare_repeat p turns q n r body)

  stmt_alike : (s : Stmt) → StmtAlike s
  stmt_alike = trees.stmt_induction StmtAlike (record { let_stmt = let_alike; assign_stmt = assign_alike; call_stmt = perform_alike; reply_stmt = reply_alike }) choose_alike repeat_alike

  -- ---- files

  param_alike : (p : Param) → Alike (Canonical.param_text names p) (Canonical.param_text names (param_bare p))
  param_alike p rest = refl

  table_alike : (t : TableDecl) → Alike (Canonical.table_text names t) (Canonical.table_text names (table_bare t))
  table_alike t rest = refl

  handler_alike : (h : Handler) → Alike (Canonical.handler_text names h) (Canonical.handler_text names (handler_bare h))
  handler_alike h rest =
      let body = codes ") {\n" ++ Canonical.block_text names h.body 1 (codes "}\n" ++ rest) in
      ap (λ t. codes "handler " ++ Canonical.name_text names h.name (codes "(" ++ t))
      (listed_alike (Canonical.param_text names) param_bare h.params (always _ param_alike h.params) body
      ∙ ap (λ t. Canonical.listed (map (Canonical.param_text names) (map param_bare h.params)) (codes ") {\n" ++ t)) (lines_alike h.body (always _ stmt_alike h.body) 1 (codes "}\n" ++ rest)))

  file_alike : (f : File) → Canonical.canonical_text names f ≡ Canonical.canonical_text names (file_bare f)
  file_alike f =
      each_alike (Canonical.table_text names) table_bare f.tables (always _ table_alike f.tables) (Canonical.each (map (Canonical.handler_text names) f.handlers) [])
      ∙ ap (Canonical.each (map (Canonical.table_text names) (map table_bare f.tables))) (each_alike (Canonical.handler_text names) handler_bare f.handlers (always _ handler_alike f.handlers) [])

  pub same_text : (f g : File) → SameTree f g → Canonical.canonical_text names f ≡ Canonical.canonical_text names g
  same_text f g e = file_alike f ∙ ap (Canonical.canonical_text names) e ∙ sym (file_alike g)
