-- Inductions over expressions and statements, and the equations of what is defined over them.
use Rattle.std.proofs.Common.{◌≡◌, ℕ, List, [], ◌∷◌, ◌++◌, map, subst, rules}
use Rattle.std.specs.Prelude.{codes}
use Rattle.std.specs.List.{AllByRecursion}
use Rattle.syntax_grammar.specs.declared.word.Sort.{Sort}
use Rattle.syntax_grammar.specs.declared.word.Sort.TheVariants as sort
use Rattle.syntax_trees.specs.declared.expr.Atom.{Atom}
use Rattle.syntax_trees.specs.declared.expr.Atom.TheVariants as atom
use Rattle.syntax_trees.specs.declared.expr.Calc.{Calc}
use Rattle.syntax_trees.specs.declared.expr.Expr.{Expr, the_lemmas}
use Rattle.syntax_trees.specs.declared.expr.Expr.TheVariants as expr
use Rattle.syntax_trees.specs.declared.stmt.Call.{Call}
use Rattle.syntax_trees.specs.declared.stmt.Cond.{Cond}
use Rattle.syntax_trees.specs.declared.stmt.Right.{Right}
use Rattle.syntax_trees.specs.declared.stmt.Stmt.{Stmt, roll-Stmt, map-Stmt, the_lemmas as stmt_lemmas}
use Rattle.syntax_trees.specs.declared.stmt.Stmt.TheFolds.{ind-Stmt}
use Rattle.syntax_trees.specs.declared.stmt.Stmt.TheOpen.{Stmt-F}
use Rattle.syntax_trees.specs.declared.stmt.Stmt.TheVariants as stmt
use Rattle.syntax_trees.specs.Alone.{alone}
use Rattle.syntax_printer.specs.declared.expr.Level.{Level}
use Rattle.syntax_printer.specs.Canonical.{atom_text, opening, closing, left_level, right_level, operator_text, expr_text, stmt_text, indent, assignment_text, call_text, choice_text, repeat_text, listed, whole_text}
use Rattle.syntax_printer.specs.CanonicalWords.{atom_sorts, opening_sorts, closing_sorts, calc_sort, expr_sorts, stmt_sorts, assignment_sorts, call_sorts, choice_sorts, repeat_sorts, listed_sorts, whole_sorts}

-- ---- statements

held : {X : Type 0} (P : X → Type 0) (ys : List ((x : X) × P x)) → AllByRecursion P (map (λ y. y.0) ys)
held P [] = tt
held P (y ∷ ys) = (y.1, held P ys)

-- a statement without blocks
pub record Simple (P : Stmt → Type 0) : Type 0 where
  pub let_stmt : (n p : ℕ) (r : Right) → P (stmt.Let n p r)
  pub assign_stmt : (n p : ℕ) (r : Right) → P (stmt.Assign n p r)
  pub call_stmt : (call : Call) → P (stmt.Perform call)
  pub reply_stmt : (p : ℕ) (values : List Expr) → P (stmt.Answer p values)

module _ (P : Stmt → Type 0) (simple : Simple P) (choose : (p : ℕ) (cond : Cond) (first second : List Stmt) → AllByRecursion P first → AllByRecursion P second → P (stmt.Choose p cond first second))
    (repeat : (p turns q n r : ℕ) (body : List Stmt) → AllByRecursion P body → P (stmt.Repeat p turns q n r body)) where
  stmt_rolled : (y : Stmt-F ((s : Stmt) × P s)) → P (roll-Stmt (map-Stmt ((s : Stmt) × P s) Stmt (λ s. s.0) y))
  unfolding roll-Stmt denote.Hole.Carrier.roll
  stmt_rolled (Stmt-F.Let n p r) = simple.let_stmt n p r
  stmt_rolled (Stmt-F.Assign n p r) = simple.assign_stmt n p r
  stmt_rolled (Stmt-F.Perform call) = simple.call_stmt call
  stmt_rolled (Stmt-F.Choose p cond first second) = choose p cond _ _ (held P first) (held P second)
  stmt_rolled (Stmt-F.Repeat p turns q n r body) = repeat p turns q n r _ (held P body)
  stmt_rolled (Stmt-F.Answer p values) = simple.reply_stmt p values

  pub stmt_induction : (s : Stmt) → P s
  stmt_induction = ind-Stmt P (λ x y is. subst (λ z. P (roll-Stmt z)) is (stmt_rolled y))

-- ---- equations

module _ (names : List (List ℕ)) where
  pub text_leaf : (a : Atom) (l : Level) (rest : List ℕ) → expr_text names (alone a) l rest ≡ atom_text names a rest
  text_leaf (atom.Lit v) l rest = search (rules, the_lemmas)
  text_leaf (atom.Name n p) l rest = search (rules, the_lemmas)

  pub text_binary : (c : Calc) (left right : Expr) (l : Level) (rest : List ℕ) → expr_text names (expr.Binary c (left, right)) l rest
      ≡ opening l c ++ expr_text names left (left_level c) (operator_text c ++ expr_text names right (right_level c) (closing l c ++ rest))
  text_binary c left right l rest = search (rules, the_lemmas)

  pub text_let : (n p : ℕ) (r : Right) (depth : ℕ) (rest : List ℕ) → stmt_text names (stmt.Let n p r) depth rest ≡ indent depth (codes "let " ++ assignment_text names n r rest)
  text_let n p r depth rest = search (rules, stmt_lemmas)

  pub text_assign : (n p : ℕ) (r : Right) (depth : ℕ) (rest : List ℕ) → stmt_text names (stmt.Assign n p r) depth rest ≡ indent depth (assignment_text names n r rest)
  text_assign n p r depth rest = search (rules, stmt_lemmas)

  pub text_call : (call : Call) (depth : ℕ) (rest : List ℕ) → stmt_text names (stmt.Perform call) depth rest ≡ indent depth (call_text names call (codes ";\n" ++ rest))
  text_call call depth rest = search (rules, stmt_lemmas)

  pub text_choose : (p : ℕ) (cond : Cond) (first second : List Stmt) (depth : ℕ) (rest : List ℕ) → stmt_text names (stmt.Choose p cond first second) depth rest
      ≡ indent depth (choice_text names cond (map (stmt_text names) first) (map (stmt_text names) second) depth rest)
  text_choose p cond first second depth rest = search (rules, stmt_lemmas)

  pub text_repeat : (p turns q n r : ℕ) (body : List Stmt) (depth : ℕ) (rest : List ℕ) → stmt_text names (stmt.Repeat p turns q n r body) depth rest ≡ indent depth (repeat_text names turns n (map (stmt_text names) body) depth rest)
  text_repeat p turns q n r body depth rest = search (rules, stmt_lemmas)

  pub text_reply : (p : ℕ) (values : List Expr) (depth : ℕ) (rest : List ℕ) → stmt_text names (stmt.Answer p values) depth rest ≡ indent depth (codes "reply " ++ listed (map (whole_text names) values) (codes ";\n" ++ rest))
  text_reply p values depth rest = search (rules, stmt_lemmas)

pub sorts_leaf : (a : Atom) (l : Level) (rest : List Sort) → expr_sorts (alone a) l rest ≡ atom_sorts a rest
sorts_leaf (atom.Lit v) l rest = search (rules, the_lemmas)
sorts_leaf (atom.Name n p) l rest = search (rules, the_lemmas)

pub sorts_binary : (c : Calc) (left right : Expr) (l : Level) (rest : List Sort) → expr_sorts (expr.Binary c (left, right)) l rest
    ≡ opening_sorts l c (expr_sorts left (left_level c) (calc_sort c ∷ expr_sorts right (right_level c) (closing_sorts l c rest)))
sorts_binary c left right l rest = search (rules, the_lemmas)

pub sorts_let : (n p : ℕ) (r : Right) (rest : List Sort) → stmt_sorts (stmt.Let n p r) rest ≡ sort.Let ∷ assignment_sorts n r rest
sorts_let n p r rest = search (rules, stmt_lemmas)

pub sorts_assign : (n p : ℕ) (r : Right) (rest : List Sort) → stmt_sorts (stmt.Assign n p r) rest ≡ assignment_sorts n r rest
sorts_assign n p r rest = search (rules, stmt_lemmas)

pub sorts_call : (call : Call) (rest : List Sort) → stmt_sorts (stmt.Perform call) rest ≡ call_sorts call (sort.Semicolon ∷ rest)
sorts_call call rest = search (rules, stmt_lemmas)

pub sorts_choose : (p : ℕ) (cond : Cond) (first second : List Stmt) (rest : List Sort) → stmt_sorts (stmt.Choose p cond first second) rest ≡ choice_sorts cond (map stmt_sorts first) (map stmt_sorts second) rest
sorts_choose p cond first second rest = search (rules, stmt_lemmas)

pub sorts_repeat : (p turns q n r : ℕ) (body : List Stmt) (rest : List Sort) → stmt_sorts (stmt.Repeat p turns q n r body) rest ≡ repeat_sorts turns n (map stmt_sorts body) rest
sorts_repeat p turns q n r body rest = search (rules, stmt_lemmas)

pub sorts_reply : (p : ℕ) (values : List Expr) (rest : List Sort) → stmt_sorts (stmt.Answer p values) rest ≡ sort.Reply ∷ listed_sorts (map whole_sorts values) (sort.Semicolon ∷ rest)
sorts_reply p values rest = search (rules, stmt_lemmas)
