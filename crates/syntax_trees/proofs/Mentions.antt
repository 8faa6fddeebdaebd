-- What a tree mentions, part by part, and lists of facts.
use Rattle.std.proofs.Common.{◌≡◌, ℕ, ◌≤◌, pos, List, [], ◌∷◌, ◌++◌, map, refl, ap, ◌∙◌, arith, rules}
use Rattle.std.specs.List.{AllByRecursion, flat_map}
use Rattle.syntax_trees.specs.declared.expr.Atom.{Atom}
use Rattle.syntax_trees.specs.declared.expr.Atom.TheVariants as atom
use Rattle.syntax_trees.specs.declared.expr.Calc.{Calc}
use Rattle.syntax_trees.specs.declared.expr.Expr.{Expr, the_lemmas}
use Rattle.syntax_trees.specs.declared.expr.Expr.TheVariants as expr
use Rattle.syntax_trees.specs.declared.stmt.Call.{Call}
use Rattle.syntax_trees.specs.declared.stmt.Cond.{Cond}
use Rattle.syntax_trees.specs.declared.stmt.Right.{Right}
use Rattle.syntax_trees.specs.declared.stmt.Stmt.{Stmt, the_lemmas as stmt_lemmas}
use Rattle.syntax_trees.specs.declared.stmt.Stmt.TheVariants as stmt
use Rattle.syntax_trees.specs.Alone.{alone}
use Rattle.syntax_trees.specs.Mentions.{Mention, IsBelow, a_name, a_symbol, a_number, joined, atom_mentions, expr_mentions, call_mentions, right_mentions, cond_mentions, stmt_mentions}

pub mentions_leaf : (a : Atom) → expr_mentions (alone a) ≡ atom_mentions a
mentions_leaf (atom.Lit v) = search (rules, the_lemmas)
mentions_leaf (atom.Name n p) = search (rules, the_lemmas)

pub mentions_binary : (c : Calc) (l r : Expr) → expr_mentions (expr.Binary c (l, r)) ≡ expr_mentions l ++ expr_mentions r
mentions_binary c l r = search (rules, the_lemmas)

joined_map : (ss : List Stmt) → joined (map stmt_mentions ss) ≡ flat_map stmt_mentions ss
joined_map [] = refl
joined_map (s ∷ ss) = ap (λ ms. stmt_mentions s ++ ms) (joined_map ss)

pub mentions_let : (n p : ℕ) (r : Right) → stmt_mentions (stmt.Let n p r) ≡ a_name n ∷ right_mentions r
mentions_let n p r = search (rules, stmt_lemmas)

pub mentions_assign : (n p : ℕ) (r : Right) → stmt_mentions (stmt.Assign n p r) ≡ a_name n ∷ right_mentions r
mentions_assign n p r = search (rules, stmt_lemmas)

pub mentions_perform : (call : Call) → stmt_mentions (stmt.Perform call) ≡ call_mentions call
mentions_perform call = search (rules, stmt_lemmas)

choose_joined : (p : ℕ) (cond : Cond) (first second : List Stmt) → stmt_mentions (stmt.Choose p cond first second) ≡ cond_mentions cond ++ (joined (map stmt_mentions first) ++ joined (map stmt_mentions second))
choose_joined p cond first second = search (rules, stmt_lemmas)

pub mentions_choose : (p : ℕ) (cond : Cond) (first second : List Stmt) → stmt_mentions (stmt.Choose p cond first second) ≡ cond_mentions cond ++ (flat_map stmt_mentions first ++ flat_map stmt_mentions second)
mentions_choose p cond first second =
    choose_joined p cond first second ∙ ap (λ ms. cond_mentions cond ++ (ms ++ joined (map stmt_mentions second))) (joined_map first)
    ∙ ap (λ ms. cond_mentions cond ++ (flat_map stmt_mentions first ++ ms)) (joined_map second)

repeat_joined : (p turns q n r : ℕ) (body : List Stmt) → stmt_mentions (stmt.Repeat p turns q n r body) ≡ a_number (pos turns) ∷ a_name n ∷ joined (map stmt_mentions body)
repeat_joined p turns q n r body = search (rules, stmt_lemmas)

pub mentions_repeat : (p turns q n r : ℕ) (body : List Stmt) → stmt_mentions (stmt.Repeat p turns q n r body) ≡ a_number (pos turns) ∷ a_name n ∷ flat_map stmt_mentions body
mentions_repeat p turns q n r body = repeat_joined p turns q n r body ∙ ap (λ ms. a_number (pos turns) ∷ a_name n ∷ ms) (joined_map body)

pub mentions_answer : (p : ℕ) (values : List Expr) → stmt_mentions (stmt.Answer p values) ≡ flat_map expr_mentions values
mentions_answer p values = search (rules, stmt_lemmas)

-- ---- facts of all

pub all_first : {X : Type 0} (P : X → Type 0) (xs ys : List X) → AllByRecursion P (xs ++ ys) → AllByRecursion P xs × AllByRecursion P ys
all_first P [] ys h = (tt, h)
all_first P (x ∷ xs) ys h = let k = all_first P xs ys h.1 in ((h.0, k.0), k.1)

-- what is mentioned is below a longer list too
pub below_kept : (n m : ℕ) (ms : List Mention) → n ≤ m → AllByRecursion (IsBelow n) ms → AllByRecursion (IsBelow m) ms
below_kept n m [] le h = tt
below_kept n m (a_name place ∷ ms) le h = (omega (arith, le, h.0), below_kept n m ms le h.1)
below_kept n m (a_symbol place ∷ ms) le h = (omega (arith, le, h.0), below_kept n m ms le h.1)
below_kept n m (a_number z ∷ ms) le h = (tt, below_kept n m ms le h.1)
