-- Places of a tree that are below a count, part by part.
use Rattle.std.proofs.Common.{◌≡◌, ℕ, ◌<◌, List, ◌++◌, length, refl, sym, ap, ◌∙◌, subst}
use Rattle.std.specs.List.{flat_map}
use Rattle.syntax_trees.specs.declared.expr.Calc.{Calc}
use Rattle.syntax_trees.specs.declared.expr.Expr.{Expr}
use Rattle.syntax_trees.specs.declared.expr.Expr.TheVariants as expr
use Rattle.syntax_trees.specs.declared.stmt.Cond.{Cond}
use Rattle.syntax_trees.specs.declared.stmt.Stmt.{Stmt}
use Rattle.syntax_trees.specs.declared.stmt.Stmt.TheVariants as stmt
use Rattle.syntax_trees.specs.declared.file.Handler.{Handler}
use Rattle.syntax_trees.specs.declared.file.File.{File}
use Rattle.syntax_trees.specs.Mentions.{Mention, AreNamed, expr_mentions, cond_mentions, stmt_mentions, table_mentions, param_mentions, handler_mentions, file_mentions}
use Rattle.syntax_trees.proofs.Mentions.{mentions_binary, mentions_choose, mentions_repeat, all_first}

-- ---- names of a list

module _ (names : List (List ℕ)) where
  abbrev Named : List Mention → Type 0
  Named ms = AreNamed names ms

  both : {ms : List Mention} (ls rs : List Mention) → ms ≡ ls ++ rs → Named ms → Named ls × Named rs
  both ls rs e h = all_first _ ls rs (subst Named e h)

  pub named_left : (e x l r : Expr) (c : Calc) → e ≡ expr.Binary c (l, r) → x ≡ l → Named (expr_mentions e) → Named (expr_mentions x)
  named_left e x l r c is same h =
      subst (λ y. Named (expr_mentions y)) (sym same) (both (expr_mentions l) (expr_mentions r) (ap expr_mentions is ∙ mentions_binary c l r) h).0

  pub named_right : (e x l r : Expr) (c : Calc) → e ≡ expr.Binary c (l, r) → x ≡ r → Named (expr_mentions e) → Named (expr_mentions x)
  named_right e x l r c is same h =
      subst (λ y. Named (expr_mentions y)) (sym same) (both (expr_mentions l) (expr_mentions r) (ap expr_mentions is ∙ mentions_binary c l r) h).1

  pub named_cond : (cond : Cond) → Named (cond_mentions cond) → Named (expr_mentions cond.left) × Named (expr_mentions cond.right)
  named_cond cond h = both (expr_mentions cond.left) (expr_mentions cond.right) refl h

  pub record NamedChoice (cond : Cond) (xs ys : List Stmt) : Type 0 where
    pub condition : Named (cond_mentions cond)
    pub first : Named (flat_map stmt_mentions xs)
    pub second : Named (flat_map stmt_mentions ys)

  pub named_choice : (s : Stmt) (p : ℕ) (cond : Cond) (xs ys first second : List Stmt) → s ≡ stmt.Choose p cond first second → xs ≡ first → ys ≡ second → Named (stmt_mentions s) → NamedChoice cond xs ys
  named_choice s p cond xs ys first second is e f h =
      let k = both (cond_mentions cond) _ (ap stmt_mentions is ∙ mentions_choose p cond first second) h in
      let m = both (flat_map stmt_mentions first) (flat_map stmt_mentions second) refl k.1 in
      record {
        condition = k.0;
        first = subst (λ zs. Named (flat_map stmt_mentions zs)) (sym e) m.0;
        second = subst (λ zs. Named (flat_map stmt_mentions zs)) (sym f) m.1;
      }

  pub named_repeat : (s : Stmt) (p turns q n r : ℕ) (xs body : List Stmt) → s ≡ stmt.Repeat p turns q n r body → xs ≡ body → Named (stmt_mentions s) → (n < length names) × Named (flat_map stmt_mentions xs)
  named_repeat s p turns q n r xs body is e h =
      let k = subst Named (ap stmt_mentions is ∙ mentions_repeat p turns q n r body) h in
      (k.1.0, subst (λ zs. Named (flat_map stmt_mentions zs)) (sym e) k.1.1)

  pub named_body : (h : Handler) (block : List Stmt) → block ≡ h.body → Named (handler_mentions h) → Named (flat_map stmt_mentions block)
  named_body h block e all = subst (λ zs. Named (flat_map stmt_mentions zs)) (sym e) (both (flat_map param_mentions h.params) (flat_map stmt_mentions h.body) refl all.1).1

  pub named_handlers : (f : File) (hs : List Handler) → hs ≡ f.handlers → Named (file_mentions f) → Named (flat_map handler_mentions hs)
  named_handlers f hs e all = subst (λ zs. Named (flat_map handler_mentions zs)) (sym e) (both (flat_map table_mentions f.tables) (flat_map handler_mentions f.handlers) refl all).1
