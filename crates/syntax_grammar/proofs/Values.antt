-- The trees that functions build are those of their phrases.
use Rattle.std.proofs.Common.{◌≡◌, ◌+◌, ℕ, List, length, arith, ap, ◌∙◌}
use Rattle.session_values.specs.declared.kind.Kind.{Kind}
use Rattle.session_values.specs.declared.kind.TableKind.{TableKind}
use Rattle.syntax_grammar.specs.declared.word.Word.{Word}
use Rattle.syntax_trees.specs.declared.expr.Atom.{Atom}
use Rattle.syntax_trees.specs.declared.expr.Expr.{Expr}
use Rattle.syntax_trees.specs.declared.stmt.Call.{Call}
use Rattle.syntax_trees.specs.declared.stmt.Compare.{Compare}
use Rattle.syntax_trees.specs.declared.stmt.Cond.{Cond}
use Rattle.syntax_trees.specs.declared.stmt.Stmt.{Stmt}
use Rattle.syntax_trees.specs.declared.file.Param.{Param}
use Rattle.syntax_trees.specs.declared.file.TableDecl.{TableDecl}
use Rattle.syntax_trees.specs.declared.file.Handler.{Handler}
use Rattle.syntax_trees.specs.declared.file.File.{File}
use Rattle.syntax_grammar.specs.declared.turns.Turns.{Turns}
use Rattle.syntax_grammar.specs.Phrase.{NamePhrase, named, name_words, NumberPhrase, ArgumentsPhrase, operands, ExprPhrase, a_cond, a_turns, a_table}
use Rattle.syntax_grammar.specs.Tree.{name_of, count_of, arguments_trees, call_of, expr_tree, cond_tree, turns_of, param_of, table_tree}

abbrev call_with : Kind → ℕ → ℕ × ℕ → List Atom → Call
call_with k p t args = record { kind = k; at = p; table = t.0; table_at = t.1; args = args }

pub call_value : (k : Kind) (p x y l r : ℕ) (t : NamePhrase) (args : List Atom) (xs : ArgumentsPhrase) → (x, y) ≡ name_of t → args ≡ arguments_trees xs → call_with k p (x, y) args ≡ call_of k p (operands l t xs r)
call_value k p x y l r t args xs e h = ap (λ v. call_with k p v args) e ∙ ap (call_with k p (name_of t)) h

abbrev cond_with : Compare → Expr → Expr → Cond
cond_with c a b = record { compare = c; left = a; right = b }

pub cond_value : (x y : ℕ) (c : Compare) (d : Compare × ℕ) (a b : Expr) (p q : ExprPhrase) → a ≡ expr_tree p → (c, y) ≡ d → b ≡ expr_tree q → cond_with c a b ≡ cond_tree (a_cond p d.0 d.1 q)
cond_value x y c d a b p q e h k = ap (λ z. cond_with c z b) e ∙ ap (λ (z : Compare × ℕ). cond_with z.0 (expr_tree p) b) h ∙ ap (cond_with d.0 (expr_tree p)) k

abbrev turns_with : ℕ × ℕ → ℕ × ℕ → Turns
turns_with n v = record { turns = n.0; turns_at = n.1; name = v.0; name_at = v.1 }

pub turns_value : (x y u v a : ℕ) (d : NumberPhrase) (n : NamePhrase) → (x, y) ≡ count_of d → (u, v) ≡ name_of n → turns_with (x, y) (u, v) ≡ turns_of (a_turns d a n)
turns_value x y u v a d n e h = ap (λ z. turns_with z (u, v)) e ∙ ap (turns_with (count_of d)) h

abbrev handler_with : ℕ × ℕ → List Param → List Stmt → Handler
handler_with v ps b = record { name = v.0; at = v.1; params = ps; body = b }

pub handler_value : (x y : ℕ) (ps qs : List Param) (b d : List Stmt) (n : NamePhrase) → (x, y) ≡ name_of n → ps ≡ qs → b ≡ d → handler_with (x, y) ps b ≡ handler_with (name_of n) qs d
handler_value x y ps qs b d n e h k =
    ap (λ v. handler_with v ps b) e ∙ ap (λ q. handler_with (name_of n) q b) h ∙ ap (handler_with (name_of n) qs) k

abbrev pub param_with : ℕ × ℕ → Param
param_with v = record { name = v.0; at = v.1 }

pub param_value : (x y : ℕ) (n : NamePhrase) → (x, y) ≡ name_of n → param_with (x, y) ≡ param_of n
param_value x y n e = ap param_with e

abbrev table_with : TableKind → ℕ × ℕ → TableDecl
table_with k v = record { kind = k; name = v.0; at = v.1 }

pub table_value : (k : TableKind) (x y p e : ℕ) (n : NamePhrase) → (x, y) ≡ name_of n → table_with k (x, y) ≡ table_tree (a_table k p n e)
table_value k x y p e n h = ap (table_with k) h

pub name_long : (n : NamePhrase) (rest : List Word) → length (name_words n rest) ≡ length rest + 1
name_long (named n p) rest = omega arith

abbrev file_with : List TableDecl → List Handler → File
file_with ts hs = record { tables = ts; handlers = hs }

pub file_value : (ts us : List TableDecl) (hs gs : List Handler) → ts ≡ us → hs ≡ gs → file_with ts hs ≡ file_with us gs
file_value ts us hs gs h k = ap (λ l. file_with l hs) h ∙ ap (file_with us) k
