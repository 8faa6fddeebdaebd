-- A file within the limits keeps its bounds.
use Rattle.std.proofs.Common.{◌≡◌, ℕ, suc, ◌+◌, ◌≤◌, ◌^◌, List, [], ◌∷◌, ◌++◌, length, refl, sym, ap, subst, arith, rules}
use Rattle.std.specs.List.{AllByRecursion, flat_map}
use Rattle.syntax_grammar.specs.declared.word.Word.{Word}
use Rattle.syntax_trees.specs.declared.expr.Expr.{Expr}
use Rattle.syntax_trees.specs.declared.stmt.Call.{Call}
use Rattle.syntax_trees.specs.declared.stmt.Cond.{Cond}
use Rattle.syntax_trees.specs.declared.stmt.Right.{Right}
use Rattle.syntax_trees.specs.declared.stmt.Stmt.{Stmt, the_lemmas}
use Rattle.syntax_trees.specs.declared.stmt.Stmt.TheVariants as stmt
use Rattle.syntax_trees.specs.declared.file.File.{File}
use Rattle.syntax_trees.specs.Mentions.{Mention, a_name, a_symbol, a_number, IsBelow, AreBelow, file_mentions}
use Rattle.syntax_grammar.specs.Phrase.{MoreAtoms, no_atom, more_atom, atom_count, operands, CallPhrase, a_call as call_phrase, RightPhrase, result_right, plain_right, a_turns, MoreValues, no_value, more_value, value_count, StmtPhrase, let_stmt, assign_stmt, call_stmt, if_stmt, repeat_stmt, reply_stmt, ElsePhrase, no_else, an_else, StmtsPhrase, no_stmt, more_stmts, block, HandlersPhrase, no_handler, more_handlers, a_handler, FilePhrase, a_file, file_words}
use Rattle.syntax_grammar.specs.Tree.{atoms_trees, call_tree, right_tree, cond_tree, more_trees, values_trees, stmt_tree, else_trees, stmts_trees, handlers_trees, file_tree}
use Rattle.syntax_grammar.specs.Limits.{StmtFits, ElseFits, StmtsFit, HandlersFit, FileFits, IsFileWithin}
use Rattle.syntax_grammar.proofs.Said.{IsSaid, file_read, unasked}
use Rattle.syntax_trees.specs.Bounds.{Form, a_call, a_reply, a_nest, right_forms, stmt_forms, block_forms, handler_forms, file_forms, IsBoundedForm, IsBoundedNumber, KeepsBounds}
use Rattle.syntax_trees.proofs.Statements.{forms_let, forms_assign, forms_perform, forms_choose, forms_repeat, forms_reply}
use Rattle.session_values.proofs.Lists.{all_join}

abbrev Bounded : List Form → Type 0
Bounded fs = AllByRecursion IsBoundedForm fs

-- ---- phrases

atoms_counted : (xs : MoreAtoms) → length (atoms_trees xs) ≡ atom_count xs
atoms_counted no_atom = refl
atoms_counted (more_atom p a xs) = ap suc (atoms_counted xs)

values_counted : (vs : MoreValues) → length (more_trees vs) ≡ value_count vs
values_counted no_value = refl
values_counted (more_value p e vs) = ap suc (values_counted vs)

call_bounded : (c : CallPhrase) → Bounded (a_call (length (call_tree c).args) ∷ [])
call_bounded (call_phrase k p (operands l t xs r)) = (let few = xs.few in omega (arith, atoms_counted xs.atoms, few), tt)

right_bounded : (r : RightPhrase) → Bounded (right_forms (right_tree r))
right_bounded (result_right c) = call_bounded c
right_bounded (plain_right e) = tt

mutual
  stmt_bounded : (s : StmtPhrase) (d : ℕ) → StmtFits s d → Bounded (stmt_forms (stmt_tree s) d)
  stmt_bounded (let_stmt p n a r e) d h = subst Bounded (sym (forms_let _ _ (right_tree r) d)) (right_bounded r)
  stmt_bounded (assign_stmt n a r e) d h = subst Bounded (sym (forms_assign _ _ (right_tree r) d)) (right_bounded r)
  stmt_bounded (call_stmt c e) d h = subst Bounded (sym (forms_perform (call_tree c) d)) (call_bounded c)
  stmt_bounded (if_stmt p c (block o ss q) e) d h =
      let k = h.1 in
      subst Bounded (sym (forms_choose p (cond_tree c) (stmts_trees ss) (else_trees e) d))
      (k.0, all_join IsBoundedForm (block_forms (stmts_trees ss) (d + 1)) (block_forms (else_trees e) (d + 1)) (stmts_bounded ss (d + 1) k.1) (else_bounded e d h.2))
  stmt_bounded (repeat_stmt p (a_turns v a n) (block o ss q)) d h =
      let k = h.1 in
      subst Bounded (sym (forms_repeat p _ _ _ _ (stmts_trees ss) d)) (k.0, stmts_bounded ss (d + 1) k.1)
  stmt_bounded (reply_stmt p v e) d h =
      let few = v.few in
      subst Bounded (sym (forms_reply p (values_trees v) d)) ((omega (arith, values_counted v.more), omega (arith, values_counted v.more, few)), tt)

  else_bounded : (e : ElsePhrase) (d : ℕ) → ElseFits e d → Bounded (block_forms (else_trees e) (d + 1))
  else_bounded no_else d h = tt
  else_bounded (an_else p (block o ss q)) d h = stmts_bounded ss (d + 1) h.1

  stmts_bounded : (ss : StmtsPhrase) (d : ℕ) → StmtsFit ss d → Bounded (block_forms (stmts_trees ss) d)
  stmts_bounded no_stmt d h = tt
  stmts_bounded (more_stmts s ss) d h = all_join IsBoundedForm (stmt_forms (stmt_tree s) d) (block_forms (stmts_trees ss) d) (stmt_bounded s d h.0) (stmts_bounded ss d h.1)

handlers_bounded : (hs : HandlersPhrase) → HandlersFit hs → Bounded (flat_map handler_forms (handlers_trees hs))
handlers_bounded no_handler h = tt
handlers_bounded (more_handlers (a_handler p n l ps r (block o ss q)) hs) h =
    all_join IsBoundedForm (block_forms (stmts_trees ss) 1) (flat_map handler_forms (handlers_trees hs)) (stmts_bounded ss 1 h.0.1) (handlers_bounded hs h.1)

file_bounded : (p : FilePhrase) → FileFits p → Bounded (file_forms (file_tree p))
file_bounded (a_file ts hs) h = handlers_bounded hs h

-- ---- numbers

abbrev Any : ℕ → Type 0
Any place = Unit {0}

number_bounded : (m : Mention) → IsSaid Any Any m → IsBoundedNumber m
number_bounded (a_name place) h = tt
number_bounded (a_symbol place) h = tt
number_bounded (a_number z) h = h

numbers_bounded : (ms : List Mention) → AllByRecursion (IsSaid Any Any) ms → AllByRecursion IsBoundedNumber ms
numbers_bounded [] h = tt
numbers_bounded (m ∷ ms) h = (number_bounded m h.0, numbers_bounded ms h.1)

-- ---- places

below : (n k : ℕ) (m : Mention) → n ≤ k → IsBelow n m → IsBelow k m
below n k (a_name place) l h = omega arith
below n k (a_symbol place) l h = omega arith
below n k (a_number z) l h = tt

pub all_below : (n k : ℕ) (ms : List Mention) → n ≤ k → AreBelow n ms → AreBelow k ms
all_below n k [] l h = tt
all_below n k (m ∷ ms) l h = (below n k m l h.0, all_below n k ms l h.1)

pub keeps_bounds : (ws : List Word) (file : File) → IsFileWithin ws file → AreBelow (2 ^ 32) (file_mentions file) → KeepsBounds file
keeps_bounds ws file within places = record {
  forms = subst (λ (f : File). Bounded (file_forms f)) (sym within.2) (file_bounded within.0 within.3);
  numbers = subst (λ (f : File). AllByRecursion IsBoundedNumber (file_mentions f)) (sym within.2) (numbers_bounded (file_mentions (file_tree within.0)) (file_read Any Any within.0 within.3 (unasked (file_words within.0 []))));
  places = places;
}
