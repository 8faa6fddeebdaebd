-- Words have the tree of one file at most.
use Rattle.std.proofs.Common.{◌≡◌, ℕ, List, [], ◌∷◌, Option, Some, None, refl, sym, ap, ◌∙◌, subst}
use Rattle.session_values.specs.declared.kind.Kind.{Kind}
use Rattle.session_values.specs.declared.kind.TableKind.{TableKind}
use Rattle.syntax_grammar.specs.declared.word.Word.{Word}
use Rattle.syntax_grammar.specs.declared.word.Sort.TheVariants as sort
use Rattle.syntax_trees.specs.declared.stmt.Stmt.TheVariants as stmt
use Rattle.syntax_trees.specs.declared.file.TableDecl.{TableDecl}
use Rattle.syntax_trees.specs.declared.file.File.{File}
use Rattle.syntax_trees.specs.declared.file.Handler.{Handler}
use Rattle.syntax_grammar.specs.declared.sorts.Start.{Start}
use Rattle.syntax_grammar.specs.declared.sorts.Start.TheVariants as start
use Rattle.syntax_grammar.specs.Sorts.{statement_start, table_kind}
use Rattle.syntax_grammar.specs.Phrase.{word, NamePhrase, named, name_words, a_call, StmtPhrase, let_stmt, assign_stmt, call_stmt, if_stmt, repeat_stmt, reply_stmt, stmt_words, ElsePhrase, no_else, an_else, else_words, StmtsPhrase, no_stmt, more_stmts, stmts_words, BlockPhrase, block, block_words, MoreParams, no_more, more_param, more_params_words, ParamsPhrase, no_param, some_params, params_words, HandlersPhrase, no_handler, more_handlers, a_handler, handlers_words, TablesPhrase, no_table, more_tables, a_table, tables_words, FilePhrase, a_file, file_words}
use Rattle.syntax_grammar.specs.Tree.{name_of, right_tree, cond_tree, turns_of, repeat_tree, values_trees, stmt_tree, else_trees, stmts_trees, block_trees, param_of, more_params_trees, params_trees, handlers_trees, table_tree, tables_trees, file_tree}
use Rattle.syntax_grammar.proofs.Unique.{Same, tail, head_sort, head_at, NotSign, same_name}
use Rattle.syntax_grammar.proofs.UniqueCalls.{same_call, same_right, same_cond, same_turns, same_values}

-- ---- statements

-- which statement a word begins, by number, and 0 where it begins none
abbrev index_of : Option Start → ℕ
index_of None = 0
index_of (Some start.Let) = 1
index_of (Some (start.Assign n)) = 2
index_of (Some (start.Call k)) = 3
index_of (Some start.If) = 4
index_of (Some start.Repeat) = 5
index_of (Some start.Reply) = 6

abbrev first_index : List Word → ℕ
first_index [] = 0
first_index (w ∷ ws) = index_of (statement_start w.sort)

abbrev index : StmtPhrase → ℕ
index (let_stmt p n a r e) = 1
index (assign_stmt n a r e) = 2
index (call_stmt c e) = 3
index (if_stmt p c b e) = 4
index (repeat_stmt p t b) = 5
index (reply_stmt p v e) = 6

call_index : (k : Kind) → index_of (statement_start (sort.Do k)) ≡ 3
call_index k = refl

stmt_index : (s : StmtPhrase) (r : List Word) → first_index (stmt_words s r) ≡ index s
stmt_index (let_stmt p n a x e) r = refl
stmt_index (assign_stmt (named n p) a x e) r = refl
stmt_index (call_stmt (a_call k p o) e) r = call_index k
stmt_index (if_stmt p c b e) r = refl
stmt_index (repeat_stmt p t b) r = refl
stmt_index (reply_stmt p v e) r = refl

not_none : (s : StmtPhrase) → 0 ≡ index s → ⊥
not_none (let_stmt p n a x e) h = cc
not_none _ h = cc

-- no statement begins with a closing brace
not_brace : (s : StmtPhrase) (q : ℕ) (r t : List Word) → word sort.RightBrace q ∷ r ≡ stmt_words s t → ⊥
not_brace s q r t e = not_none s (ap first_index e ∙ stmt_index s t)

same_index : (x y : StmtPhrase) (r s : List Word) → stmt_words x r ≡ stmt_words y s → index x ≡ index y
same_index x y r s e = sym (stmt_index x r) ∙ ap first_index e ∙ stmt_index y s

-- no statement begins with `else`
abbrev NotElse : List Word → Type 0
NotElse [] = Unit {0}
NotElse (w ∷ ws) = w.sort ≡ sort.Else → ⊥

else_index : (ws : List Word) → (first_index ws ≡ 0 → ⊥) → NotElse ws
else_index [] h = tt
else_index (w ∷ ws) h = λ e. h (ap (λ s. index_of (statement_start s)) e)

not_else : (ss : StmtsPhrase) (q : ℕ) (r : List Word) → NotElse (stmts_words ss (word sort.RightBrace q ∷ r))
not_else no_stmt q r = λ e. cc
not_else (more_stmts s ss) q r = else_index (stmt_words s (stmts_words ss (word sort.RightBrace q ∷ r))) (λ e. not_none s (sym e ∙ stmt_index s (stmts_words ss (word sort.RightBrace q ∷ r))))

semicolon : (q : ℕ) (r : List Word) → NotSign (word sort.Semicolon q ∷ r)
semicolon q r = ((λ e. cc), (λ e. cc), (λ e. cc))

brace : (b : BlockPhrase) (r : List Word) → NotSign (block_words b r)
brace (block p ss q) r = ((λ e. cc), (λ e. cc), (λ e. cc))

mutual
  same_block : (b d : BlockPhrase) (r s : List Word) → block_words b r ≡ block_words d s → Same (block_trees b) (block_trees d) r s
  same_block (block p ss q) (block p' ts q') r s e = same_stmts ss ts q q' r s (tail e)

  same_stmts : (ss ts : StmtsPhrase) (q q' : ℕ) (r s : List Word) → stmts_words ss (word sort.RightBrace q ∷ r) ≡ stmts_words ts (word sort.RightBrace q' ∷ s) → Same (stmts_trees ss) (stmts_trees ts) r s
  same_stmts no_stmt no_stmt q q' r s e = record { tree = refl; rest = tail e }
  same_stmts no_stmt (more_stmts y ts) q q' r s e = absurd (not_brace y q r _ e)
  same_stmts (more_stmts x ss) no_stmt q q' r s e = absurd (not_brace x q' s _ (sym e))
  same_stmts (more_stmts x ss) (more_stmts y ts) q q' r s e =
      let h = same_stmt x y _ _ (not_else ss q r) (not_else ts q' s) e in
      let k = same_stmts ss ts q q' r s h.rest in
      record { tree = ap (λ z. z ∷ stmts_trees ss) h.tree ∙ ap (λ l. stmt_tree y ∷ l) k.tree; rest = k.rest }

  same_stmt : (x y : StmtPhrase) (r s : List Word) → NotElse r → NotElse s → stmt_words x r ≡ stmt_words y s → Same (stmt_tree x) (stmt_tree y) r s
  same_stmt (let_stmt p n a x z) (let_stmt p' n' a' x' z') r s nr ns e =
      let h = same_name n n' _ _ (tail e) in
      let k = same_right x x' _ _ (semicolon z r) (semicolon z' s) (tail h.rest) in
      record { tree = ap (λ (v : ℕ × ℕ). stmt.Let v.0 v.1 (right_tree x)) h.tree ∙ ap (stmt.Let (name_of n').0 (name_of n').1) k.tree; rest = tail k.rest }
  same_stmt (assign_stmt n a x z) (assign_stmt n' a' x' z') r s nr ns e =
      let h = same_name n n' _ _ e in
      let k = same_right x x' _ _ (semicolon z r) (semicolon z' s) (tail h.rest) in
      record { tree = ap (λ (v : ℕ × ℕ). stmt.Assign v.0 v.1 (right_tree x)) h.tree ∙ ap (stmt.Assign (name_of n').0 (name_of n').1) k.tree; rest = tail k.rest }
  same_stmt (call_stmt c z) (call_stmt c' z') r s nr ns e =
      let h = same_call c c' _ _ e in
      record { tree = ap stmt.Perform h.tree; rest = tail h.rest }
  same_stmt (if_stmt p c (block o ss q) z) (if_stmt p' c' (block o' ts q') z') r s nr ns e =
      let h = same_cond c c' _ _ (brace (block o ss q) (else_words z r)) (brace (block o' ts q') (else_words z' s)) (tail e) in
      let k = same_stmts ss ts q q' (else_words z r) (else_words z' s) (tail h.rest) in
      let m = same_else z z' r s nr ns k.rest in
      record {
        tree = ap (λ v. stmt.Choose v (cond_tree c) (stmts_trees ss) (else_trees z)) (head_at e) ∙ ap (λ v. stmt.Choose p' v (stmts_trees ss) (else_trees z)) h.tree ∙ ap (λ v. stmt.Choose p' (cond_tree c') v (else_trees z)) k.tree ∙ ap (stmt.Choose p' (cond_tree c') (stmts_trees ts)) m.tree;
        rest = m.rest;
      }
  same_stmt (repeat_stmt p t (block o ss q)) (repeat_stmt p' t' (block o' ts q')) r s nr ns e =
      let h = same_turns t t' _ _ (tail e) in
      let k = same_stmts ss ts q q' r s (tail h.rest) in
      record { tree = ap (λ v. repeat_tree v (turns_of t) (stmts_trees ss)) (head_at e) ∙ ap (λ v. repeat_tree p' v (stmts_trees ss)) h.tree ∙ ap (repeat_tree p' (turns_of t')) k.tree; rest = k.rest }
  same_stmt (reply_stmt p v z) (reply_stmt p' u z') r s nr ns e =
      let h = same_values v u z z' r s (tail e) in
      record { tree = ap (λ x. stmt.Answer x (values_trees v)) (head_at e) ∙ ap (stmt.Answer p') h.tree; rest = h.rest }
  same_stmt x y r s nr ns e = absurd (let h = same_index x y r s e in cc)

  same_else : (x y : ElsePhrase) (r s : List Word) → NotElse r → NotElse s → else_words x r ≡ else_words y s → Same (else_trees x) (else_trees y) r s
  same_else no_else no_else r s nr ns e = record { tree = refl; rest = e }
  same_else no_else (an_else p b) r s nr ns e = absurd (subst NotElse e nr refl)
  same_else (an_else p b) no_else r s nr ns e = absurd (subst NotElse (sym e) ns refl)
  same_else (an_else p (block o ss q)) (an_else p' (block o' ts q')) r s nr ns e = same_stmts ss ts q q' r s (tail (tail e))

-- ---- handlers

same_more_params : (ms ns : MoreParams) (q q' : ℕ) (r s : List Word) → more_params_words ms (word sort.RightParen q ∷ r) ≡ more_params_words ns (word sort.RightParen q' ∷ s) → Same (more_params_trees ms) (more_params_trees ns) r s
same_more_params no_more no_more q q' r s e = record { tree = refl; rest = tail e }
same_more_params no_more (more_param p n ns) q q' r s e = let h = head_sort e in cc
same_more_params (more_param p n ms) no_more q q' r s e = let h = head_sort e in cc
same_more_params (more_param p m ms) (more_param p' n ns) q q' r s e =
    let h = same_name m n _ _ (tail e) in
    let k = same_more_params ms ns q q' r s h.rest in
    record { tree = ap (λ (v : ℕ × ℕ). record { name = v.0; at = v.1 } ∷ more_params_trees ms) h.tree ∙ ap (λ l. param_of n ∷ l) k.tree; rest = k.rest }

-- no parameter begins with a closing parenthesis
not_paren : (n : NamePhrase) (q : ℕ) (r t : List Word) → word sort.RightParen q ∷ r ≡ name_words n t → ⊥
not_paren (named n p) q r t e = let h = head_sort e in cc

same_params : (ps qs : ParamsPhrase) (q q' : ℕ) (r s : List Word) → params_words ps (word sort.RightParen q ∷ r) ≡ params_words qs (word sort.RightParen q' ∷ s) → Same (params_trees ps) (params_trees qs) r s
same_params no_param no_param q q' r s e = record { tree = refl; rest = tail e }
same_params no_param (some_params ps) q q' r s e = absurd (not_paren ps.first q r _ e)
same_params (some_params ps) no_param q q' r s e = absurd (not_paren ps.first q' s _ (sym e))
same_params (some_params ps) (some_params qs) q q' r s e =
    let h = same_name ps.first qs.first _ _ e in
    let k = same_more_params ps.more qs.more q q' r s h.rest in
    record { tree = ap (λ (v : ℕ × ℕ). record { name = v.0; at = v.1 } ∷ more_params_trees ps.more) h.tree ∙ ap (λ l. param_of qs.first ∷ l) k.tree; rest = k.rest }

same_handlers : (hs gs : HandlersPhrase) → handlers_words hs [] ≡ handlers_words gs [] → handlers_trees hs ≡ handlers_trees gs
same_handlers no_handler no_handler e = refl
same_handlers no_handler (more_handlers (a_handler p n l ps r b) gs) e = cc
same_handlers (more_handlers (a_handler p n l ps r b) hs) no_handler e = cc
same_handlers (more_handlers (a_handler p n l ps r b) hs) (more_handlers (a_handler p' n' l' ps' r' b') gs) e =
    let h = same_name n n' _ _ (tail e) in
    let k = same_params ps ps' r r' _ _ (tail h.rest) in
    let m = same_block b b' _ _ k.rest in
    let o = same_handlers hs gs m.rest in
    let i = h.tree in let j = k.tree in let u = m.tree in cc

-- ---- tables

abbrev first_table : List Word → Option TableKind
first_table [] = None
first_table (w ∷ ws) = table_kind w.sort

-- no handler begins with a table's word
no_first_table : (hs : HandlersPhrase) → first_table (handlers_words hs []) ≡ None
no_first_table no_handler = refl
no_first_table (more_handlers (a_handler p n l ps r b) hs) = refl

same_tables : (ts us : TablesPhrase) (hs gs : HandlersPhrase) → tables_words ts (handlers_words hs []) ≡ tables_words us (handlers_words gs []) → Same (tables_trees ts) (tables_trees us) (handlers_words hs []) (handlers_words gs [])
same_tables no_table no_table hs gs e = record { tree = refl; rest = e }
same_tables no_table (more_tables (a_table k p n z) us) hs gs e = absurd (let h : None ≡ Some k = sym (no_first_table hs) ∙ ap first_table e in cc)
same_tables (more_tables (a_table k p n z) ts) no_table hs gs e = absurd (let h : Some k ≡ None = ap first_table e ∙ no_first_table gs in cc)
same_tables (more_tables (a_table k p n z) ts) (more_tables (a_table k' p' n' z') us) hs gs e =
    let s : Some k ≡ Some k' = ap table_kind (head_sort e) in
    let same : k ≡ k' = cc in
    let h = same_name n n' _ _ (tail e) in
    let m = same_tables ts us hs gs (tail h.rest) in
    record {
      tree = ap (λ x. record { kind = x; name = (name_of n).0; at = (name_of n).1 } ∷ tables_trees ts) same ∙ ap (λ (v : ℕ × ℕ). record { kind = k'; name = v.0; at = v.1 } ∷ tables_trees ts) h.tree ∙ ap (λ l. table_tree (a_table k' p' n' z') ∷ l) m.tree;
      rest = m.rest;
    }

file_with : List TableDecl → List Handler → File
file_with ts hs = record { tables = ts; handlers = hs }

pub same_file : (p q : FilePhrase) → file_words p [] ≡ file_words q [] → file_tree p ≡ file_tree q
unfolding file_with
same_file (a_file ts hs) (a_file us gs) w =
    let h = same_tables ts us hs gs w in
    let k = same_handlers hs gs h.rest in
    ap (λ l. file_with l (handlers_trees hs)) h.tree ∙ ap (file_with (tables_trees us)) k
