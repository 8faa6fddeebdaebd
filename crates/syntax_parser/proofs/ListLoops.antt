-- What the loops over statements, parameters, handlers and tables keep: phrases with one more at their end.
use Rattle.std.proofs.Common.{◌≡◌, ◌≤◌, ◌+◌, ℕ, List, [], ◌∷◌, ◌++◌, length, refl, ap}
use Rattle.syntax_grammar.specs.declared.word.Word.{Word}
use Rattle.syntax_grammar.specs.declared.word.Sort.TheVariants as sort
use Rattle.syntax_trees.specs.declared.stmt.Stmt.{Stmt}
use Rattle.syntax_trees.specs.declared.file.Param.{Param}
use Rattle.syntax_trees.specs.declared.file.Handler.{Handler}
use Rattle.syntax_trees.specs.declared.file.TableDecl.{TableDecl}
use Rattle.syntax_parser.specs.declared.input.Input.{Input}
use Rattle.syntax_grammar.specs.Next.{Anywhere, Inside, statements, a_name, more_params, handlers, tables}
use Rattle.syntax_grammar.specs.Phrase.{word, NamePhrase, name_words, StmtPhrase, StmtsPhrase, no_stmt, more_stmts, stmt_words, stmts_words, MoreParams, no_more, more_param, more_params_words, HandlerPhrase, HandlersPhrase, no_handler, more_handlers, handler_words, handlers_words, TablePhrase, TablesPhrase, no_table, more_tables, table_words, tables_words}
use Rattle.syntax_grammar.specs.Tree.{stmt_tree, stmts_trees, param_of, more_params_trees, handler_tree, handlers_trees, table_tree, tables_trees}
use Rattle.syntax_parser.specs.Reads.{NamesStay, Passed}

-- ---- the statements of a block

pub record StatementsSoFar (depth : ℕ) (start now : Input) (items : List Stmt) : Type 0 where
  pub so_far : StmtsPhrase
  pub read : start.reader.words ≡ stmts_words so_far now.reader.words
  pub value : items ≡ stmts_trees so_far
  pub room : length items + length now.reader.words ≤ length start.reader.words
  pub passed : Passed (Inside depth) (statements ∷ []) (statements ∷ []) start now
  pub kept : NamesStay start.reader now.reader

pub and_stmt : StmtsPhrase → StmtPhrase → StmtsPhrase
and_stmt no_stmt s = more_stmts s no_stmt
and_stmt (more_stmts t ss) s = more_stmts t (and_stmt ss s)

pub and_stmt-words : (ss : StmtsPhrase) (s : StmtPhrase) (rest : List Word) → stmts_words (and_stmt ss s) rest ≡ stmts_words ss (stmt_words s rest)
unfolding and_stmt
and_stmt-words no_stmt s rest = refl
and_stmt-words (more_stmts t ss) s rest = ap (stmt_words t) (and_stmt-words ss s rest)

pub and_stmt-trees : (ss : StmtsPhrase) (s : StmtPhrase) → stmts_trees (and_stmt ss s) ≡ stmts_trees ss ++ stmt_tree s ∷ []
unfolding and_stmt
and_stmt-trees no_stmt s = refl
and_stmt-trees (more_stmts t ss) s = ap (λ l. stmt_tree t ∷ l) (and_stmt-trees ss s)

-- ---- the parameters of a handler

pub record ParamsSoFar (start now : Input) (items : List Param) : Type 0 where
  pub first : NamePhrase
  pub more : MoreParams
  pub read : start.reader.words ≡ name_words first (more_params_words more now.reader.words)
  pub value : items ≡ param_of first ∷ more_params_trees more
  pub room : length items + length now.reader.words ≤ length start.reader.words
  pub passed : Passed Anywhere (a_name ∷ more_params ∷ []) (more_params ∷ []) start now
  pub kept : NamesStay start.reader now.reader

pub and_param : MoreParams → ℕ → NamePhrase → MoreParams
and_param no_more p n = more_param p n no_more
and_param (more_param q m ns) p n = more_param q m (and_param ns p n)

pub and_param-words : (ns : MoreParams) (p : ℕ) (n : NamePhrase) (rest : List Word) → more_params_words (and_param ns p n) rest ≡ more_params_words ns (word sort.Comma p ∷ name_words n rest)
unfolding and_param
and_param-words no_more p n rest = refl
and_param-words (more_param q m ns) p n rest = ap (λ l. word sort.Comma q ∷ name_words m l) (and_param-words ns p n rest)

pub and_param-trees : (ns : MoreParams) (p : ℕ) (n : NamePhrase) → more_params_trees (and_param ns p n) ≡ more_params_trees ns ++ param_of n ∷ []
unfolding and_param
and_param-trees no_more p n = refl
and_param-trees (more_param q m ns) p n = ap (λ l. param_of m ∷ l) (and_param-trees ns p n)

-- ---- the handlers of a file

pub record HandlersSoFar (start now : Input) (items : List Handler) : Type 0 where
  pub so_far : HandlersPhrase
  pub read : start.reader.words ≡ handlers_words so_far now.reader.words
  pub value : items ≡ handlers_trees so_far
  pub room : length items + length now.reader.words ≤ length start.reader.words
  pub passed : Passed (Inside 0) (handlers ∷ []) (handlers ∷ []) start now
  pub kept : NamesStay start.reader now.reader

pub and_handler : HandlersPhrase → HandlerPhrase → HandlersPhrase
and_handler no_handler h = more_handlers h no_handler
and_handler (more_handlers g hs) h = more_handlers g (and_handler hs h)

pub and_handler-words : (hs : HandlersPhrase) (h : HandlerPhrase) (rest : List Word) → handlers_words (and_handler hs h) rest ≡ handlers_words hs (handler_words h rest)
unfolding and_handler
and_handler-words no_handler h rest = refl
and_handler-words (more_handlers g hs) h rest = ap (handler_words g) (and_handler-words hs h rest)

pub and_handler-trees : (hs : HandlersPhrase) (h : HandlerPhrase) → handlers_trees (and_handler hs h) ≡ handlers_trees hs ++ handler_tree h ∷ []
unfolding and_handler
and_handler-trees no_handler h = refl
and_handler-trees (more_handlers g hs) h = ap (λ l. handler_tree g ∷ l) (and_handler-trees hs h)

-- ---- the tables of a file

pub record TablesSoFar (start now : Input) (items : List TableDecl) : Type 0 where
  pub so_far : TablesPhrase
  pub read : start.reader.words ≡ tables_words so_far now.reader.words
  pub value : items ≡ tables_trees so_far
  pub room : length items + length now.reader.words ≤ length start.reader.words
  pub passed : Passed Anywhere (tables ∷ []) (tables ∷ []) start now
  pub kept : NamesStay start.reader now.reader

pub and_table : TablesPhrase → TablePhrase → TablesPhrase
and_table no_table t = more_tables t no_table
and_table (more_tables u ts) t = more_tables u (and_table ts t)

pub and_table-words : (ts : TablesPhrase) (t : TablePhrase) (rest : List Word) → tables_words (and_table ts t) rest ≡ tables_words ts (table_words t rest)
unfolding and_table
and_table-words no_table t rest = refl
and_table-words (more_tables u ts) t rest = ap (table_words u) (and_table-words ts t rest)

pub and_table-trees : (ts : TablesPhrase) (t : TablePhrase) → tables_trees (and_table ts t) ≡ tables_trees ts ++ table_tree t ∷ []
unfolding and_table
and_table-trees no_table t = refl
and_table-trees (more_tables u ts) t = ap (λ l. table_tree u ∷ l) (and_table-trees ts t)
