-- What is written with the words of a file is taken.
use Rattle.std.proofs.Common.{◌≡◌, ◌≤◌, ℕ, zero, suc, List, [], ◌∷◌, Some, true, refl, ◌∙◌, arith}
use Rattle.syntax_grammar.specs.declared.word.Word.{Word}
use Rattle.syntax_grammar.specs.declared.word.Sort.TheVariants as sort
use Rattle.session_values.specs.declared.kind.TableKind.{TableKind}
use Rattle.syntax_grammar.specs.Next.{Part, tables, handlers, first_param, more_params, a_block, statements, or_else, more_values, more_factors, more_terms, mark, may_end, whole_file}
use Rattle.syntax_grammar.specs.Phrase.{word, NamePhrase, named, name_words, digits, a_call, a_turns, MoreValues, no_value, more_value, value_count, more_words, StmtPhrase, let_stmt, assign_stmt, call_stmt, if_stmt, repeat_stmt, reply_stmt, stmt_words, no_else, an_else, StmtsPhrase, no_stmt, more_stmts, stmts_words, BlockPhrase, block, block_words, MoreParams, no_more, more_param, more_params_words, ParamsPhrase, no_param, some_params, params_words, HandlersPhrase, no_handler, more_handlers, a_handler, handlers_words, TablesPhrase, no_table, more_tables, a_table, tables_words, FilePhrase, a_file, file_words}
use Rattle.syntax_grammar.proofs.Spells.{still}
use Rattle.syntax_grammar.proofs.Takes.{expression_taken, operands_taken, right_taken, cond_taken}

values_taken : (vs : MoreValues) (n q : ℕ) (under : List Part) (rest : List Word) → value_count vs ≤ n → still (more_factors ∷ more_terms ∷ more_values n ∷ mark sort.Semicolon ∷ under) (more_words vs (word sort.Semicolon q ∷ rest)) ≡ still under rest
values_taken no_value n q under rest h = no_comma n
  where
    no_comma : (n : ℕ) → still (more_factors ∷ more_terms ∷ more_values n ∷ mark sort.Semicolon ∷ under) (word sort.Semicolon q ∷ rest) ≡ still under rest
    no_comma zero = refl
    no_comma (suc n) = refl
values_taken (more_value p e vs) zero q under rest h = absurd (omega (arith, h))
values_taken (more_value p e vs) (suc n) q under rest h =
    expression_taken e (more_values n ∷ mark sort.Semicolon ∷ under) (more_words vs (word sort.Semicolon q ∷ rest)) ∙ values_taken vs n q under rest (omega (arith, h))

-- no statement begins with `else`
after_if : (ss : StmtsPhrase) (q : ℕ) (under : List Part) (rest : List Word) → still (or_else ∷ statements ∷ mark sort.RightBrace ∷ under) (stmts_words ss (word sort.RightBrace q ∷ rest)) ≡ still (statements ∷ mark sort.RightBrace ∷ under) (stmts_words ss (word sort.RightBrace q ∷ rest))
after_if no_stmt q under rest = refl
after_if (more_stmts (let_stmt p n a r e) ss) q under rest = refl
after_if (more_stmts (assign_stmt (named n p) a r e) ss) q under rest = refl
after_if (more_stmts (call_stmt (a_call k p o) e) ss) q under rest = refl
after_if (more_stmts (if_stmt p c b e) ss) q under rest = refl
after_if (more_stmts (repeat_stmt p t b) ss) q under rest = refl
after_if (more_stmts (reply_stmt p v e) ss) q under rest = refl

mutual
  pub block_taken : (b : BlockPhrase) (under : List Part) (rest : List Word) → still (a_block ∷ under) (block_words b rest) ≡ still under rest
  block_taken (block p ss q) under rest = stmts_taken ss q under rest

  stmts_taken : (ss : StmtsPhrase) (q : ℕ) (under : List Part) (rest : List Word) → still (statements ∷ mark sort.RightBrace ∷ under) (stmts_words ss (word sort.RightBrace q ∷ rest)) ≡ still under rest
  stmts_taken no_stmt q under rest = refl
  stmts_taken (more_stmts s ss) q under rest = stmt_taken s ss q under rest ∙ stmts_taken ss q under rest

  stmt_taken : (s : StmtPhrase) (ss : StmtsPhrase) (q : ℕ) (under : List Part) (rest : List Word) → still (statements ∷ mark sort.RightBrace ∷ under) (stmt_words s (stmts_words ss (word sort.RightBrace q ∷ rest))) ≡ still (statements ∷ mark sort.RightBrace ∷ under) (stmts_words ss (word sort.RightBrace q ∷ rest))
  stmt_taken (let_stmt p (named n m) a r e) ss q under rest = right_taken r e (statements ∷ mark sort.RightBrace ∷ under) _
  stmt_taken (assign_stmt (named n m) a r e) ss q under rest = right_taken r e (statements ∷ mark sort.RightBrace ∷ under) _
  stmt_taken (call_stmt (a_call k p o) e) ss q under rest =
      operands_taken o (mark sort.Semicolon ∷ statements ∷ mark sort.RightBrace ∷ under) _
  stmt_taken (if_stmt p c (block z inner y) no_else) ss q under rest =
      cond_taken c (a_block ∷ or_else ∷ statements ∷ mark sort.RightBrace ∷ under) _
      ∙ stmts_taken inner y (or_else ∷ statements ∷ mark sort.RightBrace ∷ under) _
      ∙ after_if ss q under rest
  stmt_taken (if_stmt p c (block z inner y) (an_else x (block z' inner' y'))) ss q under rest =
      cond_taken c (a_block ∷ or_else ∷ statements ∷ mark sort.RightBrace ∷ under) _
      ∙ stmts_taken inner y (or_else ∷ statements ∷ mark sort.RightBrace ∷ under) _
      ∙ stmts_taken inner' y' (statements ∷ mark sort.RightBrace ∷ under) _
  stmt_taken (repeat_stmt p (a_turns (digits v d) a (named n m)) (block z inner y)) ss q under rest =
      stmts_taken inner y (statements ∷ mark sort.RightBrace ∷ under) _
  stmt_taken (reply_stmt p v e) ss q under rest =
      expression_taken v.first (more_values 3 ∷ mark sort.Semicolon ∷ statements ∷ mark sort.RightBrace ∷ under) _
      ∙ values_taken v.more 3 e (statements ∷ mark sort.RightBrace ∷ under) _ v.few

more_params_taken : (ns : MoreParams) (r : ℕ) (under : List Part) (rest : List Word) → still (more_params ∷ mark sort.RightParen ∷ under) (more_params_words ns (word sort.RightParen r ∷ rest)) ≡ still under rest
more_params_taken no_more r under rest = refl
more_params_taken (more_param p (named n q) ns) r under rest = more_params_taken ns r under rest

params_taken : (ps : ParamsPhrase) (r : ℕ) (under : List Part) (rest : List Word) → still (first_param ∷ mark sort.RightParen ∷ under) (params_words ps (word sort.RightParen r ∷ rest)) ≡ still under rest
params_taken no_param r under rest = refl
params_taken (some_params ps) r under rest = first_taken ps.first
  where
    first_taken : (n : NamePhrase) → still (first_param ∷ mark sort.RightParen ∷ under) (name_words n (more_params_words ps.more (word sort.RightParen r ∷ rest))) ≡ still under rest
    first_taken (named n p) = more_params_taken ps.more r under rest

handlers_taken : (hs : HandlersPhrase) → still (handlers ∷ []) (handlers_words hs []) ≡ Some (handlers ∷ [])
handlers_taken no_handler = refl
handlers_taken (more_handlers (a_handler p (named n q) l ps r b) hs) =
    params_taken ps r (a_block ∷ handlers ∷ []) (block_words b (handlers_words hs []))
    ∙ block_taken b (handlers ∷ []) (handlers_words hs [])
    ∙ handlers_taken hs

table_taken : (k : TableKind) (n : NamePhrase) (p e : ℕ) (under : List Part) (ws : List Word) → still (tables ∷ under) (word (sort.Table k) p ∷ name_words n (word sort.Semicolon e ∷ ws)) ≡ still (tables ∷ under) ws
table_taken k (named n q) p e under ws = refl

tables_taken : (ts : TablesPhrase) (under : List Part) (rest : List Word) → still (tables ∷ under) (tables_words ts rest) ≡ still (tables ∷ under) rest
tables_taken no_table under rest = refl
tables_taken (more_tables (a_table k p n e) ts) under rest = table_taken k n p e under (tables_words ts rest) ∙ tables_taken ts under rest

-- behind a file only what may be empty is still to come
pub record Ended (ws : List Word) : Type 0 where
  pub parts : List Part
  pub taken : still whole_file ws ≡ Some parts
  pub empty : may_end parts ≡ true

pub file_taken : (p : FilePhrase) → Ended (file_words p [])
file_taken (a_file ts no_handler) = record { parts = whole_file; taken = tables_taken ts (handlers ∷ []) []; empty = refl }
file_taken (a_file ts (more_handlers (a_handler p n l ps r b) hs)) =
    record {
      parts = handlers ∷ [];
      taken = tables_taken ts (handlers ∷ []) (handlers_words (more_handlers (a_handler p n l ps r b) hs) []) ∙ handlers_taken (more_handlers (a_handler p n l ps r b) hs);
      empty = refl;
    }
