-- A file is passed with no fault exactly where it is within the limits.
use Rattle.std.proofs.Common.{◌≡◌, ◌≤◌, ◌+◌, ℕ, zero, suc, Option, None, List, [], ◌∷◌, ◌++◌, refl, sym, ap, ◌∙◌, arith}
use Rattle.session_values.specs.Limits.{max_depth}
use Rattle.session_values.specs.declared.kind.TableKind.{TableKind}
use Rattle.syntax_grammar.specs.declared.word.Word.{Word}
use Rattle.syntax_grammar.specs.declared.word.Sort.TheVariants as sort
use Rattle.syntax_trees.specs.declared.stmt.Compare.{Compare}
use Rattle.syntax_grammar.specs.declared.refusals.SyntaxRefusal.{SyntaxRefusal}
use Rattle.syntax_grammar.specs.Bounds.{block_depth, max_number}
use Rattle.syntax_grammar.specs.Next.{Part, fault, open_in, depth_of, tables, handlers, first_param, more_params, a_block, statements, or_else, a_right, more_arguments, a_compare, more_values, expression, more_factors, more_terms, mark, call_parts, whole_file}
use Rattle.syntax_grammar.specs.Phrase.{word, NamePhrase, named, name_words, digits, name_atom, nil_atom, symbol_atom, number_atom, negative_atom, plain, grouped, term, sum, ExprPhrase, expr_words, MoreAtoms, no_atom, more_atom, atom_count, atoms_words, OperandsPhrase, operands, operands_words, a_call, RightPhrase, result_right, plain_right, right_words, CondPhrase, a_cond, cond_words, a_turns, MoreValues, no_value, more_value, value_count, more_words, StmtPhrase, let_stmt, assign_stmt, call_stmt, if_stmt, repeat_stmt, reply_stmt, stmt_words, ElsePhrase, no_else, an_else, else_words, StmtsPhrase, no_stmt, more_stmts, stmts_words, BlockPhrase, block, block_words, MoreParams, no_more, more_param, more_params_words, ParamsPhrase, no_param, some_params, params_words, HandlersPhrase, no_handler, more_handlers, a_handler, handlers_words, TablesPhrase, no_table, more_tables, a_table, tables_words, FilePhrase, a_file, file_words}
use Rattle.syntax_grammar.specs.Limits.{expr_signs, AtomsFit, OperandsFit, RightFits, CondFits, MoreFit, StmtFits, ElseFits, StmtsFit, BlockFits, HandlersFit, FileFits}
use Rattle.syntax_grammar.proofs.Taken.{taken}
use Rattle.syntax_grammar.proofs.Fits.{Either, passes, stops, either_then, either_from, number_fits, limit_fits, argument_fits, expression_fits}

-- the same where the walk goes on behind some number of operator signs
pub data Within (P : Type 0) (here : Option SyntaxRefusal) (behind : ℕ → Option SyntaxRefusal) : Type 0 where
  goes : P → (n : ℕ) → here ≡ behind n → Within P here behind
  stays : (P → ⊥) → (here ≡ None → ⊥) → Within P here behind

within_either : {P : Type 0} {x y : Option SyntaxRefusal} {z : ℕ → Option SyntaxRefusal} (n : ℕ) → y ≡ z n → Either P x y → Within P x z
within_either n h (passes p e) = goes p n (e ∙ h)
within_either n h (stops p e) = stays p e

within_from : {P : Type 0} {w x : Option SyntaxRefusal} {y : ℕ → Option SyntaxRefusal} → w ≡ x → Within P x y → Within P w y
within_from h (goes p n e) = goes p n (h ∙ e)
within_from h (stays p e) = stays p (λ g. e (sym h ∙ g))

within_then : {P Q : Type 0} {x : Option SyntaxRefusal} {y z : ℕ → Option SyntaxRefusal} → Within P x y → ((n : ℕ) → Within Q (y n) z) → Within (P × Q) x z
within_then {P} {Q} {x} {y} {z} (goes p n e) r = by (r n)
  where
    by : Within Q (y n) z → Within (P × Q) x z
    by (goes q m f) = goes (p, q) m (e ∙ f)
    by (stays q f) = stays (λ h. q h.1) (λ g. f (sym e ∙ g))
within_then (stays p e) r = stays (λ h. p h.0) e

within_as : {P Q : Type 0} {x : Option SyntaxRefusal} {y : ℕ → Option SyntaxRefusal} → Within P x y → (P → Q) → (Q → P) → Within Q x y
within_as (goes p n e) f g = goes (f p) n e
within_as (stays p e) f g = stays (λ q. p (g q)) e

-- three facts in a row
within_third : {P Q R : Type 0} {x : Option SyntaxRefusal} {y : ℕ → Option SyntaxRefusal} → Within ((P × Q) × R) x y → Within (P × Q × R) x y
within_third (goes p n e) = goes (p.0.0, p.0.1, p.1) n e
within_third (stays p e) = stays (λ h. p ((h.0, h.1), h.2)) e

module _ (end : ℕ) where
  -- ---- operations, right sides and conditions

  arguments_fit : (xs : MoreAtoms) (m q n : ℕ) (under : List Part) (rest : List Word) → atom_count xs ≤ m → Either (AtomsFit xs) (fault end (more_arguments m ∷ mark sort.RightParen ∷ under) n (atoms_words xs (word sort.RightParen q ∷ rest))) (fault end under n rest)
  arguments_fit no_atom m q n under rest h = passes tt (no_comma m)
    where
      no_comma : (m : ℕ) → fault end (more_arguments m ∷ mark sort.RightParen ∷ under) n (word sort.RightParen q ∷ rest) ≡ fault end under n rest
      no_comma zero = refl
      no_comma (suc m) = refl
  arguments_fit (more_atom p a xs) zero q n under rest h = absurd (omega (arith, h))
  arguments_fit (more_atom p a xs) (suc m) q n under rest h =
      either_then (argument_fits end a (more_arguments m ∷ mark sort.RightParen ∷ under) n (atoms_words xs (word sort.RightParen q ∷ rest))) (λ k. arguments_fit xs m q n under rest (omega (arith, h)))

  operands_fit : (o : OperandsPhrase) (n : ℕ) (under : List Part) (rest : List Word) → Either (OperandsFit o) (fault end (call_parts ++ under) n (operands_words o rest)) (fault end under n rest)
  operands_fit (operands l (named x p) xs r) n under rest = arguments_fit xs.atoms 2 r n under rest xs.few

  plain_begins : (e : ExprPhrase) (n : ℕ) (under : List Part) (rest : List Word) → fault end (a_right ∷ under) n (expr_words e rest) ≡ fault end (expression ∷ under) n (expr_words e rest)
  plain_begins (sum (term (plain (name_atom m p)) fs) ts) n under rest = refl
  plain_begins (sum (term (plain (nil_atom p)) fs) ts) n under rest = refl
  plain_begins (sum (term (plain (symbol_atom m p)) fs) ts) n under rest = refl
  plain_begins (sum (term (plain (number_atom (digits v p))) fs) ts) n under rest = refl
  plain_begins (sum (term (plain (negative_atom p d)) fs) ts) n under rest = refl
  plain_begins (sum (term (grouped p e q) fs) ts) n under rest = refl

  right_fits : (r : RightPhrase) (q n : ℕ) (under : List Part) (rest : List Word) → open_in under ≡ 0 → Within (RightFits r) (fault end (a_right ∷ mark sort.Semicolon ∷ under) n (right_words r (word sort.Semicolon q ∷ rest))) (λ m. fault end under m rest)
  right_fits (result_right (a_call k p o)) q n under rest h =
      within_from (taken end a_right call_parts (mark sort.Semicolon ∷ under) n (word (sort.Do k) p) (operands_words o (word sort.Semicolon q ∷ rest)) refl refl)
      (within_either 0 refl (operands_fit o 0 (mark sort.Semicolon ∷ under) (word sort.Semicolon q ∷ rest)))
  right_fits (plain_right e) q n under rest h =
      within_from (plain_begins e n (mark sort.Semicolon ∷ under) (word sort.Semicolon q ∷ rest))
      (within_either (expr_signs e) refl (expression_fits end e (mark sort.Semicolon ∷ under) n (word sort.Semicolon q ∷ rest) h))

  compare_pass : (c : Compare) (p n : ℕ) (under : List Part) (rest : List Word) → fault end (more_factors ∷ more_terms ∷ a_compare ∷ under) n (word (sort.Compare c) p ∷ rest) ≡ fault end under n rest
  compare_pass c p n under rest = refl

  cond_fits : (c : CondPhrase) (n : ℕ) (under : List Part) (rest : List Word) → open_in under ≡ 0 → Within (CondFits c) (fault end (expression ∷ a_compare ∷ expression ∷ under) n (cond_words c rest)) (λ m. fault end (more_factors ∷ more_terms ∷ under) m rest)
  cond_fits (a_cond a c p b) n under rest h =
      within_either (expr_signs b) refl
      (either_then (expression_fits end a (a_compare ∷ expression ∷ under) n (word (sort.Compare c) p ∷ expr_words b rest) h)
      (λ k. either_from (compare_pass c p (expr_signs a) (expression ∷ under) (expr_words b rest)) (expression_fits end b under (expr_signs a) rest h)))

  -- ---- the values of a reply

  more_fit : (vs : MoreValues) (m q n : ℕ) (under : List Part) (rest : List Word) → open_in under ≡ 0 → value_count vs ≤ m → Within (MoreFit vs) (fault end (more_factors ∷ more_terms ∷ more_values m ∷ mark sort.Semicolon ∷ under) n (more_words vs (word sort.Semicolon q ∷ rest))) (λ k. fault end under k rest)
  more_fit no_value m q n under rest h few = goes tt n (no_comma m)
    where
      no_comma : (m : ℕ) → fault end (more_factors ∷ more_terms ∷ more_values m ∷ mark sort.Semicolon ∷ under) n (word sort.Semicolon q ∷ rest) ≡ fault end under n rest
      no_comma zero = refl
      no_comma (suc m) = refl
  more_fit (more_value p e vs) zero q n under rest h few = absurd (omega (arith, few))
  more_fit (more_value p e vs) (suc m) q n under rest h few =
      within_then {y = λ k. fault end (more_factors ∷ more_terms ∷ more_values m ∷ mark sort.Semicolon ∷ under) k (more_words vs (word sort.Semicolon q ∷ rest))}
      (within_either (expr_signs e) refl (expression_fits end e (more_values m ∷ mark sort.Semicolon ∷ under) n (more_words vs (word sort.Semicolon q ∷ rest)) h))
      (λ k. more_fit vs m q k under rest h (omega (arith, few)))

  -- ---- statements and blocks

  -- no statement begins with `else`
  after_if : (ss : StmtsPhrase) (q n : ℕ) (under : List Part) (rest : List Word) → fault end (or_else ∷ statements ∷ mark sort.RightBrace ∷ under) n (stmts_words ss (word sort.RightBrace q ∷ rest)) ≡ fault end (statements ∷ mark sort.RightBrace ∷ under) n (stmts_words ss (word sort.RightBrace q ∷ rest))
  after_if no_stmt q n under rest = refl
  after_if (more_stmts (let_stmt p x a r e) ss) q n under rest = refl
  after_if (more_stmts (assign_stmt (named x p) a r e) ss) q n under rest = refl
  after_if (more_stmts (call_stmt (a_call k p o) e) ss) q n under rest = refl
  after_if (more_stmts (if_stmt p c b e) ss) q n under rest = refl
  after_if (more_stmts (repeat_stmt p t b) ss) q n under rest = refl
  after_if (more_stmts (reply_stmt p v e) ss) q n under rest = refl

  -- a block's brace goes on with no operator
  brace_next : (b : BlockPhrase) (n : ℕ) (under : List Part) (rest : List Word) → fault end (more_factors ∷ more_terms ∷ a_block ∷ under) n (block_words b rest) ≡ fault end (a_block ∷ under) n (block_words b rest)
  brace_next (block p ss q) n under rest = refl

  mutual
    block_fits : (b : BlockPhrase) (d n : ℕ) (under : List Part) (rest : List Word) → open_in under ≡ 0 → depth_of under ≡ d → Within (BlockFits b d) (fault end (a_block ∷ under) n (block_words b rest)) (λ m. fault end under m rest)
    block_fits (block p ss q) d n under rest h k =
        within_as
        (within_then {y = λ m. fault end (statements ∷ mark sort.RightBrace ∷ under) n (stmts_words ss (word sort.RightBrace q ∷ rest))}
        (within_either 0 refl (limit_fits block_depth max_depth (depth_of under) (word sort.LeftBrace p) (fault end (statements ∷ mark sort.RightBrace ∷ under) n (stmts_words ss (word sort.RightBrace q ∷ rest)))))
        (λ m. stmts_fit ss q (d + 1) n under rest h (ap (λ x. x + 1) k)))
        (λ g. (omega (arith, g.0, k), g.1)) (λ g. (omega (arith, g.0, k), g.1))

    stmts_fit : (ss : StmtsPhrase) (q d n : ℕ) (under : List Part) (rest : List Word) → open_in under ≡ 0 → depth_of under + 1 ≡ d → Within (StmtsFit ss d) (fault end (statements ∷ mark sort.RightBrace ∷ under) n (stmts_words ss (word sort.RightBrace q ∷ rest))) (λ m. fault end under m rest)
    stmts_fit no_stmt q d n under rest h k = goes tt n refl
    stmts_fit (more_stmts s ss) q d n under rest h k =
        within_then {y = λ m. fault end (statements ∷ mark sort.RightBrace ∷ under) m (stmts_words ss (word sort.RightBrace q ∷ rest))}
        (stmt_fits s ss q d n under rest h k) (λ m. stmts_fit ss q d m under rest h k)

    stmt_fits : (s : StmtPhrase) (ss : StmtsPhrase) (q d n : ℕ) (under : List Part) (rest : List Word) → open_in under ≡ 0 → depth_of under + 1 ≡ d → Within (StmtFits s d) (fault end (statements ∷ mark sort.RightBrace ∷ under) n (stmt_words s (stmts_words ss (word sort.RightBrace q ∷ rest)))) (λ m. fault end (statements ∷ mark sort.RightBrace ∷ under) m (stmts_words ss (word sort.RightBrace q ∷ rest)))
    stmt_fits (let_stmt p (named x y) a r e) ss q d n under rest h k = right_fits r e n (statements ∷ mark sort.RightBrace ∷ under) (stmts_words ss (word sort.RightBrace q ∷ rest)) h
    stmt_fits (assign_stmt (named x y) a r e) ss q d n under rest h k = right_fits r e n (statements ∷ mark sort.RightBrace ∷ under) (stmts_words ss (word sort.RightBrace q ∷ rest)) h
    stmt_fits (call_stmt (a_call c p o) e) ss q d n under rest h k =
        within_from (taken end statements (call_parts ++ mark sort.Semicolon ∷ statements ∷ []) (mark sort.RightBrace ∷ under) n (word (sort.Do c) p) (operands_words o (word sort.Semicolon e ∷ stmts_words ss (word sort.RightBrace q ∷ rest))) refl refl)
        (within_either n refl (operands_fit o n (mark sort.Semicolon ∷ statements ∷ mark sort.RightBrace ∷ under) (word sort.Semicolon e ∷ stmts_words ss (word sort.RightBrace q ∷ rest))))
    stmt_fits (if_stmt p c b e) ss q d n under rest h k =
        let further = stmts_words ss (word sort.RightBrace q ∷ rest) in
        let parts = statements ∷ mark sort.RightBrace ∷ under in
        within_third
        (within_then {y = λ m. fault end (or_else ∷ parts) m (else_words e further)}
        (within_then {y = λ m. fault end (more_factors ∷ more_terms ∷ a_block ∷ or_else ∷ parts) m (block_words b (else_words e further))}
        (cond_fits c n (a_block ∷ or_else ∷ parts) (block_words b (else_words e further)) h)
        (λ m. within_from (brace_next b m (or_else ∷ parts) (else_words e further)) (block_fits b d m (or_else ∷ parts) (else_words e further) h k)))
        (λ m. else_fits e ss q d m under rest h k))
    stmt_fits (repeat_stmt p (a_turns (digits v z) a (named x y)) b) ss q d n under rest h k =
        let further = stmts_words ss (word sort.RightBrace q ∷ rest) in
        let parts = statements ∷ mark sort.RightBrace ∷ under in
        within_then {y = λ m. fault end (a_block ∷ parts) n (block_words b further)}
        (within_either 0 refl (number_fits max_number v (word (sort.Number v) z) (fault end (a_block ∷ parts) n (block_words b further))))
        (λ m. block_fits b d n parts further h k)
    stmt_fits (reply_stmt p v e) ss q d n under rest h k =
        let further = stmts_words ss (word sort.RightBrace q ∷ rest) in
        let parts = statements ∷ mark sort.RightBrace ∷ under in
        within_then {y = λ m. fault end (more_factors ∷ more_terms ∷ more_values 3 ∷ mark sort.Semicolon ∷ parts) m (more_words v.more (word sort.Semicolon e ∷ further))}
        (within_either (expr_signs v.first) refl (expression_fits end v.first (more_values 3 ∷ mark sort.Semicolon ∷ parts) n (more_words v.more (word sort.Semicolon e ∷ further)) h))
        (λ m. more_fit v.more 3 e m parts further h v.few)

    else_fits : (e : ElsePhrase) (ss : StmtsPhrase) (q d n : ℕ) (under : List Part) (rest : List Word) → open_in under ≡ 0 → depth_of under + 1 ≡ d → Within (ElseFits e d) (fault end (or_else ∷ statements ∷ mark sort.RightBrace ∷ under) n (else_words e (stmts_words ss (word sort.RightBrace q ∷ rest)))) (λ m. fault end (statements ∷ mark sort.RightBrace ∷ under) m (stmts_words ss (word sort.RightBrace q ∷ rest)))
    else_fits no_else ss q d n under rest h k = goes tt n (after_if ss q n under rest)
    else_fits (an_else p b) ss q d n under rest h k = block_fits b d n (statements ∷ mark sort.RightBrace ∷ under) (stmts_words ss (word sort.RightBrace q ∷ rest)) h k

  -- ---- handlers and tables

  more_params_pass : (ns : MoreParams) (r n : ℕ) (under : List Part) (rest : List Word) → fault end (more_params ∷ mark sort.RightParen ∷ under) n (more_params_words ns (word sort.RightParen r ∷ rest)) ≡ fault end under n rest
  more_params_pass no_more r n under rest = refl
  more_params_pass (more_param p (named x q) ns) r n under rest = more_params_pass ns r n under rest

  params_pass : (ps : ParamsPhrase) (r n : ℕ) (under : List Part) (rest : List Word) → fault end (first_param ∷ mark sort.RightParen ∷ under) n (params_words ps (word sort.RightParen r ∷ rest)) ≡ fault end under n rest
  params_pass no_param r n under rest = refl
  params_pass (some_params ps) r n under rest = first_pass ps.first
    where
      first_pass : (x : NamePhrase) → fault end (first_param ∷ mark sort.RightParen ∷ under) n (name_words x (more_params_words ps.more (word sort.RightParen r ∷ rest))) ≡ fault end under n rest
      first_pass (named x p) = more_params_pass ps.more r n under rest

  handlers_fit : (hs : HandlersPhrase) (n : ℕ) → Within (HandlersFit hs) (fault end (handlers ∷ []) n (handlers_words hs [])) (λ m. None)
  handlers_fit no_handler n = goes tt n refl
  handlers_fit (more_handlers (a_handler p (named x y) l ps r b) hs) n =
      within_from (params_pass ps r n (a_block ∷ handlers ∷ []) (block_words b (handlers_words hs [])))
      (within_then {y = λ m. fault end (handlers ∷ []) m (handlers_words hs [])} (block_fits b 0 n (handlers ∷ []) (handlers_words hs []) refl refl) (λ m. handlers_fit hs m))

  table_pass : (k : TableKind) (x : NamePhrase) (p e n : ℕ) (under : List Part) (ws : List Word) → fault end (tables ∷ under) n (word (sort.Table k) p ∷ name_words x (word sort.Semicolon e ∷ ws)) ≡ fault end (tables ∷ under) n ws
  table_pass k (named x q) p e n under ws = refl

  tables_pass : (ts : TablesPhrase) (n : ℕ) (under : List Part) (rest : List Word) → fault end (tables ∷ under) n (tables_words ts rest) ≡ fault end (tables ∷ under) n rest
  tables_pass no_table n under rest = refl
  tables_pass (more_tables (a_table k p x e) ts) n under rest = table_pass k x p e n under (tables_words ts rest) ∙ tables_pass ts n under rest

  no_table_next : (hs : HandlersPhrase) (n : ℕ) → fault end whole_file n (handlers_words hs []) ≡ fault end (handlers ∷ []) n (handlers_words hs [])
  no_table_next no_handler n = refl
  no_table_next (more_handlers (a_handler p x l ps r b) hs) n = refl

  file_fits : (p : FilePhrase) → Within (FileFits p) (fault end whole_file 0 (file_words p [])) (λ m. None)
  file_fits (a_file ts hs) = within_from (tables_pass ts 0 (handlers ∷ []) (handlers_words hs []) ∙ no_table_next hs 0) (handlers_fit hs 0)

  -- the two ways to read it
  pub fits : (p : FilePhrase) → fault end whole_file 0 (file_words p []) ≡ None → FileFits p
  fits p e = by (file_fits p)
    where
      by : Within (FileFits p) (fault end whole_file 0 (file_words p [])) (λ m. None) → FileFits p
      by (goes h n f) = h
      by (stays h f) = absurd (f e)

  pub passed_whole : (p : FilePhrase) → FileFits p → fault end whole_file 0 (file_words p []) ≡ None
  passed_whole p h = by (file_fits p)
    where
      by : Within (FileFits p) (fault end whole_file 0 (file_words p [])) (λ m. None) → fault end whole_file 0 (file_words p []) ≡ None
      by (goes g n f) = f
      by (stays g f) = absurd (g h)
