-- The limits that the walk finds broken in the words of a phrase are those that the phrase breaks.
use Rattle.std.proofs.Common.{◌≡◌, ◌≤◌, ◌+◌, ℕ, zero, suc, nat_le, List, [], ◌∷◌, ◌++◌, Option, Some, None, refl, ap, ◌∙◌, arith}
use Rattle.session_values.specs.Limits.{max_depth, max_open}
use Rattle.session_values.specs.declared.kind.TableKind.{TableKind}
use Rattle.syntax_grammar.specs.declared.word.Word.{Word}
use Rattle.syntax_grammar.specs.declared.word.Sort.TheVariants as sort
use Rattle.syntax_trees.specs.declared.stmt.Compare.{Compare}
use Rattle.syntax_grammar.specs.Bounds.{block_depth, open_parentheses}
use Rattle.syntax_grammar.specs.Limits.{factor_signs, factors_signs, term_signs, terms_signs, expr_signs}
use Rattle.syntax_grammar.specs.Marked.{Marked, fine, limited, all_fine, atom_marked, sign_marked, factor_marked, factors_marked, term_marked, terms_marked, expr_marked, whole_marked, atoms_marked, operands_marked, right_marked, cond_marked, turns_marked, more_marked, stmt_marked, else_marked, stmts_marked, block_marked, handlers_marked, file_marked}
use Rattle.syntax_grammar.specs.Next.{Part, Taken, taking, broken, signs_after, open_in, depth_of, tables, handlers, first_param, more_params, a_block, statements, or_else, a_right, more_arguments, a_compare, more_values, expression, operand, more_factors, more_terms, closing, an_atom, mark, call_parts, whole_file}
use Rattle.syntax_grammar.specs.Phrase.{word, NamePhrase, named, name_words, digits, AtomPhrase, name_atom, nil_atom, symbol_atom, number_atom, negative_atom, atom_words, FactorPhrase, plain, grouped, factor_words, MoreFactors, no_factor, times, factors_words, TermPhrase, term, term_words, MoreTerms, no_term, plus, minus, terms_words, ExprPhrase, sum, expr_words, MoreAtoms, no_atom, more_atom, atom_count, atoms_words, OperandsPhrase, operands, operands_words, a_call, RightPhrase, result_right, plain_right, right_words, CondPhrase, a_cond, cond_words, a_turns, MoreValues, no_value, more_value, value_count, more_words, StmtPhrase, let_stmt, assign_stmt, call_stmt, if_stmt, repeat_stmt, reply_stmt, stmt_words, ElsePhrase, no_else, an_else, else_words, StmtsPhrase, no_stmt, more_stmts, stmts_words, BlockPhrase, block, block_words, MoreParams, no_more, more_param, more_params_words, ParamsPhrase, no_param, some_params, params_words, HandlersPhrase, no_handler, more_handlers, a_handler, handlers_words, TablesPhrase, no_table, more_tables, a_table, tables_words, FilePhrase, a_file, file_words}

-- ---- the words that the walk takes, each with the limit that it finds broken there

abbrev pub mark_on : Word → ℕ → (List Part → ℕ → List Marked) → Option Taken → List Marked
mark_on w signs rest None = []
mark_on w signs rest (Some t) = record { word = w; over = broken t.part t.under signs w.sort } ∷ rest (t.left ++ t.under) (signs_after t.part signs)

abbrev pub marks : List Part → ℕ → List Word → List Marked
marks ps signs [] = []
marks ps signs (w ∷ ws) = mark_on w signs (λ qs n. marks qs n ws) (taking ps w.sort)

-- as many operator signs, counted in another way
counted : (ps : List Part) (ws : List Word) (m n : ℕ) → m ≡ n → marks ps m ws ≡ marks ps n ws
counted ps ws m n e = ap (λ k. marks ps k ws) e

-- ---- expressions

atom_marks : (a : AtomPhrase) (under : List Part) (n : ℕ) (rest : List Word) → marks (operand ∷ under) n (atom_words a rest) ≡ atom_marked a (marks under n rest)
atom_marks (name_atom m p) under n rest = refl
atom_marks (nil_atom p) under n rest = refl
atom_marks (symbol_atom m p) under n rest = refl
atom_marks (number_atom (digits v p)) under n rest = refl
atom_marks (negative_atom q (digits v p)) under n rest = refl

argument_marks : (a : AtomPhrase) (under : List Part) (n : ℕ) (rest : List Word) → marks (an_atom ∷ under) n (atom_words a rest) ≡ atom_marked a (marks under n rest)
argument_marks (name_atom m p) under n rest = refl
argument_marks (nil_atom p) under n rest = refl
argument_marks (symbol_atom m p) under n rest = refl
argument_marks (number_atom (digits v p)) under n rest = refl
argument_marks (negative_atom q (digits v p)) under n rest = refl

mutual
  factor_marks : (f : FactorPhrase) (under : List Part) (n : ℕ) (rest : List Word) → marks (operand ∷ under) n (factor_words f rest) ≡ factor_marked f (open_in under) n (marks under (n + factor_signs f) rest)
  factor_marks (plain a) under n rest = atom_marks a under n rest ∙ ap (atom_marked a) (counted under rest n (n + 0) (omega arith))
  factor_marks (grouped p e q) under n rest =
      ap (λ l. limited open_parentheses (nat_le max_open (open_in under)) (word sort.LeftParen p) ∷ l) (expr_marks e (closing ∷ under) n (word sort.RightParen q ∷ rest))

  factors_marks : (fs : MoreFactors) (under : List Part) (n : ℕ) (rest : List Word) → marks (more_factors ∷ under) n (factors_words fs rest) ≡ factors_marked fs (open_in under) n (marks (more_factors ∷ under) (n + factors_signs fs) rest)
  factors_marks no_factor under n rest = counted (more_factors ∷ under) rest n (n + 0) (omega arith)
  factors_marks (times p f fs) under n rest =
      ap (λ l. sign_marked sort.Times n p ∷ l)
      (factor_marks f (more_factors ∷ under) (n + 1) (factors_words fs rest)
      ∙ ap (factor_marked f (open_in under) (n + 1))
      (factors_marks fs under (n + 1 + factor_signs f) rest
      ∙ ap (factors_marked fs (open_in under) (n + 1 + factor_signs f)) (counted (more_factors ∷ under) rest (n + 1 + factor_signs f + factors_signs fs) (n + (1 + factor_signs f + factors_signs fs)) (omega arith))))

  term_marks : (t : TermPhrase) (under : List Part) (n : ℕ) (rest : List Word) → marks (operand ∷ more_factors ∷ under) n (term_words t rest) ≡ term_marked t (open_in under) n (marks (more_factors ∷ under) (n + term_signs t) rest)
  term_marks (term f fs) under n rest =
      factor_marks f (more_factors ∷ under) n (factors_words fs rest)
      ∙ ap (factor_marked f (open_in under) n)
      (factors_marks fs under (n + factor_signs f) rest
      ∙ ap (factors_marked fs (open_in under) (n + factor_signs f)) (counted (more_factors ∷ under) rest (n + factor_signs f + factors_signs fs) (n + (factor_signs f + factors_signs fs)) (omega arith)))

  terms_marks : (ts : MoreTerms) (under : List Part) (n : ℕ) (rest : List Word) → marks (more_factors ∷ more_terms ∷ under) n (terms_words ts rest) ≡ terms_marked ts (open_in under) n (marks (more_factors ∷ more_terms ∷ under) (n + terms_signs ts) rest)
  terms_marks no_term under n rest = counted (more_factors ∷ more_terms ∷ under) rest n (n + 0) (omega arith)
  terms_marks (plus p t ts) under n rest =
      ap (λ l. sign_marked sort.Plus n p ∷ l)
      (term_marks t (more_terms ∷ under) (n + 1) (terms_words ts rest)
      ∙ ap (term_marked t (open_in under) (n + 1))
      (terms_marks ts under (n + 1 + term_signs t) rest
      ∙ ap (terms_marked ts (open_in under) (n + 1 + term_signs t)) (counted (more_factors ∷ more_terms ∷ under) rest (n + 1 + term_signs t + terms_signs ts) (n + (1 + term_signs t + terms_signs ts)) (omega arith))))
  terms_marks (minus p t ts) under n rest =
      ap (λ l. sign_marked sort.Minus n p ∷ l)
      (term_marks t (more_terms ∷ under) (n + 1) (terms_words ts rest)
      ∙ ap (term_marked t (open_in under) (n + 1))
      (terms_marks ts under (n + 1 + term_signs t) rest
      ∙ ap (terms_marked ts (open_in under) (n + 1 + term_signs t)) (counted (more_factors ∷ more_terms ∷ under) rest (n + 1 + term_signs t + terms_signs ts) (n + (1 + term_signs t + terms_signs ts)) (omega arith))))

  expr_marks : (e : ExprPhrase) (under : List Part) (n : ℕ) (rest : List Word) → marks (operand ∷ more_factors ∷ more_terms ∷ under) n (expr_words e rest) ≡ expr_marked e (open_in under) n (marks (more_factors ∷ more_terms ∷ under) (n + expr_signs e) rest)
  expr_marks (sum t ts) under n rest =
      term_marks t (more_terms ∷ under) n (terms_words ts rest)
      ∙ ap (term_marked t (open_in under) n)
      (terms_marks ts under (n + term_signs t) rest
      ∙ ap (terms_marked ts (open_in under) (n + term_signs t)) (counted (more_factors ∷ more_terms ∷ under) rest (n + term_signs t + terms_signs ts) (n + (term_signs t + terms_signs ts)) (omega arith)))

-- a whole expression begins as an operand does, with no sign so far
expression_marks : (e : ExprPhrase) (under : List Part) (n : ℕ) (rest : List Word) → marks (expression ∷ under) n (expr_words e rest) ≡ marks (operand ∷ more_factors ∷ more_terms ∷ under) 0 (expr_words e rest)
expression_marks (sum (term (plain (name_atom m p)) fs) ts) under n rest = refl
expression_marks (sum (term (plain (nil_atom p)) fs) ts) under n rest = refl
expression_marks (sum (term (plain (symbol_atom m p)) fs) ts) under n rest = refl
expression_marks (sum (term (plain (number_atom (digits v p))) fs) ts) under n rest = refl
expression_marks (sum (term (plain (negative_atom p d)) fs) ts) under n rest = refl
expression_marks (sum (term (grouped p e q) fs) ts) under n rest = refl

-- ---- where the walk goes on behind some number of operator signs

-- these words are marked so, and then follows what is marked behind them
record Goes (here : List Marked) (words : List Marked → List Marked) (behind : ℕ → List Marked) : Type 0 where
  signs : ℕ
  is : here ≡ words (behind signs)

went : {here : List Marked} {words : List Marked → List Marked} {behind : ℕ → List Marked} (n : ℕ) → here ≡ words (behind n) → Goes here words behind
went n e = record { signs = n; is = e }

goes_then : {here : List Marked} {behind : ℕ → List Marked} (words more : List Marked → List Marked) (between : ℕ → List Marked) → Goes here words between → ((n : ℕ) → Goes (between n) more behind) → Goes here (λ l. words (more l)) behind
goes_then words more between a r = let b = r a.signs in record { signs = b.signs; is = a.is ∙ ap words b.is }

goes_from : {here there : List Marked} {words : List Marked → List Marked} {behind : ℕ → List Marked} → here ≡ there → Goes there words behind → Goes here words behind
goes_from e a = record { signs = a.signs; is = e ∙ a.is }

expression_goes : (e : ExprPhrase) (under : List Part) (n : ℕ) (rest : List Word) → open_in under ≡ 0 → Goes (marks (expression ∷ under) n (expr_words e rest)) (whole_marked e) (λ m. marks (more_factors ∷ more_terms ∷ under) m rest)
expression_goes e under n rest none =
    went (0 + expr_signs e) (expression_marks e under n rest ∙ expr_marks e under 0 rest ∙ ap (λ o. expr_marked e o 0 (marks (more_factors ∷ more_terms ∷ under) (0 + expr_signs e) rest)) none)

-- ---- operations, right sides and conditions

arguments_marks : (xs : MoreAtoms) (m q n : ℕ) (under : List Part) (rest : List Word) → atom_count xs ≤ m → marks (more_arguments m ∷ mark sort.RightParen ∷ under) n (atoms_words xs (word sort.RightParen q ∷ rest)) ≡ atoms_marked xs (fine (word sort.RightParen q) ∷ marks under n rest)
arguments_marks no_atom m q n under rest h = no_comma m
  where
    no_comma : (m : ℕ) → marks (more_arguments m ∷ mark sort.RightParen ∷ under) n (word sort.RightParen q ∷ rest) ≡ fine (word sort.RightParen q) ∷ marks under n rest
    no_comma zero = refl
    no_comma (suc m) = refl
arguments_marks (more_atom p a xs) zero q n under rest h = absurd (omega (arith, h))
arguments_marks (more_atom p a xs) (suc m) q n under rest h =
    ap (λ l. fine (word sort.Comma p) ∷ l)
    (argument_marks a (more_arguments m ∷ mark sort.RightParen ∷ under) n (atoms_words xs (word sort.RightParen q ∷ rest))
    ∙ ap (atom_marked a) (arguments_marks xs m q n under rest (omega (arith, h))))

operands_marks : (o : OperandsPhrase) (n : ℕ) (under : List Part) (rest : List Word) → marks (call_parts ++ under) n (operands_words o rest) ≡ operands_marked o (marks under n rest)
operands_marks (operands l (named x p) xs r) n under rest =
    ap (λ k. fine (word sort.LeftParen l) ∷ fine (word (sort.Name x) p) ∷ k) (arguments_marks xs.atoms 2 r n under rest xs.few)

plain_marks : (e : ExprPhrase) (n : ℕ) (under : List Part) (rest : List Word) → marks (a_right ∷ under) n (expr_words e rest) ≡ marks (expression ∷ under) n (expr_words e rest)
plain_marks (sum (term (plain (name_atom m p)) fs) ts) n under rest = refl
plain_marks (sum (term (plain (nil_atom p)) fs) ts) n under rest = refl
plain_marks (sum (term (plain (symbol_atom m p)) fs) ts) n under rest = refl
plain_marks (sum (term (plain (number_atom (digits v p))) fs) ts) n under rest = refl
plain_marks (sum (term (plain (negative_atom p d)) fs) ts) n under rest = refl
plain_marks (sum (term (grouped p e q) fs) ts) n under rest = refl

right_goes : (r : RightPhrase) (q n : ℕ) (under : List Part) (rest : List Word) → open_in under ≡ 0 → Goes (marks (a_right ∷ mark sort.Semicolon ∷ under) n (right_words r (word sort.Semicolon q ∷ rest))) (λ l. right_marked r (fine (word sort.Semicolon q) ∷ l)) (λ m. marks under m rest)
right_goes (result_right (a_call k p o)) q n under rest none =
    went 0 (ap (λ l. fine (word (sort.Do k) p) ∷ l) (operands_marks o 0 (mark sort.Semicolon ∷ under) (word sort.Semicolon q ∷ rest)))
right_goes (plain_right e) q n under rest none =
    goes_from (plain_marks e n (mark sort.Semicolon ∷ under) (word sort.Semicolon q ∷ rest))
    (goes_then (whole_marked e) (λ l. fine (word sort.Semicolon q) ∷ l) (λ m. marks (more_factors ∷ more_terms ∷ mark sort.Semicolon ∷ under) m (word sort.Semicolon q ∷ rest))
    (expression_goes e (mark sort.Semicolon ∷ under) n (word sort.Semicolon q ∷ rest) none) (λ m. went m refl))

-- a comparison's sign goes on with no operator
compare_marks : (c : Compare) (p n : ℕ) (under : List Part) (rest : List Word) → marks (more_factors ∷ more_terms ∷ a_compare ∷ under) n (word (sort.Compare c) p ∷ rest) ≡ fine (word (sort.Compare c) p) ∷ marks under n rest
compare_marks c p n under rest = refl

cond_goes : (c : CondPhrase) (n : ℕ) (under : List Part) (rest : List Word) → open_in under ≡ 0 → Goes (marks (expression ∷ a_compare ∷ expression ∷ under) n (cond_words c rest)) (cond_marked c) (λ m. marks (more_factors ∷ more_terms ∷ under) m rest)
cond_goes (a_cond a c p b) n under rest none =
    goes_then (whole_marked a) (λ l. fine (word (sort.Compare c) p) ∷ whole_marked b l) (λ m. marks (more_factors ∷ more_terms ∷ a_compare ∷ expression ∷ under) m (word (sort.Compare c) p ∷ expr_words b rest))
    (expression_goes a (a_compare ∷ expression ∷ under) n (word (sort.Compare c) p ∷ expr_words b rest) none)
    (λ m. goes_then (λ l. fine (word (sort.Compare c) p) ∷ l) (whole_marked b) (λ k. marks (expression ∷ under) k (expr_words b rest))
    (went m (compare_marks c p m (expression ∷ under) (expr_words b rest))) (λ k. expression_goes b under k rest none))

-- ---- values, statements and blocks

values_goes : (vs : MoreValues) (m q n : ℕ) (under : List Part) (rest : List Word) → open_in under ≡ 0 → value_count vs ≤ m → Goes (marks (more_factors ∷ more_terms ∷ more_values m ∷ mark sort.Semicolon ∷ under) n (more_words vs (word sort.Semicolon q ∷ rest))) (λ l. more_marked vs (fine (word sort.Semicolon q) ∷ l)) (λ k. marks under k rest)
values_goes no_value m q n under rest none h = went n (no_comma m)
  where
    no_comma : (m : ℕ) → marks (more_factors ∷ more_terms ∷ more_values m ∷ mark sort.Semicolon ∷ under) n (word sort.Semicolon q ∷ rest) ≡ fine (word sort.Semicolon q) ∷ marks under n rest
    no_comma zero = refl
    no_comma (suc m) = refl
values_goes (more_value p e vs) zero q n under rest none h = absurd (omega (arith, h))
values_goes (more_value p e vs) (suc m) q n under rest none h =
    goes_then (λ l. fine (word sort.Comma p) ∷ whole_marked e l) (λ l. more_marked vs (fine (word sort.Semicolon q) ∷ l)) (λ k. marks (more_factors ∷ more_terms ∷ more_values m ∷ mark sort.Semicolon ∷ under) k (more_words vs (word sort.Semicolon q ∷ rest)))
    (goes_then (λ l. fine (word sort.Comma p) ∷ l) (whole_marked e) (λ k. marks (expression ∷ more_values m ∷ mark sort.Semicolon ∷ under) k (expr_words e (more_words vs (word sort.Semicolon q ∷ rest))))
    (went n refl) (λ k. expression_goes e (more_values m ∷ mark sort.Semicolon ∷ under) k (more_words vs (word sort.Semicolon q ∷ rest)) none))
    (λ k. values_goes vs m q k under rest none (omega (arith, h)))

-- no statement begins with `else`
after_if : (ss : StmtsPhrase) (q n : ℕ) (under : List Part) (rest : List Word) → marks (or_else ∷ statements ∷ mark sort.RightBrace ∷ under) n (stmts_words ss (word sort.RightBrace q ∷ rest)) ≡ marks (statements ∷ mark sort.RightBrace ∷ under) n (stmts_words ss (word sort.RightBrace q ∷ rest))
after_if no_stmt q n under rest = refl
after_if (more_stmts (let_stmt p x a r e) ss) q n under rest = refl
after_if (more_stmts (assign_stmt (named x p) a r e) ss) q n under rest = refl
after_if (more_stmts (call_stmt (a_call k p o) e) ss) q n under rest = refl
after_if (more_stmts (if_stmt p c b e) ss) q n under rest = refl
after_if (more_stmts (repeat_stmt p t b) ss) q n under rest = refl
after_if (more_stmts (reply_stmt p v e) ss) q n under rest = refl

-- a block's brace goes on with no operator
brace_next : (b : BlockPhrase) (n : ℕ) (under : List Part) (rest : List Word) → marks (more_factors ∷ more_terms ∷ a_block ∷ under) n (block_words b rest) ≡ marks (a_block ∷ under) n (block_words b rest)
brace_next (block p ss q) n under rest = refl

mutual
  block_goes : (b : BlockPhrase) (n : ℕ) (under : List Part) (rest : List Word) → open_in under ≡ 0 → Goes (marks (a_block ∷ under) n (block_words b rest)) (block_marked b (depth_of under)) (λ m. marks under m rest)
  block_goes (block p ss q) n under rest none =
      goes_then (λ l. limited block_depth (nat_le max_depth (depth_of under)) (word sort.LeftBrace p) ∷ l) (λ l. stmts_marked ss (depth_of under + 1) (fine (word sort.RightBrace q) ∷ l)) (λ m. marks (statements ∷ mark sort.RightBrace ∷ under) m (stmts_words ss (word sort.RightBrace q ∷ rest)))
      (went n refl) (λ m. stmts_go ss q m under rest none)

  stmts_go : (ss : StmtsPhrase) (q n : ℕ) (under : List Part) (rest : List Word) → open_in under ≡ 0 → Goes (marks (statements ∷ mark sort.RightBrace ∷ under) n (stmts_words ss (word sort.RightBrace q ∷ rest))) (λ l. stmts_marked ss (depth_of under + 1) (fine (word sort.RightBrace q) ∷ l)) (λ m. marks under m rest)
  stmts_go no_stmt q n under rest none = went n refl
  stmts_go (more_stmts s ss) q n under rest none =
      goes_then (stmt_marked s (depth_of under + 1)) (λ l. stmts_marked ss (depth_of under + 1) (fine (word sort.RightBrace q) ∷ l)) (λ m. marks (statements ∷ mark sort.RightBrace ∷ under) m (stmts_words ss (word sort.RightBrace q ∷ rest)))
      (stmt_goes s ss q n under rest none) (λ m. stmts_go ss q m under rest none)

  stmt_goes : (s : StmtPhrase) (ss : StmtsPhrase) (q n : ℕ) (under : List Part) (rest : List Word) → open_in under ≡ 0 → Goes (marks (statements ∷ mark sort.RightBrace ∷ under) n (stmt_words s (stmts_words ss (word sort.RightBrace q ∷ rest)))) (stmt_marked s (depth_of under + 1)) (λ m. marks (statements ∷ mark sort.RightBrace ∷ under) m (stmts_words ss (word sort.RightBrace q ∷ rest)))
  stmt_goes (let_stmt p (named x y) a r e) ss q n under rest none =
      goes_then (λ l. fine (word sort.Let p) ∷ fine (word (sort.Name x) y) ∷ fine (word sort.Assign a) ∷ l) (λ l. right_marked r (fine (word sort.Semicolon e) ∷ l)) (λ m. marks (a_right ∷ mark sort.Semicolon ∷ statements ∷ mark sort.RightBrace ∷ under) m (right_words r (word sort.Semicolon e ∷ stmts_words ss (word sort.RightBrace q ∷ rest))))
      (went n refl) (λ m. right_goes r e m (statements ∷ mark sort.RightBrace ∷ under) (stmts_words ss (word sort.RightBrace q ∷ rest)) none)
  stmt_goes (assign_stmt (named x y) a r e) ss q n under rest none =
      goes_then (λ l. fine (word (sort.Name x) y) ∷ fine (word sort.Assign a) ∷ l) (λ l. right_marked r (fine (word sort.Semicolon e) ∷ l)) (λ m. marks (a_right ∷ mark sort.Semicolon ∷ statements ∷ mark sort.RightBrace ∷ under) m (right_words r (word sort.Semicolon e ∷ stmts_words ss (word sort.RightBrace q ∷ rest))))
      (went n refl) (λ m. right_goes r e m (statements ∷ mark sort.RightBrace ∷ under) (stmts_words ss (word sort.RightBrace q ∷ rest)) none)
  stmt_goes (call_stmt (a_call k p o) e) ss q n under rest none =
      let further = stmts_words ss (word sort.RightBrace q ∷ rest) in
      went n (ap (λ l. fine (word (sort.Do k) p) ∷ l) (operands_marks o n (mark sort.Semicolon ∷ statements ∷ mark sort.RightBrace ∷ under) (word sort.Semicolon e ∷ further)))
  stmt_goes (if_stmt p c b e) ss q n under rest none =
      let further = stmts_words ss (word sort.RightBrace q ∷ rest) in
      let parts = statements ∷ mark sort.RightBrace ∷ under in
      goes_then (λ l. fine (word sort.If p) ∷ cond_marked c l) (λ l. block_marked b (depth_of under + 1) (else_marked e (depth_of under + 1) l)) (λ m. marks (more_factors ∷ more_terms ∷ a_block ∷ or_else ∷ parts) m (block_words b (else_words e further)))
      (goes_then (λ l. fine (word sort.If p) ∷ l) (cond_marked c) (λ m. marks (expression ∷ a_compare ∷ expression ∷ a_block ∷ or_else ∷ parts) m (cond_words c (block_words b (else_words e further))))
      (went n refl) (λ m. cond_goes c m (a_block ∷ or_else ∷ parts) (block_words b (else_words e further)) none))
      (λ m. goes_then (block_marked b (depth_of under + 1)) (else_marked e (depth_of under + 1)) (λ k. marks (or_else ∷ parts) k (else_words e further))
      (goes_from (brace_next b m (or_else ∷ parts) (else_words e further)) (block_goes b m (or_else ∷ parts) (else_words e further) none))
      (λ k. else_goes e ss q k under rest none))
  stmt_goes (repeat_stmt p (a_turns (digits v z) a (named x y)) b) ss q n under rest none =
      let further = stmts_words ss (word sort.RightBrace q ∷ rest) in
      let parts = statements ∷ mark sort.RightBrace ∷ under in
      goes_then (λ l. fine (word sort.Repeat p) ∷ turns_marked (a_turns (digits v z) a (named x y)) l) (block_marked b (depth_of under + 1)) (λ m. marks (a_block ∷ parts) m (block_words b further))
      (went n refl) (λ m. block_goes b m parts further none)
  stmt_goes (reply_stmt p v e) ss q n under rest none =
      let further = stmts_words ss (word sort.RightBrace q ∷ rest) in
      let parts = statements ∷ mark sort.RightBrace ∷ under in
      goes_then (λ l. fine (word sort.Reply p) ∷ whole_marked v.first l) (λ l. more_marked v.more (fine (word sort.Semicolon e) ∷ l)) (λ m. marks (more_factors ∷ more_terms ∷ more_values 3 ∷ mark sort.Semicolon ∷ parts) m (more_words v.more (word sort.Semicolon e ∷ further)))
      (goes_then (λ l. fine (word sort.Reply p) ∷ l) (whole_marked v.first) (λ m. marks (expression ∷ more_values 3 ∷ mark sort.Semicolon ∷ parts) m (expr_words v.first (more_words v.more (word sort.Semicolon e ∷ further))))
      (went n refl) (λ m. expression_goes v.first (more_values 3 ∷ mark sort.Semicolon ∷ parts) m (more_words v.more (word sort.Semicolon e ∷ further)) none))
      (λ m. values_goes v.more 3 e m parts further none v.few)

  else_goes : (e : ElsePhrase) (ss : StmtsPhrase) (q n : ℕ) (under : List Part) (rest : List Word) → open_in under ≡ 0 → Goes (marks (or_else ∷ statements ∷ mark sort.RightBrace ∷ under) n (else_words e (stmts_words ss (word sort.RightBrace q ∷ rest)))) (else_marked e (depth_of under + 1)) (λ m. marks (statements ∷ mark sort.RightBrace ∷ under) m (stmts_words ss (word sort.RightBrace q ∷ rest)))
  else_goes no_else ss q n under rest none = went n (after_if ss q n under rest)
  else_goes (an_else p b) ss q n under rest none =
      goes_then (λ l. fine (word sort.Else p) ∷ l) (block_marked b (depth_of under + 1)) (λ m. marks (a_block ∷ statements ∷ mark sort.RightBrace ∷ under) m (block_words b (stmts_words ss (word sort.RightBrace q ∷ rest))))
      (went n refl) (λ m. block_goes b m (statements ∷ mark sort.RightBrace ∷ under) (stmts_words ss (word sort.RightBrace q ∷ rest)) none)

-- ---- handlers and tables

more_params_marks : (ns : MoreParams) (r n : ℕ) (under : List Part) (rest : List Word) → marks (more_params ∷ mark sort.RightParen ∷ under) n (more_params_words ns (word sort.RightParen r ∷ rest)) ≡ all_fine (more_params_words ns []) (fine (word sort.RightParen r) ∷ marks under n rest)
more_params_marks no_more r n under rest = refl
more_params_marks (more_param p (named x q) ns) r n under rest =
    ap (λ l. fine (word sort.Comma p) ∷ fine (word (sort.Name x) q) ∷ l) (more_params_marks ns r n under rest)

params_marks : (ps : ParamsPhrase) (r n : ℕ) (under : List Part) (rest : List Word) → marks (first_param ∷ mark sort.RightParen ∷ under) n (params_words ps (word sort.RightParen r ∷ rest)) ≡ all_fine (params_words ps []) (fine (word sort.RightParen r) ∷ marks under n rest)
params_marks no_param r n under rest = refl
params_marks (some_params ps) r n under rest = first_marks ps.first
  where
    first_marks : (x : NamePhrase) → marks (first_param ∷ mark sort.RightParen ∷ under) n (name_words x (more_params_words ps.more (word sort.RightParen r ∷ rest))) ≡ all_fine (name_words x (more_params_words ps.more [])) (fine (word sort.RightParen r) ∷ marks under n rest)
    first_marks (named x p) = ap (λ l. fine (word (sort.Name x) p) ∷ l) (more_params_marks ps.more r n under rest)

handlers_marks : (hs : HandlersPhrase) (n : ℕ) → marks (handlers ∷ []) n (handlers_words hs []) ≡ handlers_marked hs
handlers_marks no_handler n = refl
handlers_marks (more_handlers (a_handler p (named x y) l ps r b) hs) n =
    let body = block_goes b n (handlers ∷ []) (handlers_words hs []) refl in
    ap (λ k. fine (word sort.Handler p) ∷ fine (word (sort.Name x) y) ∷ fine (word sort.LeftParen l) ∷ k)
    (params_marks ps r n (a_block ∷ handlers ∷ []) (block_words b (handlers_words hs []))
    ∙ ap (λ k. all_fine (params_words ps []) (fine (word sort.RightParen r) ∷ k)) (body.is ∙ ap (block_marked b 0) (handlers_marks hs body.signs)))

table_marks : (k : TableKind) (x : NamePhrase) (p e n : ℕ) (under : List Part) (ws : List Word) → marks (tables ∷ under) n (word (sort.Table k) p ∷ name_words x (word sort.Semicolon e ∷ ws)) ≡ all_fine (word (sort.Table k) p ∷ name_words x (word sort.Semicolon e ∷ [])) (marks (tables ∷ under) n ws)
table_marks k (named x q) p e n under ws = refl

-- the words of one table before those of others
fine_table : (k : TableKind) (x : NamePhrase) (p e : ℕ) (ws : List Word) (l : List Marked) → all_fine (word (sort.Table k) p ∷ name_words x (word sort.Semicolon e ∷ [])) (all_fine ws l) ≡ all_fine (word (sort.Table k) p ∷ name_words x (word sort.Semicolon e ∷ ws)) l
fine_table k (named x q) p e ws l = refl

tables_marks : (ts : TablesPhrase) (n : ℕ) (under : List Part) (rest : List Word) → marks (tables ∷ under) n (tables_words ts rest) ≡ all_fine (tables_words ts []) (marks (tables ∷ under) n rest)
tables_marks no_table n under rest = refl
tables_marks (more_tables (a_table k p x e) ts) n under rest =
    table_marks k x p e n under (tables_words ts rest)
    ∙ ap (all_fine (word (sort.Table k) p ∷ name_words x (word sort.Semicolon e ∷ []))) (tables_marks ts n under rest)
    ∙ fine_table k x p e (tables_words ts []) (marks (tables ∷ under) n rest)

no_table_next : (hs : HandlersPhrase) (n : ℕ) → marks whole_file n (handlers_words hs []) ≡ marks (handlers ∷ []) n (handlers_words hs [])
no_table_next no_handler n = refl
no_table_next (more_handlers (a_handler p x l ps r b) hs) n = refl

-- the walk over the words of a file finds the limits that its phrase breaks
pub file_marks : (p : FilePhrase) → marks whole_file 0 (file_words p []) ≡ file_marked p
file_marks (a_file ts hs) =
    tables_marks ts 0 (handlers ∷ []) (handlers_words hs []) ∙ ap (all_fine (tables_words ts [])) (no_table_next hs 0 ∙ handlers_marks hs 0)
