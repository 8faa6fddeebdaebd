-- The words of a phrase in the order of the text, each with the limit that it breaks, if it breaks
-- one. Those of each phrase are followed by a given rest.
use Rattle.std.specs.Prelude.{ℕ, ◌+◌, Bool, nat_lt, nat_le, List, [], ◌∷◌, Option, None}
use Rattle.session_values.specs.Limits.{max_depth, max_open, max_signs}
use Rattle.syntax_grammar.specs.declared.word.Sort.{Sort}
use Rattle.syntax_grammar.specs.declared.word.Sort.TheVariants as sort
use Rattle.syntax_grammar.specs.declared.word.Word.{Word}
use Rattle.syntax_grammar.specs.Bounds.{Limit, where_over, number_size, block_depth, open_parentheses, operator_signs, max_number, max_negative}
use Rattle.syntax_grammar.specs.Phrase.{word, NamePhrase, named, NumberPhrase, digits, AtomPhrase, name_atom, nil_atom, symbol_atom, number_atom, negative_atom, FactorPhrase, plain, grouped, MoreFactors, no_factor, times, TermPhrase, term, MoreTerms, no_term, plus, minus, ExprPhrase, sum, MoreAtoms, no_atom, more_atom, OperandsPhrase, operands, CallPhrase, a_call, RightPhrase, result_right, plain_right, CondPhrase, a_cond, TurnsPhrase, a_turns, MoreValues, no_value, more_value, ValuesPhrase, StmtPhrase, let_stmt, assign_stmt, call_stmt, if_stmt, repeat_stmt, reply_stmt, ElsePhrase, no_else, an_else, StmtsPhrase, no_stmt, more_stmts, BlockPhrase, block, params_words, HandlersPhrase, no_handler, more_handlers, a_handler, tables_words, FilePhrase, a_file}
use Rattle.syntax_grammar.specs.Limits.{factor_signs, term_signs}

-- a word, and the limit that it breaks
pub record Marked : Type 0 where
  pub word : Word
  pub over : Option Limit

-- a word that breaks none
abbrev pub fine : Word → Marked
fine w = record { word = w; over = None }

-- a word that breaks a limit where the test says so
abbrev pub limited : Limit → Bool → Word → Marked
limited l over w = record { word = w; over = where_over l over }

-- words that break none, before others
abbrev pub all_fine : List Word → List Marked → List Marked
all_fine [] rest = rest
all_fine (w ∷ ws) rest = fine w ∷ all_fine ws rest

-- ---- names and numbers

abbrev pub name_marked : NamePhrase → List Marked → List Marked
name_marked (named n p) rest = fine (word (sort.Name n) p) ∷ rest

-- a number is at most so large
abbrev pub number_marked : ℕ → NumberPhrase → List Marked → List Marked
number_marked most (digits v p) rest = limited number_size (nat_lt most v)
    (word (sort.Number v) p) ∷ rest

abbrev pub atom_marked : AtomPhrase → List Marked → List Marked
atom_marked (name_atom n p) rest = fine (word (sort.Name n) p) ∷ rest
atom_marked (nil_atom p) rest = fine (word sort.Nil p) ∷ rest
atom_marked (symbol_atom n p) rest = fine (word (sort.Symbol n) p) ∷ rest
atom_marked (number_atom d) rest = number_marked max_number d rest
atom_marked (negative_atom p d) rest = fine (word sort.Minus p) ∷ number_marked max_negative d rest

-- ---- expressions

-- an operator sign behind so many others of its expression
abbrev pub sign_marked : Sort → ℕ → ℕ → Marked
sign_marked s signs p = limited operator_signs (nat_le max_signs signs) (word s p)

-- inside so many open parentheses, behind so many operator signs
abbrev mutual
  pub factor_marked : FactorPhrase → ℕ → ℕ → List Marked → List Marked
  factor_marked (plain a) opened signs rest = atom_marked a rest
  factor_marked (grouped p e q) opened signs rest =
      limited open_parentheses (nat_le max_open opened) (word sort.LeftParen p) ∷ expr_marked e
      (opened + 1) signs (fine (word sort.RightParen q) ∷ rest)

  pub factors_marked : MoreFactors → ℕ → ℕ → List Marked → List Marked
  factors_marked no_factor opened signs rest = rest
  factors_marked (times p f fs) opened signs rest =
      sign_marked sort.Times signs p ∷ factor_marked f opened (signs + 1)
      (factors_marked fs opened (signs + 1 + factor_signs f) rest)

  pub term_marked : TermPhrase → ℕ → ℕ → List Marked → List Marked
  term_marked (term f fs) opened signs rest = factor_marked f opened signs
      (factors_marked fs opened (signs + factor_signs f) rest)

  pub terms_marked : MoreTerms → ℕ → ℕ → List Marked → List Marked
  terms_marked no_term opened signs rest = rest
  terms_marked (plus p t ts) opened signs rest =
      sign_marked sort.Plus signs p ∷ term_marked t opened (signs + 1)
      (terms_marked ts opened (signs + 1 + term_signs t) rest)
  terms_marked (minus p t ts) opened signs rest =
      sign_marked sort.Minus signs p ∷ term_marked t opened (signs + 1)
      (terms_marked ts opened (signs + 1 + term_signs t) rest)

  pub expr_marked : ExprPhrase → ℕ → ℕ → List Marked → List Marked
  expr_marked (sum t ts) opened signs rest = term_marked t opened signs
      (terms_marked ts opened (signs + term_signs t) rest)

-- a whole expression
abbrev pub whole_marked : ExprPhrase → List Marked → List Marked
whole_marked e rest = expr_marked e 0 0 rest

-- ---- operations, right sides, conditions, values

abbrev pub atoms_marked : MoreAtoms → List Marked → List Marked
atoms_marked no_atom rest = rest
atoms_marked (more_atom p a xs) rest = fine (word sort.Comma p) ∷ atom_marked a
    (atoms_marked xs rest)

abbrev pub operands_marked : OperandsPhrase → List Marked → List Marked
operands_marked (operands l t xs r) rest =
    fine (word sort.LeftParen l) ∷ name_marked t
    (atoms_marked xs.atoms (fine (word sort.RightParen r) ∷ rest))

abbrev pub call_marked : CallPhrase → List Marked → List Marked
call_marked (a_call k p o) rest = fine (word (sort.Do k) p) ∷ operands_marked o rest

abbrev pub right_marked : RightPhrase → List Marked → List Marked
right_marked (result_right c) rest = call_marked c rest
right_marked (plain_right e) rest = whole_marked e rest

abbrev pub cond_marked : CondPhrase → List Marked → List Marked
cond_marked (a_cond a c p b) rest = whole_marked a
    (fine (word (sort.Compare c) p) ∷ whole_marked b rest)

abbrev pub turns_marked : TurnsPhrase → List Marked → List Marked
turns_marked (a_turns d a n) rest = number_marked max_number d
    (fine (word sort.As a) ∷ name_marked n rest)

abbrev pub more_marked : MoreValues → List Marked → List Marked
more_marked no_value rest = rest
more_marked (more_value p e vs) rest = fine (word sort.Comma p) ∷ whole_marked e
    (more_marked vs rest)

abbrev pub values_marked : ValuesPhrase → List Marked → List Marked
values_marked v rest = whole_marked v.first (more_marked v.more rest)

-- ---- statements and blocks, inside so many blocks

abbrev mutual
  pub stmt_marked : StmtPhrase → ℕ → List Marked → List Marked
  stmt_marked (let_stmt p n a r e) depth rest =
      fine (word sort.Let p) ∷ name_marked n (fine (word sort.Assign a) ∷ right_marked r
      (fine (word sort.Semicolon e) ∷ rest))
  stmt_marked (assign_stmt n a r e) depth rest = name_marked n
      (fine (word sort.Assign a) ∷ right_marked r (fine (word sort.Semicolon e) ∷ rest))
  stmt_marked (call_stmt c e) depth rest = call_marked c (fine (word sort.Semicolon e) ∷ rest)
  stmt_marked (if_stmt p c b e) depth rest = fine (word sort.If p) ∷ cond_marked c
      (block_marked b depth (else_marked e depth rest))
  stmt_marked (repeat_stmt p t b) depth rest = fine (word sort.Repeat p) ∷ turns_marked t
      (block_marked b depth rest)
  stmt_marked (reply_stmt p v e) depth rest = fine (word sort.Reply p) ∷ values_marked v
      (fine (word sort.Semicolon e) ∷ rest)

  pub else_marked : ElsePhrase → ℕ → List Marked → List Marked
  else_marked no_else depth rest = rest
  else_marked (an_else p b) depth rest = fine (word sort.Else p) ∷ block_marked b depth rest

  pub stmts_marked : StmtsPhrase → ℕ → List Marked → List Marked
  stmts_marked no_stmt depth rest = rest
  stmts_marked (more_stmts s ss) depth rest = stmt_marked s depth (stmts_marked ss depth rest)

  pub block_marked : BlockPhrase → ℕ → List Marked → List Marked
  block_marked (block p ss q) depth rest =
      limited block_depth (nat_le max_depth depth) (word sort.LeftBrace p) ∷ stmts_marked ss
      (depth + 1) (fine (word sort.RightBrace q) ∷ rest)

-- ---- files

abbrev pub handlers_marked : HandlersPhrase → List Marked
handlers_marked no_handler = []
handlers_marked (more_handlers (a_handler p n l ps r b) hs) =
    fine (word sort.Handler p)
    ∷ name_marked n (fine (word sort.LeftParen l) ∷ all_fine (params_words ps [])
    (fine (word sort.RightParen r) ∷ block_marked b 0 (handlers_marked hs)))

-- the words of a file, each with the limit that it breaks, if it breaks one
abbrev pub file_marked : FilePhrase → List Marked
file_marked (a_file ts hs) = all_fine (tables_words ts []) (handlers_marked hs)
