-- The grammar: its phrases, and the words that each is written with.
use Rattle.std.specs.Prelude.{◌≤◌, ℕ, suc, List, ◌∷◌}
use Rattle.session_values.specs.declared.kind.Kind.{Kind}
use Rattle.session_values.specs.declared.kind.TableKind.{TableKind}
use Rattle.syntax_grammar.specs.declared.word.Sort.{Sort}
use Rattle.syntax_grammar.specs.declared.word.Sort.TheVariants as sort
use Rattle.syntax_grammar.specs.declared.word.Word.{Word}
use Rattle.syntax_trees.specs.declared.stmt.Compare.{Compare}

-- ---- phrases, each with the places of its words

-- a name, by its place in the list of names
pub data NamePhrase : Type 0 where
  named : (name at : ℕ) → NamePhrase

pub data NumberPhrase : Type 0 where
  digits : (value at : ℕ) → NumberPhrase

-- Atom = Name | "nil" | Symbol | Number | "-" Number
pub data AtomPhrase : Type 0 where
  name_atom : (name at : ℕ) → AtomPhrase
  nil_atom : (at : ℕ) → AtomPhrase
  symbol_atom : (symbol at : ℕ) → AtomPhrase
  number_atom : NumberPhrase → AtomPhrase
  negative_atom : (minus_at : ℕ) → NumberPhrase → AtomPhrase

mutual
  -- Factor = Atom | "(" Expr ")"
  pub data FactorPhrase : Type 0 where
    plain : AtomPhrase → FactorPhrase
    grouped : (left_at : ℕ) → ExprPhrase → (right_at : ℕ) → FactorPhrase

  -- ( "*" Factor )*
  pub data MoreFactors : Type 0 where
    no_factor : MoreFactors
    times : (at : ℕ) → FactorPhrase → MoreFactors → MoreFactors

  -- Term = Factor ( "*" Factor )*
  pub data TermPhrase : Type 0 where
    term : FactorPhrase → MoreFactors → TermPhrase

  -- ( ( "+" | "-" ) Term )*
  pub data MoreTerms : Type 0 where
    no_term : MoreTerms
    plus : (at : ℕ) → TermPhrase → MoreTerms → MoreTerms
    minus : (at : ℕ) → TermPhrase → MoreTerms → MoreTerms

  -- Expr = Term ( ( "+" | "-" ) Term )*
  pub data ExprPhrase : Type 0 where
    sum : TermPhrase → MoreTerms → ExprPhrase

-- ( "," Atom )*
pub data MoreAtoms : Type 0 where
  no_atom : MoreAtoms
  more_atom : (comma_at : ℕ) → AtomPhrase → MoreAtoms → MoreAtoms

abbrev pub atom_count : MoreAtoms → ℕ
atom_count no_atom = 0
atom_count (more_atom p a xs) = suc (atom_count xs)

-- [ "," Atom [ "," Atom ] ]
pub record ArgumentsPhrase : Type 0 where
  pub atoms : MoreAtoms
  pub few : atom_count atoms ≤ 2

-- "(" Name Arguments ")"
pub data OperandsPhrase : Type 0 where
  operands : (left_at : ℕ) → NamePhrase → ArgumentsPhrase → (right_at : ℕ) → OperandsPhrase

-- Do = Operation Operands
pub data CallPhrase : Type 0 where
  a_call : Kind → (at : ℕ) → OperandsPhrase → CallPhrase

-- Right = Do | Expr
pub data RightPhrase : Type 0 where
  result_right : CallPhrase → RightPhrase
  plain_right : ExprPhrase → RightPhrase

-- Expr Compare Expr
pub data CondPhrase : Type 0 where
  a_cond : ExprPhrase → Compare → (at : ℕ) → ExprPhrase → CondPhrase

-- Number "as" Name
pub data TurnsPhrase : Type 0 where
  a_turns : NumberPhrase → (as_at : ℕ) → NamePhrase → TurnsPhrase

-- ( "," Expr )*
pub data MoreValues : Type 0 where
  no_value : MoreValues
  more_value : (comma_at : ℕ) → ExprPhrase → MoreValues → MoreValues

abbrev pub value_count : MoreValues → ℕ
value_count no_value = 0
value_count (more_value p e vs) = suc (value_count vs)

-- Expr [ "," Expr [ "," Expr [ "," Expr ] ] ]
pub record ValuesPhrase : Type 0 where
  pub first : ExprPhrase
  pub more : MoreValues
  pub few : value_count more ≤ 3

mutual
  -- Stmt = "let" Name "=" Right ";" | Name "=" Right ";" | Do ";" | "if" Cond Block Else
  --      | "repeat" Turns Block | "reply" Values ";"
  pub data StmtPhrase : Type 0 where
    let_stmt : (at : ℕ) → NamePhrase → (assign_at : ℕ) → RightPhrase → (end_at : ℕ) → StmtPhrase
    assign_stmt : NamePhrase → (assign_at : ℕ) → RightPhrase → (end_at : ℕ) → StmtPhrase
    call_stmt : CallPhrase → (end_at : ℕ) → StmtPhrase
    if_stmt : (at : ℕ) → CondPhrase → BlockPhrase → ElsePhrase → StmtPhrase
    repeat_stmt : (at : ℕ) → TurnsPhrase → BlockPhrase → StmtPhrase
    reply_stmt : (at : ℕ) → ValuesPhrase → (end_at : ℕ) → StmtPhrase

  -- Else = [ "else" Block ]
  pub data ElsePhrase : Type 0 where
    no_else : ElsePhrase
    an_else : (at : ℕ) → BlockPhrase → ElsePhrase

  -- Stmt*
  pub data StmtsPhrase : Type 0 where
    no_stmt : StmtsPhrase
    more_stmts : StmtPhrase → StmtsPhrase → StmtsPhrase

  -- Block = "{" Stmt* "}"
  pub data BlockPhrase : Type 0 where
    block : (at : ℕ) → StmtsPhrase → (close_at : ℕ) → BlockPhrase

-- ( "," Name )*
pub data MoreParams : Type 0 where
  no_more : MoreParams
  more_param : (comma_at : ℕ) → NamePhrase → MoreParams → MoreParams

-- Name ( "," Name )*
pub record SomeParams : Type 0 where
  pub first : NamePhrase
  pub more : MoreParams

-- [ Name ( "," Name )* ]
pub data ParamsPhrase : Type 0 where
  no_param : ParamsPhrase
  some_params : SomeParams → ParamsPhrase

-- Handler = "handler" Name "(" Params ")" Block
pub data HandlerPhrase : Type 0 where
  a_handler : (at : ℕ) → NamePhrase → (left_at : ℕ) → ParamsPhrase → (right_at : ℕ) → BlockPhrase
      → HandlerPhrase

-- Handler*
pub data HandlersPhrase : Type 0 where
  no_handler : HandlersPhrase
  more_handlers : HandlerPhrase → HandlersPhrase → HandlersPhrase

-- Table = ( "map" | "set" ) Name ";"
pub data TablePhrase : Type 0 where
  a_table : TableKind → (at : ℕ) → NamePhrase → (end_at : ℕ) → TablePhrase

-- Table*
pub data TablesPhrase : Type 0 where
  no_table : TablesPhrase
  more_tables : TablePhrase → TablesPhrase → TablesPhrase

-- File = Table* Handler*
pub data FilePhrase : Type 0 where
  a_file : TablesPhrase → HandlersPhrase → FilePhrase

-- ---- the words of a phrase, and then the rest

abbrev pub word : Sort → ℕ → Word
word s at = record { sort = s; at = at }

-- a name
abbrev pub name_words : NamePhrase → List Word → List Word
name_words (named n p) rest = word (sort.Name n) p ∷ rest

-- one given word
abbrev pub mark_words : Sort → ℕ → List Word → List Word
mark_words s p rest = word s p ∷ rest

-- a number
abbrev pub number_words : NumberPhrase → List Word → List Word
number_words (digits v p) rest = word (sort.Number v) p ∷ rest

-- a value that stands alone
abbrev pub atom_words : AtomPhrase → List Word → List Word
atom_words (name_atom n p) rest = word (sort.Name n) p ∷ rest
atom_words (nil_atom p) rest = word sort.Nil p ∷ rest
atom_words (symbol_atom n p) rest = word (sort.Symbol n) p ∷ rest
atom_words (number_atom d) rest = number_words d rest
atom_words (negative_atom p d) rest = word sort.Minus p ∷ number_words d rest

abbrev mutual
  pub factor_words : FactorPhrase → List Word → List Word
  factor_words (plain a) rest = atom_words a rest
  factor_words (grouped p e q) rest = word sort.LeftParen p ∷ expr_words e
      (word sort.RightParen q ∷ rest)

  pub factors_words : MoreFactors → List Word → List Word
  factors_words no_factor rest = rest
  factors_words (times p f fs) rest = word sort.Times p ∷ factor_words f (factors_words fs rest)

  pub term_words : TermPhrase → List Word → List Word
  term_words (term f fs) rest = factor_words f (factors_words fs rest)

  pub terms_words : MoreTerms → List Word → List Word
  terms_words no_term rest = rest
  terms_words (plus p t ts) rest = word sort.Plus p ∷ term_words t (terms_words ts rest)
  terms_words (minus p t ts) rest = word sort.Minus p ∷ term_words t (terms_words ts rest)

  pub expr_words : ExprPhrase → List Word → List Word
  expr_words (sum t ts) rest = term_words t (terms_words ts rest)

abbrev pub atoms_words : MoreAtoms → List Word → List Word
atoms_words no_atom rest = rest
atoms_words (more_atom p a xs) rest = word sort.Comma p ∷ atom_words a (atoms_words xs rest)

-- the arguments behind an operation's table
abbrev pub arguments_words : ArgumentsPhrase → List Word → List Word
arguments_words xs rest = atoms_words xs.atoms rest

-- what stands behind the word of an operation
abbrev pub operands_words : OperandsPhrase → List Word → List Word
operands_words (operands l t xs r) rest = word sort.LeftParen l ∷ name_words t
    (arguments_words xs (word sort.RightParen r ∷ rest))

abbrev pub call_words : CallPhrase → List Word → List Word
call_words (a_call k p o) rest = word (sort.Do k) p ∷ operands_words o rest

-- what stands behind `=`
abbrev pub right_words : RightPhrase → List Word → List Word
right_words (result_right c) rest = call_words c rest
right_words (plain_right e) rest = expr_words e rest

-- a comparison's sign, with its place
abbrev pub compare_words : Compare × ℕ → List Word → List Word
compare_words c rest = word (sort.Compare c.0) c.1 ∷ rest

-- two expressions with a comparison between them
abbrev pub cond_words : CondPhrase → List Word → List Word
cond_words (a_cond a c p b) rest = expr_words a (word (sort.Compare c) p ∷ expr_words b rest)

-- what stands between `repeat` and its block
abbrev pub turns_words : TurnsPhrase → List Word → List Word
turns_words (a_turns d a n) rest = number_words d (word sort.As a ∷ name_words n rest)

abbrev pub more_words : MoreValues → List Word → List Word
more_words no_value rest = rest
more_words (more_value p e vs) rest = word sort.Comma p ∷ expr_words e (more_words vs rest)

-- the values of a reply
abbrev pub values_words : ValuesPhrase → List Word → List Word
values_words v rest = expr_words v.first (more_words v.more rest)

abbrev mutual
  pub stmt_words : StmtPhrase → List Word → List Word
  stmt_words (let_stmt p n a r e) rest = word sort.Let p ∷ name_words n
      (word sort.Assign a ∷ right_words r (word sort.Semicolon e ∷ rest))
  stmt_words (assign_stmt n a r e) rest = name_words n
      (word sort.Assign a ∷ right_words r (word sort.Semicolon e ∷ rest))
  stmt_words (call_stmt c e) rest = call_words c (word sort.Semicolon e ∷ rest)
  stmt_words (if_stmt p c b e) rest = word sort.If p ∷ cond_words c
      (block_words b (else_words e rest))
  stmt_words (repeat_stmt p t b) rest = word sort.Repeat p ∷ turns_words t (block_words b rest)
  stmt_words (reply_stmt p v e) rest = word sort.Reply p ∷ values_words v
      (word sort.Semicolon e ∷ rest)

  pub else_words : ElsePhrase → List Word → List Word
  else_words no_else rest = rest
  else_words (an_else p b) rest = word sort.Else p ∷ block_words b rest

  pub stmts_words : StmtsPhrase → List Word → List Word
  stmts_words no_stmt rest = rest
  stmts_words (more_stmts s ss) rest = stmt_words s (stmts_words ss rest)

  pub block_words : BlockPhrase → List Word → List Word
  block_words (block p ss q) rest = word sort.LeftBrace p ∷ stmts_words ss
      (word sort.RightBrace q ∷ rest)

abbrev pub more_params_words : MoreParams → List Word → List Word
more_params_words no_more rest = rest
more_params_words (more_param p n ns) rest = word sort.Comma p ∷ name_words n
    (more_params_words ns rest)

-- a parameter, and those behind it
abbrev pub some_params_words : SomeParams → List Word → List Word
some_params_words ps rest = name_words ps.first (more_params_words ps.more rest)

-- the parameters of a handler
abbrev pub params_words : ParamsPhrase → List Word → List Word
params_words no_param rest = rest
params_words (some_params ps) rest = some_params_words ps rest

-- a handler
abbrev pub handler_words : HandlerPhrase → List Word → List Word
handler_words (a_handler p n l ps r b) rest = word sort.Handler p ∷ name_words n
    (word sort.LeftParen l ∷ params_words ps (word sort.RightParen r ∷ block_words b rest))

-- handlers
abbrev pub handlers_words : HandlersPhrase → List Word → List Word
handlers_words no_handler rest = rest
handlers_words (more_handlers h hs) rest = handler_words h (handlers_words hs rest)

-- a table
abbrev pub table_words : TablePhrase → List Word → List Word
table_words (a_table k p n e) rest = word (sort.Table k) p ∷ name_words n
    (word sort.Semicolon e ∷ rest)

-- tables
abbrev pub tables_words : TablesPhrase → List Word → List Word
tables_words no_table rest = rest
tables_words (more_tables t ts) rest = table_words t (tables_words ts rest)

-- the words of a file, followed by the rest
abbrev pub file_words : FilePhrase → List Word → List Word
file_words (a_file ts hs) rest = tables_words ts (handlers_words hs rest)
