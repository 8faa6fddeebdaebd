-- The limits of a file, on its phrase.
use Rattle.std.specs.Prelude.{◌≡◌, ℕ, ◌+◌, ◌<◌, ◌≤◌, List, []}
use Rattle.session_values.specs.Limits.{max_open, max_signs, max_depth}
use Rattle.syntax_grammar.specs.declared.word.Word.{Word}
use Rattle.syntax_trees.specs.declared.file.File.{File}
use Rattle.syntax_grammar.specs.Bounds.{max_number, max_negative}
use Rattle.syntax_grammar.specs.Phrase.{NumberPhrase, digits, AtomPhrase, number_atom, negative_atom, FactorPhrase, plain, grouped, MoreFactors, no_factor, times, TermPhrase, term, MoreTerms, no_term, plus, minus, ExprPhrase, sum, MoreAtoms, no_atom, more_atom, OperandsPhrase, operands, CallPhrase, a_call, RightPhrase, result_right, plain_right, CondPhrase, a_cond, TurnsPhrase, a_turns, MoreValues, no_value, more_value, ValuesPhrase, StmtPhrase, let_stmt, assign_stmt, call_stmt, if_stmt, repeat_stmt, reply_stmt, ElsePhrase, no_else, an_else, StmtsPhrase, no_stmt, more_stmts, BlockPhrase, block, HandlersPhrase, no_handler, more_handlers, a_handler, FilePhrase, a_file, file_words}
use Rattle.syntax_grammar.specs.Tree.{file_tree}

-- a number is at most so large
abbrev pub NumberFits : ℕ → NumberPhrase → Type 0
NumberFits limit (digits v p) = v ≤ limit

abbrev pub AtomFits : AtomPhrase → Type 0
AtomFits (number_atom d) = NumberFits max_number d
AtomFits (negative_atom p d) = NumberFits max_negative d
AtomFits _ = Unit {0}

-- how many operator signs a phrase has
abbrev mutual
  pub factor_signs : FactorPhrase → ℕ
  factor_signs (plain a) = 0
  factor_signs (grouped p e q) = expr_signs e

  pub factors_signs : MoreFactors → ℕ
  factors_signs no_factor = 0
  factors_signs (times p f fs) = 1 + factor_signs f + factors_signs fs

  pub term_signs : TermPhrase → ℕ
  term_signs (term f fs) = factor_signs f + factors_signs fs

  pub terms_signs : MoreTerms → ℕ
  terms_signs no_term = 0
  terms_signs (plus p t ts) = 1 + term_signs t + terms_signs ts
  terms_signs (minus p t ts) = 1 + term_signs t + terms_signs ts

  pub expr_signs : ExprPhrase → ℕ
  expr_signs (sum t ts) = term_signs t + terms_signs ts

-- numbers fit, and parentheses nest within the limit, where so many are open already
abbrev mutual
  pub FactorFits : FactorPhrase → ℕ → Type 0
  FactorFits (plain a) opened = AtomFits a
  FactorFits (grouped p e q) opened = (opened < max_open) × GroupFits e (opened + 1)

  pub FactorsFit : MoreFactors → ℕ → Type 0
  FactorsFit no_factor opened = Unit {0}
  FactorsFit (times p f fs) opened = FactorFits f opened × FactorsFit fs opened

  pub TermFits : TermPhrase → ℕ → Type 0
  TermFits (term f fs) opened = FactorFits f opened × FactorsFit fs opened

  pub TermsFit : MoreTerms → ℕ → Type 0
  TermsFit no_term opened = Unit {0}
  TermsFit (plus p t ts) opened = TermFits t opened × TermsFit ts opened
  TermsFit (minus p t ts) opened = TermFits t opened × TermsFit ts opened

  pub GroupFits : ExprPhrase → ℕ → Type 0
  GroupFits (sum t ts) opened = TermFits t opened × TermsFit ts opened

-- a whole expression, which isn't inside another
abbrev pub ExprFits : ExprPhrase → Type 0
ExprFits e = GroupFits e 0 × (expr_signs e ≤ max_signs)

abbrev pub AtomsFit : MoreAtoms → Type 0
AtomsFit no_atom = Unit {0}
AtomsFit (more_atom p a xs) = AtomFits a × AtomsFit xs

abbrev pub OperandsFit : OperandsPhrase → Type 0
OperandsFit (operands l t xs r) = AtomsFit xs.atoms

abbrev pub CallFits : CallPhrase → Type 0
CallFits (a_call k p o) = OperandsFit o

abbrev pub RightFits : RightPhrase → Type 0
RightFits (result_right c) = CallFits c
RightFits (plain_right e) = ExprFits e

abbrev pub CondFits : CondPhrase → Type 0
CondFits (a_cond a c p b) = ExprFits a × ExprFits b

abbrev pub TurnsFit : TurnsPhrase → Type 0
TurnsFit (a_turns d a n) = NumberFits max_number d

abbrev pub MoreFit : MoreValues → Type 0
MoreFit no_value = Unit {0}
MoreFit (more_value p e vs) = ExprFits e × MoreFit vs

abbrev pub ValuesFit : ValuesPhrase → Type 0
ValuesFit v = ExprFits v.first × MoreFit v.more

-- the same of statements and blocks inside so many blocks
abbrev mutual
  pub StmtFits : StmtPhrase → ℕ → Type 0
  StmtFits (let_stmt p n a r e) depth = RightFits r
  StmtFits (assign_stmt n a r e) depth = RightFits r
  StmtFits (call_stmt c e) depth = CallFits c
  StmtFits (if_stmt p c b e) depth = CondFits c × BlockFits b depth × ElseFits e depth
  StmtFits (repeat_stmt p t b) depth = TurnsFit t × BlockFits b depth
  StmtFits (reply_stmt p v e) depth = ValuesFit v

  pub ElseFits : ElsePhrase → ℕ → Type 0
  ElseFits no_else depth = Unit {0}
  ElseFits (an_else p b) depth = BlockFits b depth

  pub StmtsFit : StmtsPhrase → ℕ → Type 0
  StmtsFit no_stmt depth = Unit {0}
  StmtsFit (more_stmts s ss) depth = StmtFits s depth × StmtsFit ss depth

  pub BlockFits : BlockPhrase → ℕ → Type 0
  BlockFits (block p ss q) depth = (depth < max_depth) × StmtsFit ss (depth + 1)

abbrev pub HandlersFit : HandlersPhrase → Type 0
HandlersFit no_handler = Unit {0}
HandlersFit (more_handlers (a_handler p n l ps r b) hs) = BlockFits b 0 × HandlersFit hs

-- a file is within the limits: each of its handlers is
abbrev pub FileFits : FilePhrase → Type 0
FileFits (a_file ts hs) = HandlersFit hs

-- the words are those of a file within the limits, with this tree
abbrev pub IsFileWithin : List Word → File → Type 0
IsFileWithin ws file = (p : FilePhrase) × (ws ≡ file_words p []) × (file ≡ file_tree p) × FileFits p
