-- What is written with the words of an expression or of an operation is taken, whatever follows.
use Rattle.std.proofs.Common.{◌≡◌, ◌≤◌, ℕ, zero, suc, List, ◌∷◌, ◌++◌, refl, ◌∙◌, arith}
use Rattle.syntax_grammar.specs.declared.word.Word.{Word}
use Rattle.syntax_grammar.specs.declared.word.Sort.TheVariants as sort
use Rattle.syntax_trees.specs.declared.stmt.Compare.{Compare}
use Rattle.syntax_grammar.specs.Next.{Part, a_right, more_arguments, a_compare, expression, operand, more_factors, more_terms, closing, mark, call_parts}
use Rattle.syntax_grammar.specs.Phrase.{word, named, digits, AtomPhrase, name_atom, nil_atom, symbol_atom, number_atom, negative_atom, atom_words, FactorPhrase, plain, grouped, factor_words, MoreFactors, no_factor, times, factors_words, TermPhrase, term, term_words, MoreTerms, no_term, plus, minus, terms_words, ExprPhrase, sum, expr_words, MoreAtoms, no_atom, more_atom, atom_count, atoms_words, OperandsPhrase, operands, operands_words, a_call, RightPhrase, result_right, plain_right, right_words, CondPhrase, a_cond, cond_words}
use Rattle.syntax_grammar.proofs.Spells.{still}

atom_taken : (a : AtomPhrase) (under : List Part) (rest : List Word) → still (operand ∷ under) (atom_words a rest) ≡ still under rest
atom_taken (name_atom n p) under rest = refl
atom_taken (nil_atom p) under rest = refl
atom_taken (symbol_atom n p) under rest = refl
atom_taken (number_atom (digits v p)) under rest = refl
atom_taken (negative_atom p (digits v q)) under rest = refl

mutual
  factor_taken : (f : FactorPhrase) (under : List Part) (rest : List Word) → still (operand ∷ under) (factor_words f rest) ≡ still under rest
  factor_taken (plain a) under rest = atom_taken a under rest
  factor_taken (grouped p e q) under rest = sum_taken e (closing ∷ under) (word sort.RightParen q ∷ rest)

  factors_taken : (fs : MoreFactors) (under : List Part) (rest : List Word) → still (more_factors ∷ under) (factors_words fs rest) ≡ still (more_factors ∷ under) rest
  factors_taken no_factor under rest = refl
  factors_taken (times p f fs) under rest = factor_taken f (more_factors ∷ under) (factors_words fs rest) ∙ factors_taken fs under rest

  term_taken : (t : TermPhrase) (under : List Part) (rest : List Word) → still (operand ∷ more_factors ∷ under) (term_words t rest) ≡ still (more_factors ∷ under) rest
  term_taken (term f fs) under rest = factor_taken f (more_factors ∷ under) (factors_words fs rest) ∙ factors_taken fs under rest

  terms_taken : (ts : MoreTerms) (under : List Part) (rest : List Word) → still (more_factors ∷ more_terms ∷ under) (terms_words ts rest) ≡ still (more_factors ∷ more_terms ∷ under) rest
  terms_taken no_term under rest = refl
  terms_taken (plus p t ts) under rest = term_taken t (more_terms ∷ under) (terms_words ts rest) ∙ terms_taken ts under rest
  terms_taken (minus p t ts) under rest = term_taken t (more_terms ∷ under) (terms_words ts rest) ∙ terms_taken ts under rest

  sum_taken : (e : ExprPhrase) (under : List Part) (rest : List Word) → still (operand ∷ more_factors ∷ more_terms ∷ under) (expr_words e rest) ≡ still (more_factors ∷ more_terms ∷ under) rest
  sum_taken (sum t ts) under rest = term_taken t (more_terms ∷ under) (terms_words ts rest) ∙ terms_taken ts under rest

-- a whole expression begins as an operand does
expression_begins : (e : ExprPhrase) (under : List Part) (rest : List Word) → still (expression ∷ under) (expr_words e rest) ≡ still (operand ∷ more_factors ∷ more_terms ∷ under) (expr_words e rest)
expression_begins (sum (term (plain (name_atom n p)) fs) ts) under rest = refl
expression_begins (sum (term (plain (nil_atom p)) fs) ts) under rest = refl
expression_begins (sum (term (plain (symbol_atom n p)) fs) ts) under rest = refl
expression_begins (sum (term (plain (number_atom (digits v p))) fs) ts) under rest = refl
expression_begins (sum (term (plain (negative_atom p d)) fs) ts) under rest = refl
expression_begins (sum (term (grouped p e q) fs) ts) under rest = refl

pub expression_taken : (e : ExprPhrase) (under : List Part) (rest : List Word) → still (expression ∷ under) (expr_words e rest) ≡ still (more_factors ∷ more_terms ∷ under) rest
expression_taken e under rest = expression_begins e under rest ∙ sum_taken e under rest

-- a right side that is an expression begins as one
plain_begins : (e : ExprPhrase) (under : List Part) (rest : List Word) → still (a_right ∷ under) (expr_words e rest) ≡ still (expression ∷ under) (expr_words e rest)
plain_begins (sum (term (plain (name_atom n p)) fs) ts) under rest = refl
plain_begins (sum (term (plain (nil_atom p)) fs) ts) under rest = refl
plain_begins (sum (term (plain (symbol_atom n p)) fs) ts) under rest = refl
plain_begins (sum (term (plain (number_atom (digits v p))) fs) ts) under rest = refl
plain_begins (sum (term (plain (negative_atom p d)) fs) ts) under rest = refl
plain_begins (sum (term (grouped p e q) fs) ts) under rest = refl

arguments_taken : (xs : MoreAtoms) (n q : ℕ) (under : List Part) (rest : List Word) → atom_count xs ≤ n → still (more_arguments n ∷ mark sort.RightParen ∷ under) (atoms_words xs (word sort.RightParen q ∷ rest)) ≡ still under rest
arguments_taken no_atom n q under rest h = no_comma n
  where
    no_comma : (n : ℕ) → still (more_arguments n ∷ mark sort.RightParen ∷ under) (word sort.RightParen q ∷ rest) ≡ still under rest
    no_comma zero = refl
    no_comma (suc n) = refl
arguments_taken (more_atom p a xs) zero q under rest h = absurd (omega (arith, h))
arguments_taken (more_atom p a xs) (suc n) q under rest h =
    argument a ∙ arguments_taken xs n q under rest (omega (arith, h))
  where
    argument : (a : AtomPhrase) → still (more_arguments (suc n) ∷ mark sort.RightParen ∷ under) (word sort.Comma p ∷ atom_words a (atoms_words xs (word sort.RightParen q ∷ rest))) ≡ still (more_arguments n ∷ mark sort.RightParen ∷ under) (atoms_words xs (word sort.RightParen q ∷ rest))
    argument (name_atom m r) = refl
    argument (nil_atom r) = refl
    argument (symbol_atom m r) = refl
    argument (number_atom (digits v r)) = refl
    argument (negative_atom r (digits v s)) = refl

pub operands_taken : (o : OperandsPhrase) (under : List Part) (rest : List Word) → still (call_parts ++ under) (operands_words o rest) ≡ still under rest
operands_taken (operands l (named n p) xs r) under rest = arguments_taken xs.atoms 2 r under rest xs.few

-- a right side, where a semicolon follows
pub right_taken : (r : RightPhrase) (q : ℕ) (under : List Part) (rest : List Word) → still (a_right ∷ mark sort.Semicolon ∷ under) (right_words r (word sort.Semicolon q ∷ rest)) ≡ still under rest
right_taken (result_right (a_call k p o)) q under rest = operands_taken o (mark sort.Semicolon ∷ under) (word sort.Semicolon q ∷ rest)
right_taken (plain_right e) q under rest =
    plain_begins e (mark sort.Semicolon ∷ under) (word sort.Semicolon q ∷ rest) ∙ expression_taken e (mark sort.Semicolon ∷ under) (word sort.Semicolon q ∷ rest)

-- a comparison's sign goes on with no operator
compare_taken : (c : Compare) (p : ℕ) (under : List Part) (rest : List Word) → still (more_factors ∷ more_terms ∷ a_compare ∷ under) (word (sort.Compare c) p ∷ rest) ≡ still under rest
compare_taken c p under rest = refl

pub cond_taken : (c : CondPhrase) (under : List Part) (rest : List Word) → still (expression ∷ a_compare ∷ expression ∷ under) (cond_words c rest) ≡ still (more_factors ∷ more_terms ∷ under) rest
cond_taken (a_cond a c p b) under rest =
    expression_taken a (a_compare ∷ expression ∷ under) (word (sort.Compare c) p ∷ expr_words b rest)
    ∙ compare_taken c p (expression ∷ under) (expr_words b rest)
    ∙ expression_taken b under rest
