-- What fits with one more factor or one more term, and where fewer parentheses are open.
use Rattle.std.proofs.Common.{◌≡◌, ℕ, ◌+◌, ◌≤◌, List, ◌∷◌, refl, sym, ap, arith}
use Rattle.syntax_grammar.specs.declared.word.Sort.TheVariants as sort
use Rattle.syntax_grammar.specs.declared.word.Word.{Word}
use Rattle.syntax_trees.specs.declared.expr.Calc.TheVariants as calc
use Rattle.syntax_trees.specs.declared.expr.Expr.{Expr}
use Rattle.syntax_trees.specs.declared.expr.Expr.TheVariants as expr
use Rattle.syntax_grammar.specs.Phrase.{word, FactorPhrase, plain, grouped, MoreFactors, no_factor, times, TermPhrase, term, MoreTerms, no_term, plus, minus, ExprPhrase, sum, factor_words, factors_words, term_words, terms_words, expr_words}
use Rattle.syntax_grammar.specs.Tree.{factor_tree, factors_tree, term_tree, terms_tree, expr_tree}
use Rattle.syntax_grammar.specs.Limits.{factor_signs, factors_signs, term_signs, terms_signs, expr_signs, FactorFits, FactorsFit, TermFits, TermsFit, GroupFits}
use Rattle.syntax_grammar.proofs.OneMore.{and_factor, and_factor-words, and_factor-tree, and_plus, and_plus-words, and_plus-tree, and_minus, and_minus-words, and_minus-tree}

-- ---- one more factor

factors_within : (fs : MoreFactors) (p : ℕ) (g : FactorPhrase) (o : ℕ) → FactorsFit fs o → FactorFits g o → FactorsFit (and_factor fs p g) o
factors_within no_factor p g o h k = (k, tt)
factors_within (times q f fs) p g o h k = (h.0, factors_within fs p g o h.1 k)

factors_counted : (fs : MoreFactors) (p : ℕ) (g : FactorPhrase) → factors_signs (and_factor fs p g) ≡ factors_signs fs + (1 + factor_signs g)
factors_counted no_factor p g = omega arith
factors_counted (times q f fs) p g = omega (arith, factors_counted fs p g)

abbrev pub with_factor : TermPhrase → ℕ → FactorPhrase → TermPhrase
with_factor (term f fs) p g = term f (and_factor fs p g)

pub with_factor-words : (t : TermPhrase) (p : ℕ) (g : FactorPhrase) (rest : List Word) → term_words t (word sort.Times p ∷ factor_words g rest) ≡ term_words (with_factor t p g) rest
with_factor-words (term f fs) p g rest = ap (factor_words f) (sym (and_factor-words fs p g rest))

pub with_factor-tree : (t : TermPhrase) (p : ℕ) (g : FactorPhrase) → term_tree (with_factor t p g) ≡ expr.Binary calc.Times (term_tree t, factor_tree g)
with_factor-tree (term f fs) p g = and_factor-tree fs p g (factor_tree f)

pub with_factor-fits : (t : TermPhrase) (p : ℕ) (g : FactorPhrase) (o : ℕ) → TermFits t o → FactorFits g o → TermFits (with_factor t p g) o
with_factor-fits (term f fs) p g o h k = (h.0, factors_within fs p g o h.1 k)

pub with_factor-signs : (t : TermPhrase) (p : ℕ) (g : FactorPhrase) → term_signs (with_factor t p g) ≡ term_signs t + (1 + factor_signs g)
with_factor-signs (term f fs) p g = omega (arith, factors_counted fs p g)

-- ---- one more term, added or taken off

plus_within : (ts : MoreTerms) (p : ℕ) (t : TermPhrase) (o : ℕ) → TermsFit ts o → TermFits t o → TermsFit (and_plus ts p t) o
plus_within no_term p t o h k = (k, tt)
plus_within (plus q s ts) p t o h k = (h.0, plus_within ts p t o h.1 k)
plus_within (minus q s ts) p t o h k = (h.0, plus_within ts p t o h.1 k)

plus_counted : (ts : MoreTerms) (p : ℕ) (t : TermPhrase) → terms_signs (and_plus ts p t) ≡ terms_signs ts + (1 + term_signs t)
plus_counted no_term p t = omega arith
plus_counted (plus q s ts) p t = omega (arith, plus_counted ts p t)
plus_counted (minus q s ts) p t = omega (arith, plus_counted ts p t)

abbrev pub with_plus : ExprPhrase → ℕ → TermPhrase → ExprPhrase
with_plus (sum s ts) p t = sum s (and_plus ts p t)

pub with_plus-words : (e : ExprPhrase) (p : ℕ) (t : TermPhrase) (rest : List Word) → expr_words e (word sort.Plus p ∷ term_words t rest) ≡ expr_words (with_plus e p t) rest
with_plus-words (sum s ts) p t rest = ap (term_words s) (sym (and_plus-words ts p t rest))

pub with_plus-tree : (e : ExprPhrase) (p : ℕ) (t : TermPhrase) → expr_tree (with_plus e p t) ≡ expr.Binary calc.Plus (expr_tree e, term_tree t)
with_plus-tree (sum s ts) p t = and_plus-tree ts p t (term_tree s)

pub with_plus-fits : (e : ExprPhrase) (p : ℕ) (t : TermPhrase) (o : ℕ) → GroupFits e o → TermFits t o → GroupFits (with_plus e p t) o
with_plus-fits (sum s ts) p t o h k = (h.0, plus_within ts p t o h.1 k)

pub with_plus-signs : (e : ExprPhrase) (p : ℕ) (t : TermPhrase) → expr_signs (with_plus e p t) ≡ expr_signs e + (1 + term_signs t)
with_plus-signs (sum s ts) p t = omega (arith, plus_counted ts p t)

minus_within : (ts : MoreTerms) (p : ℕ) (t : TermPhrase) (o : ℕ) → TermsFit ts o → TermFits t o → TermsFit (and_minus ts p t) o
minus_within no_term p t o h k = (k, tt)
minus_within (plus q s ts) p t o h k = (h.0, minus_within ts p t o h.1 k)
minus_within (minus q s ts) p t o h k = (h.0, minus_within ts p t o h.1 k)

minus_counted : (ts : MoreTerms) (p : ℕ) (t : TermPhrase) → terms_signs (and_minus ts p t) ≡ terms_signs ts + (1 + term_signs t)
minus_counted no_term p t = omega arith
minus_counted (plus q s ts) p t = omega (arith, minus_counted ts p t)
minus_counted (minus q s ts) p t = omega (arith, minus_counted ts p t)

abbrev pub with_minus : ExprPhrase → ℕ → TermPhrase → ExprPhrase
with_minus (sum s ts) p t = sum s (and_minus ts p t)

pub with_minus-words : (e : ExprPhrase) (p : ℕ) (t : TermPhrase) (rest : List Word) → expr_words e (word sort.Minus p ∷ term_words t rest) ≡ expr_words (with_minus e p t) rest
with_minus-words (sum s ts) p t rest = ap (term_words s) (sym (and_minus-words ts p t rest))

pub with_minus-tree : (e : ExprPhrase) (p : ℕ) (t : TermPhrase) → expr_tree (with_minus e p t) ≡ expr.Binary calc.Minus (expr_tree e, term_tree t)
with_minus-tree (sum s ts) p t = and_minus-tree ts p t (term_tree s)

pub with_minus-fits : (e : ExprPhrase) (p : ℕ) (t : TermPhrase) (o : ℕ) → GroupFits e o → TermFits t o → GroupFits (with_minus e p t) o
with_minus-fits (sum s ts) p t o h k = (h.0, minus_within ts p t o h.1 k)

pub with_minus-signs : (e : ExprPhrase) (p : ℕ) (t : TermPhrase) → expr_signs (with_minus e p t) ≡ expr_signs e + (1 + term_signs t)
with_minus-signs (sum s ts) p t = omega (arith, minus_counted ts p t)

-- ---- what fits where more parentheses are open fits where fewer are

mutual
  pub factor_eased : (f : FactorPhrase) (n o : ℕ) → n ≤ o → FactorFits f o → FactorFits f n
  factor_eased (plain a) n o l h = h
  factor_eased (grouped p e q) n o l h = let k = h.0 in (omega (arith, l, k), group_eased e (n + 1) (o + 1) (omega (arith, l)) h.1)

  pub factors_eased : (fs : MoreFactors) (n o : ℕ) → n ≤ o → FactorsFit fs o → FactorsFit fs n
  factors_eased no_factor n o l h = tt
  factors_eased (times p f fs) n o l h = (factor_eased f n o l h.0, factors_eased fs n o l h.1)

  pub term_eased : (t : TermPhrase) (n o : ℕ) → n ≤ o → TermFits t o → TermFits t n
  term_eased (term f fs) n o l h = (factor_eased f n o l h.0, factors_eased fs n o l h.1)

  pub terms_eased : (ts : MoreTerms) (n o : ℕ) → n ≤ o → TermsFit ts o → TermsFit ts n
  terms_eased no_term n o l h = tt
  terms_eased (plus p t ts) n o l h = (term_eased t n o l h.0, terms_eased ts n o l h.1)
  terms_eased (minus p t ts) n o l h = (term_eased t n o l h.0, terms_eased ts n o l h.1)

  pub group_eased : (e : ExprPhrase) (n o : ℕ) → n ≤ o → GroupFits e o → GroupFits e n
  group_eased (sum t ts) n o l h = (term_eased t n o l h.0, terms_eased ts n o l h.1)
