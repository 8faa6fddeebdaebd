-- Terms with one more factor, and expressions with one more term.
use Rattle.std.proofs.Common.{◌≡◌, ℕ, List, ◌∷◌, refl, ap}
use Rattle.syntax_grammar.specs.declared.word.Word.{Word}
use Rattle.syntax_grammar.specs.declared.word.Sort.TheVariants as sort
use Rattle.syntax_trees.specs.declared.expr.Expr.{Expr}
use Rattle.syntax_trees.specs.declared.expr.Expr.TheVariants as expr
use Rattle.syntax_trees.specs.declared.expr.Calc.TheVariants as calc
use Rattle.syntax_grammar.specs.Phrase.{word, FactorPhrase, MoreFactors, no_factor, times, TermPhrase, MoreTerms, no_term, plus, minus, factor_words, factors_words, term_words, terms_words}
use Rattle.syntax_grammar.specs.Tree.{factor_tree, factors_tree, term_tree, terms_tree}

-- ---- one more factor

abbrev pub and_factor : MoreFactors → ℕ → FactorPhrase → MoreFactors
and_factor no_factor p g = times p g no_factor
and_factor (times q f fs) p g = times q f (and_factor fs p g)

pub and_factor-words : (fs : MoreFactors) (p : ℕ) (g : FactorPhrase) (rest : List Word) → factors_words (and_factor fs p g) rest ≡ factors_words fs (word sort.Times p ∷ factor_words g rest)
and_factor-words no_factor p g rest = refl
and_factor-words (times q f fs) p g rest = ap (λ l. word sort.Times q ∷ factor_words f l) (and_factor-words fs p g rest)

pub and_factor-tree : (fs : MoreFactors) (p : ℕ) (g : FactorPhrase) (left : Expr) → factors_tree (and_factor fs p g) left ≡ expr.Binary calc.Times (factors_tree fs left, factor_tree g)
and_factor-tree no_factor p g left = refl
and_factor-tree (times q f fs) p g left = and_factor-tree fs p g (expr.Binary calc.Times (left, factor_tree f))

-- ---- one more term, added or taken off

abbrev pub and_plus : MoreTerms → ℕ → TermPhrase → MoreTerms
and_plus no_term p t = plus p t no_term
and_plus (plus q s ts) p t = plus q s (and_plus ts p t)
and_plus (minus q s ts) p t = minus q s (and_plus ts p t)

abbrev pub and_minus : MoreTerms → ℕ → TermPhrase → MoreTerms
and_minus no_term p t = minus p t no_term
and_minus (plus q s ts) p t = plus q s (and_minus ts p t)
and_minus (minus q s ts) p t = minus q s (and_minus ts p t)

pub and_plus-words : (ts : MoreTerms) (p : ℕ) (t : TermPhrase) (rest : List Word) → terms_words (and_plus ts p t) rest ≡ terms_words ts (word sort.Plus p ∷ term_words t rest)
and_plus-words no_term p t rest = refl
and_plus-words (plus q s ts) p t rest = ap (λ l. word sort.Plus q ∷ term_words s l) (and_plus-words ts p t rest)
and_plus-words (minus q s ts) p t rest = ap (λ l. word sort.Minus q ∷ term_words s l) (and_plus-words ts p t rest)

pub and_minus-words : (ts : MoreTerms) (p : ℕ) (t : TermPhrase) (rest : List Word) → terms_words (and_minus ts p t) rest ≡ terms_words ts (word sort.Minus p ∷ term_words t rest)
and_minus-words no_term p t rest = refl
and_minus-words (plus q s ts) p t rest = ap (λ l. word sort.Plus q ∷ term_words s l) (and_minus-words ts p t rest)
and_minus-words (minus q s ts) p t rest = ap (λ l. word sort.Minus q ∷ term_words s l) (and_minus-words ts p t rest)

pub and_plus-tree : (ts : MoreTerms) (p : ℕ) (t : TermPhrase) (left : Expr) → terms_tree (and_plus ts p t) left ≡ expr.Binary calc.Plus (terms_tree ts left, term_tree t)
and_plus-tree no_term p t left = refl
and_plus-tree (plus q s ts) p t left = and_plus-tree ts p t (expr.Binary calc.Plus (left, term_tree s))
and_plus-tree (minus q s ts) p t left = and_plus-tree ts p t (expr.Binary calc.Minus (left, term_tree s))

pub and_minus-tree : (ts : MoreTerms) (p : ℕ) (t : TermPhrase) (left : Expr) → terms_tree (and_minus ts p t) left ≡ expr.Binary calc.Minus (terms_tree ts left, term_tree t)
and_minus-tree no_term p t left = refl
and_minus-tree (plus q s ts) p t left = and_minus-tree ts p t (expr.Binary calc.Plus (left, term_tree s))
and_minus-tree (minus q s ts) p t left = and_minus-tree ts p t (expr.Binary calc.Minus (left, term_tree s))
