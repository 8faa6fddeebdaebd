-- The words of an expression have one tree.
use Rattle.std.proofs.Common.{◌≡◌, ℕ, List, [], ◌∷◌, refl, sym, ap, ◌∙◌, subst}
use Rattle.syntax_grammar.specs.declared.word.Word.{Word}
use Rattle.syntax_grammar.specs.declared.word.Sort.TheVariants as sort
use Rattle.syntax_trees.specs.declared.expr.Expr.{Expr}
use Rattle.syntax_trees.specs.declared.expr.Expr.TheVariants as expr
use Rattle.syntax_trees.specs.declared.expr.Calc.TheVariants as calc
use Rattle.syntax_trees.specs.Alone.{alone}
use Rattle.syntax_grammar.specs.Phrase.{word, NamePhrase, named, name_words, digits, AtomPhrase, name_atom, nil_atom, symbol_atom, number_atom, negative_atom, atom_words, FactorPhrase, plain, grouped, factor_words, MoreFactors, no_factor, times, factors_words, TermPhrase, term, term_words, MoreTerms, no_term, plus, minus, terms_words, ExprPhrase, sum, expr_words}
use Rattle.syntax_grammar.specs.Tree.{name_of, atom_tree, factor_tree, factors_tree, term_tree, terms_tree, expr_tree}

-- one tree, and one rest
pub record Same {T : Type 0} (x y : T) (r s : List Word) : Type 0 where
  pub tree : x ≡ y
  pub rest : r ≡ s

pub tail : {v w : Word} {r s : List Word} → v ∷ r ≡ w ∷ s → r ≡ s
tail e = cc

pub head_sort : {v w : Word} {r s : List Word} → v ∷ r ≡ w ∷ s → v.sort ≡ w.sort
head_sort {v} {w} e = let h : v ≡ w = cc in ap (λ x. x.sort) h

pub head_at : {v w : Word} {r s : List Word} → v ∷ r ≡ w ∷ s → v.at ≡ w.at
head_at {v} {w} e = let h : v ≡ w = cc in ap (λ x. x.at) h

-- no operator sign comes first
abbrev pub NotTimes : List Word → Type 0
NotTimes [] = Unit {0}
NotTimes (w ∷ ws) = w.sort ≡ sort.Times → ⊥

abbrev pub NotSign : List Word → Type 0
NotSign [] = Unit {0}
NotSign (w ∷ ws) = (w.sort ≡ sort.Times → ⊥) × (w.sort ≡ sort.Plus → ⊥) × (w.sort ≡ sort.Minus → ⊥)

not_times : (ws : List Word) → NotSign ws → NotTimes ws
not_times [] h = tt
not_times (w ∷ ws) h = h.0

not_times_terms : (ts : MoreTerms) (ws : List Word) → NotSign ws → NotTimes (terms_words ts ws)
not_times_terms no_term ws h = not_times ws h
not_times_terms (plus p t ts) ws h = λ e. cc
not_times_terms (minus p t ts) ws h = λ e. cc

pub same_name : (m n : NamePhrase) (r s : List Word) → name_words m r ≡ name_words n s → Same (name_of m) (name_of n) r s
same_name (named x p) (named y q) r s e = record { tree = let a = head_sort e in let b = head_at e in let h : x ≡ y = cc in cc; rest = tail e }

pub same_atom : (a b : AtomPhrase) (r s : List Word) → atom_words a r ≡ atom_words b s → Same (atom_tree a) (atom_tree b) r s
same_atom (name_atom n p) (name_atom m q) r s e = record { tree = let a = head_sort e in let b = head_at e in cc; rest = tail e }
same_atom (nil_atom p) (nil_atom q) r s e = record { tree = refl; rest = tail e }
same_atom (symbol_atom n p) (symbol_atom m q) r s e = record { tree = let a = head_sort e in cc; rest = tail e }
same_atom (number_atom (digits n p)) (number_atom (digits m q)) r s e = record { tree = let a = head_sort e in cc; rest = tail e }
same_atom (negative_atom p (digits n q)) (negative_atom p' (digits m q')) r s e = record { tree = let a = head_sort (tail e) in cc; rest = tail (tail e) }
same_atom (number_atom (digits n p)) _ r s e = let h = head_sort e in cc
same_atom _ (number_atom (digits n p)) r s e = let h = head_sort e in cc
same_atom _ _ r s e = let h = head_sort e in cc

not_open : (a : AtomPhrase) (p : ℕ) (r s : List Word) → atom_words a r ≡ word sort.LeftParen p ∷ s → ⊥
not_open (name_atom n q) p r s e = let h = head_sort e in cc
not_open (nil_atom q) p r s e = let h = head_sort e in cc
not_open (symbol_atom n q) p r s e = let h = head_sort e in cc
not_open (number_atom (digits n q)) p r s e = let h = head_sort e in cc
not_open (negative_atom q d) p r s e = let h = head_sort e in cc

mutual
  same_factor : (f g : FactorPhrase) (r s : List Word) → factor_words f r ≡ factor_words g s → Same (factor_tree f) (factor_tree g) r s
  same_factor (plain a) (plain b) r s e = let h = same_atom a b r s e in record { tree = ap alone h.tree; rest = h.rest }
  same_factor (plain a) (grouped p t q) r s e = absurd (not_open a p r _ e)
  same_factor (grouped p t q) (plain b) r s e = absurd (not_open b p s _ (sym e))
  same_factor (grouped p t q) (grouped p' u q') r s e =
      let h = same_expr t u (word sort.RightParen q ∷ r) (word sort.RightParen q' ∷ s) ((λ e. cc), (λ e. cc), (λ e. cc)) ((λ e. cc), (λ e. cc), (λ e. cc)) (tail e) in
      record { tree = h.tree; rest = tail h.rest }

  same_factors : (fs gs : MoreFactors) (x y : Expr) (r s : List Word) → NotTimes r → NotTimes s → x ≡ y → factors_words fs r ≡ factors_words gs s → Same (factors_tree fs x) (factors_tree gs y) r s
  same_factors no_factor no_factor x y r s nr ns t e = record { tree = t; rest = e }
  same_factors no_factor (times p g gs) x y r s nr ns t e = absurd (subst NotTimes e nr refl)
  same_factors (times p f fs) no_factor x y r s nr ns t e = absurd (subst NotTimes (sym e) ns refl)
  same_factors (times p f fs) (times q g gs) x y r s nr ns t e =
      let h = same_factor f g (factors_words fs r) (factors_words gs s) (tail e) in
      same_factors fs gs _ _ r s nr ns (ap (λ l. expr.Binary calc.Times (l, factor_tree f)) t ∙ ap (λ z. expr.Binary calc.Times (y, z)) h.tree) h.rest

  same_term : (t u : TermPhrase) (r s : List Word) → NotTimes r → NotTimes s → term_words t r ≡ term_words u s → Same (term_tree t) (term_tree u) r s
  same_term (term f fs) (term g gs) r s nr ns e =
      let h = same_factor f g (factors_words fs r) (factors_words gs s) e in
      same_factors fs gs (factor_tree f) (factor_tree g) r s nr ns h.tree h.rest

  same_terms : (ts us : MoreTerms) (x y : Expr) (r s : List Word) → NotSign r → NotSign s → x ≡ y → terms_words ts r ≡ terms_words us s → Same (terms_tree ts x) (terms_tree us y) r s
  same_terms no_term no_term x y r s nr ns t e = record { tree = t; rest = e }
  same_terms no_term (plus q u us) x y r s nr ns t e = absurd ((subst NotSign e nr).1 refl)
  same_terms no_term (minus q u us) x y r s nr ns t e = absurd ((subst NotSign e nr).2 refl)
  same_terms (plus p t ts) no_term x y r s nr ns d e = absurd ((subst NotSign (sym e) ns).1 refl)
  same_terms (minus p t ts) no_term x y r s nr ns d e = absurd ((subst NotSign (sym e) ns).2 refl)
  same_terms (plus p t ts) (minus q u us) x y r s nr ns d e = let h = head_sort e in cc
  same_terms (minus p t ts) (plus q u us) x y r s nr ns d e = let h = head_sort e in cc
  same_terms (plus p t ts) (plus q u us) x y r s nr ns d e =
      let h = same_term t u (terms_words ts r) (terms_words us s) (not_times_terms ts r nr) (not_times_terms us s ns) (tail e) in
      same_terms ts us _ _ r s nr ns (ap (λ l. expr.Binary calc.Plus (l, term_tree t)) d ∙ ap (λ z. expr.Binary calc.Plus (y, z)) h.tree) h.rest
  same_terms (minus p t ts) (minus q u us) x y r s nr ns d e =
      let h = same_term t u (terms_words ts r) (terms_words us s) (not_times_terms ts r nr) (not_times_terms us s ns) (tail e) in
      same_terms ts us _ _ r s nr ns (ap (λ l. expr.Binary calc.Minus (l, term_tree t)) d ∙ ap (λ z. expr.Binary calc.Minus (y, z)) h.tree) h.rest

  pub same_expr : (a b : ExprPhrase) (r s : List Word) → NotSign r → NotSign s → expr_words a r ≡ expr_words b s → Same (expr_tree a) (expr_tree b) r s
  same_expr (sum t ts) (sum u us) r s nr ns e =
      let h = same_term t u (terms_words ts r) (terms_words us s) (not_times_terms ts r nr) (not_times_terms us s ns) e in
      same_terms ts us (term_tree t) (term_tree u) r s nr ns h.tree h.rest
