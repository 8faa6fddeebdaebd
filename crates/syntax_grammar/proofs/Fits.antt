-- An expression is passed with no fault exactly where it is within the limits.
use Rattle.std.proofs.Common.{◌≡◌, ◌≤◌, ◌<◌, ◌+◌, ℕ, Bool, true, false, nat_lt, nat_le, Option, None, List, ◌∷◌, refl, sym, ap, ◌∙◌, arith}
use Rattle.std.proofs.lemmas.Bool.{ltb-true, ltb-false, leb-true, leb-false}
use Rattle.session_values.specs.Limits.{max_open, max_signs}
use Rattle.syntax_grammar.specs.declared.word.Word.{Word}
use Rattle.syntax_grammar.specs.declared.word.Sort.TheVariants as sort
use Rattle.syntax_grammar.specs.declared.refusals.SyntaxRefusal.{SyntaxRefusal}
use Rattle.syntax_grammar.specs.Bounds.{Limit, number_size, open_parentheses, operator_signs, where_over, max_number, max_negative}
use Rattle.syntax_grammar.specs.Next.{Part, fault, go_on, open_in, expression, operand, more_factors, more_terms, closing, an_atom}
use Rattle.syntax_grammar.specs.Phrase.{word, digits, AtomPhrase, name_atom, nil_atom, symbol_atom, number_atom, negative_atom, atom_words, FactorPhrase, plain, grouped, factor_words, MoreFactors, no_factor, times, factors_words, TermPhrase, term, term_words, MoreTerms, no_term, plus, minus, terms_words, ExprPhrase, sum, expr_words}
use Rattle.syntax_grammar.specs.Limits.{AtomFits, factor_signs, factors_signs, term_signs, terms_signs, expr_signs, FactorFits, FactorsFit, TermFits, TermsFit, GroupFits, ExprFits}
use Rattle.syntax_grammar.proofs.Taken.{expression_same}

-- P holds, and the first fault is the one behind; or P doesn't, and there is a fault here
pub data Either (P : Type 0) (here behind : Option SyntaxRefusal) : Type 0 where
  passes : P → here ≡ behind → Either P here behind
  stops : (P → ⊥) → (here ≡ None → ⊥) → Either P here behind

pub either_then : {P Q : Type 0} {x y z : Option SyntaxRefusal} → Either P x y → (P → Either Q y z) → Either (P × Q) x z
either_then {P} {Q} {x} {y} {z} (passes p e) r = by (r p)
  where
    by : Either Q y z → Either (P × Q) x z
    by (passes q f) = passes (p, q) (e ∙ f)
    by (stops q f) = stops (λ h. q h.1) (λ g. f (sym e ∙ g))
either_then (stops p e) r = stops (λ h. p h.0) e

pub either_as : {P Q : Type 0} {x y z : Option SyntaxRefusal} → Either P x y → (P → Q) → (Q → P) → y ≡ z → Either Q x z
either_as (passes p e) f g h = passes (f p) (e ∙ h)
either_as (stops p e) f g h = stops (λ q. p (g q)) e

pub either_from : {P : Type 0} {w x y : Option SyntaxRefusal} → w ≡ x → Either P x y → Either P w y
either_from h (passes p e) = passes p (h ∙ e)
either_from h (stops p e) = stops p (λ g. e (sym h ∙ g))

pub number_fits : (limit v : ℕ) (w : Word) (behind : Option SyntaxRefusal) → Either (v ≤ limit) (go_on w (where_over number_size (nat_lt limit v)) behind) behind
number_fits limit v w behind = by (nat_lt limit v) refl
  where
    by : (b : Bool) → nat_lt limit v ≡ b → Either (v ≤ limit) (go_on w (where_over number_size b) behind) behind
    by true e = stops (λ h. let k = ltb-true limit v e in omega (arith, k, h)) (λ h. cc)
    by false e = passes (ltb-false limit v e) refl

pub limit_fits : (l : Limit) (most n : ℕ) (w : Word) (behind : Option SyntaxRefusal) → Either (n < most) (go_on w (where_over l (nat_le most n)) behind) behind
limit_fits l most n w behind = by (nat_le most n) refl
  where
    by : (b : Bool) → nat_le most n ≡ b → Either (n < most) (go_on w (where_over l b) behind) behind
    by true e = stops (λ h. let k = leb-true most n e in omega (arith, k, h)) (λ h. cc)
    by false e = passes (let k = leb-false most n e in omega (arith, k)) refl

module _ (end : ℕ) where
  counted : (ps : List Part) (ws : List Word) (m n : ℕ) → m ≡ n → fault end ps m ws ≡ fault end ps n ws
  counted ps ws m n e = ap (λ k. fault end ps k ws) e

  pub argument_fits : (a : AtomPhrase) (under : List Part) (n : ℕ) (rest : List Word) → Either (AtomFits a) (fault end (an_atom ∷ under) n (atom_words a rest)) (fault end under n rest)
  argument_fits (name_atom m p) under n rest = passes tt refl
  argument_fits (nil_atom p) under n rest = passes tt refl
  argument_fits (symbol_atom m p) under n rest = passes tt refl
  argument_fits (number_atom (digits v p)) under n rest = number_fits max_number v (word (sort.Number v) p) (fault end under n rest)
  argument_fits (negative_atom q (digits v p)) under n rest = number_fits max_negative v (word (sort.Number v) p) (fault end under n rest)

  atom_fits : (a : AtomPhrase) (under : List Part) (n : ℕ) (rest : List Word) → Either (AtomFits a) (fault end (operand ∷ under) n (atom_words a rest)) (fault end under n rest)
  atom_fits (name_atom m p) under n rest = passes tt refl
  atom_fits (nil_atom p) under n rest = passes tt refl
  atom_fits (symbol_atom m p) under n rest = passes tt refl
  atom_fits (number_atom (digits v p)) under n rest = number_fits max_number v (word (sort.Number v) p) (fault end under n rest)
  atom_fits (negative_atom q (digits v p)) under n rest = number_fits max_negative v (word (sort.Number v) p) (fault end under n rest)

  mutual
    factor_fits : (f : FactorPhrase) (under : List Part) (o n : ℕ) (rest : List Word) → open_in under ≡ o → n ≤ max_signs → Either (FactorFits f o × (n + factor_signs f ≤ max_signs)) (fault end (operand ∷ under) n (factor_words f rest)) (fault end under (n + factor_signs f) rest)
    factor_fits (plain a) under o n rest e s =
        either_as (atom_fits a under n rest) (λ h. (h, omega (arith, s))) (λ h. h.0) (counted under rest n (n + 0) (omega arith))
    factor_fits (grouped p t q) under o n rest e s =
        either_as
        (either_then (limit_fits open_parentheses max_open (open_in under) (word sort.LeftParen p) (fault end (operand ∷ more_factors ∷ more_terms ∷ closing ∷ under) n (expr_words t (word sort.RightParen q ∷ rest))))
        (λ h. expr_fits t (closing ∷ under) (o + 1) n (word sort.RightParen q ∷ rest) (omega (arith, e)) s))
        (λ h. ((omega (arith, h.0, e), h.1.0), h.1.1)) (λ h. (omega (arith, h.0.0, e), (h.0.1, h.1))) refl

    factors_fit : (fs : MoreFactors) (under : List Part) (o n : ℕ) (rest : List Word) → open_in under ≡ o → n ≤ max_signs → Either (FactorsFit fs o × (n + factors_signs fs ≤ max_signs)) (fault end (more_factors ∷ under) n (factors_words fs rest)) (fault end (more_factors ∷ under) (n + factors_signs fs) rest)
    factors_fit no_factor under o n rest e s = passes (tt, omega (arith, s)) (counted (more_factors ∷ under) rest n (n + 0) (omega arith))
    factors_fit (times p f fs) under o n rest e s =
        either_as
        (either_then (limit_fits operator_signs max_signs n (word sort.Times p) (fault end (operand ∷ more_factors ∷ under) (n + 1) (factor_words f (factors_words fs rest))))
        (λ h. either_then (factor_fits f (more_factors ∷ under) o (n + 1) (factors_words fs rest) e (omega (arith, h)))
        (λ k. factors_fit fs under o (n + 1 + factor_signs f) rest e k.1)))
        (λ h. ((h.1.0.0, h.1.1.0), omega (arith, h.1.1.1))) (λ h. (omega (arith, h.1), ((h.0.0, omega (arith, h.1)), (h.0.1, omega (arith, h.1)))))
        (counted (more_factors ∷ under) rest _ _ (omega arith))

    term_fits : (t : TermPhrase) (under : List Part) (o n : ℕ) (rest : List Word) → open_in under ≡ o → n ≤ max_signs → Either (TermFits t o × (n + term_signs t ≤ max_signs)) (fault end (operand ∷ more_factors ∷ under) n (term_words t rest)) (fault end (more_factors ∷ under) (n + term_signs t) rest)
    term_fits (term f fs) under o n rest e s =
        either_as
        (either_then (factor_fits f (more_factors ∷ under) o n (factors_words fs rest) e s)
        (λ k. factors_fit fs under o (n + factor_signs f) rest e k.1))
        (λ h. ((h.0.0, h.1.0), omega (arith, h.1.1))) (λ h. ((h.0.0, omega (arith, h.1)), (h.0.1, omega (arith, h.1))))
        (counted (more_factors ∷ under) rest _ _ (omega arith))

    terms_fit : (ts : MoreTerms) (under : List Part) (o n : ℕ) (rest : List Word) → open_in under ≡ o → n ≤ max_signs → Either (TermsFit ts o × (n + terms_signs ts ≤ max_signs)) (fault end (more_factors ∷ more_terms ∷ under) n (terms_words ts rest)) (fault end (more_factors ∷ more_terms ∷ under) (n + terms_signs ts) rest)
    terms_fit no_term under o n rest e s = passes (tt, omega (arith, s)) (counted (more_factors ∷ more_terms ∷ under) rest n (n + 0) (omega arith))
    terms_fit (plus p t ts) under o n rest e s =
        either_as
        (either_then (limit_fits operator_signs max_signs n (word sort.Plus p) (fault end (operand ∷ more_factors ∷ more_terms ∷ under) (n + 1) (term_words t (terms_words ts rest))))
        (λ h. either_then (term_fits t (more_terms ∷ under) o (n + 1) (terms_words ts rest) e (omega (arith, h)))
        (λ k. terms_fit ts under o (n + 1 + term_signs t) rest e k.1)))
        (λ h. ((h.1.0.0, h.1.1.0), omega (arith, h.1.1.1))) (λ h. (omega (arith, h.1), ((h.0.0, omega (arith, h.1)), (h.0.1, omega (arith, h.1)))))
        (counted (more_factors ∷ more_terms ∷ under) rest _ _ (omega arith))
    terms_fit (minus p t ts) under o n rest e s =
        either_as
        (either_then (limit_fits operator_signs max_signs n (word sort.Minus p) (fault end (operand ∷ more_factors ∷ more_terms ∷ under) (n + 1) (term_words t (terms_words ts rest))))
        (λ h. either_then (term_fits t (more_terms ∷ under) o (n + 1) (terms_words ts rest) e (omega (arith, h)))
        (λ k. terms_fit ts under o (n + 1 + term_signs t) rest e k.1)))
        (λ h. ((h.1.0.0, h.1.1.0), omega (arith, h.1.1.1))) (λ h. (omega (arith, h.1), ((h.0.0, omega (arith, h.1)), (h.0.1, omega (arith, h.1)))))
        (counted (more_factors ∷ more_terms ∷ under) rest _ _ (omega arith))

    expr_fits : (e : ExprPhrase) (under : List Part) (o n : ℕ) (rest : List Word) → open_in under ≡ o → n ≤ max_signs → Either (GroupFits e o × (n + expr_signs e ≤ max_signs)) (fault end (operand ∷ more_factors ∷ more_terms ∷ under) n (expr_words e rest)) (fault end (more_factors ∷ more_terms ∷ under) (n + expr_signs e) rest)
    expr_fits (sum t ts) under o n rest e s =
        either_as
        (either_then (term_fits t (more_terms ∷ under) o n (terms_words ts rest) e s)
        (λ k. terms_fit ts under o (n + term_signs t) rest e k.1))
        (λ h. ((h.0.0, h.1.0), omega (arith, h.1.1))) (λ h. ((h.0.0, omega (arith, h.1)), (h.0.1, omega (arith, h.1))))
        (counted (more_factors ∷ more_terms ∷ under) rest _ _ (omega arith))

  -- a whole expression
  pub expression_fits : (e : ExprPhrase) (under : List Part) (n : ℕ) (rest : List Word) → open_in under ≡ 0 → Either (ExprFits e) (fault end (expression ∷ under) n (expr_words e rest)) (fault end (more_factors ∷ more_terms ∷ under) (expr_signs e) rest)
  expression_fits e under n rest h =
      either_from (expression_same end under n (expr_words e rest))
      (either_as (expr_fits e under 0 0 rest h (omega arith)) (λ k. (k.0, omega (arith, k.1))) (λ k. (k.0, omega (arith, k.1))) (counted (more_factors ∷ more_terms ∷ under) rest (0 + expr_signs e) (expr_signs e) (omega arith)))
