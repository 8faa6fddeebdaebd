-- The canonical words of an expression are read again.
use Rattle.std.proofs.Common.{◌≡◌, ℕ, ◌+◌, ◌<◌, ◌≤◌, List, ◌∷◌, refl, sym, ap, ◌∙◌, subst, arith}
use Rattle.session_values.specs.Limits.{max_open}
use Rattle.syntax_grammar.specs.declared.word.Sort.{Sort}
use Rattle.syntax_grammar.specs.declared.word.Sort.TheVariants as sort
use Rattle.syntax_trees.specs.declared.expr.Calc.{Calc}
use Rattle.syntax_trees.specs.declared.expr.Calc.TheVariants as calc
use Rattle.syntax_trees.specs.declared.expr.Expr.{Expr}
use Rattle.syntax_trees.specs.declared.expr.Expr.TheVariants as expr
use Rattle.syntax_trees.specs.Alone.{alone}
use Rattle.syntax_grammar.specs.Phrase.{AtomPhrase, FactorPhrase, plain, grouped, MoreFactors, no_factor, times, TermPhrase, term, MoreTerms, no_term, plus, minus, ExprPhrase, sum, factor_words, term_words, expr_words}
use Rattle.syntax_grammar.specs.Tree.{atom_tree, factor_tree, factors_tree, term_tree, terms_tree, expr_tree}
use Rattle.syntax_grammar.specs.Limits.{AtomFits, factor_signs, factors_signs, term_signs, terms_signs, expr_signs, FactorFits, FactorsFit, TermFits, TermsFit, GroupFits, ExprFits}
use Rattle.syntax_printer.specs.declared.expr.Level.{Level}
use Rattle.syntax_printer.specs.declared.expr.Level.TheVariants as level
use Rattle.syntax_printer.specs.CanonicalWords.{expr_sorts, whole_sorts}
use Rattle.syntax_printer.proofs.Inductions.{sorts_leaf, sorts_binary}
use Rattle.handler_syntax.specs.SameTree.{expr_bare}
use Rattle.handler_syntax.proofs.Atoms.{atom_reads}
use Rattle.handler_syntax.proofs.Bare.{bare_leaf, bare_binary}
use Rattle.handler_syntax.proofs.Longer.{with_factor, with_factor-words, with_factor-tree, with_factor-fits, with_factor-signs, with_plus, with_plus-words, with_plus-tree, with_plus-fits, with_plus-signs, with_minus, with_minus-words, with_minus-tree, with_minus-fits, with_minus-signs, term_eased, group_eased}
use Rattle.handler_syntax.proofs.Words.{Reads, mark, made, followed, weaker, sorted}

-- ---- phrases of a tree, places aside, where so many parentheses are open, with so many operator signs

record IsFactor (e : Expr) (opened signs : ℕ) (f : FactorPhrase) : Type 0 where
  tree : expr_bare (factor_tree f) ≡ expr_bare e
  fits : FactorFits f opened
  counted : factor_signs f ≡ signs

record IsTerm (e : Expr) (opened signs : ℕ) (t : TermPhrase) : Type 0 where
  tree : expr_bare (term_tree t) ≡ expr_bare e
  fits : TermFits t opened
  counted : term_signs t ≡ signs

record IsExpr (e : Expr) (opened signs : ℕ) (x : ExprPhrase) : Type 0 where
  tree : expr_bare (expr_tree x) ≡ expr_bare e
  fits : GroupFits x opened
  counted : expr_signs x ≡ signs

abbrev ReadsFactor : Expr → ℕ → ℕ → (List Sort → List Sort) → Type 0
ReadsFactor e opened signs S = Reads factor_words (IsFactor e opened signs) S

abbrev ReadsTerm : Expr → ℕ → ℕ → (List Sort → List Sort) → Type 0
ReadsTerm e opened signs S = Reads term_words (IsTerm e opened signs) S

abbrev ReadsExpr : Expr → ℕ → ℕ → (List Sort → List Sort) → Type 0
ReadsExpr e opened signs S = Reads expr_words (IsExpr e opened signs) S

-- ---- a factor is a term, and a term is an expression

term_of : (e : Expr) (o k : ℕ) (S : List Sort → List Sort) → ReadsFactor e o k S → ReadsTerm e o k S
term_of e o k S r = made r (λ f. term f no_factor) (λ f rest. refl) (λ f g. record { tree = g.tree; fits = (g.fits, tt); counted = omega (arith, g.counted) })

expr_of : (e : Expr) (o k : ℕ) (S : List Sort → List Sort) → ReadsTerm e o k S → ReadsExpr e o k S
expr_of e o k S r = made r (λ t. sum t no_term) (λ t rest. refl) (λ t g. record { tree = g.tree; fits = (g.fits, tt); counted = omega (arith, g.counted) })

-- in parentheses an expression is a factor
in_parentheses : (e : Expr) (o k : ℕ) (S : List Sort → List Sort) → o < max_open → ReadsExpr e (o + 1) k S → ReadsFactor e o k (λ ss. sort.LeftParen ∷ S (sort.RightParen ∷ ss))
in_parentheses e o k S room r =
    made (followed (mark sort.LeftParen) (followed r (mark sort.RightParen))) (λ x. grouped x.0 x.1.0 x.1.1) (λ x rest. refl)
    (λ x g. record { tree = g.1.0.tree; fits = (room, g.1.0.fits); counted = g.1.0.counted })

-- fewer parentheses may be open
term_with_fewer : (e : Expr) (n o k : ℕ) (S : List Sort → List Sort) → n ≤ o → ReadsTerm e o k S → ReadsTerm e n k S
term_with_fewer e n o k S l r = weaker r (λ t g. record { tree = g.tree; fits = term_eased t n o l g.fits; counted = g.counted })

expr_with_fewer : (e : Expr) (n o k : ℕ) (S : List Sort → List Sort) → n ≤ o → ReadsExpr e o k S → ReadsExpr e n k S
expr_with_fewer e n o k S l r = weaker r (λ x g. record { tree = g.tree; fits = group_eased x n o l g.fits; counted = g.counted })

-- ---- what is known of a tree's words at each level

record Levels (e : Expr) (opened signs : ℕ) : Type 0 where
  whole : ReadsExpr e opened signs (expr_sorts e level.Whole)
  term : ReadsTerm e opened signs (expr_sorts e level.Term)
  factor : ReadsFactor e opened signs (expr_sorts e level.Factor)

-- of an expression: inside parentheses it may stand at any level
record Whole (e : Expr) (opened signs : ℕ) : Type 0 where
  whole : ReadsExpr e opened signs (expr_sorts e level.Whole)
  inside : (n : ℕ) → n < opened → n < max_open → Levels e n signs

-- of a term
record AsTerm (e : Expr) (opened signs : ℕ) : Type 0 where
  term : ReadsTerm e opened signs (expr_sorts e level.Term)
  as_whole : Whole e opened signs

-- of a factor
record AsFactor (e : Expr) (opened signs : ℕ) : Type 0 where
  factor : ReadsFactor e opened signs (expr_sorts e level.Factor)
  as_term : AsTerm e opened signs

-- ---- atoms

module _ (a : AtomPhrase) (fits : AtomFits a) where
  abbrev leaf : Expr
  leaf = alone (atom_tree a)

  leaf_factor : (o : ℕ) (l : Level) → ReadsFactor leaf o 0 (expr_sorts leaf l)
  leaf_factor o l =
      sorted (sorts_leaf (atom_tree a) l) (made (atom_reads a fits) plain (λ b rest. refl)
      (λ b g. record { tree = bare_leaf (atom_tree b) ∙ ap alone g.tree ∙ sym (bare_leaf (atom_tree a)); fits = g.fits; counted = refl }))

  leaf_levels : (o : ℕ) → Levels leaf o 0
  leaf_levels o = record {
    whole = expr_of leaf o 0 (expr_sorts leaf level.Whole) (term_of leaf o 0 (expr_sorts leaf level.Whole) (leaf_factor o level.Whole));
    term = term_of leaf o 0 (expr_sorts leaf level.Term) (leaf_factor o level.Term);
    factor = leaf_factor o level.Factor;
  }

  leaf_reads : (o : ℕ) → AsFactor leaf o 0
  leaf_reads o =
      let l = leaf_levels o in
      record { factor = l.factor; as_term = record { term = l.term; as_whole = record { whole = l.whole; inside = λ n below room. leaf_levels n } } }

-- ---- operators

same_operands : (c : Calc) (x y l r : Expr) → expr_bare x ≡ expr_bare l → expr_bare y ≡ expr_bare r → expr_bare (expr.Binary c (x, y)) ≡ expr_bare (expr.Binary c (l, r))
same_operands c x y l r e f = bare_binary c x y ∙ ap (λ z. expr.Binary c (z, expr_bare y)) e ∙ ap (λ z. expr.Binary c (expr_bare l, z)) f ∙ sym (bare_binary c l r)

module _ (l r : Expr) (o j k : ℕ) (left : AsTerm l o j) (right : ReadsFactor r o k (expr_sorts r level.Factor)) where
  abbrev product : Expr
  product = expr.Binary calc.Times (l, r)

  abbrev product_sorts : List Sort → List Sort
  product_sorts ss = expr_sorts l level.Term (sort.Times ∷ expr_sorts r level.Factor ss)

  product_bare : ReadsTerm product o (j + (1 + k)) product_sorts
  product_bare = made (followed left.term (followed (mark sort.Times) right)) (λ x. with_factor x.0 x.1.0 x.1.1) (λ x rest. with_factor-words x.0 x.1.0 x.1.1 rest)
      (λ x g. record {
        tree = ap expr_bare (with_factor-tree x.0 x.1.0 x.1.1) ∙ same_operands calc.Times (term_tree x.0) (factor_tree x.1.1) l r g.0.tree g.1.1.tree;
        fits = with_factor-fits x.0 x.1.0 x.1.1 o g.0.fits g.1.1.fits;
        counted = with_factor-signs x.0 x.1.0 x.1.1 ∙ ap (λ n. n + (1 + factor_signs x.1.1)) g.0.counted ∙ ap (λ n. j + (1 + n)) g.1.1.counted;
      })

  product_whole : ReadsExpr product o (j + (1 + k)) (expr_sorts product level.Whole)
  product_whole = sorted (sorts_binary calc.Times l r level.Whole) (expr_of product o (j + (1 + k)) product_sorts product_bare)

  product_term : ReadsTerm product o (j + (1 + k)) (expr_sorts product level.Term)
  product_term = sorted (sorts_binary calc.Times l r level.Term) product_bare

  product_inside : (n : ℕ) → n < o → n < max_open → Levels product n (j + (1 + k))
  product_inside n below room = record {
    whole = expr_with_fewer product n o (j + (1 + k)) (expr_sorts product level.Whole) (omega (arith, below)) product_whole;
    term = term_with_fewer product n o (j + (1 + k)) (expr_sorts product level.Term) (omega (arith, below)) product_term;
    factor = sorted (sorts_binary calc.Times l r level.Factor) (in_parentheses product n (j + (1 + k)) product_sorts room (expr_with_fewer product (n + 1) o (j + (1 + k)) product_sorts (omega (arith, below)) (expr_of product o (j + (1 + k)) product_sorts product_bare)));
  }

  product_reads : AsTerm product o (j + (1 + k))
  product_reads = record { term = product_term; as_whole = record { whole = product_whole; inside = product_inside } }

-- of a sum or a difference, by its words with no parentheses
sum_inside : (c : Calc) (l r : Expr) (o k : ℕ) (S : List Sort → List Sort) → ((ss : List Sort) → expr_sorts (expr.Binary c (l, r)) level.Whole ss ≡ S ss) → ((ss : List Sort) → expr_sorts (expr.Binary c (l, r)) level.Term ss ≡ sort.LeftParen ∷ S (sort.RightParen ∷ ss))
    → ((ss : List Sort) → expr_sorts (expr.Binary c (l, r)) level.Factor ss ≡ sort.LeftParen ∷ S (sort.RightParen ∷ ss)) → ReadsExpr (expr.Binary c (l, r)) o k S → Whole (expr.Binary c (l, r)) o k
sum_inside c l r o k S at_whole at_term at_factor bare = record {
  whole = sorted at_whole bare;
  inside = λ n below room.
      let e = expr.Binary c (l, r) in
      let factor = in_parentheses e n k S room (expr_with_fewer e (n + 1) o k S (omega (arith, below)) bare) in
      record {
        whole = sorted at_whole (expr_with_fewer e n o k S (omega (arith, below)) bare);
        term = sorted at_term (term_of e n k (λ ss. sort.LeftParen ∷ S (sort.RightParen ∷ ss)) factor);
        factor = sorted at_factor factor;
      };
}

plus_reads : (l r : Expr) (o j k : ℕ) → Whole l o j → ReadsTerm r o k (expr_sorts r level.Term) → Whole (expr.Binary calc.Plus (l, r)) o (j + (1 + k))
plus_reads l r o j k left right =
    sum_inside calc.Plus l r o (j + (1 + k)) (λ ss. expr_sorts l level.Whole (sort.Plus ∷ expr_sorts r level.Term ss)) (sorts_binary calc.Plus l r level.Whole) (sorts_binary calc.Plus l r level.Term) (sorts_binary calc.Plus l r level.Factor)
    (made (followed left.whole (followed (mark sort.Plus) right)) (λ x. with_plus x.0 x.1.0 x.1.1) (λ x rest. with_plus-words x.0 x.1.0 x.1.1 rest)
    (λ x g. record {
      tree = ap expr_bare (with_plus-tree x.0 x.1.0 x.1.1) ∙ same_operands calc.Plus (expr_tree x.0) (term_tree x.1.1) l r g.0.tree g.1.1.tree;
      fits = with_plus-fits x.0 x.1.0 x.1.1 o g.0.fits g.1.1.fits;
      counted = with_plus-signs x.0 x.1.0 x.1.1 ∙ ap (λ n. n + (1 + term_signs x.1.1)) g.0.counted ∙ ap (λ n. j + (1 + n)) g.1.1.counted;
    }))

minus_reads : (l r : Expr) (o j k : ℕ) → Whole l o j → ReadsTerm r o k (expr_sorts r level.Term) → Whole (expr.Binary calc.Minus (l, r)) o (j + (1 + k))
minus_reads l r o j k left right =
    sum_inside calc.Minus l r o (j + (1 + k)) (λ ss. expr_sorts l level.Whole (sort.Minus ∷ expr_sorts r level.Term ss)) (sorts_binary calc.Minus l r level.Whole) (sorts_binary calc.Minus l r level.Term) (sorts_binary calc.Minus l r level.Factor)
    (made (followed left.whole (followed (mark sort.Minus) right)) (λ x. with_minus x.0 x.1.0 x.1.1) (λ x rest. with_minus-words x.0 x.1.0 x.1.1 rest)
    (λ x g. record {
      tree = ap expr_bare (with_minus-tree x.0 x.1.0 x.1.1) ∙ same_operands calc.Minus (expr_tree x.0) (term_tree x.1.1) l r g.0.tree g.1.1.tree;
      fits = with_minus-fits x.0 x.1.0 x.1.1 o g.0.fits g.1.1.fits;
      counted = with_minus-signs x.0 x.1.0 x.1.1 ∙ ap (λ n. n + (1 + term_signs x.1.1)) g.0.counted ∙ ap (λ n. j + (1 + n)) g.1.1.counted;
    }))

-- ---- phrases

term_counted : (e : Expr) (o : ℕ) {j k : ℕ} → j ≡ k → AsTerm e o j → AsTerm e o k
term_counted e o same r = subst (AsTerm e o) same r

whole_counted : (e : Expr) (o : ℕ) {j k : ℕ} → j ≡ k → Whole e o j → Whole e o k
whole_counted e o same r = subst (Whole e o) same r

mutual
  factor_reads : (f : FactorPhrase) (o : ℕ) → FactorFits f o → AsFactor (factor_tree f) o (factor_signs f)
  factor_reads (plain a) o h = leaf_reads a h o
  factor_reads (grouped p e q) o h =
      let r = expr_reads e (o + 1) h.1 in
      let here = r.inside o (omega arith) h.0 in
      record { factor = here.factor; as_term = record { term = here.term; as_whole = record { whole = here.whole; inside = λ n below room. r.inside n (omega (arith, below)) room } } }

  factors_read : (fs : MoreFactors) (left : Expr) (o j : ℕ) → FactorsFit fs o → AsTerm left o j → AsTerm (factors_tree fs left) o (j + factors_signs fs)
  factors_read no_factor left o j h r = term_counted left o (omega arith) r
  factors_read (times p f fs) left o j h r =
      let e = expr.Binary calc.Times (left, factor_tree f) in
      term_counted (factors_tree fs e) o (omega arith) (factors_read fs e o (j + (1 + factor_signs f)) h.1 (product_reads left (factor_tree f) o j (factor_signs f) r (factor_reads f o h.0).factor))

  term_reads : (t : TermPhrase) (o : ℕ) → TermFits t o → AsTerm (term_tree t) o (term_signs t)
  term_reads (term f fs) o h = factors_read fs (factor_tree f) o (factor_signs f) h.1 (factor_reads f o h.0).as_term

  terms_read : (ts : MoreTerms) (left : Expr) (o j : ℕ) → TermsFit ts o → Whole left o j → Whole (terms_tree ts left) o (j + terms_signs ts)
  terms_read no_term left o j h r = whole_counted left o (omega arith) r
  terms_read (plus p t ts) left o j h r =
      let e = expr.Binary calc.Plus (left, term_tree t) in
      whole_counted (terms_tree ts e) o (omega arith) (terms_read ts e o (j + (1 + term_signs t)) h.1 (plus_reads left (term_tree t) o j (term_signs t) r (term_reads t o h.0).term))
  terms_read (minus p t ts) left o j h r =
      let e = expr.Binary calc.Minus (left, term_tree t) in
      whole_counted (terms_tree ts e) o (omega arith) (terms_read ts e o (j + (1 + term_signs t)) h.1 (minus_reads left (term_tree t) o j (term_signs t) r (term_reads t o h.0).term))

  expr_reads : (e : ExprPhrase) (o : ℕ) → GroupFits e o → Whole (expr_tree e) o (expr_signs e)
  expr_reads (sum t ts) o h = terms_read ts (term_tree t) o (term_signs t) h.1 (term_reads t o h.0).as_whole

-- an expression within the limits, with the same tree as another's
pub record IsWhole (e x : ExprPhrase) : Type 0 where
  pub tree : expr_bare (expr_tree x) ≡ expr_bare (expr_tree e)
  pub fits : ExprFits x

pub whole_reads : (e : ExprPhrase) → ExprFits e → Reads expr_words (IsWhole e) (whole_sorts (expr_tree e))
whole_reads e h =
    let few = h.1 in
    weaker (expr_reads e 0 h.0).whole (λ x g. record { tree = g.tree; fits = (g.fits, omega (arith, few, g.counted)) })
