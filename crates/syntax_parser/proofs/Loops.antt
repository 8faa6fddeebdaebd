-- What the loops of the parser keep: phrases with one more at their end.
use Rattle.std.proofs.Common.{◌≡◌, ◌≤◌, ◌<◌, ◌+◌, ◌-◌, ℕ, suc, List, ◌∷◌, [], ◌++◌, length, drop, refl, ap, ◌∙◌, subst, arith}
use Rattle.syntax_grammar.specs.Words.{first_word}
use Rattle.syntax_trees.specs.declared.expr.Atom.{Atom}
use Rattle.syntax_grammar.specs.declared.word.Word.{Word}
use Rattle.syntax_grammar.specs.declared.word.Sort.TheVariants as sort
use Rattle.syntax_trees.specs.declared.expr.Expr.{Expr}
use Rattle.syntax_parser.specs.declared.input.Input.{Input}
use Rattle.syntax_grammar.specs.Next.{Anywhere, Opened, an_atom, more_arguments, expression, more_values, operand, more_factors, more_terms}
use Rattle.syntax_grammar.specs.Phrase.{word, AtomPhrase, atom_words, MoreAtoms, no_atom, more_atom, atom_count, atoms_words, ExprPhrase, expr_words, MoreValues, no_value, more_value, value_count, more_words, FactorPhrase, MoreFactors, TermPhrase, MoreTerms, factor_words, factors_words, term_words, terms_words}
use Rattle.syntax_grammar.specs.Tree.{atom_tree, atoms_trees, expr_tree, more_trees, factor_tree, factors_tree, term_tree, terms_tree}
use Rattle.syntax_parser.specs.Reads.{NamesStay, Passed}
use Rattle.syntax_parser.proofs.Steps.{took_seen, passed_then, passed_one}

-- ---- the factors of a term

pub record FactorsSoFar (opened : ℕ) (start now : Input) (left : Expr) : Type 0 where
  pub first : FactorPhrase
  pub more : MoreFactors
  pub read : start.reader.words ≡ factor_words first (factors_words more now.reader.words)
  pub value : left ≡ factors_tree more (factor_tree first)
  pub passed : Passed (Opened opened) (operand ∷ more_factors ∷ []) (more_factors ∷ []) start now
  pub kept : NamesStay start.reader now.reader

-- ---- the terms of an expression

pub record TermsSoFar (opened : ℕ) (start now : Input) (left : Expr) : Type 0 where
  pub first : TermPhrase
  pub more : MoreTerms
  pub read : start.reader.words ≡ term_words first (terms_words more now.reader.words)
  pub value : left ≡ terms_tree more (term_tree first)
  pub passed : Passed (Opened opened) (operand ∷ more_factors ∷ more_terms ∷ []) (more_terms ∷ []) start now
  pub kept : NamesStay start.reader now.reader

-- ---- the arguments of an operation

pub record ArgumentsSoFar (turn : ℕ) (start now : Input) (items : List Atom) : Type 0 where
  pub so_far : MoreAtoms
  pub read : start.reader.words ≡ atoms_words so_far now.reader.words
  pub few : atom_count so_far ≡ turn
  pub value : items ≡ atoms_trees so_far
  pub long : length items ≡ turn
  pub passed : Passed Anywhere (more_arguments 2 ∷ []) (more_arguments (2 - turn) ∷ []) start now
  pub kept : NamesStay start.reader now.reader

pub and_atom : MoreAtoms → ℕ → AtomPhrase → MoreAtoms
and_atom no_atom p a = more_atom p a no_atom
and_atom (more_atom q b bs) p a = more_atom q b (and_atom bs p a)

pub and_atom-words : (bs : MoreAtoms) (p : ℕ) (a : AtomPhrase) (rest : List Word) → atoms_words (and_atom bs p a) rest ≡ atoms_words bs (word sort.Comma p ∷ atom_words a rest)
unfolding and_atom
and_atom-words no_atom p a rest = refl
and_atom-words (more_atom q b bs) p a rest = ap (λ l. word sort.Comma q ∷ atom_words b l) (and_atom-words bs p a rest)

pub and_atom-trees : (bs : MoreAtoms) (p : ℕ) (a : AtomPhrase) → atoms_trees (and_atom bs p a) ≡ atoms_trees bs ++ atom_tree a ∷ []
unfolding and_atom
and_atom-trees no_atom p a = refl
and_atom-trees (more_atom q b bs) p a = ap (λ l. atom_tree b ∷ l) (and_atom-trees bs p a)

pub and_atom-count : (bs : MoreAtoms) (p : ℕ) (a : AtomPhrase) → atom_count (and_atom bs p a) ≡ atom_count bs + 1
unfolding and_atom
and_atom-count no_atom p a = refl
and_atom-count (more_atom q b bs) p a = let e = and_atom-count bs p a in omega (arith, e)

-- a comma was taken, where another argument may follow
pub argument_step : (turn : ℕ) (start a b d : Input) (items : List Atom) (w : Word) → ArgumentsSoFar turn start a items → turn < 2 → w ≡ first_word a.reader.end a.reader.words → b.reader.words ≡ a.reader.words → b.reader.end ≡ a.reader.end → b.signs ≡ a.signs → w.sort ≡ sort.Comma → d.reader.words ≡ drop 1 b.reader.words → d.reader.end ≡ b.reader.end → d.signs ≡ b.signs → (a.reader.words ≡ word sort.Comma w.at ∷ d.reader.words) × Passed Anywhere (more_arguments 2 ∷ []) (an_atom ∷ more_arguments (2 - (turn + 1)) ∷ []) start d
argument_step turn start a b d items w so_far few e k f n q h g m =
    let next = 2 - (turn + 1) in
    let left : 2 - turn ≡ suc (2 - (turn + 1)) = omega (arith, few) in
    let comma = took_seen a b d w sort.Comma e k q (λ x. cc) h in (
      comma,
      passed_then (subst (λ i. Passed Anywhere (more_arguments 2 ∷ []) (more_arguments i ∷ []) start a) left so_far.passed)
          (passed_one _ _ _ (more_arguments (suc next)) (an_atom ∷ more_arguments next ∷ []) _ comma (g ∙ f) (m ∙ n) refl (λ under x. refl)),
    )

-- ---- the values of a reply

pub record ValuesSoFar (turn : ℕ) (start now : Input) (items : List Expr) : Type 0 where
  pub first : ExprPhrase
  pub more : MoreValues
  pub read : start.reader.words ≡ expr_words first (more_words more now.reader.words)
  pub few : value_count more ≡ turn
  pub value : items ≡ expr_tree first ∷ more_trees more
  pub long : length items ≡ turn + 1
  pub passed : Passed (Opened 0) (expression ∷ more_values 3 ∷ []) (more_values (3 - turn) ∷ []) start now
  pub kept : NamesStay start.reader now.reader

pub and_value : MoreValues → ℕ → ExprPhrase → MoreValues
and_value no_value p a = more_value p a no_value
and_value (more_value q b vs) p a = more_value q b (and_value vs p a)

pub and_value-words : (vs : MoreValues) (p : ℕ) (a : ExprPhrase) (rest : List Word) → more_words (and_value vs p a) rest ≡ more_words vs (word sort.Comma p ∷ expr_words a rest)
unfolding and_value
and_value-words no_value p a rest = refl
and_value-words (more_value q b vs) p a rest = ap (λ l. word sort.Comma q ∷ expr_words b l) (and_value-words vs p a rest)

pub and_value-trees : (vs : MoreValues) (p : ℕ) (a : ExprPhrase) → more_trees (and_value vs p a) ≡ more_trees vs ++ expr_tree a ∷ []
unfolding and_value
and_value-trees no_value p a = refl
and_value-trees (more_value q b vs) p a = ap (λ l. expr_tree b ∷ l) (and_value-trees vs p a)

pub and_value-count : (vs : MoreValues) (p : ℕ) (a : ExprPhrase) → value_count (and_value vs p a) ≡ value_count vs + 1
unfolding and_value
and_value-count no_value p a = refl
and_value-count (more_value q b vs) p a = let e = and_value-count vs p a in omega (arith, e)

-- a comma was taken behind a value, where another may follow
pub value_step : (turn : ℕ) (start a b d : Input) (items : List Expr) (w : Word) → ValuesSoFar turn start a items → turn < 3 → w ≡ first_word a.reader.end a.reader.words → b.reader.words ≡ a.reader.words → b.reader.end ≡ a.reader.end → b.signs ≡ a.signs → w.sort ≡ sort.Comma → d.reader.words ≡ drop 1 b.reader.words → d.reader.end ≡ b.reader.end → d.signs ≡ b.signs → (a.reader.words ≡ word sort.Comma w.at ∷ d.reader.words) × Passed (Opened 0) (expression ∷ more_values 3 ∷ []) (expression ∷ more_values (3 - (turn + 1)) ∷ []) start d
value_step turn start a b d items w so_far few e k f n q h g m =
    let next = 3 - (turn + 1) in
    let left : 3 - turn ≡ suc (3 - (turn + 1)) = omega (arith, few) in
    let comma = took_seen a b d w sort.Comma e k q (λ x. cc) h in (
      comma,
      passed_then (subst (λ i. Passed (Opened 0) (expression ∷ more_values 3 ∷ []) (more_values i ∷ []) start a) left so_far.passed)
          (passed_one _ _ _ (more_values (suc next)) (expression ∷ more_values next ∷ []) _ comma (g ∙ f) (m ∙ n) refl (λ under x. refl)),
    )
