-- The words that parts still to come may be written with, and what may come limits aside.
use Rattle.std.specs.Prelude.{◌≡◌, ◌≤◌, ℕ, List, [], ◌∷◌, ◌++◌, Option, Some, None}
use Rattle.syntax_grammar.specs.declared.word.Word.{Word}
use Rattle.syntax_grammar.specs.declared.word.Sort.TheVariants as sort
use Rattle.syntax_trees.specs.declared.stmt.Compare.{Compare}
use Rattle.syntax_grammar.specs.Next.{Part, Taken, taking, tables, handlers, first_param, more_params, a_block, statements, or_else, a_right, more_arguments, a_compare, a_count, more_values, expression, operand, more_factors, more_terms, closing, an_atom, after_minus, a_name, mark}
use Rattle.syntax_grammar.specs.Phrase.{word, NamePhrase, name_words, NumberPhrase, number_words, AtomPhrase, atom_words, FactorPhrase, factor_words, MoreFactors, factors_words, MoreTerms, terms_words, ExprPhrase, expr_words, MoreAtoms, atom_count, atoms_words, RightPhrase, right_words, compare_words, MoreValues, value_count, more_words, ElsePhrase, else_words, StmtsPhrase, stmts_words, BlockPhrase, block_words, MoreParams, more_params_words, ParamsPhrase, params_words, HandlersPhrase, handlers_words, TablesPhrase, tables_words}

-- words begin with a phrase of the part, and the rest follows it
abbrev pub Begins : Part → List Word → List Word → Type 0
Begins tables ws rest = (ts : TablesPhrase) × (ws ≡ tables_words ts rest)
Begins handlers ws rest = (hs : HandlersPhrase) × (ws ≡ handlers_words hs rest)
Begins first_param ws rest = (ps : ParamsPhrase) × (ws ≡ params_words ps rest)
Begins more_params ws rest = (ns : MoreParams) × (ws ≡ more_params_words ns rest)
Begins a_block ws rest = (b : BlockPhrase) × (ws ≡ block_words b rest)
Begins statements ws rest = (ss : StmtsPhrase) × (ws ≡ stmts_words ss rest)
Begins or_else ws rest = (e : ElsePhrase) × (ws ≡ else_words e rest)
Begins a_right ws rest = (r : RightPhrase) × (ws ≡ right_words r rest)
Begins (more_arguments n) ws rest = (xs : MoreAtoms) × (atom_count xs ≤ n) × (ws ≡ atoms_words xs rest)
Begins a_compare ws rest = (c : Compare × ℕ) × (ws ≡ compare_words c rest)
Begins a_count ws rest = (d : NumberPhrase) × (ws ≡ number_words d rest)
Begins (more_values n) ws rest = (vs : MoreValues) × (value_count vs ≤ n) × (ws ≡ more_words vs rest)
Begins expression ws rest = (e : ExprPhrase) × (ws ≡ expr_words e rest)
Begins operand ws rest = (f : FactorPhrase) × (ws ≡ factor_words f rest)
Begins more_factors ws rest = (fs : MoreFactors) × (ws ≡ factors_words fs rest)
Begins more_terms ws rest = (ts : MoreTerms) × (ws ≡ terms_words ts rest)
Begins closing ws rest = (at : ℕ) × (ws ≡ word sort.RightParen at ∷ rest)
Begins an_atom ws rest = (a : AtomPhrase) × (ws ≡ atom_words a rest)
Begins after_minus ws rest = (d : NumberPhrase) × (ws ≡ number_words d rest)
Begins a_name ws rest = (n : NamePhrase) × (ws ≡ name_words n rest)
Begins (mark t) ws rest = (at : ℕ) × (ws ≡ word t at ∷ rest)

abbrev pub Spells : List Part → List Word → Type 0
Spells [] ws = ws ≡ []
Spells (p ∷ ps) ws = (rest : List Word) × Begins p ws rest × Spells ps rest

-- what is still to come after words, limits aside; none where a word can't come
abbrev pub go_on_still : (List Part → Option (List Part)) → Option Taken → Option (List Part)
go_on_still rest None = None
go_on_still rest (Some t) = rest (t.left ++ t.under)

abbrev pub still : List Part → List Word → Option (List Part)
still ps [] = Some ps
still ps (w ∷ ws) = go_on_still (λ qs. still qs ws) (taking ps w.sort)
