-- The canonical words of operations, right sides, conditions and replies are read again.
use Rattle.std.proofs.Common.{◌≡◌, ℕ, suc, ◌≤◌, List, ◌∷◌, map, refl, sym, ap, ◌∙◌, subst}
use Rattle.session_values.specs.declared.kind.Kind.{Kind}
use Rattle.syntax_grammar.specs.declared.word.Sort.TheVariants as sort
use Rattle.syntax_trees.specs.declared.expr.Atom.{Atom}
use Rattle.syntax_trees.specs.declared.expr.Expr.{Expr}
use Rattle.syntax_trees.specs.declared.stmt.Call.{Call}
use Rattle.syntax_trees.specs.declared.stmt.Compare.{Compare}
use Rattle.syntax_trees.specs.declared.stmt.Cond.{Cond}
use Rattle.syntax_trees.specs.declared.stmt.Right.TheVariants as right
use Rattle.syntax_grammar.specs.Phrase.{named, MoreAtoms, no_atom, more_atom, atom_count, ArgumentsPhrase, operands, CallPhrase, a_call, RightPhrase, result_right, plain_right, CondPhrase, a_cond, MoreValues, no_value, more_value, value_count, ValuesPhrase, atoms_words, arguments_words, call_words, right_words, cond_words, more_words, values_words}
use Rattle.syntax_grammar.specs.Tree.{atom_tree, atoms_trees, call_tree, right_tree, cond_tree, expr_tree, more_trees, values_trees}
use Rattle.syntax_grammar.specs.Limits.{AtomsFit, CallFits, RightFits, CondFits, MoreFit, ValuesFit}
use Rattle.syntax_printer.specs.CanonicalWords.{atom_sorts, further_sorts, listed_sorts, call_sorts, whole_sorts, right_sorts, cond_sorts}
use Rattle.handler_syntax.specs.SameTree.{atom_bare, expr_bare, call_bare, right_bare, cond_bare}
use Rattle.handler_syntax.proofs.Atoms.{atom_reads}
use Rattle.handler_syntax.proofs.Exprs.{whole_reads}
use Rattle.handler_syntax.proofs.Words.{Reads, mark, made, made_from, followed, empty}

-- ---- arguments

record AreAtoms (xs ys : MoreAtoms) : Type 0 where
  tree : map atom_bare (atoms_trees ys) ≡ map atom_bare (atoms_trees xs)
  count : atom_count ys ≡ atom_count xs
  fits : AtomsFit ys

atoms_read : (xs : MoreAtoms) → AtomsFit xs → Reads atoms_words (AreAtoms xs) (further_sorts (map atom_sorts (atoms_trees xs)))
atoms_read no_atom h = empty no_atom (λ rest. refl) (record { tree = refl; count = refl; fits = tt })
atoms_read (more_atom p a xs) h =
    made (followed (mark sort.Comma) (followed (atom_reads a h.0) (atoms_read xs h.1))) (λ x. more_atom x.0 x.1.0 x.1.1) (λ x rest. refl)
    (λ x g. record {
      tree = ap (λ y. y ∷ map atom_bare (atoms_trees x.1.1)) g.1.0.tree ∙ ap (λ l. atom_bare (atom_tree a) ∷ l) g.1.1.tree;
      count = ap suc g.1.1.count;
      fits = (g.1.0.fits, g.1.1.fits);
    })

record AreArguments (xs ys : ArgumentsPhrase) : Type 0 where
  tree : map atom_bare (atoms_trees ys.atoms) ≡ map atom_bare (atoms_trees xs.atoms)
  fits : AtomsFit ys.atoms

arguments_read : (xs : ArgumentsPhrase) → AtomsFit xs.atoms → Reads arguments_words (AreArguments xs) (further_sorts (map atom_sorts (atoms_trees xs.atoms)))
arguments_read xs h =
    made_from (atoms_read xs.atoms h) (λ ys g. record { atoms = ys; few = subst (λ n. n ≤ 2) (sym g.count) xs.few }) (λ ys g rest. refl) (λ ys g. record { tree = g.tree; fits = g.fits })

-- ---- operations

pub record IsCall (c d : CallPhrase) : Type 0 where
  pub tree : call_bare (call_tree d) ≡ call_bare (call_tree c)
  pub fits : CallFits d

bare_call : Kind → ℕ → List Atom → Call
bare_call k n args = record { kind = k; at = 0; table = n; table_at = 0; args = args }

pub call_reads : (c : CallPhrase) → CallFits c → Reads call_words (IsCall c) (call_sorts (call_tree c))
unfolding bare_call
call_reads (a_call k p (operands l (named n q) xs r)) h =
    made (followed (mark (sort.Do k)) (followed (mark sort.LeftParen) (followed (mark (sort.Name n)) (followed (arguments_read xs h) (mark sort.RightParen)))))
    (λ x. a_call k x.0 (operands x.1.0 (named n x.1.1.0) x.1.1.1.0 x.1.1.1.1)) (λ x rest. refl)
    (λ x g. record { tree = ap (bare_call k n) g.1.1.1.0.tree; fits = g.1.1.1.0.fits })

-- ---- right sides and conditions

pub record IsRight (r s : RightPhrase) : Type 0 where
  pub tree : right_bare (right_tree s) ≡ right_bare (right_tree r)
  pub fits : RightFits s

pub right_reads : (r : RightPhrase) → RightFits r → Reads right_words (IsRight r) (right_sorts (right_tree r))
right_reads (result_right c) h = made (call_reads c h) result_right (λ d rest. refl) (λ d g. record { tree = ap right.Result g.tree; fits = g.fits })
right_reads (plain_right e) h = made (whole_reads e h) plain_right (λ x rest. refl) (λ x g. record { tree = ap right.Plain g.tree; fits = g.fits })

pub record IsCond (c d : CondPhrase) : Type 0 where
  pub tree : cond_bare (cond_tree d) ≡ cond_bare (cond_tree c)
  pub fits : CondFits d

bare_cond : Compare → Expr → Expr → Cond
bare_cond c a b = record { compare = c; left = a; right = b }

pub cond_reads : (c : CondPhrase) → CondFits c → Reads cond_words (IsCond c) (cond_sorts (cond_tree c))
unfolding bare_cond
cond_reads (a_cond a c p b) h =
    made (followed (whole_reads a h.0) (followed (mark (sort.Compare c)) (whole_reads b h.1))) (λ x. a_cond x.0 c x.1.0 x.1.1) (λ x rest. refl)
    (λ x g. record {
      tree = ap (λ y. bare_cond c y (expr_bare (expr_tree x.1.1))) g.0.tree ∙ ap (bare_cond c (expr_bare (expr_tree a))) g.1.1.tree;
      fits = (g.0.fits, g.1.1.fits);
    })

-- ---- the values of a reply

record AreMore (vs us : MoreValues) : Type 0 where
  tree : map expr_bare (more_trees us) ≡ map expr_bare (more_trees vs)
  count : value_count us ≡ value_count vs
  fits : MoreFit us

more_read : (vs : MoreValues) → MoreFit vs → Reads more_words (AreMore vs) (further_sorts (map whole_sorts (more_trees vs)))
more_read no_value h = empty no_value (λ rest. refl) (record { tree = refl; count = refl; fits = tt })
more_read (more_value p e vs) h =
    made (followed (mark sort.Comma) (followed (whole_reads e h.0) (more_read vs h.1))) (λ x. more_value x.0 x.1.0 x.1.1) (λ x rest. refl)
    (λ x g. record {
      tree = ap (λ y. y ∷ map expr_bare (more_trees x.1.1)) g.1.0.tree ∙ ap (λ l. expr_bare (expr_tree e) ∷ l) g.1.1.tree;
      count = ap suc g.1.1.count;
      fits = (g.1.0.fits, g.1.1.fits);
    })

pub record AreValues (v u : ValuesPhrase) : Type 0 where
  pub tree : map expr_bare (values_trees u) ≡ map expr_bare (values_trees v)
  pub fits : ValuesFit u

pub values_read : (v : ValuesPhrase) → ValuesFit v → Reads values_words (AreValues v) (listed_sorts (map whole_sorts (values_trees v)))
values_read v h =
    made_from (followed (whole_reads v.first h.0) (more_read v.more h.1)) (λ x g. record { first = x.0; more = x.1; few = subst (λ n. n ≤ 3) (sym g.1.count) v.few }) (λ x g rest. refl)
    (λ x g. record {
      tree = ap (λ y. y ∷ map expr_bare (more_trees x.1)) g.0.tree ∙ ap (λ l. expr_bare (expr_tree v.first) ∷ l) g.1.tree;
      fits = (g.0.fits, g.1.fits);
    })
