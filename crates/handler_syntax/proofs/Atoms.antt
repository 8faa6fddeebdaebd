-- The words of an atom are read again.
use Rattle.std.proofs.Common.{◌≡◌, zero, suc, refl, arith}
use Rattle.syntax_grammar.specs.declared.word.Sort.TheVariants as sort
use Rattle.syntax_grammar.specs.Phrase.{AtomPhrase, name_atom, nil_atom, symbol_atom, number_atom, negative_atom, digits, atom_words}
use Rattle.syntax_grammar.specs.Tree.{atom_tree}
use Rattle.syntax_grammar.specs.Limits.{AtomFits}
use Rattle.syntax_printer.specs.CanonicalWords.{atom_sorts}
use Rattle.handler_syntax.specs.SameTree.{atom_bare}
use Rattle.handler_syntax.proofs.Words.{Reads, mark, made, followed}

-- an atom within the limits, with the same tree as another's
pub record IsAtom (a b : AtomPhrase) : Type 0 where
  pub tree : atom_bare (atom_tree b) ≡ atom_bare (atom_tree a)
  pub fits : AtomFits b

pub atom_reads : (a : AtomPhrase) → AtomFits a → Reads atom_words (IsAtom a) (atom_sorts (atom_tree a))
atom_reads (name_atom n p) h = made (mark (sort.Name n)) (name_atom n) (λ q rest. refl) (λ q g. record { tree = refl; fits = tt })
atom_reads (nil_atom p) h = made (mark sort.Nil) nil_atom (λ q rest. refl) (λ q g. record { tree = refl; fits = tt })
atom_reads (symbol_atom n p) h = made (mark (sort.Symbol n)) (symbol_atom n) (λ q rest. refl) (λ q g. record { tree = refl; fits = tt })
atom_reads (number_atom (digits v p)) h = made (mark (sort.Number v)) (λ q. number_atom (digits v q)) (λ q rest. refl) (λ q g. record { tree = refl; fits = h })
atom_reads (negative_atom p (digits zero q)) h = made (mark (sort.Number 0)) (λ q. number_atom (digits 0 q)) (λ q rest. refl) (λ q g. record { tree = refl; fits = omega arith })
atom_reads (negative_atom p (digits (suc v) q)) h =
    made (followed (mark sort.Minus) (mark (sort.Number (suc v)))) (λ x. negative_atom x.0 (digits (suc v) x.1)) (λ x rest. refl) (λ x g. record { tree = refl; fits = h })
