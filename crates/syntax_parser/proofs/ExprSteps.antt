-- How an expression begins.
use Rattle.std.proofs.Common.{◌≡◌, ◌≤◌, ℕ, List, [], ◌∷◌, ◌++◌, Some, leb, refl, sym, ap, ◌∙◌, arith}
use Rattle.std.proofs.lemmas.Bool.{le-leb}
use Rattle.std.specs.Prelude.{Result, Ok, Err}
use Rattle.session_values.specs.Limits.{max_signs}
use Rattle.syntax_grammar.specs.declared.word.Word.{Word}
use Rattle.syntax_grammar.specs.declared.word.Sort.{Sort}
use Rattle.syntax_grammar.specs.declared.word.Sort.TheVariants as sort
use Rattle.syntax_grammar.specs.Words.{first_word}
use Rattle.syntax_trees.specs.declared.expr.Expr.{Expr}
use Rattle.syntax_parser.specs.declared.input.Input.{Input}
use Rattle.syntax_grammar.specs.declared.refusals.SyntaxRefusal.{SyntaxRefusal}
use Rattle.syntax_grammar.specs.declared.refusals.SyntaxRefusal.TheVariants.{TooDeep}
use Rattle.syntax_grammar.specs.Bounds.{operator_signs, where_over}
use Rattle.syntax_grammar.specs.Next.{Part, row, broken, Opened, expression, operand, more_factors, more_terms, an_atom, fault}
use Rattle.syntax_grammar.specs.Phrase.{word, expr_words}
use Rattle.syntax_grammar.specs.Tree.{expr_tree}
use Rattle.syntax_parser.specs.Reads.{Refused, Passed, Outcome}
use Rattle.syntax_grammar.proofs.Taken.{expression_same}
use Rattle.syntax_parser.proofs.Steps.{in_front, refused_is, refused_limit}

-- an operand that doesn't begin with a parenthesis is an atom
atom_start : (end : ℕ) (under : List Part) (n : ℕ) (s : Sort) (at : ℕ) (ws : List Word) → (s ≡ sort.LeftParen → ⊥) → fault end (operand ∷ under) n (word s at ∷ ws) ≡ fault end (an_atom ∷ under) n (word s at ∷ ws)
atom_start end under n sort.LeftParen at ws off = absurd (off refl)
atom_start end under n _ at ws off = refl

operand_same : (end : ℕ) (under : List Part) (n : ℕ) (ws : List Word) → ((first_word end ws).sort ≡ sort.LeftParen → ⊥) → fault end (operand ∷ under) n ws ≡ fault end (an_atom ∷ under) n ws
operand_same end under n [] off = refl
operand_same end under n (w ∷ ws) off = atom_start end under n w.sort w.at ws off

pub passed_atom : (U : List Part → Type 0) (ps qs : List Part) (a b : Input) → ((first_word a.reader.end a.reader.words).sort ≡ sort.LeftParen → ⊥) → Passed U (an_atom ∷ ps) qs a b → Passed U (operand ∷ ps) qs a b
passed_atom U ps qs a b off f = record {
  end_same = f.end_same;
  no_longer = f.no_longer;
  no_end = f.no_end;
  fault_same = λ under h. operand_same a.reader.end (ps ++ under) a.signs a.reader.words off ∙ f.fault_same under h;
}

pub refused_atom : (U : List Part → Type 0) (ps : List Part) (a : Input) (e : SyntaxRefusal) → ((first_word a.reader.end a.reader.words).sort ≡ sort.LeftParen → ⊥) → Refused U (an_atom ∷ ps) a e → Refused U (operand ∷ ps) a e
refused_atom U ps a e off f = record { fault_is = λ under h. operand_same a.reader.end (ps ++ under) a.signs a.reader.words off ∙ f.fault_is under h }

pub whole_reads : (a b : Input) (r : Result Expr SyntaxRefusal) → Outcome expr_words expr_tree (Opened 0) (operand ∷ more_factors ∷ more_terms ∷ []) [] (record a { signs = 0 }) r b → Outcome expr_words expr_tree (Opened 0) (expression ∷ []) [] a r b
whole_reads a b (Ok v) f = (
  f.0,
  record {
    end_same = f.1.end_same;
    no_longer = f.1.no_longer;
    no_end = f.1.no_end;
    fault_same = λ under h. expression_same a.reader.end under a.signs a.reader.words ∙ f.1.fault_same under h;
  },
)
whole_reads a b (Err e) f = λ some. record { fault_is = λ under h. expression_same a.reader.end under a.signs a.reader.words ∙ (f some).fault_is under h }

-- the sign in hand is one too many
pub refused_sign : (U : List Part → Type 0) (p : Part) (ps left : List Part) (a b : Input) (w : Word) (s : Sort) (e : SyntaxRefusal) → w ≡ first_word a.reader.end a.reader.words → b.reader.words ≡ a.reader.words → b.reader.end ≡ a.reader.end → b.signs ≡ a.signs → w.sort ≡ s → (s ≡ sort.End → ⊥) → row p s ≡ Some left → ((under : List Part) → broken p under a.signs s ≡ where_over operator_signs (leb max_signs a.signs)) → (e ≡ TooDeep (first_word b.reader.end b.reader.words).at) × (max_signs ≤ b.signs) → Refused U (p ∷ ps) a e
refused_sign U p ps left a b w s e f k n m q o r d h =
    refused_is (h.0 ∙ ap (λ x. TooDeep x.at) (ap (λ n. first_word n b.reader.words) n ∙ ap (first_word a.reader.end) k ∙ sym f))
    (refused_limit U p ps left a (word s w.at) _ operator_signs (in_front _ _ w s f q o) r (λ under x. d (ps ++ under) ∙ ap (where_over operator_signs) (le-leb _ _ (omega (arith, h.1, m)))))
