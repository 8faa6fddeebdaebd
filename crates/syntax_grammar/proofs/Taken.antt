-- A word within the limits that a part takes, and how a whole expression begins.
use Rattle.std.proofs.Common.{◌≡◌, ℕ, List, [], ◌∷◌, ◌++◌, Some, None, refl, ap, ◌∙◌}
use Rattle.syntax_grammar.specs.declared.word.Word.{Word}
use Rattle.syntax_grammar.specs.declared.word.Sort.{Sort}
use Rattle.syntax_grammar.specs.declared.word.Sort.TheVariants as sort
use Rattle.syntax_grammar.specs.Phrase.{word}
use Rattle.syntax_grammar.specs.Next.{Part, row, taking, at_top, broken, signs_after, go_on, after_taking, fault, expression, operand, more_factors, more_terms}

-- a part that takes a word within the limits
pub taken : (end : ℕ) (p : Part) (left under : List Part) (signs : ℕ) (w : Word) (ws : List Word) → row p w.sort ≡ Some left → broken p under signs w.sort ≡ None → fault end (p ∷ under) signs (w ∷ ws) ≡ fault end (left ++ under) (signs_after p signs) ws
taken end p left under signs w ws r b =
    ap (λ o. after_taking w signs (λ ps n. fault end ps n ws) (at_top p under o (taking under w.sort))) r
    ∙ ap (λ x. go_on w x (fault end (left ++ under) (signs_after p signs) ws)) b

-- a whole expression begins as an operand does, with no sign so far
expression_start : (end : ℕ) (under : List Part) (n : ℕ) (s : Sort) (at : ℕ) (ws : List Word) → fault end (expression ∷ under) n (word s at ∷ ws) ≡ fault end (operand ∷ more_factors ∷ more_terms ∷ under) 0 (word s at ∷ ws)
expression_start end under n (sort.Name x) at ws = refl
expression_start end under n (sort.Symbol x) at ws = refl
expression_start end under n (sort.Number x) at ws = refl
expression_start end under n sort.Nil at ws = refl
expression_start end under n sort.Minus at ws = refl
expression_start end under n sort.LeftParen at ws = refl
expression_start end under n _ at ws = refl

pub expression_same : (end : ℕ) (under : List Part) (n : ℕ) (ws : List Word) → fault end (expression ∷ under) n ws ≡ fault end (operand ∷ more_factors ∷ more_terms ∷ under) 0 ws
expression_same end under n [] = refl
expression_same end under n (w ∷ ws) = expression_start end under n w.sort w.at ws
