use Rattle.std.proofs.Common.{◌≡◌, ◌≤◌, ◌<◌, ◌+◌, ℕ, Bool, true, false, cond, refl, sym, ap, ◌∙◌, arith}
use Rattle.std.proofs.iter.Next.{gave_Under}
use Rattle.syntax_grammar.specs.declared.token_kind.TokenKind.TheVariants as kind
use denote.Enum.Bare.{sameb}
use Rattle.syntax_grammar.specs.contracts.token_kind.TokenKind.{the_type}
use Rattle.syntax_grammar.proofs.Cut.{cut_moves}
use Rattle.syntax_grammar.proofs.tokens.TokensIterator.next.Goals as goal

fewer : (e o : Bool) (m n : ℕ) → o ≡ false → (e ≡ false → m < n) → cond e 0 (m + 1) + 1 ≤ cond o 0 (n + 1)
fewer true true m n r h = absurd (let f : true ≡ false = r in cc)
fewer true false m n r h = omega arith
fewer false true m n r h = absurd (let f : true ≡ false = r in cc)
fewer false false m n r h = omega (arith, h refl)

pub returns-clause-goes : goal.returns-clause-goes
returns-clause-goes c =
    gave_Under tt (λ u. (tt, fewer _ _ _ _ c.if-self.false (λ f. cut_moves _ _ _ _ c.token-token.ensures.cut (λ k. let g : false ≡ true = sym f ∙ c.eq-self.ensures ∙ ap (λ x. sameb the_type x kind.End) k in cc))))
