-- One word of a reader.
use Rattle.std.proofs.Common.{◌≡◌, ℕ, ◌+◌, ◌≤◌, false, List, [], ◌∷◌, ◌++◌, length, Option, Some, None, refl, sym, ap, ◌∙◌, subst, arith}
use Rattle.session_values.specs.Names.{Begins}
use Rattle.syntax_grammar.specs.declared.token.Token.{Token}
use Rattle.syntax_grammar.specs.declared.token_kind.TokenKind.TheVariants as kind
use Rattle.syntax_grammar.specs.declared.tokens.Tokens.{Tokens}
use Rattle.syntax_grammar.specs.declared.word.Word.{Word}
use Rattle.syntax_grammar.specs.Reading.{words_left, names_left, end_of}
use Rattle.syntax_grammar.specs.Scan.{gap}
use Rattle.syntax_grammar.specs.Tokens.{Cuts, pieces, piece_of}
use Rattle.syntax_grammar.specs.Words.{words, names_behind, names_after, word_after}
use Rattle.syntax_grammar.proofs.Cut.{cut_moves}
use Rattle.syntax_grammar.proofs.NamesGrow.{few_after, begins_behind}
use Rattle.syntax_grammar.proofs.Pieces.{pieces_next, pieces_end, cut_length}

-- what a call of `token` ensures
pub record Gave (old : Tokens) (token : Token) (new : Tokens) : Type 0 where
  pub cut : Cuts old.rest.now token.kind token.text.now new.rest.now
  pub start : token.start ≡ old.at + gap false old.rest.now
  pub end : token.end ≡ token.start + length token.text.now
  pub at : new.at ≡ token.end

pub gave_end : (old : Tokens) (token : Token) (new : Tokens) → Gave old token new → end_of new ≡ end_of old
gave_end old token new g = omega (arith, g.start, g.end, g.at, cut_length _ _ _ _ g.cut)

pub gave_less : (old : Tokens) (token : Token) (new : Tokens) → Gave old token new → length new.rest.now ≤ length old.rest.now
gave_less old token new g = omega (arith, cut_length _ _ _ _ g.cut)

pub gave_next : (old : Tokens) (token : Token) (new : Tokens) → Gave old token new → (token.kind ≡ kind.End → ⊥) → pieces 0 old.at old.rest.now ≡ piece_of token ∷ pieces 0 new.at new.rest.now
gave_next old token new g other =
    let behind : new.at ≡ old.at + gap false old.rest.now + length token.text.now = omega (arith, g.start, g.end, g.at) in
    pieces_next old.at old.rest.now token.kind token.text.now new.rest.now g.cut other
    ∙ (λ i. record { kind = token.kind; text = token.text.now; start = sym g.start i } ∷ pieces 0 (sym behind i) new.rest.now)

pub gave_words : (old : Tokens) (token : Token) (new : Tokens) (names : List (List ℕ)) → Gave old token new → (token.kind ≡ kind.End → ⊥)
    → words_left None names old ≡ words_left (Some (word_after names (piece_of token))) (names_after names (piece_of token)) new
gave_words old token new names g other = ap (words names) (gave_next old token new g other)

pub gave_names : (old : Tokens) (token : Token) (new : Tokens) (names : List (List ℕ)) → Gave old token new → (token.kind ≡ kind.End → ⊥)
    → names_left names old ≡ names_left (names_after names (piece_of token)) new
gave_names old token new names g other = ap (names_behind names) (gave_next old token new g other)

pub gave_room : (old : Tokens) (token : Token) (new : Tokens) (names : List (List ℕ)) → Gave old token new → (token.kind ≡ kind.End → ⊥)
    → length (names_after names (piece_of token)) + length new.rest.now ≤ length names + length old.rest.now
gave_room old token new names g other = omega (arith, few_after names (piece_of token), cut_moves _ _ _ _ g.cut other)

-- nothing is left behind the end
pub gave_none : (old : Tokens) (token : Token) (new : Tokens) → Gave old token new → token.kind ≡ kind.End → (pieces 0 new.at new.rest.now ≡ pieces 0 old.at old.rest.now) × (new.rest.now ≡ [])
gave_none old token new g is =
    let c : Cuts old.rest.now kind.End token.text.now new.rest.now = subst (λ k. Cuts old.rest.now k token.text.now new.rest.now) is g.cut in
    let e = pieces_end old.at old.rest.now token.text.now new.rest.now c in
    let left = none token.text.now new.rest.now e.1 in
    (ap (pieces 0 new.at) left ∙ sym e.0, left)
  where
    none : (xs ys : List ℕ) → xs ++ ys ≡ [] → ys ≡ []
    none [] ys e = e
    none (x ∷ xs) ys e = absurd (cc)

pub begins_left : (names : List (List ℕ)) (tokens : Tokens) → Begins names (names_left names tokens)
begins_left names tokens = begins_behind names (pieces 0 tokens.at tokens.rest.now)

-- where no word is left, no name is
pub all_left : (ahead : Option Word) (names : List (List ℕ)) (tokens : Tokens) → words_left ahead names tokens ≡ [] → names ≡ names_left names tokens
all_left None names tokens e = by (pieces 0 tokens.at tokens.rest.now) e
  where
    by : (ps : _) → words names ps ≡ [] → names ≡ names_behind names ps
    by [] e = refl
    by (p ∷ ps) e = absurd (cc)
all_left (Some w) names tokens e = absurd (cc)
