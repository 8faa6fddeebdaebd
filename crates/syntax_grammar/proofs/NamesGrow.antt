-- The names behind tokens: the old ones begin them.
use Rattle.std.proofs.Common.{◌≡◌, ℕ, ◌+◌, ◌≤◌, List, [], ◌∷◌, ◌++◌, length, refl, sym, ap, ◌∙◌, arith, length-append}
use Rattle.std.specs.List.{list_any}
use Rattle.std.specs.Str.{bytes_eq}
use Rattle.session_values.specs.Names.{with_text, Begins}
use Rattle.session_values.proofs.Named.{begins_same, begins_then, begins_with}
use Rattle.syntax_grammar.specs.declared.token_kind.TokenKind.{TokenKind}
use Rattle.syntax_grammar.specs.declared.token_kind.TokenKind.TheVariants as kind
use Rattle.syntax_grammar.specs.Tokens.{Piece, pieces}
use Rattle.syntax_grammar.specs.Words.{unquoted, names_by, names_after, names_behind, names_of}
use Rattle.syntax_grammar.proofs.Cut.{pick}
use Rattle.syntax_grammar.proofs.Pieces.{pieces_few}

begins_by : (k : TokenKind) (text : List ℕ) (names : List (List ℕ)) → Begins names (names_by k text names)
begins_by kind.Name text names = begins_with names text
begins_by kind.Symbol text names = begins_with names (unquoted text)
begins_by kind.Key text names = begins_same names
begins_by kind.Number text names = begins_same names
begins_by kind.Sign text names = begins_same names
begins_by kind.Long text names = begins_same names
begins_by kind.Bad text names = begins_same names
begins_by kind.End text names = begins_same names

pub begins_after : (names : List (List ℕ)) (piece : Piece) → Begins names (names_after names piece)
unfolding names_after
begins_after names piece = begins_by piece.kind piece.text names

pub begins_behind : (names : List (List ℕ)) (ps : List Piece) → Begins names (names_behind names ps)
begins_behind names [] = begins_same names
begins_behind names (p ∷ ps) = begins_then names (names_after names p) (names_behind (names_after names p) ps) (begins_after names p) (begins_behind (names_after names p) ps)

-- the old names begin those behind a source
pub names_begin : (names : List (List ℕ)) (source : List ℕ) → Begins names (names_of names source)
unfolding names_of
names_begin names source = begins_behind names (pieces 0 0 source)

pub begins_length : (front all : List (List ℕ)) → Begins front all → length front ≤ length all
begins_length front all b = omega (arith, ap length b.1, length-append front b.0)

with_few : (names : List (List ℕ)) (text : List ℕ) → length (with_text names text) ≤ length names + 1
with_few names text = pick (λ xs. length xs ≤ length names + 1) (list_any (bytes_eq text) names) names (names ++ text ∷ []) (λ _. omega arith) (λ _. omega (arith, length-append names (text ∷ [])))

few_by : (k : TokenKind) (text : List ℕ) (names : List (List ℕ)) → length (names_by k text names) ≤ length names + 1
few_by kind.Name text names = with_few names text
few_by kind.Symbol text names = with_few names (unquoted text)
few_by kind.Key text names = omega arith
few_by kind.Number text names = omega arith
few_by kind.Sign text names = omega arith
few_by kind.Long text names = omega arith
few_by kind.Bad text names = omega arith
few_by kind.End text names = omega arith

pub few_after : (names : List (List ℕ)) (piece : Piece) → length (names_after names piece) ≤ length names + 1
unfolding names_after
few_after names piece = few_by piece.kind piece.text names

few_behind : (names : List (List ℕ)) (ps : List Piece) → length (names_behind names ps) ≤ length names + length ps
few_behind names [] = omega arith
few_behind names (p ∷ ps) = omega (arith, few_after names p, few_behind (names_after names p) ps)

-- a source has no more new names than bytes
pub names_few : (names : List (List ℕ)) (source : List ℕ) → length (names_of names source) ≤ length names + length source
unfolding names_of
names_few names source = omega (arith, few_behind names (pieces 0 0 source), pieces_few 0 0 source)

-- of two fronts of one list the shorter one begins the longer
pub two_fronts : (xs ys all : List (List ℕ)) → Begins xs all → Begins ys all → length xs ≤ length ys → Begins xs ys
two_fronts xs ys all a b = fronts xs ys a.0 b.0 (sym a.1 ∙ b.1)
  where
    fronts : (xs ys us vs : List (List ℕ)) → xs ++ us ≡ ys ++ vs → length xs ≤ length ys → Begins xs ys
    fronts [] ys us vs e h = (ys, refl)
    fronts (x ∷ xs) [] us vs e h = absurd (omega arith)
    fronts (x ∷ xs) (y ∷ ys) us vs e h =
        let more = fronts xs ys us vs (cc) (omega (arith, h)) in
        let same : x ≡ y = cc in
        (more.0, ap (λ z. z ∷ ys) (sym same) ∙ ap (λ zs. x ∷ zs) more.1)
