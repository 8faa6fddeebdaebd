-- The tokens of a text, in order.
use Rattle.std.specs.Prelude.{◌≡◌, ℕ, zero, suc, ◌+◌, ◌-◌, false, if◌then◌else◌, List, [], ◌∷◌, ◌++◌, take, drop, length, Option, None, is_some}
use Rattle.syntax_grammar.specs.declared.token_kind.TokenKind.{TokenKind}
use Rattle.syntax_grammar.specs.declared.token_kind.TokenKind.TheVariants as kind
use Rattle.syntax_grammar.specs.declared.token.Token.{Token}
use Rattle.syntax_grammar.specs.declared.word.Sort.{Sort}
use Rattle.syntax_grammar.specs.Keyword.{keyword_of}
use Rattle.syntax_grammar.specs.Scan.{gap, scan}

-- a name that is a reserved word is a key
abbrev pub with_reserved : TokenKind → List ℕ → TokenKind
with_reserved kind.Name text = if is_some (keyword_of text) then kind.Key else kind.Name
with_reserved k text = k

-- what a token of this kind is to the grammar, where it is a reserved word
abbrev pub reserved_by : TokenKind → List ℕ → Option Sort
reserved_by kind.Key text = keyword_of text
reserved_by k text = None

-- a token, without where its text lies in memory
pub record Piece : Type 0 where
  pub kind : TokenKind
  pub text : List ℕ
  pub start : ℕ

-- what a token of the code is
abbrev pub piece_of : Token → Piece
piece_of token = record { kind = token.kind; text = token.text.now; start = token.start }

-- the token that the text begins with, which stands at this place
abbrev pub first_piece : ℕ → List ℕ → Piece
first_piece at text =
    let piece = take (scan text).1 text in
    record { kind = with_reserved (scan text).0 piece; text = piece; start = at }

-- behind a gap of this length: a piece, and then the pieces that follow it
abbrev pub behind_gap : ℕ → ℕ → List ℕ → (ℕ → List Piece) → List Piece
behind_gap zero at text rest = first_piece at text ∷ rest ((scan text).1 - 1)
behind_gap (suc g) at text rest = rest g

-- The tokens of a text that stands at a place, where its first bytes are passed over. End is not
-- among them.
abbrev pub pieces : ℕ → ℕ → List ℕ → List Piece
pieces skipped at [] = []
pieces zero at (b ∷ bs) = behind_gap (gap false (b ∷ bs)) at (b ∷ bs) (λ n. pieces n (at + 1) bs)
pieces (suc n) at (b ∷ bs) = pieces n (at + 1) bs

-- the token at the front of a text, behind the gap, and what is left after it
pub record Cuts (old : List ℕ) (k : TokenKind) (text new : List ℕ) : Type 0 where
  pub whole : drop (gap false old) old ≡ text ++ new
  pub kind_is : k ≡ with_reserved (scan (drop (gap false old) old)).0 text
  pub length_is : length text ≡ (scan (drop (gap false old) old)).1
