-- What was read of a source is read back from its canonical text.
use Rattle.std.proofs.Common.{◌≡◌, ℕ, Bool, true, false, List, [], ◌∷◌, refl, sym, subst}
use Rattle.std.specs.List.{list_any}
use Rattle.std.specs.Str.{bytes_eq}
use Rattle.session_values.specs.Names.{AreDistinct, with_text}
use Rattle.session_values.proofs.NamesLemmas.{AreDistinct-push, with_known, with_new}
use Rattle.syntax_grammar.specs.declared.token_kind.TokenKind.{TokenKind}
use Rattle.syntax_grammar.specs.declared.token_kind.TokenKind.TheVariants as kind
use Rattle.syntax_grammar.specs.Tokens.{Piece, pieces}
use Rattle.syntax_grammar.specs.Words.{unquoted, names_by, names_after, names_behind, words_of, names_of}
use Rattle.syntax_trees.specs.declared.file.File.{File}
use Rattle.syntax_grammar.specs.Limits.{IsFileWithin}
use Rattle.syntax_printer.specs.Canonical.{canonical_text}
use Rattle.handler_syntax.specs.SameTree.{SameTree}
use Rattle.handler_syntax.proofs.Files.{text_again}
use Rattle.syntax_trees.specs.Mentions.{file_mentions}
use Rattle.syntax_grammar.proofs.Said.{source_readable, have_texts}

-- ---- the names behind a source are different texts

distinct_with : (names : List (List ℕ)) (t : List ℕ) → AreDistinct names → AreDistinct (with_text names t)
distinct_with names t d = go (list_any (bytes_eq t) names) refl
  where
    go : (b : Bool) → list_any (bytes_eq t) names ≡ b → AreDistinct (with_text names t)
    go true e = subst AreDistinct (sym (with_known names t e)) d
    go false e = subst AreDistinct (sym (with_new names t e)) (AreDistinct-push names t d e)

distinct_by : (k : TokenKind) (text : List ℕ) (names : List (List ℕ)) → AreDistinct names → AreDistinct (names_by k text names)
distinct_by kind.Name text names d = distinct_with names text d
distinct_by kind.Symbol text names d = distinct_with names (unquoted text) d
distinct_by k text names d = d

distinct_after : (names : List (List ℕ)) (piece : Piece) → AreDistinct names → AreDistinct (names_after names piece)
unfolding names_after
distinct_after names piece d = distinct_by piece.kind piece.text names d

distinct_behind : (names : List (List ℕ)) (ps : List Piece) → AreDistinct names → AreDistinct (names_behind names ps)
distinct_behind names [] d = d
distinct_behind names (p ∷ ps) d = distinct_behind (names_after names p) ps (distinct_after names p d)

names_distinct : (names : List (List ℕ)) (source : List ℕ) → AreDistinct names → AreDistinct (names_of names source)
unfolding names_of
names_distinct names source d = distinct_behind names (pieces 0 0 source) d

pub source_again : (names : List (List ℕ)) (source : List ℕ) (file : File) → AreDistinct names → IsFileWithin (words_of names source) file
    → (g : File) × IsFileWithin (words_of (names_of names source) (canonical_text (names_of names source) file)) g × SameTree file g × (names_of (names_of names source) (canonical_text (names_of names source) file) ≡ names_of names source)
source_again names source file distinct within =
    text_again (names_of names source) (words_of names source) file (names_distinct names source distinct) within (have_texts (names_of names source) (file_mentions file) (source_readable names source file within))
