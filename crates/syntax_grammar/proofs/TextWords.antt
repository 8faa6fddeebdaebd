-- Each name and each symbol of a source has a text that is read so.
use Rattle.std.proofs.Common.{◌≡◌, ℕ, Bool, true, false, List, [], ◌∷◌, ◌++◌, length, Option, Some, slice_get, refl, sym, subst}
use Rattle.std.specs.Prelude.{unwrap_or}
use Rattle.std.specs.List.{list_any, AllByRecursion}
use Rattle.std.specs.Str.{bytes_eq}
use Rattle.session_values.specs.Names.{with_text, place_of, Begins}
use Rattle.session_values.proofs.Named.{front_kept}
use Rattle.session_values.proofs.NamesLemmas.{known_at, stands_at, slice_get_last, with_known, with_new}
use Rattle.syntax_grammar.specs.declared.token_kind.TokenKind.{TokenKind}
use Rattle.syntax_grammar.specs.declared.token_kind.TokenKind.TheVariants as kind
use Rattle.syntax_grammar.specs.declared.word.Sort.{Sort}
use Rattle.syntax_grammar.specs.declared.word.Sort.TheVariants as sort
use Rattle.syntax_grammar.specs.Tokens.{Piece, pieces}
use Rattle.syntax_grammar.specs.Words.{unquoted, names_by, sort_by, names_after, word_after, words, names_behind, words_of, names_of}
use Rattle.syntax_grammar.proofs.NamesGrow.{begins_behind}
use Rattle.syntax_grammar.specs.Texts.{IsNameText, IsSymbolText, text_at, IsReadableSort, IsReadableWord}
use Rattle.syntax_grammar.proofs.TextTokens.{IsGood, AllGood, all_good}
use Rattle.syntax_grammar.proofs.WordsNamed.{is_plain, plain_keyword, plain_sign}

-- ---- places with such a text

record Placed (P : List ℕ → Type 0) (names : List (List ℕ)) (place : ℕ) : Type 0 where
  text : List ℕ
  at : slice_get names place ≡ Some text
  good : P text

placed_kept : (P : List ℕ → Type 0) (old new : List (List ℕ)) (place : ℕ) → Begins old new → Placed P old place → Placed P new place
placed_kept P old new place b n = record { text = n.text; at = subst (λ all. slice_get all place ≡ Some n.text) (sym b.1) (front_kept old b.0 place n.text n.at); good = n.good }

placed_with : (P : List ℕ → Type 0) (names : List (List ℕ)) (t : List ℕ) → P t → Placed P (with_text names t) (place_of (with_text names t) t)
placed_with P names t good = go (list_any (bytes_eq t) names) refl
  where
    go : (b : Bool) → list_any (bytes_eq t) names ≡ b → Placed P (with_text names t) (place_of (with_text names t) t)
    go true e = subst (λ all. Placed P all (place_of all t)) (sym (with_known names t e)) (record { text = t; at = stands_at t names e; good = good })
    go false e =
        let known = known_at t (names ++ t ∷ []) (length names) (slice_get_last names t) in
        subst (λ all. Placed P all (place_of all t)) (sym (with_new names t e)) (record { text = t; at = stands_at t (names ++ t ∷ []) known; good = good })

placed_text : (P : List ℕ → Type 0) (names : List (List ℕ)) (place : ℕ) → Placed P names place → P (text_at names place)
placed_text P names place h = subst (λ (o : Option (List ℕ)). P (unwrap_or o [])) (sym h.at) h.good

-- ---- words

abbrev IsPlacedSort : List (List ℕ) → Sort → Type 0
IsPlacedSort names (sort.Name place) = Placed IsNameText names place
IsPlacedSort names (sort.Symbol place) = Placed IsSymbolText names place
IsPlacedSort names s = Unit {0}

plain_placed : (names : List (List ℕ)) (s : Sort) → is_plain s ≡ true → IsPlacedSort names s
plain_placed names (sort.Name place) h = absurd (let f : false ≡ true = h in cc)
plain_placed names (sort.Symbol place) h = absurd (let f : false ≡ true = h in cc)
plain_placed names s h = tt

placed_by : (k : TokenKind) (text : List ℕ) (names : List (List ℕ)) → IsGood k text → IsPlacedSort (names_by k text names) (sort_by k text (names_by k text names))
placed_by kind.Name text names h = placed_with IsNameText names text h
placed_by kind.Symbol text names h = placed_with IsSymbolText names (unquoted text) h
placed_by kind.Key text names h = plain_placed names _ (plain_keyword text)
placed_by kind.Sign text names h = plain_placed names _ (plain_sign text)
placed_by kind.Number text names h = tt
placed_by kind.Long text names h = tt
placed_by kind.Bad text names h = tt
placed_by kind.End text names h = tt

placed_after : (names : List (List ℕ)) (piece : Piece) → IsGood piece.kind piece.text → IsPlacedSort (names_after names piece) (word_after names piece).sort
unfolding names_after word_after
placed_after names piece h = placed_by piece.kind piece.text names h

placed_sort_kept : (old new : List (List ℕ)) (s : Sort) → Begins old new → IsPlacedSort old s → IsPlacedSort new s
placed_sort_kept old new (sort.Name place) b h = placed_kept IsNameText old new place b h
placed_sort_kept old new (sort.Symbol place) b h = placed_kept IsSymbolText old new place b h
placed_sort_kept old new s b h = tt

readable_sort : (names : List (List ℕ)) (s : Sort) → IsPlacedSort names s → IsReadableSort names s
readable_sort names (sort.Name place) h = placed_text IsNameText names place h
readable_sort names (sort.Symbol place) h = placed_text IsSymbolText names place h
readable_sort names s h = tt

all_readable : (names : List (List ℕ)) (ps : List Piece) → AllGood ps → AllByRecursion (IsReadableWord (names_behind names ps)) (words names ps)
all_readable names [] h = tt
all_readable names (p ∷ ps) h =
    let next = names_after names p in
    let all = names_behind next ps in
    let s = (word_after names p).sort in
    (readable_sort all s (placed_sort_kept next all s (begins_behind next ps) (placed_after names p h.0)), all_readable next ps h.1)

pub words_readable : (names : List (List ℕ)) (source : List ℕ) → AllByRecursion (IsReadableWord (names_of names source)) (words_of names source)
unfolding words_of names_of
words_readable names source = all_readable names (pieces 0 0 source) (all_good 0 0 source)
