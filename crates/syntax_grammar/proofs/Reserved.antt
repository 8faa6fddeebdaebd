-- A text whose length and first byte no reserved word has is none.
use Rattle.std.proofs.Common.{◌≡◌, ℕ, true, false, List, [], ◌∷◌, length, Option, Some, None, refl, ap, ◌∙◌, rules}
use Rattle.std.specs.Prelude.{slice_index}
use Rattle.std.specs.Str.{bytes_eq}
use Rattle.std.proofs.lemmas.Slice.Eq.{bytes_eq-Decides}
use Rattle.syntax_grammar.specs.declared.word.Sort.{Sort}
use Rattle.syntax_grammar.specs.Keyword.{sort_in, or_else, statement_words, operations, keyword_of, statement_word_of, operation_of, may_begin}
use Rattle.syntax_grammar.proofs.Cut.{pick}

abbrev AllBegin : List (List ℕ × Sort) → Type 0
AllBegin [] = Unit {0}
AllBegin (row ∷ rows) = (may_begin (slice_index row.0 0) (length row.0) ≡ true) × AllBegin rows

none_in : (rows : List (List ℕ × Sort)) (text : List ℕ) → AllBegin rows → may_begin (slice_index text 0) (length text) ≡ false → sort_in rows text ≡ None
none_in [] text h e = refl
none_in (row ∷ rows) text h e = pick (λ (o : Option Sort). o ≡ None) (bytes_eq text row.0) (Some row.1) (sort_in rows text) same (λ _. none_in rows text h.1 e)
  where
    same : bytes_eq text row.0 ≡ true → Some row.1 ≡ None
    same t =
        let is : text ≡ row.0 = (bytes_eq-Decides text row.0).0 t in
        let begins : may_begin (slice_index text 0) (length text) ≡ true = ap (λ w. may_begin (slice_index w 0) (length w)) is ∙ h.0 in
        absurd (cc (begins, e))

pub none_reserved : (text : List ℕ) → may_begin (slice_index text 0) (length text) ≡ false → keyword_of text ≡ None
unfolding keyword_of statement_word_of operation_of
none_reserved text e =
    ap (λ o. or_else o (sort_in operations text)) (none_in statement_words text (search rules) e) ∙ none_in operations text (search rules) e
