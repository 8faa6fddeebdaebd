-- The words of a line that is made of words, with one blank between two.
use Rattle.std.proofs.Common.{◌≡◌, ℕ, ◌<◌, true, [], ◌∷◌, ◌++◌, length, refl, ap, ◌∙◌, arith}
use Rattle.std.proofs.lemmas.Bool.{and_parts}
use Rattle.std.specs.List.{list_all}
use Rattle.text_lines.specs.Text.{Text, is_word_byte, attach, words}
use Rattle.text_lines.proofs.TextLemmas.{words_more, words_alone, words_nil}
use Rattle.text_lines.proofs.WordsBack.{words_space}

-- a word, and a blank before the rest
pub word_then : (b : ℕ) (w rest : Text) → list_all is_word_byte (b ∷ w) ≡ true → words ((b ∷ w) ++ 32 ∷ rest) ≡ (b ∷ w) ∷ words rest
word_then b [] rest h = words_alone b (32 ∷ rest) (and_parts (is_word_byte b) true h).0 refl ∙ ap (λ t. (b ∷ []) ∷ t) (words_space rest)
word_then b (c ∷ w) rest h =
    let later : list_all is_word_byte (c ∷ w) ≡ true = (and_parts (is_word_byte b) (list_all is_word_byte (c ∷ w)) h).1 in
    words_more b ((c ∷ w) ++ 32 ∷ rest) (and_parts (is_word_byte b) (list_all is_word_byte (c ∷ w)) h).0 (and_parts (is_word_byte c) (list_all is_word_byte w) later).0
    ∙ ap (attach b) (word_then c w rest later)

-- a word at the end of its line
pub word_last : (b : ℕ) (w : Text) → list_all is_word_byte (b ∷ w) ≡ true → words (b ∷ w) ≡ (b ∷ w) ∷ []
word_last b [] h = words_alone b [] (and_parts (is_word_byte b) true h).0 refl ∙ ap (λ t. (b ∷ []) ∷ t) words_nil
word_last b (c ∷ w) h =
    let later : list_all is_word_byte (c ∷ w) ≡ true = (and_parts (is_word_byte b) (list_all is_word_byte (c ∷ w)) h).1 in
    words_more b (c ∷ w) (and_parts (is_word_byte b) (list_all is_word_byte (c ∷ w)) h).0 (and_parts (is_word_byte c) (list_all is_word_byte w) later).0
    ∙ ap (attach b) (word_last c w later)

pub only_word : (w : Text) → 0 < length w → list_all is_word_byte w ≡ true → words w ≡ w ∷ []
only_word [] l h = absurd (omega arith)
only_word (b ∷ w) l h = word_last b w h
