-- The words of a line, with their blanks, as the whole line before its comment.
use Rattle.std.proofs.Common.{◌≡◌, ℕ, suc, ◌<◌, ◌⊎◌, inl, inr, Bool, true, false, ◌&&◌, ◌==◌, cond, List, [], ◌∷◌, ◌++◌, length, refl, sym, ap, ◌∙◌, subst, arith}
use Rattle.std.proofs.lemmas.Bool.Decides.{nat_tests}
use Rattle.std.specs.List.{list_all}
use Rattle.text_lines.specs.Bytes.{is_blank}
use Rattle.text_lines.specs.Text.{Text, is_word_byte, attach, in_word, words}
use Rattle.text_lines.specs.Laws.{before_comment, with_gaps, AreApart, AreWordsOf}
use Rattle.text_lines.proofs.TextLemmas.{words_more, words_alone, words_end, words_nil}

-- ---- the four rules of `words`

words_blank : (b : ℕ) (bs : Text) → is_word_byte b ≡ false → is_blank b ≡ true → words (b ∷ bs) ≡ words bs
unfolding words
words_blank b bs e g = λ i. cond (e i) (cond (in_word bs) (attach b (words bs)) ((b ∷ []) ∷ words bs)) (cond (g i) (words bs) [])

no_mark : (b : ℕ) → is_word_byte b ≡ true → (b == 35) ≡ false
no_mark b e = grind (arith, nat_tests)

blank_no_mark : (b : ℕ) → is_blank b ≡ true → (b == 35) ≡ false
blank_no_mark b e = grind (arith, nat_tests)

mark : (b : ℕ) → is_word_byte b ≡ false → is_blank b ≡ false → (b == 35) ≡ true
mark b e g = grind (arith, nat_tests)

goes_on : (b : ℕ) (bs : Text) → (b == 35) ≡ false → before_comment (b ∷ bs) ≡ b ∷ before_comment bs
goes_on b bs e = ap (λ t. cond t [] (b ∷ before_comment bs)) e

stops : (b : ℕ) (bs : Text) → (b == 35) ≡ true → before_comment (b ∷ bs) ≡ []
stops b bs e = ap (λ t. cond t [] (b ∷ before_comment bs)) e

-- ---- from the last byte to the first: where a word goes on, no gap stands before it, and else one does

record Spaced (line : Text) (ws : List Text) : Type 0 where
  are : AreWordsOf line ws
  on : in_word line ≡ true → (are.first ≡ []) × (w : Text) × (vs : List Text) × (ws ≡ w ∷ vs)
  off : in_word line ≡ false → (ws ≡ []) ⊎ (0 < length are.first)

spaced_none : Spaced [] []
spaced_none = record {
  are = record { first = []; gaps = []; whole = refl; each = tt; blanks = (refl, tt); count = refl; apart = tt };
  on = λ e. absurd (cc);
  off = λ e. inl refl;
}

-- a byte more at the front of a word
joined : (b : ℕ) (w : Text) (vs gs : List Text) → with_gaps ((b ∷ w) ∷ vs) gs ≡ b ∷ with_gaps (w ∷ vs) gs
joined b w vs [] = refl
joined b w vs (g ∷ gs) = refl

still_apart : (b : ℕ) (w : Text) (vs gs : List Text) → AreApart (w ∷ vs) gs → AreApart ((b ∷ w) ∷ vs) gs
still_apart b w vs [] a = a
still_apart b w vs (g ∷ gs) a = a

spaced_in : (b : ℕ) (bs w : Text) (vs : List Text) → is_word_byte b ≡ true → (a : AreWordsOf bs (w ∷ vs)) → a.first ≡ [] → Spaced (b ∷ bs) ((b ∷ w) ∷ vs)
spaced_in b bs w vs e a none = record {
  are = record {
    first = [];
    gaps = a.gaps;
    whole = goes_on b bs (no_mark b e) ∙ ap (λ t. b ∷ t) a.whole ∙ ap (λ t. b ∷ t ++ with_gaps (w ∷ vs) a.gaps) none ∙ sym (joined b w vs a.gaps);
    each = ((omega arith, ap (λ t. t && list_all is_word_byte w) e ∙ a.each.0.1), a.each.1);
    blanks = (refl, a.blanks.1);
    count = a.count;
    apart = still_apart b w vs a.gaps a.apart;
  };
  on = λ _. (refl, b ∷ w, vs, refl);
  off = λ h. absurd (let k : true ≡ false = sym e ∙ h in cc);
}

spaced_end : (b : ℕ) (bs : Text) (ws : List Text) → is_word_byte b ≡ true → (s : Spaced bs ws) → in_word bs ≡ false → Spaced (b ∷ bs) ((b ∷ []) ∷ ws)
spaced_end b bs ws e s apart = record {
  are = record {
    first = [];
    gaps = s.are.first ∷ s.are.gaps;
    whole = goes_on b bs (no_mark b e) ∙ ap (λ t. b ∷ t) s.are.whole;
    each = ((omega arith, ap (λ t. t && true) e), s.are.each);
    blanks = (refl, s.are.blanks);
    count = ap suc s.are.count;
    apart = (s.off apart, s.are.apart);
  };
  on = λ _. (refl, b ∷ [], ws, refl);
  off = λ h. absurd (let k : true ≡ false = sym e ∙ h in cc);
}

spaced_blank : (b : ℕ) (bs : Text) (ws : List Text) → is_word_byte b ≡ false → is_blank b ≡ true → AreWordsOf bs ws → Spaced (b ∷ bs) ws
spaced_blank b bs ws other e a = record {
  are = record {
    first = b ∷ a.first;
    gaps = a.gaps;
    whole = goes_on b bs (blank_no_mark b e) ∙ ap (λ t. b ∷ t) a.whole;
    each = a.each;
    blanks = (ap (λ t. t && list_all is_blank a.first) e ∙ a.blanks.0, a.blanks.1);
    count = a.count;
    apart = a.apart;
  };
  on = λ h. absurd (let k : false ≡ true = sym other ∙ h in cc);
  off = λ _. inr (omega arith);
}

spaced_stop : (b : ℕ) (bs : Text) → is_word_byte b ≡ false → is_blank b ≡ false → Spaced (b ∷ bs) []
spaced_stop b bs none e = record {
  are = record { first = []; gaps = []; whole = stops b bs (mark b none e); each = tt; blanks = (refl, tt); count = refl; apart = tt };
  on = λ h. absurd (let k : false ≡ true = sym none ∙ h in cc);
  off = λ _. inl refl;
}

spaced : (line : Text) → Spaced line (words line)
spaced [] = subst (Spaced []) (sym words_nil) spaced_none
spaced (b ∷ bs) = go (spaced bs) (is_word_byte b) (in_word bs) (is_blank b) refl refl refl
  where
    longer : (s : Spaced bs (words bs)) → is_word_byte b ≡ true → in_word bs ≡ true → Spaced (b ∷ bs) (attach b (words bs))
    longer s e g =
        let o : (s.are.first ≡ []) × (w : Text) × (vs : List Text) × (words bs ≡ w ∷ vs) = s.on g in
        at o.1 o.2 o.3 s e o.0
      where
        at : (w : Text) (vs : List Text) → words bs ≡ w ∷ vs → (s : Spaced bs (words bs)) → is_word_byte b ≡ true → s.are.first ≡ [] → Spaced (b ∷ bs) (attach b (words bs))
        at w vs is s e none = subst (λ ws. (s : Spaced bs ws) → s.are.first ≡ [] → Spaced (b ∷ bs) (attach b ws)) (sym is) (λ s none. spaced_in b bs w vs e s.are none) s none

    go : Spaced bs (words bs) → (x y z : Bool) → is_word_byte b ≡ x → in_word bs ≡ y → is_blank b ≡ z → Spaced (b ∷ bs) (words (b ∷ bs))
    go s true true z e g h = subst (Spaced (b ∷ bs)) (sym (words_more b bs e g)) (longer s e g)
    go s true false z e g h = subst (Spaced (b ∷ bs)) (sym (words_alone b bs e g)) (spaced_end b bs (words bs) e s g)
    go s false y true e g h = subst (Spaced (b ∷ bs)) (sym (words_blank b bs e h)) (spaced_blank b bs (words bs) e h s.are)
    go s false y false e g h = subst (Spaced (b ∷ bs)) (sym (words_end b bs e h)) (spaced_stop b bs e h)

pub words_are : (line : Text) → AreWordsOf line (words line)
words_are line = (spaced line).are
