-- The lines of a text as the whole text.
use Rattle.std.proofs.Common.{◌≡◌, ℕ, zero, suc, ◌≤◌, ◌⊎◌, inl, inr, Bool, true, false, ◌&&◌, cond, [], ◌∷◌, ◌++◌, length, refl, sym, ap, ◌∙◌, subst, arith, append_assoc, length-append}
use Rattle.std.specs.List.{list_all}
use Rattle.text_lines.specs.Text.{Text, is_line_byte, attach, lines}
use Rattle.text_lines.specs.Laws.{EndsInLine, AreLinesOf}
use Rattle.text_lines.proofs.TextLemmas.{line_stop_is, lines_nil}

-- ---- the first line of a text

pub line_on : (b : ℕ) (bs : Text) → is_line_byte b ≡ true → lines (b ∷ bs) ≡ attach b (lines bs)
unfolding lines
line_on b bs e = ap (λ t. cond t (attach b (lines bs)) ([] ∷ lines bs)) e

line_off : (b : ℕ) (bs : Text) → is_line_byte b ≡ false → lines (b ∷ bs) ≡ [] ∷ lines bs
unfolding lines
line_off b bs e = ap (λ t. cond t (attach b (lines bs)) ([] ∷ lines bs)) e

-- a line with its line feed before a text
pub line_joined : (l next : Text) → list_all is_line_byte l ≡ true → lines (l ++ 10 ∷ next) ≡ l ∷ lines next
line_joined [] next h = line_off 10 next refl
line_joined (b ∷ l) next h = go (λ k. line_joined l next k) (is_line_byte b) refl h
  where
    go : (list_all is_line_byte l ≡ true → lines (l ++ 10 ∷ next) ≡ l ∷ lines next) → (t : Bool) → is_line_byte b ≡ t → (t && list_all is_line_byte l) ≡ true → lines (b ∷ l ++ 10 ∷ next) ≡ (b ∷ l) ∷ lines next
    go later true e k = line_on b (l ++ 10 ∷ next) e ∙ ap (attach b) (later k)
    go later false e k = absurd (cc)

pub record FirstLine (text : Text) : Type 0 where
  pub line : Text
  pub next : Text
  pub plain : list_all is_line_byte line ≡ true
  pub is : ((text ≡ line ++ 10 ∷ next) × (lines text ≡ line ∷ lines next)) ⊎ ((text ≡ line) × (lines text ≡ line ∷ []) × EndsInLine text)

ends_more : (b : ℕ) (bs : Text) → EndsInLine bs → EndsInLine (b ∷ bs)
ends_more b bs e = record { front = b ∷ e.front; last = e.last; is = ap (λ t. b ∷ t) e.is; no_feed = e.no_feed }

line_off_here : (b : ℕ) (bs : Text) → is_line_byte b ≡ false → FirstLine (b ∷ bs)
line_off_here b bs e = record { line = []; next = bs; plain = refl; is = inl (ap (λ x. x ∷ bs) (line_stop_is b e), line_off b bs e) }

line_alone : (b : ℕ) → is_line_byte b ≡ true → FirstLine (b ∷ [])
line_alone b e = record {
  line = b ∷ [];
  next = [];
  plain = ap (λ t. t && true) e;
  is = inr (refl, line_on b [] e ∙ ap (attach b) lines_nil, record { front = []; last = b; is = refl; no_feed = e });
}

line_longer : (b : ℕ) (bs : Text) → FirstLine bs → is_line_byte b ≡ true → FirstLine (b ∷ bs)
line_longer b bs f e = record {
  line = b ∷ f.line;
  next = f.next;
  plain = ap (λ t. t && list_all is_line_byte f.line) e ∙ f.plain;
  is = elim f.is [
    | inl k ↦ inl (ap (λ t. b ∷ t) k.0, line_on b bs e ∙ ap (attach b) k.1)
    | inr k ↦ inr (ap (λ t. b ∷ t) k.0, line_on b bs e ∙ ap (attach b) k.1, ends_more b bs k.2)
  ];
}

-- the first line of a text that has one
pub first_line : (b : ℕ) (bs : Text) → FirstLine (b ∷ bs)
first_line b [] = go (is_line_byte b) refl
  where
    go : (t : Bool) → is_line_byte b ≡ t → FirstLine (b ∷ [])
    go true e = line_alone b e
    go false e = line_off_here b [] e
first_line b (c ∷ cs) = go (first_line c cs) (is_line_byte b) refl
  where
    go : FirstLine (c ∷ cs) → (t : Bool) → is_line_byte b ≡ t → FirstLine (b ∷ c ∷ cs)
    go f true e = line_longer b (c ∷ cs) f e
    go f false e = line_off_here b (c ∷ cs) e

-- ---- the lines are the text

each_line : (n : ℕ) (text : Text) → length text ≤ n → AreLinesOf text (lines text)
each_line n [] h = subst (AreLinesOf []) (sym lines_nil) (record { each = tt; whole = inl refl })
each_line zero (b ∷ bs) h = absurd (omega arith)
each_line (suc n) (b ∷ bs) h =
    let f : FirstLine (b ∷ bs) = first_line b bs in
    elim f.is [
      | inl k ↦
          let shorter : length f.next ≤ n = omega (arith, h, ap length k.0, length-append f.line (10 ∷ f.next)) in
          let rest : AreLinesOf f.next (lines f.next) = each_line n f.next shorter in
          subst (AreLinesOf (b ∷ bs)) (sym k.1) (record {
            each = (f.plain, rest.each);
            whole = elim rest.whole [
              | inl w ↦ inl (ap (λ t. f.line ++ 10 ∷ t) w ∙ sym k.0)
              | inr w ↦ inr (ap (λ t. f.line ++ 10 ∷ t) w.0 ∙ sym (append_assoc f.line (10 ∷ f.next) (10 ∷ [])) ∙ ap (λ t. t ++ 10 ∷ []) (sym k.0), subst EndsInLine (sym k.0) (ends_behind f.line f.next w.1))
            ];
          })
      | inr k ↦ subst (AreLinesOf (b ∷ bs)) (sym k.1) (record { each = (f.plain, tt); whole = inr (ap (λ t. t ++ 10 ∷ []) (sym k.0), k.2) })
    ]
  where
    ends_behind : (l next : Text) → EndsInLine next → EndsInLine (l ++ 10 ∷ next)
    ends_behind l next e = record { front = l ++ 10 ∷ e.front; last = e.last; is = ap (λ t. l ++ 10 ∷ t) e.is ∙ sym (append_assoc l (10 ∷ e.front) (e.last ∷ [])); no_feed = e.no_feed }

pub lines_are : (text : Text) → AreLinesOf text (lines text)
lines_are text = each_line (length text) text (omega arith)
