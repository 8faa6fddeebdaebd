-- The text of replies, written in parts.
use Rattle.std.proofs.Common.{◌≡◌, ℕ, ◌+◌, ◌<◌, List, [], ◌∷◌, ◌++◌, take, drop, length, get_or, refl, sym, ap, ◌∙◌, subst, arith, append_assoc, append-nil, Option}
use Rattle.std.proofs.lemmas.List.{take_more, take-append-drop, length-take}
use Rattle.session_values.specs.declared.reply.Reply.{Reply}
use Rattle.session_values.specs.ReplyText.{line_text, reply_text}
use Rattle.byte_ends.specs.Ends.{Appended, AppendedPrefix}
use Rattle.byte_ends.proofs.EndsLemmas.{grew_nothing, grew_more, grew_front_within}

-- of a text some bytes were written, and the others wait
pub record Waits (old now : Option (List ℕ)) (waiting text : List ℕ) : Type 0 where
  pub written : List ℕ
  pub grew : Appended old now written
  pub all : written ++ waiting ≡ text

-- nothing was written, and nothing waits
pub waits_none : (old : Option (List ℕ)) (waiting text : List ℕ) → waiting ≡ [] → text ≡ [] → Waits old old waiting text
waits_none old waiting text empty none = record { written = []; grew = grew_nothing old old refl; all = empty ∙ sym none }

-- the same where both are known by other names
pub waits_same : (old now same : Option (List ℕ)) (waiting alike text : List ℕ) → same ≡ now → alike ≡ waiting → Waits old now waiting text → Waits old same alike text
waits_same old now same waiting alike text e f w = subst (λ n. Waits old n alike text) (sym e) (subst (λ b. Waits old now b text) (sym f) w)

-- what waits was written
pub waits_written : (old mid new : Option (List ℕ)) (waiting emptied text : List ℕ) → Waits old mid waiting text → Appended mid new waiting → emptied ≡ [] → Waits old new emptied text
waits_written old mid new waiting emptied text w more empty = record {
  written = w.written ++ waiting;
  grew = grew_more old mid new w.written waiting w.grew more;
  all = ap (λ b. (w.written ++ waiting) ++ b) empty ∙ append-nil (w.written ++ waiting) ∙ w.all;
}

-- more waits
pub waits_more : (old now : Option (List ℕ)) (waiting longer text more longest : List ℕ) → Waits old now waiting text → longer ≡ waiting ++ more → longest ≡ text ++ more → Waits old now longer longest
waits_more old now waiting longer text more longest w e all = record {
  written = w.written;
  grew = w.grew;
  all = ap (λ b. w.written ++ b) e ∙ sym (append_assoc w.written waiting more) ∙ ap (λ b. b ++ more) w.all ∙ sym all;
}

-- writing what waits broke off
pub broke_off : (old mid new : Option (List ℕ)) (waiting text rest whole : List ℕ) → Waits old mid waiting text → AppendedPrefix mid new waiting → whole ≡ text ++ rest → AppendedPrefix old new whole
broke_off old mid new waiting text rest whole w broken e =
    subst (AppendedPrefix old new) (sym (append_assoc w.written waiting rest) ∙ ap (λ b. b ++ rest) w.all ∙ sym e)
    (grew_front_within old mid new w.written waiting rest w.grew broken)

module _ (names : List (List ℕ)) where
  pub no_text : (t : ℕ) → reply_text names t [] ≡ []
  unfolding reply_text
  no_text t = refl

  text_first : (t : ℕ) (r : Reply) (rs : List Reply) → reply_text names t (r ∷ rs) ≡ line_text names t r ++ reply_text names (t + 1) rs
  unfolding reply_text
  text_first t r rs = refl

  pub text_cut : (t : ℕ) (xs ys : List Reply) → reply_text names t (xs ++ ys) ≡ reply_text names t xs ++ reply_text names (t + length xs) ys
  text_cut t [] ys = ap (λ n. reply_text names n ys) (let e : t ≡ t + 0 = omega arith in e) ∙ sym (ap (λ b. b ++ reply_text names (t + 0) ys) (no_text t))
  text_cut t (x ∷ xs) ys =
      text_first t x (xs ++ ys)
      ∙ ap (λ b. line_text names t x ++ b) (text_cut (t + 1) xs ys)
      ∙ sym (append_assoc (line_text names t x) (reply_text names (t + 1) xs) (reply_text names (t + 1 + length xs) ys))
      ∙ ap (λ n. (line_text names t x ++ reply_text names (t + 1) xs) ++ reply_text names n ys) (let e : t + 1 + length xs ≡ t + length (x ∷ xs) = omega arith in e)
      ∙ ap (λ b. b ++ reply_text names (t + length (x ∷ xs)) ys) (sym (text_first t x xs))

  -- the text, cut at a reply
  pub text_at : (t : ℕ) (rs : List Reply) (i : ℕ) → reply_text names t rs ≡ reply_text names t (take i rs) ++ reply_text names (t + length (take i rs)) (drop i rs)
  text_at t rs i = ap (reply_text names t) (sym (take-append-drop i rs)) ∙ text_cut t (take i rs) (drop i rs)

  -- one line more
  pub text_line : (t : ℕ) (rs : List Reply) (r : Reply) → reply_text names t (rs ++ r ∷ []) ≡ reply_text names t rs ++ line_text names (t + length rs) r
  text_line t rs r =
      text_cut t rs (r ∷ [])
      ∙ ap (λ b. reply_text names t rs ++ b) (text_first (t + length rs) r [] ∙ ap (λ b. line_text names (t + length rs) r ++ b) (no_text (t + length rs + 1)) ∙ append-nil (line_text names (t + length rs) r))

  -- one reply more
  pub text_more : (t : ℕ) (rs : List Reply) (i : ℕ) (r : Reply) → i < length rs → get_or rs i r ≡ r → reply_text names t (take (i + 1) rs) ≡ reply_text names t (take i rs) ++ line_text names (t + i) r
  text_more t rs i r h is =
      ap (reply_text names t) (take_more rs i r h ∙ ap (λ x. take i rs ++ x ∷ []) is)
      ∙ text_line t (take i rs) r
      ∙ ap (λ n. reply_text names t (take i rs) ++ line_text names (t + n) r) (let n = length-take i rs in omega (arith, h, n))

  -- one line more waits
  pub line_waits : (t : ℕ) (rs : List Reply) (i : ℕ) (r : Reply) (old now : Option (List ℕ)) (waiting longer line : List ℕ) → i < length rs → get_or rs i r ≡ r → line ≡ line_text names (t + i) r
      → longer ≡ waiting ++ line → Waits old now waiting (reply_text names t (take i rs)) → Waits old now longer (reply_text names t (take (i + 1) rs))
  line_waits t rs i r old now waiting longer line h is e more w =
      waits_more old now waiting longer (reply_text names t (take i rs)) line (reply_text names t (take (i + 1) rs)) w more
      (text_more t rs i r h is ∙ ap (λ b. reply_text names t (take i rs) ++ b) (sym e))
