-- The parts of a file as the whole file.
use Rattle.std.proofs.Common.{◌≡◌, ℕ, zero, suc, ◌+◌, ◌≤◌, ◌⊎◌, inl, inr, Bool, true, false, not, ◌||◌, cond, List, [], ◌∷◌, ◌++◌, length, take, drop, refl, sym, ap, ◌∙◌, subst, arith, append_assoc, length-append}
use Rattle.std.proofs.lemmas.List.{drop_all, take_all}
use Rattle.std.proofs.lemmas.Bool.{true≢false, or_parts}
use Rattle.std.specs.List.{list_all, list_any, position_or_len}
use Rattle.text_lines.specs.Text.{Text, is_line_byte, lines}
use Rattle.text_lines.specs.Laws.{with_feeds}
use Rattle.text_lines.proofs.TextLemmas.{lines_nil}
use Rattle.text_lines.proofs.WholeTexts.{FirstLine, first_line, line_joined, lines_are}
use Rattle.request_files.specs.Divide.{is_dividing, is_table_mark, head_size, mark_size, before, behind, line_behind, Divides}
use Rattle.request_files.specs.Laws.{AreHalves, AreParts, IsUnmarked}

-- ---- the parts of a file

drop_behind : (l next : Text) (n : ℕ) → drop (length l + n) (l ++ next) ≡ drop n next
drop_behind [] next n = let e : 0 + n ≡ n = omega arith in ap (λ k. drop k next) e
drop_behind (x ∷ l) next n = let e : suc (length l) + n ≡ suc (length l + n) = omega arith in ap (λ k. drop k (x ∷ l ++ next)) e ∙ drop_behind l next n

take_behind : (l next : Text) (n : ℕ) → take (length l + n) (l ++ next) ≡ l ++ take n next
take_behind [] next n = let e : 0 + n ≡ n = omega arith in ap (λ k. take k next) e
take_behind (x ∷ l) next n = let e : suc (length l) + n ≡ suc (length l + n) = omega arith in ap (λ k. take k (x ∷ l ++ next)) e ∙ ap (λ t. x ∷ t) (take_behind l next n)

drop_past : (l : Text) (n : ℕ) → length l ≤ n → drop n l ≡ []
drop_past [] zero h = refl
drop_past [] (suc n) h = refl
drop_past (x ∷ l) zero h = absurd (omega arith)
drop_past (x ∷ l) (suc n) h = drop_past l n (omega arith)

-- a text has no more bytes than its lines with a line feed behind each
feeds_long : (text : Text) → length text ≤ length (with_feeds (lines text))
feeds_long text = elim (lines_are text).whole [
  | inl k ↦ omega (arith, ap length k)
  | inr k ↦ omega (arith, ap length k.0, length-append text (10 ∷ []))
]

module _ (marks_line : Text → Bool) where
  -- what is told of some lines, by whether the first is the mark
  heads : (l : Text) (ls : List Text) (t : Bool) → marks_line l ≡ t → head_size marks_line (l ∷ ls) ≡ cond t 0 (length l + 1 + head_size marks_line ls)
  unfolding head_size
  heads l ls t e = ap (λ b. cond b 0 (length l + 1 + head_size marks_line ls)) e

  marks : (l : Text) (ls : List Text) (t : Bool) → marks_line l ≡ t → mark_size marks_line (l ∷ ls) ≡ cond t (length l + 1) (length l + 1 + mark_size marks_line ls)
  unfolding mark_size
  marks l ls t e = ap (λ b. cond b (length l + 1) (length l + 1 + mark_size marks_line ls)) e

  places : (l : Text) (ls : List Text) (t : Bool) → marks_line l ≡ t → position_or_len marks_line (l ∷ ls) ≡ cond (not t) (1 + position_or_len marks_line ls) 0
  places l ls t e = ap (λ b. cond (not b) (1 + position_or_len marks_line ls) 0) e

  anys : (l : Text) (ls : List Text) (t : Bool) → marks_line l ≡ t → (t || list_any marks_line ls) ≡ list_any marks_line (l ∷ ls)
  anys l ls t e = ap (λ b. b || list_any marks_line ls) (sym e)

  abbrev Parts : Text → List Text → Type 0
  Parts text ls = AreHalves marks_line text (take (head_size marks_line ls) text) (drop (mark_size marks_line ls) text) (position_or_len marks_line ls + 2)

  parts_from : (text head tail : Text) (first : ℕ) (hs ms ps : ℕ) → AreHalves marks_line text head tail first → take hs text ≡ head → drop ms text ≡ tail → ps + 2 ≡ first → AreHalves marks_line text (take hs text) (drop ms text) (ps + 2)
  parts_from text head tail first hs ms ps p h t n = subst (λ x. AreHalves marks_line text x (drop ms text) (ps + 2)) (sym h) (subst (λ x. AreHalves marks_line text head x (ps + 2)) (sym t) (subst (λ x. AreHalves marks_line text head tail x) (sym n) p))

  -- the first line is the mark
  parts_here : (text l tail : Text) (ls : List Text) → marks_line l ≡ true → ((text ≡ l ++ 10 ∷ tail) ⊎ ((text ≡ l) × (tail ≡ []))) → Parts text (l ∷ ls)
  parts_here text l tail ls e w =
      parts_from text [] tail 2 (head_size marks_line (l ∷ ls)) (mark_size marks_line (l ∷ ls)) (position_or_len marks_line (l ∷ ls))
      (record { line = l; marks = e; whole = w; head_lines = ap with_feeds lines_nil; none_before = ap (list_any marks_line) lines_nil; number = ap (λ (ls : List Text). length ls + 2) (sym lines_nil) })
      (ap (λ n. take n text) (heads l ls true e)) (ap (λ n. drop n text) (marks l ls true e) ∙ behind w) (ap (λ n. n + 2) (places l ls true e))
    where
      behind : ((text ≡ l ++ 10 ∷ tail) ⊎ ((text ≡ l) × (tail ≡ []))) → drop (length l + 1) text ≡ tail
      behind (inl k) = ap (λ t. drop (length l + 1) t) k ∙ drop_behind l (10 ∷ tail) 1
      behind (inr k) = ap (λ t. drop (length l + 1) t) k.0 ∙ drop_past l (length l + 1) (omega arith) ∙ sym k.1

  -- it doesn't, and stands before the others
  parts_later : (text l next : Text) → marks_line l ≡ false → list_all is_line_byte l ≡ true → text ≡ l ++ 10 ∷ next → Parts next (lines next) → Parts text (l ∷ lines next)
  parts_later text l next e plain is p =
      let hs : ℕ = head_size marks_line (lines next) in
      let ms : ℕ = mark_size marks_line (lines next) in
      let ps : ℕ = position_or_len marks_line (lines next) in
      let head : Text = take hs next in
      let tail : Text = drop ms next in
      let joined : lines (l ++ 10 ∷ head) ≡ l ∷ lines head = line_joined l head plain in
      parts_from text (l ++ 10 ∷ head) tail (1 + (ps + 2)) (head_size marks_line (l ∷ lines next)) (mark_size marks_line (l ∷ lines next)) (position_or_len marks_line (l ∷ lines next))
      (record {
        line = p.line;
        marks = p.marks;
        whole = elim p.whole [
          | inl k ↦ inl (is ∙ ap (λ t. l ++ 10 ∷ t) k ∙ sym (append_assoc l (10 ∷ (head ++ p.line)) (10 ∷ tail)) ∙ ap (λ t. t ++ 10 ∷ tail) (sym (append_assoc l (10 ∷ head) p.line)))
          | inr k ↦ inr (is ∙ ap (λ t. l ++ 10 ∷ t) k.0 ∙ sym (append_assoc l (10 ∷ head) p.line), k.1)
        ];
        head_lines = ap with_feeds joined ∙ ap (λ t. l ++ 10 ∷ t) p.head_lines;
        none_before = ap (list_any marks_line) joined ∙ sym (anys l (lines head) false e) ∙ p.none_before;
        number = let long : length (lines (l ++ 10 ∷ head)) ≡ suc (length (lines head)) = ap (λ (ls : List Text). length ls) joined in omega (arith, long, p.number);
      })
      (ap (λ n. take n text) (heads l (lines next) false e) ∙ ap (λ t. take (length l + 1 + hs) t) is ∙ (let k : length l + 1 + hs ≡ length l + suc hs = omega arith in ap (λ n. take n (l ++ 10 ∷ next)) k) ∙ take_behind l (10 ∷ next) (suc hs))
      (ap (λ n. drop n text) (marks l (lines next) false e) ∙ ap (λ t. drop (length l + 1 + ms) t) is ∙ (let k : length l + 1 + ms ≡ length l + suc ms = omega arith in ap (λ n. drop n (l ++ 10 ∷ next)) k) ∙ drop_behind l (10 ∷ next) (suc ms))
      (let k : position_or_len marks_line (l ∷ lines next) ≡ 1 + ps = places l (lines next) false e in omega (arith, k))

  parts_of : (n : ℕ) (text : Text) → length text ≤ n → list_any marks_line (lines text) ≡ true → Parts text (lines text)
  parts_of n [] h any = absurd (true≢false (sym any ∙ ap (list_any marks_line) lines_nil))
  parts_of zero (b ∷ bs) h any = absurd (omega arith)
  parts_of (suc n) (b ∷ bs) h any =
      let f : FirstLine (b ∷ bs) = first_line b bs in
      elim f.is [
        | inl k ↦ subst (Parts (b ∷ bs)) (sym k.1) (by_line (λ t l some. parts_of n t l some) f k.0 (ap (list_any marks_line) (sym k.1) ∙ any) (marks_line f.line) refl)
        | inr k ↦ subst (Parts (b ∷ bs)) (sym k.1) (last f k.0 (ap (list_any marks_line) (sym k.1) ∙ any) (marks_line f.line) refl)
      ]
    where
      by_line : ((t : Text) → length t ≤ n → list_any marks_line (lines t) ≡ true → Parts t (lines t)) → (f : FirstLine (b ∷ bs)) → b ∷ bs ≡ f.line ++ 10 ∷ f.next → list_any marks_line (f.line ∷ lines f.next) ≡ true → (t : Bool) → marks_line f.line ≡ t → Parts (b ∷ bs) (f.line ∷ lines f.next)
      by_line later f is some true e = parts_here (b ∷ bs) f.line f.next (lines f.next) e (inl is)
      by_line later f is some false e =
          let shorter : length f.next ≤ n = omega (arith, h, ap length is, length-append f.line (10 ∷ f.next)) in
          parts_later (b ∷ bs) f.line f.next e f.plain is (later f.next shorter (anys f.line (lines f.next) false e ∙ some))

      last : (f : FirstLine (b ∷ bs)) → b ∷ bs ≡ f.line → list_any marks_line (f.line ∷ []) ≡ true → (t : Bool) → marks_line f.line ≡ t → Parts (b ∷ bs) (f.line ∷ [])
      last f is some true e = parts_here (b ∷ bs) f.line [] [] e (inr (is, refl))
      last f is some false e = absurd (let k : false ≡ true = anys f.line [] false e ∙ some in cc)

  -- a text in which a line is the mark
  pub halves_are : (text : Text) → list_any marks_line (lines text) ≡ true → AreHalves marks_line text (before marks_line text) (behind marks_line text) (line_behind marks_line text)
  halves_are text any = parts_of (length text) text (omega arith) any

  -- ---- a text in which no line is
  none_heads : (ls : List Text) → list_any marks_line ls ≡ false → head_size marks_line ls ≡ length (with_feeds ls)
  unfolding head_size
  none_heads [] h = refl
  none_heads (l ∷ ls) h =
      let rest : head_size marks_line ls ≡ length (with_feeds ls) = none_heads ls (or_parts (marks_line l) (list_any marks_line ls) h).1 in
      let here : head_size marks_line (l ∷ ls) ≡ length l + 1 + head_size marks_line ls = heads l ls false (or_parts (marks_line l) (list_any marks_line ls) h).0 in
      here ∙ omega (arith, rest, length-append l (10 ∷ with_feeds ls))

  none_marks : (ls : List Text) → list_any marks_line ls ≡ false → mark_size marks_line ls ≡ length (with_feeds ls)
  unfolding mark_size
  none_marks [] h = refl
  none_marks (l ∷ ls) h =
      let rest : mark_size marks_line ls ≡ length (with_feeds ls) = none_marks ls (or_parts (marks_line l) (list_any marks_line ls) h).1 in
      let here : mark_size marks_line (l ∷ ls) ≡ length l + 1 + mark_size marks_line ls = marks l ls false (or_parts (marks_line l) (list_any marks_line ls) h).0 in
      here ∙ omega (arith, rest, length-append l (10 ∷ with_feeds ls))

  pub unmarked_is : (text : Text) → list_any marks_line (lines text) ≡ false → IsUnmarked marks_line text (before marks_line text) (behind marks_line text)
  unmarked_is text none = record {
    none = none;
    head_is = take_all (head_size marks_line (lines text)) text (omega (arith, none_heads (lines text) none, feeds_long text));
    tail_is = drop_all (mark_size marks_line (lines text)) text (omega (arith, none_marks (lines text) none, feeds_long text));
  }

  either_half : (text : Text) (b : Bool) → list_any marks_line (lines text) ≡ b → AreHalves marks_line text (before marks_line text) (behind marks_line text) (line_behind marks_line text) ⊎ IsUnmarked marks_line text (before marks_line text) (behind marks_line text)
  either_half text true e = inl (halves_are text e)
  either_half text false e = inr (unmarked_is text e)

abbrev Opened : Text → Text → Text → ℕ → Type 0
Opened front handlers tables n = AreHalves is_table_mark front handlers tables n ⊎ IsUnmarked is_table_mark front handlers tables

pub parts_are : (text handlers tables requests : Text) (first_table first : ℕ) → Divides text handlers tables requests first_table first → AreParts text handlers tables requests first_table first
parts_are text handlers tables requests first_table first d =
    let front : Text = before is_dividing text in
    record {
      front = front;
      divided = subst (λ n. AreHalves is_dividing text front requests n) (sym d.first_is) (subst (λ t. AreHalves is_dividing text front t (line_behind is_dividing text)) (sym d.requests_are) (halves_are is_dividing text d.marked));
      opened = subst (λ n. Opened front handlers tables n) (sym d.first_table_is)
          (subst (λ t. Opened front handlers t (line_behind is_table_mark front)) (sym d.tables_are)
          (subst (λ h. Opened front h (behind is_table_mark front) (line_behind is_table_mark front)) (sym d.handlers_are) (either_half is_table_mark front (list_any is_table_mark (lines front)) refl)));
    }
