-- The lines before a mark, from the first on.
use Rattle.std.proofs.Common.{◌≡◌, ℕ, suc, ◌+◌, ◌-◌, ◌<◌, ◌≤◌, ◌⊎◌, inl, inr, Bool, true, false, not, ◌||◌, cond, min, List, [], ◌∷◌, length, take, drop, get_or, IsUtf8, refl, sym, ap, ◌∙◌, subst, arith, length-drop}
use Rattle.std.proofs.lemmas.Bool.{cases_lt}
use Rattle.std.proofs.lemmas.List.{drop_all, take_all, drop-drop, get_or-drop}
use Rattle.std.proofs.lemmas.List.Sums.{prefix_len_stops}
use Rattle.std.proofs.lemmas.Str.{IsCharBoundary-start, IsCharBoundary-end, IsCharBoundary-after_ascii}
use Rattle.std.specs.List.{list_any, position_or_len, prefix_len}
use Rattle.std.specs.Str.{IsCharBoundary}
use Rattle.text_lines.specs.Text.{Text, lines, is_line_byte}
use Rattle.text_lines.proofs.TextLemmas.{lines_some, lines_nil, line_stop_is}
use Rattle.request_files.specs.Divide.{head_size, mark_size, before, behind}
use Rattle.request_files.specs.Marks.{IsPlace, place}
use Rattle.request_files.specs.declared.mark_place.MarkPlace.{MarkPlace}

-- so many bytes are lines that don't divide, and this is the number of the next line
pub record Passed (is : Text → Bool) (text : Text) (at number : ℕ) : Type 0 where
  pub within : at ≤ length text
  pub begins : (at ≡ 0) ⊎ ((0 < at) × (get_or text (at - 1) 0 ≡ 10))
  pub any : list_any is (lines (drop at text)) ≡ list_any is (lines text)
  pub head : at + head_size is (lines (drop at text)) ≡ head_size is (lines text)
  pub mark : at + mark_size is (lines (drop at text)) ≡ mark_size is (lines text)
  pub place : number + position_or_len is (lines (drop at text)) ≡ 1 + position_or_len is (lines text)
  pub few : number ≤ at + 1

pub passed_start : (is : Text → Bool) (text : Text) → Passed is text 0 1
passed_start is text = record { within = omega arith; begins = inl refl; any = refl; head = omega arith; mark = omega arith; place = refl; few = omega arith }

pub passed_start_boundary : (is : Text → Bool) (text : Text) (at number : ℕ) → IsUtf8 text → Passed is text at number → IsCharBoundary text at
passed_start_boundary is text at number utf8 p = elim p.begins [
  | inl z ↦ subst (IsCharBoundary text) (sym z) (IsCharBoundary-start text utf8)
  | inr f ↦ let e : at - 1 + 1 ≡ at = omega (arith, f.0) in
      subst (IsCharBoundary text) e (IsCharBoundary-after_ascii text (at - 1) utf8 (omega (arith, f.0, p.within)) (omega (arith, f.1)))
]

-- the line at a place divides
module _ (is : Text → Bool) (text : Text) (at number : ℕ) (l : Text) (ls : List Text) (p : Passed is text at number) (these : lines (drop at text) ≡ l ∷ ls) where
  by_any : (b : Bool) → is l ≡ b → (b || list_any is ls) ≡ list_any is (lines text)
  by_any b e = ap (λ b. b || list_any is ls) (sym e) ∙ ap (list_any is) (sym these) ∙ p.any

  head_by : (b : Bool) → is l ≡ b → at + cond b 0 (length l + 1 + head_size is ls) ≡ head_size is (lines text)
  unfolding head_size
  head_by b e = ap (λ b. at + cond b 0 (length l + 1 + head_size is ls)) (sym e) ∙ ap (λ x. at + head_size is x) (sym these) ∙ p.head

  mark_by : (b : Bool) → is l ≡ b → at + cond b (length l + 1) (length l + 1 + mark_size is ls) ≡ mark_size is (lines text)
  unfolding mark_size
  mark_by b e = ap (λ b. at + cond b (length l + 1) (length l + 1 + mark_size is ls)) (sym e) ∙ ap (λ x. at + mark_size is x) (sym these) ∙ p.mark

  place_by : (b : Bool) → is l ≡ b → number + cond (not b) (1 + position_or_len is ls) 0 ≡ 1 + position_or_len is (lines text)
  place_by b e = ap (λ b. number + cond (not b) (1 + position_or_len is ls) 0) (sym e) ∙ ap (λ x. number + position_or_len is x) (sym these) ∙ p.place

  -- it is the mark
  pub place_here : (n : ℕ) → is l ≡ true → n ≡ min (at + (length l + 1)) (length text) → (IsUtf8 text → IsCharBoundary text at × IsCharBoundary text n) → IsPlace is text (place true at n (number + 1))
  place_here n e end edges = record {
    found = by_any true e;
    front = omega (arith, head_by true e, p.within);
    rest = omega (arith, mark_by true e, end);
    next = omega (arith, place_by true e);
    few = omega (arith, p.few, p.within);
    order = omega (arith, end, p.within);
    edges = edges;
  }

  -- it is the last line, and no mark
  pub place_last : is l ≡ false → ls ≡ [] → at < length text → length text ≤ at + (length l + 1) → IsPlace is text (place false (length text) (length text) (number + 2))
  place_last e last some all =
      let none : position_or_len is ls ≡ 0 = ap (position_or_len is) last in
      record {
        found = sym (ap (list_any is) last) ∙ by_any false e;
        front = omega (arith, head_by false e, all);
        rest = omega (arith, mark_by false e, all);
        next = omega (arith, place_by false e, none);
        few = omega (arith, p.few, some);
        order = omega arith;
        edges = λ u. (IsCharBoundary-end text, IsCharBoundary-end text);
      }

  pub passed_more : (now : ℕ) → is l ≡ false → now ≡ at + (length l + 1) → ls ≡ lines (drop now text) → now ≤ length text → get_or text (now - 1) 0 ≡ 10 → Passed is text now (number + 1)
  passed_more now e same rest within feed = record {
    within = within;
    begins = inr (omega arith, feed);
    any = ap (list_any is) (sym rest) ∙ by_any false e;
    head = ap (λ x. now + head_size is x) (sym rest) ∙ omega (arith, head_by false e);
    mark = ap (λ x. now + mark_size is x) (sym rest) ∙ omega (arith, mark_by false e);
    place = ap (λ x. number + 1 + position_or_len is x) (sym rest) ∙ omega (arith, place_by false e);
    few = omega (arith, p.few);
  }

-- the line at a place
pub line_at : (text rest line : Text) (at n : ℕ) → at < length text → rest ≡ drop at text → n ≡ prefix_len is_line_byte rest → line ≡ take n rest → lines (drop at text) ≡ line ∷ lines (drop (suc n) rest)
line_at text rest line at n h r e l =
    let same : prefix_len is_line_byte (drop at text) ≡ n = ap (prefix_len is_line_byte) (sym r) ∙ sym e in
    lines_some (drop at text) (omega (arith, length-drop at text))
    ∙ ap (λ n. take n (drop at text) ∷ lines (drop (suc n) (drop at text))) same
    ∙ ap (λ r. take n r ∷ lines (drop (suc n) r)) (sym r)
    ∙ ap (λ l. l ∷ lines (drop (suc n) rest)) (sym l)

pub rest_at : (text rest : Text) (at n now : ℕ) → rest ≡ drop at text → now ≡ at + (n + 1) → lines (drop (suc n) rest) ≡ lines (drop now text)
rest_at text rest at n now r e = ap (λ r. lines (drop (suc n) r)) r ∙ ap lines (drop-drop (suc n) at text) ∙ ap (λ k. lines (drop k text)) (let k : at + suc n ≡ now = omega (arith, e) in k)

-- where a line ends before the text does, a line feed stands
pub feed_at : (text rest : Text) (at n : ℕ) → rest ≡ drop at text → n ≡ prefix_len is_line_byte rest → n < length rest → get_or text (at + n) 0 ≡ 10
feed_at text rest at n r e h =
    let stop : is_line_byte (get_or rest n 0) ≡ false = ap (λ n. is_line_byte (get_or rest n 0)) e ∙ prefix_len_stops is_line_byte rest 0 (omega (arith, e)) in
    sym (get_or-drop at text n 0) ∙ ap (λ r. get_or r n 0) (sym r) ∙ line_stop_is _ stop

pub boundary_next : (text rest : Text) (at n : ℕ) → IsUtf8 text → at ≤ length text → rest ≡ drop at text → n ≡ prefix_len is_line_byte rest → IsCharBoundary text (min (at + n + 1) (length text))
boundary_next text rest at n utf8 within r e = elim (cases_lt n (length rest)) [
  | inl h ↦ let k : at + n + 1 ≡ min (at + n + 1) (length text) = omega (arith, ap length r, length-drop at text) in
      subst (IsCharBoundary text) k (IsCharBoundary-after_ascii text (at + n) utf8 (omega (arith, ap length r, length-drop at text)) (omega (arith, feed_at text rest at n r e h)))
  | inr h ↦ let k : length text ≡ min (at + n + 1) (length text) = omega (arith, ap length r, length-drop at text) in subst (IsCharBoundary text) k (IsCharBoundary-end text)
]

pub last_line : (rest : Text) (n : ℕ) → length rest ≤ n → lines (drop (suc n) rest) ≡ []
last_line rest n h = ap lines (drop_all (suc n) rest (omega arith)) ∙ lines_nil

-- all lines were passed
pub place_left : (is : Text → Bool) (text : Text) (at number : ℕ) → Passed is text at number → length text ≤ at → IsPlace is text (place false (length text) (length text) (number + 1))
place_left is text at number p all =
    let none : position_or_len is (lines (drop at text)) ≡ 0 = ap (λ t. position_or_len is (lines t)) (drop_all at text all) ∙ ap (position_or_len is) lines_nil in
    record {
      found = sym (ap (list_any is) lines_nil) ∙ ap (λ t. list_any is (lines t)) (sym (drop_all at text all)) ∙ p.any;
      front = omega (arith, p.head, all);
      rest = omega (arith, p.mark, all);
      next = omega (arith, p.place, none);
      few = omega (arith, p.few, p.within);
      order = omega arith;
      edges = λ u. (IsCharBoundary-end text, IsCharBoundary-end text);
    }

-- ---- what a place cuts

pub take_min : (n : ℕ) (text : Text) → take (min n (length text)) text ≡ take n text
take_min n text = elim (cases_lt n (length text)) [
  | inl h ↦ ap (λ k. take k text) (let e : min n (length text) ≡ n = omega arith in e)
  | inr h ↦ let e : min n (length text) ≡ length text = omega arith in ap (λ k. take k text) e ∙ take_all (length text) text (omega arith) ∙ sym (take_all n text (omega arith))
]

pub drop_min : (n : ℕ) (text : Text) → drop (min n (length text)) text ≡ drop n text
drop_min n text = elim (cases_lt n (length text)) [
  | inl h ↦ ap (λ k. drop k text) (let e : min n (length text) ≡ n = omega arith in e)
  | inr h ↦ let e : min n (length text) ≡ length text = omega arith in ap (λ k. drop k text) e ∙ drop_all (length text) text (omega arith) ∙ sym (drop_all n text (omega arith))
]

pub cut_front : (is : Text → Bool) (text : Text) (p : MarkPlace) → IsPlace is text p → take p.front text ≡ before is text
cut_front is text p k = ap (λ n. take n text) k.front ∙ take_min (head_size is (lines text)) text

pub cut_rest : (is : Text → Bool) (text : Text) (p : MarkPlace) → IsPlace is text p → drop p.rest text ≡ behind is text
cut_rest is text p k = ap (λ n. drop n text) k.rest ∙ drop_min (mark_size is (lines text)) text
