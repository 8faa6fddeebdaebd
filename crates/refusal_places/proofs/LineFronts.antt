-- Where the line of a place begins, and how far its caret is moved in.
use Rattle.std.proofs.Common.{◌≡◌, ℕ, ◌+◌, ◌-◌, ◌<◌, ◌≤◌, inl, inr, true, ◌++◌, length, get_or, take, drop, reverse, sym, ap, ◌∙◌, subst, arith}
use Rattle.std.proofs.lemmas.Bool.{cases_lt}
use Rattle.std.proofs.lemmas.List.{get_or-drop, get_or-take, get_or-reverse, length-drop, length-map, length-reverse, length-take-le, take-append-drop, take-take}
use Rattle.std.proofs.lemmas.List.Sums.{length-filter, prefix_len-le-length, prefix_len_passes, prefix_len_stops}
use Rattle.std.specs.List.{count_by, filter}
use Rattle.text_lines.specs.Text.{Text, is_line_byte}
use Rattle.text_lines.proofs.TextLemmas.{line_stop_is}
use Rattle.refusal_places.specs.Laws.{IsLineFront}
use Rattle.refusal_places.specs.Spots.{begins_character, blank_for, column_of, indent_of, spot_at, start_of, tail_len}

tail_le : (before : Text) → tail_len before ≤ length before
tail_le before = subst (λ n. tail_len before ≤ n) (length-reverse before) (prefix_len-le-length is_line_byte (reverse before))

-- from the other end
mirrored : (before : Text) (k j : ℕ) → k < length before → j ≡ length before - 1 - k → get_or (reverse before) k 0 ≡ get_or before j 0
mirrored before k j h e = get_or-reverse before k 0 h ∙ ap (λ n. get_or before n 0) (sym e)

-- the last bytes are of a line
in_tail : (before : Text) (j : ℕ) → length before ≤ j + tail_len before → j < length before → is_line_byte (get_or before j 0) ≡ true
in_tail before j far h =
    let k : ℕ = length before - 1 - j in
    let e : j ≡ length before - 1 - k = omega (arith, h) in
    let small : k < length before = omega (arith, h) in
    let passed : k < tail_len before = omega (arith, far, h) in
    ap is_line_byte (sym (mirrored before k j small e)) ∙ prefix_len_passes is_line_byte (reverse before) k 0 passed

-- and a line feed stands before them
before_tail : (before : Text) (j : ℕ) → j + 1 + tail_len before ≡ length before → get_or before j 0 ≡ 10
before_tail before j e =
    let small : tail_len before < length before = omega (arith, e) in
    let short : tail_len before < length (reverse before) = subst (λ n. tail_len before < n) (sym (length-reverse before)) small in
    let at : j ≡ length before - 1 - tail_len before = omega (arith, e) in
    sym (mirrored before (tail_len before) j small at) ∙ line_stop_is _ (prefix_len_stops is_line_byte (reverse before) 0 short)

pub line_front : (file : Text) (at : ℕ) → at ≤ length file → IsLineFront file at (start_of file at) (spot_at file at).front
line_front file at h =
    let long : length (take at file) ≡ at = length-take-le at file h in
    let tail : tail_len (take at file) ≤ at = subst (λ n. tail_len (take at file) ≤ n) long (tail_le (take at file)) in
    let start : ℕ = start_of file at in
    let begins : start ≤ at = omega arith in
    record {
      whole = ap (λ l. l ++ drop start (take at file)) (sym (take-take start at file begins)) ∙ take-append-drop start (take at file);
      within = λ i within.
          let inside : i < at - start = subst (λ n. i < n) (length-drop start (take at file) ∙ ap (λ n. n - start) long) within in
          ap is_line_byte (get_or-drop start (take at file) i 0)
          ∙ in_tail (take at file) (start + i) (omega (arith, long, tail)) (omega (arith, long, inside));
      behind = elim (cases_lt (tail_len (take at file)) at) [
        | inl more ↦
            let last : start - 1 + 1 + tail_len (take at file) ≡ length (take at file) = omega (arith, long, more) in
            let inside : start - 1 < at = omega (arith, more) in
            inr (sym (get_or-take at file (start - 1) 0 inside) ∙ before_tail (take at file) (start - 1) last)
        | inr all ↦ inl (let e : start ≡ 0 = omega (arith, all) in e)
      ];
    }

pub in_column : (front : Text) → length (indent_of front) + 1 ≡ column_of front
in_column front =
    let e : length (indent_of front) ≡ count_by begins_character front = length-map (filter begins_character front) blank_for ∙ length-filter begins_character front in
    let s : count_by begins_character front + 1 ≡ 1 + count_by begins_character front = omega arith in
    ap (λ n. n + 1) e ∙ s
