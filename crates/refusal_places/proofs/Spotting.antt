-- Lines counted one by one, and the blanks before a caret.
use Rattle.std.proofs.Common.{◌≡◌, ℕ, zero, suc, ◌+◌, ◌-◌, ◌<◌, true, false, cond, min, [], ◌∷◌, ◌++◌, length, get_or, take, drop, map, Some, None, slice_get, refl, sym, ap, ◌∙◌, arith}
use Rattle.std.proofs.lemmas.List.{append-nil, map-append, drop_all}
use Rattle.std.proofs.lemmas.List.Elements.{filter_more}
use Rattle.std.specs.List.{filter, prefix_len}
use Rattle.text_lines.specs.Text.{Text, is_line_byte, lines}
use Rattle.text_lines.proofs.TextLemmas.{lines_cut, lines_some, none_left}
use Rattle.refusal_places.specs.Spots.{begins_character, blank_for, indent_of, line_of}

-- ---- lines

-- one line on, to what stands at the next one
step_cut : (bs next : Text) (n m : ℕ) → n ≡ prefix_len is_line_byte bs → next ≡ drop (min (n + 1) (length bs)) bs → 0 < m
    → slice_get (lines bs) m ≡ slice_get (lines next) (m - 1)
step_cut bs next n zero is cut h = absurd (omega (arith, h))
step_cut [] next n (suc k) is cut h =
    let e : next ≡ [] = cut ∙ drop_all _ [] (omega arith) in
    ap (λ l. slice_get l (suc k)) (none_left [] refl) ∙ ap (λ l. slice_get l (suc k - 1)) (sym (none_left [] refl)) ∙ ap (λ t. slice_get (lines t) (suc k - 1)) (sym e)
step_cut (b ∷ bs) next n (suc k) is cut h =
    let e : k ≡ suc k - 1 = omega arith in
    ap (λ l. slice_get l (suc k)) (lines_cut (b ∷ bs) (take n (b ∷ bs)) next n (omega arith) is refl cut) ∙ ap (slice_get (lines next)) e

-- where a line feed ends the first line
pub nth_step : (bs next : Text) (n m : ℕ) → n ≡ prefix_len is_line_byte bs → n < length bs → next ≡ drop (n + 1) bs → 0 < m
    → slice_get (lines bs) m ≡ slice_get (lines next) (m - 1)
nth_step bs next n m is within cut h =
    let e : n + 1 ≡ min (n + 1) (length bs) = omega (arith, within) in
    step_cut bs next n m is (cut ∙ ap (λ k. drop k bs) e) h

-- where none does, no line stands behind it
pub nth_past : (bs : Text) (n m : ℕ) → n ≡ prefix_len is_line_byte bs → n ≡ length bs → 0 < m → slice_get (lines bs) m ≡ None
nth_past bs n m is all h =
    step_cut bs (drop (min (n + 1) (length bs)) bs) n m is refl h
    ∙ ap (λ t. slice_get (lines t) (m - 1)) (drop_all (min (n + 1) (length bs)) bs (omega (arith, all)))
    ∙ ap (λ l. slice_get l (m - 1)) (none_left [] refl)

-- the first line, if there is one
pub first_line : (bs : Text) (m : ℕ) → m ≡ 0 → 0 < length bs → slice_get (lines bs) m ≡ Some (line_of bs)
first_line bs m e h = ap (slice_get (lines bs)) e ∙ ap (λ l. slice_get l 0) (lines_some bs h)

pub no_line : (bs : Text) (m : ℕ) → length bs ≡ 0 → slice_get (lines bs) m ≡ None
no_line bs m h = ap (λ l. slice_get l m) (none_left bs h)

-- ---- blanks

-- a byte that begins a character
pub indent_more : (xs : Text) (i d : ℕ) → i < length xs → begins_character (get_or xs i d) ≡ true
    → indent_of (take (i + 1) xs) ≡ indent_of (take i xs) ++ blank_for (get_or xs i d) ∷ []
indent_more xs i d h e =
    ap (map blank_for) (filter_more begins_character xs i d h ∙ ap (λ b. filter begins_character (take i xs) ++ cond b (get_or xs i d ∷ []) []) e)
    ∙ map-append blank_for (filter begins_character (take i xs)) (get_or xs i d ∷ [])

-- another one
pub indent_same : (xs : Text) (i d : ℕ) → i < length xs → begins_character (get_or xs i d) ≡ false
    → indent_of (take (i + 1) xs) ≡ indent_of (take i xs)
indent_same xs i d h e =
    ap (map blank_for) (filter_more begins_character xs i d h ∙ ap (λ b. filter begins_character (take i xs) ++ cond b (get_or xs i d ∷ []) []) e ∙ append-nil _)
