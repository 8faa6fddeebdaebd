-- The parts of a text whose first part has these lines.
use Rattle.std.proofs.Common.{◌≡◌, ℕ, ◌+◌, Bool, true, false, not, ◌||◌, cond, List, [], ◌∷◌, ◌++◌, length, take, drop, refl, sym, ap, ◌∙◌, arith, append_assoc, append-nil, length-append}
use Rattle.std.specs.Prelude.{codes}
use Rattle.std.proofs.Math.Seq.{take-append_seam, drop-append-add}
use Rattle.std.proofs.lemmas.Bool.{and_from, and_parts, or_parts}
use Rattle.std.specs.List.{list_all, list_any, position_or_len}
use Rattle.text_lines.specs.Text.{Text, is_line_byte, lines}
use Rattle.serve_faults.specs.Divide.{is_dividing, is_table_mark, head_size, mark_size, before, behind, line_behind}
use Rattle.serve_faults.specs.Laws.{IsUnmarked}
use Rattle.serve_faults.proofs.WholeParts.{unmarked_is}
use Rattle.text_lines.proofs.TextLemmas.{lines_nil}
use Rattle.text_lines.specs.Laws.{with_feeds}
use Rattle.text_lines.proofs.WholeTexts.{line_joined}
use Rattle.serve_faults.specs.Input.{parts_by, parts_of, is_divided}

-- ---- tests of all elements

pub all_joined : {X : Type 0} (p : X → Bool) (xs ys : List X) → list_all p xs ≡ true → list_all p ys ≡ true → list_all p (xs ++ ys) ≡ true
all_joined p [] ys h k = k
all_joined p (x ∷ xs) ys h k = and_from (p x) (list_all p (xs ++ ys)) (and_parts (p x) (list_all p xs) h).0 (all_joined p xs ys (and_parts (p x) (list_all p xs) h).1 k)

pub all_weaker : {X : Type 0} (p q : X → Bool) → ((x : X) → p x ≡ true → q x ≡ true) → (xs : List X) → list_all p xs ≡ true → list_all q xs ≡ true
all_weaker p q f [] h = refl
all_weaker p q f (x ∷ xs) h = and_from (q x) (list_all q xs) (f x (and_parts (p x) (list_all p xs) h).0) (all_weaker p q f xs (and_parts (p x) (list_all p xs) h).1)

-- ---- lines

abbrev pub is_line : Text → Bool
is_line l = list_all is_line_byte l

pub lines_behind : (ls : List Text) (rest : Text) → list_all is_line ls ≡ true → lines (with_feeds ls ++ rest) ≡ ls ++ lines rest
lines_behind [] rest h = refl
lines_behind (l ∷ ls) rest h =
    ap lines (append_assoc l (10 ∷ with_feeds ls) rest) ∙ line_joined l (with_feeds ls ++ rest) (and_parts (is_line l) (list_all is_line ls) h).0
    ∙ ap (λ t. l ∷ t) (lines_behind ls rest (and_parts (is_line l) (list_all is_line ls) h).1)

-- ---- what a dividing line behind lines that divide nothing tells

module _ (d : Text) (more : List Text) (divides : is_dividing d ≡ true) where
  head_behind : (ls : List Text) → list_any is_dividing ls ≡ false → head_size is_dividing (ls ++ d ∷ more) ≡ length (with_feeds ls)
  unfolding head_size
  head_behind [] h = ap (λ b. cond b 0 (length d + 1 + head_size is_dividing more)) divides
  head_behind (l ∷ ls) h =
      let rest : head_size is_dividing (ls ++ d ∷ more) ≡ length (with_feeds ls) = head_behind ls (or_parts (is_dividing l) (list_any is_dividing ls) h).1 in
      ap (λ b. cond b 0 (length l + 1 + head_size is_dividing (ls ++ d ∷ more))) (or_parts (is_dividing l) (list_any is_dividing ls) h).0
      ∙ omega (arith, rest, length-append l (10 ∷ with_feeds ls))

  mark_behind : (ls : List Text) → list_any is_dividing ls ≡ false → mark_size is_dividing (ls ++ d ∷ more) ≡ length (with_feeds ls) + (length d + 1)
  unfolding mark_size
  mark_behind [] h =
      ap (λ b. cond b (length d + 1) (length d + 1 + mark_size is_dividing more)) divides ∙ omega arith
  mark_behind (l ∷ ls) h =
      let rest : mark_size is_dividing (ls ++ d ∷ more) ≡ length (with_feeds ls) + (length d + 1) = mark_behind ls (or_parts (is_dividing l) (list_any is_dividing ls) h).1 in
      ap (λ b. cond b (length l + 1) (length l + 1 + mark_size is_dividing (ls ++ d ∷ more))) (or_parts (is_dividing l) (list_any is_dividing ls) h).0
      ∙ omega (arith, rest, length-append l (10 ∷ with_feeds ls))

  place_behind : (ls : List Text) → list_any is_dividing ls ≡ false → position_or_len is_dividing (ls ++ d ∷ more) ≡ length ls
  place_behind [] h = ap (λ b. cond (not b) (1 + position_or_len is_dividing more) 0) divides
  place_behind (l ∷ ls) h =
      let rest : position_or_len is_dividing (ls ++ d ∷ more) ≡ length ls = place_behind ls (or_parts (is_dividing l) (list_any is_dividing ls) h).1 in
      ap (λ b. cond (not b) (1 + position_or_len is_dividing (ls ++ d ∷ more)) 0) (or_parts (is_dividing l) (list_any is_dividing ls) h).0
      ∙ omega (arith, rest)

  any_behind : (ls : List Text) → list_any is_dividing (ls ++ d ∷ more) ≡ true
  any_behind [] = ap (λ b. b || list_any is_dividing more) divides
  any_behind (l ∷ ls) = go (is_dividing l) (any_behind ls)
    where
      go : (b : Bool) → list_any is_dividing (ls ++ d ∷ more) ≡ true → (b || list_any is_dividing (ls ++ d ∷ more)) ≡ true
      go true k = refl
      go false k = k

-- ---- a text of such lines, a dividing line and others

module _ (ls : List Text) (plain : list_all is_line ls ≡ true) (none : list_any is_dividing ls ≡ false) (unmarked : list_any is_table_mark ls ≡ false) (rest : Text) where
  divides : is_dividing (codes "%%") ≡ true
  unfolding is_dividing
  divides = refl

  abbrev whole : Text
  whole = with_feeds ls ++ (codes "%%\n" ++ rest)

  whole_lines : lines whole ≡ ls ++ codes "%%" ∷ lines rest
  whole_lines = lines_behind ls (codes "%%\n" ++ rest) plain ∙ ap (λ t. ls ++ t) (line_joined (codes "%%") rest refl)

  pub divided : is_divided whole ≡ true
  divided = ap (list_any is_dividing) whole_lines ∙ any_behind (codes "%%") (lines rest) divides ls

  front_is : before is_dividing whole ≡ with_feeds ls
  front_is =
      ap (λ (l : List Text). take (head_size is_dividing l) whole) whole_lines
      ∙ ap (λ n. take n whole) (head_behind (codes "%%") (lines rest) divides ls none)
      ∙ take-append_seam (with_feeds ls) (codes "%%\n" ++ rest)

  requests_are : behind is_dividing whole ≡ rest
  requests_are =
      ap (λ (l : List Text). drop (mark_size is_dividing l) whole) whole_lines
      ∙ ap (λ n. drop n whole) (mark_behind (codes "%%") (lines rest) divides ls none)
      ∙ drop-append-add (with_feeds ls) (codes "%%\n" ++ rest) 3

  first_is : line_behind is_dividing whole ≡ length ls + 2
  first_is = ap (λ (l : List Text). position_or_len is_dividing l + 2) whole_lines ∙ ap (λ n. n + 2) (place_behind (codes "%%") (lines rest) divides ls none)

  -- no line of the handlers is the mark of a table part
  no_tables : IsUnmarked is_table_mark (with_feeds ls) (before is_table_mark (with_feeds ls)) (behind is_table_mark (with_feeds ls))
  no_tables =
      let own : lines (with_feeds ls) ≡ ls = ap lines (sym (append-nil (with_feeds ls))) ∙ lines_behind ls [] plain ∙ ap (λ t. ls ++ t) lines_nil ∙ append-nil ls in
      unmarked_is is_table_mark (with_feeds ls) (ap (list_any is_table_mark) own ∙ unmarked)

  abbrev pub table_line : ℕ
  table_line = line_behind is_table_mark (with_feeds ls)

  pub parts_are : parts_of whole ≡ parts_by (with_feeds ls) [] rest table_line (length ls + 2)
  parts_are =
      ap (λ (f : Text). parts_by (before is_table_mark f) (behind is_table_mark f) (behind is_dividing whole) (line_behind is_table_mark f) (line_behind is_dividing whole)) front_is
      ∙ ap (λ (h : Text). parts_by h (behind is_table_mark (with_feeds ls)) (behind is_dividing whole) table_line (line_behind is_dividing whole)) no_tables.head_is
      ∙ ap (λ (t : Text). parts_by (with_feeds ls) t (behind is_dividing whole) table_line (line_behind is_dividing whole)) no_tables.tail_is
      ∙ ap (λ (r : Text). parts_by (with_feeds ls) [] r table_line (line_behind is_dividing whole)) requests_are
      ∙ ap (parts_by (with_feeds ls) [] rest table_line) first_is
