-- A session file with a line feed behind each line, and its parts.
use Rattle.std.proofs.Common.{◌≡◌, ℕ, ◌+◌, ◌<◌, inl, inr, true, false, List, [], ◌∷◌, ◌++◌, length, take, drop, IsUtf8, codes, refl, sym, ap, ◌∙◌, subst, arith, append-nil, append_assoc}
use Rattle.std.specs.List.{list_all, list_any, position_or_len}
use Rattle.std.specs.Str.{bytes_eq}
use Rattle.std.proofs.lemmas.Bool.Decides.{nat_tests}
use Rattle.std.proofs.lemmas.Slice.Eq.{bytes_eq-Decides}
use Rattle.std.proofs.lemmas.Bool.{and_from, and_parts}
use Rattle.text_lines.specs.Bytes.{is_blank}
use Rattle.text_lines.specs.Laws.{with_feeds}
use Rattle.text_lines.specs.Text.{Text, is_line_byte, lines}
use Rattle.text_lines.proofs.TextLemmas.{lines_nil}
use Rattle.text_lines.proofs.WholeTexts.{FirstLine, first_line, line_joined, lines_are}
use Rattle.request_files.specs.Divide.{before, behind, is_dividing, is_table_mark, line_behind}
use Rattle.request_files.specs.Laws.{AreHalves}
use Rattle.request_files.proofs.WholeParts.{halves_are}
use Rattle.serve_faults.specs.Input.{front_of, is_divided, parts_by, parts_of}
use Rattle.file_laws.proofs.Dividing.{IsWhole, any_is, before_is, behind_is, feeds_joined, is_line, lines_after, own_lines}
use Rattle.file_laws.proofs.Utf8.{ascii_behind}
use Rattle.file_laws.proofs.EntryLines.{lines_own}

abbrev pub fed : Text → Text
fed text = with_feeds (lines text)

-- it has the same lines, and they are whole
pub fed_lines : (text : Text) → lines (fed text) ≡ lines text
fed_lines text = lines_own (lines text) (own_lines text)

pub fed_whole : (text : Text) → IsWhole (fed text)
fed_whole text = ap with_feeds (fed_lines text)

pub fed_utf8 : (text : Text) → IsUtf8 text → IsUtf8 (fed text)
fed_utf8 text u = elim (lines_are text).whole [
  | inl k ↦ subst IsUtf8 (sym k) u
  | inr k ↦ subst IsUtf8 (sym k.0) (ascii_behind text (10 ∷ []) u (omega arith, tt))
]

-- ---- the dividing line is one line

blank_byte : (b : ℕ) → is_blank b ≡ true → is_line_byte b ≡ true
blank_byte b e = grind (arith, nat_tests, e)

blanks_plain : (bs : Text) → list_all is_blank bs ≡ true → is_line bs ≡ true
blanks_plain [] h = refl
blanks_plain (b ∷ bs) h = and_from (is_line_byte b) (is_line bs) (blank_byte b (and_parts (is_blank b) (list_all is_blank bs) h).0) (blanks_plain bs (and_parts (is_blank b) (list_all is_blank bs) h).1)

plain_by : (l : Text) → take 2 l ≡ codes "%%" → list_all is_blank (drop 2 l) ≡ true → is_line l ≡ true
plain_by [] e h = refl
plain_by (a ∷ []) e h = absurd (cc)
plain_by (a ∷ b ∷ bs) e h =
    let p : a ≡ 37 = cc in
    let q : b ≡ 37 = cc in
    and_from (is_line_byte a) (is_line (b ∷ bs)) (ap is_line_byte p) (and_from (is_line_byte b) (is_line bs) (ap is_line_byte q) (blanks_plain bs h))

dividing_plain : (l : Text) → is_dividing l ≡ true → is_line l ≡ true
unfolding is_dividing
dividing_plain l e = plain_by l ((bytes_eq-Decides (take 2 l) (codes "%%")).0 (and_parts (bytes_eq (take 2 l) (codes "%%")) (list_all is_blank (drop 2 l)) e).0) (and_parts (bytes_eq (take 2 l) (codes "%%")) (list_all is_blank (drop 2 l)) e).1

empty_none : is_dividing [] ≡ true → ⊥
unfolding is_dividing
empty_none e = cc

dividing_some : (l : Text) → is_dividing l ≡ true → 0 < length l
dividing_some [] e = absurd (empty_none e)
dividing_some (b ∷ bs) e = omega arith

-- ---- a last line without a line feed

no_feed : (xs ys : Text) → is_line (xs ++ 10 ∷ ys) ≡ true → ⊥
no_feed [] ys h = absurd (cc)
no_feed (x ∷ xs) ys h = no_feed xs ys (and_parts (is_line_byte x) (is_line (xs ++ 10 ∷ ys)) h).1

line_alone : (l : Text) → is_line l ≡ true → 0 < length l → lines l ≡ l ∷ []
line_alone [] h s = absurd (omega (arith, s))
line_alone (b ∷ bs) h s = by (first_line b bs)
  where
    by : FirstLine (b ∷ bs) → lines (b ∷ bs) ≡ (b ∷ bs) ∷ []
    by f = elim f.is [
      | inl k ↦ absurd (no_feed f.line f.next (ap is_line (sym k.0) ∙ h))
      | inr k ↦ k.1 ∙ ap (λ (t : Text). t ∷ []) (sym k.0)
    ]

-- ---- the parts

-- whole lines, a line and a tail, with their line feeds
fed_behind : (head d tail : Text) → IsWhole head → is_line d ≡ true → fed (head ++ (d ++ 10 ∷ tail)) ≡ head ++ (d ++ 10 ∷ fed tail)
fed_behind head d tail w plain =
    ap with_feeds (lines_after head (d ++ 10 ∷ tail) w ∙ ap (λ (t : List Text). lines head ++ t) (line_joined d tail plain))
    ∙ feeds_joined (lines head) (d ∷ lines tail) ∙ ap (λ (t : Text). t ++ (d ++ 10 ∷ fed tail)) w

fed_last : (head d : Text) → IsWhole head → is_line d ≡ true → 0 < length d → fed (head ++ d) ≡ head ++ (d ++ 10 ∷ [])
fed_last head d w plain some =
    ap with_feeds (lines_after head d w ∙ ap (λ (t : List Text). lines head ++ t) (line_alone d plain some))
    ∙ feeds_joined (lines head) (d ∷ []) ∙ ap (λ (t : Text). t ++ (d ++ 10 ∷ [])) w

-- a divided file: what stands before the dividing line, this line, and what stands behind it
pub record Halves (input : Text) : Type 0 where
  pub line : Text
  pub plain : is_line line ≡ true
  pub marks : is_dividing line ≡ true
  pub whole : IsWhole (front_of input)
  pub undivided : list_any is_dividing (lines (front_of input)) ≡ false
  pub is : fed input ≡ front_of input ++ (line ++ 10 ∷ fed (behind is_dividing input))

pub halves : (input : Text) → is_divided input ≡ true → Halves input
halves input marked =
    let h : AreHalves is_dividing input (front_of input) (behind is_dividing input) (line_behind is_dividing input) = halves_are is_dividing input marked in
    let plain : is_line h.line ≡ true = dividing_plain h.line h.marks in
    record {
      line = h.line;
      plain = plain;
      marks = h.marks;
      whole = h.head_lines;
      undivided = h.none_before;
      is = elim h.whole [
        | inl k ↦ ap fed (k ∙ append_assoc (front_of input) h.line (10 ∷ behind is_dividing input)) ∙ fed_behind (front_of input) h.line (behind is_dividing input) h.head_lines plain
        | inr k ↦
            ap fed k.0 ∙ fed_last (front_of input) h.line h.head_lines plain (dividing_some h.line h.marks)
            ∙ ap (λ (t : Text). front_of input ++ (h.line ++ 10 ∷ t)) (sym (ap fed k.1 ∙ ap with_feeds lines_nil))
      ];
    }

module _ (input more : Text) (marked : is_divided input ≡ true) where
  abbrev half : Halves input
  half = halves input marked

  abbrev requests : Text
  requests = behind is_dividing input

  -- with a text behind it
  pub split_still : fed input ++ more ≡ front_of input ++ ((halves input marked).line ++ 10 ∷ (fed (behind is_dividing input) ++ more))
  split_still = ap (λ (t : Text). t ++ more) half.is ∙ append_assoc (front_of input) (half.line ++ 10 ∷ fed requests) more ∙ ap (λ (t : Text). front_of input ++ t) (append_assoc half.line (10 ∷ fed requests) more)

  pub divided_still : is_divided (fed input ++ more) ≡ true
  divided_still = ap is_divided split_still ∙ any_is is_dividing (front_of input) half.line (fed requests ++ more) half.whole half.undivided half.plain half.marks

  pub front_still : front_of (fed input ++ more) ≡ front_of input
  front_still = ap front_of split_still ∙ before_is is_dividing (front_of input) half.line (fed requests ++ more) half.whole half.undivided half.plain half.marks

  pub requests_still : behind is_dividing (fed input ++ more) ≡ fed (behind is_dividing input) ++ more
  requests_still = ap (behind is_dividing) split_still ∙ behind_is is_dividing (front_of input) half.line (fed requests ++ more) half.whole half.undivided half.plain half.marks

-- the parts of the file with its line feeds: the same, and the requests with theirs
pub parts_fed : (input : Text) → is_divided input ≡ true → parts_of (fed input) ≡ parts_by (parts_of input).handlers (parts_of input).tables (fed (parts_of input).requests) (parts_of input).first_table (parts_of input).first
parts_fed input marked =
    let same : fed input ≡ fed input ++ [] = sym (append-nil (fed input)) in
    let front : front_of (fed input) ≡ front_of input = ap front_of same ∙ front_still input [] marked in
    let back : behind is_dividing (fed input) ≡ fed (behind is_dividing input) = ap (behind is_dividing) same ∙ requests_still input [] marked ∙ append-nil (fed (behind is_dividing input)) in
    let number : line_behind is_dividing (fed input) ≡ line_behind is_dividing input = ap (λ (ls : List Text). position_or_len is_dividing ls + 2) (fed_lines input) in
    λ i. parts_by (before is_table_mark (front i)) (behind is_table_mark (front i)) (back i) (line_behind is_table_mark (front i)) (number i)
