-- The parts of a file that is made of its parts.
use Rattle.std.proofs.Common.{◌≡◌, ℕ, ◌+◌, Bool, true, false, ◌||◌, ◌⊎◌, inl, inr, cond, List, [], ◌∷◌, ◌++◌, length, take, drop, refl, sym, ap, ◌∙◌, subst, arith, append_assoc, length-append}
use Rattle.std.proofs.Math.Seq.{take-append_seam, drop-append-add}
use Rattle.std.proofs.lemmas.Bool.{and_from, or_from, and_parts, or_parts}
use Rattle.std.specs.List.{list_all, list_any, AllByRecursion}
use Rattle.text_lines.specs.Text.{Text, is_line_byte, lines}
use Rattle.text_lines.specs.Laws.{with_feeds}
use Rattle.text_lines.proofs.WholeTexts.{line_joined, lines_are}
use Rattle.request_files.specs.Divide.{is_dividing, is_table_mark, head_size, mark_size, before, behind}
use Rattle.request_files.specs.Laws.{AreParts}
use Rattle.request_files.proofs.WholeParts.{parts_are}
use Rattle.serve_faults.specs.Input.{Parts, parts_of, is_divided}

-- ---- tests

pub any_joined : (p : Text → Bool) (xs ys : List Text) → list_any p xs ≡ false → list_any p ys ≡ false → list_any p (xs ++ ys) ≡ false
any_joined p [] ys h k = k
any_joined p (x ∷ xs) ys h k = or_from (p x) (list_any p (xs ++ ys)) (or_parts (p x) (list_any p xs) h).0 (any_joined p xs ys (or_parts (p x) (list_any p xs) h).1 k)

any_front : (p : Text → Bool) (xs ys : List Text) → list_any p (xs ++ ys) ≡ false → list_any p xs ≡ false
any_front p [] ys h = refl
any_front p (x ∷ xs) ys h = or_from (p x) (list_any p xs) (or_parts (p x) (list_any p (xs ++ ys)) h).0 (any_front p xs ys (or_parts (p x) (list_any p (xs ++ ys)) h).1)

-- ---- whole lines

abbrev pub is_line : Text → Bool
is_line l = list_all is_line_byte l

pub lines_behind : (ls : List Text) (rest : Text) → list_all is_line ls ≡ true → lines (with_feeds ls ++ rest) ≡ ls ++ lines rest
lines_behind [] rest h = refl
lines_behind (l ∷ ls) rest h =
    ap lines (append_assoc l (10 ∷ with_feeds ls) rest) ∙ line_joined l (with_feeds ls ++ rest) (and_parts (is_line l) (list_all is_line ls) h).0
    ∙ ap (λ t. l ∷ t) (lines_behind ls rest (and_parts (is_line l) (list_all is_line ls) h).1)

all_lines : (ls : List Text) → AllByRecursion (λ (l : Text). list_all is_line_byte l ≡ true) ls → list_all is_line ls ≡ true
all_lines [] h = refl
all_lines (l ∷ ls) h = and_from (is_line l) (list_all is_line ls) h.0 (all_lines ls h.1)

pub own_lines : (text : Text) → list_all is_line (lines text) ≡ true
own_lines text = all_lines (lines text) (lines_are text).each

-- the text is whole lines, each with its line feed
abbrev pub IsWhole : Text → Type 0
IsWhole text = with_feeds (lines text) ≡ text

-- what stands behind whole lines has its own lines
pub lines_after : (head rest : Text) → IsWhole head → lines (head ++ rest) ≡ lines head ++ lines rest
lines_after head rest w = ap (λ (t : Text). lines (t ++ rest)) (sym w) ∙ lines_behind (lines head) rest (own_lines head)

pub feeds_joined : (xs ys : List Text) → with_feeds (xs ++ ys) ≡ with_feeds xs ++ with_feeds ys
feeds_joined [] ys = refl
feeds_joined (x ∷ xs) ys = ap (λ t. x ++ 10 ∷ t) (feeds_joined xs ys) ∙ sym (append_assoc x (10 ∷ with_feeds xs) (with_feeds ys))

pub whole_joined : (head rest : Text) → IsWhole head → IsWhole rest → IsWhole (head ++ rest)
whole_joined head rest w v =
    ap with_feeds (lines_after head rest w) ∙ feeds_joined (lines head) (lines rest) ∙ ap (λ (t : Text). t ++ with_feeds (lines rest)) w ∙ ap (λ (t : Text). head ++ t) v

-- ---- what a mark behind lines that are none tells

module _ (is : Text → Bool) (d : Text) (more : List Text) (marks : is d ≡ true) where
  pub head_behind : (ls : List Text) → list_any is ls ≡ false → head_size is (ls ++ d ∷ more) ≡ length (with_feeds ls)
  unfolding head_size
  head_behind [] h = ap (λ b. cond b 0 (length d + 1 + head_size is more)) marks
  head_behind (l ∷ ls) h =
      let rest : head_size is (ls ++ d ∷ more) ≡ length (with_feeds ls) = head_behind ls (or_parts (is l) (list_any is ls) h).1 in
      ap (λ b. cond b 0 (length l + 1 + head_size is (ls ++ d ∷ more))) (or_parts (is l) (list_any is ls) h).0
      ∙ omega (arith, rest, length-append l (10 ∷ with_feeds ls))

  pub mark_behind : (ls : List Text) → list_any is ls ≡ false → mark_size is (ls ++ d ∷ more) ≡ length (with_feeds ls) + (length d + 1)
  unfolding mark_size
  mark_behind [] h =
      ap (λ b. cond b (length d + 1) (length d + 1 + mark_size is more)) marks ∙ omega arith
  mark_behind (l ∷ ls) h =
      let rest : mark_size is (ls ++ d ∷ more) ≡ length (with_feeds ls) + (length d + 1) = mark_behind ls (or_parts (is l) (list_any is ls) h).1 in
      ap (λ b. cond b (length l + 1) (length l + 1 + mark_size is (ls ++ d ∷ more))) (or_parts (is l) (list_any is ls) h).0
      ∙ omega (arith, rest, length-append l (10 ∷ with_feeds ls))

  any_behind : (ls : List Text) → list_any is (ls ++ d ∷ more) ≡ true
  any_behind [] = ap (λ b. b || list_any is more) marks
  any_behind (l ∷ ls) = go (is l) (any_behind ls)
    where
      go : (b : Bool) → list_any is (ls ++ d ∷ more) ≡ true → (b || list_any is (ls ++ d ∷ more)) ≡ true
      go true k = refl
      go false k = k

-- whole lines of which none is the mark, the mark, and a text
module _ (is : Text → Bool) (head d tail : Text) (whole : IsWhole head) (none : list_any is (lines head) ≡ false) (plain : is_line d ≡ true) (marks : is d ≡ true) where
  abbrev text : Text
  text = head ++ (d ++ 10 ∷ tail)

  pub text_lines : lines text ≡ lines head ++ d ∷ lines tail
  text_lines = lines_after head (d ++ 10 ∷ tail) whole ∙ ap (λ (t : List Text). lines head ++ t) (line_joined d tail plain)

  pub any_is : list_any is (lines text) ≡ true
  any_is = ap (list_any is) text_lines ∙ any_behind is d (lines tail) marks (lines head)

  pub before_is : before is text ≡ head
  before_is =
      ap (λ (l : List Text). take (head_size is l) text) text_lines
      ∙ ap (λ n. take n text) (head_behind is d (lines tail) marks (lines head) none)
      ∙ ap (λ (t : Text). take (length t) text) whole
      ∙ take-append_seam head (d ++ 10 ∷ tail)

  pub behind_is : behind is text ≡ tail
  behind_is =
      ap (λ (l : List Text). drop (mark_size is l) text) text_lines
      ∙ ap (λ n. drop n text) (mark_behind is d (lines tail) marks (lines head) none)
      ∙ ap (λ (t : Text). drop (length t + (length d + 1)) text) whole
      ∙ drop-append-add head (d ++ 10 ∷ tail) (length d + 1)
      ∙ drop-append-add d (10 ∷ tail) 1

-- ---- the handlers of a session file

-- whole lines without a mark
pub record IsFront (text : Text) : Type 0 where
  pub whole : IsWhole text
  pub undivided : list_any is_dividing (lines text) ≡ false
  pub unmarked : list_any is_table_mark (lines text) ≡ false

-- whole lines at the front of a text without a dividing line have none
front_undivided : (front head line tail : Text) → IsWhole head → ((front ≡ head ++ line ++ 10 ∷ tail) ⊎ ((front ≡ head ++ line) × (tail ≡ []))) → list_any is_dividing (lines front) ≡ false → list_any is_dividing (lines head) ≡ false
front_undivided front head line tail w (inl k) h = any_front is_dividing (lines head) (lines (line ++ 10 ∷ tail)) (ap (list_any is_dividing) (sym (lines_after head (line ++ 10 ∷ tail) w) ∙ ap lines (sym (k ∙ append_assoc head line (10 ∷ tail)))) ∙ h)
front_undivided front head line tail w (inr k) h = any_front is_dividing (lines head) (lines line) (ap (list_any is_dividing) (sym (lines_after head line w) ∙ ap lines (sym k.0)) ∙ h)

parts_front : (input handlers tables requests : Text) (first_table first : ℕ) → AreParts input handlers tables requests first_table first → IsFront handlers
parts_front input handlers tables requests first_table first a = elim a.opened [
  | inl h ↦ record { whole = h.head_lines; undivided = front_undivided a.front handlers h.line tables h.head_lines h.whole a.divided.none_before; unmarked = h.none_before }
  | inr u ↦ record {
    whole = subst IsWhole (sym u.head_is) a.divided.head_lines;
    undivided = ap (λ (t : Text). list_any is_dividing (lines t)) u.head_is ∙ a.divided.none_before;
    unmarked = ap (λ (t : Text). list_any is_table_mark (lines t)) u.head_is ∙ u.none;
  }
]

pub handlers_front : (input : Text) → is_divided input ≡ true → IsFront (parts_of input).handlers
handlers_front input marked =
    let p : Parts = parts_of input in
    parts_front input p.handlers p.tables p.requests p.first_table p.first (parts_are input p.handlers p.tables p.requests p.first_table p.first (record {
      marked = marked;
      handlers_are = refl;
      tables_are = refl;
      requests_are = refl;
      first_table_is = refl;
      first_is = refl;
    }))
