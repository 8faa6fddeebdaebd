-- The rows of the lines between marks, what the counts come to, and the text without its marks.
use Rattle.std.proofs.Common.{◌≡◌, ℕ, ◌+◌, ◌<◌, ◌≤◌, Bool, true, false, cond, List, [], ◌∷◌, ◌++◌, length, sum, take, get_or, refl, sym, ap, ◌∙◌, subst, arith}
use Rattle.std.proofs.lemmas.List.{length-map, take_more}
use Rattle.std.proofs.lemmas.List.Sums.{sum_by-cons}
use Rattle.std.specs.List.{list_all, AllByRecursion}
use Rattle.syntax_trees.specs.declared.file.File.{File}
use Rattle.request_files.specs.declared.request.Request.{Request}
use Rattle.request_files.specs.declared.tally.Tally.{Tally}
use Rattle.text_lines.specs.Laws.{with_feeds}
use Rattle.text_lines.specs.Rows.{Row, row_of, rows}
use Rattle.text_lines.specs.Text.{Text, is_line_byte, lines, words}
use Rattle.text_lines.proofs.RowLemmas.{rows_nil, rows_pass, rows_step}
use Rattle.text_lines.proofs.TextLemmas.{lines_nil, none_left}
use Rattle.text_lines.proofs.WholeTexts.{line_joined, lines_are}
use Rattle.request_files.specs.Clients.{AreShared, is_next_mark, marks_in, row_counts, starts_from, unmarked, without_marks}
use Rattle.request_files.specs.Requests.{AreRequests, no_requests, request_of}
use Rattle.request_files.proofs.ClientLemmas.{counts_long, sum_counts, words_line, words_mark}
use Rattle.request_files.proofs.RowLemmas.{Going, going_start}

-- ---- rows, line by line

module _ (n k : ℕ) (now : List Text) (l : Text) (ls : List Text) (is : now ≡ l ∷ ls) (next : k ≡ n + 1) where
  pub mark_row : is_next_mark l ≡ true → rows n (without_marks now) ≡ rows k (without_marks ls)
  mark_row e = rows_pass n k (without_marks now) (cond (is_next_mark l) [] l) (without_marks ls) (ap without_marks is) next (words_mark l e)

  pub empty_row : is_next_mark l ≡ false → words l ≡ [] → rows n (without_marks now) ≡ rows k (without_marks ls)
  empty_row e w = rows_pass n k (without_marks now) (cond (is_next_mark l) [] l) (without_marks ls) (ap without_marks is) next (words_line l e ∙ w)

  pub client_row : (w : Text) (ws : List Text) → is_next_mark l ≡ false → words l ≡ w ∷ ws → rows n (without_marks now) ≡ row_of n w ws ∷ rows k (without_marks ls)
  client_row w ws e is_words = rows_step n n k (without_marks now) (cond (is_next_mark l) [] l) (without_marks ls) w ws (ap without_marks is) refl next (words_line l e ∙ is_words)

pub none_row : (n : ℕ) (bs : Text) → length bs ≡ 0 → rows n (without_marks (lines bs)) ≡ []
none_row n bs h = ap (λ ls. rows n (without_marks ls)) (none_left bs h) ∙ rows_nil n

-- ---- the rows that are left, in another form

module _ (old : List Text) (f : File) (rs0 : List Row) (names : List Text) where
  pub going_first : (found : List Request) (t : Tally) → found ≡ [] → t ≡ no_requests → Going old f rs0 old rs0 found t
  going_first found t none start =
      subst (λ x. Going old f rs0 old rs0 x t) (sym none) (subst (λ x. Going old f rs0 old rs0 [] x) (sym start) (going_start old f rs0))

  pub going_rows : (rs more : List Row) (found : List Request) (t : Tally) → rs ≡ more → Going old f rs0 names rs found t → Going old f rs0 names more found t
  going_rows rs more found t e g = subst (λ rs. Going old f rs0 names rs found t) e g

  pub going_found : (rs : List Row) (found more : List Request) (t : Tally) → more ≡ found → Going old f rs0 names rs found t → Going old f rs0 names rs more t
  going_found rs found more t e g = subst (λ found. Going old f rs0 names rs found t) (sym e) g

-- ---- each request is one client's

pub shared : (old new : List Text) (f : File) (first : ℕ) (ls : List Text) (found : List Request) (counts : List ℕ)
    → AreRequests old new f (rows first (without_marks ls)) found → counts ≡ row_counts ls → marks_in ls ≤ 15 → AreShared (record { requests = found; counts = counts })
shared old new f first ls found counts a is few = record {
  all = ap sum is ∙ sum_counts first ls ∙ sym (ap length a.requests ∙ length-map (rows first (without_marks ls)) (request_of old new f));
  some = omega (arith, ap length is, counts_long ls);
  few = omega (arith, ap length is, counts_long ls, few);
}

-- ---- where each client's requests begin

starts_push : (n : ℕ) (cs : List ℕ) (c : ℕ) → starts_from n (cs ++ c ∷ []) ≡ starts_from n cs ++ (n + sum cs) ∷ []
starts_push n [] c = ap (λ m. m ∷ []) (let e : n ≡ n + sum [] = omega arith in e)
starts_push n (d ∷ cs) c =
    let e : n + d + sum cs ≡ n + sum (d ∷ cs) = omega (arith, sum_by-cons (λ (x : ℕ). x) d cs) in
    ap (λ t. n ∷ t) (starts_push (n + d) cs c ∙ ap (λ m. starts_from (n + d) cs ++ m ∷ []) e)

pub starts_more : (cs : List ℕ) (i start : ℕ) → i < length cs → start ≡ sum (take i cs) → starts_from 0 (take (i + 1) cs) ≡ starts_from 0 (take i cs) ++ start ∷ []
starts_more cs i start h is =
    let e : 0 + sum (take i cs) ≡ start = omega (arith, is) in
    ap (starts_from 0) (take_more cs i 0 h) ∙ starts_push 0 (take i cs) (get_or cs i 0) ∙ ap (λ m. starts_from 0 (take i cs) ++ m ∷ []) e

-- ---- the text without its marks

lines_joined : (ls : List Text) → AllByRecursion (λ l. list_all is_line_byte l ≡ true) ls → lines (with_feeds ls) ≡ ls
lines_joined [] a = lines_nil
lines_joined (l ∷ ls) a = line_joined l (with_feeds ls) a.0 ∙ ap (λ t. l ∷ t) (lines_joined ls a.1)

still_lines : (ls : List Text) → AllByRecursion (λ l. list_all is_line_byte l ≡ true) ls → AllByRecursion (λ l. list_all is_line_byte l ≡ true) (without_marks ls)
still_lines [] a = tt
still_lines (l ∷ ls) a = (go (is_next_mark l), still_lines ls a.1)
  where
    go : (b : Bool) → list_all is_line_byte (cond b [] l) ≡ true
    go true = refl
    go false = a.0

pub unmarked_lines : (text : Text) → lines (unmarked text) ≡ without_marks (lines text)
unfolding unmarked
unmarked_lines text = lines_joined (without_marks (lines text)) (still_lines (lines text) (lines_are text).each)
