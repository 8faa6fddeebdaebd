-- What each client has of the lines of a request part, line by line.
use Rattle.std.proofs.Common.{◌≡◌, ℕ, zero, suc, ◌+◌, ◌<◌, ◌≤◌, Bool, true, false, ◌&&◌, cond, List, [], ◌∷◌, ◌++◌, length, map, sum, take, get_or, refl, sym, ap, ◌∙◌, arith, append_assoc, one-add}
use Rattle.std.proofs.lemmas.List.Sums.{sum_by-cons, sum_by_more_le}
use Rattle.std.proofs.lemmas.Bool.{and_parts}
use Rattle.std.specs.List.{list_all, prefix_len}
use Rattle.text_lines.specs.Rows.{Row, row_before, rows}
use Rattle.text_lines.specs.Text.{Text, is_line_byte, lines, words, attach}
use Rattle.text_lines.proofs.TextLemmas.{line_of, lines_nil}
use Rattle.text_lines.proofs.RowLemmas.{rows_nil}
use Rattle.text_lines.proofs.WholeTexts.{line_on}
use Rattle.request_files.specs.Clients.{is_next_mark, marks_in, without_marks, put_first, parted, row_counts, starts_from}

-- ---- how many rows

-- the rows of a line with these words
abbrev pub ones : List Text → ℕ
ones [] = 0
ones (w ∷ ws) = 1

by_words : (n : ℕ) (ws : List Text) (rs : List Row) → length (row_before n ws rs) ≡ ones ws + length rs
by_words n [] rs = omega arith
by_words n (w ∷ ws) rs = omega arith

rows_line : (n : ℕ) (l : Text) (ls : List Text) → length (rows n (l ∷ ls)) ≡ ones (words l) + length (rows (n + 1) ls)
unfolding rows
rows_line n l ls = by_words n (words l) (rows (n + 1) ls)

rows_long : (n m : ℕ) (ls : List Text) → length (rows n ls) ≡ length (rows m ls)
rows_long n m [] = ap length (rows_nil n) ∙ sym (ap length (rows_nil m))
rows_long n m (l ∷ ls) = rows_line n l ls ∙ ap (λ k. ones (words l) + k) (rows_long (n + 1) (m + 1) ls) ∙ sym (rows_line m l ls)

-- ---- how many each client has

-- the counts with so many more for the first client
abbrev pub more_first : ℕ → List ℕ → List ℕ
more_first k [] = k ∷ []
more_first k (c ∷ cs) = (k + c) ∷ cs

abbrev count_of : List Text → ℕ
count_of part = length (rows 0 part)

put_counts : (l : Text) (ps : List (List Text)) → map count_of (put_first l ps) ≡ more_first (ones (words l)) (map count_of ps)
put_counts l [] = ap (λ n. n ∷ []) (let e : length (rows 1 []) ≡ 0 = ap length (rows_nil 1) in omega (arith, rows_line 0 l [], e))
put_counts l (p ∷ ps) = ap (λ n. n ∷ map count_of ps) (rows_line 0 l p ∙ ap (λ n. ones (words l) + n) (rows_long 1 0 p))

pub counts_nil : row_counts [] ≡ 0 ∷ []
unfolding parted
counts_nil = ap (λ n. n ∷ []) (ap length (rows_nil 0))

pub counts_mark : (l : Text) (ls : List Text) → is_next_mark l ≡ true → row_counts (l ∷ ls) ≡ 0 ∷ row_counts ls
unfolding parted
counts_mark l ls e = ap (λ b. map count_of (cond b ([] ∷ parted ls) (put_first l (parted ls)))) e ∙ ap (λ n. n ∷ row_counts ls) (ap length (rows_nil 0))

pub counts_line : (l : Text) (ls : List Text) → is_next_mark l ≡ false → row_counts (l ∷ ls) ≡ more_first (ones (words l)) (row_counts ls)
unfolding parted
counts_line l ls e = ap (λ b. map count_of (cond b ([] ∷ parted ls) (put_first l (parted ls)))) e ∙ put_counts l (parted ls)

pub more_twice : (j k : ℕ) (cs : List ℕ) → more_first j (more_first k cs) ≡ more_first (j + k) cs
more_twice j k [] = refl
more_twice j k (c ∷ cs) = ap (λ n. n ∷ cs) (let e : j + (k + c) ≡ j + k + c = omega arith in e)

no_more : (ls : List Text) → more_first 0 (row_counts ls) ≡ row_counts ls
no_more [] = ap (more_first 0) counts_nil ∙ sym counts_nil
no_more (l ∷ ls) = go (is_next_mark l) refl
  where
    go : (b : Bool) → is_next_mark l ≡ b → more_first 0 (row_counts (l ∷ ls)) ≡ row_counts (l ∷ ls)
    go true e = ap (more_first 0) (counts_mark l ls e) ∙ sym (counts_mark l ls e)
    go false e =
        let k : 0 + ones (words l) ≡ ones (words l) = omega arith in
        ap (more_first 0) (counts_line l ls e) ∙ more_twice 0 (ones (words l)) (row_counts ls) ∙ ap (λ n. more_first n (row_counts ls)) k ∙ sym (counts_line l ls e)

-- ---- some lines are read: clients whose lines ended have these counts, the next has so many so far

pub Counting : List Text → List ℕ → ℕ → List Text → Type 0
Counting all done mine ls = done ++ more_first mine (row_counts ls) ≡ row_counts all

module _ (all : List Text) where
  pub counting_start : Counting all [] 0 all
  unfolding Counting
  counting_start = no_more all

  module _ (done : List ℕ) (mine : ℕ) (now : List Text) (l : Text) (ls : List Text) (is : now ≡ l ∷ ls) (c : Counting all done mine now) where
    here : done ++ more_first mine (row_counts (l ∷ ls)) ≡ row_counts all
    unfolding Counting
    here = ap (λ ls. done ++ more_first mine (row_counts ls)) (sym is) ∙ c

    pub counting_mark : is_next_mark l ≡ true → Counting all (done ++ mine ∷ []) 0 ls
    unfolding Counting
    counting_mark e =
        let k : mine ≡ mine + 0 = omega arith in
        append_assoc done (mine ∷ []) (more_first 0 (row_counts ls)) ∙ ap (λ cs. done ++ mine ∷ cs) (no_more ls) ∙ ap (λ n. done ++ n ∷ row_counts ls) k
        ∙ ap (λ cs. done ++ more_first mine cs) (sym (counts_mark l ls e)) ∙ here

    line : (k : ℕ) → is_next_mark l ≡ false → ones (words l) ≡ k → Counting all done (mine + k) ls
    unfolding Counting
    line k e w =
        ap (λ cs. done ++ cs) (sym (more_twice mine k (row_counts ls))) ∙ ap (λ n. done ++ more_first mine (more_first n (row_counts ls))) (sym w)
        ∙ ap (λ cs. done ++ more_first mine cs) (sym (counts_line l ls e)) ∙ here

    pub counting_pass : is_next_mark l ≡ false → words l ≡ [] → Counting all done mine ls
    unfolding Counting
    counting_pass e w = let k : mine ≡ mine + 0 = omega arith in ap (λ n. done ++ more_first n (row_counts ls)) k ∙ line 0 e (ap ones w)

    pub counting_row : (w : Text) (ws : List Text) → is_next_mark l ≡ false → words l ≡ w ∷ ws → Counting all done (mine + 1) ls
    counting_row w ws e is = line 1 e (ap ones is)

  pub counting_end : (done : List ℕ) (mine : ℕ) → Counting all done mine [] → done ++ mine ∷ [] ≡ row_counts all
  unfolding Counting
  counting_end done mine c = let k : mine ≡ mine + 0 = omega arith in ap (λ n. done ++ n ∷ []) k ∙ ap (λ cs. done ++ more_first mine cs) (sym counts_nil) ∙ c

-- ---- all together

abbrev blank : Text → Text
blank l = cond (is_next_mark l) [] l

abbrev words_but : Text → List Text
words_but l = words (blank l)

pub words_mark : (l : Text) → is_next_mark l ≡ true → words (cond (is_next_mark l) [] l) ≡ []
unfolding words
words_mark l e = ap (λ b. words (cond b [] l)) e

pub words_line : (l : Text) → is_next_mark l ≡ false → words (cond (is_next_mark l) [] l) ≡ words l
words_line l e = ap (λ b. words (cond b [] l)) e

sum_more : (k : ℕ) (cs : List ℕ) → sum (more_first k cs) ≡ k + sum cs
sum_more k [] = omega (arith, sum_by-cons (λ (x : ℕ). x) k [])
sum_more k (c ∷ cs) = omega (arith, sum_by-cons (λ (x : ℕ). x) (k + c) cs, sum_by-cons (λ (x : ℕ). x) c cs)

pub sum_counts : (n : ℕ) (ls : List Text) → sum (row_counts ls) ≡ length (rows n (without_marks ls))
sum_counts n [] = ap sum counts_nil ∙ sym (ap length (rows_nil n))
sum_counts n (l ∷ ls) = go (sum_counts (n + 1) ls) (is_next_mark l) refl
  where
    go : sum (row_counts ls) ≡ length (rows (n + 1) (without_marks ls)) → (b : Bool) → is_next_mark l ≡ b → sum (row_counts (l ∷ ls)) ≡ length (rows n (without_marks (l ∷ ls)))
    go rest true e =
        let long : length (rows n (without_marks (l ∷ ls))) ≡ ones (words (blank l)) + length (rows (n + 1) (without_marks ls)) = rows_line n (blank l) (without_marks ls) in
        let none : ones (words (blank l)) ≡ 0 = ap ones (words_mark l e) in
        let here : sum (row_counts (l ∷ ls)) ≡ sum (0 ∷ row_counts ls) = ap sum (counts_mark l ls e) in
        omega (arith, long, none, here, sum_by-cons (λ (x : ℕ). x) 0 (row_counts ls), rest)
    go rest false e =
        let long : length (rows n (without_marks (l ∷ ls))) ≡ ones (words (blank l)) + length (rows (n + 1) (without_marks ls)) = rows_line n (blank l) (without_marks ls) in
        let same : ones (words (blank l)) ≡ ones (words l) = ap ones (words_line l e) in
        let here : sum (row_counts (l ∷ ls)) ≡ sum (more_first (ones (words l)) (row_counts ls)) = ap sum (counts_line l ls e) in
        omega (arith, long, same, here, sum_more (ones (words l)) (row_counts ls), rest)

marks_step : (l : Text) (ls : List Text) → marks_in (l ∷ ls) ≡ cond (is_next_mark l) 1 0 + marks_in ls
marks_step l ls = sum_by-cons (λ (l : Text). cond (is_next_mark l) 1 0) l ls

pub marks_here : (l : Text) (ls : List Text) → is_next_mark l ≡ true → marks_in (l ∷ ls) ≡ 1 + marks_in ls
marks_here l ls e = marks_step l ls ∙ ap (λ b. cond b 1 0 + marks_in ls) e

pub marks_not : (l : Text) (ls : List Text) → is_next_mark l ≡ false → marks_in (l ∷ ls) ≡ marks_in ls
marks_not l ls e = marks_step l ls ∙ ap (λ b. cond b 1 0 + marks_in ls) e ∙ (let k : 0 + marks_in ls ≡ marks_in ls = omega arith in k)

long_more : (k : ℕ) (cs : List ℕ) → 1 ≤ length cs → length (more_first k cs) ≡ length cs
long_more k [] h = absurd (omega arith)
long_more k (c ∷ cs) h = refl

pub counts_long : (ls : List Text) → length (row_counts ls) ≡ marks_in ls + 1
counts_long [] = ap length counts_nil
counts_long (l ∷ ls) = go (counts_long ls) (is_next_mark l) refl
  where
    go : length (row_counts ls) ≡ marks_in ls + 1 → (b : Bool) → is_next_mark l ≡ b → length (row_counts (l ∷ ls)) ≡ marks_in (l ∷ ls) + 1
    go rest true e =
        let here : length (row_counts (l ∷ ls)) ≡ suc (length (row_counts ls)) = ap length (counts_mark l ls e) in
        omega (arith, here, marks_here l ls e, rest)
    go rest false e =
        let here : length (row_counts (l ∷ ls)) ≡ length (more_first (ones (words l)) (row_counts ls)) = ap length (counts_line l ls e) in
        omega (arith, here, long_more (ones (words l)) (row_counts ls) (omega (arith, rest)), marks_not l ls e, rest)

-- ---- where each client's requests begin

pub start_at : (n : ℕ) (cs : List ℕ) (p : ℕ) → p < length cs → get_or (starts_from n cs) p 0 ≡ n + sum (take p cs)
start_at n [] p h = absurd (omega arith)
start_at n (c ∷ cs) zero h = omega arith
start_at n (c ∷ cs) (suc p) h = omega (arith, start_at (n + c) cs p (omega arith), sum_by-cons (λ (x : ℕ). x) c (take p cs))

pub starts_long : (n : ℕ) (cs : List ℕ) → length (starts_from n cs) ≡ length cs
starts_long n [] = refl
starts_long n (c ∷ cs) = ap suc (starts_long (n + c) cs)

pub place_within : (cs : List ℕ) (p : ℕ) → p < length cs → sum (take p cs) + get_or cs p 0 ≤ sum cs
place_within cs p h = sum_by_more_le (λ (x : ℕ). x) cs p 0 h

-- ---- a line alone

pub line_plain : (bs : Text) → list_all is_line_byte (line_of bs) ≡ true
line_plain [] = refl
line_plain (b ∷ bs) = go (line_plain bs) (is_line_byte b) refl
  where
    go : list_all is_line_byte (line_of bs) ≡ true → (t : Bool) → is_line_byte b ≡ t → list_all is_line_byte (line_of (b ∷ bs)) ≡ true
    go later true e = ap (λ t. list_all is_line_byte (take (cond t (1 + prefix_len is_line_byte bs) 0) (b ∷ bs))) e ∙ ap (λ k. list_all is_line_byte (take k (b ∷ bs))) (one-add (prefix_len is_line_byte bs)) ∙ ap (λ t. t && list_all is_line_byte (line_of bs)) e ∙ later
    go later false e = ap (λ t. list_all is_line_byte (take (cond t (1 + prefix_len is_line_byte bs) 0) (b ∷ bs))) e

pub line_alone : (l : Text) → list_all is_line_byte l ≡ true → 0 < length l → lines l ≡ l ∷ []
line_alone [] p h = absurd (omega arith)
line_alone (b ∷ []) p h = line_on b [] (and_parts (is_line_byte b) true p).0 ∙ ap (attach b) lines_nil
line_alone (b ∷ c ∷ cs) p h = line_on b (c ∷ cs) (and_parts (is_line_byte b) (list_all is_line_byte (c ∷ cs)) p).0 ∙ ap (attach b) (line_alone (c ∷ cs) (and_parts (is_line_byte b) (list_all is_line_byte (c ∷ cs)) p).1 (omega arith))

pub none_alone : (l : Text) → list_all is_line_byte l ≡ true → lines l ≡ [] → words l ≡ []
unfolding words
none_alone [] p e = refl
none_alone (b ∷ bs) p e = absurd (let k : (b ∷ bs) ∷ [] ≡ [] = sym (line_alone (b ∷ bs) p (omega arith)) ∙ e in cc)

pub first_alone : (l r : Text) (rs : List Text) → list_all is_line_byte l ≡ true → lines l ≡ r ∷ rs → r ≡ l
first_alone [] r rs p e = absurd (let k : [] ≡ r ∷ rs = sym lines_nil ∙ e in cc)
first_alone (b ∷ bs) r rs p e = let k : (b ∷ bs) ∷ [] ≡ r ∷ rs = sym (line_alone (b ∷ bs) p (omega arith)) ∙ e in cc
