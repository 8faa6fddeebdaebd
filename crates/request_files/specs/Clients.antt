-- A request part that is divided among clients by lines `%% next`.
use Rattle.std.specs.Prelude.{◌≡◌, ℕ, ◌+◌, ◌≤◌, Bool, ◌&&◌, if◌then◌else◌, List, [], ◌∷◌, length, map, sum, take, drop, codes}
use Rattle.std.specs.List.{list_all, count_by}
use Rattle.std.specs.Str.{bytes_eq}
use Rattle.text_lines.specs.Bytes.{is_blank}
use Rattle.text_lines.specs.Laws.{with_feeds}
use Rattle.text_lines.specs.Rows.{rows}
use Rattle.text_lines.specs.Text.{Text, lines}
use Rattle.request_files.specs.declared.request.Request.{Request}

-- ---- marks

-- the line with which the next client's requests begin: `%% next`, and then blanks only
unfoldable pub is_next_mark : Text → Bool
is_next_mark l = bytes_eq (take 7 l) (codes "%% next") && list_all is_blank (drop 7 l)

-- how many of the lines are marks
abbrev pub marks_in : List Text → ℕ
marks_in ls = count_by is_next_mark ls

-- the lines, with an empty one in place of each mark
abbrev pub without_marks : List Text → List Text
without_marks ls = map (λ l. if is_next_mark l then [] else l) ls

-- the text of these lines: as if it weren't divided, each request at the line where it stands
unfoldable pub unmarked : Text → Text
unmarked text = with_feeds (without_marks (lines text))

-- ---- the clients' parts

-- a line put before the first part
abbrev pub put_first : Text → List (List Text) → List (List Text)
put_first l [] = (l ∷ []) ∷ []
put_first l (p ∷ ps) = (l ∷ p) ∷ ps

-- the lines before the first mark, those between each mark and the next, those behind the last
unfoldable pub parted : List Text → List (List Text)
parted [] = [] ∷ []
parted (l ∷ ls) = if is_next_mark l then [] ∷ parted ls else put_first l (parted ls)

-- how many requests each client has
abbrev pub row_counts : List Text → List ℕ
row_counts ls = map (λ part. length (rows 0 part)) (parted ls)

-- ---- what contracts see

-- the requests of all clients, one client's behind the other's, and how many each has
pub record ClientsView : Type 0 where
  pub requests : List Request
  pub counts : List ℕ

-- the number of each client's first request, where the first client's is this
abbrev pub starts_from : ℕ → List ℕ → List ℕ
starts_from n [] = []
starts_from n (c ∷ cs) = n ∷ starts_from (n + c) cs

-- each request is one of the clients', of whom there are 1 to 16
pub record AreShared (v : ClientsView) : Type 0 where
  pub all : sum v.counts ≡ length v.requests
  pub some : 1 ≤ length v.counts
  pub few : length v.counts ≤ 16
