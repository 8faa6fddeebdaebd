-- Lines that were served, with one line more.
use Rattle.std.proofs.Common.{◌≡◌, ℕ, ◌+◌, ◌<◌, List, [], ◌∷◌, ◌++◌, length, map, take, refl, sym, ◌∙◌, ap, subst, arith}
use Rattle.std.specs.List.{AllByRecursion, flat_map}
use Rattle.std.proofs.lemmas.Option.{slice_get_within}
use Rattle.session_values.specs.Opening.{Pair}
use Rattle.session_values.specs.Names.{Begins}
use Rattle.session_values.specs.ReplyText.{IsPrintable}
use Rattle.session_values.specs.declared.value.Value.{Value}
use Rattle.session_values.proofs.Named.{begins_then, printable_kept}
use Rattle.handler_check.specs.File.{File}
use Rattle.handler_check.specs.Handler.{Handler}
use Rattle.handler_check.specs.Mentions.{handler_mentions, table_mentions}
use Rattle.serve_faults.specs.Language.{HasText, HaveTexts, IsNamedFile}
use Rattle.serve_faults.proofs.Facts.{all_first, name_named}
use Rattle.text_lines.specs.Rows.{Row, names_behind, row_of, rows}
use Rattle.text_lines.specs.Text.{Text, words}
use Rattle.text_lines.specs.Values.{placed_all}
use Rattle.text_lines.proofs.PrintableLemmas.{values_printable}
use Rattle.text_lines.proofs.RowLemmas.{behind_begins, behind_nil, behind_step, rows_more, rows_nil, rows_skip}
use Rattle.text_lines.proofs.ValueLemmas.{values_kept}
use Rattle.request_files.specs.Requests.{AreKnown, ArePrintable, request_of}
use Rattle.serve_faults.specs.TableRows.{ArePrintable as ArePrintableEntries}

-- ---- all of a list, and one more
pub all_push : {X : Type 0} (P : X → Type 0) (xs : List X) (x : X) → AllByRecursion P xs → P x → AllByRecursion P (xs ++ x ∷ [])
all_push P [] x h p = (p, tt)
all_push P (y ∷ xs) x h p = (h.0, all_push P xs x h.1 p)

pub all_last : {X : Type 0} (P : X → Type 0) (xs : List X) (x : X) → AllByRecursion P (xs ++ x ∷ []) → P x
all_last P [] x h = h.0
all_last P (y ∷ xs) x h = all_last P xs x h.1

-- ---- rows
module _ (l w : Text) (ws : List Text) (is : words l ≡ w ∷ ws) where
  pub rows_push : (n : ℕ) (ls : List Text) → rows n (ls ++ l ∷ []) ≡ rows n ls ++ row_of (n + length ls) w ws ∷ []
  rows_push n [] =
      let here : n ≡ n + 0 = omega arith in
      rows_more n l [] w ws is ∙ ap (λ (rs : List Row). row_of n w ws ∷ rs) (rows_nil (n + 1)) ∙ ap (λ (m : ℕ). row_of m w ws ∷ []) here
      ∙ sym (ap (λ (rs : List Row). rs ++ row_of (n + 0) w ws ∷ []) (rows_nil n))
  rows_push n (x ∷ ls) = by_words (rows_push (n + 1) ls) (words x) refl
    where
      by_words : rows (n + 1) (ls ++ l ∷ []) ≡ rows (n + 1) ls ++ row_of (n + 1 + length ls) w ws ∷ [] → (us : List Text) → words x ≡ us → rows n (x ∷ ls ++ l ∷ []) ≡ rows n (x ∷ ls) ++ row_of (n + length (x ∷ ls)) w ws ∷ []
      by_words again [] e =
          let on : n + 1 + length ls ≡ n + length (x ∷ ls) = omega arith in
          rows_skip n x (ls ++ l ∷ []) e ∙ again ∙ ap (λ (m : ℕ). rows (n + 1) ls ++ row_of m w ws ∷ []) on
          ∙ sym (ap (λ (rs : List Row). rs ++ row_of (n + length (x ∷ ls)) w ws ∷ []) (rows_skip n x ls e))
      by_words again (u ∷ us) e =
          let on : n + 1 + length ls ≡ n + length (x ∷ ls) = omega arith in
          rows_more n x (ls ++ l ∷ []) u us e ∙ ap (λ (rs : List Row). row_of n u us ∷ rs) (again ∙ ap (λ (m : ℕ). rows (n + 1) ls ++ row_of m w ws ∷ []) on)
          ∙ sym (ap (λ (rs : List Row). rs ++ row_of (n + length (x ∷ ls)) w ws ∷ []) (rows_more n x ls u us e))

-- what doesn't look at the numbers of lines is the same from each number on
pub rows_from : {X : Type 0} (g : Row → X) → ((n m : ℕ) (w : Text) (ws : List Text) → g (row_of n w ws) ≡ g (row_of m w ws)) → (n m : ℕ) (ls : List Text) → map g (rows n ls) ≡ map g (rows m ls)
rows_from g same n m [] = ap (map g) (rows_nil n ∙ sym (rows_nil m))
rows_from g same n m (x ∷ ls) = by_words (rows_from g same (n + 1) (m + 1) ls) (words x) refl
  where
    by_words : map g (rows (n + 1) ls) ≡ map g (rows (m + 1) ls) → (us : List Text) → words x ≡ us → map g (rows n (x ∷ ls)) ≡ map g (rows m (x ∷ ls))
    by_words again [] e = ap (map g) (rows_skip n x ls e) ∙ again ∙ sym (ap (map g) (rows_skip m x ls e))
    by_words again (u ∷ us) e =
        ap (map g) (rows_more n x ls u us e) ∙ (λ i. same n m u us i ∷ again i) ∙ sym (ap (map g) (rows_more m x ls u us e))

pub behind_push : (names : List Text) (rs : List Row) (r : Row) → names_behind names (rs ++ r ∷ []) ≡ placed_all (names_behind names rs) r.args
behind_push names [] r = behind_step names r [] ∙ behind_nil (placed_all names r.args) ∙ ap (λ (ns : List Text). placed_all ns r.args) (sym (behind_nil names))
behind_push names (x ∷ rs) r = behind_step names x (rs ++ r ∷ []) ∙ behind_push (placed_all names x.args) rs r ∙ ap (λ (ns : List Text). placed_all ns r.args) (sym (behind_step names x rs))

pub behind_from : (names : List Text) (n m : ℕ) (ls : List Text) → names_behind names (rows n ls) ≡ names_behind names (rows m ls)
behind_from names n m [] = ap (names_behind names) (rows_nil n ∙ sym (rows_nil m))
behind_from names n m (x ∷ ls) = by_words (λ ns. behind_from ns (n + 1) (m + 1) ls) (words x) refl
  where
    by_words : ((ns : List Text) → names_behind ns (rows (n + 1) ls) ≡ names_behind ns (rows (m + 1) ls)) → (us : List Text) → words x ≡ us → names_behind names (rows n (x ∷ ls)) ≡ names_behind names (rows m (x ∷ ls))
    by_words again [] e = ap (names_behind names) (rows_skip n x ls e) ∙ again names ∙ sym (ap (names_behind names) (rows_skip m x ls e))
    by_words again (u ∷ us) e =
        ap (names_behind names) (rows_more n x ls u us e) ∙ behind_step names (row_of n u us) (rows (n + 1) ls)
        ∙ again (placed_all names us)
        ∙ sym (behind_step names (row_of m u us) (rows (m + 1) ls)) ∙ sym (ap (names_behind names) (rows_more m x ls u us e))

-- ---- requests, while the list of names grows
pub request_kept : (first now later : List Text) (f : File) (base : List Text) (r : Row) → Begins (placed_all base r.args) now → Begins now later → request_of first later f r ≡ request_of first now f r
unfolding request_of
request_kept first now later f base r b c =
    ap (λ (vs : List Value). record { handler = Rattle.request_files.specs.Requests.handler_of first f r.name; args = vs })
    (values_kept base r.args later (begins_then _ _ _ b c) ∙ sym (values_kept base r.args now b))

pub requests_kept : (first base now later : List Text) (f : File) (rs : List Row) → Begins (names_behind base rs) now → Begins now later → map (request_of first later f) rs ≡ map (request_of first now f) rs
requests_kept first base now later f [] b c = refl
requests_kept first base now later f (r ∷ rs) b c =
    let rest : Begins (names_behind (placed_all base r.args) rs) now = subst (λ (ns : List Text). Begins ns now) (behind_step base r rs) b in
    let here : Begins (placed_all base r.args) now = begins_then _ _ _ (behind_begins (placed_all base r.args) rs) rest in
    λ i. request_kept first now later f base r here c i ∷ requests_kept first (placed_all base r.args) now later f rs rest c i

-- ---- what can be printed
pub requests_printable : (first base : List Text) (f : File) (rs : List Row) (final : List Text) → Begins (names_behind base rs) final → ArePrintable final (map (request_of first final f) rs)
unfolding request_of
requests_printable first base f [] final p = tt
requests_printable first base f (r ∷ rs) final p =
    let rest : Begins (names_behind (placed_all base r.args) rs) final = subst (λ (ns : List Text). Begins ns final) (behind_step base r rs) p in
    (values_printable base r.args final (begins_then _ _ _ (behind_begins (placed_all base r.args) rs) rest), requests_printable first (placed_all base r.args) f rs final rest)

entries_kept : (old new : List Text) (es : List Pair) → Begins old new → AllByRecursion (λ (e : Pair). IsPrintable old e.0 × IsPrintable old e.1) es → AllByRecursion (λ (e : Pair). IsPrintable new e.0 × IsPrintable new e.1) es
entries_kept old new [] b h = tt
entries_kept old new (e ∷ es) b h = ((printable_kept old new e.0 b h.0.0, printable_kept old new e.1 b h.0.1), entries_kept old new es b h.1)

pub lists_kept : (old new : List Text) (lists : List (List Pair)) → Begins old new → ArePrintableEntries old lists → ArePrintableEntries new lists
lists_kept old new [] b h = tt
lists_kept old new (es ∷ lists) b h = (entries_kept old new es b h.0, lists_kept old new lists b h.1)

-- ---- the handlers' names are in the list
known_all : (names : List Text) (hs : List Handler) → HaveTexts names (flat_map handler_mentions hs) → AllByRecursion (λ (h : Handler). h.name < length names) hs
known_all names [] k = tt
known_all names (h ∷ hs) k =
    let parts = all_first (HasText names) (handler_mentions h) (flat_map handler_mentions hs) k in
    let named = name_named names h.name parts.0.0 in
    (slice_get_within names h.name named.text named.at, known_all names hs parts.1)

pub handlers_known : (names : List Text) (f : File) → IsNamedFile names f → AreKnown names f
handlers_known names f k = known_all names f.handlers (all_first (HasText names) (flat_map table_mentions f.tables) (flat_map handler_mentions f.handlers) k).1

-- ---- names that are taken back
pub front_back : (old new : List Text) → Begins old new → take (length old) new ≡ old
front_back old new b = ap (take (length old)) b.1 ∙ front old b.0
  where
    front : (xs ys : List Text) → take (length xs) (xs ++ ys) ≡ xs
    front [] ys = refl
    front (x ∷ xs) ys = ap (λ (l : List Text). x ∷ l) (front xs ys)
