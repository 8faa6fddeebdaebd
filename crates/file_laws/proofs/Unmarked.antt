-- No line of requests without a fault is `%% trace`.
use Rattle.std.proofs.Common.{◌≡◌, ℕ, ◌+◌, ◌<◌, ◌≤◌, Bool, true, false, not, ◌==◌, nat_le, cond, List, [], ◌∷◌, length, take, Option, Some, None, codes, refl, sym, ap, ◌∙◌, arith}
use Rattle.std.specs.List.{list_any, position_or_len, AllByRecursion}
use Rattle.std.specs.Option.{option_or}
use Rattle.std.specs.Str.{bytes_eq}
use Rattle.std.proofs.lemmas.Bool.Decides.{nat_tests}
use Rattle.std.proofs.lemmas.Slice.Eq.{bytes_eq-Decides}
use Rattle.std.proofs.lemmas.Bool.{leb-false, or_from, or_parts}
use Rattle.session_values.specs.Names.{place_of}
use Rattle.handler_check.specs.File.{File}
use Rattle.handler_check.specs.Handler.{Handler}
use Rattle.text_lines.specs.Rows.{Row, row_of, rows}
use Rattle.text_lines.specs.Text.{Text, words}
use Rattle.text_lines.specs.Values.{is_symbol}
use Rattle.text_lines.proofs.RowLemmas.{rows_more, rows_skip}
use Rattle.request_files.specs.declared.refusal.RequestRefusal.{RequestRefusal}
use Rattle.request_files.specs.Requests.{AreKnown, fault_of, first_fault, handler_of, with_request}
use Rattle.request_files.proofs.RowLemmas.{fault_step}

-- ---- `%%` is no handler's name

no_symbol : is_symbol (codes "%%") ≡ true → ⊥
unfolding is_symbol
no_symbol e = cc

unnamed : (names : List Text) → AllByRecursion (λ t. is_symbol t ≡ true) names → list_any (bytes_eq (codes "%%")) names ≡ false
unnamed [] a = refl
unnamed (t ∷ ts) a = or_from (bytes_eq (codes "%%") t) (list_any (bytes_eq (codes "%%")) ts) (go (bytes_eq (codes "%%") t) refl) (unnamed ts a.1)
  where
    go : (b : Bool) → bytes_eq (codes "%%") t ≡ b → bytes_eq (codes "%%") t ≡ false
    go false e = e
    go true e = absurd (no_symbol (ap is_symbol ((bytes_eq-Decides (codes "%%") t).0 e) ∙ a.0))

place_past : (t : Text) (names : List Text) → list_any (bytes_eq t) names ≡ false → length names ≤ place_of names t
place_past t [] h = omega arith
place_past t (x ∷ xs) h =
    let here : place_of (x ∷ xs) t ≡ 1 + place_of xs t = ap (λ b. cond (not b) (1 + place_of xs t) 0) (or_parts (bytes_eq t x) (list_any (bytes_eq t) xs) h).0 in
    omega (arith, here, place_past t xs (or_parts (bytes_eq t x) (list_any (bytes_eq t) xs) h).1)

other_name : (m n : ℕ) → m < n → (m == n) ≡ false
other_name m n h = grind (arith, nat_tests, h)

handler_past : (m n : ℕ) (hs : List Handler) → AllByRecursion (λ (h : Handler). h.name < m) hs → m ≤ n → length hs ≤ position_or_len (λ (h : Handler). h.name == n) hs
handler_past m n [] k h = omega arith
handler_past m n (x ∷ xs) k h =
    let here : position_or_len (λ (h : Handler). h.name == n) (x ∷ xs) ≡ 1 + position_or_len (λ (h : Handler). h.name == n) xs = ap (λ b. cond (not b) (1 + position_or_len (λ (h : Handler). h.name == n) xs) 0) (other_name x.name n (omega (arith, k.0, h))) in
    omega (arith, here, handler_past m n xs k.1 h)

no_handler : (names : List Text) (f : File) → AllByRecursion (λ t. is_symbol t ≡ true) names → AreKnown names f → length f.handlers ≤ handler_of names f (codes "%%")
unfolding handler_of
no_handler names f a k = handler_past (length names) (place_of names (codes "%%")) f.handlers k (place_past (codes "%%") names (unnamed names a))

-- ---- rows without a fault

none_both : (a b : Option RequestRefusal) → option_or a b ≡ None → (a ≡ None) × (b ≡ None)
none_both None b e = (refl, e)
none_both (Some x) b e = absurd (cc)

no_fault : (b : Bool) (x : RequestRefusal) (y : Option RequestRefusal) → cond b (Some x) y ≡ None → (b ≡ false) × (y ≡ None)
no_fault false x y e = (refl, e)
no_fault true x y e = absurd (cc)

has_handler : (names : List Text) (f : File) (t : _) (r : Row) → fault_of names f t r ≡ None → handler_of names f r.name < length f.handlers
unfolding fault_of
has_handler names f t r e = leb-false (length f.handlers) (handler_of names f r.name) (no_fault (nat_le (length f.handlers) (handler_of names f r.name)) _ _ (no_fault (nat_le 20000 t.requests) _ _ e).1).0

-- ---- lines

-- a line that begins so
record BeginsSo (l : Text) : Type 0 where
  rest : Text
  is : l ≡ 37 ∷ 37 ∷ 32 ∷ rest

begins_so : (l : Text) → take 8 l ≡ codes "%% trace" → BeginsSo l
begins_so [] e = absurd (cc)
begins_so (a ∷ []) e = absurd (cc)
begins_so (a ∷ b ∷ []) e = absurd (cc)
begins_so (a ∷ b ∷ c ∷ rest) e =
    let p : a ≡ 37 = cc in
    let q : b ≡ 37 = cc in
    let r : c ≡ 32 = cc in
    record { rest = rest; is = λ i. p i ∷ q i ∷ r i ∷ rest }

its_words : (rest : Text) → words (37 ∷ 37 ∷ 32 ∷ rest) ≡ codes "%%" ∷ words rest
unfolding words
its_words rest = refl

module _ (is : Text → Bool) (says : (l : Text) → is l ≡ true → take 8 l ≡ codes "%% trace") (names : List Text) (f : File) (symbols : AllByRecursion (λ t. is_symbol t ≡ true) names) (known : AreKnown names f) where
  row_unmarked : (n : ℕ) (l : Text) (ls : List Text) (t : _) → first_fault names f t (rows n (l ∷ ls)) ≡ None → (b : Bool) → is l ≡ b → is l ≡ false
  row_unmarked n l ls t e false m = m
  row_unmarked n l ls t e true m =
      let s : BeginsSo l = begins_so l (says l m) in
      let ws : words l ≡ codes "%%" ∷ words s.rest = ap words s.is ∙ its_words s.rest in
      let r : Row = row_of n (codes "%%") (words s.rest) in
      let fine : first_fault names f t (r ∷ rows (n + 1) ls) ≡ None = ap (first_fault names f t) (sym (rows_more n l ls (codes "%%") (words s.rest) ws)) ∙ e in
      let none : fault_of names f t r ≡ None = (none_both _ _ (sym (fault_step names f t r (rows (n + 1) ls)) ∙ fine)).0 in
      absurd (omega (arith, has_handler names f t r none, no_handler names f symbols known))

  pub lines_unmarked : (n : ℕ) (ls : List Text) (t : _) → first_fault names f t (rows n ls) ≡ None → list_any is ls ≡ false
  lines_unmarked n [] t e = refl
  lines_unmarked n (l ∷ ls) t e = or_from (is l) (list_any is ls) (row_unmarked n l ls t e (is l) refl) (others (words l) refl (λ u h. lines_unmarked (n + 1) ls u h))
    where
      others : (ws : List Text) → words l ≡ ws → ((u : _) → first_fault names f u (rows (n + 1) ls) ≡ None → list_any is ls ≡ false) → list_any is ls ≡ false
      others [] w go = go t (ap (first_fault names f t) (sym (rows_skip n l ls w)) ∙ e)
      others (w ∷ ws) q go =
          let r : Row = row_of n w ws in
          let fine : first_fault names f t (r ∷ rows (n + 1) ls) ≡ None = ap (first_fault names f t) (sym (rows_more n l ls w ws q)) ∙ e in
          go (with_request f (handler_of names f w) t) (none_both _ _ (sym (fault_step names f t r (rows (n + 1) ls)) ∙ fine)).1
