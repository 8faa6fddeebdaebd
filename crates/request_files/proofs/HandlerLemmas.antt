-- The handler of a name, while the list of names grows.
use Rattle.std.proofs.Common.{◌≡◌, ℕ, suc, ◌+◌, ◌<◌, ◌≤◌, Bool, true, false, not, ◌||◌, ◌==◌, cond, List, [], ◌∷◌, ◌++◌, length, Option, Some, None, refl, sym, ap, ◌∙◌, subst, arith, ◌⊎◌, inl, inr, ltb}
use Rattle.std.proofs.lemmas.Bool.{false≢true}
use Rattle.std.proofs.lemmas.Bool.Decides.{nat_tests}
use Rattle.std.proofs.lemmas.List.{append-nil}
use Rattle.std.proofs.lemmas.List.Sums.{prefix_len-le-length}
use Rattle.std.specs.List.{position, position_or_len, AllByRecursion, flat_map}
use Rattle.std.specs.Str.{bytes_eq}
use Rattle.std.specs.Prelude.{slice_get}
use Rattle.std.proofs.lemmas.Option.{slice_get_within}
use Rattle.session_values.specs.Names.{AreDistinct, Begins, place_of}
use Rattle.syntax_trees.specs.declared.file.File.{File}
use Rattle.syntax_trees.specs.declared.file.Handler.{Handler}
use Rattle.syntax_trees.specs.Mentions.{IsBelow, AreNamed, table_mentions, handler_mentions, file_mentions}
use Rattle.syntax_trees.proofs.Mentions.{all_first}
use Rattle.text_lines.specs.Text.{Text}
use Rattle.request_files.specs.Requests.{AreKnown, handler_of, IsHandler}
use Rattle.text_lines.proofs.ValueLemmas.{known, place_kept}
use Rattle.session_values.proofs.NamesLemmas.{choice, no_choice, place_is}

abbrev named : ℕ → Handler → Bool
named n h = h.name == n

one_not : (x : Handler) (xs : List Handler) (n : ℕ) → named n x ≡ false → length xs ≤ position_or_len (named n) xs → suc (length xs) ≤ position_or_len (named n) (x ∷ xs)
one_not x xs n e h = let k : position_or_len (named n) (x ∷ xs) ≡ 1 + position_or_len (named n) xs = ap (λ b. cond (not b) (1 + position_or_len (named n) xs) 0) e in omega arith

-- a place behind all names is no handler's
not_named : (m n : ℕ) (hs : List Handler) → AllByRecursion (λ (h : Handler). h.name < m) hs → m ≤ n → length hs ≤ position_or_len (named n) hs
not_named m n [] k h = omega arith
not_named m n (x ∷ xs) k h =
    let e : named n x ≡ false = (let less : x.name < n = omega (arith, k.0) in grind (arith, nat_tests)) in
    one_not x xs n e (not_named m n xs k.1 h)

pub handler_none : (names : List Text) (f : File) (name : Text) → AreKnown names f → None ≡ position (bytes_eq name) names → length f.handlers ≤ handler_of names f name
unfolding handler_of
handler_none names f name k e =
    not_named (length names) (place_of names name) f.handlers k (no_choice (place_of names name) (length names) _ refl (sym e))

-- a name that stands at a place is found there
pub place_found : (names : List Text) (name : Text) (place : ℕ) → AreDistinct names → slice_get names place ≡ Some name → Some place ≡ position (bytes_eq name) names
place_found names name place apart at =
    let same : place ≡ place_of names name = place_is name names place apart at in
    let within : place_of names name < length names = omega (arith, same, slice_get_within names place name at) in
    let low : ltb (place_of names name) (length names) ≡ true = grind (arith, nat_tests, within) in
    ap Some same ∙ ap (λ (b : Bool). cond b (Some (place_of names name)) None) (sym low)

found_at : (p : Handler → Bool) (hs : List Handler) (b : Bool) → ltb (position_or_len p hs) (length hs) ≡ b
    → (length hs ≤ position_or_len p hs) × (position p hs ≡ None) ⊎ (position p hs ≡ Some (position_or_len p hs)) × (position_or_len p hs < length hs)
found_at p hs true e = inr (ap (λ b. cond b (Some (position_or_len p hs)) None) e, grind (arith, nat_tests))
found_at p hs false e = inl (grind (arith, nat_tests), ap (λ b. cond b (Some (position_or_len p hs)) None) e)

by_place : (names : List Text) (f : File) (name : Text) → IsHandler names f name (position (named (place_of names name)) f.handlers)
unfolding handler_of
by_place names f name =
    elim (found_at (named (place_of names name)) f.handlers _ refl) [
      | inl h ↦ subst (IsHandler names f name) (sym h.1) h.0
      | inr h ↦ subst (IsHandler names f name) (sym h.0) (refl, h.1)
    ]

pub handler_some : (names : List Text) (f : File) (name : Text) (place : ℕ) (o : Option ℕ) → Some place ≡ position (bytes_eq name) names → o ≡ position (λ (h : Handler). h.name == place) f.handlers → IsHandler names f name o
handler_some names f name place o e is =
    let c = choice (place_of names name) (length names) place _ refl (sym e) in
    subst (IsHandler names f name) (ap (λ n. position (named n) f.handlers) c.0 ∙ sym is) (by_place names f name)

-- ---- the same handler among more names

pub place_new : (t : Text) (names more : List Text) → known t names ≡ false → length names ≤ place_of (names ++ more) t
place_new t [] more h = omega arith
place_new t (x ∷ xs) more h = go (bytes_eq t x) refl (place_new t xs more) where
  go : (b : Bool) → bytes_eq t x ≡ b → (known t xs ≡ false → length xs ≤ place_of (xs ++ more) t) → suc (length xs) ≤ place_of (x ∷ xs ++ more) t
  go true e ih = let k : known t (x ∷ xs) ≡ true = ap (λ b. (b || known t xs)) e in absurd (false≢true (sym h ∙ k))
  go false e ih =
      let k : place_of (x ∷ xs ++ more) t ≡ 1 + place_of (xs ++ more) t = ap (λ b. cond (not b) (1 + place_of (xs ++ more) t) 0) e in
      let r : length xs ≤ place_of (xs ++ more) t = (let k : known t (x ∷ xs) ≡ known t xs = ap (λ b. (b || known t xs)) e in ih (sym k ∙ h)) in omega arith

kept_by : (old more : List Text) (f : File) (name : Text) (b : Bool) → known name old ≡ b → AreKnown old f → handler_of (old ++ more) f name ≡ handler_of old f name
unfolding handler_of
kept_by old more f name true e k = ap (λ n. position_or_len (named n) f.handlers) (place_kept name old more e)
kept_by old more f name false e k =
    let hs : List Handler = f.handlers in
    let a : length hs ≤ position_or_len (named (place_of (old ++ more) name)) hs = not_named (length old) _ hs k (place_new name old more e) in
    let b : length old ≤ place_of old name = subst (λ x. length old ≤ place_of x name) (append-nil old) (place_new name old [] e) in
    let c : length hs ≤ position_or_len (named (place_of old name)) hs = not_named (length old) _ hs k b in
    omega (arith, prefix_len-le-length (λ h. not (named (place_of (old ++ more) name) h)) hs, prefix_len-le-length (λ h. not (named (place_of old name) h)) hs)

pub handler_kept : (old now : List Text) (f : File) (name : Text) → Begins old now → AreKnown old f → handler_of now f name ≡ handler_of old f name
handler_kept old now f name p k = ap (λ x. handler_of x f name) p.1 ∙ kept_by old p.0 f name _ refl k

-- a file whose names are in the list
known_all : (names : List Text) (hs : List Handler) → AreNamed names (flat_map handler_mentions hs) → AllByRecursion (λ (h : Handler). h.name < length names) hs
known_all names [] k = tt
known_all names (h ∷ hs) k =
    let parts = all_first (IsBelow (length names)) (handler_mentions h) (flat_map handler_mentions hs) k in
    (parts.0.0, known_all names hs parts.1)

pub named_known : (names : List Text) (f : File) → AreNamed names (file_mentions f) → AreKnown names f
named_known names f k = known_all names f.handlers (all_first (IsBelow (length names)) (flat_map table_mentions f.tables) (flat_map handler_mentions f.handlers) k).1
