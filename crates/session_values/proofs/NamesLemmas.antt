-- Lists of different texts, and where a text stands in them.
use Rattle.std.proofs.Common.{◌≡◌, ℕ, suc, zero, ◌+◌, ◌<◌, ◌≤◌, Bool, true, false, not, ◌||◌, cond, List, [], ◌∷◌, ◌++◌, map, length, Option, Some, None, slice_get, Contains, refl, sym, ◌∙◌, ap, subst, arith, ◌⊎◌, inl, inr, Global, String, string_bytes, nat_lt, ltb}
use Rattle.std.proofs.Math.Numerals.{one-add}
use Rattle.std.specs.List.{list_any, position, position_or_len}
use Rattle.std.specs.Str.{bytes_eq}
use Rattle.std.specs.String.{string_eq}
use Rattle.std.specs.Option.{option_map}
use Rattle.indexmap.specs.IndexSet.{insert_key}
use Rattle.std.proofs.lemmas.Slice.Eq.{bytes_eq-Decides}
use Rattle.std.proofs.lemmas.Option.{slice_get-map}
use Rattle.std.proofs.lemmas.Bool.Decides.{nat_tests}
use Rattle.std.proofs.lemmas.Bool.{false≢true}
use Rattle.std.proofs.lemmas.Cmp.{nat_list_eq_equiv}
use Rattle.std.proofs.lemmas.Map.Views.{list_any-from_Contains}
use Rattle.session_values.specs.Names.{with_text, place_of, AreDistinct}

-- whether a key has the text
abbrev pub has_text : List ℕ → String Global → Bool
has_text t k = bytes_eq t (string_bytes k)

abbrev pub texts : List (String Global) → List (List ℕ)
texts ks = map string_bytes ks

pub bytes_eq_same : (t : List ℕ) → bytes_eq t t ≡ true
bytes_eq_same t = (bytes_eq-Decides t t).1 refl

-- the text stands in the list, at this place
pub record Stands (t : List ℕ) (names : List (List ℕ)) (place : ℕ) : Type 0 where
  pub known : list_any (bytes_eq t) names ≡ true
  pub at : slice_get names place ≡ Some t

one_on : (t x : List ℕ) (xs : List (List ℕ)) (n : ℕ) (b : Bool) → bytes_eq t x ≡ b → Stands t xs n → Stands t (x ∷ xs) (1 + n)
one_on t x xs n true e s = record { known = ap (λ b. (b || list_any (bytes_eq t) xs)) e; at = rw one-add s.at }
one_on t x xs n false e s = record { known = ap (λ b. (b || list_any (bytes_eq t) xs)) e ∙ s.known; at = rw one-add s.at }

pub stands : (t : List ℕ) (ks : List (String Global)) → position_or_len (has_text t) ks < length ks → Stands t (texts ks) (position_or_len (has_text t) ks)
stands t [] h = absurd (omega arith)
stands t (k ∷ ks) h = go (stands t ks) (has_text t k) refl where
  go : (position_or_len (has_text t) ks < length ks → Stands t (texts ks) (position_or_len (has_text t) ks)) → (b : Bool) → has_text t k ≡ b → Stands t (texts (k ∷ ks)) (position_or_len (has_text t) (k ∷ ks))
  go again true e = rw e (record { known = ap (λ b. (b || list_any (bytes_eq t) (texts ks))) e; at = ap Some (sym ((bytes_eq-Decides t (string_bytes k)).0 e)) })
  go again false e =
      let within : position_or_len (has_text t) ks < length ks = omega (arith, subst (λ b. cond (not b) (1 + position_or_len (has_text t) ks) 0 < suc (length ks)) e h) in
      rw e (one_on t (string_bytes k) (texts ks) _ false e (again within))

pub lacks : (t : List ℕ) (ks : List (String Global)) → length ks ≤ position_or_len (has_text t) ks → list_any (bytes_eq t) (texts ks) ≡ false
lacks t [] h = refl
lacks t (k ∷ ks) h = go (lacks t ks) (has_text t k) refl where
  go : (length ks ≤ position_or_len (has_text t) ks → list_any (bytes_eq t) (texts ks) ≡ false) → (b : Bool) → has_text t k ≡ b → list_any (bytes_eq t) (texts (k ∷ ks)) ≡ false
  go again true e = absurd (omega (arith, subst (λ b. suc (length ks) ≤ cond (not b) (1 + position_or_len (has_text t) ks) 0) e h))
  go again false e =
      let rest : length ks ≤ position_or_len (has_text t) ks = omega (arith, subst (λ b. suc (length ks) ≤ cond (not b) (1 + position_or_len (has_text t) ks) 0) e h) in
      ap (λ b. (b || list_any (bytes_eq t) (texts ks))) e ∙ again rest

pub choice : (n m i : ℕ) (b : Bool) → ltb n m ≡ b → cond b (Some n) None ≡ Some i → (n ≡ i) × (n < m)
choice n m i true e h = (cc, grind (arith, nat_tests))
choice n m i false e h = absurd (cc)

pub found : (t : List ℕ) (ks : List (String Global)) (i : ℕ) → position (has_text t) ks ≡ Some i → Stands t (texts ks) i
found t ks i h =
    let c = choice (position_or_len (has_text t) ks) (length ks) i _ refl h in
    subst (Stands t (texts ks)) c.0 (stands t ks c.1)

pub no_choice : (n m : ℕ) (b : Bool) → ltb n m ≡ b → cond b (Some n) None ≡ None → m ≤ n
no_choice n m true e h = absurd (cc)
no_choice n m false e h = grind (arith, nat_tests)

pub not_found : (t : List ℕ) (ks : List (String Global)) → position (has_text t) ks ≡ None → list_any (bytes_eq t) (texts ks) ≡ false
not_found t ks h = lacks t ks (no_choice (position_or_len (has_text t) ks) (length ks) _ refl h)

-- a text that stands somewhere is found
pub known_at : (t : List ℕ) (names : List (List ℕ)) (i : ℕ) → slice_get names i ≡ Some t → list_any (bytes_eq t) names ≡ true
known_at t [] i h = absurd (cc)
known_at t (x ∷ xs) zero h = ap (λ b. (b || list_any (bytes_eq t) xs)) ((bytes_eq-Decides t x).1 cc)
known_at t (x ∷ xs) (suc i) h = go (known_at t xs i h) (bytes_eq t x) refl where
  go : list_any (bytes_eq t) xs ≡ true → (b : Bool) → bytes_eq t x ≡ b → list_any (bytes_eq t) (x ∷ xs) ≡ true
  go again true e = ap (λ b. (b || list_any (bytes_eq t) xs)) e
  go again false e = ap (λ b. (b || list_any (bytes_eq t) xs)) e ∙ again

pub slice_get_snoc : (names : List (List ℕ)) (t text : List ℕ) (i : ℕ) → slice_get (names ++ t ∷ []) i ≡ Some text → (slice_get names i ≡ Some text) ⊎ ((i ≡ length names) × (text ≡ t))
slice_get_snoc [] t text zero h = inr (refl, cc)
slice_get_snoc [] t text (suc i) h = absurd (cc)
slice_get_snoc (x ∷ xs) t text zero h = inl h
slice_get_snoc (x ∷ xs) t text (suc i) h = elim (slice_get_snoc xs t text i h) [ inl a ↦ inl a | inr b ↦ inr (ap suc b.0, b.1) ]

pub slice_get_last : (names : List (List ℕ)) (t : List ℕ) → slice_get (names ++ t ∷ []) (length names) ≡ Some t
slice_get_last [] t = refl
slice_get_last (x ∷ xs) t = slice_get_last xs t

-- different texts with one more that isn't among them
pub AreDistinct-push : (names : List (List ℕ)) (t : List ℕ) → AreDistinct names → list_any (bytes_eq t) names ≡ false → AreDistinct (names ++ t ∷ [])
AreDistinct-push names t d new i j text at_i at_j =
    elim (slice_get_snoc names t text i at_i) [
      | inl a ↦ elim (slice_get_snoc names t text j at_j) [
        | inl b ↦ d i j text a b
        | inr b ↦ absurd (false≢true (sym new ∙ known_at t names i (a ∙ ap Some b.1)))
      ]
      | inr a ↦ elim (slice_get_snoc names t text j at_j) [
        | inl b ↦ absurd (false≢true (sym new ∙ known_at t names j (b ∙ ap Some a.1)))
        | inr b ↦ a.0 ∙ sym b.0
      ]
    ]

pub with_known : (names : List (List ℕ)) (t : List ℕ) → list_any (bytes_eq t) names ≡ true → with_text names t ≡ names
with_known names t h = ap (λ b. cond b names (names ++ t ∷ [])) h

pub with_new : (names : List (List ℕ)) (t : List ℕ) → list_any (bytes_eq t) names ≡ false → with_text names t ≡ names ++ t ∷ []
with_new names t h = ap (λ b. cond b names (names ++ t ∷ [])) h

list_any-texts : (o : String Global) (ks : List (String Global)) → list_any (string_eq o) ks ≡ list_any (bytes_eq (string_bytes o)) (texts ks)
list_any-texts o [] = refl
list_any-texts o (k ∷ ks) = ap (λ b. (string_eq o k || b)) (list_any-texts o ks)

map-snoc : (ks : List (String Global)) (o : String Global) → texts (ks ++ o ∷ []) ≡ texts ks ++ string_bytes o ∷ []
map-snoc [] o = refl
map-snoc (k ∷ ks) o = ap (λ xs. string_bytes k ∷ xs) (map-snoc ks o)

-- what a set of keys shows after a new one
pub pushed : (t : List ℕ) (o : String Global) (ks new : List (String Global)) → string_bytes o ≡ t → new ≡ insert_key string_eq ks o → list_any (bytes_eq t) (texts ks) ≡ false → texts new ≡ texts ks ++ t ∷ []
pushed t o ks new e is none =
    let absent : list_any (string_eq o) ks ≡ false = list_any-texts o ks ∙ ap (λ x. list_any (bytes_eq x) (texts ks)) e ∙ none in
    ap texts is ∙ ap (λ b. texts (cond b ks (ks ++ o ∷ []))) absent ∙ map-snoc ks o ∙ ap (λ x. texts ks ++ x ∷ []) e

-- the place of a key that equals the new one
pub stored_at : (t : List ℕ) (o : String Global) (new : List (String Global)) (i : ℕ) → string_bytes o ≡ t → (k : String Global) × (slice_get new i ≡ Some k) × (string_eq o k ≡ true) → slice_get (texts new) i ≡ Some t
stored_at t o new i e s =
    slice_get-map string_bytes new i ∙ ap (option_map string_bytes) s.1 ∙ ap Some (sym ((bytes_eq-Decides (string_bytes o) (string_bytes s.0)).0 s.2) ∙ e)

pub Contains-known : (names : List (List ℕ)) (t : List ℕ) → list_any (bytes_eq t) names ≡ false → Contains names t → ⊥
Contains-known names t none c = absurd (false≢true (sym none ∙ list_any-from_Contains nat_list_eq_equiv t names c))

-- a known text stands at its place
pub stands_at : (t : List ℕ) (names : List (List ℕ)) → list_any (bytes_eq t) names ≡ true → slice_get names (place_of names t) ≡ Some t
stands_at t [] h = absurd (false≢true h)
stands_at t (x ∷ xs) h = go (stands_at t xs) (bytes_eq t x) refl where
  go : (list_any (bytes_eq t) xs ≡ true → slice_get xs (place_of xs t) ≡ Some t) → (b : Bool) → bytes_eq t x ≡ b → slice_get (x ∷ xs) (place_of (x ∷ xs) t) ≡ Some t
  go again true e = rw e (ap Some (sym ((bytes_eq-Decides t x).0 e)))
  go again false e = rw (e, one-add) (again (sym (ap (λ b. (b || list_any (bytes_eq t) xs)) e) ∙ h))

-- among different texts that is its only place
pub place_is : (t : List ℕ) (names : List (List ℕ)) (i : ℕ) → AreDistinct names → slice_get names i ≡ Some t → i ≡ place_of names t
place_is t names i d h = d i (place_of names t) t h (stands_at t names (known_at t names i h))

has_len : (t : List ℕ) (ks : List (String Global)) → length ks ≡ length (texts ks)
has_len t [] = refl
has_len t (k ∷ ks) = ap suc (has_len t ks)

first_at : (t : List ℕ) (ks : List (String Global)) → position_or_len (has_text t) ks ≡ position_or_len (bytes_eq t) (texts ks)
first_at t [] = refl
first_at t (k ∷ ks) = ap (λ n. cond (not (has_text t k)) (1 + n) 0) (first_at t ks)

chosen : ℕ → ℕ → Option ℕ
chosen n m = cond (nat_lt n m) (Some n) None

-- the place among the keys is that among their texts
pub position-texts : (t : List ℕ) (ks : List (String Global)) → position (has_text t) ks ≡ position (bytes_eq t) (texts ks)
unfolding chosen
position-texts t ks = ap (λ n. chosen n (length ks)) (first_at t ks) ∙ ap (chosen (position_or_len (bytes_eq t) (texts ks))) (has_len t ks)
