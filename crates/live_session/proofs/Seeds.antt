-- The same names, placed one after another; and the factors of tables that are filled one after
-- another.
use Rattle.std.proofs.Common.{◌≡◌, ℕ, zero, suc, ◌+◌, ◌<◌, Bool, true, false, ◌||◌, List, [], ◌∷◌, ◌++◌, take, Some, slice_get, refl, sym, ◌∙◌, ap, arith}
use Rattle.std.proofs.lemmas.Bool.{false≢true}
use Rattle.std.proofs.lemmas.List.{map-append}
use Rattle.std.specs.List.{list_any}
use Rattle.std.specs.Str.{bytes_eq}
use Rattle.std.proofs.lemmas.Slice.Eq.{bytes_eq-Decides}
use Rattle.session_values.specs.Names.{AreDistinct, with_text}
use Rattle.session_values.proofs.NamesLemmas.{with_new}
use Rattle.session_values.specs.Tables.{Container}
use Rattle.shard_tables.specs.declared.part.Part.{Part}
use Rattle.shard_tables.specs.Either.{index_in}
use Rattle.shard_tables.specs.Slots.{factor_of}
use Rattle.text_lines.specs.Text.{Text}
use Rattle.live_session.specs.Held.{container_in, factors_in, held}
use Rattle.live_session.specs.Openings.{seeded}

-- where a text stands among some
record Stands (t : Text) (xs : List Text) : Type 0 where
  at : ℕ
  is : slice_get xs at ≡ Some t

found_in : (t : Text) (xs : List Text) → list_any (bytes_eq t) xs ≡ true → Stands t xs
found_in t [] h = absurd (false≢true h)
found_in t (x ∷ xs) h = go (bytes_eq t x) refl (found_in t xs)
  where
    go : (b : Bool) → bytes_eq t x ≡ b → (list_any (bytes_eq t) xs ≡ true → Stands t xs) → Stands t (x ∷ xs)
    go true e more = record { at = 0; is = ap Some (sym ((bytes_eq-Decides t x).0 e)) }
    go false e more = let m = more (sym (ap (λ (b : Bool). (b || list_any (bytes_eq t) xs)) e) ∙ h) in record { at = suc m.at; is = m.is }

among_first : (xs : List Text) (n j : ℕ) (t : Text) → slice_get (take n xs) j ≡ Some t → (j < n) × (slice_get xs j ≡ Some t)
among_first xs zero j t h = absurd (cc)
among_first [] (suc n) j t h = absurd (cc)
among_first (x ∷ xs) (suc n) zero t h = (omega arith, h)
among_first (x ∷ xs) (suc n) (suc j) t h = let m = among_first xs n j t h in (omega (arith, m.0), m.1)

front_more : (xs : List Text) (n : ℕ) (t : Text) → slice_get xs n ≡ Some t → take n xs ++ t ∷ [] ≡ take (n + 1) xs
front_more [] n t h = absurd (cc)
front_more (x ∷ xs) zero t h = let same : x ≡ t = cc in ap (λ (y : Text). y ∷ []) (sym same)
front_more (x ∷ xs) (suc n) t h =
    let e : suc n + 1 ≡ suc (n + 1) = omega arith in
    ap (λ (l : List Text). x ∷ l) (front_more xs n t h) ∙ ap (λ (m : ℕ). take m (x ∷ xs)) (sym e)

-- a name doesn't stand before itself
pub not_before : (names : List Text) (n : ℕ) (t : Text) → AreDistinct names → slice_get names n ≡ Some t → list_any (bytes_eq t) (take n names) ≡ false
not_before names n t d h = new (list_any (bytes_eq t) (take n names)) refl
  where
    new : (b : Bool) → list_any (bytes_eq t) (take n names) ≡ b → list_any (bytes_eq t) (take n names) ≡ false
    new false e = e
    new true e =
        let m = found_in t (take n names) e in
        let k = among_first names n m.at t m.is in
        let same : m.at ≡ n = d m.at n t k.1 h in
        absurd (omega (arith, k.0, same))

-- one name more is placed
pub placed_more : (names : List Text) (n : ℕ) (t : Text) → AreDistinct names → slice_get names n ≡ Some t → with_text (take n names) t ≡ take (n + 1) names
placed_more names n t d h = with_new (take n names) t (not_before names n t d h) ∙ front_more names n t h

-- one table more, whose factor is the seed's
pub seeded_more : (seed : ℕ) (ps : List Part) (p : Part) (qs : List Part) → qs ≡ ps ++ p ∷ [] → factors_in ps ≡ seeded seed (held ps) → (index_in p).factor ≡ factor_of seed → factors_in qs ≡ seeded seed (held qs)
seeded_more seed ps p qs is h one =
    ap factors_in is
    ∙ map-append (λ (q : Part). (index_in q).factor) ps (p ∷ [])
    ∙ (λ i. h i ++ one i ∷ [])
    ∙ sym (map-append (λ (t : Container). factor_of seed) (held ps) (container_in p ∷ []))
    ∙ ap (seeded seed) (sym (map-append container_in ps (p ∷ [])))
    ∙ ap (λ (rs : List Part). seeded seed (held rs)) (sym is)
