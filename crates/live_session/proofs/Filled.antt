-- Tables that are filled one after another.
use Rattle.std.proofs.Common.{◌≡◌, ℕ, zero, suc, ◌+◌, ◌<◌, List, [], ◌∷◌, ◌++◌, length, map, take, get_or, refl, sym, ◌∙◌, ap, subst, arith}
use Rattle.std.specs.List.{AllByRecursion}
use Rattle.session_values.specs.Opening.{IsPair, Pair, container_of, tables_of}
use Rattle.session_values.specs.Tables.{Container, Tables, kind_of}
use Rattle.shard_tables.specs.declared.part.Part.{Part}
use Rattle.shard_tables.specs.Either.{entries_in, index_in}
use Rattle.live_session.specs.Held.{container_in, factors_in, held, lists_in}

-- the next one behind the first ones
pub take_push : {X : Type 0} (xs : List X) (i : ℕ) (x : X) → i < length xs → x ≡ get_or xs i x → take (i + 1) xs ≡ take i xs ++ x ∷ []
take_push {X} xs i x l is = subst (λ (n : ℕ). take n xs ≡ take i xs ++ x ∷ []) (let e : suc i ≡ i + 1 = omega arith in e) (go xs i l is)
  where
    go : (ys : List X) (i : ℕ) → i < length ys → x ≡ get_or ys i x → take (suc i) ys ≡ take i ys ++ x ∷ []
    go [] i l is = absurd (omega (arith, l))
    go (y ∷ ys) zero l is = ap (λ (z : X). z ∷ []) (sym is)
    go (y ∷ ys) (suc i) l is = ap (λ (zs : List X). y ∷ zs) (go ys i (omega (arith, l)) is)

pub lists_push : (ps : List Part) (p : Part) → lists_in (ps ++ p ∷ []) ≡ lists_in ps ++ entries_in p ∷ []
lists_push [] p = refl
lists_push (q ∷ ps) p = ap (λ (l : List (List Pair)). entries_in q ∷ l) (lists_push ps p)

pub held_push : (ps : List Part) (p : Part) → held (ps ++ p ∷ []) ≡ held ps ++ container_in p ∷ []
held_push [] p = refl
held_push (q ∷ ps) p = ap (λ (l : Tables). container_in q ∷ l) (held_push ps p)

pub factors_push : (P : ℕ → Type 0) (ps : List Part) (p : Part) → AllByRecursion P (factors_in ps) → P (index_in p).factor → AllByRecursion P (factors_in (ps ++ p ∷ []))
factors_push P [] p h one = (one, tt)
factors_push P (q ∷ ps) p h one = (h.0, factors_push P ps p h.1 one)

module _ (g : List Pair → List Pair) where
  pub tables_push : (ps : List Part) (p : Part) → tables_of (map kind_of (held (ps ++ p ∷ []))) (map g (lists_in (ps ++ p ∷ []))) ≡ tables_of (map kind_of (held ps)) (map g (lists_in ps)) ++ container_of (kind_of (container_in p)) (g (entries_in p)) ∷ []
  tables_push [] p = refl
  tables_push (q ∷ ps) p = ap (λ (l : Tables). container_of (kind_of (container_in q)) (g (entries_in q)) ∷ l) (tables_push ps p)

  pub pairs_push : (ps : List Part) (p : Part) → AllByRecursion (AllByRecursion IsPair) (map g (lists_in ps)) → AllByRecursion IsPair (g (entries_in p)) → AllByRecursion (AllByRecursion IsPair) (map g (lists_in (ps ++ p ∷ [])))
  pairs_push [] p h one = (one, tt)
  pairs_push (q ∷ ps) p h one = (h.0, pairs_push ps p h.1 one)
