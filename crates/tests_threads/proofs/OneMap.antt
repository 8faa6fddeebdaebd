-- Operations on one map.
use Rattle.std.proofs.Common.{◌≡◌, ℕ, List, [], ◌∷◌, Some, sym, subst, refl}
use Rattle.std.specs.Prelude.{slice_get}
use Rattle.session_values.specs.declared.kind.Kind.{Kind}
use Rattle.session_values.specs.declared.kind.TableKind.{TableKind}
use Rattle.session_values.specs.declared.kind.TableKind.TheVariants.{Map}
use Rattle.session_values.specs.Kinds.{home}

-- an operation of a map on the first table fits one map
pub fits_one_map : (kinds : List TableKind) (table : ℕ) (kind : Kind) → kinds ≡ Map ∷ [] → table ≡ 0 → home kind ≡ Map → slice_get kinds table ≡ Some (home kind)
fits_one_map kinds table kind k t h =
    let P : List TableKind → Type 0 = λ ks. slice_get ks table ≡ Some (home kind) in
    let Q : ℕ → Type 0 = λ n. slice_get (Map ∷ []) n ≡ Some (home kind) in
    let R : TableKind → Type 0 = λ x. slice_get (Map ∷ []) 0 ≡ Some x in
    subst P (sym k) (subst Q (sym t) (subst R (sym h) refl))
