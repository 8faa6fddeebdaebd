-- What the kinds' own calls say of the relation's words.
use Rattle.std.proofs.Common.{◌≡◌, Bool, true, false, refl}
use Rattle.std.specs.Bool.{Decides}
use Rattle.session_values.specs.declared.kind.Kind.{Kind}
use Rattle.session_values.specs.declared.kind.Kind.TheVariants.{Get, Put, Swap, Del, Size, Bump, Has, Add, Mark, Drop, Count}
use Rattle.session_values.specs.declared.kind.TableKind.{TableKind}
use Rattle.session_values.specs.declared.kind.TableKind.TheVariants.{Map, Set}
use Rattle.session_values.specs.Kinds.{home, is_on_map}

no_map : (r : Bool) → (r ≡ true → Set ≡ Map) → r ≡ false
no_map true h = let e : ◌≡◌ {A = TableKind} Set Map = h refl in cc
no_map false h = refl

pub told_on_map : (kind : Kind) (r : Bool) → Decides r (home kind ≡ Map) → r ≡ is_on_map kind
told_on_map Get r d = d.1 refl
told_on_map Put r d = d.1 refl
told_on_map Swap r d = d.1 refl
told_on_map Del r d = d.1 refl
told_on_map Size r d = d.1 refl
told_on_map Bump r d = d.1 refl
told_on_map Has r d = no_map r d.0
told_on_map Add r d = no_map r d.0
told_on_map Mark r d = no_map r d.0
told_on_map Drop r d = no_map r d.0
told_on_map Count r d = no_map r d.0
