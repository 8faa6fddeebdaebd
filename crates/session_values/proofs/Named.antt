-- Lists of names that grow: what was placed stays where it is.
use Rattle.std.proofs.Common.{◌≡◌, ℕ, zero, suc, ◌≤◌, Bool, true, false, List, [], ◌∷◌, ◌++◌, length, Some, slice_get, refl, sym, ◌∙◌, ap, subst, append_assoc, append-nil}
use Rattle.std.specs.List.{list_any}
use Rattle.std.specs.Str.{bytes_eq}
use Rattle.session_values.specs.declared.value.Value.{Value}
use Rattle.session_values.specs.declared.value.Value.TheVariants.{Nil, Num, Sym}
use Rattle.session_values.specs.Names.{with_text, place_of, Begins, IsNamed}
use Rattle.session_values.specs.ReplyText.{IsPrintable}
use Rattle.session_values.proofs.NamesLemmas.{known_at, stands_at, slice_get_last, with_known, with_new}

pub front_kept : (xs ys : List (List ℕ)) (i : ℕ) (t : List ℕ) → slice_get xs i ≡ Some t → slice_get (xs ++ ys) i ≡ Some t
front_kept [] ys i t h = absurd (cc)
front_kept (x ∷ xs) ys zero t h = h
front_kept (x ∷ xs) ys (suc i) t h = front_kept xs ys i t h

pub begins_same : (names : List (List ℕ)) → Begins names names
begins_same names = ([], sym (append-nil names))

pub begins_then : (xs ys zs : List (List ℕ)) → Begins xs ys → Begins ys zs → Begins xs zs
begins_then xs ys zs a b = (a.0 ++ b.0, b.1 ∙ ap (λ us. us ++ b.0) a.1 ∙ append_assoc xs a.0 b.0)

pub begins_with : (names : List (List ℕ)) (t : List ℕ) → Begins names (with_text names t)
begins_with names t = go (list_any (bytes_eq t) names) refl where
  go : (b : Bool) → list_any (bytes_eq t) names ≡ b → Begins names (with_text names t)
  go true e = subst (Begins names) (sym (with_known names t e)) (begins_same names)
  go false e = (t ∷ [], with_new names t e)

-- a name is there still when the list has grown
pub named_kept : (old new : List (List ℕ)) (place : ℕ) → Begins old new → IsNamed old place → IsNamed new place
named_kept old new place b n = record {
  text = n.text;
  at = subst (λ all. slice_get all place ≡ Some n.text) (sym b.1) (front_kept old b.0 place n.text n.at);
  short = n.short;
}

pub printable_kept : (old new : List (List ℕ)) (v : Value) → Begins old new → IsPrintable old v → IsPrintable new v
printable_kept old new Nil b h = tt
printable_kept old new (Num n) b h = tt
printable_kept old new (Sym place) b h = named_kept old new place b h

-- a short text that was placed is a name
pub named_with : (names : List (List ℕ)) (t : List ℕ) → length t ≤ 64 → IsNamed (with_text names t) (place_of (with_text names t) t)
named_with names t short = go (list_any (bytes_eq t) names) refl where
  go : (b : Bool) → list_any (bytes_eq t) names ≡ b → IsNamed (with_text names t) (place_of (with_text names t) t)
  go true e = subst (λ all. IsNamed all (place_of all t)) (sym (with_known names t e)) (record { text = t; at = stands_at t names e; short = short })
  go false e =
      let known = known_at t (names ++ t ∷ []) (length names) (slice_get_last names t) in
      subst (λ all. IsNamed all (place_of all t)) (sym (with_new names t e)) (record { text = t; at = stands_at t (names ++ t ∷ []) known; short = short })
