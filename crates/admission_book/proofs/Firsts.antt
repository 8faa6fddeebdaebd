-- The first symbol with which an operation doesn't commute.
use Rattle.std.proofs.Common.{◌≡◌, ℕ, suc, ◌<◌, List, [], ◌∷◌, ◌++◌, Bool, false, length, map, take, drop, get_or, refl, sym, ◌∙◌, ap}
use Rattle.std.specs.Bool.{Decides}
use Rattle.std.specs.List.{AllByRecursion}
use Rattle.std.proofs.lemmas.List.{take-append-drop}
use Rattle.std.proofs.Math.Seq.{drop-cons}
use Rattle.std.proofs.lemmas.Bool.{both_ways}
use Rattle.session_values.specs.declared.op.Op.{Op}
use Rattle.symbolic_ops.specs.declared.symbol.Symbol.{Symbol}
use Rattle.symbolic_ops.specs.Commuting.{CommutesWith}
use Rattle.admission_book.specs.Book.{IsFirstAgainst}

pub at_first : (op : Op) (xs : List Symbol) (i : ℕ) (y : Symbol) (r : Bool) → i < length xs → y ≡ get_or xs i y → AllByRecursion (λ z. CommutesWith op z) (take i xs) → Decides r (CommutesWith op y) → r ≡ false → IsFirstAgainst op xs y
at_first op xs i y r l is before d fails = record {
  front = take i xs;
  back = drop (suc i) xs;
  is = sym (take-append-drop i xs) ∙ ap (λ (ys : List Symbol). take i xs ++ ys) (drop-cons xs i y l ∙ ap (λ (z : Symbol). z ∷ drop (suc i) xs) (sym is));
  before = before;
  against = λ k. both_ways r fails (d.1 k);
}

-- ---- among symbols that are made one at a time
map_append : (f : Symbol → Symbol) (xs ys : List Symbol) → map f (xs ++ ys) ≡ map f xs ++ map f ys
map_append f [] ys = refl
map_append f (x ∷ xs) ys = ap (λ (zs : List Symbol). f x ∷ zs) (map_append f xs ys)

pub first_mapped : (op : Op) (f : Symbol → Symbol) (xs : List Symbol) (i : ℕ) (x y : Symbol) → i < length xs → x ≡ get_or xs i x → y ≡ f x → AllByRecursion (λ z. CommutesWith op z) (map f (take i xs)) → (CommutesWith op y → ⊥) → IsFirstAgainst op (map f xs) y
first_mapped op f xs i x y l is made before against =
    let split : xs ≡ take i xs ++ x ∷ drop (suc i) xs = sym (take-append-drop i xs) ∙ ap (λ (ys : List Symbol). take i xs ++ ys) (drop-cons xs i x l ∙ ap (λ (z : Symbol). z ∷ drop (suc i) xs) (sym is)) in
    record {
      front = map f (take i xs);
      back = map f (drop (suc i) xs);
      is = ap (map f) split ∙ map_append f (take i xs) (x ∷ drop (suc i) xs) ∙ ap (λ (z : Symbol). map f (take i xs) ++ z ∷ map f (drop (suc i) xs)) (sym made);
      before = before;
      against = against;
    }
