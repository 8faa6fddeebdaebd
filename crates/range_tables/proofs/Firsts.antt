-- The first symbol, and the least hold, with which an operation doesn't commute.
use Rattle.std.proofs.Common.{◌≡◌, ℕ, zero, suc, ◌<◌, List, [], ◌∷◌, Bool, true, false, length, take, get_or, Option, refl, sym, subst, arith}
use Rattle.std.proofs.lemmas.Bool.{both_ways}
use Rattle.std.specs.Bool.{Decides}
use Rattle.std.specs.List.{AllByRecursion}
use Rattle.session_values.specs.declared.kind.Kind.{Kind}
use Rattle.session_values.specs.declared.kind.TableKind.TheVariants.{Map}
use Rattle.session_values.specs.Kinds.{home, is_on_map}
use Rattle.range_tables.proofs.OnMap.{told_on_map}
use Rattle.range_tables.specs.declared.range_op.RangeOp.{RangeOp}
use Rattle.range_tables.specs.declared.range_symbol.RangeSymbol.{RangeSymbol}
use Rattle.range_tables.specs.declared.range_symbol.RangeSymbol.TheVariants.{Plain, Span, Within}
use Rattle.range_tables.specs.Symbols.{IsRangeSymbol, RangeCommutesWith}
use Rattle.range_tables.specs.Faults.{Holds}
use Rattle.range_tables.specs.Ready.{IsReady}
use Rattle.range_tables.specs.Session.{IsFirstAgainst, Delays, IsDelayed, Passes}

on_map : (kind : Kind) → home kind ≡ Map → is_on_map kind ≡ true
on_map kind h = sym (told_on_map kind true (λ _. h, λ _. refl))

pub ready_symbol : (s : RangeSymbol) → IsReady s → IsRangeSymbol s
ready_symbol (Plain s) h = h.0
ready_symbol (Span kind i low high value) h = (on_map kind h.0, h.1, h.2)
ready_symbol (Within i low high) h = tt

pub all_at : {X : Type 0} (P : X → Type 0) (xs : List X) (i : ℕ) (y : X) → AllByRecursion P xs → i < length xs → y ≡ get_or xs i y → P y
all_at P [] i y a l e = absurd (omega (arith, l))
all_at P (x ∷ xs) zero y a l e = subst P (sym e) a.0
all_at P (x ∷ xs) (suc i) y a l e = all_at P xs i y a.1 (omega (arith, l)) e

first_at : (op : RangeOp) (xs : List RangeSymbol) (i : ℕ) (y : RangeSymbol) → i < length xs → y ≡ get_or xs i y → AllByRecursion (RangeCommutesWith op) (take i xs) → (RangeCommutesWith op y → ⊥) → IsFirstAgainst op xs i
first_at op [] i y l e a n = absurd (omega (arith, l))
first_at op (x ∷ xs) zero y l e a n = λ k. n (subst (RangeCommutesWith op) (sym e) k)
first_at op (x ∷ xs) (suc i) y l e a n = (a.0, first_at op xs i y (omega (arith, l)) e a.1 n)

pub against_at : (op : RangeOp) (xs : List RangeSymbol) (i : ℕ) (y : RangeSymbol) (r : Bool) → i < length xs → y ≡ get_or xs i y → AllByRecursion (RangeCommutesWith op) (take i xs) → Decides r (RangeCommutesWith op y) → r ≡ false → IsFirstAgainst op xs i
against_at op xs i y r l e a d f = first_at op xs i y l e a (λ k. both_ways r f (d.1 k))

pub delayed_at : (op : RangeOp) (holds : Holds) (h i : ℕ) (y : Option (List RangeSymbol)) → h < length holds → y ≡ get_or holds h y → AllByRecursion (Passes op) (take h holds) → Delays op y i → IsDelayed op holds h i
delayed_at op [] h i y l e a n = absurd (omega (arith, l))
delayed_at op (x ∷ xs) zero i y l e a n = let P : Option (List RangeSymbol) → Type 0 = λ o. Delays op o i in subst P e n
delayed_at op (x ∷ xs) (suc h) i y l e a n = (a.0, delayed_at op xs h i y (omega (arith, l)) e a.1 n)
