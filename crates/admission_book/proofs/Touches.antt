-- The tables that a list of symbols touches.
use Rattle.std.proofs.Common.{◌≡◌, ℕ, zero, suc, ◌+◌, ◌%◌, ◌<◌, List, [], ◌∷◌, inl, inr, Bool, true, false, cond, not, ◌&&◌, ◌||◌, eqb, length, get_or, take, refl, sym, ◌∙◌, ap, subst, arith}
use Rattle.std.specs.List.{AllByRecursion}
use Rattle.std.proofs.lemmas.Bool.Decides.{nat_tests}
use Rattle.std.proofs.lemmas.Bool.{eqb-true}
use Rattle.session_values.specs.declared.op.Op.{Op}
use Rattle.session_values.specs.Kinds.{is_on_map, is_read}
use Rattle.session_values.specs.Op.{IsHeld}
use Rattle.symbolic_ops.specs.declared.symbol.Symbol.{Symbol}
use Rattle.symbolic_ops.specs.Matching.{Covered, IsBelowSome}
use Rattle.commute_tables.specs.Relation.{commutes_symbol, same_bool}
use Rattle.symbolic_ops.specs.Commuting.{CommutesWith}
use Rattle.commute_tables.proofs.AgainstSymbols.{symbol_commutes}
use Rattle.admission_book.specs.Touched.{IsTouched, mark_of}
use Rattle.admission_book.specs.declared.touched_tables.TouchedTables.{TouchedTables}

-- ---- a list is noted symbol by symbol
noted_suc : (t u : TouchedTables) (xs : List Symbol) (i : ℕ) (s : Symbol) → i < length xs → s ≡ get_or xs i s → AllByRecursion (λ y. IsTouched t y) (take i xs) → ((y : Symbol) → IsTouched t y → IsTouched u y) → IsTouched u s → AllByRecursion (λ y. IsTouched u y) (take (suc i) xs)
noted_suc t u [] i s l is a kept this = absurd (omega arith)
noted_suc t u (x ∷ xs) zero s l is a kept this = (subst (λ y. IsTouched u y) is this, tt)
noted_suc t u (x ∷ xs) (suc i) s l is a kept this = (kept x a.0, noted_suc t u xs i s (omega arith) is a.1 kept this)

pub noted_more : (t u : TouchedTables) (xs : List Symbol) (i : ℕ) (s : Symbol) → i < length xs → s ≡ get_or xs i s → AllByRecursion (λ y. IsTouched t y) (take i xs) → ((y : Symbol) → IsTouched t y → IsTouched u y) → IsTouched u s → AllByRecursion (λ y. IsTouched u y) (take (i + 1) xs)
noted_more t u xs i s l is a kept this = let more : suc i ≡ i + 1 = omega arith in subst (λ n. AllByRecursion (λ y. IsTouched u y) (take n xs)) more (noted_suc t u xs i s l is a kept this)

-- ---- a narrower list touches no more
below_touched : (t : TouchedTables) (g : Symbol) (f : List Symbol) → IsBelowSome g f → AllByRecursion (λ y. IsTouched t y) f → IsTouched t g
below_touched t g [] b a = absurd b
below_touched t g (s ∷ f) (inl b) a = (λ i. get_or t.marks (mark_of (b.kind i) (b.table i)) false) ∙ a.0
below_touched t g (s ∷ f) (inr b) a = below_touched t g f b a.1

pub covered_touched : (t : TouchedTables) (g f : List Symbol) → Covered g f → AllByRecursion (λ y. IsTouched t y) f → AllByRecursion (λ y. IsTouched t y) g
covered_touched t [] f c a = tt
covered_touched t (x ∷ g) f c a = (below_touched t x f c.0 a, covered_touched t g f c.1 a)

-- ---- what it says of an operation
first_told : (a b c d e f : Bool) → a ≡ false → (not a || b || c || d || e || f) ≡ true
first_told true b c d e f p = cc
first_told false b c d e f p = refl

third_told : (a b x y d e f : Bool) → x ≡ true → y ≡ true → (a || b || (x && y) || d || e || f) ≡ true
third_told true b x y d e f p q = refl
third_told false true x y d e f p q = refl
third_told false false true true d e f p q = refl
third_told false false true false d e f p q = cc
third_told false false false y d e f p q = cc

-- nothing is both not false and false
pub both : {A : Type 0} (b : Bool) → not b ≡ false → b ≡ false → A
both b p q = cc

-- no symbol with a mark is against an operation that has none
pub apart : (op : Op) (t : TouchedTables) (table : ℕ) (reads : Bool) → table ≡ op.table → reads ≡ is_read op.kind → IsHeld op → get_or t.marks (table % 8 + 8) false ≡ false → (reads ≡ false → get_or t.marks (table % 8) false ≡ false) → (s : Symbol) → IsTouched t s → CommutesWith op s
apart op t table reads at read held none_changed none_read s touched = symbol_commutes op s held (by_table (eqb op.table s.table) refl)
  where
    set_and_not : {A : Type 0} (b : Bool) → b ≡ true → b ≡ false → A
    set_and_not b p q = cc

    here : op.table ≡ s.table → (k : ℕ) → get_or t.marks (s.table % 8 + k) false ≡ get_or t.marks (table % 8 + k) false
    here e k = ap (λ (n : ℕ). get_or t.marks (n % 8 + k) false) (sym (at ∙ e))

    unread : get_or t.marks (table % 8) false ≡ false → get_or t.marks (table % 8 + 0) false ≡ false
    unread e = let same : table % 8 + 0 ≡ table % 8 = omega arith in ap (λ (n : ℕ). get_or t.marks n false) same ∙ e

    marked : (b : Bool) → is_read s.kind ≡ b → get_or t.marks (s.table % 8 + cond b 0 8) false ≡ true
    marked b e = ap (λ (c : Bool). get_or t.marks (s.table % 8 + cond c 0 8) false) (sym e) ∙ touched

    by_read : (b c : Bool) → is_read s.kind ≡ b → is_read op.kind ≡ c → op.table ≡ s.table → commutes_symbol op s ≡ true
    by_read false c e f o = set_and_not _ (sym (here o 8) ∙ marked false e) none_changed
    by_read true false e f o = set_and_not _ (sym (here o 0) ∙ marked true e) (unread (none_read (read ∙ f)))
    by_read true true e f o = third_told (not (eqb op.table s.table)) (not (same_bool (is_on_map op.kind) (is_on_map s.kind))) (is_read op.kind) (is_read s.kind) _ _ _ f e

    by_table : (b : Bool) → eqb op.table s.table ≡ b → commutes_symbol op s ≡ true
    by_table false e = first_told (eqb op.table s.table) _ _ _ _ _ e
    by_table true e = by_read (is_read s.kind) (is_read op.kind) refl refl (eqb-true op.table s.table e)

-- an operation commutes with a symbol of another table
pub other_table : (op : Op) (s : Symbol) → IsHeld op → (s.table ≡ op.table → ⊥) → CommutesWith op s
other_table op s held differ = symbol_commutes op s held (first_told (eqb op.table s.table) _ _ _ _ _ (apart_tables op.table s.table differ))
  where
    apart_tables : (a b : ℕ) → (b ≡ a → ⊥) → eqb a b ≡ false
    apart_tables a b h = grind (arith, nat_tests)
