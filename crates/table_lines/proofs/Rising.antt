-- Entries in the order of what is written, of which each key stands once: their keys rise.
use Rattle.std.proofs.Common.{◌≡◌, ℕ, suc, ◌+◌, Bool, true, false, ◌||◌, List, [], ◌∷◌, map as map_list, get_or, refl, sym, ◌∙◌, ap, arith}
use Rattle.std.proofs.lemmas.List.Elements.{recursion_from_All}
use Rattle.std.proofs.lemmas.List.Sorted.{ranks_by, sorted_far}
use Rattle.std.specs.List.{AllByRecursion}
use Rattle.std.specs.Ordering.{is_lt, ordering_reverse}
use Rattle.std.specs.declared.cmp.Ordering.{Ordering}
use Rattle.std.specs.declared.cmp.Ordering.TheVariants.{Less, Equal, Greater}
use Rattle.session_values.specs.Opening.{Pair, AreApart, has_key}
use Rattle.session_values.specs.Names.{AreDistinct}
use Rattle.session_values.specs.ReplyText.{IsPrintable}
use Rattle.session_values.specs.Values.{value_eq}
use Rattle.session_values.proofs.Equal.{value_eq-self}
use Rattle.table_lines.specs.Listed.{AreRising, HavePrintableKeys, keys_of, written_pair}
use Rattle.table_lines.specs.Written.{Written, written, written_cmp}
use Rattle.table_lines.proofs.WrittenOrder.{written_cmp_exact, written_cmp_total}
use Rattle.table_lines.proofs.Listing.{one_value}
use Rattle.table_lines.specs.Dumped.{AreInOrder}

-- ---- sorted
next_at : (e : Pair) (es : List Pair) (k : ℕ) (d : Pair) → get_or (e ∷ es) (k + 1) d ≡ get_or es k d
next_at e es k d = ap (λ (n : ℕ). get_or (e ∷ es) n d) (let next : k + 1 ≡ suc k = omega arith in next)

module _ (names : List (List ℕ)) where
  abbrev key : Pair → Written
  key e = written names e.0

  abbrev before : Pair → Pair → Bool
  before a b = is_lt (written_cmp (key a) (key b))

  pub sorted_tail : (e : Pair) (es : List Pair) → AreInOrder names (e ∷ es) → AreInOrder names es
  sorted_tail e es s k d from upto =
      ap (λ (x : Pair). before x (get_or es k d)) (sym (next_at e es (k + 1) d))
      ∙ ap (λ (x : Pair). before (get_or (e ∷ es) (k + 1 + 1) d) x) (sym (next_at e es k d))
      ∙ s (k + 1) d (omega arith) (omega (arith, upto))

  -- none stands before the first
  first_least : (e : Pair) (es : List Pair) → AreInOrder names (e ∷ es) → AllByRecursion (λ (x : Pair). before x e ≡ false) es
  first_least e es s = recursion_from_All (λ (x : Pair). before x e ≡ false) es
      (λ k d lt. ap (λ (x : Pair). before x e) (sym (next_at e es k d)) ∙ sorted_far before (ranks_by written_cmp_total key) (e ∷ es) s 0 (k + 1) d (omega arith) (omega (arith, lt)))

  rises : (x y : Pair) (r : Ordering) → written_cmp (key y) (key x) ≡ r → before x y ≡ false → (key y ≡ key x → ⊥) → written_cmp (key y) (key x) ≡ Less
  rises x y Less o b f = o
  rises x y Equal o b f = absurd (f (written_cmp_exact (key y) (key x) o))
  rises x y Greater o b f =
      let back : written_cmp (key x) (key y) ≡ Less = written_cmp_total.antisymm (key x) (key y) ∙ ap ordering_reverse o in
      absurd (cc (sym (ap is_lt back) ∙ b))

  rest_above : AreDistinct names → (e : Pair) (es : List Pair) → IsPrintable names e.0 → HavePrintableKeys names es → has_key es e.0 ≡ false → AllByRecursion (λ (x : Pair). before x e ≡ false) es
      → AllByRecursion (λ (l : Written). written_cmp (key e) l ≡ Less) (keys_of (map_list (written_pair names) es))
  rest_above d e [] p q h b = tt
  rest_above d e (x ∷ es) p q h b = (
    rises x e (written_cmp (key e) (key x)) refl b.0 (λ same. two_ways (value_eq e.0 x.0) (has_key es e.0) (ap (value_eq e.0) (sym (one_value names e.0 x.0 d p q.0 same)) ∙ value_eq-self e.0) h),
    rest_above d e es p q.1 (right_false (value_eq e.0 x.0) (has_key es e.0) h) b.1,
  )
    where
      two_ways : (b c : Bool) → b ≡ true → (b || c) ≡ false → ⊥
      two_ways true c s t = cc
      two_ways false c s t = cc

      right_false : (b c : Bool) → (b || c) ≡ false → c ≡ false
      right_false true c t = cc
      right_false false c t = t

  pub keys_rise : AreDistinct names → (es : List Pair) → HavePrintableKeys names es → AreApart es → AreInOrder names es → AreRising (keys_of (map_list (written_pair names) es))
  keys_rise d [] p a s = tt
  keys_rise d (e ∷ es) p a s =
      (rest_above d e es p.0 p.1 a.0 (first_least e es s), keys_rise d es p.1 a.1 (sorted_tail e es s))
