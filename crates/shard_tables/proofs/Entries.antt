-- A key comes in at a free slot, and two slots change what they hold when the last key takes the place of another.
use Rattle.std.proofs.Common.{◌≡◌, ◌≢◌, ℕ, ◌+◌, ◌-◌, ◌<◌, ◌≤◌, ◌^◌, inl, inr, List, [], ◌∷◌, ◌++◌, length, get_or, sum_by, refl, sym, ◌∙◌, ap, subst, arith}
use Rattle.std.proofs.Math.ListN.{set}
use Rattle.std.specs.List.{swap, swap_remove}
use Rattle.std.proofs.lemmas.Bool.{cases_lt, cases_eq}
use Rattle.std.proofs.lemmas.List.{get_or_at, get_or_append_left, get_or-set_same, get_or-set_other, get_or-take, length-set, length_push, length-take-le}
use Rattle.std.proofs.lemmas.List.Edits.{swap_is, swapped_from_swap}
use Rattle.std.proofs.lemmas.List.Sums.{sum_by-set}
use Rattle.session_values.specs.declared.value.Value.{Value}
use Rattle.session_values.specs.declared.value.Value.TheVariants.{Nil}
use Rattle.shard_tables.specs.Slots.{distance, start_by, start_in, HoldsPlaces, IsIndex, IsIndexBut}
use Rattle.shard_tables.proofs.Changes.{one, other_is, Changed, changed_holds}

-- ---- a key comes in
-- slots of which a free one is taken for the place n
entered_holds : (m n : ℕ) (xs : List ℕ) (e : ℕ) → HoldsPlaces m n xs → e < m → get_or xs e 0 ≡ 0 → HoldsPlaces m (n + 1) (set xs e (n + 1))
entered_holds m n xs e holds l free =
    let here : get_or (set xs e (n + 1)) e 0 ≡ n + 1 = get_or-set_same xs e (n + 1) 0 (omega (arith, holds.long)) in
    record {
      long = length-set xs e (n + 1) ∙ holds.long;
      taken = omega (arith, sum_by-set one xs e (n + 1) 0 (omega (arith, holds.long)), holds.taken, free);
      few = λ s. elim (cases_eq s e) [
        | inl i ↦ omega (arith, ap (λ (v : ℕ). get_or (set xs e (n + 1)) v 0) i, here)
        | inr i ↦ omega (arith, get_or-set_other xs e s (n + 1) 0 i, holds.few s)
      ];
      once = λ s t p q. elim (cases_eq s e) [
        | inl i ↦ elim (cases_eq t e) [
          | inl j ↦ i ∙ sym j
          | inr j ↦ absurd (omega (arith, ap (λ (v : ℕ). get_or (set xs e (n + 1)) v 0) i, here, get_or-set_other xs e t (n + 1) 0 j, holds.few t))
        ]
        | inr i ↦ elim (cases_eq t e) [
          | inl j ↦ absurd (omega (arith, ap (λ (v : ℕ). get_or (set xs e (n + 1)) v 0) j, here, get_or-set_other xs e s (n + 1) 0 i, holds.few s))
          | inr j ↦ holds.once s t (omega (arith, get_or-set_other xs e s (n + 1) 0 i)) (sym (get_or-set_other xs e s (n + 1) 0 i) ∙ q ∙ get_or-set_other xs e t (n + 1) 0 j)
        ]
      ];
      there = λ p q. elim (cases_lt p n) [
        | inl r ↦
            let w = holds.there p r in
            let apart : w.0 ≢ e = λ i. omega (arith, ap (λ (v : ℕ). get_or xs v 0) i, free, w.1) in
            (w.0, get_or-set_other xs e w.0 (n + 1) 0 apart ∙ w.1)
        | inr r ↦ (e, omega arith)
      ];
    }

stays_taken : (xs : List ℕ) (e x t : ℕ) → e < length xs → 0 < x → 0 < get_or xs t 0 → 0 < get_or (set xs e x) t 0
stays_taken xs e x t l p h = elim (cases_eq t e) [
  | inl i ↦ omega (arith, ap (λ (v : ℕ). get_or (set xs e x) v 0) i, get_or-set_same xs e x 0 l)
  | inr i ↦ omega (arith, get_or-set_other xs e t x 0 i)
]

-- the searches for the keys before begin where they began
old_start : (factor bits : ℕ) (keys : List Value) (k : Value) (x : ℕ) → 0 < x → x ≤ length keys → start_in factor bits (keys ++ k ∷ []) x ≡ start_in factor bits keys x
old_start factor bits keys k x p l = ap (λ (v : Value). start_by factor v bits) (get_or_append_left keys (k ∷ []) Nil (x - 1) (omega arith))

new_start : (factor bits : ℕ) (keys : List Value) (k : Value) → start_in factor bits (keys ++ k ∷ []) (length keys + 1) ≡ start_by factor k bits
new_start factor bits keys k = ap (λ (v : Value). start_by factor v bits) (get_or_at keys k [] Nil (length keys + 1 - 1) (omega arith))

pub entered : (factor bits : ℕ) (keys : List Value) (xs : List ℕ) (k : Value) (e : ℕ) → IsIndex factor bits keys xs → e < 2 ^ bits → get_or xs e 0 ≡ 0
    → ((t : ℕ) → t < 2 ^ bits → distance (2 ^ bits) (start_by factor k bits) t < distance (2 ^ bits) (start_by factor k bits) e → 0 < get_or xs t 0)
    → IsIndex factor bits (keys ++ k ∷ []) (set xs e (length keys + 1))
entered factor bits keys xs k e ix l free path =
    let n = length keys in
    let ys = set xs e (n + 1) in
    let e_in : e < length xs = omega (arith, ix.places.long) in
    let P : ℕ → Type 0 = λ a. HoldsPlaces (2 ^ bits) a ys in
    record {
      places = subst P (sym (length_push keys k)) (entered_holds (2 ^ bits) n xs e ix.places l free);
      reached = λ s taken t t_in w. elim (cases_eq s e) [
        | inl i ↦
            let Q : ℕ → Type 0 = λ v. distance (2 ^ bits) (start_in factor bits (keys ++ k ∷ []) (get_or ys v 0)) t < distance (2 ^ bits) (start_in factor bits (keys ++ k ∷ []) (get_or ys v 0)) v in
            let R : ℕ → Type 0 = λ h. distance (2 ^ bits) h t < distance (2 ^ bits) h e in
            let is : start_in factor bits (keys ++ k ∷ []) (get_or ys e 0) ≡ start_by factor k bits = ap (start_in factor bits (keys ++ k ∷ [])) (get_or-set_same xs e (n + 1) 0 e_in) ∙ new_start factor bits keys k in
            stays_taken xs e (n + 1) t e_in (omega arith) (path t t_in (subst R is (subst Q i w)))
        | inr i ↦
            let same = get_or-set_other xs e s (n + 1) 0 i in
            let R : ℕ → Type 0 = λ h. distance (2 ^ bits) h t < distance (2 ^ bits) h s in
            let is : start_in factor bits (keys ++ k ∷ []) (get_or ys s 0) ≡ start_in factor bits keys (get_or xs s 0) = ap (start_in factor bits (keys ++ k ∷ [])) same ∙ old_start factor bits keys k (get_or xs s 0) (omega (arith, same, taken)) (ix.places.few s) in
            stays_taken xs e (n + 1) t e_in (omega arith) (ix.reached s (omega (arith, same, taken)) t t_in (subst R is w))
      ];
    }

-- ---- two slots change what they hold
pub changed_swap : (xs ys : List ℕ) (a b : ℕ) → a < length xs → b < length xs → ys ≡ swap xs a b → Changed xs ys a b
changed_swap xs ys a b p q e =
    let w = swapped_from_swap xs ys a b 0 p q e in
    let is : ys ≡ set (set xs a (get_or xs b 0)) b (get_or xs a 0) = e ∙ sym (swap_is xs a b 0 p q) in
    let first = sum_by-set one xs a (get_or xs b 0) 0 p in
    let second = sum_by-set one (set xs a (get_or xs b 0)) b (get_or xs a 0) 0 (omega (arith, length-set xs a (get_or xs b 0))) in
    let there : get_or (set xs a (get_or xs b 0)) b 0 ≡ get_or xs b 0 = elim (cases_eq b a) [
      | inl i ↦ ap (λ (v : ℕ). get_or (set xs a (get_or xs b 0)) v 0) i ∙ get_or-set_same xs a (get_or xs b 0) 0 p
      | inr i ↦ get_or-set_other xs a b (get_or xs b 0) 0 i
    ] in
    record {
      long = ap (λ (l : List ℕ). length l) is ∙ length-set (set xs a (get_or xs b 0)) b (get_or xs a 0) ∙ length-set xs a (get_or xs b 0);
      sum = omega (arith, ap (λ (l : List ℕ). sum_by one l) is, first, second, ap one there);
      at = λ s. elim (other_is a b s) [
        | inl h ↦ ap (λ (v : ℕ). get_or ys v 0) h.0 ∙ w.0 ∙ ap (λ (v : ℕ). get_or xs v 0) (sym h.1)
        | inr h ↦ elim h [
          | inl g ↦ ap (λ (v : ℕ). get_or ys v 0) g.1 ∙ w.1 ∙ ap (λ (v : ℕ). get_or xs v 0) (sym g.2)
          | inr g ↦ w.2 s g.0 g.1 ∙ ap (λ (v : ℕ). get_or xs v 0) (sym g.2)
        ]
      ];
    }

pub changed_taken : (xs ys : List ℕ) (a b t : ℕ) → Changed xs ys a b → 0 < get_or xs a 0 → 0 < get_or xs b 0 → 0 < get_or xs t 0 → 0 < get_or ys t 0
changed_taken xs ys a b t ch p q h = elim (other_is a b t) [
  | inl g ↦ omega (arith, ch.at t, ap (λ (v : ℕ). get_or xs v 0) g.1)
  | inr g ↦ elim g [
    | inl f ↦ omega (arith, ch.at t, ap (λ (v : ℕ). get_or xs v 0) f.2)
    | inr f ↦ omega (arith, ch.at t, ap (λ (v : ℕ). get_or xs v 0) f.2)
  ]
]

-- ---- the last key takes the place of another
-- what stands at a place then
pub out_at : (keys : List Value) (p q : ℕ) → p < length keys → q + 1 < length keys → q ≢ p → get_or (swap_remove keys p Nil) q Nil ≡ get_or keys q Nil
out_at keys p q l r n =
    get_or-take (length keys - 1) (set keys p (get_or keys (length keys - 1) Nil)) q Nil (omega arith) ∙ get_or-set_other keys p q (get_or keys (length keys - 1) Nil) Nil n

pub out_here : (keys : List Value) (p : ℕ) → p + 1 < length keys → get_or (swap_remove keys p Nil) p Nil ≡ get_or keys (length keys - 1) Nil
out_here keys p l =
    get_or-take (length keys - 1) (set keys p (get_or keys (length keys - 1) Nil)) p Nil (omega arith) ∙ get_or-set_same keys p (get_or keys (length keys - 1) Nil) Nil (omega arith)

pub out_length : (keys : List Value) (p : ℕ) → p < length keys → length (swap_remove keys p Nil) + 1 ≡ length keys
out_length keys p l =
    omega (arith, length-take-le (length keys - 1) (set keys p (get_or keys (length keys - 1) Nil)) (omega (arith, length-set keys p (get_or keys (length keys - 1) Nil))))

-- slot a holds the place that is given up, slot b the last place
pub renamed : (factor bits : ℕ) (keys : List Value) (xs ys : List ℕ) (a b p : ℕ) → IsIndex factor bits keys xs → p < length keys → get_or xs a 0 ≡ p + 1 → get_or xs b 0 ≡ length keys → Changed xs ys a b
    → IsIndexBut factor bits (swap_remove keys p Nil) ys a
renamed factor bits keys xs ys a b p ix l here last ch =
    let out = swap_remove keys p Nil in
    let less = out_length keys p l in
    let P : ℕ → Type 0 = λ n. HoldsPlaces (2 ^ bits) n ys in
    record {
      places = subst P (sym less) (changed_holds (2 ^ bits) (length keys) xs ys a b ix.places ch);
      last = elim (other_is a b a) [
        | inl h ↦ omega (arith, ch.at a, ap (λ (v : ℕ). get_or xs v 0) h.1, last, less)
        | inr h ↦ elim h [
          | inl g ↦ absurd (g.0 refl)
          | inr g ↦ absurd (g.0 refl)
        ]
      ];
      reached = λ s apart taken t t_in w.
          let R : ℕ → Type 0 = λ h. distance (2 ^ bits) h t < distance (2 ^ bits) h s in
          let S = reached_by s apart taken in
          changed_taken xs ys a b t ch (omega (arith, here)) (omega (arith, last, l)) (ix.reached s S.0 t t_in (subst R S.1 w));
    }
  where
    -- what slot s holds has the start_in that it had before in slot s
    reached_by : (s : ℕ) → s ≢ a → 0 < get_or ys s 0 → (0 < get_or xs s 0) × (start_in factor bits (swap_remove keys p Nil) (get_or ys s 0) ≡ start_in factor bits keys (get_or xs s 0))
    reached_by s apart taken = elim (other_is a b s) [
      | inl h ↦ absurd (apart h.0)
      | inr h ↦ elim h [
        | inl g ↦
            let at_b : get_or xs s 0 ≡ length keys = ap (λ (v : ℕ). get_or xs v 0) g.1 ∙ last in
            let now : get_or ys s 0 ≡ p + 1 = ch.at s ∙ ap (λ (v : ℕ). get_or xs v 0) g.2 ∙ here in
            let ne : p + 1 ≢ length keys = λ i. apart (ix.places.once s a (omega (arith, at_b, l)) (at_b ∙ sym i ∙ sym here)) in
            let at_p : get_or ys s 0 - 1 ≡ p = omega (arith, now) in
            let at_last : length keys - 1 ≡ get_or xs s 0 - 1 = omega (arith, at_b) in
            (omega (arith, at_b, l), ap (λ (q : ℕ). start_by factor (get_or (swap_remove keys p Nil) q Nil) bits) at_p ∙ ap (λ (v : Value). start_by factor v bits) (out_here keys p (omega (arith, ne, l))) ∙ ap (λ (q : ℕ). start_by factor (get_or keys q Nil) bits) at_last)
        | inr g ↦
            let same : get_or ys s 0 ≡ get_or xs s 0 = ch.at s ∙ ap (λ (v : ℕ). get_or xs v 0) g.2 in
            let in_xs : 0 < get_or xs s 0 = omega (arith, same, taken) in
            let not_p : get_or xs s 0 - 1 ≢ p = λ i. apart (ix.places.once s a in_xs (omega (arith, i, in_xs, here))) in
            let not_last : get_or xs s 0 ≢ length keys = λ i. g.1 (ix.places.once s b in_xs (i ∙ sym last)) in
            (in_xs, ap (start_in factor bits (swap_remove keys p Nil)) same ∙ ap (λ (v : Value). start_by factor v bits) (out_at keys p (get_or xs s 0 - 1) l (omega (arith, in_xs, not_last, ix.places.few s)) not_p))
      ]
    ]
