-- What stands under a key once an element of a list with different keys is set, pushed or taken out.
use Rattle.std.proofs.Common.{◌≡◌, ℕ, zero, suc, ◌+◌, ◌-◌, ◌<◌, ◌≤◌, length, get_or, List, [], ◌∷◌, ◌++◌, take, Option, Some, None, Bool, true, false, cond, refl, sym, ◌∙◌, ap, subst, arith, ◌⊎◌, inl, inr, length-append}
use Rattle.std.proofs.Math.ListN.{set}
use Rattle.std.proofs.lemmas.List.{take_more, take_all, take_at, set_at, set-append_left, get_or_at, get_or_append_left, length-set}
use Rattle.std.proofs.lemmas.Bool.{false_from_ne_true, both_ways}
use Rattle.std.specs.Prelude.{find}
use Rattle.std.specs.List.{swap_remove}
use Rattle.session_values.specs.declared.value.Value.{Value}
use Rattle.session_values.specs.Values.{value_eq}
use Rattle.shard_tables.specs.Keys.{is_under, AreDifferent}
use Rattle.shard_tables.proofs.Values.{value_eq-same}
use Rattle.session_values.proofs.Equal.{same_value, value_eq-sym}
use Rattle.session_values.proofs.Options.{some_none}

module _ {X : Type 0} (key : X → Value) where
  -- what stands under a key
  abbrev pub under : Value → List X → Option X
  under q xs = find (is_under key q) xs

  none_twice : {A : Type 0} (b : Bool) → ◌≡◌ {A = Option A} (cond b None None) None
  none_twice true = refl
  none_twice false = refl

  -- nothing stands under a key: the first element is of another, and so are the later ones
  pub missed : (x : X) (xs : List X) (q : Value) → under q (x ∷ xs) ≡ None → (value_eq q (key x) ≡ false) × (under q xs ≡ None)
  missed x xs q h = go (value_eq q (key x)) refl h
    where
      go : (b : Bool) → value_eq q (key x) ≡ b → cond b (Some x) (under q xs) ≡ None → (value_eq q (key x) ≡ false) × (under q xs ≡ None)
      go true e h = absurd (some_none x h)
      go false e h = (e, h)

  -- something stands under the key of each place
  pub not_missed : (xs : List X) (i : ℕ) (d : X) (q : Value) → i < length xs → q ≡ key (get_or xs i d) → under q xs ≡ None → ⊥
  not_missed [] i d q l e h = absurd (omega arith)
  not_missed (x ∷ xs) zero d q l e h = both_ways (value_eq q (key x)) (missed x xs q h).0 (value_eq-same q (key x) e)
  not_missed (x ∷ xs) (suc i) d q l e h = not_missed xs i d q (omega arith) e (missed x xs q h).1

  -- the new element's key is the old one's, or stands nowhere
  abbrev pub IsNewKey : List X → Value → X → Type 0
  IsNewKey xs k z = cond (value_eq (key z) k) None (under (key z) xs) ≡ None

  new_first : (x : X) (xs : List X) (k : Value) (z : X) → k ≡ key x → under (key x) xs ≡ None → IsNewKey (x ∷ xs) k z → under (key z) xs ≡ None
  new_first x xs k z e a f = go (value_eq (key z) k) refl f
    where
      go : (b : Bool) → value_eq (key z) k ≡ b → cond b None (under (key z) (x ∷ xs)) ≡ None → under (key z) xs ≡ None
      go true p h = let P : Value → Type 0 = λ v. under v xs ≡ None in subst P (sym (same_value (key z) k p ∙ e)) a
      go false p h = (missed x xs (key z) h).1

  new_later : (x : X) (xs : List X) (k : Value) (z : X) → (key x ≡ k → ⊥) → IsNewKey (x ∷ xs) k z → (value_eq (key z) (key x) ≡ false) × IsNewKey xs k z
  new_later x xs k z apart f = go (value_eq (key z) k) refl f
    where
      go : (b : Bool) → value_eq (key z) k ≡ b → cond b None (under (key z) (x ∷ xs)) ≡ None → (value_eq (key z) (key x) ≡ false) × (cond b None (under (key z) xs) ≡ None)
      go true p h = (false_from_ne_true _ (λ e. apart (sym (same_value (key z) (key x) e) ∙ same_value (key z) k p)), refl)
      go false p h = missed x xs (key z) h

  -- ---- an element is set
  pub under_set : (xs : List X) (i : ℕ) (z d : X) (k q : Value) → i < length xs → k ≡ key (get_or xs i d) → AreDifferent key xs → IsNewKey xs k z
      → under q (set xs i z) ≡ cond (value_eq q (key z)) (Some z) (cond (value_eq q k) None (under q xs))
  under_set [] i z d k q l e a f = absurd (omega arith)
  under_set (x ∷ xs) zero z d k q l e a f = ap (cond (value_eq q (key z)) (Some z)) (go (value_eq q k) refl)
    where
      go : (b : Bool) → value_eq q k ≡ b → under q xs ≡ cond b None (under q (x ∷ xs))
      go true p = let P : Value → Type 0 = λ v. under v xs ≡ None in subst P (sym (same_value q k p ∙ e)) a.0
      go false p = ap (λ (b : Bool). cond b (Some x) (under q xs)) (sym (false_from_ne_true (value_eq q (key x)) (λ h. both_ways (value_eq q k) p (value_eq-same q k (same_value q (key x) h ∙ sym e)))))
  under_set (x ∷ xs) (suc i) z d k q l e a f =
      let apart : key x ≡ k → ⊥ = λ h. not_missed xs i d (key x) (omega arith) (h ∙ e) a.0 in
      let new = new_later x xs k z apart f in
      go (value_eq q (key x)) refl apart new.0 (under_set xs i z d k q (omega arith) e a.1 new.1)
    where
      go : (b : Bool) → value_eq q (key x) ≡ b → (key x ≡ k → ⊥) → value_eq (key z) (key x) ≡ false → under q (set xs i z) ≡ cond (value_eq q (key z)) (Some z) (cond (value_eq q k) None (under q xs))
          → cond b (Some x) (under q (set xs i z)) ≡ cond (value_eq q (key z)) (Some z) (cond (value_eq q k) None (cond b (Some x) (under q xs)))
      go true p apart other h =
          let is : q ≡ key x = same_value q (key x) p in
          sym (ap (λ (b : Bool). cond b (Some z) (cond (value_eq q k) None (Some x))) (false_from_ne_true (value_eq q (key z)) (λ t. both_ways (value_eq (key z) (key x)) other (value_eq-same (key z) (key x) (sym (same_value q (key z) t) ∙ is))))
          ∙ ap (λ (b : Bool). cond b None (Some x)) (false_from_ne_true (value_eq q k) (λ t. apart (sym is ∙ same_value q k t))))
      go false p apart other h = h

  pub different_set : (xs : List X) (i : ℕ) (z d : X) (k : Value) → i < length xs → k ≡ key (get_or xs i d) → AreDifferent key xs → IsNewKey xs k z → AreDifferent key (set xs i z)
  different_set [] i z d k l e a f = absurd (omega arith)
  different_set (x ∷ xs) zero z d k l e a f = (new_first x xs k z e a.0 f, a.1)
  different_set (x ∷ xs) (suc i) z d k l e a f =
      let new = new_later x xs k z (λ h. not_missed xs i d (key x) (omega arith) (h ∙ e) a.0) f in (
        under_set xs i z d k (key x) (omega arith) e a.1 new.1
            ∙ ap (λ (b : Bool). cond b (Some z) (cond (value_eq (key x) k) None (under (key x) xs))) (value_eq-sym (key z) (key x) new.0)
            ∙ ap (λ (o : Option X). cond (value_eq (key x) k) None o) a.0 ∙ none_twice (value_eq (key x) k),
        different_set xs i z d k (omega arith) e a.1 new.1,
      )

  -- ---- an element is pushed
  pub under_push : (xs : List X) (z : X) (q : Value) → under (key z) xs ≡ None → under q (xs ++ z ∷ []) ≡ cond (value_eq q (key z)) (Some z) (under q xs)
  under_push [] z q h = refl
  under_push (x ∷ xs) z q h = go (value_eq q (key x)) refl (under_push xs z q (missed x xs (key z) h).1)
    where
      go : (b : Bool) → value_eq q (key x) ≡ b → under q (xs ++ z ∷ []) ≡ cond (value_eq q (key z)) (Some z) (under q xs) → cond b (Some x) (under q (xs ++ z ∷ [])) ≡ cond (value_eq q (key z)) (Some z) (cond b (Some x) (under q xs))
      go true p r = sym (ap (λ (b : Bool). cond b (Some z) (Some x)) (false_from_ne_true (value_eq q (key z)) (λ t. both_ways (value_eq (key z) (key x)) (missed x xs (key z) h).0 (value_eq-same (key z) (key x) (sym (same_value q (key z) t) ∙ same_value q (key x) p)))))
      go false p r = r

  pub different_push : (xs : List X) (z : X) → AreDifferent key xs → under (key z) xs ≡ None → AreDifferent key (xs ++ z ∷ [])
  different_push [] z a h = (refl, tt)
  different_push (x ∷ xs) z a h =
      let m = missed x xs (key z) h in (
        under_push xs z (key x) m.1 ∙ ap (λ (b : Bool). cond b (Some z) (under (key x) xs)) (value_eq-sym (key z) (key x) m.0) ∙ a.0,
        different_push xs z a.1 m.1,
      )

  missed_push : (xs : List X) (z : X) (q : Value) → under q (xs ++ z ∷ []) ≡ None → (under q xs ≡ None) × (value_eq q (key z) ≡ false)
  missed_push [] z q h = (refl, (missed z [] q h).0)
  missed_push (x ∷ xs) z q h =
      let m = missed x (xs ++ z ∷ []) q h in
      let n = missed_push xs z q m.1 in
      (ap (λ (b : Bool). cond b (Some x) (under q xs)) m.0 ∙ n.0, n.1)

  pub pushed_different : (xs : List X) (z : X) → AreDifferent key (xs ++ z ∷ []) → AreDifferent key xs × (under (key z) xs ≡ None)
  pushed_different [] z a = (tt, refl)
  pushed_different (x ∷ xs) z a =
      let m = missed_push xs z (key x) a.0 in
      let n = pushed_different xs z a.1 in
      ((m.0, n.0), ap (λ (b : Bool). cond b (Some x) (under (key z) xs)) (value_eq-sym (key x) (key z) m.1) ∙ n.1)

  -- ---- an element is taken out, and the last one comes to its place
  one_less : (ys : List X) (z : X) → length (ys ++ z ∷ []) - 1 ≡ length ys
  one_less ys z = omega (arith, length-append ys (z ∷ []))

  last_is : (ys : List X) (z d : X) → get_or (ys ++ z ∷ []) (length (ys ++ z ∷ []) - 1) d ≡ z
  last_is ys z d = ap (λ (n : ℕ). get_or (ys ++ z ∷ []) n d) (one_less ys z) ∙ get_or_at ys z [] d (length ys) refl

  out_is : (ys : List X) (z d : X) (i : ℕ) → swap_remove (ys ++ z ∷ []) i d ≡ take (length ys) (set (ys ++ z ∷ []) i z)
  out_is ys z d i =
      ap (λ (n : ℕ). take n (set (ys ++ z ∷ []) i (get_or (ys ++ z ∷ []) (length (ys ++ z ∷ []) - 1) d))) (one_less ys z)
      ∙ ap (λ (w : X). take (length ys) (set (ys ++ z ∷ []) i w)) (last_is ys z d)

  out_inner : (ys : List X) (z d : X) (i : ℕ) → i < length ys → swap_remove (ys ++ z ∷ []) i d ≡ set ys i z
  out_inner ys z d i l =
      out_is ys z d i ∙ ap (take (length ys)) (set-append_left ys (z ∷ []) i z l) ∙ take_at (set ys i z) (z ∷ []) (length ys) (length-set ys i z)

  out_last : (ys : List X) (z d : X) → swap_remove (ys ++ z ∷ []) (length ys) d ≡ ys
  out_last ys z d =
      out_is ys z d (length ys) ∙ ap (take (length ys)) (set_at ys z [] z (length ys) refl) ∙ take_at ys (z ∷ []) (length ys) refl

  -- what is left of a list of different keys when one is taken out
  pub record TakenOut (xs ys : List X) (k : Value) : Type 0 where
    pub different : AreDifferent key ys
    pub others : (q : Value) → under q ys ≡ cond (value_eq q k) None (under q xs)

  taken_last : (ys : List X) (z d : X) → AreDifferent key (ys ++ z ∷ []) → TakenOut (ys ++ z ∷ []) ys (key z)
  taken_last ys z d a =
      let p = pushed_different ys z a in
      record { different = p.0; others = λ q. go q p.1 (value_eq q (key z)) refl ∙ sym (ap (λ (o : Option X). cond (value_eq q (key z)) None o) (under_push ys z q p.1)) }
    where
      go : (q : Value) → under (key z) ys ≡ None → (b : Bool) → value_eq q (key z) ≡ b → under q ys ≡ cond b None (cond b (Some z) (under q ys))
      go q h true e = let P : Value → Type 0 = λ v. under v ys ≡ None in subst P (sym (same_value q (key z) e)) h
      go q h false e = refl

  taken_inner : (ys : List X) (z d : X) (i : ℕ) (k : Value) → i < length ys → k ≡ key (get_or ys i d) → AreDifferent key (ys ++ z ∷ []) → TakenOut (ys ++ z ∷ []) (set ys i z) k
  taken_inner ys z d i k l e a =
      let p = pushed_different ys z a in
      let new : IsNewKey ys k z = ap (λ (o : Option X). cond (value_eq (key z) k) None o) p.1 ∙ none_twice (value_eq (key z) k) in
      let apart : key z ≡ k → ⊥ = λ h. not_missed ys i d (key z) l (h ∙ e) p.1 in
      record {
        different = different_set ys i z d k l e p.0 new;
        others = λ q. under_set ys i z d k q l e p.0 new ∙ go q apart (value_eq q (key z)) (value_eq q k) refl refl ∙ sym (ap (λ (o : Option X). cond (value_eq q k) None o) (under_push ys z q p.1));
      }
    where
      go : (q : Value) → (key z ≡ k → ⊥) → (b c : Bool) → value_eq q (key z) ≡ b → value_eq q k ≡ c → cond b (Some z) (cond c None (under q ys)) ≡ cond c None (cond b (Some z) (under q ys))
      go q apart true true s t = absurd (apart (sym (same_value q (key z) s) ∙ same_value q k t))
      go q apart true false s t = refl
      go q apart false true s t = refl
      go q apart false false s t = refl

  taken_pushed : (ys : List X) (z d : X) (i : ℕ) (k : Value) → i < length (ys ++ z ∷ []) → k ≡ key (get_or (ys ++ z ∷ []) i d) → AreDifferent key (ys ++ z ∷ []) → TakenOut (ys ++ z ∷ []) (swap_remove (ys ++ z ∷ []) i d) k
  taken_pushed ys z d i k l e a = elim (inner_or_last i (length ys) (omega (arith, length-append ys (z ∷ []), l))) [
    | inl h ↦ let P : List X → Type 0 = λ xs. TakenOut (ys ++ z ∷ []) xs k in subst P (sym (out_inner ys z d i h)) (taken_inner ys z d i k h (e ∙ ap key (get_or_append_left ys (z ∷ []) d i h)) a)
    | inr h ↦
        let P : List X → Type 0 = λ xs. TakenOut (ys ++ z ∷ []) xs k in
        let Q : Value → Type 0 = λ v. TakenOut (ys ++ z ∷ []) ys v in
        let is : k ≡ key z = e ∙ ap key (ap (λ (n : ℕ). get_or (ys ++ z ∷ []) n d) h ∙ get_or_at ys z [] d (length ys) refl) in
        subst P (sym (ap (λ (n : ℕ). swap_remove (ys ++ z ∷ []) n d) h ∙ out_last ys z d)) (subst Q (sym is) (taken_last ys z d a))
  ]
    where
      inner_or_last : (i n : ℕ) → i < n + 1 → (i < n) ⊎ (i ≡ n)
      inner_or_last i n l = grind arith

  pub taken_out : (xs : List X) (i : ℕ) (d : X) (k : Value) → i < length xs → k ≡ key (get_or xs i d) → AreDifferent key xs → TakenOut xs (swap_remove xs i d) k
  taken_out xs i d k l e a =
      let n : ℕ = length xs - 1 in
      let z : X = get_or xs n d in
      let long : length xs ≤ n + 1 = omega (arith, l) in
      let few : n < length xs = omega (arith, l) in
      let is : take n xs ++ z ∷ [] ≡ xs = sym (take_more xs n d few) ∙ take_all (n + 1) xs long in
      let P : List X → Type 0 = λ ys. i < length ys → k ≡ key (get_or ys i d) → AreDifferent key ys → TakenOut ys (swap_remove ys i d) k in
      subst P is (taken_pushed (take n xs) z d i k) l e a

  -- what stands under the key of a place's element is this element
  pub under_at : (xs : List X) (i : ℕ) (x : X) → AreDifferent key xs → i < length xs → x ≡ get_or xs i x → under (key x) xs ≡ Some x
  under_at [] i x a l e = absurd (omega arith)
  under_at (y ∷ xs) zero x a l e = ap (λ (b : Bool). cond b (Some y) (under (key x) xs)) (value_eq-same (key x) (key y) (ap key e)) ∙ ap (λ (z : X). Some z) (sym e)
  under_at (y ∷ xs) (suc i) x a l e =
      let there : under (key x) xs ≡ Some x = under_at xs i x a.1 (omega arith) e in
      let apart : value_eq (key x) (key y) ≡ false = false_from_ne_true (value_eq (key x) (key y)) (λ h. not_missed xs i x (key y) (omega arith) (sym (same_value (key x) (key y) h) ∙ ap key e) a.0) in
      ap (λ (b : Bool). cond b (Some y) (under (key x) xs)) apart ∙ there
