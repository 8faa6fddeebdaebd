-- What an operation changes of a map's number keys.
use Rattle.std.proofs.Common.{◌≡◌, ℕ, ℤ, zero, suc, ◌+◌, ◌-◌, ◌<◌, ◌≤◌, List, [], ◌∷◌, length, Option, Some, None, is_some, Bool, true, false, cond, set, refl, sym, ◌∙◌, ap, subst, arith}
use Rattle.std.proofs.lemmas.Int.{ints}
use Rattle.std.proofs.lemmas.List.Sums.{sum_by-cons}
use Rattle.std.proofs.lemmas.Bool.{both_ways}
use Rattle.std.specs.List.{count_by}
use Rattle.std.specs.FinMap as map
use Rattle.session_values.specs.declared.kind.Kind.{Kind}
use Rattle.session_values.specs.declared.kind.Kind.TheVariants.{Get, Put, Swap, Del, Size, Bump, Has, Add, Mark, Drop, Count}
use Rattle.session_values.specs.declared.op.Op.{Op}
use Rattle.session_values.specs.declared.value.Value.{Value}
use Rattle.session_values.specs.declared.value.Value.TheVariants.{Nil, Num, Sym}
use Rattle.session_values.specs.Values.{value_cmp, value_cmp_total, value_cmp-IsAntisymmetric}
use Rattle.session_values.specs.Kinds.{is_adding}
use Rattle.session_values.specs.Tables.{Container, Bindings, after_on, bound_to, bumped, map_after, reply, reply_on, size_of, step, table}
use Rattle.range_tables.specs.declared.range_op.RangeOp.TheVariants.{Plain, Between}
use Rattle.shard_tables.proofs.PartSteps.{get_kept, map_here, map_elsewhere, none_in_empty_map, part_stays}
use Rattle.range_tables.specs.Ranges.{between_on, on_number, range_reply, range_step, within}
use Rattle.range_tables.specs.Tables.{AreKeysOf, Rising, count_in, one}

abbrev TheMap : Type 0
TheMap = map.FinMap value_cmp Value

abbrev bit_of : Bool → ℕ
bit_of b = cond b 1 0

-- how many keys that pass there are, when a key is bound
kept_insert : (p : Value → Bool) (m : TheMap) (k v : Value) → map.len (map.retain_keys (map.insert m k v) p) ≡ cond (map.contains_key m k) (map.len (map.retain_keys m p)) (map.len (map.retain_keys m p) + bit_of (p k))
kept_insert p m k v = go (p k) refl
  where
    same_or : (b : Bool) (n : ℕ) → n ≡ cond b n (n + 0)
    same_or true n = refl
    same_or false n = omega arith

    go : (t : Bool) → p k ≡ t → map.len (map.retain_keys (map.insert m k v) p) ≡ cond (map.contains_key m k) (map.len (map.retain_keys m p)) (map.len (map.retain_keys m p) + bit_of t)
    go true e =
        ap map.len (map_here p (Some v) k m e) ∙ map.len-insert value_cmp_total (map.retain_keys m p) k v
        ∙ ap (λ (o : Option Value). cond (is_some o) (map.len (map.retain_keys m p)) (map.len (map.retain_keys m p) + 1)) (get_kept p m k ∙ ap (λ (b : Bool). cond b (map.get m k) None) e)
    go false e = ap map.len (map_elsewhere p (Some v) k m e) ∙ same_or (map.contains_key m k) (map.len (map.retain_keys m p))

-- when a key is unbound
kept_remove : (p : Value → Bool) (m : TheMap) (k : Value) → map.len (map.retain_keys (map.remove m k) p) ≡ cond (map.contains_key m k) (map.len (map.retain_keys m p) - bit_of (p k)) (map.len (map.retain_keys m p))
kept_remove p m k = go (p k) refl
  where
    same_or : (b : Bool) (n : ℕ) → n ≡ cond b (n - 0) n
    same_or true n = omega arith
    same_or false n = refl

    go : (t : Bool) → p k ≡ t → map.len (map.retain_keys (map.remove m k) p) ≡ cond (map.contains_key m k) (map.len (map.retain_keys m p) - bit_of t) (map.len (map.retain_keys m p))
    go true e =
        ap map.len (map_here p None k m e) ∙ map.len-remove value_cmp_total (map.retain_keys m p) k
        ∙ ap (λ (o : Option Value). cond (is_some o) (map.len (map.retain_keys m p) - 1) (map.len (map.retain_keys m p))) (get_kept p m k ∙ ap (λ (b : Bool). cond b (map.get m k) None) e)
    go false e = ap map.len (map_elsewhere p None k m e) ∙ same_or (map.contains_key m k) (map.len (map.retain_keys m p))

-- a key that is bound and passes is counted
kept_some : (p : Value → Bool) (m : TheMap) (k : Value) → map.contains_key m k ≡ true → p k ≡ true → 0 < map.len (map.retain_keys m p)
kept_some p m k c e = go (map.len (map.retain_keys m p)) refl
  where
    there : map.contains_key (map.retain_keys m p) k ≡ true
    there = ap (λ (o : Option Value). is_some o) (get_kept p m k ∙ ap (λ (b : Bool). cond b (map.get m k) None) e) ∙ c

    go : (n : ℕ) → map.len (map.retain_keys m p) ≡ n → 0 < map.len (map.retain_keys m p)
    go zero q = absurd (both_ways (map.contains_key (map.retain_keys m p) k) (ap (λ (n : TheMap). map.contains_key n k) (map.empty_of_len (map.retain_keys m p) q) ∙ ap (λ (o : Option Value). is_some o) (map.get-empty {X = Value} value_cmp k)) there)
    go (suc n) q = omega (arith, q)

-- no more keys pass than there are
kept_few : (p : Value → Bool) (m : TheMap) → map.len (map.retain_keys m p) ≤ map.len m
kept_few p m = let P : TheMap → Type 0 = λ n. map.len (map.retain_keys n p) ≤ map.len n in subst P (whole m) (of_entries (map.entries m))
  where
    whole : (m : TheMap) → map.from_entries (map.entries m) ≡ m
    whole m = map.same_map value_cmp_total value_cmp-IsAntisymmetric _ _ (λ q. map.get-from_entries value_cmp_total (map.entries m) q ∙ sym (map.get-entries m q))

    step : (b t : Bool) (x y n m : ℕ) → n ≡ cond b x (x + bit_of t) → m ≡ cond b y (y + 1) → x ≤ y → n ≤ m
    step true t x y n m e f l = omega (arith, e, f, l)
    step false true x y n m e f l = omega (arith, e, f, l)
    step false false x y n m e f l = omega (arith, e, f, l)

    of_entries : (es : List (Value × Value)) → map.len (map.retain_keys (map.from_entries {R = value_cmp} es) p) ≤ map.len (map.from_entries {R = value_cmp} es)
    of_entries [] = let e : map.len (map.retain_keys (map.empty {X = Value} {R = value_cmp}) p) ≡ map.len (map.empty {X = Value} {R = value_cmp}) = ap map.len (none_in_empty_map p) in omega (arith, e)
    of_entries (e ∷ es) =
        let rest : map.len (map.retain_keys (map.from_entries {R = value_cmp} es) p) ≤ map.len (map.from_entries {R = value_cmp} es) = of_entries es in
        step (map.contains_key (map.from_entries {R = value_cmp} es) e.0) (p e.0) _ _ _ _ (kept_insert p (map.from_entries es) e.0 e.1) (map.len-insert value_cmp_total (map.from_entries es) e.0 e.1) rest

-- ---- an operation on a map
pub record Changed (m n : TheMap) (k : Value) : Type 0 where
  pub grew : map.len m < map.len n → (p : Value → Bool) → map.len (map.retain_keys n p) ≡ map.len (map.retain_keys m p) + bit_of (p k)
  pub shrank : map.len n < map.len m → (p : Value → Bool) → map.len (map.retain_keys m p) ≡ map.len (map.retain_keys n p) + bit_of (p k)
  pub same : map.len n ≡ map.len m → (p : Value → Bool) → map.len (map.retain_keys n p) ≡ map.len (map.retain_keys m p)

unchanged : (m : TheMap) (k : Value) → Changed m m k
unchanged m k = record { grew = λ l p. absurd (omega (arith, l)); shrank = λ l p. absurd (omega (arith, l)); same = λ e p. refl }

bound_changed : (m : TheMap) (k v : Value) → Changed m (map.insert m k v) k
bound_changed m k v = go (map.contains_key m k) refl
  where
    len_is : (b : Bool) → map.contains_key m k ≡ b → map.len (map.insert m k v) ≡ cond b (map.len m) (map.len m + 1)
    len_is b e = map.len-insert value_cmp_total m k v ∙ ap (λ (t : Bool). cond t (map.len m) (map.len m + 1)) e

    kept_is : (b : Bool) → map.contains_key m k ≡ b → (p : Value → Bool) → map.len (map.retain_keys (map.insert m k v) p) ≡ cond b (map.len (map.retain_keys m p)) (map.len (map.retain_keys m p) + bit_of (p k))
    kept_is b e p = kept_insert p m k v ∙ ap (λ (t : Bool). cond t (map.len (map.retain_keys m p)) (map.len (map.retain_keys m p) + bit_of (p k))) e

    go : (b : Bool) → map.contains_key m k ≡ b → Changed m (map.insert m k v) k
    go true e = record {
      grew = λ l p. absurd (omega (arith, l, len_is true e));
      shrank = λ l p. absurd (omega (arith, l, len_is true e));
      same = λ s p. kept_is true e p;
    }
    go false e = record {
      grew = λ l p. kept_is false e p;
      shrank = λ l p. absurd (omega (arith, l, len_is false e));
      same = λ s p. absurd (omega (arith, s, len_is false e));
    }

unbound_changed : (m : TheMap) (k : Value) → Changed m (map.remove m k) k
unbound_changed m k = go (map.contains_key m k) refl
  where
    len_is : (b : Bool) → map.contains_key m k ≡ b → map.len (map.remove m k) ≡ cond b (map.len m - 1) (map.len m)
    len_is b e = map.len-remove value_cmp_total m k ∙ ap (λ (t : Bool). cond t (map.len m - 1) (map.len m)) e

    kept_is : (b : Bool) → map.contains_key m k ≡ b → (p : Value → Bool) → map.len (map.retain_keys (map.remove m k) p) ≡ cond b (map.len (map.retain_keys m p) - bit_of (p k)) (map.len (map.retain_keys m p))
    kept_is b e p = kept_remove p m k ∙ ap (λ (t : Bool). cond t (map.len (map.retain_keys m p) - bit_of (p k)) (map.len (map.retain_keys m p))) e

    lost : (p : Value → Bool) → map.contains_key m k ≡ true → (t : Bool) → p k ≡ t → (n : ℕ) → n ≡ map.len (map.retain_keys m p) - bit_of t → map.len (map.retain_keys m p) ≡ n + bit_of t
    lost p c true e n q = let some : 0 < map.len (map.retain_keys m p) = kept_some p m k c e in omega (arith, some, q)
    lost p c false e n q = omega (arith, q)

    some : map.contains_key m k ≡ true → 0 < map.len m
    some c = let l : 0 < map.len (map.retain_keys m (λ x. true)) = kept_some (λ x. true) m k c refl in omega (arith, l, kept_few (λ x. true) m)

    go : (b : Bool) → map.contains_key m k ≡ b → Changed m (map.remove m k) k
    go true e = record {
      grew = λ l p. absurd (omega (arith, l, len_is true e));
      shrank = λ l p. lost p e (p k) refl (map.len (map.retain_keys (map.remove m k) p)) (kept_is true e p);
      same = λ s p. absurd (omega (arith, s, len_is true e, some e));
    }
    go false e = record {
      grew = λ l p. absurd (omega (arith, l, len_is false e));
      shrank = λ l p. absurd (omega (arith, l, len_is false e));
      same = λ s p. kept_is false e p;
    }

anew_changed : (m : TheMap) (k : Value) (o : Option Value) → Changed m (bound_to m k o) k
anew_changed m k (Some v) = bound_changed m k v
anew_changed m k None = unbound_changed m k

changed : (m : TheMap) (kind : Kind) (k v : Value) → Changed m (map_after m kind k v) k
changed m Get k v = unchanged m k
changed m Put k v = bound_changed m k v
changed m Swap k v = bound_changed m k v
changed m Del k v = unbound_changed m k
changed m Size k v = unchanged m k
changed m Bump k v = anew_changed m k (bumped v (map.get m k))
changed m Has k v = unchanged m k
changed m Add k v = unchanged m k
changed m Mark k v = unchanged m k
changed m Drop k v = unchanged m k
changed m Count k v = unchanged m k

-- unbinding adds no key
none_more : (m : TheMap) (k : Value) → map.len m < map.len (map.remove m k) → ⊥
none_more m k l = none (map.contains_key m k) (map.len-remove value_cmp_total m k)
  where
    none : (b : Bool) → map.len (map.remove m k) ≡ cond b (map.len m - 1) (map.len m) → ⊥
    none true e = omega (arith, l, e)
    none false e = omega (arith, l, e)

-- where there are more keys once a key is bound anew, it was absent
was_absent : (m : TheMap) (k : Value) (o : Option Value) → map.len m < map.len (bound_to m k o) → map.contains_key m k ≡ false
was_absent m k (Some v) l = absent (map.contains_key m k) refl
  where
    absent : (b : Bool) → map.contains_key m k ≡ b → map.contains_key m k ≡ false
    absent true e = let s : map.len (map.insert m k v) ≡ map.len m = map.len-insert value_cmp_total m k v ∙ ap (λ (t : Bool). cond t (map.len m) (map.len m + 1)) e in absurd (omega (arith, l, s))
    absent false e = e
was_absent m k None l = absurd (none_more m k l)

-- an operation after which there are more keys adds one that is absent
pub adds_new : (m : TheMap) (kind : Kind) (k v : Value) → map.len m < map.len (map_after m kind k v) → (is_adding kind ≡ true) × (map.contains_key m k ≡ false)
adds_new m Get k v l = absurd (omega (arith, l))
adds_new m Put k v l = (refl, was_absent m k (Some v) l)
adds_new m Swap k v l = (refl, was_absent m k (Some v) l)
adds_new m Del k v l = absurd (none_more m k l)
adds_new m Size k v l = absurd (omega (arith, l))
adds_new m Bump k v l = (refl, was_absent m k (bumped v (map.get m k)) l)
adds_new m Has k v l = absurd (omega (arith, l))
adds_new m Add k v l = absurd (omega (arith, l))
adds_new m Mark k v l = absurd (omega (arith, l))
adds_new m Drop k v l = absurd (omega (arith, l))
adds_new m Count k v l = absurd (omega (arith, l))

-- an empty map has no number keys
pub empty_keys : (c : Container) (keys : List ℤ) → c ≡ Bindings map.empty → keys ≡ [] → AreKeysOf c keys
empty_keys c keys e f =
    let P : Container → Type 0 = λ d. AreKeysOf d keys in
    let Q : List ℤ → Type 0 = λ l. AreKeysOf (Bindings map.empty) l in
    subst P (sym e) (subst Q (sym f) (record { rising = tt; counted = λ p. ap map.len (none_in_empty_map (on_number p)) ∙ map.len-empty value_cmp Value }))

-- a key that is no number passes no test of numbers
pub not_number : (p : ℤ → Bool) (k : Value) → ((x : ℤ) → k ≡ Num x → ⊥) → on_number p k ≡ false
not_number p Nil f = refl
not_number p (Num x) f = absurd (f x refl)
not_number p (Sym place) f = refl

-- ---- in the one table
pub reply_first : (c : Container) (op : Op) → op.table ≡ 0 → range_reply (c ∷ []) (Plain op) ≡ reply_on c op
unfolding range_reply reply
reply_first c op e = ap (λ (i : ℕ). reply_on (table (c ∷ []) i) op) e

pub step_first : (c : Container) (op : Op) → op.table ≡ 0 → range_step (c ∷ []) (Plain op) ≡ after_on c op ∷ []
unfolding range_step step
step_first c op e = ap (λ (i : ℕ). set (c ∷ []) i (after_on (table (c ∷ []) i) op)) e

pub count_first : (c : Container) (i : ℕ) (low high : ℤ) → i ≡ 0 → range_reply (c ∷ []) (Between i low high) ≡ between_on low high c
unfolding range_reply
count_first c i low high e = ap (λ (j : ℕ). between_on low high (table (c ∷ []) j)) e

pub same_first : (c : Container) (i : ℕ) (low high : ℤ) → range_step (c ∷ []) (Between i low high) ≡ c ∷ []
unfolding range_step
same_first c i low high = refl

-- ---- of a map and its number keys
module _ (m : TheMap) (op : Op) (keys : List ℤ) where
  pub grown : (more : List ℤ) (key : ℤ) → AreKeysOf (Bindings m) keys → op.key ≡ Num key → map.len m < map.len (map_after m op.kind op.key op.value) → Rising more → ((p : ℤ → Bool) → count_by p more ≡ count_by p keys + one p key) → AreKeysOf (after_on (Bindings m) op) more
  grown more key a e l r c = record {
    rising = r;
    counted = λ p. (changed m op.kind op.key op.value).grew l (on_number p) ∙ ap (λ (x : Value). map.len (map.retain_keys m (on_number p)) + bit_of (on_number p x)) e ∙ ap (λ (n : ℕ). n + bit_of (p key)) (a.counted p) ∙ sym (c p);
  }

  pub shrunk : (less : List ℤ) (key : ℤ) → AreKeysOf (Bindings m) keys → op.key ≡ Num key → map.len (map_after m op.kind op.key op.value) < map.len m → Rising less → ((p : ℤ → Bool) → count_by p keys ≡ count_by p less + one p key) → AreKeysOf (after_on (Bindings m) op) less
  shrunk less key a e l r c = record {
    rising = r;
    counted = λ p. same_rest (map.len (map.retain_keys (map_after m op.kind op.key op.value) (on_number p))) (count_by p less) (bit_of (p key)) (sym ((changed m op.kind op.key op.value).shrank l (on_number p) ∙ ap (λ (x : Value). map.len (map.retain_keys (map_after m op.kind op.key op.value) (on_number p)) + bit_of (on_number p x)) e) ∙ a.counted p ∙ c p);
  }
    where
      same_rest : (x y z : ℕ) → x + z ≡ y + z → x ≡ y
      same_rest x y z e = omega (arith, e)

  -- the key that goes is among them
  pub is_there : (key : ℤ) → AreKeysOf (Bindings m) keys → op.key ≡ Num key → map.len (map_after m op.kind op.key op.value) < map.len m → 0 < count_in key key keys
  is_there key a e l =
      let all : map.len (map.retain_keys m (on_number (within key key))) ≡ map.len (map.retain_keys (map_after m op.kind op.key op.value) (on_number (within key key))) + bit_of (on_number (within key key) op.key) = (changed m op.kind op.key op.value).shrank l (on_number (within key key)) in
      let itself : bit_of (on_number (within key key) op.key) ≡ 1 = ap (λ (x : Value). bit_of (on_number (within key key) x)) e ∙ ap bit_of (self_within key) in
      omega (arith, all, itself, a.counted (within key key))
    where
      self_within : (x : ℤ) → within x x x ≡ true
      self_within x = grind (arith, ints)

  pub kept_size : AreKeysOf (Bindings m) keys → map.len (map_after m op.kind op.key op.value) ≡ map.len m → AreKeysOf (after_on (Bindings m) op) keys
  kept_size a e = record { rising = a.rising; counted = λ p. (changed m op.kind op.key op.value).same e (on_number p) ∙ a.counted p }

  pub kept_others : AreKeysOf (Bindings m) keys → ((p : ℤ → Bool) → on_number p op.key ≡ false) → AreKeysOf (after_on (Bindings m) op) keys
  kept_others a f = record { rising = a.rising; counted = λ p. ap size_of (part_stays (on_number p) (Bindings m) op (f p)) ∙ a.counted p }

  -- there is room for one number more where there is for one key more
  pub few_keys : AreKeysOf (Bindings m) keys → length keys ≤ map.len m
  few_keys a =
      let all : map.len (map.retain_keys m (on_number (λ x. true))) ≡ count_by (λ x. true) keys = a.counted (λ x. true) in
      let few : map.len (map.retain_keys m (on_number (λ x. true))) ≤ map.len m = kept_few (on_number (λ x. true)) m in
      omega (arith, all, few, every keys)
    where
      every : (xs : List ℤ) → count_by (λ (x : ℤ). true) xs ≡ length xs
      every [] = refl
      every (x ∷ xs) = let total : count_by (λ (y : ℤ). true) (x ∷ xs) ≡ 1 + count_by (λ (y : ℤ). true) xs = sum_by-cons (λ (y : ℤ). 1) x xs in omega (arith, total, every xs)
