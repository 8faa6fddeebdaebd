-- The containers that tell apart the orders of each pair of kinds that doesn't commute.
use Rattle.std.proofs.Common.{◌≡◌, ℕ, ℤ, pos, ◌+ℤ◌, neg_ℤ, ◌+◌, ◌-◌, ◌⊎◌, inl, inr, Option, Some, None, Bool, true, false, cond, not, ◌&&◌, ◌||◌, refl, sym, ◌∙◌, ap, subst, lit<, arith}
use Rattle.std.specs.Prelude.{is_some}
use Rattle.std.specs.Option.{unwrap_or}
use Rattle.std.specs.Int.{int_wrap, w64}
use Rattle.std.proofs.lemmas.Int.{ints, int_wrap-add_left, int_wrap_fits}
use Rattle.std.proofs.lemmas.Option.{same_Some, none-some}
use Rattle.std.proofs.lemmas.Bool.{false≢true, both_ways}
use Rattle.std.specs.FinMap as map
use Rattle.std.specs.FinSet as set
use Rattle.session_values.specs.declared.kind.Kind.{Kind}
use Rattle.session_values.specs.declared.kind.Kind.TheVariants.{Get, Put, Swap, Del, Size, Bump, Has, Add, Mark, Drop, Count}
use Rattle.session_values.specs.declared.kind.TableKind.TheVariants.{Map, Set}
use Rattle.session_values.specs.declared.op.Op.{Op}
use Rattle.session_values.specs.declared.value.Value.{Value}
use Rattle.session_values.specs.declared.value.Value.TheVariants.{Nil, Num, Sym}
use Rattle.session_values.specs.Values.{value_cmp, value_eq, value_cmp_total, IsValue}
use Rattle.session_values.specs.Kinds.{home}
use Rattle.session_values.specs.Tables.{Container, Bindings, Members, bound_to, bumped, sum_in_range, map_reply, map_after, set_after, bit, AreValues}
use Rattle.session_values.specs.Tables.{kind_of}
use Rattle.session_values.proofs.Bumps.{get-bound_to, fits_number}
use Rattle.session_values.proofs.Starts.{values_none, members_none}
use Rattle.commute_tables.specs.Relation.{is_number, is_zero}
use Rattle.commute_tables.specs.ToldApart.{IsTelling, Empty, Zero, One, Member}
use Rattle.commute_tables.proofs.Commutes.{flip}
use Rattle.commute_tables.proofs.OneTable.{SwapsOn}
use Rattle.session_values.proofs.Equal.{same_value, value_eq-self, not_same}

abbrev pub op : Kind → ℕ → Value → Value → Op
op kind i k v = record { kind = kind; table = i; key = k; value = v }

-- a container that tells
pub record Tells (a b : Op) : Type 0 where
  pub container : Container
  pub telling : IsTelling a.key container ⊎ IsTelling b.key container
  pub kind : kind_of container ≡ home a.kind
  pub values : IsValue a.key → IsValue b.key → AreValues container
  pub differ : SwapsOn container a b → ⊥

pub turn : (a b : Op) → home b.kind ≡ home a.kind → Tells b a → Tells a b
turn a b h t = record { container = t.container; telling = other_side t.telling; kind = t.kind ∙ h; values = λ p q. t.values q p; differ = λ s. t.differ (flip t.container b a s) }
  where
    other_side : {A B : Type 0} → A ⊎ B → B ⊎ A
    other_side (inl x) = inr x
    other_side (inr y) = inl y

abbrev pub no_map : map.FinMap value_cmp Value
no_map = map.empty

abbrev pub no_set : set.FinSet value_cmp
no_set = set.empty

-- ---- values apart
pub zero_one : ◌≡◌ {A = Value} (Num (pos 0)) (Num (pos 1)) → ⊥
zero_one e = cc

pub one_two : ◌≡◌ {A = Value} (Num (pos 1)) (Num (pos 2)) → ⊥
one_two e = cc

pub nil_zero : ◌≡◌ {A = Value} (Num (pos 0)) Nil → ⊥
nil_zero e = cc

-- 1, or 2 where it would be the same
abbrev pub other : Value → Value
other w = cond (value_eq w (Num (pos 1))) (Num (pos 2)) (Num (pos 1))

pub other_differs : (w : Value) → other w ≡ w → ⊥
other_differs w = go (value_eq w (Num (pos 1))) refl
  where
    go : (b : Bool) → value_eq w (Num (pos 1)) ≡ b → cond b (Num (pos 2)) (Num (pos 1)) ≡ w → ⊥
    go true p e = one_two (sym (same_value w (Num (pos 1)) p) ∙ sym e)
    go false p e = not_same w (Num (pos 1)) p (sym e)

-- it is a number, and not 0
pub other_number : (w : Value) → is_number (other w) ≡ true
other_number w = go (value_eq w (Num (pos 1)))
  where
    go : (b : Bool) → is_number (cond b (Num (pos 2)) (Num (pos 1))) ≡ true
    go true = refl
    go false = refl

pub other_not_zero : (w : Value) → is_zero (other w) ≡ false
other_not_zero w = go (value_eq w (Num (pos 1)))
  where
    go : (b : Bool) → is_zero (cond b (Num (pos 2)) (Num (pos 1))) ≡ false
    go true = refl
    go false = refl

-- ---- look-ups
pub got : (m : map.FinMap value_cmp Value) (k v : Value) → map.get (map.insert m k v) k ≡ Some v
got m k v = map.get-insert value_cmp_total m k v k ∙ ap (λ (b : Bool). cond b (Some v) (map.get m k)) (value_eq-self k)

pub gone : (m : map.FinMap value_cmp Value) (k : Value) → map.get (map.remove m k) k ≡ None
gone m k = map.get-remove value_cmp_total m k k ∙ ap (λ (b : Bool). cond b None (map.get m k)) (value_eq-self k)

pub len_one : (k v : Value) → map.len (map.insert no_map k v) ≡ 1
len_one k v = map.len-insert value_cmp_total no_map k v ∙ ap (λ (o : Option Value). cond (is_some o) (map.len no_map) (map.len no_map + 1)) (map.get-empty value_cmp k) ∙ ap (λ (n : ℕ). n + 1) (map.len-empty value_cmp Value)

pub len_none : map.len no_map ≡ 0
len_none = map.len-empty value_cmp Value

pub member : (s : set.FinSet value_cmp) (k : Value) → set.contains (set.insert s k) k ≡ true
member s k = set.contains-insert value_cmp_total s k k ∙ ap (λ (b : Bool). b || set.contains s k) (value_eq-self k)

pub left : (s : set.FinSet value_cmp) (k : Value) → set.contains (set.remove s k) k ≡ false
left s k = set.contains-remove value_cmp_total s k k ∙ ap (λ (b : Bool). not b && set.contains s k) (value_eq-self k)

pub absent : (k : Value) → set.contains no_set k ≡ false
absent k = set.contains-empty value_cmp k

pub count_one : (k : Value) → set.len (set.insert no_set k) ≡ 1
count_one k = set.len-insert value_cmp_total no_set k ∙ ap (λ (b : Bool). cond b (set.len no_set) (set.len no_set + 1)) (absent k) ∙ ap (λ (n : ℕ). n + 1) (set.len-empty value_cmp)

-- ---- values that a program can hold
pub values_one : (k v : Value) → IsValue k → IsValue v → AreValues (Bindings (map.insert no_map k v))
values_one k v p q l x h = by_key (value_eq l k) refl (sym (map.get-insert value_cmp_total no_map k v l) ∙ h)
  where
    by_key : (b : Bool) → value_eq l k ≡ b → cond b (Some v) (map.get no_map l) ≡ Some x → IsValue l × IsValue x
    by_key true e g = let P : Value → Type 0 = λ y. IsValue y in (subst P (sym (same_value l k e)) p, subst P (same_Some v x g) q)
    by_key false e g = absurd (none-some x (sym (map.get-empty value_cmp l) ∙ g))

pub members_one : (k : Value) → IsValue k → AreValues (Members (set.insert no_set k))
members_one k p l h = by_key (value_eq l k) refl (sym (set.contains-insert value_cmp_total no_set k l) ∙ h)
  where
    by_key : (b : Bool) → value_eq l k ≡ b → (b || set.contains no_set l) ≡ true → IsValue l
    by_key true e g = let P : Value → Type 0 = λ y. IsValue y in subst P (sym (same_value l k e)) p
    by_key false e g = absurd (both_ways (set.contains no_set l) (set.contains-empty value_cmp l) g)

pub other_held : (w : Value) → IsValue (other w)
other_held w = go (value_eq w (Num (pos 1)))
  where
    go : (b : Bool) → IsValue (cond b (Num (pos 2)) (Num (pos 1)))
    go true = lit< tt
    go false = lit< tt

-- 1, or 0 where it would be the same
abbrev pub bit_beside : Value → Value
bit_beside w = cond (value_eq w (Num (pos 1))) (Num (pos 0)) (Num (pos 1))

bit_differs : (w : Value) → bit_beside w ≡ w → ⊥
bit_differs w = go (value_eq w (Num (pos 1))) refl
  where
    go : (b : Bool) → value_eq w (Num (pos 1)) ≡ b → cond b (Num (pos 0)) (Num (pos 1)) ≡ w → ⊥
    go true p e = zero_one (e ∙ same_value w (Num (pos 1)) p)
    go false p e = not_same w (Num (pos 1)) p (sym e)

bit_held : (w : Value) → IsValue (bit_beside w)
bit_held w = go (value_eq w (Num (pos 1)))
  where
    go : (b : Bool) → IsValue (cond b (Num (pos 0)) (Num (pos 1)))
    go true = lit< tt
    go false = lit< tt

bit_tells : (k w : Value) → IsTelling k (Bindings (map.insert no_map k (bit_beside w)))
bit_tells k w = go (value_eq w (Num (pos 1)))
  where
    go : (b : Bool) → IsTelling k (Bindings (map.insert no_map k (cond b (Num (pos 0)) (Num (pos 1)))))
    go true = Zero
    go false = One

-- ---- maps
-- get and swap see what put and swap bind
unfoldable pub sees : Kind → Bool
sees Get = true
sees Swap = true
sees _ = false

unfoldable pub binds : Kind → Bool
binds Put = true
binds Swap = true
binds _ = false

pub seen : (kind : Kind) (m : map.FinMap value_cmp Value) (k v : Value) → sees kind ≡ true → map_reply (map.insert m k v) kind k ≡ v
unfolding sees
seen Get m k v h = ap (λ (o : Option Value). unwrap_or o Nil) (got m k v)
seen Put m k v h = cc
seen Swap m k v h = ap (λ (o : Option Value). unwrap_or o Nil) (got m k v)
seen Del m k v h = cc
seen Size m k v h = cc
seen Bump m k v h = cc
seen Has m k v h = cc
seen Add m k v h = cc
seen Mark m k v h = cc
seen Drop m k v h = cc
seen Count m k v h = cc

pub bound : (kind : Kind) (m : map.FinMap value_cmp Value) (k v : Value) → binds kind ≡ true → map_after m kind k v ≡ map.insert m k v
unfolding binds
bound Get m k v h = cc
bound Put m k v h = refl
bound Swap m k v h = refl
bound Del m k v h = cc
bound Size m k v h = cc
bound Bump m k v h = cc
bound Has m k v h = cc
bound Add m k v h = cc
bound Mark m k v h = cc
bound Drop m k v h = cc
bound Count m k v h = cc

pub map_kind : (x : Kind) → (sees x ≡ true) ⊎ (binds x ≡ true) → Map ≡ home x
unfolding sees binds
map_kind Get h = refl
map_kind Put h = refl
map_kind Swap h = refl
map_kind Del h = refl
map_kind Size h = refl
map_kind Bump h = refl
map_kind Has (inl h) = cc
map_kind Has (inr h) = cc
map_kind Add (inl h) = cc
map_kind Add (inr h) = cc
map_kind Mark (inl h) = cc
map_kind Mark (inr h) = cc
map_kind Drop (inl h) = cc
map_kind Drop (inr h) = cc
map_kind Count (inl h) = cc
map_kind Count (inr h) = cc

-- one that sees against one that binds
pub see_bind : (x y : Kind) (i j : ℕ) (k v w : Value) → sees x ≡ true → binds y ≡ true → Tells (op x i k v) (op y j k w)
see_bind x y i j k v w p q =
    let m : map.FinMap value_cmp Value = map.insert no_map k (bit_beside w) in
    record {
      container = Bindings m;
      telling = inl (bit_tells k w);
      kind = map_kind x (inl p);
      values = λ p q. values_one k (bit_beside w) p (bit_held w);
      differ = λ s. bit_differs w (sym (seen x no_map k (bit_beside w) p) ∙ s.first ∙ ap (λ (n : map.FinMap value_cmp Value). map_reply n x k) (bound y m k w q) ∙ seen x m k w p);
    }

-- one that sees against del
pub see_del : (x : Kind) (i j : ℕ) (k v w : Value) → sees x ≡ true → Tells (op x i k v) (op Del j k w)
unfolding sees
see_del x i j k v w p =
    let m : map.FinMap value_cmp Value = map.insert no_map k (Num (pos 0)) in
    record {
      container = Bindings m;
      telling = inl Zero;
      kind = map_kind x (inl p);
      values = λ p q. values_one k (Num (pos 0)) p (lit< tt);
      differ = λ s. nil_zero (sym (seen x no_map k (Num (pos 0)) p) ∙ s.first ∙ unseen x p);
    }
  where
    unseen : (x : Kind) → sees x ≡ true → map_reply (map.remove (map.insert no_map k (Num (pos 0))) k) x k ≡ Nil
    unseen Get p = ap (λ (o : Option Value). unwrap_or o Nil) (gone _ k)
    unseen Put p = cc
    unseen Swap p = ap (λ (o : Option Value). unwrap_or o Nil) (gone _ k)
    unseen Del p = cc
    unseen Size p = cc
    unseen Bump p = cc
    unseen Has p = cc
    unseen Add p = cc
    unseen Mark p = cc
    unseen Drop p = cc
    unseen Count p = cc

-- what is bound after both
pub look : Container → Value → Option Value
look (Bindings m) k = map.get m k
look (Members s) k = None

-- two puts of different values
pub put_put : (i j : ℕ) (k v w : Value) → value_eq v w ≡ false → Tells (op Put i k v) (op Put j k w)
unfolding look
put_put i j k v w h = record {
  container = Bindings no_map;
  telling = inl (Empty Map);
  kind = refl;
  values = λ p q. values_none;
  differ = λ s. not_same v w h (same_Some v w (sym (got (map.insert no_map k w) k v) ∙ sym (ap (λ (c : Container). look c k) s.after) ∙ got (map.insert no_map k v) k w));
}

-- one that binds against del
pub bind_del : (x : Kind) (i j : ℕ) (k v w : Value) → binds x ≡ true → Tells (op x i k v) (op Del j k w)
unfolding look
bind_del x i j k v w p = record {
  container = Bindings no_map;
  telling = inl (Empty Map);
  kind = map_kind x (inr p);
  values = λ p q. values_none;
  differ = λ s. none-some v (sym (gone _ k) ∙ ap (λ (c : Container). look c k) s.after ∙ ap (λ (n : map.FinMap value_cmp Value). map.get n k) (bound x _ k v p) ∙ got _ k v);
}

-- one that binds against size
pub bind_size : (x : Kind) (i j : ℕ) (k l v w : Value) → binds x ≡ true → Tells (op x i k v) (op Size j l w)
bind_size x i j k l v w p = record {
  container = Bindings no_map;
  telling = inl (Empty Map);
  kind = map_kind x (inr p);
  values = λ p q. values_none;
  differ = λ s. zero_one (sym (ap (λ (n : ℕ). Num (pos n)) len_none) ∙ sym s.second ∙ ap (λ (m : map.FinMap value_cmp Value). Num (pos (map.len m))) (bound x no_map k v p) ∙ ap (λ (n : ℕ). Num (pos n)) (len_one k v));
}

-- del against size
pub del_size : (i j : ℕ) (k l v w : Value) → Tells (op Del i k v) (op Size j l w)
del_size i j k l v w =
    let m : map.FinMap value_cmp Value = map.insert no_map k (Num (pos 0)) in
    let fewer : map.len (map.remove m k) ≡ 0 = map.len-remove value_cmp_total m k ∙ ap (λ (o : Option Value). cond (is_some o) (map.len m - 1) (map.len m)) (got no_map k (Num (pos 0))) ∙ ap (λ (n : ℕ). n - 1) (len_one k (Num (pos 0))) in
    record {
      container = Bindings m;
      telling = inl Zero;
      kind = refl;
      values = λ p q. values_one k (Num (pos 0)) p (lit< tt);
      differ = λ s. zero_one (sym (ap (λ (n : ℕ). Num (pos n)) fewer) ∙ s.second ∙ ap (λ (n : ℕ). Num (pos n)) (len_one k (Num (pos 0))));
    }

-- ---- bumps by a number
number_some : (v : Value) → is_number v ≡ true → bumped v None ≡ Some v
number_some Nil h = cc
number_some (Num d) h = refl
number_some (Sym p) h = cc

number_nil : (v : Value) → is_number v ≡ true → v ≡ Nil → ⊥
number_nil v h e = false≢true (sym (ap is_number e) ∙ h)

-- what is bound after one, where the key was unbound
got_bumped : (m : map.FinMap value_cmp Value) (k v : Value) → is_number v ≡ true → map.get m k ≡ None → map.get (map_after m Bump k v) k ≡ Some v
got_bumped m k v h e = get-bound_to m k (bumped v (map.get m k)) k ∙ ap (λ (b : Bool). cond b (bumped v (map.get m k)) (map.get m k)) (value_eq-self k) ∙ ap (bumped v) e ∙ number_some v h

read_bumped : (k v : Value) → is_number v ≡ true → unwrap_or (map.get (map_after no_map Bump k v) k) Nil ≡ unwrap_or (map.get no_map k) Nil → ⊥
read_bumped k v h e =
    let none : map.get no_map k ≡ None = map.get-empty value_cmp k in
    number_nil v h (sym (ap (λ (o : Option Value). unwrap_or o Nil) (got_bumped no_map k v h none)) ∙ e ∙ ap (λ (o : Option Value). unwrap_or o Nil) none)

-- one against get, and against swap
pub bump_get : (i j : ℕ) (k v w : Value) → is_number v ≡ true → Tells (op Bump i k v) (op Get j k w)
bump_get i j k v w h = record {
  container = Bindings no_map;
  telling = inl (Empty Map);
  kind = refl;
  values = λ p q. values_none;
  differ = λ s. read_bumped k v h s.second;
}

pub bump_swap : (i j : ℕ) (k v w : Value) → is_number v ≡ true → Tells (op Bump i k v) (op Swap j k w)
bump_swap i j k v w h = record {
  container = Bindings no_map;
  telling = inl (Empty Map);
  kind = refl;
  values = λ p q. values_none;
  differ = λ s. read_bumped k v h s.second;
}

-- one against del
pub bump_del : (i j : ℕ) (k v w : Value) → is_number v ≡ true → Tells (op Bump i k v) (op Del j k w)
unfolding look
bump_del i j k v w h = record {
  container = Bindings no_map;
  telling = inl (Empty Map);
  kind = refl;
  values = λ p q. values_none;
  differ = λ s. none-some v (sym (gone (map_after no_map Bump k v) k) ∙ ap (λ (c : Container). look c k) s.after ∙ got_bumped (map.remove no_map k) k v h (gone no_map k));
}

-- a number that is added without a trace is 0
added_none : (n d : ℤ) → IsValue (Num d) → sum_in_range n d ≡ n → d ≡ pos 0
added_none n d p e =
    sym (int_wrap_fits w64 d (fits_number d p)) ∙ ap (int_wrap w64) (back n d) ∙ sym (int_wrap-add_left w64 (n +ℤ d) (neg_ℤ n))
    ∙ ap (λ (z : ℤ). int_wrap w64 (z +ℤ neg_ℤ n)) e ∙ ap (int_wrap w64) (none n) ∙ int_wrap_fits w64 (pos 0) (record { sfits = lit< tt })
  where
    back : (n d : ℤ) → d ≡ (n +ℤ d) +ℤ neg_ℤ n
    back n d = omega (arith, ints)

    none : (n : ℤ) → n +ℤ neg_ℤ n ≡ pos 0
    none n = omega (arith, ints)

bumped_trace : (v w : Value) → IsValue v → is_number v ≡ true → is_zero v ≡ false → is_number w ≡ true → ◌≡◌ {A = Option Value} (Some w) (bumped v (Some w)) → ⊥
bumped_trace Nil w p h z g e = cc
bumped_trace (Sym s) w p h z g e = cc
bumped_trace (Num d) Nil p h z g e = cc
bumped_trace (Num d) (Sym s) p h z g e = cc
bumped_trace (Num d) (Num n) p h z g e = false≢true (sym z ∙ ap (λ (x : ℤ). is_zero (Num x)) (added_none n d p (sym (inside n (sum_in_range n d) e))))
  where
    inside : (a b : ℤ) → ◌≡◌ {A = Option Value} (Some (Num a)) (Some (Num b)) → a ≡ b
    inside a b e = cc

-- one by a number other than 0 against a put of a number
pub bump_put : (i j : ℕ) (k v w : Value) → IsValue v → is_number v ≡ true → is_zero v ≡ false → is_number w ≡ true → Tells (op Bump i k v) (op Put j k w)
unfolding look
bump_put i j k v w p h z g =
    let m : map.FinMap value_cmp Value = map.insert no_map k w in
    let after : map.get (map_after m Bump k v) k ≡ bumped v (Some w) = get-bound_to m k (bumped v (map.get m k)) k ∙ ap (λ (b : Bool). cond b (bumped v (map.get m k)) (map.get m k)) (value_eq-self k) ∙ ap (bumped v) (got no_map k w) in
    record {
      container = Bindings no_map;
      telling = inl (Empty Map);
      kind = refl;
      values = λ p q. values_none;
      differ = λ s. bumped_trace v w p h z g (sym (got (map_after no_map Bump k v) k w) ∙ ap (λ (c : Container). look c k) s.after ∙ after);
    }

-- one against size
pub bump_size : (i j : ℕ) (k l v w : Value) → is_number v ≡ true → Tells (op Bump i k v) (op Size j l w)
bump_size i j k l v w h =
    let same : map_after no_map Bump k v ≡ map.insert no_map k v = ap (bound_to no_map k) (ap (bumped v) (map.get-empty value_cmp k) ∙ number_some v h) in
    record {
      container = Bindings no_map;
      telling = inl (Empty Map);
      kind = refl;
      values = λ p q. values_none;
      differ = λ s. zero_one (sym (ap (λ (n : ℕ). Num (pos n)) len_none) ∙ sym s.second ∙ ap (λ (m : map.FinMap value_cmp Value). Num (pos (map.len m))) same ∙ ap (λ (n : ℕ). Num (pos n)) (len_one k v));
    }

-- ---- sets
unfoldable pub joins : Kind → Bool
joins Add = true
joins Mark = true
joins _ = false

pub joined : (kind : Kind) (s : set.FinSet value_cmp) (k : Value) → joins kind ≡ true → set_after s kind k ≡ set.insert s k
unfolding joins
joined Get s k h = cc
joined Put s k h = cc
joined Swap s k h = cc
joined Del s k h = cc
joined Size s k h = cc
joined Bump s k h = cc
joined Has s k h = cc
joined Add s k h = refl
joined Mark s k h = refl
joined Drop s k h = cc
joined Count s k h = cc

pub set_kind : (x : Kind) → joins x ≡ true → Set ≡ home x
unfolding joins
set_kind Get h = cc
set_kind Put h = cc
set_kind Swap h = cc
set_kind Del h = cc
set_kind Size h = cc
set_kind Bump h = cc
set_kind Has h = cc
set_kind Add h = refl
set_kind Mark h = refl
set_kind Drop h = cc
set_kind Count h = cc

-- has against one that joins
pub has_join : (y : Kind) (i j : ℕ) (k v w : Value) → joins y ≡ true → Tells (op Has i k v) (op y j k w)
has_join y i j k v w p = record {
  container = Members no_set;
  telling = inl (Empty Set);
  kind = refl;
  values = λ p q. members_none;
  differ = λ s. zero_one (sym (ap bit (absent k)) ∙ s.first ∙ ap (λ (t : set.FinSet value_cmp). bit (set.contains t k)) (joined y no_set k p) ∙ ap bit (member no_set k));
}

-- has against drop
pub has_drop : (i j : ℕ) (k v w : Value) → Tells (op Has i k v) (op Drop j k w)
has_drop i j k v w = record {
  container = Members (set.insert no_set k);
  telling = inl Member;
  kind = refl;
  values = λ p q. members_one k p;
  differ = λ s. zero_one (sym (ap bit (left _ k)) ∙ sym s.first ∙ ap bit (member no_set k));
}

-- add against one that joins
pub add_join : (y : Kind) (i j : ℕ) (k v w : Value) → joins y ≡ true → Tells (op Add i k v) (op y j k w)
add_join y i j k v w p = record {
  container = Members no_set;
  telling = inl (Empty Set);
  kind = refl;
  values = λ p q. members_none;
  differ = λ s. zero_one (sym (ap (λ (b : Bool). cond b (Num (pos 0)) (Num (pos 1))) (member no_set k)) ∙ sym (ap (λ (t : set.FinSet value_cmp). cond (set.contains t k) (Num (pos 0)) (Num (pos 1))) (joined y no_set k p)) ∙ sym s.first ∙ ap (λ (b : Bool). cond b (Num (pos 0)) (Num (pos 1))) (absent k));
}

-- whether it is a member after both
pub in_it : Container → Value → Bool
in_it (Bindings m) k = false
in_it (Members s) k = set.contains s k

-- one that joins against drop
pub join_drop : (x : Kind) (i j : ℕ) (k v w : Value) → joins x ≡ true → Tells (op x i k v) (op Drop j k w)
unfolding in_it
join_drop x i j k v w p = record {
  container = Members no_set;
  telling = inl (Empty Set);
  kind = set_kind x p;
  values = λ p q. members_none;
  differ = λ s. false≢true (sym (left _ k) ∙ ap (λ (c : Container). in_it c k) s.after ∙ ap (λ (t : set.FinSet value_cmp). set.contains t k) (joined x _ k p) ∙ member _ k);
}

-- one that joins against count
pub join_count : (x : Kind) (i j : ℕ) (k l v w : Value) → joins x ≡ true → Tells (op x i k v) (op Count j l w)
join_count x i j k l v w p = record {
  container = Members no_set;
  telling = inl (Empty Set);
  kind = set_kind x p;
  values = λ p q. members_none;
  differ = λ s. zero_one (sym (ap (λ (n : ℕ). Num (pos n)) (set.len-empty value_cmp)) ∙ sym s.second ∙ ap (λ (t : set.FinSet value_cmp). Num (pos (set.len t))) (joined x no_set k p) ∙ ap (λ (n : ℕ). Num (pos n)) (count_one k));
}

-- drop against count
pub drop_count : (i j : ℕ) (k l v w : Value) → Tells (op Drop i k v) (op Count j l w)
drop_count i j k l v w =
    let t : set.FinSet value_cmp = set.insert no_set k in
    let fewer : set.len (set.remove t k) ≡ 0 = set.len-remove value_cmp_total t k ∙ ap (λ (b : Bool). cond b (set.len t - 1) (set.len t)) (member no_set k) ∙ ap (λ (n : ℕ). n - 1) (count_one k) in
    record {
      container = Members t;
      telling = inl Member;
      kind = refl;
      values = λ p q. members_one k p;
      differ = λ s. zero_one (sym (ap (λ (n : ℕ). Num (pos n)) fewer) ∙ s.second ∙ ap (λ (n : ℕ). Num (pos n)) (count_one k));
    }
