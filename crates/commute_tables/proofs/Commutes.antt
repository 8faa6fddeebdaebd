-- Which operations commute.
use Rattle.std.proofs.Common.{◌≡◌, ℤ, pos, ◌+ℤ◌, inl, inr, Option, Some, None, Bool, true, false, cond, not, ◌&&◌, ◌||◌, eqb, refl, sym, ◌∙◌, ap, subst, arith}
use Rattle.std.specs.Int.{int_wrap, w64}
use Rattle.std.proofs.lemmas.Int.{ints, int_wrap-add_left, int_wrap_fits}
use Rattle.std.specs.Option.{unwrap_or}
use Rattle.std.proofs.lemmas.Bool.{and_parts, or_cases, not-true, eqb-true, eqb-false}
use Rattle.std.specs.FinMap as map
use Rattle.std.specs.FinSet as set
use Rattle.session_values.specs.declared.kind.Kind.{Kind}
use Rattle.session_values.specs.declared.kind.Kind.TheVariants.{Get, Put, Swap, Del, Size, Bump, Has, Add, Mark, Drop, Count}
use Rattle.session_values.specs.declared.op.Op.{Op}
use Rattle.session_values.specs.declared.value.Value.{Value}
use Rattle.session_values.specs.declared.value.Value.TheVariants.{Nil, Num, Sym}
use Rattle.session_values.specs.Values.{value_cmp, value_eq, IsValue}
use Rattle.session_values.specs.Tables.{Container, Bindings, Members, bumped, sum_in_range, map_reply, map_after, set_reply, set_after, reply_on, after_on, bit}
use Rattle.session_values.specs.Commuting.{Commute}
use Rattle.session_values.specs.Kinds.{is_keyed, is_plain, kind_place, is_on_map, is_read}
use Rattle.session_values.proofs.Bumps.{bound_to-same, fits_number}
use Rattle.commute_tables.specs.Relation.{same_bool, commutes, is_put, is_bump, is_number, is_zero, sums}
use Rattle.commute_tables.proofs.Apart.{get_apart, act_apart, act_any, MapAct, Keep, Bind, Unbind, Sum, act_on_map, bound_by, get-act_on_map, SetAct, Stay, Join, Leave, act_on_set, member_by, contains-act_on_set}
use Rattle.commute_tables.proofs.OneTable.{SwapsOn, commute_on, commute_apart}
use Rattle.session_values.proofs.Equal.{same_value, same_map, same_set, value_eq-sym}
use Rattle.session_values.proofs.KindLemmas.{one_place}

-- ---- what each kind does to a map
abbrev pub map_act : Kind → Value → MapAct
map_act Put v = Bind v
map_act Swap v = Bind v
map_act Del v = Unbind
map_act Bump v = Sum v
map_act _ v = Keep

pub map_after_is : (m : map.FinMap value_cmp Value) (kind : Kind) (k v : Value) → map_after m kind k v ≡ act_on_map (map_act kind v) k m
map_after_is m Get k v = refl
map_after_is m Put k v = refl
map_after_is m Swap k v = refl
map_after_is m Del k v = refl
map_after_is m Size k v = refl
map_after_is m Bump k v = refl
map_after_is m Has k v = refl
map_after_is m Add k v = refl
map_after_is m Mark k v = refl
map_after_is m Drop k v = refl
map_after_is m Count k v = refl

abbrev pub map_read : Kind → Option Value → Value
map_read Get o = unwrap_or o Nil
map_read Swap o = unwrap_or o Nil
map_read _ o = Nil

pub map_reply_is : (m : map.FinMap value_cmp Value) (kind : Kind) (k : Value) → is_keyed kind ≡ true → map_reply m kind k ≡ map_read kind (map.get m k)
map_reply_is m Get k h = refl
map_reply_is m Put k h = refl
map_reply_is m Swap k h = refl
map_reply_is m Del k h = refl
map_reply_is m Size k h = cc
map_reply_is m Bump k h = refl
map_reply_is m Has k h = refl
map_reply_is m Add k h = refl
map_reply_is m Mark k h = refl
map_reply_is m Drop k h = refl
map_reply_is m Count k h = refl

abbrev pub set_act : Kind → SetAct
set_act Add = Join
set_act Mark = Join
set_act Drop = Leave
set_act _ = Stay

pub set_after_is : (s : set.FinSet value_cmp) (kind : Kind) (k : Value) → set_after s kind k ≡ act_on_set (set_act kind) k s
set_after_is s Get k = refl
set_after_is s Put k = refl
set_after_is s Swap k = refl
set_after_is s Del k = refl
set_after_is s Size k = refl
set_after_is s Bump k = refl
set_after_is s Has k = refl
set_after_is s Add k = refl
set_after_is s Mark k = refl
set_after_is s Drop k = refl
set_after_is s Count k = refl

abbrev pub set_read : Kind → Bool → Value
set_read Has b = bit b
set_read Add b = cond b (Num (pos 0)) (Num (pos 1))
set_read _ b = Nil

pub set_reply_is : (s : set.FinSet value_cmp) (kind : Kind) (k : Value) → is_keyed kind ≡ true → set_reply s kind k ≡ set_read kind (set.contains s k)
set_reply_is s Get k h = refl
set_reply_is s Put k h = refl
set_reply_is s Swap k h = refl
set_reply_is s Del k h = refl
set_reply_is s Size k h = refl
set_reply_is s Bump k h = refl
set_reply_is s Has k h = refl
set_reply_is s Add k h = refl
set_reply_is s Mark k h = refl
set_reply_is s Drop k h = refl
set_reply_is s Count k h = cc

-- ---- different keys
keys_apart : (c : Container) (a b : Op) → is_keyed a.kind ≡ true → is_keyed b.kind ≡ true → value_eq a.key b.key ≡ false → SwapsOn c a b
keys_apart (Bindings m) a b p q h =
    let e : MapAct = map_act a.kind a.value in
    let f : MapAct = map_act b.kind b.value in
    let both : (x y : Op) → map_after (map_after m x.kind x.key x.value) y.kind y.key y.value ≡ act_on_map (map_act y.kind y.value) y.key (act_on_map (map_act x.kind x.value) x.key m) = λ x y. map_after_is (map_after m x.kind x.key x.value) y.kind y.key y.value ∙ ap (act_on_map (map_act y.kind y.value) y.key) (map_after_is m x.kind x.key x.value) in
    let other : (x y : Op) → is_keyed x.kind ≡ true → value_eq x.key y.key ≡ false → map_reply m x.kind x.key ≡ map_reply (map_after m y.kind y.key y.value) x.kind x.key = λ x y r d.
    map_reply_is m x.kind x.key r
    ∙ ap (map_read x.kind) (sym (get_apart (map.FinMap value_cmp Value) (Option Value) MapAct map.get act_on_map bound_by get-act_on_map same_map (map_act y.kind y.value) y.key x.key m d) ∙ ap (λ (n : map.FinMap value_cmp Value). map.get n x.key) (sym (map_after_is m y.kind y.key y.value)))
    ∙ sym (map_reply_is (map_after m y.kind y.key y.value) x.kind x.key r) in
    record {
      after = ap (λ (n : map.FinMap value_cmp Value). Bindings n) (both a b ∙ act_apart (map.FinMap value_cmp Value) (Option Value) MapAct map.get act_on_map bound_by get-act_on_map same_map e f a.key b.key m h ∙ sym (both b a));
      first = other a b p h;
      second = sym (other b a q (value_eq-sym a.key b.key h));
    }
keys_apart (Members s) a b p q h =
    let both : (x y : Op) → set_after (set_after s x.kind x.key) y.kind y.key ≡ act_on_set (set_act y.kind) y.key (act_on_set (set_act x.kind) x.key s) = λ x y. set_after_is (set_after s x.kind x.key) y.kind y.key ∙ ap (act_on_set (set_act y.kind) y.key) (set_after_is s x.kind x.key) in
    let other : (x y : Op) → is_keyed x.kind ≡ true → value_eq x.key y.key ≡ false → set_reply s x.kind x.key ≡ set_reply (set_after s y.kind y.key) x.kind x.key = λ x y r d.
    set_reply_is s x.kind x.key r
    ∙ ap (set_read x.kind) (sym (get_apart (set.FinSet value_cmp) Bool SetAct set.contains act_on_set member_by contains-act_on_set same_set (set_act y.kind) y.key x.key s d) ∙ ap (λ (n : set.FinSet value_cmp). set.contains n x.key) (sym (set_after_is s y.kind y.key)))
    ∙ sym (set_reply_is (set_after s y.kind y.key) x.kind x.key r) in
    record {
      after = ap (λ (n : set.FinSet value_cmp). Members n) (both a b ∙ act_apart (set.FinSet value_cmp) Bool SetAct set.contains act_on_set member_by contains-act_on_set same_set (set_act a.kind) (set_act b.kind) a.key b.key s h ∙ sym (both b a));
      first = other a b p h;
      second = sym (other b a q (value_eq-sym a.key b.key h));
    }

-- ---- operations that leave a container as it is
record Leaves (c : Container) (op : Op) : Type 0 where
  stays : after_on c op ≡ c

both_leave : (c : Container) (a b : Op) → after_on c a ≡ c → after_on c b ≡ c → SwapsOn c a b
both_leave c a b p q = record {
  after = ap (λ (d : Container). after_on d b) p ∙ q ∙ sym (ap (λ (d : Container). after_on d a) q ∙ p);
  first = ap (λ (d : Container). reply_on d a) (sym q);
  second = ap (λ (d : Container). reply_on d b) p;
}

pub read_leaves : (c : Container) (op : Op) → is_read op.kind ≡ true → after_on c op ≡ c
read_leaves (Bindings m) op h = ap (λ (n : map.FinMap value_cmp Value). Bindings n) (go op.kind h)
  where
    go : (kind : Kind) → is_read kind ≡ true → map_after m kind op.key op.value ≡ m
    go Get h = refl
    go Put h = cc
    go Swap h = cc
    go Del h = cc
    go Size h = refl
    go Bump h = cc
    go Has h = refl
    go Add h = refl
    go Mark h = refl
    go Drop h = refl
    go Count h = refl
read_leaves (Members s) op h = ap (λ (n : set.FinSet value_cmp). Members n) (go op.kind h)
  where
    go : (kind : Kind) → is_read kind ≡ true → set_after s kind op.key ≡ s
    go Get h = refl
    go Put h = refl
    go Swap h = refl
    go Del h = refl
    go Size h = refl
    go Bump h = refl
    go Has h = refl
    go Add h = cc
    go Mark h = cc
    go Drop h = cc
    go Count h = refl

-- ---- operations of another kind of container
-- one that isn't of the container's kind leaves it and replies nil
silent_on_map : (m : map.FinMap value_cmp Value) (kind : Kind) (k v : Value) → is_on_map kind ≡ false → (map_after m kind k v ≡ m) × (map_reply m kind k ≡ Nil)
silent_on_map m Get k v h = cc
silent_on_map m Put k v h = cc
silent_on_map m Swap k v h = cc
silent_on_map m Del k v h = cc
silent_on_map m Size k v h = cc
silent_on_map m Bump k v h = cc
silent_on_map m Has k v h = (refl, refl)
silent_on_map m Add k v h = (refl, refl)
silent_on_map m Mark k v h = (refl, refl)
silent_on_map m Drop k v h = (refl, refl)
silent_on_map m Count k v h = (refl, refl)

silent_on_set : (s : set.FinSet value_cmp) (kind : Kind) (k : Value) → is_on_map kind ≡ true → (set_after s kind k ≡ s) × (set_reply s kind k ≡ Nil)
silent_on_set s Get k h = (refl, refl)
silent_on_set s Put k h = (refl, refl)
silent_on_set s Swap k h = (refl, refl)
silent_on_set s Del k h = (refl, refl)
silent_on_set s Size k h = (refl, refl)
silent_on_set s Bump k h = (refl, refl)
silent_on_set s Has k h = cc
silent_on_set s Add k h = cc
silent_on_set s Mark k h = cc
silent_on_set s Drop k h = cc
silent_on_set s Count k h = cc

-- an operation that leaves a container and each container that the other makes of it, and replies nil there
beside_silent : (c : Container) (a b : Op) → after_on c b ≡ c → after_on (after_on c a) b ≡ after_on c a → reply_on (after_on c a) b ≡ Nil → reply_on c b ≡ Nil → SwapsOn c a b
beside_silent c a b p q r t = record {
  after = q ∙ sym (ap (λ (d : Container). after_on d a) p);
  first = ap (λ (d : Container). reply_on d a) (sym p);
  second = r ∙ sym t;
}

pub flip : (c : Container) (a b : Op) → SwapsOn c b a → SwapsOn c a b
flip c a b s = record { after = sym s.after; first = sym s.second; second = sym s.first }

one_silent : (c : Container) (a b : Op) → is_on_map a.kind ≡ true → is_on_map b.kind ≡ false → SwapsOn c a b
one_silent (Bindings m) a b p q =
    let x : (n : map.FinMap value_cmp Value) → (map_after n b.kind b.key b.value ≡ n) × (map_reply n b.kind b.key ≡ Nil) = λ n. silent_on_map n b.kind b.key b.value q in
    beside_silent (Bindings m) a b (ap (λ (n : map.FinMap value_cmp Value). Bindings n) (x m).0) (ap (λ (n : map.FinMap value_cmp Value). Bindings n) (x _).0) (x _).1 (x m).1
one_silent (Members s) a b p q =
    let x : (n : set.FinSet value_cmp) → (set_after n a.kind a.key ≡ n) × (set_reply n a.kind a.key ≡ Nil) = λ n. silent_on_set n a.kind a.key p in
    flip (Members s) a b (beside_silent (Members s) b a (ap (λ (n : set.FinSet value_cmp). Members n) (x s).0) (ap (λ (n : set.FinSet value_cmp). Members n) (x _).0) (x _).1 (x s).1)

-- ---- one plain change
plain_reply : (c : Container) (op : Op) → is_plain op.kind ≡ true → reply_on c op ≡ Nil
plain_reply (Bindings m) op h = go op.kind h
  where
    go : (kind : Kind) → is_plain kind ≡ true → map_reply m kind op.key ≡ Nil
    go Get h = cc
    go Put h = refl
    go Swap h = cc
    go Del h = refl
    go Size h = cc
    go Bump h = refl
    go Has h = refl
    go Add h = refl
    go Mark h = refl
    go Drop h = refl
    go Count h = refl
plain_reply (Members s) op h = go op.kind h
  where
    go : (kind : Kind) → is_plain kind ≡ true → set_reply s kind op.key ≡ Nil
    go Get h = refl
    go Put h = refl
    go Swap h = refl
    go Del h = refl
    go Size h = refl
    go Bump h = refl
    go Has h = cc
    go Add h = cc
    go Mark h = refl
    go Drop h = refl
    go Count h = cc

pub same_kind : (a b : Kind) → eqb (kind_place a) (kind_place b) ≡ true → a ≡ b
same_kind a b e = one_place a b (eqb-true (kind_place a) (kind_place b) e)

same_change : (c : Container) (a b : Op) → a.kind ≡ b.kind → a.key ≡ b.key → is_plain a.kind ≡ true → (eqb (kind_place a.kind) 1 ≡ true → a.value ≡ b.value) → after_on c a ≡ after_on c b
same_change (Bindings m) a b e k p v =
    ap (λ (n : map.FinMap value_cmp Value). Bindings n) (go a.kind p v ∙ ap (λ (x : Value). map_after m a.kind x b.value) k ∙ ap (λ (x : Kind). map_after m x b.key b.value) e)
  where
    go : (kind : Kind) → is_plain kind ≡ true → (eqb (kind_place kind) 1 ≡ true → a.value ≡ b.value) → map_after m kind a.key a.value ≡ map_after m kind a.key b.value
    go Get h v = refl
    go Put h v = ap (map.insert m a.key) (v refl)
    go Swap h v = cc
    go Del h v = refl
    go Size h v = refl
    go Bump h v = cc
    go Has h v = refl
    go Add h v = refl
    go Mark h v = refl
    go Drop h v = refl
    go Count h v = refl
same_change (Members s) a b e k p v = ap (λ (n : set.FinSet value_cmp). Members n) (ap (set_after s a.kind) k ∙ ap (λ (x : Kind). set_after s x b.key) e)

one_change : (c : Container) (a b : Op) → a.kind ≡ b.kind → a.key ≡ b.key → is_plain a.kind ≡ true → (eqb (kind_place a.kind) 1 ≡ true → a.value ≡ b.value) → SwapsOn c a b
one_change c a b e k p v =
    let q : is_plain b.kind ≡ true = ap is_plain (sym e) ∙ p in
    record {
      after = sym (same_change (after_on c a) a b e k p v) ∙ ap (λ (d : Container). after_on d a) (same_change c a b e k p v);
      first = plain_reply c a p ∙ sym (plain_reply (after_on c b) a p);
      second = plain_reply (after_on c a) b q ∙ sym (plain_reply c b q);
    }

-- ---- bumps
bump_kind : (kind : Kind) → is_bump kind ≡ true → kind ≡ Bump
bump_kind kind h = same_kind kind Bump h

put_kind : (kind : Kind) → is_put kind ≡ true → kind ≡ Put
put_kind kind h = same_kind kind Put h

bump_reply : (c : Container) (op : Op) → is_bump op.kind ≡ true → reply_on c op ≡ Nil
bump_reply (Bindings m) op h = ap (λ (x : Kind). map_reply m x op.key) (bump_kind op.kind h)
bump_reply (Members s) op h = ap (λ (x : Kind). set_reply s x op.key) (bump_kind op.kind h)

-- a bump by no number leaves a container as it is
idle_leaves : (c : Container) (op : Op) → is_bump op.kind ≡ true → is_number op.value ≡ false → after_on c op ≡ c
idle_leaves (Bindings m) op h n = ap (λ (x : map.FinMap value_cmp Value). Bindings x) (ap (λ (x : Kind). map_after m x op.key op.value) (bump_kind op.kind h) ∙ go op.value n)
  where
    go : (v : Value) → is_number v ≡ false → map_after m Bump op.key v ≡ m
    go Nil n = bound_to-same m op.key
    go (Num d) n = cc
    go (Sym p) n = bound_to-same m op.key
idle_leaves (Members s) op h n = ap (λ (x : set.FinSet value_cmp). Members x) (ap (λ (x : Kind). set_after s x op.key) (bump_kind op.kind h))

idle_swaps : (c : Container) (a b : Op) → is_bump b.kind ≡ true → is_number b.value ≡ false → SwapsOn c a b
idle_swaps c a b h n = beside_silent c a b (idle_leaves c b h n) (idle_leaves (after_on c a) b h n) (bump_reply (after_on c a) b h) (bump_reply c b h)

-- changes of a map whose order doesn't matter to what is at a key, and whose replies are nil
pair_swaps : (c : Container) (a b : Op) → is_on_map a.kind ≡ true → is_on_map b.kind ≡ true → ((d : Container) → reply_on d a ≡ Nil) → ((d : Container) → reply_on d b ≡ Nil)
    → ((o : Option Value) → bound_by (map_act b.kind b.value) (bound_by (map_act a.kind a.value) o) ≡ bound_by (map_act a.kind a.value) (bound_by (map_act b.kind b.value) o)) → SwapsOn c a b
pair_swaps (Bindings m) a b p q ra rb h =
    let both : (x y : Op) → map_after (map_after m x.kind x.key x.value) y.kind y.key y.value ≡ act_on_map (map_act y.kind y.value) y.key (act_on_map (map_act x.kind x.value) x.key m) = λ x y. map_after_is (map_after m x.kind x.key x.value) y.kind y.key y.value ∙ ap (act_on_map (map_act y.kind y.value) y.key) (map_after_is m x.kind x.key x.value) in
    record {
      after = ap (λ (n : map.FinMap value_cmp Value). Bindings n) (both a b ∙ act_any (map.FinMap value_cmp Value) (Option Value) MapAct map.get act_on_map bound_by get-act_on_map same_map (map_act a.kind a.value) (map_act b.kind b.value) a.key b.key m h ∙ sym (both b a));
      first = ra (Bindings m) ∙ sym (ra (after_on (Bindings m) b));
      second = rb (after_on (Bindings m) a) ∙ sym (rb (Bindings m));
    }
pair_swaps (Members s) a b p q ra rb h = both_leave (Members s) a b (ap (λ (n : set.FinSet value_cmp). Members n) (silent_on_set s a.kind a.key p).0) (ap (λ (n : set.FinSet value_cmp). Members n) (silent_on_set s b.kind b.key q).0)

-- two sums, whatever their order
two_sums : (n d e : ℤ) → sum_in_range (sum_in_range n d) e ≡ sum_in_range (sum_in_range n e) d
two_sums n d e = int_wrap-add_left w64 (n +ℤ d) e ∙ ap (int_wrap w64) turned ∙ sym (int_wrap-add_left w64 (n +ℤ e) d)
  where
    turned : (n +ℤ d) +ℤ e ≡ (n +ℤ e) +ℤ d
    turned = omega (arith, ints)

bumped_twice : (d e : Value) (o : Option Value) → bumped e (bumped d o) ≡ bumped d (bumped e o)
bumped_twice Nil e o = refl
bumped_twice (Sym p) e o = refl
bumped_twice (Num d) Nil o = refl
bumped_twice (Num d) (Sym p) o = refl
bumped_twice (Num d) (Num e) None = ap (λ (z : ℤ). Some (Num (int_wrap w64 z))) turned
  where
    turned : d +ℤ e ≡ e +ℤ d
    turned = omega (arith, ints)
bumped_twice (Num d) (Num e) (Some Nil) = refl
bumped_twice (Num d) (Num e) (Some (Num n)) = ap (λ (z : ℤ). Some (Num z)) (two_sums n d e)
bumped_twice (Num d) (Num e) (Some (Sym p)) = refl

-- what is put stays where it is no number, or where 0 is added
bumped_put : (d x : Value) → IsValue x → (is_zero d || not (is_number x)) ≡ true → bumped d (Some x) ≡ Some x
bumped_put Nil x p h = refl
bumped_put (Sym s) x p h = refl
bumped_put (Num d) Nil p h = refl
bumped_put (Num d) (Sym s) p h = refl
bumped_put (Num d) (Num n) p h = ap (λ (z : ℤ). Some (Num z)) (ap (λ (z : ℤ). sum_in_range n z) none ∙ ap (int_wrap w64) same ∙ int_wrap_fits w64 n (fits_number n p))
  where
    or_false : (b : Bool) → (b || false) ≡ true → b ≡ true
    or_false true e = refl
    or_false false e = cc

    number : (a b : ℤ) → ◌≡◌ {A = Value} (Num a) (Num b) → a ≡ b
    number a b e = cc

    none : d ≡ pos 0
    none = number d (pos 0) (sym (same_value (Num (pos 0)) (Num d) (or_false (is_zero (Num d)) h)))

    same : n +ℤ pos 0 ≡ n
    same = omega (arith, ints)

abbrev Turns : Kind → Value → Kind → Value → Type 0
Turns x v y w = (o : Option Value) → bound_by (map_act y w) (bound_by (map_act x v) o) ≡ bound_by (map_act x v) (bound_by (map_act y w) o)

bumps_swap : (c : Container) (a b : Op) → is_bump a.kind ≡ true → is_bump b.kind ≡ true → SwapsOn c a b
bumps_swap c a b p q =
    let P : Kind → Type 0 = λ x. Turns x a.value b.kind b.value in
    let Q : Kind → Type 0 = λ y. Turns Bump a.value y b.value in
    pair_swaps c a b (ap is_on_map (bump_kind a.kind p)) (ap is_on_map (bump_kind b.kind q)) (λ d. bump_reply d a p) (λ d. bump_reply d b q) (subst P (sym (bump_kind a.kind p)) (subst Q (sym (bump_kind b.kind q)) (bumped_twice a.value b.value)))

bump_put_swap : (c : Container) (a b : Op) → IsValue b.value → is_bump a.kind ≡ true → is_put b.kind ≡ true → (is_zero a.value || not (is_number b.value)) ≡ true → SwapsOn c a b
bump_put_swap c a b held p q h =
    let P : Kind → Type 0 = λ x. Turns x a.value b.kind b.value in
    let Q : Kind → Type 0 = λ y. Turns Bump a.value y b.value in
    pair_swaps c a b (ap is_on_map (bump_kind a.kind p)) (ap is_on_map (put_kind b.kind q)) (λ d. bump_reply d a p) (λ d. plain_reply d b (ap is_plain (put_kind b.kind q))) (subst P (sym (bump_kind a.kind p)) (subst Q (sym (put_kind b.kind q)) (λ o. sym (bumped_put a.value b.value held h))))

-- ---- the test is right where it says that they commute
homes : (a b : Op) → same_bool (is_on_map a.kind) (is_on_map b.kind) ≡ false → (c : Container) → SwapsOn c a b
homes a b h c = go (is_on_map a.kind) (is_on_map b.kind) refl refl h
  where
    go : (x y : Bool) → is_on_map a.kind ≡ x → is_on_map b.kind ≡ y → same_bool x y ≡ false → SwapsOn c a b
    go true true p q h = cc
    go true false p q h = one_silent c a b p q
    go false true p q h = flip c a b (one_silent c b a q p)
    go false false p q h = cc

sums_swap : (c : Container) (a b : Op) → IsValue a.value → IsValue b.value → sums a b ≡ true → SwapsOn c a b
sums_swap c a b u v h = elim (or_cases _ _ h) [
  | inl x ↦ elim (or_cases _ _ x) [
    | inl y ↦ elim (or_cases _ _ y) [
      | inl z ↦ elim (or_cases _ _ z) [
        | inl w ↦ let p : (is_bump a.kind ≡ true) × (is_bump b.kind ≡ true) = and_parts _ _ w in bumps_swap c a b p.0 p.1
        | inr w ↦ let p : (is_bump a.kind ≡ true) × (not (is_number a.value) ≡ true) = and_parts _ _ w in flip c a b (idle_swaps c b a p.0 (not-true _ p.1))
      ]
      | inr z ↦ let p : (is_bump b.kind ≡ true) × (not (is_number b.value) ≡ true) = and_parts _ _ z in idle_swaps c a b p.0 (not-true _ p.1)
    ]
    | inr y ↦ let p : ((is_bump a.kind && is_put b.kind) ≡ true) × ((is_zero a.value || not (is_number b.value)) ≡ true) = and_parts _ _ y in
        let q : (is_bump a.kind ≡ true) × (is_put b.kind ≡ true) = and_parts _ _ p.0 in
        bump_put_swap c a b v q.0 q.1 p.1
  ]
  | inr x ↦ let p : ((is_put a.kind && is_bump b.kind) ≡ true) × ((not (is_number a.value) || is_zero b.value) ≡ true) = and_parts _ _ x in
      let q : (is_put a.kind ≡ true) × (is_bump b.kind ≡ true) = and_parts _ _ p.0 in
      flip c a b (bump_put_swap c b a u q.1 q.0 (turned (is_number a.value) (is_zero b.value) p.1))
]
  where
    turned : (n z : Bool) → (not n || z) ≡ true → (z || not n) ≡ true
    turned true true e = refl
    turned true false e = cc
    turned false true e = refl
    turned false false e = refl

pub commutes-Commute : (a b : Op) → IsValue a.value → IsValue b.value → commutes a b ≡ true → Commute a b
commutes-Commute a b u v h = tables (eqb a.table b.table) refl
  where
    put_same : (x y : Bool) → (not x || y) ≡ true → x ≡ true → y ≡ true
    put_same true y e f = e
    put_same false y e f = cc

    last : a.table ≡ b.table → (is_plain a.kind && eqb (kind_place a.kind) (kind_place b.kind) && value_eq a.key b.key && (not (eqb (kind_place a.kind) 1) || value_eq a.value b.value)) ≡ true → Commute a b
    last t h =
        let x : ((is_plain a.kind && eqb (kind_place a.kind) (kind_place b.kind) && value_eq a.key b.key) ≡ true) × ((not (eqb (kind_place a.kind) 1) || value_eq a.value b.value) ≡ true) = and_parts _ _ h in
        let y : ((is_plain a.kind && eqb (kind_place a.kind) (kind_place b.kind)) ≡ true) × (value_eq a.key b.key ≡ true) = and_parts _ _ x.0 in
        let z : (is_plain a.kind ≡ true) × (eqb (kind_place a.kind) (kind_place b.kind) ≡ true) = and_parts _ _ y.0 in
        commute_on a b t (λ c. one_change c a b (same_kind a.kind b.kind z.1) (same_value a.key b.key y.1) z.0 (λ p. same_value a.value b.value (put_same _ _ x.1 p)))

    most : a.table ≡ b.table → (not (same_bool (is_on_map a.kind) (is_on_map b.kind)) || (is_read a.kind && is_read b.kind) || (is_keyed a.kind && is_keyed b.kind && not (value_eq a.key b.key)) || (is_plain a.kind && eqb (kind_place a.kind) (kind_place b.kind) && value_eq a.key b.key && (not (eqb (kind_place a.kind) 1) || value_eq a.value b.value))) ≡ true → Commute a b
    most t h = elim (or_cases _ _ h) [
      | inl x ↦ elim (or_cases _ _ x) [
        | inl y ↦ elim (or_cases _ _ y) [
          | inl z ↦ commute_on a b t (homes a b (not-true _ z))
          | inr z ↦ let w : (is_read a.kind ≡ true) × (is_read b.kind ≡ true) = and_parts _ _ z in commute_on a b t (λ c. both_leave c a b (read_leaves c a w.0) (read_leaves c b w.1))
        ]
        | inr y ↦ let w : ((is_keyed a.kind && is_keyed b.kind) ≡ true) × (not (value_eq a.key b.key) ≡ true) = and_parts _ _ y in
            let u : (is_keyed a.kind ≡ true) × (is_keyed b.kind ≡ true) = and_parts _ _ w.0 in
            commute_on a b t (λ c. keys_apart c a b u.0 u.1 (not-true _ w.1))
      ]
      | inr x ↦ last t x
    ]

    rest : a.table ≡ b.table → (not (same_bool (is_on_map a.kind) (is_on_map b.kind)) || (is_read a.kind && is_read b.kind) || (is_keyed a.kind && is_keyed b.kind && not (value_eq a.key b.key)) || (is_plain a.kind && eqb (kind_place a.kind) (kind_place b.kind) && value_eq a.key b.key && (not (eqb (kind_place a.kind) 1) || value_eq a.value b.value)) || sums a b) ≡ true → Commute a b
    rest t h = elim (or_cases _ _ h) [
      | inl x ↦ most t x
      | inr x ↦ commute_on a b t (λ c. sums_swap c a b u v x)
    ]

    tables : (x : Bool) → eqb a.table b.table ≡ x → Commute a b
    tables true e = rest (eqb-true a.table b.table e) (ap (λ (x : Bool). not x || not (same_bool (is_on_map a.kind) (is_on_map b.kind)) || (is_read a.kind && is_read b.kind) || (is_keyed a.kind && is_keyed b.kind && not (value_eq a.key b.key)) || (is_plain a.kind && eqb (kind_place a.kind) (kind_place b.kind) && value_eq a.key b.key && (not (eqb (kind_place a.kind) 1) || value_eq a.value b.value)) || sums a b) (sym e) ∙ h)
    tables false e = commute_apart a b (eqb-false a.table b.table e)
