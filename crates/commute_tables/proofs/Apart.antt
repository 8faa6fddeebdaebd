-- Changes at different keys.
use Rattle.std.proofs.Common.{◌≡◌, Option, Some, None, Bool, true, false, cond, not, ◌&&◌, ◌||◌, refl, sym, ◌∙◌, ap}
use Rattle.std.specs.FinMap as map
use Rattle.std.specs.FinSet as set
use Rattle.session_values.specs.declared.value.Value.{Value}
use Rattle.session_values.specs.Values.{value_cmp, value_eq, value_cmp_total}
use Rattle.session_values.specs.Tables.{bound_to, bumped}
use Rattle.session_values.proofs.Bumps.{get-bound_to}
use Rattle.session_values.proofs.Equal.{same_value, not_same}

module _ (M V E : Type 0) (get : M → Value → V) (act : E → Value → M → M) (put : E → V → V)
    (get-act : (e : E) (k : Value) (m : M) (q : Value) → get (act e k m) q ≡ cond (value_eq q k) (put e (get m q)) (get m q))
    (same : (m n : M) → ((q : Value) → get m q ≡ get n q) → m ≡ n) where
  -- a change at another key leaves what is at this one
  pub get_apart : (e : E) (k q : Value) (m : M) → value_eq q k ≡ false → get (act e k m) q ≡ get m q
  get_apart e k q m h = get-act e k m q ∙ ap (λ (b : Bool). cond b (put e (get m q)) (get m q)) h

  -- changes at different keys give the same in both orders
  pub act_apart : (e f : E) (k j : Value) (m : M) → value_eq k j ≡ false → act f j (act e k m) ≡ act e k (act f j m)
  act_apart e f k j m h = same (act f j (act e k m)) (act e k (act f j m)) (λ q.
      get-act f j (act e k m) q
      ∙ ap (λ (v : V). cond (value_eq q j) (put f v) v) (get-act e k m q)
      ∙ cases q (value_eq q k) (value_eq q j) refl refl
      ∙ sym (ap (λ (v : V). cond (value_eq q k) (put e v) v) (get-act f j m q))
      ∙ sym (get-act e k (act f j m) q))
    where
      cases : (q : Value) (b c : Bool) → value_eq q k ≡ b → value_eq q j ≡ c → cond c (put f (cond b (put e (get m q)) (get m q))) (cond b (put e (get m q)) (get m q)) ≡ cond b (put e (cond c (put f (get m q)) (get m q))) (cond c (put f (get m q)) (get m q))
      cases q true true x y = absurd (not_same k j h (sym (same_value q k x) ∙ same_value q j y))
      cases q true false x y = refl
      cases q false true x y = refl
      cases q false false x y = refl

  -- changes whose order doesn't matter to what is at a key give the same in both orders
  pub act_any : (e f : E) (k j : Value) (m : M) → ((v : V) → put f (put e v) ≡ put e (put f v)) → act f j (act e k m) ≡ act e k (act f j m)
  act_any e f k j m h = same (act f j (act e k m)) (act e k (act f j m)) (λ q.
      get-act f j (act e k m) q
      ∙ ap (λ (v : V). cond (value_eq q j) (put f v) v) (get-act e k m q)
      ∙ cases q (value_eq q k) (value_eq q j)
      ∙ sym (ap (λ (v : V). cond (value_eq q k) (put e v) v) (get-act f j m q))
      ∙ sym (get-act e k (act f j m) q))
    where
      cases : (q : Value) (b c : Bool) → cond c (put f (cond b (put e (get m q)) (get m q))) (cond b (put e (get m q)) (get m q)) ≡ cond b (put e (cond c (put f (get m q)) (get m q))) (cond c (put f (get m q)) (get m q))
      cases q true true = h (get m q)
      cases q true false = refl
      cases q false true = refl
      cases q false false = refl

-- ---- of maps
pub data MapAct : Type 0 where
  Keep : MapAct
  Bind : Value → MapAct
  Unbind : MapAct
  Sum : Value → MapAct

abbrev pub act_on_map : MapAct → Value → map.FinMap value_cmp Value → map.FinMap value_cmp Value
act_on_map Keep k m = m
act_on_map (Bind v) k m = map.insert m k v
act_on_map Unbind k m = map.remove m k
act_on_map (Sum v) k m = bound_to m k (bumped v (map.get m k))

abbrev pub bound_by : MapAct → Option Value → Option Value
bound_by Keep o = o
bound_by (Bind v) o = Some v
bound_by Unbind o = None
bound_by (Sum v) o = bumped v o

same_both : {A : Type 0} (b : Bool) (x : A) → x ≡ cond b x x
same_both true x = refl
same_both false x = refl

pub get-act_on_map : (e : MapAct) (k : Value) (m : map.FinMap value_cmp Value) (q : Value) → map.get (act_on_map e k m) q ≡ cond (value_eq q k) (bound_by e (map.get m q)) (map.get m q)
get-act_on_map Keep k m q = same_both (value_eq q k) (map.get m q)
get-act_on_map (Bind v) k m q = map.get-insert value_cmp_total m k v q
get-act_on_map Unbind k m q = map.get-remove value_cmp_total m k q
get-act_on_map (Sum v) k m q = get-bound_to m k (bumped v (map.get m k)) q ∙ go (value_eq q k) refl
  where
    go : (b : Bool) → value_eq q k ≡ b → cond b (bumped v (map.get m k)) (map.get m q) ≡ cond b (bumped v (map.get m q)) (map.get m q)
    go true e = ap (λ (x : Value). bumped v (map.get m x)) (sym (same_value q k e))
    go false e = refl

-- ---- of sets
pub data SetAct : Type 0 where
  Stay : SetAct
  Join : SetAct
  Leave : SetAct

abbrev pub act_on_set : SetAct → Value → set.FinSet value_cmp → set.FinSet value_cmp
act_on_set Stay k s = s
act_on_set Join k s = set.insert s k
act_on_set Leave k s = set.remove s k

abbrev pub member_by : SetAct → Bool → Bool
member_by Stay b = b
member_by Join b = true
member_by Leave b = false

pub contains-act_on_set : (e : SetAct) (k : Value) (s : set.FinSet value_cmp) (q : Value) → set.contains (act_on_set e k s) q ≡ cond (value_eq q k) (member_by e (set.contains s q)) (set.contains s q)
contains-act_on_set Stay k s q = same_both (value_eq q k) (set.contains s q)
contains-act_on_set Join k s q = set.contains-insert value_cmp_total s k q ∙ or_cond (value_eq q k) (set.contains s q)
  where
    or_cond : (b c : Bool) → (b || c) ≡ cond b true c
    or_cond true c = refl
    or_cond false c = refl
contains-act_on_set Leave k s q = set.contains-remove value_cmp_total s k q ∙ and_cond (value_eq q k) (set.contains s q)
  where
    and_cond : (b c : Bool) → (not b && c) ≡ cond b false c
    and_cond true c = refl
    and_cond false c = refl
