-- The entries of a kept map as a finite map, and the keys of a kept set as a finite set.
use Rattle.std.proofs.Common.{◌≡◌, ◌+◌, length, Bool, true, false, cond, ◌||◌, not, ◌&&◌, List, [], ◌∷◌, Option, Some, None, is_some, refl, sym, ap, ◌∙◌, add-one}
use Rattle.std.specs.List.{AllByRecursion, list_any}
use Rattle.std.specs.List.Sorted.{IsStrictlySortedBy}
use Rattle.std.specs.declared.cmp.Ordering.TheVariants.{Less}
use Rattle.std.specs.Ordering.{is_eq}
use Rattle.std.specs.Cmp.{eq_by_cmp_equiv}
use Rattle.std.specs.FinMap as map
use Rattle.std.specs.FinSet as set
use Rattle.std.specs.Map.{lookup, keys_of}
use Rattle.std.specs.BTreeMap.{is_at}
use Rattle.session_values.specs.declared.value.Value.{Value}
use Rattle.session_values.specs.declared.value.Value.TheVariants.{Nil, Num, Sym}
use Rattle.session_values.specs.contracts.value.ValueOrd.TheImpl as derived
use Rattle.session_values.specs.Values.{value_cmp, value_cmp_total, value_cmp-IsAntisymmetric}

-- the derived order is the order of values
value_cmp-derived : (x y : Value) → (derived.ghosts).cmp x y ≡ value_cmp x y
value_cmp-derived Nil Nil = refl
value_cmp-derived Nil (Num y) = refl
value_cmp-derived Nil (Sym y) = refl
value_cmp-derived (Num x) Nil = refl
value_cmp-derived (Num x) (Num y) = refl
value_cmp-derived (Num x) (Sym y) = refl
value_cmp-derived (Sym x) Nil = refl
value_cmp-derived (Sym x) (Num y) = refl
value_cmp-derived (Sym x) (Sym y) = refl

pub value_cmp-is : (derived.ghosts).cmp ≡ value_cmp
value_cmp-is = λ i x y. value_cmp-derived x y i

-- what the entries have at a key
abbrev pub kept_at : List (Value × Value) → Value → Option Value
kept_at es q = lookup (is_at (value_cmp q)) es

find_key : (es : List (Value × Value)) (q : Value) → map.find value_cmp q es ≡ kept_at es q
find_key [] q = refl
find_key (e ∷ es) q = ap (cond (is_at (value_cmp q) e.0) (Some e.1)) (find_key es q)

-- what the map of the entries has at a key
pub get_key : (es : List (Value × Value)) (q : Value) → map.get (map.from_entries {R = value_cmp} es) q ≡ kept_at es q
get_key es q = map.get-from_entries value_cmp_total es q ∙ find_key es q

-- entries that differ by a binding make maps that differ by it
pub one_bound : (es fs : List (Value × Value)) (k v : Value)
    → ((q : Value) → kept_at fs q ≡ cond (is_at (value_cmp k) q) (Some v) (kept_at es q))
    → map.from_entries {R = value_cmp} fs ≡ map.insert (map.from_entries es) k v
one_bound es fs k v h = map.same_map value_cmp_total value_cmp-IsAntisymmetric _ _ (λ q.
    get_key fs q ∙ h q ∙ ap (λ b. cond b (Some v) (kept_at es q)) ((eq_by_cmp_equiv value_cmp_total).symm k q)
    ∙ sym (map.get-insert value_cmp_total (map.from_entries es) k v q ∙ ap (cond (is_at (value_cmp q) k) (Some v)) (get_key es q)))

-- and entries of which one key is gone
pub one_unbound : (es fs : List (Value × Value)) (k : Value)
    → ((q : Value) → kept_at fs q ≡ cond (is_at (value_cmp k) q) None (kept_at es q))
    → map.from_entries {R = value_cmp} fs ≡ map.remove (map.from_entries es) k
one_unbound es fs k h = map.same_map value_cmp_total value_cmp-IsAntisymmetric _ _ (λ q.
    get_key fs q ∙ h q ∙ ap (λ b. cond b None (kept_at es q)) ((eq_by_cmp_equiv value_cmp_total).symm k q)
    ∙ sym (map.get-remove value_cmp_total (map.from_entries es) k q ∙ ap (cond (is_at (value_cmp q) k) None) (get_key es q)))

-- a key below all others isn't among them
absent : (k : Value) (es : List (Value × Value)) → AllByRecursion (λ y. value_cmp k y ≡ Less) (keys_of es) → kept_at es k ≡ None
absent k [] h = refl
absent k (e ∷ es) h = ap (λ o. cond (is_eq o) (Some e.1) (kept_at es k)) h.0 ∙ absent k es h.1

-- entries in order are as many as the map's
pub len_map : (es : List (Value × Value)) → IsStrictlySortedBy value_cmp (keys_of es) → map.len (map.from_entries {R = value_cmp} es) ≡ length es
unfolding IsStrictlySortedBy
len_map [] h = map.len-empty value_cmp Value
len_map (e ∷ es) h =
    map.len-insert value_cmp_total (map.from_entries es) e.0 e.1
    ∙ ap (λ o. cond (is_some o) (map.len (map.from_entries {R = value_cmp} es)) (map.len (map.from_entries {R = value_cmp} es) + 1)) (get_key es e.0 ∙ absent e.0 es h.0)
    ∙ (let rest : map.len (map.from_entries {R = value_cmp} es) ≡ length es = len_map es h.1 in ap (λ n. n + 1) rest ∙ add-one _)

-- whether the keys have a key
abbrev pub kept_in : List Value → Value → Bool
kept_in ks q = list_any (is_at (value_cmp q)) ks

pub has_key : (ks : List Value) (q : Value) → set.contains (set.from_list {R = value_cmp} ks) q ≡ kept_in ks q
has_key ks q = set.contains-from_list value_cmp_total ks q

or_if : (a b : Bool) → cond a true b ≡ (a || b)
or_if true b = refl
or_if false b = refl

and_if : (a b : Bool) → cond a false b ≡ (not a && b)
and_if true b = refl
and_if false b = refl

-- keys that differ by a member make sets that differ by it
pub one_added : (ks js : List Value) (k : Value)
    → ((q : Value) → kept_in js q ≡ cond (is_at (value_cmp k) q) true (kept_in ks q))
    → set.from_list {R = value_cmp} js ≡ set.insert (set.from_list ks) k
one_added ks js k h = set.same_set value_cmp_total value_cmp-IsAntisymmetric _ _ (λ q.
    has_key js q ∙ h q ∙ ap (λ b. cond b true (kept_in ks q)) ((eq_by_cmp_equiv value_cmp_total).symm k q) ∙ or_if (is_at (value_cmp q) k) (kept_in ks q)
    ∙ sym (set.contains-insert value_cmp_total (set.from_list ks) k q ∙ ap (λ b. is_at (value_cmp q) k || b) (has_key ks q)))

-- and keys of which one is gone
pub one_dropped : (ks js : List Value) (k : Value)
    → ((q : Value) → kept_in js q ≡ cond (is_at (value_cmp k) q) false (kept_in ks q))
    → set.from_list {R = value_cmp} js ≡ set.remove (set.from_list ks) k
one_dropped ks js k h = set.same_set value_cmp_total value_cmp-IsAntisymmetric _ _ (λ q.
    has_key js q ∙ h q ∙ ap (λ b. cond b false (kept_in ks q)) ((eq_by_cmp_equiv value_cmp_total).symm k q) ∙ and_if (is_at (value_cmp q) k) (kept_in ks q)
    ∙ sym (set.contains-remove value_cmp_total (set.from_list ks) k q ∙ ap (λ b. not (is_at (value_cmp q) k) && b) (has_key ks q)))

missing : (k : Value) (ks : List Value) → AllByRecursion (λ y. value_cmp k y ≡ Less) ks → kept_in ks k ≡ false
missing k [] h = refl
missing k (x ∷ ks) h = ap (λ o. is_eq o || kept_in ks k) h.0 ∙ missing k ks h.1

-- keys in order are as many as the set's
pub len_set : (ks : List Value) → IsStrictlySortedBy value_cmp ks → set.len (set.from_list {R = value_cmp} ks) ≡ length ks
unfolding IsStrictlySortedBy
len_set [] h = set.len-empty value_cmp
len_set (k ∷ ks) h =
    set.len-insert value_cmp_total (set.from_list ks) k
    ∙ ap (λ b. cond b (set.len (set.from_list {R = value_cmp} ks)) (set.len (set.from_list {R = value_cmp} ks) + 1)) (has_key ks k ∙ missing k ks h.0)
    ∙ (let rest : set.len (set.from_list {R = value_cmp} ks) ≡ length ks = len_set ks h.1 in ap (λ n. n + 1) rest ∙ add-one _)
