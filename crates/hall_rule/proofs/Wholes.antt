-- The entries of all parts of a table together are the table's.
use Rattle.std.proofs.Common.{◌≡◌, ℕ, suc, ◌+◌, ◌<◌, ◌≤◌, List, [], ◌∷◌, ◌++◌, length, map as map_list, Option, Some, None, is_some, Bool, true, false, cond, eqb, ◌||◌, refl, sym, ◌∙◌, ap, arith}
use Rattle.std.proofs.lemmas.Bool.{or_right, true≢false, eqb-true, eqb-false}
use Rattle.std.specs.List.{AllByRecursion}
use Rattle.std.specs.FinMap as map
use Rattle.std.specs.FinSet as set
use Rattle.session_values.specs.declared.value.Value.{Value}
use Rattle.session_values.specs.declared.value.Value.TheVariants.{Nil}
use Rattle.session_values.specs.declared.kind.TableKind.{TableKind}
use Rattle.session_values.specs.declared.kind.TableKind.TheVariants.{Map, Set}
use Rattle.session_values.specs.Sums.{sum_below}
use Rattle.session_values.specs.Tables.{Container, Bindings, Members, kind_of, size_of}
use Rattle.session_values.specs.Values.{value_cmp, value_eq, value_cmp_total}
use Rattle.session_values.proofs.Equal.{same_map, same_set}
use Rattle.session_values.proofs.KindLemmas.{map_set}
use Rattle.session_journal.specs.Opening.{Pair, AreApart, container_of, has_key}
use Rattle.session_journal.proofs.Openings.{kind_is}
use Rattle.shard_tables.proofs.Values.{value_eq-same}
use Rattle.shard_tables.specs.Parts.{part, shard_of}
use Rattle.shard_tables.proofs.PartSizes.{part_sizes, shard_below}
use Rattle.shard_tables.proofs.PartSteps.{get_kept, has_kept}
use Rattle.shard_tables.specs.declared.part.Part.TheVariants as shard
use Rattle.shard_tables.specs.declared.part.Part.{Part}
use Rattle.shard_tables.specs.Either.{entries_in, shard_view}
use Rattle.shard_tables.proofs.Either.{held_is}
use Rattle.hall_rule.specs.Listing.{all_entries, all_sizes}

-- ---- what a container has at a key: what it is bound to, or nil for a member
abbrev look : Container → Value → Option Value
look (Bindings m) q = map.get m q
look (Members s) q = cond (set.contains s q) (Some Nil) None

abbrev value_in : TableKind → Pair → Value
value_in Map e = e.1
value_in Set e = Nil

abbrev first_some : Option Value → Option Value → Option Value
first_some (Some x) o = Some x
first_some None o = o

first_none : (o : Option Value) → first_some o None ≡ o
first_none (Some x) = refl
first_none None = refl

look-none : (kind : TableKind) (q : Value) → look (container_of kind []) q ≡ None
look-none Map q = map.get-empty value_cmp q
look-none Set q = ap (λ (b : Bool). let o : Option Value = cond b (Some Nil) None in o) (set.contains-empty value_cmp q)

look-cons : (kind : TableKind) (e : Pair) (es : List Pair) (q : Value) → look (container_of kind (e ∷ es)) q ≡ cond (value_eq q e.0) (Some (value_in kind e)) (look (container_of kind es) q)
look-cons Map e es q = map.get-insert value_cmp_total (map.from_entries es) e.0 e.1 q
look-cons Set e es q =
    let s : set.FinSet value_cmp = set.from_list (map_list (λ (x : Pair). x.0) es) in
    ap (λ (b : Bool). let o : Option Value = cond b (Some Nil) None in o) (set.contains-insert value_cmp_total s e.0 q) ∙ go (value_eq q e.0) (set.contains s q)
  where
    go : (b c : Bool) → ◌≡◌ {A = Option Value} (cond (b || c) (Some Nil) None) (cond b (Some Nil) (cond c (Some Nil) None))
    go true c = refl
    go false c = refl

look-append : (kind : TableKind) (xs ys : List Pair) (q : Value) → look (container_of kind (xs ++ ys)) q ≡ first_some (look (container_of kind xs) q) (look (container_of kind ys) q)
look-append kind [] ys q = ap (λ (o : Option Value). first_some o (look (container_of kind ys) q)) (sym (look-none kind q))
look-append kind (e ∷ xs) ys q =
    look-cons kind e (xs ++ ys) q
    ∙ ap (cond (value_eq q e.0) (Some (value_in kind e))) (look-append kind xs ys q)
    ∙ go (value_eq q e.0) (look (container_of kind xs) q)
    ∙ ap (λ (o : Option Value). first_some o (look (container_of kind ys) q)) (sym (look-cons kind e xs q))
  where
    go : (b : Bool) (x : Option Value) → cond b (Some (value_in kind e)) (first_some x (look (container_of kind ys) q)) ≡ first_some (cond b (Some (value_in kind e)) x) (look (container_of kind ys) q)
    go true x = refl
    go false x = refl

has-look : (kind : TableKind) (es : List Pair) (q : Value) → has_key es q ≡ is_some (look (container_of kind es) q)
has-look kind [] q = ap (λ (o : Option Value). is_some o) (sym (look-none kind q))
has-look kind (e ∷ es) q =
    ap (λ (b : Bool). value_eq q e.0 || b) (has-look kind es q)
    ∙ go (value_eq q e.0) (look (container_of kind es) q)
    ∙ ap (λ (o : Option Value). is_some o) (sym (look-cons kind e es q))
  where
    go : (b : Bool) (o : Option Value) → (b || is_some o) ≡ is_some (cond b (Some (value_in kind e)) o)
    go true o = refl
    go false o = refl

look-part : (n j : ℕ) (c : Container) (q : Value) → look (part n j c) q ≡ cond (eqb (shard_of n q) j) (look c q) None
look-part n j (Bindings m) q = get_kept (λ k. eqb (shard_of n k) j) m q
look-part n j (Members s) q = ap (λ (b : Bool). let o : Option Value = cond b (Some Nil) None in o) (has_kept (λ k. eqb (shard_of n k) j) s q) ∙ go (eqb (shard_of n q) j)
  where
    go : (b : Bool) → ◌≡◌ {A = Option Value} (cond (cond b (set.contains s q) false) (Some Nil) None) (cond b (cond (set.contains s q) (Some Nil) None) None)
    go true = refl
    go false = refl

-- containers of one kind that have the same at each key are the same
same_look : (c d : Container) → kind_of c ≡ kind_of d → ((q : Value) → look c q ≡ look d q) → c ≡ d
same_look (Bindings m) (Bindings n) k f = ap Bindings (same_map m n f)
same_look (Members s) (Members t) k f = ap Members (same_set s t (λ q. go (set.contains s q) (set.contains t q) (f q)))
  where
    go : (a b : Bool) → ◌≡◌ {A = Option Value} (cond a (Some Nil) None) (cond b (Some Nil) None) → a ≡ b
    go true true e = refl
    go true false e = cc
    go false true e = cc
    go false false e = refl
same_look (Bindings m) (Members t) k f = absurd (map_set k)
same_look (Members s) (Bindings n) k f = absurd (map_set (sym k))

-- ---- lists without a key in common
has-append : (xs ys : List Pair) (q : Value) → has_key xs q ≡ false → has_key ys q ≡ false → has_key (xs ++ ys) q ≡ false
has-append [] ys q a b = b
has-append (x ∷ xs) ys q a b = go (value_eq q x.0) (λ h. has-append xs ys q h b) a
  where
    go : (t : Bool) → (has_key xs q ≡ false → has_key (xs ++ ys) q ≡ false) → (t || has_key xs q) ≡ false → (t || has_key (xs ++ ys) q) ≡ false
    go true f h = cc
    go false f h = f h

apart_join : (xs ys : List Pair) → AreApart xs → AreApart ys → ((q : Value) → has_key xs q ≡ true → has_key ys q ≡ false) → AreApart (xs ++ ys)
apart_join [] ys a b f = b
apart_join (x ∷ xs) ys a b f = (
  has-append xs ys x.0 a.0 (f x.0 (ap (λ (t : Bool). t || has_key xs x.0) (value_eq-same x.0 x.0 refl))),
  apart_join xs ys a.1 b (λ q h. f q (or_right (value_eq q x.0) (has_key xs q) h)),
)

-- ---- the entries of all parts
-- these hold parts k, k + 1 and so on of a container
abbrev pub AreParts : ℕ → Container → ℕ → List Part → Type 0
AreParts n c k [] = Unit {0}
AreParts n c k (p ∷ ps) = ((shard_view p).container ≡ part n k c) × AreParts n c (suc k) ps

module _ (n : ℕ) (kind : TableKind) (c : Container) (kind_here : kind_of c ≡ kind) where
  part_kind_is : (k : ℕ) → kind_of (part n k c) ≡ kind
  part_kind_is k = go c kind_here
    where
      go : (d : Container) → kind_of d ≡ kind → kind_of (part n k d) ≡ kind
      go (Bindings m) h = h
      go (Members s) h = h

  look_in : (k : ℕ) (p : Part) (q : Value) → (shard_view p).container ≡ part n k c → look (container_of kind (entries_in p)) q ≡ cond (eqb (shard_of n q) k) (look c q) None
  look_in k p q e = ap (λ (d : Container). look d q) (held_is p kind (ap kind_of e ∙ part_kind_is k) ∙ e) ∙ look-part n k c q

  look_here : (k : ℕ) (p : Part) (q : Value) (b : Bool) → (shard_view p).container ≡ part n k c → eqb (shard_of n q) k ≡ b → look (container_of kind (entries_in p)) q ≡ cond b (look c q) None
  look_here k p q b e h = look_in k p q e ∙ ap (λ (t : Bool). cond t (look c q) None) h

  -- parts behind a key's own have nothing at it
  none_later : (k : ℕ) (ps : List Part) (q : Value) → AreParts n c k ps → shard_of n q < k → look (container_of kind (all_entries ps)) q ≡ None
  none_later k [] q a l = look-none kind q
  none_later k (p ∷ ps) q a l = look-append kind (entries_in p) (all_entries ps) q ∙ go (eqb (shard_of n q) k) refl ∙ none_later (suc k) ps q a.1 (omega (arith, l))
    where
      go : (b : Bool) → eqb (shard_of n q) k ≡ b → first_some (look (container_of kind (entries_in p)) q) (look (container_of kind (all_entries ps)) q) ≡ look (container_of kind (all_entries ps)) q
      go true h = absurd (omega (arith, l, eqb-true (shard_of n q) k h))
      go false h = ap (λ (o : Option Value). first_some o (look (container_of kind (all_entries ps)) q)) (look_here k p q false a.0 h)

  look_all : (k : ℕ) (ps : List Part) (q : Value) → AreParts n c k ps → k ≤ shard_of n q → shard_of n q < k + length ps → look (container_of kind (all_entries ps)) q ≡ look c q
  look_all k [] q a l h = absurd (omega (arith, l, h))
  look_all k (p ∷ ps) q a l h = look-append kind (entries_in p) (all_entries ps) q ∙ go (eqb (shard_of n q) k) (λ s. look_all (suc k) ps q a.1 s (omega (arith, h))) refl
    where
      go : (b : Bool) → (suc k ≤ shard_of n q → look (container_of kind (all_entries ps)) q ≡ look c q) → eqb (shard_of n q) k ≡ b → first_some (look (container_of kind (entries_in p)) q) (look (container_of kind (all_entries ps)) q) ≡ look c q
      go true f e =
          ap (first_some (look (container_of kind (entries_in p)) q)) (none_later (suc k) ps q a.1 (omega (arith, eqb-true (shard_of n q) k e)))
          ∙ first_none (look (container_of kind (entries_in p)) q)
          ∙ look_here k p q true a.0 e
      go false f e =
          let apart : shard_of n q ≡ k → ⊥ = eqb-false (shard_of n q) k e in
          ap (λ (o : Option Value). first_some o (look (container_of kind (all_entries ps)) q)) (look_here k p q false a.0 e)
          ∙ f (omega (arith, l, apart))

  -- together they are the whole
  pub whole : (ps : List Part) → AreParts n c 0 ps → length ps ≡ n → 0 < n → container_of kind (all_entries ps) ≡ c
  whole ps a long some = same_look _ _ (kind_is kind (all_entries ps) ∙ sym kind_here) (λ q. look_all 0 ps q a (omega arith) (omega (arith, long, shard_below n some q)))

  -- and have each key once
  pub apart_all : (k : ℕ) (ps : List Part) → AreParts n c k ps → AllByRecursion (λ p. AreApart (entries_in p)) ps → AreApart (all_entries ps)
  apart_all k [] a d = tt
  apart_all k (p ∷ ps) a d = apart_join (entries_in p) (all_entries ps) d.0 (apart_all (suc k) ps a.1 d.1) (λ q h. has-look kind (all_entries ps) q ∙ ap (λ (o : Option Value). is_some o) (none_later (suc k) ps q a.1 (own q h)))
    where
      own : (q : Value) → has_key (entries_in p) q ≡ true → shard_of n q < suc k
      own q h = go (eqb (shard_of n q) k) refl
        where
          go : (b : Bool) → eqb (shard_of n q) k ≡ b → shard_of n q < suc k
          go true e = omega (arith, eqb-true (shard_of n q) k e)
          go false e = absurd (true≢false (sym h ∙ has-look kind (entries_in p) q ∙ ap (λ (o : Option Value). is_some o) (look_here k p q false a.0 e)))

  abbrev size_at : ℕ → ℕ
  size_at i = size_of (part n i c)

  sizes_up : (k : ℕ) (ps : List Part) → AreParts n c k ps → sum_below k size_at + all_sizes ps ≡ sum_below (k + length ps) size_at
  sizes_up k [] a = let z : k + 0 ≡ k = omega arith in omega (arith, ap (λ (i : ℕ). sum_below i size_at) z)
  sizes_up k (p ∷ ps) a =
      let z : suc k + length ps ≡ k + suc (length ps) = omega arith in
      omega (arith, sizes_up (suc k) ps a.1, ap size_of a.0, ap (λ (i : ℕ). sum_below i size_at) z)

  -- and as many keys as the whole
  pub sizes_whole : (ps : List Part) → AreParts n c 0 ps → length ps ≡ n → 0 < n → all_sizes ps ≡ size_of c
  sizes_whole ps a long some =
      let z : 0 + length ps ≡ n = omega (arith, long) in
      omega (arith, sizes_up 0 ps a, ap (λ (i : ℕ). sum_below i size_at) z, part_sizes n c some)
