-- The pairs of a program one by one, and those of which the symbol delays the operation.
use Rattle.std.proofs.Common.{◌≡◌, ◌↔◌, ℕ, zero, suc, ◌+◌, ◌<◌, ◌⊎◌, inl, inr, Bool, true, false, eqb, List, [], ◌∷◌, ◌++◌, map, length, Contains, refl, sym, ap, subst, ◌∙◌, arith}
use Rattle.std.proofs.lemmas.Bool.{eqb-true, eqb-false}
use Rattle.std.proofs.lemmas.List.Elements.{Contains-append_left, Contains-append_right, Contains-append_cases, Contains-push, Contains-push_cases}
use Rattle.std.specs.List.{flat_map}
use Rattle.symbolic_ops.specs.declared.symbol.Symbol.{Symbol}
use Rattle.check_meaning.specs.Code.{Code, Finish, Move, Ask, Fork, Loop, Quit, points}
use Rattle.serve_reading.specs.Language.{File}
use Rattle.serve_reading.specs.Program.{ProgramView, declared_at}
use Rattle.serve_reading.specs.Resolved.{code_at}
use Rattle.serve_reading.specs.Steps.{symbol_of}
use Rattle.waiting_pairs.specs.declared.asked.Asked.{Asked}
use Rattle.waiting_pairs.specs.declared.waiting.Wait.{Wait}
use Rattle.waiting_pairs.specs.Waits.{AreWaits, IsDelay, IsWait, Picks, against, all_asked, at_point, gather, of_holder, operations, pairs, wait}

-- ---- members of lists
none_in_nil : {X : Type 0} (q : X) → Contains [] q → ⊥
none_in_nil q (k, l, e) = omega (arith, l)

cons_head : {X : Type 0} (y : X) (ys : List X) → Contains (y ∷ ys) y
cons_head y ys = Contains-append_left (y ∷ []) ys y (Contains-push [] y)

cons_tail : {X : Type 0} (y : X) (ys : List X) (q : X) → Contains ys q → Contains (y ∷ ys) q
cons_tail y ys q m = Contains-append_right (y ∷ []) ys q m

cons_cases : {X : Type 0} (y : X) (ys : List X) (q : X) → Contains (y ∷ ys) q → (y ≡ q) ⊎ Contains ys q
cons_cases y ys q m = go (Contains-append_cases (y ∷ []) ys q m)
  where
    only : Contains [] q ⊎ (y ≡ q) → y ≡ q
    only (inl c) = absurd (none_in_nil q c)
    only (inr e) = e

    go : Contains (y ∷ []) q ⊎ Contains ys q → (y ≡ q) ⊎ Contains ys q
    go (inl c) = inl (only (Contains-push_cases [] y q c))
    go (inr c) = inr c

in_map : {X Y : Type 0} (f : X → Y) (xs : List X) (q : Y) → Contains (map f xs) q → (x : X) × Contains xs x × (f x ≡ q)
in_map f [] q m = absurd (none_in_nil q m)
in_map {X} f (x ∷ xs) q m = go (in_map f xs q) (cons_cases (f x) (map f xs) q m)
  where
    go : (Contains (map f xs) q → (y : X) × Contains xs y × (f y ≡ q)) → (f x ≡ q) ⊎ Contains (map f xs) q → (y : X) × Contains (x ∷ xs) y × (f y ≡ q)
    go k (inl e) = (x, cons_head x xs, e)
    go k (inr c) = let b = k c in (b.0, cons_tail x xs b.0 b.1, b.2)

to_map : {X Y : Type 0} (f : X → Y) (xs : List X) (x : X) → Contains xs x → Contains (map f xs) (f x)
to_map f [] x m = absurd (none_in_nil x m)
to_map f (y ∷ ys) x m = go (to_map f ys x) (cons_cases y ys x m)
  where
    go : (Contains ys x → Contains (map f ys) (f x)) → (y ≡ x) ⊎ Contains ys x → Contains (f y ∷ map f ys) (f x)
    go k (inl e) = subst (λ z. Contains (f y ∷ map f ys) (f z)) e (cons_head (f y) (map f ys))
    go k (inr c) = cons_tail (f y) (map f ys) (f x) (k c)

in_flat : {X Y : Type 0} (f : X → List Y) (xs : List X) (q : Y) → Contains (flat_map f xs) q → (x : X) × Contains xs x × Contains (f x) q
in_flat f [] q m = absurd (none_in_nil q m)
in_flat {X} f (x ∷ xs) q m = go (in_flat f xs q) (Contains-append_cases (f x) (flat_map f xs) q m)
  where
    go : (Contains (flat_map f xs) q → (y : X) × Contains xs y × Contains (f y) q) → Contains (f x) q ⊎ Contains (flat_map f xs) q → (y : X) × Contains (x ∷ xs) y × Contains (f y) q
    go k (inl c) = (x, cons_head x xs, c)
    go k (inr c) = let b = k c in (b.0, cons_tail x xs b.0 b.1, b.2)

to_flat : {X Y : Type 0} (f : X → List Y) (xs : List X) (x : X) (q : Y) → Contains xs x → Contains (f x) q → Contains (flat_map f xs) q
to_flat f [] x q m c = absurd (none_in_nil x m)
to_flat f (y ∷ ys) x q m c = go (λ r. to_flat f ys x q r c) (cons_cases y ys x m)
  where
    go : (Contains ys x → Contains (flat_map f ys) q) → (y ≡ x) ⊎ Contains ys x → Contains (f y ++ flat_map f ys) q
    go k (inl e) = Contains-append_left (f y) (flat_map f ys) q (subst (λ z. Contains (f z) q) (sym e) c)
    go k (inr r) = Contains-append_right (f y) (flat_map f ys) q (k r)

in_gather : {X : Type 0} (f : ℕ → List X) (n : ℕ) (q : X) → Contains (gather f n) q → (i : ℕ) × (i < n) × Contains (f i) q
in_gather f zero q m = absurd (none_in_nil q m)
in_gather f (suc n) q m = go (in_gather f n q) (Contains-append_cases (gather f n) (f n) q m)
  where
    go : (Contains (gather f n) q → (i : ℕ) × (i < n) × Contains (f i) q) → Contains (gather f n) q ⊎ Contains (f n) q → (i : ℕ) × (i < suc n) × Contains (f i) q
    go k (inl c) = let b = k c in (b.0, omega (arith, b.1), b.2)
    go k (inr c) = (n, omega arith, c)

below : (i n : ℕ) → i < suc n → (i ≡ n → ⊥) → i < n
below i n l e = omega (arith, l, e)

to_gather : {X : Type 0} (f : ℕ → List X) (n i : ℕ) (q : X) → i < n → Contains (f i) q → Contains (gather f n) q
to_gather f zero i q l c = absurd (omega (arith, l))
to_gather f (suc n) i q l c = go (λ r. to_gather f n i q r c) (eqb i n) refl
  where
    go : (i < n → Contains (gather f n) q) → (b : Bool) → eqb i n ≡ b → Contains (gather f n ++ f n) q
    go k true e = Contains-append_right (gather f n) (f n) q (subst (λ z. Contains (f z) q) (eqb-true i n e) c)
    go k false e = Contains-append_left (gather f n) (f n) q (k (below i n l (eqb-false i n e)))

-- ---- an operation is its handler's
one_of : {P Q R : Type 0} → (P → R) → (Q → R) → P ⊎ Q → R
one_of f g (inl p) = f p
one_of f g (inr q) = g q

own_handler : (h : ℕ) (code : Code) (a : Asked) → Contains (operations h code) a → h ≡ a.handler
own_handler h Finish a m = absurd (none_in_nil a m)
own_handler h (Move x e rest) a m = own_handler h rest a m
own_handler h (Ask at p x c rest) a m = one_of (λ e. ap (λ (z : Asked). z.handler) e) (own_handler h rest a) (cons_cases (record { handler = h; at = at; op = symbol_of c }) (operations h rest) a m)
own_handler h (Fork at p q test a0 b0 rest) a m = one_of (own_handler h a0 a) (λ r. one_of (own_handler h b0 a) (own_handler h rest a) (Contains-append_cases (operations h b0) (operations h rest) a r)) (Contains-append_cases (operations h a0) (operations h b0 ++ operations h rest) a m)
own_handler h (Loop at p n x body rest) a m = one_of (own_handler h body a) (own_handler h rest a) (Contains-append_cases (operations h body) (operations h rest) a m)
own_handler h (Quit es rest) a m = own_handler h rest a m

-- ---- pairs
-- what holds of a pair, whether it delays or not
record IsPair (p : ProgramView) (w : Wait) : Type 0 where
  holder : w.holder < length p.file.handlers
  point : w.point < 1 + points (code_at p.file w.holder)
  symbol : Contains (declared_at p w.holder w.point) w.symbol
  waiter : w.asked.handler < length p.file.handlers
  operation : Contains (operations w.asked.handler (code_at p.file w.asked.handler)) w.asked

asked_pair : (p : ProgramView) (h i : ℕ) (s : Symbol) (a : Asked) (k : ℕ) → h < length p.file.handlers → i < 1 + points (code_at p.file h) → Contains (declared_at p h i) s
    → k < length p.file.handlers → Contains (operations k (code_at p.file k)) a → IsPair p (wait h i s a)
asked_pair p h i s a k l m c n d =
    let own : k ≡ a.handler = own_handler k (code_at p.file k) a d in
    record {
      holder = l;
      point = m;
      symbol = c;
      waiter = subst (λ (z : ℕ). z < length p.file.handlers) own n;
      operation = subst (λ (z : ℕ). Contains (operations z (code_at p.file z)) a) own d;
    }

from_pairs : (p : ProgramView) (w : Wait) → Contains (pairs p) w → IsPair p w
from_pairs p w m =
    let asked : List Asked = all_asked p.file in
    let one = in_gather (of_holder p asked) (length p.file.handlers) w m in
    let two = in_gather (at_point p asked one.0) (1 + points (code_at p.file one.0)) w one.2 in
    let three = in_flat (against one.0 two.0 asked) (declared_at p one.0 two.0) w two.2 in
    let four = in_map (wait one.0 two.0 three.0) asked w three.2 in
    let five = in_gather (λ h. operations h (code_at p.file h)) (length p.file.handlers) four.0 four.1 in
    subst (IsPair p) four.2 (asked_pair p one.0 two.0 three.0 four.0 five.0 one.1 two.1 three.1 five.1 five.2)

to_pairs : (p : ProgramView) (w : Wait) → IsPair p w → Contains (pairs p) w
to_pairs p w m =
    let asked : List Asked = all_asked p.file in
    let there : Contains asked w.asked = to_gather (λ h. operations h (code_at p.file h)) (length p.file.handlers) w.asked.handler w.asked m.waiter m.operation in
    to_gather (of_holder p asked) (length p.file.handlers) w.holder w m.holder
    (to_gather (at_point p asked w.holder) (1 + points (code_at p.file w.holder)) w.point w m.point
    (to_flat (against w.holder w.point asked) (declared_at p w.holder w.point) w.symbol w m.symbol (to_map (wait w.holder w.point w.symbol) asked w.asked there)))

-- ---- those that delay
picked : (ws found : List Wait) (w : Wait) → Picks ws found → Contains found w → Contains ws w × IsDelay w
picked [] found w p m = absurd (none_in_nil w (subst (λ (z : List Wait). Contains z w) p m))
picked (v ∷ ws) found w (inl (d, (rest, r, e))) m = go (picked ws rest w r) (cons_cases v rest w (subst (λ (z : List Wait). Contains z w) e m))
  where
    go : (Contains rest w → Contains ws w × IsDelay w) → (v ≡ w) ⊎ Contains rest w → Contains (v ∷ ws) w × IsDelay w
    go k (inl f) = (subst (Contains (v ∷ ws)) f (cons_head v ws), subst IsDelay f d)
    go k (inr c) = let b = k c in (cons_tail v ws w b.0, b.1)
picked (v ∷ ws) found w (inr (n, r)) m = let b = picked ws found w r m in (cons_tail v ws w b.0, b.1)

left_none : (ws found : List Wait) (w : Wait) → Picks ws found → Contains ws w → IsDelay w → Contains found w
left_none [] found w p m d = absurd (none_in_nil w m)
left_none (v ∷ ws) found w (inl (y, (rest, r, e))) m d = subst (λ (z : List Wait). Contains z w) (sym e) (go (λ c. left_none ws rest w r c d) (cons_cases v ws w m))
  where
    go : (Contains ws w → Contains rest w) → (v ≡ w) ⊎ Contains ws w → Contains (v ∷ rest) w
    go k (inl f) = subst (Contains (v ∷ rest)) f (cons_head v rest)
    go k (inr c) = cons_tail v rest w (k c)
left_none (v ∷ ws) found w (inr (n, r)) m d = one_of (λ f. absurd (n (subst IsDelay (sym f) d))) (λ c. left_none ws found w r c d) (cons_cases v ws w m)

pub each_told : (p : ProgramView) (found : List Wait) → AreWaits p found → (w : Wait) → Contains found w ↔ IsWait p w
each_told p found are w = (there, back)
  where
    there : Contains found w → IsWait p w
    there m =
        let b = picked (pairs p) found w are m in
        let q : IsPair p w = from_pairs p w b.0 in
        record { holder = q.holder; point = q.point; symbol = q.symbol; waiter = q.waiter; operation = q.operation; delays = b.1 }

    back : IsWait p w → Contains found w
    back i = left_none (pairs p) found w are (to_pairs p w (record { holder = i.holder; point = i.point; symbol = i.symbol; waiter = i.waiter; operation = i.operation })) i.delays
