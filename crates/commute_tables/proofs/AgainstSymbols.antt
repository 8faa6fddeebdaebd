-- An operation against a symbol.
use Rattle.std.proofs.Common.{◌≡◌, ℕ, pos, ◌⊎◌, inl, inr, Bool, true, false, not, ◌&&◌, ◌||◌, eqb, refl, sym, ◌∙◌, ap}
use Rattle.std.specs.Bool.{MatchBool, Decides}
use Rattle.session_values.specs.declared.kind.Kind.{Kind}
use Rattle.session_values.specs.declared.kind.Kind.TheVariants.{Get, Put, Swap, Del, Size, Bump, Has, Add, Mark, Drop, Count}
use Rattle.session_values.specs.declared.op.Op.{Op}
use Rattle.session_values.specs.declared.value.Value.{Value}
use Rattle.symbolic_ops.specs.declared.arg.Arg.{Arg}
use Rattle.symbolic_ops.specs.declared.arg.Arg.TheVariants.{Known, Var, Any}
use Rattle.symbolic_ops.specs.declared.symbol.Symbol.{Symbol}
use Rattle.session_values.specs.declared.value.Value.TheVariants.{Nil, Num}
use Rattle.session_values.specs.Op.{IsHeld}
use Rattle.session_values.specs.Values.{value_eq, IsValue}
use Rattle.symbolic_ops.specs.Symbol.{IsHeldArg, IsHeldSymbol}
use Rattle.session_values.specs.Kinds.{is_keyed, is_plain, kind_place, is_on_map, is_read}
use Rattle.commute_tables.specs.Relation.{same_bool, commutes, is_put, is_bump, is_number, is_zero, add_up, may_be_number, sums_symbol}
use Rattle.symbolic_ops.specs.Matching.{Agrees, IsNoVar, HasNoVar, StandsFor}
use Rattle.commute_tables.specs.Symbols.{DiffersFromSome}
use Rattle.symbolic_ops.specs.Commuting.{CommutesWith}
use Rattle.commute_tables.specs.Relation.{is_apart, is_same, commutes_symbol}
use Rattle.std.proofs.lemmas.Bool.{and_parts, or_from, and_right, not-true, or_parts, not-false}
use Rattle.commute_tables.proofs.Commutes.{same_kind, commutes-Commute}
use Rattle.commute_tables.proofs.TellingApart.{commutes-Differ, not_commute}
use Rattle.commute_tables.proofs.TellingApartPairs.{other, other_differs, other_number, other_not_zero, other_held}
use Rattle.session_values.proofs.Equal.{same_value, value_eq-self}

plain_keyed : (kind : Kind) → is_plain kind ≡ true → is_keyed kind ≡ true
plain_keyed Get h = refl
plain_keyed Put h = refl
plain_keyed Swap h = refl
plain_keyed Del h = refl
plain_keyed Size h = cc
plain_keyed Bump h = refl
plain_keyed Has h = refl
plain_keyed Add h = refl
plain_keyed Mark h = refl
plain_keyed Drop h = refl
plain_keyed Count h = cc

-- the test of an operation against parts of another
abbrev tested : Op → Kind → ℕ → Bool → Bool → Bool → Bool → Bool
tested a kind i apart change number zero =
    not (eqb a.table i)
    || not (same_bool (is_on_map a.kind) (is_on_map kind))
    || (is_read a.kind && is_read kind)
    || (is_keyed a.kind && is_keyed kind && apart)
    || (is_plain a.kind && eqb (kind_place a.kind) (kind_place kind) && change)
    || add_up a.kind (is_number a.value) (is_zero a.value) kind number zero

-- ---- where the test says that they commute
-- two tests agree up to their last two parts
or_weaker : (x p q r s : Bool) → (p ≡ true → (q ≡ true) ⊎ (s ≡ true)) → (r ≡ true → (q ≡ true) ⊎ (s ≡ true)) → (x || p || r) ≡ true → (x || q || s) ≡ true
or_weaker true p q r s f g h = refl
or_weaker false true q r s f g h = join q s (f refl)
  where
    join : (q s : Bool) → (q ≡ true) ⊎ (s ≡ true) → (q || s) ≡ true
    join true s h = refl
    join false s (inl h) = cc
    join false s (inr h) = h
or_weaker false false q true s f g h = join q s (g refl)
  where
    join : (q s : Bool) → (q ≡ true) ⊎ (s ≡ true) → (q || s) ≡ true
    join true s h = refl
    join false s (inl h) = cc
    join false s (inr h) = h
or_weaker false false q false s f g h = cc

pub and_three : (x y z : Bool) → x ≡ true → y ≡ true → z ≡ true → (x && y && z) ≡ true
and_three x y z p q r = cc (ap (λ (b : Bool). b && y && z) p, ap (λ (b : Bool). true && b && z) q, ap (λ (b : Bool). true && true && b) r)

key_of : (a : Op) (arg : Arg) (v : Value) → Agrees arg v → is_apart a.key arg ≡ true → value_eq a.key v ≡ false
key_of a (Known w) v g h = ap (value_eq a.key) (sym g) ∙ not-true _ h
key_of a (Var x) v g h = cc
key_of a Any v g h = cc

value_of : (a : Op) (arg : Arg) (v : Value) → Agrees arg v → is_same a.value arg ≡ true → value_eq a.value v ≡ true
value_of a (Known w) v g h = ap (value_eq a.value) (sym g) ∙ h
value_of a (Var x) v g h = cc
value_of a Any v g h = cc

-- one of two, of which each follows from its like
pub or_more : (x y p q : Bool) → (x ≡ true → p ≡ true) → (y ≡ true → q ≡ true) → (x || y) ≡ true → (p || q) ≡ true
or_more true y p q f g h = ap (λ (b : Bool). b || q) (f refl)
or_more false y p true f g h = or_true p
  where
    or_true : (b : Bool) → (b || true) ≡ true
    or_true true = refl
    or_true false = refl
or_more false y p false f g h = absurd (let e : false ≡ true = g h in cc)

pub and_more : (x y z : Bool) → (y ≡ true → z ≡ true) → (x && y) ≡ true → (x && z) ≡ true
and_more true y z f h = f h
and_more false y z f h = cc

pub and_none : (b : Bool) → (b && false) ≡ true → ⊥
and_none true e = cc
and_none false e = cc

-- an operation that adds up with whatever number, adds up with each value
add_up_any : (x y : Kind) (n z m u : Bool) → add_up x n z y true false ≡ true → add_up x n z y m u ≡ true
add_up_any x y n z m u = or_more _ _ _ _ (or_more _ _ _ _ (or_more _ _ _ _ (λ h. h) (λ h. absurd (and_none (is_bump y) h))) (and_more (is_bump x && is_put y) (z || false) (z || not m) (more z (not m)))) (and_more (is_put x && is_bump y) (not n || false) (not n || u) (more (not n) u))
  where
    more : (z m : Bool) → (z || false) ≡ true → (z || m) ≡ true
    more true m e = refl
    more false m e = cc

sums_each : (a : Op) (kind : Kind) (arg : Arg) (v : Value) → Agrees arg v → add_up a.kind (is_number a.value) (is_zero a.value) kind (may_be_number arg) (is_same (Num (pos 0)) arg) ≡ true → add_up a.kind (is_number a.value) (is_zero a.value) kind (is_number v) (is_zero v) ≡ true
sums_each a kind (Known w) v g h = ap (λ (x : Value). add_up a.kind (is_number a.value) (is_zero a.value) kind (is_number x) (is_zero x)) (sym g) ∙ h
sums_each a kind (Var x) v g h = absurd g
sums_each a kind Any v g h = add_up_any a.kind kind (is_number a.value) (is_zero a.value) (is_number v) (is_zero v) h

-- the test against a symbol with an operation's own kind and table
commutes_each : (a : Op) (s : Symbol) (b : Op) → StandsFor s b → commutes_symbol a s ≡ true → commutes a b ≡ true
commutes_each a s b st h = or_more _ (add_up a.kind (is_number a.value) (is_zero a.value) b.kind (may_be_number s.value) (is_same (Num (pos 0)) s.value)) _ _ (or_weaker front (is_keyed a.kind && is_keyed b.kind && is_apart a.key s.key) (is_keyed a.kind && is_keyed b.kind && not (value_eq a.key b.key)) (is_plain a.kind && eqb (kind_place a.kind) (kind_place b.kind) && (not (eqb (kind_place a.kind) 1) || is_same a.value s.value)) (is_plain a.kind && eqb (kind_place a.kind) (kind_place b.kind) && value_eq a.key b.key && (not (eqb (kind_place a.kind) 1) || value_eq a.value b.value)) by_key by_change) (sums_each a b.kind s.value b.value st.value) moved
  where
    front : Bool
    front = not (eqb a.table b.table) || not (same_bool (is_on_map a.kind) (is_on_map b.kind)) || (is_read a.kind && is_read b.kind)

    moved : (not (eqb a.table b.table) || not (same_bool (is_on_map a.kind) (is_on_map b.kind)) || (is_read a.kind && is_read b.kind) || (is_keyed a.kind && is_keyed b.kind && is_apart a.key s.key) || (is_plain a.kind && eqb (kind_place a.kind) (kind_place b.kind) && (not (eqb (kind_place a.kind) 1) || is_same a.value s.value)) || add_up a.kind (is_number a.value) (is_zero a.value) b.kind (may_be_number s.value) (is_same (Num (pos 0)) s.value)) ≡ true
    moved = ap (λ (i : ℕ). tested a b.kind i (is_apart a.key s.key) (not (eqb (kind_place a.kind) 1) || is_same a.value s.value) (may_be_number s.value) (is_same (Num (pos 0)) s.value)) (sym st.table) ∙ ap (λ (kind : Kind). tested a kind s.table (is_apart a.key s.key) (not (eqb (kind_place a.kind) 1) || is_same a.value s.value) (may_be_number s.value) (is_same (Num (pos 0)) s.value)) (sym st.kind) ∙ h

    by_key : (is_keyed a.kind && is_keyed b.kind && is_apart a.key s.key) ≡ true → ((is_keyed a.kind && is_keyed b.kind && not (value_eq a.key b.key)) ≡ true) ⊎ ((is_plain a.kind && eqb (kind_place a.kind) (kind_place b.kind) && value_eq a.key b.key && (not (eqb (kind_place a.kind) 1) || value_eq a.value b.value)) ≡ true)
    by_key h =
        let p : ((is_keyed a.kind && is_keyed b.kind) ≡ true) × (is_apart a.key s.key ≡ true) = and_parts _ _ h in
        inl (ap (λ (x : Bool). x && not (value_eq a.key b.key)) p.0 ∙ ap not (key_of a s.key b.key st.key p.1))

    same_kinds : (x y : Kind) → eqb (kind_place x) (kind_place y) ≡ true → is_plain x ≡ true → is_keyed y ≡ true
    same_kinds x y e p = ap is_keyed (sym (same_kind x y e)) ∙ plain_keyed x p

    by_change : (is_plain a.kind && eqb (kind_place a.kind) (kind_place b.kind) && (not (eqb (kind_place a.kind) 1) || is_same a.value s.value)) ≡ true → ((is_keyed a.kind && is_keyed b.kind && not (value_eq a.key b.key)) ≡ true) ⊎ ((is_plain a.kind && eqb (kind_place a.kind) (kind_place b.kind) && value_eq a.key b.key && (not (eqb (kind_place a.kind) 1) || value_eq a.value b.value)) ≡ true)
    by_change h =
        let p : ((is_plain a.kind && eqb (kind_place a.kind) (kind_place b.kind)) ≡ true) × ((not (eqb (kind_place a.kind) 1) || is_same a.value s.value) ≡ true) = and_parts _ _ h in
        let q : (is_plain a.kind ≡ true) × (eqb (kind_place a.kind) (kind_place b.kind) ≡ true) = and_parts _ _ p.0 in
        by_same_key (value_eq a.key b.key) refl p.0 p.1 (plain_keyed a.kind q.0) (same_kinds a.kind b.kind q.1 q.0)
      where
        values : (not (eqb (kind_place a.kind) 1) || is_same a.value s.value) ≡ true → (not (eqb (kind_place a.kind) 1) || value_eq a.value b.value) ≡ true
        values h = by_put (not (eqb (kind_place a.kind) 1)) h
          where
            by_put : (x : Bool) → (x || is_same a.value s.value) ≡ true → (x || value_eq a.value b.value) ≡ true
            by_put true h = refl
            by_put false h = value_of a s.value b.value st.value h

        by_same_key : (x : Bool) → value_eq a.key b.key ≡ x → (is_plain a.kind && eqb (kind_place a.kind) (kind_place b.kind)) ≡ true → (not (eqb (kind_place a.kind) 1) || is_same a.value s.value) ≡ true → is_keyed a.kind ≡ true → is_keyed b.kind ≡ true → ((is_keyed a.kind && is_keyed b.kind && not (value_eq a.key b.key)) ≡ true) ⊎ ((is_plain a.kind && eqb (kind_place a.kind) (kind_place b.kind) && value_eq a.key b.key && (not (eqb (kind_place a.kind) 1) || value_eq a.value b.value)) ≡ true)
        by_same_key true e p v k l = inr (and_three (is_plain a.kind && eqb (kind_place a.kind) (kind_place b.kind)) (value_eq a.key b.key) (not (eqb (kind_place a.kind) 1) || value_eq a.value b.value) p e (values v))
        by_same_key false e p v k l = inl (and_three (is_keyed a.kind) (is_keyed b.kind) (not (value_eq a.key b.key)) k l (ap not e))

pub symbol_commutes : (a : Op) (s : Symbol) → IsHeld a → commutes_symbol a s ≡ true → CommutesWith a s
symbol_commutes a s g h = record { each = λ b st. commutes-Commute a b g.value st.held.value (commutes_each a s b st h) }

-- ---- where it says that they don't
-- an operation that the symbol stands for, as near to a as it can be, and with another value
abbrev pub near_key : Value → Arg → Value
near_key k (Known w) = w
near_key k _ = k

abbrev pub other_value : Value → Arg → Value
other_value v (Known w) = w
other_value v _ = other v

unfoldable pub near : Op → Symbol → Op
near a s = record { kind = s.kind; table = s.table; key = near_key a.key s.key; value = other_value a.value s.value }

key_agrees : (k : Value) (arg : Arg) → IsNoVar arg → Agrees arg (near_key k arg)
key_agrees k (Known w) h = refl
key_agrees k (Var x) h = absurd h
key_agrees k Any h = tt

value_agrees : (v : Value) (arg : Arg) → IsNoVar arg → Agrees arg (other_value v arg)
value_agrees v (Known w) h = refl
value_agrees v (Var x) h = absurd h
value_agrees v Any h = tt

-- it is one that a program can hold
held_key : (k : Value) (arg : Arg) → IsValue k → IsHeldArg arg → IsValue (near_key k arg)
held_key k (Known w) h g = g
held_key k (Var x) h g = h
held_key k Any h g = h

held_value : (v : Value) (arg : Arg) → IsHeldArg arg → IsValue (other_value v arg)
held_value v (Known w) g = g
held_value v (Var x) g = other_held v
held_value v Any g = other_held v

nil_key : (k : Value) (arg : Arg) → arg ≡ Known Nil → near_key k arg ≡ Nil
nil_key k (Known w) e = cc
nil_key k (Var x) e = cc
nil_key k Any e = cc

nil_value : (v : Value) (arg : Arg) → arg ≡ Known Nil → other_value v arg ≡ Nil
nil_value v (Known w) e = cc
nil_value v (Var x) e = cc
nil_value v Any e = cc

pub near_held : (a : Op) (s : Symbol) → IsHeld a → IsHeldSymbol s → IsHeld (near a s)
unfolding near
near_held a s h g = record {
  key = held_key a.key s.key h.key g.key;
  value = held_value a.value s.value g.value;
  unused = (λ l. nil_key a.key s.key (g.unused.0 l), λ l. nil_value a.value s.value (g.unused.1 l));
}

pub near_stands : (a : Op) (s : Symbol) → HasNoVar s → IsHeld a → IsHeldSymbol s → StandsFor s (near a s)
unfolding near
near_stands a s h b g = record { held = near_held a s b g; kind = refl; table = refl; key = key_agrees a.key s.key h.0; value = value_agrees a.value s.value h.1 }

near_apart : (k : Value) (arg : Arg) → is_apart k arg ≡ false → value_eq k (near_key k arg) ≡ true
near_apart k (Known w) h = not-false _ h
near_apart k (Var x) h = value_eq-self k
near_apart k Any h = value_eq-self k

pub not_other : (v : Value) → value_eq v (other v) ≡ false
not_other v = by_case (value_eq v (other v)) refl
  where
    by_case : (b : Bool) → value_eq v (other v) ≡ b → value_eq v (other v) ≡ false
    by_case true e = absurd (other_differs v (sym (same_value v (other v) e)))
    by_case false e = e

near_value : (v : Value) (arg : Arg) → is_same v arg ≡ false → value_eq v (other_value v arg) ≡ false
near_value v (Known w) h = h
near_value v (Var x) h = not_other v
near_value v Any h = not_other v

-- two tests that are false up to their last two parts
or_false_too : (x p q r s : Bool) → (p ≡ false → q ≡ false) → (r ≡ false → s ≡ false) → (x || p || r) ≡ false → (x || q || s) ≡ false
or_false_too x p q r s f g h =
    let a : ((x || p) ≡ false) × (r ≡ false) = or_parts (x || p) r h in
    let b : (x ≡ false) × (p ≡ false) = or_parts x p a.0 in
    ap (λ (y : Bool). y || q || s) b.0 ∙ ap (λ (y : Bool). y || s) (f b.1) ∙ g a.1

-- it is a number other than 0 where the symbol's may be
pub near_number : (v : Value) (arg : Arg) → is_number (other_value v arg) ≡ may_be_number arg
near_number v (Known w) = refl
near_number v (Var x) = other_number v
near_number v Any = other_number v

pub near_zero : (v : Value) (arg : Arg) → is_zero (other_value v arg) ≡ is_same (Num (pos 0)) arg
near_zero v (Known w) = refl
near_zero v (Var x) = other_not_zero v
near_zero v Any = other_not_zero v

near_most : (a : Op) (s : Symbol) → (not (eqb a.table s.table) || not (same_bool (is_on_map a.kind) (is_on_map s.kind)) || (is_read a.kind && is_read s.kind) || (is_keyed a.kind && is_keyed s.kind && is_apart a.key s.key) || (is_plain a.kind && eqb (kind_place a.kind) (kind_place s.kind) && (not (eqb (kind_place a.kind) 1) || is_same a.value s.value))) ≡ false
    → (not (eqb a.table s.table) || not (same_bool (is_on_map a.kind) (is_on_map s.kind)) || (is_read a.kind && is_read s.kind) || (is_keyed a.kind && is_keyed s.kind && not (value_eq a.key (near_key a.key s.key))) || (is_plain a.kind && eqb (kind_place a.kind) (kind_place s.kind) && value_eq a.key (near_key a.key s.key) && (not (eqb (kind_place a.kind) 1) || value_eq a.value (other_value a.value s.value)))) ≡ false
near_most a s h = or_false_too (not (eqb a.table s.table) || not (same_bool (is_on_map a.kind) (is_on_map s.kind)) || (is_read a.kind && is_read s.kind)) (is_keyed a.kind && is_keyed s.kind && is_apart a.key s.key) (is_keyed a.kind && is_keyed s.kind && not (value_eq a.key (near_key a.key s.key))) (is_plain a.kind && eqb (kind_place a.kind) (kind_place s.kind) && (not (eqb (kind_place a.kind) 1) || is_same a.value s.value)) (is_plain a.kind && eqb (kind_place a.kind) (kind_place s.kind) && value_eq a.key (near_key a.key s.key) && (not (eqb (kind_place a.kind) 1) || value_eq a.value (other_value a.value s.value))) by_key by_change h
  where
    by_key : (is_keyed a.kind && is_keyed s.kind && is_apart a.key s.key) ≡ false → (is_keyed a.kind && is_keyed s.kind && not (value_eq a.key (near_key a.key s.key))) ≡ false
    by_key h = go (is_keyed a.kind && is_keyed s.kind) h
      where
        go : (x : Bool) → (x && is_apart a.key s.key) ≡ false → (x && not (value_eq a.key (near_key a.key s.key))) ≡ false
        go true h = ap not (near_apart a.key s.key h)
        go false h = refl

    by_change : (is_plain a.kind && eqb (kind_place a.kind) (kind_place s.kind) && (not (eqb (kind_place a.kind) 1) || is_same a.value s.value)) ≡ false → (is_plain a.kind && eqb (kind_place a.kind) (kind_place s.kind) && value_eq a.key (near_key a.key s.key) && (not (eqb (kind_place a.kind) 1) || value_eq a.value (other_value a.value s.value))) ≡ false
    by_change h = go (is_plain a.kind && eqb (kind_place a.kind) (kind_place s.kind)) (not (eqb (kind_place a.kind) 1)) h
      where
        go : (x y : Bool) → (x && (y || is_same a.value s.value)) ≡ false → (x && value_eq a.key (near_key a.key s.key) && (y || value_eq a.value (other_value a.value s.value))) ≡ false
        go false y h = refl
        go true true h = cc
        go true false h = and_right (value_eq a.key (near_key a.key s.key)) (value_eq a.value (other_value a.value s.value)) (near_value a.value s.value h)

near_differs : (a : Op) (s : Symbol) → commutes_symbol a s ≡ false → commutes a (near a s) ≡ false
unfolding near
near_differs a s f =
    let g = or_parts _ (sums_symbol a s) f in
    or_from _ _ (near_most a s g.0) (ap (λ (n : Bool). add_up a.kind (is_number a.value) (is_zero a.value) s.kind n (is_zero (other_value a.value s.value))) (near_number a.value s.value) ∙ ap (add_up a.kind (is_number a.value) (is_zero a.value) s.kind (may_be_number s.value)) (near_zero a.value s.value) ∙ g.1)

pub symbol_differs : (a : Op) (s : Symbol) → HasNoVar s → IsHeld a → IsHeldSymbol s → commutes_symbol a s ≡ false → DiffersFromSome a s
symbol_differs a s v b g h = record { op = near a s; stands = near_stands a s v b g; differ = commutes-Differ a (near a s) b.value (near_held a s b g).value (near_differs a s h) }

pub symbol_decided : (a : Op) (s : Symbol) (r : Bool) → HasNoVar s → IsHeld a → IsHeldSymbol s → r ≡ commutes_symbol a s → MatchBool r (CommutesWith a s) (DiffersFromSome a s)
symbol_decided a s true v b g e = symbol_commutes a s b (sym e)
symbol_decided a s false v b g e = symbol_differs a s v b g (sym e)

pub Decides-commute_symbol : (a : Op) (s : Symbol) (r : Bool) → HasNoVar s → IsHeld a → IsHeldSymbol s → r ≡ commutes_symbol a s → Decides r (CommutesWith a s)
Decides-commute_symbol a s r v b g e = (λ h. symbol_commutes a s b (sym e ∙ h), λ k. e ∙ go (commutes_symbol a s) refl k)
  where
    go : (c : Bool) → commutes_symbol a s ≡ c → CommutesWith a s → commutes_symbol a s ≡ true
    go true f k = f
    go false f k = absurd (not_commute a (near a s) b.value (near_held a s b g).value (near_differs a s f) (k.each (near a s) (near_stands a s v b g)))
