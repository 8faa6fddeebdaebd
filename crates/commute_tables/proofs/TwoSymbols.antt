-- A symbol against a symbol.
use Rattle.std.proofs.Common.{◌≡◌, ℕ, pos, Bool, true, false, not, ◌&&◌, ◌||◌, eqb, refl, sym, ◌∙◌, ap}
use Rattle.std.proofs.lemmas.Bool.{or_right}
use Rattle.std.specs.Bool.{MatchBool, Decides}
use Rattle.session_values.specs.declared.kind.Kind.{Kind}
use Rattle.session_values.specs.declared.kind.Kind.TheVariants.{Get}
use Rattle.session_values.specs.declared.op.Op.{Op}
use Rattle.session_values.specs.declared.value.Value.{Value}
use Rattle.session_values.specs.declared.value.Value.TheVariants.{Nil, Num}
use Rattle.session_values.specs.Op.{IsHeld}
use Rattle.session_values.specs.Kinds.{is_keyed, is_plain, kind_place, is_on_map, is_read}
use Rattle.session_values.proofs.Equal.{value_eq-self, value_eq-sym}
use Rattle.symbolic_ops.specs.declared.arg.Arg.{Arg}
use Rattle.symbolic_ops.specs.declared.arg.Arg.TheVariants.{Known, Var, Any}
use Rattle.symbolic_ops.specs.declared.symbol.Symbol.{Symbol}
use Rattle.symbolic_ops.specs.Symbol.{IsHeldSymbol}
use Rattle.symbolic_ops.specs.Matching.{Agrees, HasNoVar, StandsFor}
use Rattle.commute_tables.specs.Relation.{same_bool, is_put, is_bump, is_number, is_zero, add_up, may_be_number, is_apart, is_same, are_apart, are_same, commutes_symbol, commutes_symbols}
use Rattle.commute_tables.specs.Symbols.{DiffersFromSome, SymbolsDiffer}
use Rattle.symbolic_ops.specs.Commuting.{CommutesWith, SymbolsCommute}
use Rattle.commute_tables.proofs.AgainstSymbols.{or_more, and_more, and_none, near, near_key, other_value, not_other, near_held, near_stands, near_number, near_zero, symbol_commutes, symbol_differs, Decides-commute_symbol}

-- the test of parts of an operation, or of a symbol, against a symbol
abbrev tested : Kind → ℕ → Bool → Bool → Bool → Bool → Symbol → Bool
tested kind i apart same number zero t =
    not (eqb i t.table)
    || not (same_bool (is_on_map kind) (is_on_map t.kind))
    || (is_read kind && is_read t.kind)
    || (is_keyed kind && is_keyed t.kind && apart)
    || (is_plain kind && eqb (kind_place kind) (kind_place t.kind) && (not (eqb (kind_place kind) 1) || same))
    || add_up kind number zero t.kind (may_be_number t.value) (is_same (Num (pos 0)) t.value)

-- ---- where the test says that they commute
tested_more : (kind : Kind) (i : ℕ) (p q c d n z m u : Bool) (t : Symbol) → (p ≡ true → q ≡ true) → (c ≡ true → d ≡ true)
    → (add_up kind n z t.kind (may_be_number t.value) (is_same (Num (pos 0)) t.value) ≡ true → add_up kind m u t.kind (may_be_number t.value) (is_same (Num (pos 0)) t.value) ≡ true)
    → tested kind i p c n z t ≡ true → tested kind i q d m u t ≡ true
tested_more kind i p q c d n z m u t f g k =
    or_more _ _ _ _ (or_more _ _ _ _ (or_more _ _ _ _ (λ h. h) (and_more (is_keyed kind && is_keyed t.kind) p q f)) (and_more (is_plain kind && eqb (kind_place kind) (kind_place t.kind)) (not (eqb (kind_place kind) 1) || c) (not (eqb (kind_place kind) 1) || d) (or_more _ _ _ _ (λ h. h) g))) k

apart_each : (s t : Arg) (v : Value) → Agrees s v → are_apart s t ≡ true → is_apart v t ≡ true
apart_each (Known w) t v g h = ap (λ (x : Value). is_apart x t) (sym g) ∙ h
apart_each (Var x) t v g h = cc
apart_each Any t v g h = cc

same_each : (s t : Arg) (v : Value) → Agrees s v → are_same s t ≡ true → is_same v t ≡ true
same_each (Known w) t v g h = ap (λ (x : Value). is_same x t) (sym g) ∙ h
same_each (Var x) t v g h = cc
same_each Any t v g h = cc

-- what adds up with whatever number, adds up with each value
add_up_first : (x y : Kind) (n z m u : Bool) → add_up x true false y m u ≡ true → add_up x n z y m u ≡ true
add_up_first x y n z m u = or_more _ _ _ _ (or_more _ _ _ _ (or_more _ _ _ _ (or_more _ _ _ _ (λ h. h) (λ h. absurd (and_none (is_bump x) h))) (λ h. h)) (and_more (is_bump x && is_put y) (not m) (z || not m) (or_right z (not m)))) (and_more (is_put x && is_bump y) u (not n || u) (or_right (not n) u))

sums_first : (x y : Kind) (m u : Bool) (arg : Arg) (v : Value) → Agrees arg v → add_up x (may_be_number arg) (is_same (Num (pos 0)) arg) y m u ≡ true → add_up x (is_number v) (is_zero v) y m u ≡ true
sums_first x y m u (Known w) v g h = ap (λ (o : Value). add_up x (is_number o) (is_zero o) y m u) (sym g) ∙ h
sums_first x y m u (Var i) v g h = absurd g
sums_first x y m u Any v g h = add_up_first x y (is_number v) (is_zero v) m u h

-- the test of s against t, with another kind and table in place of those of s
abbrev of_arguments : Symbol → Symbol → Kind → ℕ → Bool
of_arguments s t kind i = tested kind i (are_apart s.key t.key) (are_same s.value t.value) (may_be_number s.value) (is_same (Num (pos 0)) s.value) t

commutes_first : (s t : Symbol) (a : Op) → StandsFor s a → commutes_symbols s t ≡ true → commutes_symbol a t ≡ true
commutes_first s t a st h =
    tested_more a.kind a.table (are_apart s.key t.key) (is_apart a.key t.key) (are_same s.value t.value) (is_same a.value t.value) (may_be_number s.value) (is_same (Num (pos 0)) s.value) (is_number a.value) (is_zero a.value) t (apart_each s.key t.key a.key st.key) (same_each s.value t.value a.value st.value) (sums_first a.kind t.kind (may_be_number t.value) (is_same (Num (pos 0)) t.value) s.value a.value st.value) moved
  where
    moved : of_arguments s t a.kind a.table ≡ true
    moved = ap (of_arguments s t a.kind) (sym st.table) ∙ ap (λ (kind : Kind). of_arguments s t kind s.table) (sym st.kind) ∙ h

symbols_commute : (s t : Symbol) → commutes_symbols s t ≡ true → SymbolsCommute s t
symbols_commute s t h = record { each = λ a b p q. (symbol_commutes a t p.held (commutes_first s t a p h)).each b q }

-- ---- an operation of the one that tells of the other
any_op : Op
any_op = record { kind = Get; table = 0; key = Nil; value = Nil }

any_held : IsHeld any_op
unfolding any_op
any_held = record { key = tt; value = tt; unused = (λ l. refl, λ l. refl) }

-- one that s stands for, as near to what t stands for as it can be, and with another value
abbrev telling : Symbol → Symbol → Op
telling s t = near (near any_op t) s

telling_held : (s t : Symbol) → IsHeldSymbol s → IsHeldSymbol t → IsHeld (telling s t)
telling_held s t f g = near_held (near any_op t) s (near_held any_op t any_held g) f

telling_stands : (s t : Symbol) → HasNoVar s → IsHeldSymbol s → IsHeldSymbol t → StandsFor s (telling s t)
telling_stands s t v f g = near_stands (near any_op t) s v (near_held any_op t any_held g) f

apart_near : (k : Value) (s t : Arg) → is_apart (near_key (near_key k t) s) t ≡ are_apart s t
apart_near k s t = by_first s
  where
    by_second : (t : Arg) → is_apart (near_key k t) t ≡ false
    by_second (Known w) = ap not (value_eq-self w)
    by_second (Var x) = refl
    by_second Any = refl

    by_first : (s : Arg) → is_apart (near_key (near_key k t) s) t ≡ are_apart s t
    by_first (Known v) = refl
    by_first (Var x) = by_second t
    by_first Any = by_second t

same_near : (v : Value) (s t : Arg) → is_same (other_value (other_value v t) s) t ≡ are_same s t
same_near v s t = by_first s
  where
    by_second : (t : Arg) → is_same (other_value (other_value v t) Any) t ≡ false
    by_second (Known w) = value_eq-sym w _ (not_other w)
    by_second (Var x) = refl
    by_second Any = refl

    by_first : (s : Arg) → is_same (other_value (other_value v t) s) t ≡ are_same s t
    by_first (Known w) = refl
    by_first (Var x) = by_second t
    by_first Any = by_second t

-- against t it is tested as s is
telling_tested : (s t : Symbol) → commutes_symbol (telling s t) t ≡ commutes_symbols s t
unfolding near any_op
telling_tested s t =
    let a : Op = telling s t in
    let v : Value = other_value Nil t.value in
    ap (λ (b : Bool). tested s.kind s.table b (is_same a.value t.value) (is_number a.value) (is_zero a.value) t) (apart_near Nil s.key t.key)
    ∙ ap (λ (b : Bool). tested s.kind s.table (are_apart s.key t.key) b (is_number a.value) (is_zero a.value) t) (same_near Nil s.value t.value)
    ∙ ap (λ (b : Bool). tested s.kind s.table (are_apart s.key t.key) (are_same s.value t.value) b (is_zero a.value) t) (near_number v s.value)
    ∙ ap (λ (b : Bool). tested s.kind s.table (are_apart s.key t.key) (are_same s.value t.value) (may_be_number s.value) b t) (near_zero v s.value)

-- ---- where the test says that they don't
symbols_differ : (s t : Symbol) → HasNoVar s → HasNoVar t → IsHeldSymbol s → IsHeldSymbol t → commutes_symbols s t ≡ false → SymbolsDiffer s t
symbols_differ s t v w f g h =
    let d : DiffersFromSome (telling s t) t = symbol_differs (telling s t) t w (telling_held s t f g) g (telling_tested s t ∙ h) in
    record { first = telling s t; second = d.op; stands_first = telling_stands s t v f g; stands_second = d.stands; differ = d.differ }

pub symbols_decided : (s t : Symbol) (r : Bool) → HasNoVar s → HasNoVar t → IsHeldSymbol s → IsHeldSymbol t → r ≡ commutes_symbols s t → MatchBool r (SymbolsCommute s t) (SymbolsDiffer s t)
symbols_decided s t true v w f g e = symbols_commute s t (sym e)
symbols_decided s t false v w f g e = symbols_differ s t v w f g (sym e)

pub Decides-commute_symbols : (s t : Symbol) (r : Bool) → HasNoVar s → HasNoVar t → IsHeldSymbol s → IsHeldSymbol t → r ≡ commutes_symbols s t → Decides r (SymbolsCommute s t)
Decides-commute_symbols s t r v w f g e =
    let a : Op = telling s t in
    let with_telling : SymbolsCommute s t → CommutesWith a t = λ k. record { each = λ b q. k.each a b (telling_stands s t v f g) q } in
    let back : CommutesWith a t → commutes_symbol a t ≡ true = (Decides-commute_symbol a t (commutes_symbol a t) w (telling_held s t f g) g refl).1 in
    (λ h. symbols_commute s t (sym e ∙ h), λ k. e ∙ sym (telling_tested s t) ∙ back (with_telling k))
