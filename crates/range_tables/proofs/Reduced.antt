-- An operation against a symbol that holds a range.
use Rattle.std.proofs.Common.{◌≡◌, ℕ, ℤ, ◌<◌, ◌≤ℤ◌, int_le, inl, inr, Bool, true, false, cond, not, ◌&&◌, ◌||◌, eqb, ltb, refl, sym, ◌∙◌, ap, subst, arith, pos, lit<}
use Rattle.std.specs.Bool.{MatchBool, Decides}
use Rattle.std.proofs.lemmas.Int.{ints}
use Rattle.std.proofs.lemmas.Bool.{or_cases, or_left, or_right, not-true, or_parts, not-false, both_ways}
use Rattle.std.proofs.lemmas.Bool.Decides.{nat_tests, same_from_decides}
use Rattle.session_values.specs.declared.kind.Kind.{Kind}
use Rattle.session_values.specs.declared.kind.Kind.TheVariants.{Get, Put, Swap, Del, Size, Bump, Has, Add, Mark, Drop, Count}
use Rattle.session_values.specs.declared.op.Op.{Op}
use Rattle.session_values.specs.declared.value.Value.{Value}
use Rattle.session_values.specs.declared.value.Value.TheVariants.{Nil, Num, Sym}
use Rattle.session_values.specs.Op.{IsHeld}
use Rattle.session_values.specs.Values.{value_eq, IsValue}
use Rattle.session_values.specs.Kinds.{arguments, is_on_map, is_read, is_keyed, is_plain, kind_place}
use Rattle.session_values.specs.Commuting.{Commute}
use Rattle.symbolic_ops.specs.declared.arg.Arg.{Arg}
use Rattle.symbolic_ops.specs.declared.arg.Arg.TheVariants.{Known, Var, Any}
use Rattle.symbolic_ops.specs.declared.symbol.Symbol.{Symbol}
use Rattle.symbolic_ops.specs.Symbol.{IsHeldArg, IsHeldSymbol}
use Rattle.symbolic_ops.specs.Matching.{StandsFor, Agrees, IsNoVar, HasNoVar}
use Rattle.commute_tables.specs.Relation.{add_up, same_bool, commutes, commutes_symbol, is_bump, is_number, is_zero, may_be_number}
use Rattle.commute_tables.specs.Symbols.{DiffersFromSome}
use Rattle.symbolic_ops.specs.Commuting.{CommutesWith}
use Rattle.commute_tables.proofs.Commutes.{commutes-Commute}
use Rattle.commute_tables.proofs.TellingApart.{Decides-commute}
use Rattle.commute_tables.proofs.AgainstSymbols.{symbol_commutes, symbol_differs, Decides-commute_symbol, and_three}
use Rattle.range_tables.specs.declared.range_op.RangeOp.{RangeOp}
use Rattle.range_tables.specs.declared.range_op.RangeOp.TheVariants.{Plain, Between}
use Rattle.range_tables.specs.declared.range_symbol.RangeSymbol.{RangeSymbol}
use Rattle.range_tables.specs.declared.range_symbol.RangeSymbol.TheVariants.{Plain as PlainSymbol, Span, Within}
use Rattle.range_tables.specs.Ranges.{is_between, AreEnds, IsHeldRange}
use Rattle.range_tables.specs.Commuting.{RangeCommute}
use Rattle.range_tables.specs.Relation.{changes_nothing, commutes_count, has_value, value_for, nearest, one_key, is_nil, meets, ranges_meet, range_commutes_symbol}
use Rattle.range_tables.specs.Symbols.{IsInSpan, IsWithin, RangeStandsFor, RangeCommutesWith, RangeDiffersFromSome, IsRangeSymbol, IsHeldRangeSymbol}
use Rattle.range_tables.proofs.Counting.{count_beside, plain_beside, plain_only, turned, counts_beside}
use Rattle.range_tables.proofs.Telling.{commutes-RangeDiffer, plain_differ, count_not_commute}
use Rattle.session_values.proofs.Equal.{same_value}
use Rattle.session_values.proofs.Numbers.{below_two}

-- ---- numbers in ranges
lowest_in : (low high : ℤ) → int_le low high ≡ true → is_between low high (Num low) ≡ true
lowest_in low high h = grind (arith, ints)

in_both : (low high l h x : ℤ) → is_between low high (Num x) ≡ true → is_between l h (Num x) ≡ true → ranges_meet low high l h ≡ true
in_both low high l h x p q = grind (arith, ints)

some_in : (low high : ℤ) (v : Value) → is_between low high v ≡ true → int_le low high ≡ true
some_in low high Nil e = cc
some_in low high (Num x) e = grind (arith, ints)
some_in low high (Sym p) e = cc

narrower : (low high l h : ℤ) (v : Value) → low ≤ℤ l → h ≤ℤ high → is_between l h v ≡ true → is_between low high v ≡ true
narrower low high l h Nil p q e = cc
narrower low high l h (Num x) p q e = grind (arith, ints)
narrower low high l h (Sym s) p q e = cc

nearest_in : (low high : ℤ) (v : Value) → int_le low high ≡ true → is_between low high (nearest low high v) ≡ true
nearest_in low high v h = go (is_between low high v) refl
  where
    go : (b : Bool) → is_between low high v ≡ b → is_between low high (cond b v (Num low)) ≡ true
    go true e = e
    go false e = lowest_in low high h

nearest_held : (low high : ℤ) (v : Value) → IsValue v → IsValue (Num low) → IsValue (nearest low high v)
nearest_held low high v p q = go (is_between low high v)
  where
    go : (b : Bool) → IsValue (cond b v (Num low))
    go true = p
    go false = q

nearest_is : (low high : ℤ) (v : Value) → is_between low high v ≡ true → nearest low high v ≡ v
nearest_is low high v e = ap (λ (b : Bool). cond b v (Num low)) e

-- ---- values that agree
nil_value : (v : Value) → is_nil v ≡ true → v ≡ Nil
nil_value Nil e = refl
nil_value (Num x) e = cc
nil_value (Sym p) e = cc

is_nil-nil : (v : Value) → v ≡ Nil → is_nil v ≡ true
is_nil-nil v e = ap is_nil e

two_arguments : (n : ℕ) → n < 2 → ltb 1 n ≡ false
two_arguments n l = grind (arith, nat_tests)

has_key : (n : ℕ) → not (eqb n 0) ≡ true → n < 1 → ⊥
has_key n e l = grind (arith, nat_tests)

module _ (kind : Kind) (value : Arg) where
  -- a value that agrees with the symbol of one key agrees with that of the span
  agrees_more : (w : Value) → has_value kind value ≡ true → Agrees (value_for kind value) w → Agrees value w
  agrees_more w h g = go (ltb 1 (arguments kind)) value refl h g
    where
      go : (t : Bool) (arg : Arg) → ltb 1 (arguments kind) ≡ t → has_value kind arg ≡ true → Agrees (cond t arg (Known Nil)) w → Agrees arg w
      go true arg e h g = g
      go false (Known v) e h g = nil_value v (ap (λ (b : Bool). b || is_nil v) (sym e) ∙ h) ∙ g
      go false (Var x) e h g = cc
      go false Any e h g = tt

  -- and the other way, for an operation that a program can hold
  agrees_less : (b : Op) → kind ≡ b.kind → IsHeld b → Agrees value b.value → Agrees (value_for kind value) b.value
  agrees_less b k h g = go (ltb 1 (arguments kind)) refl
    where
      go : (t : Bool) → ltb 1 (arguments kind) ≡ t → Agrees (cond t value (Known Nil)) b.value
      go true e = g
      go false e = sym (h.unused.1 (let l : arguments kind < 2 = below_two (arguments kind) e in let P : Kind → Type 0 = λ x. arguments x < 2 in subst P k l))

  -- an operation of the kind whose value agrees shows that there is one
  shows_value : (b : Op) → kind ≡ b.kind → IsHeld b → Agrees value b.value → has_value kind value ≡ true
  shows_value b k h g = go value g
    where
      go : (arg : Arg) → Agrees arg b.value → has_value kind arg ≡ true
      go (Known v) g = by (ltb 1 (arguments kind)) refl
        where
          by : (t : Bool) → ltb 1 (arguments kind) ≡ t → (t || is_nil v) ≡ true
          by true e = refl
          by false e = is_nil-nil v (g ∙ h.unused.1 (let l : arguments kind < 2 = below_two (arguments kind) e in let P : Kind → Type 0 = λ x. arguments x < 2 in subst P k l))
      go (Var x) g = absurd g
      go Any g = refl

  no_var_for : IsNoVar value → IsNoVar (value_for kind value)
  no_var_for h = go (ltb 1 (arguments kind))
    where
      go : (t : Bool) → IsNoVar (cond t value (Known Nil))
      go true = h
      go false = tt

  held_for : IsHeldArg value → IsHeldArg (value_for kind value)
  held_for h = go (ltb 1 (arguments kind))
    where
      go : (t : Bool) → IsHeldArg (cond t value (Known Nil))
      go true = h
      go false = tt

  nil_for : arguments kind < 2 → value_for kind value ≡ Known Nil
  nil_for l = ap (λ (t : Bool). cond t value (Known Nil)) (two_arguments (arguments kind) l)

-- ---- a span against an operation
-- an operation without a key looks at no key
abbrev tested : Kind → Op → Op → Value → Bool
tested x a b k =
    not (eqb a.table b.table)
    || not (same_bool (is_on_map x) (is_on_map b.kind))
    || (is_read x && is_read b.kind)
    || (is_keyed x && is_keyed b.kind && not (value_eq a.key k))
    || (is_plain x && eqb (kind_place x) (kind_place b.kind) && value_eq a.key k
    && (not (eqb (kind_place x) 1) || value_eq a.value b.value))
    || add_up x (is_number a.value) (is_zero a.value) b.kind (is_number b.value) (is_zero b.value)

no_key_matters : (x : Kind) (a b : Op) (k l : Value) → is_keyed x ≡ false → tested x a b k ≡ true → tested x a b l ≡ true
no_key_matters Get a b k l e h = cc
no_key_matters Put a b k l e h = cc
no_key_matters Swap a b k l e h = cc
no_key_matters Del a b k l e h = cc
no_key_matters Size a b k l e h = h
no_key_matters Bump a b k l e h = cc
no_key_matters Has a b k l e h = cc
no_key_matters Add a b k l e h = cc
no_key_matters Mark a b k l e h = cc
no_key_matters Drop a b k l e h = cc
no_key_matters Count a b k l e h = h

module _ (a : Op) (kind : Kind) (i : ℕ) (low high : ℤ) (value : Arg) (ha : IsHeld a) (kk : is_keyed kind ≡ true) (nv : IsNoVar value) (ends : AreEnds low high) (hv : IsHeldArg value) where
  single : Symbol
  single = one_key a kind i low high value

  single_no_var : HasNoVar single
  unfolding single
  single_no_var = (tt, no_var_for kind value nv)

  single_held : IsHeldSymbol single
  unfolding single
  single_held = record {
    key = nearest_held low high a.key ha.key ends.0;
    value = held_for kind value hv;
    unused = (λ l. absurd (has_key (arguments kind) kk l), nil_for kind value);
  }

  in_span : (b : Op) → int_le low high ≡ true → has_value kind value ≡ true → StandsFor single b → IsInSpan kind i low high value b
  unfolding single
  in_span b le has st = record {
    held = st.held;
    kind_is = st.kind;
    table = st.table;
    key = ap (is_between low high) (sym st.key) ∙ nearest_in low high a.key le;
    agrees = agrees_more kind value b.value has st.value;
  }

  to_single : (b : Op) → IsInSpan kind i low high value b → nearest low high a.key ≡ b.key → StandsFor single b
  unfolding single
  to_single b st e = record {
    held = st.held;
    kind = st.kind_is;
    table = st.table;
    key = e;
    value = agrees_less kind value b st.kind_is st.held st.agrees;
  }

  -- the operation with the one key
  moved : Op → Op
  moved b = record { kind = b.kind; table = b.table; key = nearest low high a.key; value = b.value }

  moved_stands : (b : Op) → IsInSpan kind i low high value b → StandsFor single (moved b)
  unfolding single moved
  moved_stands b st = record {
    held = record {
      key = nearest_held low high a.key ha.key ends.0;
      value = st.held.value;
      unused = (λ l. absurd (has_key (arguments b.kind) (ap is_keyed (sym st.kind_is) ∙ kk) l), st.held.unused.1);
    };
    kind = st.kind_is;
    table = st.table;
    key = refl;
    value = agrees_less kind value b st.kind_is st.held st.agrees;
  }

  commute_in_span : (b : Op) → IsInSpan kind i low high value b → CommutesWith a single → Commute a b
  unfolding moved
  commute_in_span b st w = by_key (value_eq (nearest low high a.key) b.key) refl
    where
      own_key : value_eq (nearest low high a.key) b.key ≡ false → value_eq a.key b.key ≡ false
      own_key e = go (value_eq a.key b.key) refl
        where
          go : (t : Bool) → value_eq a.key b.key ≡ t → value_eq a.key b.key ≡ false
          go true f =
              let same : a.key ≡ b.key = same_value a.key b.key f in
              let near : nearest low high a.key ≡ a.key = nearest_is low high a.key (ap (is_between low high) same ∙ st.key) in
              absurd (both_ways (value_eq (nearest low high a.key) b.key) e (ap (λ (v : Value). value_eq v b.key) near ∙ f))
          go false f = f

      by_kind : (t : Bool) → is_keyed a.kind ≡ t → value_eq (nearest low high a.key) b.key ≡ false → Commute a b
      by_kind true e f = commutes-Commute a b ha.value st.held.value (or_left _ _ (or_left _ _ (or_right _ _ (and_three (is_keyed a.kind) (is_keyed b.kind) (not (value_eq a.key b.key)) e (ap is_keyed (sym st.kind_is) ∙ kk) (ap not (own_key f))))))
      by_kind false e f = commutes-Commute a b ha.value st.held.value (no_key_matters a.kind a b (nearest low high a.key) b.key e ((Decides-commute a (moved b) (commutes a (moved b)) ha (moved_stands b st).held refl).1 (w.each (moved b) (moved_stands b st))))

      by_key : (t : Bool) → value_eq (nearest low high a.key) b.key ≡ t → Commute a b
      by_key true e = w.each b (to_single b st (same_value _ _ e))
      by_key false e = by_kind (is_keyed a.kind) refl e

  span_commutes : range_commutes_symbol (Plain a) (Span kind i low high value) ≡ true → RangeCommutesWith (Plain a) (Span kind i low high value)
  unfolding single
  span_commutes h = record { each = each }
    where
      of_one : (b : Op) → IsInSpan kind i low high value b → commutes_symbol a single ≡ true
      of_one b st = elim (or_cases _ _ h) [
        | inl p ↦ elim (or_cases _ _ p) [
          | inl q ↦ absurd (both_ways (int_le low high) (not-true _ q) (some_in low high b.key st.key))
          | inr q ↦ absurd (both_ways (has_value kind value) (not-true _ q) (shows_value kind value b st.kind_is st.held st.agrees))
        ]
        | inr p ↦ p
      ]

      each : (b : RangeOp) → RangeStandsFor (Span kind i low high value) b → RangeCommute (Plain a) b
      each (Plain b) st = plain_beside a b (commute_in_span b st (symbol_commutes a single ha (of_one b st)))
      each (Between j l h) st = absurd st

  span_complete : RangeCommutesWith (Plain a) (Span kind i low high value) → range_commutes_symbol (Plain a) (Span kind i low high value) ≡ true
  unfolding single
  span_complete k = by (int_le low high) (has_value kind value) refl refl
    where
      by : (t u : Bool) → int_le low high ≡ t → has_value kind value ≡ u → (not t || not u || commutes_symbol a single) ≡ true
      by false u e f = refl
      by true false e f = refl
      by true true e f = (Decides-commute_symbol a single (commutes_symbol a single) single_no_var ha single_held refl).1 (record { each = λ b st. plain_only a b (k.each (Plain b) (in_span b e f st)) })

  span_differs : range_commutes_symbol (Plain a) (Span kind i low high value) ≡ false → RangeDiffersFromSome (Plain a) (Span kind i low high value)
  unfolding single
  span_differs h =
      let p : ((not (int_le low high) || not (has_value kind value)) ≡ false) × (commutes_symbol a single ≡ false) = or_parts _ _ h in
      let q : (not (int_le low high) ≡ false) × (not (has_value kind value) ≡ false) = or_parts _ _ p.0 in
      let d : DiffersFromSome a single = symbol_differs a single single_no_var ha single_held p.1 in
      record {
        op = Plain d.op;
        stands = in_span d.op (not-false _ q.0) (not-false _ q.1) d.stands;
        differ = plain_differ a d.op ha.key d.stands.held.key d.differ;
      }

-- ---- counts within a range against an operation
wider : (x p q : Bool) → (q ≡ true → p ≡ true) → (x || not p) ≡ true → (x || not q) ≡ true
wider true p q f h = refl
wider false true true f h = cc
wider false true false f h = refl
wider false false true f h = absurd (both_ways false refl (f refl))
wider false false false f h = refl

abbrev front : Op → Bool → Bool
front op same = not same || not (is_on_map op.kind) || changes_nothing op.kind (is_number op.value)

itself : (i : ℕ) (low high : ℤ) → AreEnds low high → IsWithin i low high i low high
itself i low high ends = record { held = ends; table = refl; from = le_self low; to = le_self high }
  where
    le_self : (x : ℤ) → x ≤ℤ x
    le_self x = omega (arith, ints)

within_commutes : (a : Op) (i : ℕ) (low high : ℤ) → commutes_count a (eqb a.table i) low high ≡ true → RangeCommutesWith (Plain a) (Within i low high)
within_commutes a i low high h = record { each = each }
  where
    each : (b : RangeOp) → RangeStandsFor (Within i low high) b → RangeCommute (Plain a) b
    each (Plain b) st = absurd st
    each (Between j l u) st =
        let P : ℕ → Type 0 = λ n. commutes_count a (eqb a.table n) l u ≡ true in
        count_beside a j l u (subst P st.table (wider (front a (eqb a.table i)) (is_between low high a.key) (is_between l u a.key) (narrower low high l u a.key st.from st.to) h))

within_complete : (a : Op) (i : ℕ) (low high : ℤ) → IsHeld a → AreEnds low high → RangeCommutesWith (Plain a) (Within i low high) → commutes_count a (eqb a.table i) low high ≡ true
within_complete a i low high ha ends k = go (commutes_count a (eqb a.table i) low high) refl
  where
    go : (t : Bool) → commutes_count a (eqb a.table i) low high ≡ t → commutes_count a (eqb a.table i) low high ≡ true
    go true e = e
    go false e = absurd (count_not_commute a i low high ha.key e (k.each (Between i low high) (itself i low high ends)))

within_differs : (a : Op) (i : ℕ) (low high : ℤ) → IsHeld a → AreEnds low high → commutes_count a (eqb a.table i) low high ≡ false → RangeDiffersFromSome (Plain a) (Within i low high)
within_differs a i low high ha ends e = record { op = Between i low high; stands = itself i low high ends; differ = commutes-RangeDiffer (Plain a) (Between i low high) ha ends e }

-- ---- a count against a symbol
-- an operation that a symbol stands for and with which a count doesn't commute
record Nearest (j : ℕ) (l h : ℤ) (s : RangeSymbol) : Type 0 where
  op : Op
  stands : RangeStandsFor s (Plain op)
  held : IsHeld op
  against : commutes_count op (eqb op.table j) l h ≡ false

of_nearest : (j : ℕ) (l h : ℤ) (s : RangeSymbol) → AreEnds l h → Nearest j l h s → RangeDiffersFromSome (Between j l h) s
of_nearest j l h s ends n = record { op = Plain n.op; stands = n.stands; differ = commutes-RangeDiffer (Between j l h) (Plain n.op) ends n.held n.against }

no_nearest : (j : ℕ) (l h : ℤ) (s : RangeSymbol) → Nearest j l h s → RangeCommutesWith (Between j l h) s → ⊥
no_nearest j l h s n k = count_not_commute n.op j l h n.held.key n.against (turned (Between j l h) (Plain n.op) (k.each (Plain n.op) n.stands))

abbrev key_for : ℤ → Arg → Value
key_for l (Known w) = w
key_for l _ = Num l

abbrev some_value : Arg → Value
some_value (Known w) = w
some_value _ = Num (pos 0)

key_agrees : (l : ℤ) (arg : Arg) → IsNoVar arg → Agrees arg (key_for l arg)
key_agrees l (Known w) h = refl
key_agrees l (Var x) h = absurd h
key_agrees l Any h = tt

value_agrees : (arg : Arg) → IsNoVar arg → Agrees arg (some_value arg)
value_agrees (Known w) h = refl
value_agrees (Var x) h = absurd h
value_agrees Any h = tt

key_held : (l : ℤ) (arg : Arg) → IsValue (Num l) → IsHeldArg arg → IsValue (key_for l arg)
key_held l (Known w) p g = g
key_held l (Var x) p g = p
key_held l Any p g = p

value_held : (arg : Arg) → IsHeldArg arg → IsValue (some_value arg)
value_held (Known w) g = g
value_held (Var x) g = lit< tt
value_held Any g = lit< tt

key_nil : (l : ℤ) (arg : Arg) → arg ≡ Known Nil → key_for l arg ≡ Nil
key_nil l (Known w) e = cc
key_nil l (Var x) e = cc
key_nil l Any e = cc

value_nil : (arg : Arg) → arg ≡ Known Nil → some_value arg ≡ Nil
value_nil (Known w) e = cc
value_nil (Var x) e = cc
value_nil Any e = cc

key_met : (l h : ℤ) (arg : Arg) → meets l h arg ≡ true → is_between l h (key_for l arg) ≡ true
key_met l h (Known w) e = e
key_met l h (Var x) e = cc
key_met l h Any e = lowest_in l h e

met_by : (l h : ℤ) (arg : Arg) (v : Value) → Agrees arg v → is_between l h v ≡ true → meets l h arg ≡ true
met_by l h (Known w) v g e = ap (is_between l h) g ∙ e
met_by l h (Var x) v g e = absurd g
met_by l h Any v g e = some_in l h v e

-- that value is a number where some value that agrees may be
some_number : (arg : Arg) → is_number (some_value arg) ≡ may_be_number arg
some_number (Known w) = refl
some_number (Var x) = refl
some_number Any = refl

-- where no operation that agrees changes anything, this one doesn't
still_nothing : (kind : Kind) (arg : Arg) (v : Value) → Agrees arg v → changes_nothing kind (may_be_number arg) ≡ true → changes_nothing kind (is_number v) ≡ true
still_nothing kind (Known w) v g h = ap (λ (x : Value). changes_nothing kind (is_number x)) (sym g) ∙ h
still_nothing kind (Var x) v g h = absurd g
still_nothing kind Any v g h = go (is_read kind) (is_bump kind) h
  where
    go : (x y : Bool) → (x || (y && not true)) ≡ true → (x || (y && not (is_number v))) ≡ true
    go true y h = refl
    go false true h = cc
    go false false h = cc

-- a span's operation with such a value changes something where some operation of the span does
still_changes : (kind : Kind) (value : Arg) → changes_nothing kind (may_be_number value) ≡ false → changes_nothing kind (is_number (some_value (value_for kind value))) ≡ false
still_changes Bump value h = ap (λ (b : Bool). changes_nothing Bump b) (some_number value) ∙ h
still_changes _ value h = h

abbrev front_of : Kind → Bool → Bool → Bool
front_of kind same number = not same || not (is_on_map kind) || changes_nothing kind number

symbol_beside : (j : ℕ) (l h : ℤ) (s : Symbol) → range_commutes_symbol (Between j l h) (PlainSymbol s) ≡ true → RangeCommutesWith (Between j l h) (PlainSymbol s)
symbol_beside j l h s e = record { each = each }
  where
    either : (x y z : Bool) → (y ≡ true → z ≡ true) → (x || y) ≡ true → (x || z) ≡ true
    either true y z f h = refl
    either false y z f h = f h

    first : (x y z : Bool) → (x ≡ true → y ≡ true) → (x || z) ≡ true → (y || z) ≡ true
    first true y z f h = or_left y z (f refl)
    first false y z f h = or_right y z h

    -- the front of the test holds of an operation where it does of the symbol
    front_kept : (b : Op) → StandsFor s b → front_of s.kind (eqb s.table j) (may_be_number s.value) ≡ true → front_of s.kind (eqb s.table j) (is_number b.value) ≡ true
    front_kept b st q = either (not (eqb s.table j) || not (is_on_map s.kind)) (changes_nothing s.kind (may_be_number s.value)) (changes_nothing s.kind (is_number b.value)) (still_nothing s.kind s.value b.value st.value) q

    kept : (b : Op) → StandsFor s b → (front_of s.kind (eqb s.table j) (is_number b.value) || not (meets l h s.key)) ≡ true
    kept b st = first (front_of s.kind (eqb s.table j) (may_be_number s.value)) (front_of s.kind (eqb s.table j) (is_number b.value)) (not (meets l h s.key)) (front_kept b st) e

    each : (b : RangeOp) → RangeStandsFor (PlainSymbol s) b → RangeCommute (Between j l h) b
    each (Plain b) st =
        let P : ℕ → Type 0 = λ n. (front_of b.kind (eqb n j) (is_number b.value) || not (is_between l h b.key)) ≡ true in
        let Q : Kind → Type 0 = λ x. (front_of x (eqb s.table j) (is_number b.value) || not (is_between l h b.key)) ≡ true in
        turned (Plain b) (Between j l h) (count_beside b j l h (subst P st.table (subst Q st.kind (wider (front_of s.kind (eqb s.table j) (is_number b.value)) (meets l h s.key) (is_between l h b.key) (met_by l h s.key b.key st.key) (kept b st)))))
    each (Between i low high) st = absurd st

symbol_nearest : (j : ℕ) (l h : ℤ) (s : Symbol) → HasNoVar s → AreEnds l h → IsHeldSymbol s → range_commutes_symbol (Between j l h) (PlainSymbol s) ≡ false → Nearest j l h (PlainSymbol s)
symbol_nearest j l h s nv ends hs e =
    let p : (front_of s.kind (eqb s.table j) (may_be_number s.value) ≡ false) × (not (meets l h s.key) ≡ false) = or_parts _ _ e in
    let held : IsHeld (record { kind = s.kind; table = s.table; key = key_for l s.key; value = some_value s.value }) = record {
      key = key_held l s.key ends.0 hs.key;
      value = value_held s.value hs.value;
      unused = (λ m. key_nil l s.key (hs.unused.0 m), λ m. value_nil s.value (hs.unused.1 m));
    } in
    record {
      op = record { kind = s.kind; table = s.table; key = key_for l s.key; value = some_value s.value };
      stands = record { held = held; kind = refl; table = refl; key = key_agrees l s.key nv.0; value = value_agrees s.value nv.1 };
      held = held;
      against = neither (front_of s.kind (eqb s.table j) (is_number (some_value s.value))) (is_between l h (key_for l s.key)) (ap (front_of s.kind (eqb s.table j)) (some_number s.value) ∙ p.0) (key_met l h s.key (not-false _ p.1));
    }
  where
    neither : (x y : Bool) → x ≡ false → y ≡ true → (x || not y) ≡ false
    neither true y p q = cc
    neither false y p q = ap not q

-- ---- a count against a span
abbrev higher : ℤ → ℤ → ℤ
higher x y = cond (int_le x y) y x

higher_held : (x y : ℤ) → IsValue (Num x) → IsValue (Num y) → IsValue (Num (higher x y))
higher_held x y p q = go (int_le x y)
  where
    go : (t : Bool) → IsValue (Num (cond t y x))
    go true = q
    go false = p

higher_first : (low high l h : ℤ) → ranges_meet low high l h ≡ true → is_between low high (Num (higher low l)) ≡ true
higher_first low high l h e = go (int_le low l) refl
  where
    go : (t : Bool) → int_le low l ≡ t → is_between low high (Num (cond t l low)) ≡ true
    go true f = grind (arith, ints)
    go false f = grind (arith, ints)

higher_second : (low high l h : ℤ) → ranges_meet low high l h ≡ true → is_between l h (Num (higher low l)) ≡ true
higher_second low high l h e = go (int_le low l) refl
  where
    go : (t : Bool) → int_le low l ≡ t → is_between l h (Num (cond t l low)) ≡ true
    go true f = grind (arith, ints)
    go false f = grind (arith, ints)

meet_at : (low high l h : ℤ) (v : Value) → is_between low high v ≡ true → is_between l h v ≡ true → ranges_meet low high l h ≡ true
meet_at low high l h Nil p q = cc
meet_at low high l h (Num x) p q = in_both low high l h x p q
meet_at low high l h (Sym s) p q = cc

module _ (j : ℕ) (l h : ℤ) (kind : Kind) (i : ℕ) (low high : ℤ) (value : Arg) (m : is_on_map kind ≡ true) (kk : is_keyed kind ≡ true) (nv : IsNoVar value) where
  span_beside : range_commutes_symbol (Between j l h) (Span kind i low high value) ≡ true → RangeCommutesWith (Between j l h) (Span kind i low high value)
  span_beside e = record { each = each }
    where
      same : (b : Op) → IsInSpan kind i low high value b → commutes_count b (eqb b.table j) l h ≡ true
      same b st = elim (or_cases _ _ e) [
        | inl p ↦ elim (or_cases _ _ p) [
          | inl q ↦ elim (or_cases _ _ q) [
            | inl r ↦ or_left _ _ (or_left _ _ (or_left _ _ (let P : ℕ → Type 0 = λ n. not (eqb n j) ≡ true in subst P st.table r)))
            | inr r ↦ or_left _ _ (or_right _ _ (still_nothing b.kind value b.value st.agrees (ap (λ (x : Kind). changes_nothing x (may_be_number value)) (sym st.kind_is) ∙ r)))
          ]
          | inr q ↦ absurd (both_ways (has_value kind value) (not-true _ q) (shows_value kind value b st.kind_is st.held st.agrees))
        ]
        | inr p ↦ or_right _ _ (apart b st (not-true _ p))
      ]
        where
          apart : (b : Op) → IsInSpan kind i low high value b → ranges_meet low high l h ≡ false → not (is_between l h b.key) ≡ true
          apart b st f = go (is_between l h b.key) refl
            where
              go : (t : Bool) → is_between l h b.key ≡ t → not t ≡ true
              go true g = absurd (both_ways (ranges_meet low high l h) f (meet_at low high l h b.key st.key g))
              go false g = refl

      each : (b : RangeOp) → RangeStandsFor (Span kind i low high value) b → RangeCommute (Between j l h) b
      each (Plain b) st = turned (Plain b) (Between j l h) (count_beside b j l h (same b st))
      each (Between n x y) st = absurd st

  span_nearest : AreEnds l h → AreEnds low high → IsHeldArg value → range_commutes_symbol (Between j l h) (Span kind i low high value) ≡ false → Nearest j l h (Span kind i low high value)
  span_nearest ends own hv e =
      let p : ((not (eqb i j) || changes_nothing kind (may_be_number value) || not (has_value kind value)) ≡ false) × (not (ranges_meet low high l h) ≡ false) = or_parts _ _ e in
      let q : ((not (eqb i j) || changes_nothing kind (may_be_number value)) ≡ false) × (not (has_value kind value) ≡ false) = or_parts _ _ p.0 in
      let r : (not (eqb i j) ≡ false) × (changes_nothing kind (may_be_number value) ≡ false) = or_parts _ _ q.0 in
      let meet : ranges_meet low high l h ≡ true = not-false _ p.1 in
      let held : IsHeld (record { kind = kind; table = i; key = Num (higher low l); value = some_value (value_for kind value) }) = record {
        key = higher_held low l own.0 ends.0;
        value = value_held (value_for kind value) (held_for kind value hv);
        unused = (λ n. absurd (has_key (arguments kind) kk n), λ n. value_nil (value_for kind value) (nil_for kind value n));
      } in
      record {
        op = record { kind = kind; table = i; key = Num (higher low l); value = some_value (value_for kind value) };
        stands = record { held = held; kind_is = refl; table = refl; key = higher_first low high l h meet; agrees = agrees_more kind value (some_value (value_for kind value)) (not-false _ q.1) (value_agrees (value_for kind value) (no_var_for kind value nv)) };
        held = held;
        against = none (not (eqb i j)) (not (is_on_map kind)) (changes_nothing kind (is_number (some_value (value_for kind value)))) (is_between l h (Num (higher low l))) r.0 (ap not m) (still_changes kind value r.1) (higher_second low high l h meet);
      }
    where
      none : (x y z w : Bool) → x ≡ false → y ≡ false → z ≡ false → w ≡ true → (x || y || z || not w) ≡ false
      none false false false true a b c d = refl
      none true y z w a b c d = cc
      none false true z w a b c d = cc
      none false false true w a b c d = cc
      none false false false false a b c d = cc

-- ---- all
by_test : (a : RangeOp) (s : RangeSymbol) → (range_commutes_symbol a s ≡ false → RangeCommutesWith a s → ⊥) → RangeCommutesWith a s → range_commutes_symbol a s ≡ true
by_test a s no_way k = go (range_commutes_symbol a s) refl
  where
    go : (t : Bool) → range_commutes_symbol a s ≡ t → range_commutes_symbol a s ≡ true
    go true e = e
    go false e = absurd (no_way e k)

pub range_symbol_commutes : (a : RangeOp) (s : RangeSymbol) → IsRangeSymbol s → IsHeldRange a → IsHeldRangeSymbol s → range_commutes_symbol a s ≡ true → RangeCommutesWith a s
range_symbol_commutes (Plain a) (PlainSymbol s) v p q h = record { each = each }
  where
    each : (b : RangeOp) → RangeStandsFor (PlainSymbol s) b → RangeCommute (Plain a) b
    each (Plain b) st = plain_beside a b ((symbol_commutes a s p h).each b st)
    each (Between j l u) st = absurd st
range_symbol_commutes (Plain a) (Span kind i low high value) v p q h = span_commutes a kind i low high value p v.1 v.2 q.0 q.1 h
range_symbol_commutes (Plain a) (Within i low high) v p q h = within_commutes a i low high h
range_symbol_commutes (Between j l u) (PlainSymbol s) v p q h = symbol_beside j l u s h
range_symbol_commutes (Between j l u) (Span kind i low high value) v p q h = span_beside j l u kind i low high value v.0 v.1 v.2 h
range_symbol_commutes (Between j l u) (Within i low high) v p q h = record { each = each }
  where
    each : (b : RangeOp) → RangeStandsFor (Within i low high) b → RangeCommute (Between j l u) b
    each (Plain b) st = absurd st
    each (Between n x y) st = counts_beside j n l u x y

pub range_symbol_complete : (a : RangeOp) (s : RangeSymbol) → IsRangeSymbol s → IsHeldRange a → IsHeldRangeSymbol s → RangeCommutesWith a s → range_commutes_symbol a s ≡ true
range_symbol_complete (Plain a) (PlainSymbol s) v p q k = (Decides-commute_symbol a s (commutes_symbol a s) v p q refl).1 (record { each = λ b st. plain_only a b (k.each (Plain b) st) })
range_symbol_complete (Plain a) (Span kind i low high value) v p q k = span_complete a kind i low high value p v.1 v.2 q.0 q.1 k
range_symbol_complete (Plain a) (Within i low high) v p q k = within_complete a i low high p q k
range_symbol_complete (Between j l u) (PlainSymbol s) v p q k = by_test (Between j l u) (PlainSymbol s) (λ e. no_nearest j l u (PlainSymbol s) (symbol_nearest j l u s v p q e)) k
range_symbol_complete (Between j l u) (Span kind i low high value) v p q k = by_test (Between j l u) (Span kind i low high value) (λ e. no_nearest j l u (Span kind i low high value) (span_nearest j l u kind i low high value v.0 v.1 v.2 p q.0 q.1 e)) k
range_symbol_complete (Between j l u) (Within i low high) v p q k = refl

pub range_symbol_differs : (a : RangeOp) (s : RangeSymbol) → IsRangeSymbol s → IsHeldRange a → IsHeldRangeSymbol s → range_commutes_symbol a s ≡ false → RangeDiffersFromSome a s
range_symbol_differs (Plain a) (PlainSymbol s) v p q h =
    let d : DiffersFromSome a s = symbol_differs a s v p q h in
    record { op = Plain d.op; stands = d.stands; differ = plain_differ a d.op p.key d.stands.held.key d.differ }
range_symbol_differs (Plain a) (Span kind i low high value) v p q h = span_differs a kind i low high value p v.1 v.2 q.0 q.1 h
range_symbol_differs (Plain a) (Within i low high) v p q h = within_differs a i low high p q h
range_symbol_differs (Between j l u) (PlainSymbol s) v p q h = of_nearest j l u (PlainSymbol s) p (symbol_nearest j l u s v p q h)
range_symbol_differs (Between j l u) (Span kind i low high value) v p q h = of_nearest j l u (Span kind i low high value) p (span_nearest j l u kind i low high value v.0 v.1 v.2 p q.0 q.1 h)
range_symbol_differs (Between j l u) (Within i low high) v p q h = cc

pub range_symbol_decided : (a : RangeOp) (s : RangeSymbol) (r : Bool) → IsRangeSymbol s → IsHeldRange a → IsHeldRangeSymbol s → r ≡ range_commutes_symbol a s → MatchBool r (RangeCommutesWith a s) (RangeDiffersFromSome a s)
range_symbol_decided a s true v p q e = range_symbol_commutes a s v p q (sym e)
range_symbol_decided a s false v p q e = range_symbol_differs a s v p q (sym e)

pub Decides-range_commute_symbol : (a : RangeOp) (s : RangeSymbol) (r : Bool) → IsRangeSymbol s → IsHeldRange a → IsHeldRangeSymbol s → r ≡ range_commutes_symbol a s → Decides r (RangeCommutesWith a s)
Decides-range_commute_symbol a s r v p q e = (λ h. range_symbol_commutes a s v p q (sym e ∙ h), λ k. e ∙ range_symbol_complete a s v p q k)

pub told_symbol : (a : Op) (s : Symbol) (r : Bool) → HasNoVar s → IsHeld a → IsHeldSymbol s → Decides r (CommutesWith a s) → r ≡ commutes_symbol a s
told_symbol a s r v p q d = same_from_decides r (commutes_symbol a s) d (Decides-commute_symbol a s (commutes_symbol a s) v p q refl)

-- the one key's symbol has no variable, and its unused arguments are nil
pub no_var_of_one : (a : Op) (kind : Kind) (i : ℕ) (low high : ℤ) (value : Arg) → IsNoVar value → HasNoVar (one_key a kind i low high value)
no_var_of_one a kind i low high value v = (tt, no_var_for kind value v)

pub unused_of_one : (kind : Kind) (value key : Arg) → is_keyed kind ≡ true → (arguments kind < 1 → key ≡ Known Nil) × (arguments kind < 2 → value_for kind value ≡ Known Nil)
unused_of_one kind value key k = (λ l. absurd (has_key (arguments kind) k l), nil_for kind value)
