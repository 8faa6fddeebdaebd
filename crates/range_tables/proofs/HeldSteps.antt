-- A program can hold what the words of a line stand for.
use Rattle.std.proofs.Common.{◌≡◌, ℕ, ℤ, ◌<◌, ◌≤◌, Bool, true, false, cond, eqb, List, [], ◌∷◌, ◌++◌, length, map, Option, Some, None, Result, Ok, Err, refl, sym, subst, arith}
use Rattle.std.proofs.lemmas.List.Sums.{prefix_len-le-length}
use Rattle.std.specs.List.{AllByRecursion, after_first, before_first}
use Rattle.std.specs.Str.{bytes_eq}
use Rattle.std.specs.Prelude.{codes}
use Rattle.session_values.specs.declared.kind.Kind.{Kind}
use Rattle.session_values.specs.declared.kind.Kind.TheVariants as kind
use Rattle.session_values.specs.declared.value.Value.{Value}
use Rattle.session_values.specs.declared.value.Value.TheVariants.{Nil, Num, Sym}
use Rattle.session_values.specs.Kinds.{arguments, is_keyed, is_on_map}
use Rattle.session_values.specs.Names.{place_of}
use Rattle.session_values.specs.Values.{IsValue}
use Rattle.symbolic_ops.specs.declared.arg.Arg.{Arg}
use Rattle.symbolic_ops.specs.declared.arg.Arg.TheVariants as arg
use Rattle.symbolic_ops.specs.Matching.{IsNoVar}
use Rattle.symbolic_ops.specs.Symbol.{IsHeldArg, IsSymbol}
use Rattle.range_tables.specs.declared.range_symbol.RangeSymbol.{RangeSymbol}
use Rattle.range_tables.specs.declared.range_symbol.RangeSymbol.TheVariants as symbol
use Rattle.range_tables.specs.Ranges.{AreEnds, IsHeldRange}
use Rattle.range_tables.specs.Symbols.{IsHeldRangeSymbol, IsRangeSymbol}
use Rattle.text_lines.specs.Text.{Text}
use Rattle.text_lines.specs.Values.{as_value, is_nil, is_symbol, number, value_of}
use Rattle.text_lines.proofs.PrintableLemmas.{number_held}
use Rattle.text_lines.proofs.ValueLemmas.{value_by}
use Rattle.range_tables.specs.declared.step.Flaw.{Flaw}
use Rattle.range_tables.specs.declared.step.Step.{Step}
use Rattle.range_tables.specs.declared.step.Step.TheVariants.{Hold, Free, Do}
use Rattle.range_tables.specs.declared.word.Operand.{Operand}
use Rattle.range_tables.specs.declared.word.Operand.TheVariants as operand
use Rattle.range_tables.specs.declared.word.Verb.{Verb}
use Rattle.range_tables.specs.declared.word.Verb.TheVariants as verb
use Rattle.range_tables.specs.declared.word.Word.{Word}
use Rattle.range_tables.specs.Words.{after_point, known_or, operand_of, range_by, range_of, word_of}
use Rattle.range_tables.specs.declared.step.Flaw.TheVariants.{UnknownWord}
use Rattle.range_tables.specs.Steps.{beside, do_by, do_of, do_with, free_by, free_of, hold_by, is_hold, number_in, op_of, op_with, parts, parts_behind, step_of, symbol_by, symbol_of, symbols_of, with_both, with_key, within_by}
use Rattle.session_values.proofs.Lists.{all_join}

-- ---- words

abbrev pub HeldOperand : Option Operand → Type 0
HeldOperand None = Unit {0}
HeldOperand (Some operand.Any) = Unit {0}
HeldOperand (Some (operand.Known v)) = IsValue v
HeldOperand (Some (operand.Range low high)) = AreEnds low high

abbrev pub HeldWord : Word → Type 0
HeldWord w = HeldOperand w.operand

abbrev HeldNumber : Option ℤ → Type 0
HeldNumber None = Unit {0}
HeldNumber (Some z) = IsValue (Num z)

a_number : (w : Text) → HeldNumber (number w)
a_number w = go (number w) refl
  where
    go : (o : Option ℤ) → number w ≡ o → HeldNumber o
    go None e = tt
    go (Some z) e = number_held w z e

number_behind : (w : Text) → HeldNumber (after_point w)
number_behind [] = tt
number_behind (b ∷ bs) = go (eqb b 46)
  where
    go : (t : Bool) → HeldNumber (cond t (number bs) None)
    go true = a_number bs
    go false = tt

both_ends : (low high : Option ℤ) → HeldNumber low → HeldNumber high → HeldOperand (range_by low high)
both_ends None high h k = tt
both_ends (Some l) None h k = tt
both_ends (Some l) (Some r) h k = (h, k)

range_held : (w : Text) → HeldOperand (range_of w)
unfolding range_of
range_held w = both_ends (number (before_first (λ b. eqb b 46) w)) (after_point (after_first (λ b. eqb b 46) w)) (a_number (before_first (λ b. eqb b 46) w)) (number_behind (after_first (λ b. eqb b 46) w))

module _ (names : List Text) (few : length names ≤ 4294967295) where
  abbrev HeldValue : Option Value → Type 0
  HeldValue None = Unit {0}
  HeldValue (Some v) = IsValue v

  place_held : (w : Text) → IsValue (Sym (place_of names w))
  place_held w = let l : place_of names w ≤ length names = prefix_len-le-length _ names in omega (arith, l, few)

  value_held : (w : Text) → HeldValue (value_of names w)
  value_held w = go (is_symbol w) refl
    where
      as_held : (o : Option ℤ) → HeldNumber o → HeldValue (as_value o)
      as_held None h = tt
      as_held (Some z) h = h

      other : (b : Bool) → HeldValue (cond b (Some Nil) (as_value (number w)))
      other true = tt
      other false = as_held (number w) (a_number w)

      go : (b : Bool) → is_symbol w ≡ b → HeldValue (value_of names w)
      go true e = subst HeldValue (sym (value_by names w true e)) (place_held w)
      go false e = subst HeldValue (sym (value_by names w false e)) (other (is_nil w))

  known_held : (v : Option Value) (o : Option Operand) → HeldValue v → HeldOperand o → HeldOperand (known_or v o)
  known_held None o h k = k
  known_held (Some v) o h k = h

  operand_held : (w : Text) → HeldOperand (operand_of names w)
  unfolding operand_of
  operand_held w = go (bytes_eq w (codes "any"))
    where
      go : (b : Bool) → HeldOperand (cond b (Some operand.Any) (known_or (value_of names w) (range_of w)))
      go true = tt
      go false = known_held (value_of names w) (range_of w) (value_held w) (range_held w)

  pub words_held : (ws : List Text) → AllByRecursion HeldWord (map (word_of names) ws)
  words_held [] = tt
  words_held (w ∷ ws) = (operand_held w, words_held ws)

-- ---- symbols

pub record IsGood (s : RangeSymbol) : Type 0 where
  pub is : IsRangeSymbol s
  pub held : IsHeldRangeSymbol s

abbrev OnGood : Result RangeSymbol Flaw → Type 0
OnGood (Ok s) = IsGood s
OnGood (Err f) = Unit {0}

module _ (kind : Kind) (map_is : is_on_map kind ≡ true) (keyed : is_keyed kind ≡ true) where
  key_good : (value : Arg) (o : Option Operand) → IsNoVar value → IsHeldArg value → (arguments kind < 1 → ⊥) → (arguments kind < 2 → value ≡ arg.Known Nil) → HeldOperand o → OnGood (with_key kind value o)
  key_good value None v h f g k = tt
  key_good value (Some operand.Any) v h f g k = record { is = (tt, v); held = record { key = tt; value = h; unused = (λ l. absurd (f l), g) } }
  key_good value (Some (operand.Known x)) v h f g k = record { is = (tt, v); held = record { key = k; value = h; unused = (λ l. absurd (f l), g) } }
  key_good value (Some (operand.Range low high)) v h f g k = record { is = (map_is, keyed, v); held = (k, h) }

  both_good : (key value : Option Operand) → (arguments kind < 2 → ⊥) → HeldOperand key → HeldOperand value → OnGood (with_both kind key value)
  both_good key None f k v = tt
  both_good key (Some operand.Any) f k v = key_good arg.Any key tt tt (λ l. f (omega (arith, l))) (λ l. absurd (f l)) k
  both_good key (Some (operand.Known x)) f k v = key_good (arg.Known x) key tt v (λ l. f (omega (arith, l))) (λ l. absurd (f l)) k
  both_good key (Some (operand.Range low high)) f k v = tt

held_in : (o : Option Operand) → HeldOperand o → HeldNumber (number_in o)
held_in None h = tt
held_in (Some operand.Any) h = tt
held_in (Some (operand.Known Nil)) h = tt
held_in (Some (operand.Known (Num n))) h = h
held_in (Some (operand.Known (Sym p))) h = tt
held_in (Some (operand.Range low high)) h = tt

within_good : (low high : Option ℤ) → HeldNumber low → HeldNumber high → OnGood (within_by low high)
within_good None high h k = tt
within_good (Some l) None h k = tt
within_good (Some l) (Some r) h k = record { is = tt; held = (h, k) }

by_good : (v : Option Verb) (ws : List Word) → AllByRecursion HeldWord ws → OnGood (symbol_by v ws)
by_good None ws h = tt
by_good (Some verb.Size) [] h = record { is = (tt, tt); held = record { key = tt; value = tt; unused = (λ l. refl, λ l. refl) } }
by_good (Some verb.Size) (w ∷ ws) h = tt
by_good (Some verb.Get) [] h = tt
by_good (Some verb.Get) (k ∷ []) h = key_good kind.Get refl refl (arg.Known Nil) k.operand tt tt (λ l. omega (arith, l)) (λ l. refl) h.0
by_good (Some verb.Get) (k ∷ v ∷ ws) h = tt
by_good (Some verb.Del) [] h = tt
by_good (Some verb.Del) (k ∷ []) h = key_good kind.Del refl refl (arg.Known Nil) k.operand tt tt (λ l. omega (arith, l)) (λ l. refl) h.0
by_good (Some verb.Del) (k ∷ v ∷ ws) h = tt
by_good (Some verb.Put) [] h = tt
by_good (Some verb.Put) (k ∷ []) h = tt
by_good (Some verb.Put) (k ∷ v ∷ []) h = both_good kind.Put refl refl k.operand v.operand (λ l. omega (arith, l)) h.0 h.1.0
by_good (Some verb.Put) (k ∷ v ∷ w ∷ ws) h = tt
by_good (Some verb.Swap) [] h = tt
by_good (Some verb.Swap) (k ∷ []) h = tt
by_good (Some verb.Swap) (k ∷ v ∷ []) h = both_good kind.Swap refl refl k.operand v.operand (λ l. omega (arith, l)) h.0 h.1.0
by_good (Some verb.Swap) (k ∷ v ∷ w ∷ ws) h = tt
by_good (Some verb.Bump) [] h = tt
by_good (Some verb.Bump) (k ∷ []) h = tt
by_good (Some verb.Bump) (k ∷ v ∷ []) h = both_good kind.Bump refl refl k.operand v.operand (λ l. omega (arith, l)) h.0 h.1.0
by_good (Some verb.Bump) (k ∷ v ∷ w ∷ ws) h = tt
by_good (Some verb.Between) [] h = tt
by_good (Some verb.Between) (k ∷ []) h = tt
by_good (Some verb.Between) (l ∷ r ∷ []) h = within_good (number_in l.operand) (number_in r.operand) (held_in l.operand h.0) (held_in r.operand h.1.0)
by_good (Some verb.Between) (k ∷ v ∷ w ∷ ws) h = tt

symbol_good : (ws : List Word) → AllByRecursion HeldWord ws → OnGood (symbol_of ws)
unfolding symbol_of
symbol_good [] h = tt
symbol_good (w ∷ ws) h = by_good w.verb ws h.1

-- ---- holds

abbrev OnGoodList : Result (List RangeSymbol) Flaw → Type 0
OnGoodList (Ok ss) = AllByRecursion IsGood ss
OnGoodList (Err f) = Unit {0}

beside_good : (s : Result RangeSymbol Flaw) (more : Result (List RangeSymbol) Flaw) → OnGood s → OnGoodList more → OnGoodList (beside s more)
beside_good (Ok s) (Ok more) h k = (h, k)
beside_good (Ok s) (Err f) h k = tt
beside_good (Err f) (Ok more) h k = tt
beside_good (Err f) (Err g) h k = tt

symbols_good : (ps : List (List Word)) → AllByRecursion (λ p. AllByRecursion HeldWord p) ps → OnGoodList (symbols_of ps)
symbols_good [] h = tt
symbols_good (p ∷ ps) h = beside_good (symbol_of p) (symbols_of ps) (symbol_good p h.0) (symbols_good ps h.1)

parts_held : (front ws : List Word) → AllByRecursion HeldWord front → AllByRecursion HeldWord ws → AllByRecursion (λ p. AllByRecursion HeldWord p) (parts_behind front ws)
parts_held front [] f h = (f, tt)
parts_held front (w ∷ ws) f h =
    go w.is_mark (parts_held [] ws tt h.1) (parts_held (front ++ w ∷ []) ws (all_join HeldWord front (w ∷ []) f (h.0, tt)) h.1)
  where
    go : (b : Bool) → AllByRecursion (λ p. AllByRecursion HeldWord p) (parts_behind [] ws) → AllByRecursion (λ p. AllByRecursion HeldWord p) (parts_behind (front ++ w ∷ []) ws) → AllByRecursion (λ p. AllByRecursion HeldWord p) (cond b (front ∷ parts_behind [] ws) (parts_behind (front ++ w ∷ []) ws))
    go true x y = (f, x)
    go false x y = y

all_parts_held : (ws : List Word) → AllByRecursion HeldWord ws → AllByRecursion (λ p. AllByRecursion HeldWord p) (parts ws)
all_parts_held [] h = tt
all_parts_held (w ∷ ws) h = parts_held [] (w ∷ ws) tt h

-- ---- steps

abbrev pub IsGoodStep : Result Step Flaw → Type 0
IsGoodStep (Ok (Hold symbols)) = AllByRecursion IsGood symbols
IsGoodStep (Ok (Free n)) = Unit {0}
IsGoodStep (Ok (Do o)) = IsHeldRange o
IsGoodStep (Err f) = Unit {0}

hold_good : (r : Result (List RangeSymbol) Flaw) → OnGoodList r → IsGoodStep (hold_by r)
hold_good (Ok ss) h = h
hold_good (Err f) h = tt

free_good : (ws : List Word) → IsGoodStep (free_of ws)
free_good [] = tt
free_good (w ∷ []) = by (number_in w.operand)
  where
    by : (o : Option ℤ) → IsGoodStep (free_by o)
    by None = tt
    by (Some n) = tt
free_good (w ∷ v ∷ ws) = tt

known_nil : (k : Value) → arg.Known k ≡ arg.Known Nil → k ≡ Nil
known_nil k e = cc

with_held : (kind : Kind) (table : ℕ) (key value : Arg) → IsHeldArg key → IsHeldArg value → IsSymbol kind key value → IsGoodStep (do_with (op_with kind table key value))
with_held kind table (arg.Known k) (arg.Known v) h j u = record { key = h; value = j; unused = (λ l. known_nil k (u.0 l), λ l. known_nil v (u.1 l)) }
with_held kind table (arg.Known k) (arg.Var x) h j u = tt
with_held kind table (arg.Known k) arg.Any h j u = tt
with_held kind table (arg.Var x) value h j u = tt
with_held kind table arg.Any value h j u = tt

op_good : (s : RangeSymbol) → IsGood s → IsGoodStep (do_with (op_of s))
op_good (symbol.Plain s) g = (let held = g.held in with_held s.kind s.table s.key s.value held.key held.value held.unused)
op_good (symbol.Span kind table low high value) g = tt
op_good (symbol.Within table low high) g = g.held

do_good : (r : Result RangeSymbol Flaw) → OnGood r → IsGoodStep (do_by r)
do_good (Ok s) h = op_good s h
do_good (Err f) h = tt

done_good : (ws : List Word) → AllByRecursion HeldWord ws → IsGoodStep (do_of ws)
done_good [] h = tt
done_good (w ∷ ws) h = do_good (symbol_of (w ∷ ws)) (symbol_good (w ∷ ws) h)

pub step_good : (name : Text) (ws : List Word) → AllByRecursion HeldWord ws → IsGoodStep (step_of name ws)
unfolding step_of
step_good name ws h = first (is_hold name)
  where
    last : (b : Bool) → IsGoodStep (cond b (do_of ws) (Err UnknownWord))
    last true = done_good ws h
    last false = tt

    second : (b : Bool) → IsGoodStep (cond b (free_of ws) (cond (bytes_eq name (codes "do")) (do_of ws) (Err UnknownWord)))
    second true = free_good ws
    second false = last (bytes_eq name (codes "do"))

    first : (b : Bool) → IsGoodStep (cond b (hold_by (symbols_of (parts ws))) (cond (bytes_eq name (codes "free")) (free_of ws) (cond (bytes_eq name (codes "do")) (do_of ws) (Err UnknownWord))))
    first true = hold_good (symbols_of (parts ws)) (symbols_good (parts ws) (all_parts_held ws h))
    first false = second (bytes_eq name (codes "free"))
