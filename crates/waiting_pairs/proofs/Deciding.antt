-- Whether two symbols delay one another, by opened symbols.
use Rattle.std.proofs.Common.{◌≡◌, ◌≢◌, ℕ, zero, suc, ◌<◌, pos, ◌⊎◌, inl, inr, Bool, true, false, if◌then◌else◌, ◌||◌, eqb, refl, sym, ap, subst, ◌∙◌, arith, replicate}
use Rattle.std.proofs.lemmas.Bool.{eqb-true, eqb-false}
use Rattle.std.specs.Prelude.{Some, not, slice_get}
use Rattle.std.specs.Bool.{Decides, MatchBool}
use Rattle.session_values.specs.declared.kind.TableKind.{TableKind}
use Rattle.session_values.specs.declared.kind.TableKind.TheVariants.{Map, Set}
use Rattle.session_values.specs.declared.kind.Kind.{Kind}
use Rattle.session_values.specs.declared.value.Value.{Value}
use Rattle.session_values.specs.declared.value.Value.TheVariants.{Nil, Num, Sym}
use Rattle.session_values.specs.declared.op.Op.{Op}
use Rattle.session_values.specs.Commuting.{Commute}
use Rattle.session_values.specs.Kinds.{home, is_keyed, arguments}
use Rattle.session_values.specs.Op.{IsHeld}
use Rattle.session_values.specs.Tables.{Fits}
use Rattle.session_values.specs.Values.{IsValue, value_eq}
use Rattle.session_values.proofs.Equal.{same_value, not_same}
use Rattle.symbolic_ops.specs.declared.symbol.Symbol.{Symbol}
use Rattle.symbolic_ops.specs.Commuting.{SymbolsCommute}
use Rattle.symbolic_ops.specs.Matching.{StandsFor}
use Rattle.commute_tables.specs.Pairs.{AreOnOneKey}
use Rattle.commute_tables.specs.Symbols.{SymbolsDiffer}
use Rattle.commute_tables.specs.ToldApart.{Differ, ToldApart}
use Rattle.commute_tables.proofs.ListedPairs.{on_other_containers, with_other_keys, pairs_decided}
use Rattle.commute_tables.proofs.TellingApart.{last_of}
use Rattle.waiting_pairs.specs.Delays.{Delays}
use Rattle.waiting_pairs.specs.Opened.{is_tied, opened, Tells}
use Rattle.waiting_pairs.proofs.Opening.{from_opened, to_opened}

-- ---- operations that don't commute are on one container, with one key
same_home : (x y : TableKind) → (x ≢ y → ⊥) → x ≡ y
same_home Map Map n = refl
same_home Map Set n = absurd (n (λ e. cc))
same_home Set Map n = absurd (n (λ e. cc))
same_home Set Set n = refl

same_number : (i j : ℕ) → (i ≢ j → ⊥) → i ≡ j
same_number i j n = go (eqb i j) refl
  where
    go : (b : Bool) → eqb i j ≡ b → i ≡ j
    go true e = eqb-true i j e
    go false e = absurd (n (eqb-false i j e))

pub on_one_key : (a b : Op) → IsHeld a → IsHeld b → (Commute a b → ⊥) → AreOnOneKey a b
on_one_key a b f g n = record {
  table = same_number a.table b.table (λ m. n (on_other_containers a b f g (inl m)));
  container = same_home (home a.kind) (home b.kind) (λ m. n (on_other_containers a b f g (inr m)));
  key = λ p q. keys p q (value_eq a.key b.key) refl;
}
  where
    keys : is_keyed a.kind ≡ true → is_keyed b.kind ≡ true → (b0 : Bool) → value_eq a.key b.key ≡ b0 → a.key ≡ b.key
    keys p q true e = same_value a.key b.key e
    keys p q false e = absurd (n (with_other_keys a b f g p q (not_same a.key b.key e)))

-- ---- what is told apart
-- operations on one container that are told apart don't commute
differ_not : (a b : Op) → IsHeld a → IsHeld b → a.table ≡ b.table → home a.kind ≡ home b.kind → Differ a b → Commute a b → ⊥
differ_not a b f g same kind d k =
    let shape = replicate (suc a.table) (home a.kind) in
    let P : ℕ → Type 0 = λ i. slice_get shape i ≡ Some (home a.kind) in
    let first : Fits shape a = record { table = last_of a.table (home a.kind); key = f.unused.0; value = f.unused.1 } in
    let second : Fits shape b = record { table = subst P same (last_of a.table (home a.kind)) ∙ ap Some kind; key = g.unused.0; value = g.unused.1 } in
    let t : ToldApart shape a b = d.at shape first second in
    t.differ (k.at t.tables)

-- symbols that don't commute are of one container
same_table : (s t : Symbol) → (SymbolsCommute s t → ⊥) → s.table ≡ t.table
same_table s t n = same_number s.table t.table (λ m. n (record { each = λ a b p q. on_other_containers a b p.held q.held (inl (λ e. m (p.table ∙ e ∙ sym q.table))) }))

same_container : (s t : Symbol) → (SymbolsCommute s t → ⊥) → home s.kind ≡ home t.kind
same_container s t n = same_home (home s.kind) (home t.kind) (λ m. n (record { each = λ a b p q. on_other_containers a b p.held q.held (inr (λ e. m (ap home p.kind ∙ e ∙ ap home (sym q.kind)))) }))

pub opened_delay : (s o : Symbol) (u : Value) → SymbolsDiffer (opened s u) (opened o u) → (SymbolsCommute (opened s u) (opened o u) → ⊥) → Delays s o
opened_delay s o u d n = record {
  later = d.first;
  called = d.second;
  may_come = from_opened s u d.first d.stands_first;
  may_call = from_opened o u d.second d.stands_second;
  differ = differ_not d.first d.second d.stands_first.held d.stands_second.held
      (sym d.stands_first.table ∙ same_table (opened s u) (opened o u) n ∙ d.stands_second.table)
      (ap home (sym d.stands_first.kind) ∙ same_container (opened s u) (opened o u) n ∙ ap home d.stands_second.kind)
      d.differ;
}

-- ---- where neither has one variable twice
pub free_complete : (s o : Symbol) (u : Value) → is_tied s ≡ false → is_tied o ≡ false → SymbolsCommute (opened s u) (opened o u) → Delays s o → ⊥
free_complete s o u p q h d = d.differ (h.each d.later d.called (to_opened s u d.later p d.may_come) (to_opened o u d.called q d.may_call))

pub opened_tells : (s o : Symbol) (u : Value) (c r : Bool) → r ≡ not c → Decides c (SymbolsCommute (opened s u) (opened o u)) → MatchBool c (SymbolsCommute (opened s u) (opened o u)) (SymbolsDiffer (opened s u) (opened o u)) → Tells s o u r
opened_tells s o u true r e h m = record { delays = λ f. absurd (let g : false ≡ true = sym e ∙ f in cc); commute = λ f. m }
opened_tells s o u false r e h m = record { delays = λ f. opened_delay s o u m (λ k. let g : false ≡ true = h.1 k in absurd (both g)); commute = λ f. absurd (let g : true ≡ false = sym e ∙ f in cc) }
  where
    both : false ≡ true → ⊥
    both g = cc
