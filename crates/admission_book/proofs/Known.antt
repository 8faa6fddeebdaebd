-- What is known of what a ticket may still call.
use Rattle.std.proofs.Common.{◌≡◌, ℕ, zero, suc, ◌<◌, ◌≤◌, List, [], ◌∷◌, ◌++◌, length, map, drop, get_or, Option, Some, None, false, refl, sym, ◌∙◌, ap, subst, arith}
use Rattle.std.proofs.lemmas.Option.{same_Some, none-some}
use Rattle.std.specs.List.{AllByRecursion}
use Rattle.session_values.specs.declared.value.Value.{Value}
use Rattle.session_values.specs.declared.value.Value.TheVariants.{Nil}
use Rattle.symbolic_ops.specs.declared.arg.Arg.{Arg}
use Rattle.symbolic_ops.specs.declared.arg.Arg.TheVariants.{Known, Var, Any}
use Rattle.symbolic_ops.specs.declared.symbol.Symbol.{Symbol}
use Rattle.symbolic_ops.specs.Foresight.{ForesightView}
use Rattle.symbolic_ops.specs.Instantiate.{ArgWithin, IsWithin, arg_in, symbol_in}
use Rattle.symbolic_ops.specs.Matching.{Covered, IsNoVar}
use Rattle.session_journal.specs.declared.site.Site.{Site}
use Rattle.session_journal.specs.Script.{HasSite, Meaning, declared_with}
use Rattle.admission_book.specs.declared.caller_record.CallerRecord.{CallerRecord}
use Rattle.admission_book.specs.CallerRecord.{IsRecord, after_flight_at, with_site}
use Rattle.admission_book.specs.Foresights.{IsKnown, KeepsForesight, MarkedView, at_site, symbols_at, symbols_of, with_values}
use Rattle.admission_book.specs.Touched.{IsTouched}
use Rattle.admission_book.specs.declared.touched_tables.TouchedTables.{TouchedTables}
use Rattle.admission_book.proofs.Touches.{covered_touched}

-- ---- values behind those of a symbol's variables say nothing of it
more_arg : (a : Arg) (n k : ℕ) → n ≤ k → ArgWithin n a → ArgWithin k a
more_arg (Known v) n k l h = tt
more_arg (Var x) n k l h = omega (arith, l, h)
more_arg Any n k l h = tt

more_within : (list : List Symbol) (n k : ℕ) → n ≤ k → AllByRecursion (λ s. IsWithin n s) list → AllByRecursion (λ s. IsWithin k s) list
more_within [] n k l h = tt
more_within (s ∷ list) n k l h = ((more_arg s.key n k l h.0.0, more_arg s.value n k l h.0.1), more_within list n k l h.1)

front_value : (vs back : List Value) (x : ℕ) → x < length vs → get_or (vs ++ back) x Nil ≡ get_or vs x Nil
front_value [] back x l = absurd (omega (arith, l))
front_value (v ∷ vs) back zero l = refl
front_value (v ∷ vs) back (suc x) l = front_value vs back x (omega (arith, l))

front_arg : (vs back : List Value) (a : Arg) → ArgWithin (length vs) a → arg_in (vs ++ back) a ≡ arg_in vs a
front_arg vs back (Known v) h = refl
front_arg vs back (Var x) h = ap Known (front_value vs back x h)
front_arg vs back Any h = refl

front_symbols : (vs back : List Value) (list : List Symbol) → AllByRecursion (λ s. IsWithin (length vs) s) list → map (symbol_in (vs ++ back)) list ≡ map (symbol_in vs) list
front_symbols vs back [] h = refl
front_symbols vs back (s ∷ list) h = λ i. record { kind = s.kind; table = s.table; key = front_arg vs back s.key h.0.0 i; value = front_arg vs back s.value h.0.1 i } ∷ front_symbols vs back list h.1 i

-- ---- the tables of a symbol are those that it touches, whatever its variables hold
pub values_touched : (t : TouchedTables) (vs : List Value) (list : List Symbol) → AllByRecursion (λ s. IsTouched t s) list → AllByRecursion (λ s. IsTouched t s) (map (symbol_in vs) list)
values_touched t vs [] h = tt
values_touched t vs (s ∷ list) h = (h.0, values_touched t vs list h.1)

-- ---- what is told by site
pub at_site_known : (m : Meaning) (f : MarkedView) (s : Site) (vs : List Value) → HasSite m s (length vs) → KeepsForesight m f → Covered (declared_with m s vs) (symbols_of m f) → IsKnown m (at_site f s vs) (declared_with m s vs)
at_site_known m f s vs has kept covered =
    let is : declared_with m s (with_values f.values vs) ≡ declared_with m s vs = front_symbols vs (drop (length vs) f.values) (m.declared s.part s.point) has.within in
    let P : List Symbol → Type 0 = λ l. AllByRecursion (λ y. IsTouched f.touched y) l in
    record {
      is = is;
      kept = record {
        room = kept.room;
        site = λ z e. subst (λ (y : Site). HasSite m y 32) (same_Some s z e) (record { there = has.there; few = omega arith; within = more_within (m.declared s.part s.point) (length vs) 32 has.few has.within });
        touched = subst P (sym is) (covered_touched f.touched (declared_with m s vs) (symbols_of m f) covered kept.touched);
      };
    }

module _ (m : Meaning) (old new : CallerRecord) (s : Site) (vs : List Value) (has : HasSite m s (length vs)) (kept : KeepsForesight m old.foresight) (covered : Covered (declared_with m s vs) (symbols_of m old.foresight)) where
  pub with_site_record : new ≡ with_site old s vs → IsRecord m new old.ticket (declared_with m s vs) old.flight old.delayed
  with_site_record e =
      let P : CallerRecord → Type 0 = λ r. IsRecord m r old.ticket (declared_with m s vs) old.flight old.delayed in
      subst P (sym e) (record { ticket = refl; foresight = at_site_known m old.foresight s vs has kept covered; flight = refl; delayed = refl })

  pub after_flight_record : new ≡ after_flight_at old s vs → IsRecord m new old.ticket (declared_with m s vs) None false
  after_flight_record e =
      let P : CallerRecord → Type 0 = λ r. IsRecord m r old.ticket (declared_with m s vs) None false in
      subst P (sym e) (record { ticket = refl; foresight = at_site_known m old.foresight s vs has kept covered; flight = refl; delayed = refl })

-- ---- what is taken in place of what was there
pub taken_known : (m : Meaning) (f : MarkedView) (symbols : List Symbol) (room : ℕ) → f.site ≡ None → f.list ≡ record { symbols = symbols; room = room } → 256 ≤ room → AllByRecursion (λ s. IsTouched f.touched s) symbols → IsKnown m f symbols
taken_known m f symbols room none is roomy touched =
    let symbols_are : symbols_of m f ≡ symbols = λ i. symbols_at m (none i) f.values (is i).symbols in
    let P : List Symbol → Type 0 = λ l. AllByRecursion (λ s. IsTouched f.touched s) l in
    record {
      is = symbols_are;
      kept = record {
        room = omega (arith, roomy, ap (λ (l : ForesightView). l.room) is);
        site = λ s e. absurd (none-some s (sym none ∙ e));
        touched = subst P (sym symbols_are) touched;
      };
    }

pub sited_known : (m : Meaning) (f : MarkedView) (s : Site) (symbols list : List Symbol) → f.site ≡ Some s → HasSite m s 32 → 256 ≤ f.list.room → declared_with m s f.values ≡ symbols → list ≡ m.declared s.part s.point → AllByRecursion (λ y. IsTouched f.touched y) list → IsKnown m f symbols
sited_known m f s symbols list at has roomy told is touched =
    let symbols_are : symbols_of m f ≡ declared_with m s f.values = ap (λ (o : Option Site). symbols_at m o f.values f.list.symbols) at in
    let P : List Symbol → Type 0 = λ l. AllByRecursion (λ y. IsTouched f.touched y) l in
    record {
      is = symbols_are ∙ told;
      kept = record {
        room = roomy;
        site = λ z e. subst (λ (y : Site). HasSite m y 32) (same_Some s z (sym at ∙ e)) has;
        touched = subst P (sym symbols_are) (values_touched f.touched f.values (m.declared s.part s.point) (subst P is touched));
      };
    }

-- ---- a symbol whose variables have values has none
pub known_arg : (vs : List Value) (a : Arg) → IsNoVar (arg_in vs a)
known_arg vs (Known v) = tt
known_arg vs (Var x) = tt
known_arg vs Any = tt

pub same_arg : (vs : List Value) (a b : Arg) (v : Value) → b ≡ arg_in vs a → a ≡ Known v → b ≡ Known v
same_arg vs a b v is e = is ∙ ap (arg_in vs) e
