-- A text of lines without a fault writes a text.
use Rattle.std.proofs.Common.{◌≡◌, ℕ, ℤ, zero, suc, pos, negsuc, ◌+◌, ◌≤◌, ◌⊎◌, inl, inr, Bool, true, false, cond, List, [], ◌∷◌, ◌++◌, length, set, Option, Some, None, Result, Ok, Err, refl, sym, ap, ◌∙◌, subst, arith}
use Rattle.std.specs.List.{AllByRecursion}
use Rattle.std.specs.Option.{option_or}
use Rattle.session_values.specs.Limits.{max_input}
use Rattle.range_tables.specs.declared.range_op.RangeOp.{RangeOp}
use Rattle.range_tables.specs.declared.range_symbol.RangeSymbol.{RangeSymbol}
use Rattle.range_tables.specs.Ranges.{IsHeldRange, range_reply, range_step}
use Rattle.range_tables.specs.Relation.{range_commutes_symbol}
use Rattle.range_tables.specs.Symbols.{RangeCommutesWith}
use Rattle.range_tables.proofs.Reduced.{Decides-range_commute_symbol}
use Rattle.text_lines.specs.Text.{Text, lines, words}
use Rattle.text_lines.specs.Values.{placed, placed_all}
use Rattle.text_lines.specs.Rows.{Row, names_behind, rows}
use Rattle.text_lines.proofs.RowLemmas.{behind_nil, behind_step, rows_more, rows_nil, rows_skip}
use Rattle.text_lines.proofs.TextLemmas.{total, total_le}
use Rattle.text_lines.proofs.ValueLemmas.{placed_all_nil, placed_all_step, placed_length}
use Rattle.range_tables.specs.declared.refusal.RangeRefusal.{RangeRefusal}
use Rattle.range_tables.specs.declared.refusal.RangeRefusal.TheVariants as refusal
use Rattle.range_tables.specs.declared.step.Flaw.{Flaw}
use Rattle.range_tables.specs.declared.step.Step.{Step}
use Rattle.range_tables.specs.declared.step.Step.TheVariants.{Hold, Free, Do}
use Rattle.range_tables.specs.declared.word.Word.{Word}
use Rattle.range_tables.specs.Faults.{Holds, closed, fault_of, first_fault, holds_after, is_too_many, names_of, rows_of, step_fault, text_fault, words_in}
use Rattle.range_tables.specs.Session.{Delays, Desk, Does, IsDelayed, IsFirstAgainst, IsRangesText, Passes, Tells, delay_text, first_desk, reply_text}
use Rattle.range_tables.specs.Steps.{step_of}
use Rattle.range_tables.proofs.Going.{fault_step}
use Rattle.range_tables.proofs.HeldSteps.{IsGood, IsGoodStep, step_good, words_held}
use Rattle.session_values.proofs.Lists.{all_join}

-- ---- holds

abbrev IsGoodHold : Option (List RangeSymbol) → Type 0
IsGoodHold None = Unit {0}
IsGoodHold (Some symbols) = AllByRecursion IsGood symbols

abbrev AreGood : Holds → Type 0
AreGood holds = AllByRecursion IsGoodHold holds

set_good : (holds : Holds) (n : ℕ) → AreGood holds → AreGood (set holds n None)
set_good [] n h = tt
set_good (x ∷ xs) zero h = (tt, h.1)
set_good (x ∷ xs) (suc n) h = (h.0, set_good xs n h.1)

closed_good : (holds : Holds) (n : ℤ) → AreGood holds → AreGood (closed holds n)
closed_good holds (pos n) h = set_good holds n h
closed_good holds (negsuc n) h = h

-- ---- what delays an operation, if anything does

module _ (op : RangeOp) (held : IsHeldRange op) where
  against : (symbols : List RangeSymbol) → AllByRecursion IsGood symbols → AllByRecursion (RangeCommutesWith op) symbols ⊎ ((i : ℕ) × IsFirstAgainst op symbols i)
  against [] g = inl tt
  against (s ∷ symbols) g = go (range_commutes_symbol op s) refl (against symbols g.1)
    where
      decides : (b : Bool) → b ≡ range_commutes_symbol op s → ((b ≡ true → RangeCommutesWith op s) × (RangeCommutesWith op s → b ≡ true))
      decides b e = let d = Decides-range_commute_symbol op s b g.0.is held g.0.held e in (λ t. d.0 t, λ c. d.1 c)

      go : (b : Bool) → b ≡ range_commutes_symbol op s → AllByRecursion (RangeCommutesWith op) symbols ⊎ ((i : ℕ) × IsFirstAgainst op symbols i) → AllByRecursion (RangeCommutesWith op) (s ∷ symbols) ⊎ ((i : ℕ) × IsFirstAgainst op (s ∷ symbols) i)
      go true e (inl all) = inl ((decides true e).0 refl, all)
      go true e (inr first) = inr (suc first.0, ((decides true e).0 refl, first.1))
      go false e more = inr (zero, λ c. let f : false ≡ true = (decides false e).1 c in cc)

  against_hold : (hold : Option (List RangeSymbol)) → IsGoodHold hold → Passes op hold ⊎ ((i : ℕ) × Delays op hold i)
  against_hold None g = inl tt
  against_hold (Some symbols) g = against symbols g

  delayed : (holds : Holds) → AreGood holds → AllByRecursion (Passes op) holds ⊎ ((h : ℕ) × (i : ℕ) × IsDelayed op holds h i)
  delayed [] g = inl tt
  delayed (hold ∷ holds) g = go (against_hold hold g.0) (delayed holds g.1)
    where
      go : Passes op hold ⊎ ((i : ℕ) × Delays op hold i) → AllByRecursion (Passes op) holds ⊎ ((h : ℕ) × (i : ℕ) × IsDelayed op holds h i) → AllByRecursion (Passes op) (hold ∷ holds) ⊎ ((h : ℕ) × (i : ℕ) × IsDelayed op (hold ∷ holds) h i)
      go (inl free) (inl all) = inl (free, all)
      go (inl free) (inr found) = inr (suc found.0, found.1, (free, found.2))
      go (inr found) more = inr (zero, found.0, found.1)

-- ---- steps

record Taken (names : List Text) (d : Desk) (step : Result Step Flaw) : Type 0 where
  line : Text
  next : Desk
  does : Does names d step line next
  good : AreGood next.holds

taken : (names : List Text) (d : Desk) (line : ℕ) (step : Result Step Flaw) → IsGoodStep step → AreGood d.holds → step_fault line d.holds step ≡ None → Taken names d step
taken names d line (Err f) s g e = absurd (cc)
taken names d line (Ok (Hold symbols)) s g e = record {
  line = [];
  next = record { tables = d.tables; holds = d.holds ++ Some symbols ∷ []; asked = d.asked };
  does = record { writes = (refl, refl, refl); holds = refl };
  good = all_join IsGoodHold d.holds (Some symbols ∷ []) g (s, tt);
}
taken names d line (Ok (Free n)) s g e = record {
  line = [];
  next = record { tables = d.tables; holds = closed d.holds n; asked = d.asked };
  does = record { writes = (refl, refl, refl); holds = refl };
  good = closed_good d.holds n g;
}
taken names d line (Ok (Do op)) s g e = go (delayed op s d.holds g)
  where
    go : AllByRecursion (Passes op) d.holds ⊎ ((h : ℕ) × (i : ℕ) × IsDelayed op d.holds h i) → Taken names d (Ok (Do op))
    go (inl free) = record {
      line = reply_text names d.asked (range_reply d.tables op);
      next = record { tables = range_step d.tables op; holds = d.holds; asked = d.asked + 1 };
      does = record { writes = (inl (record { free = free; line_is = refl; tables_are = refl }), refl); holds = refl };
      good = g;
    }
    go (inr found) = record {
      line = delay_text d.asked found.0 found.1;
      next = record { tables = d.tables; holds = d.holds; asked = d.asked + 1 };
      does = record { writes = (inr (record { hold = found.0; symbol = found.1; delayed = found.2; line_is = refl; tables_are = refl }), refl); holds = refl };
      good = g;
    }

fine_step : (line seen : ℕ) (holds : Holds) (name : Text) (ws : List Word) → fault_of line seen holds name ws ≡ None → step_fault line holds (step_of name ws) ≡ None
unfolding fault_of
fine_step line seen holds name ws e = go (is_too_many seen holds name ws) e
  where
    go : (b : Bool) → cond b (Some (refusal.TooMany line)) (step_fault line holds (step_of name ws)) ≡ None → step_fault line holds (step_of name ws) ≡ None
    go true f = absurd (cc)
    go false f = f

first_none : (a b : Option RangeRefusal) → option_or a b ≡ None → a ≡ None
first_none None b e = refl
first_none (Some x) b e = absurd (cc)

second_none : (a b : Option RangeRefusal) → option_or a b ≡ None → b ≡ None
second_none None b e = e
second_none (Some x) b e = absurd (cc)

module _ (names : List Text) (few : length names ≤ 4294967295) where
  told : (rs : List Row) (seen : ℕ) (d : Desk) → AreGood d.holds → first_fault names seen d.holds rs ≡ None → (text : Text) × Tells names d rs text
  told [] seen d g e = ([], refl)
  told (r ∷ rs) seen d g e =
      let ws = words_in names r in
      let step = step_of r.name ws in
      let whole : option_or (fault_of r.line seen d.holds r.name ws) (first_fault names (seen + 1) (holds_after d.holds step) rs) ≡ None = sym (fault_step names seen d.holds r rs) ∙ e in
      let t = taken names d r.line step (step_good r.name ws (words_held names few r.args)) g (fine_step r.line seen d.holds r.name ws (first_none _ _ whole)) in
      let does = t.does in
      let more = told rs (seen + 1) t.next t.good (subst (λ (hs : Holds). first_fault names (seen + 1) hs rs ≡ None) (sym does.holds) (second_none _ _ whole)) in
      (t.line ++ more.0, (t.line, more.0, t.next, t.does, more.1, refl))

-- ---- how many names there are

abbrev words_of_rows : List Row → ℕ
words_of_rows [] = 0
words_of_rows (r ∷ rs) = length r.args + words_of_rows rs

placed_few : (ws : List Text) (names : List Text) → length (placed_all names ws) ≤ length names + length ws
placed_few [] names = (let e = ap length (placed_all_nil names) in omega (arith, e))
placed_few (w ∷ ws) names = (let e = ap length (placed_all_step names w ws) in let one = placed_length names w in let more = placed_few ws (placed names w) in omega (arith, e, one, more))

behind_few : (rs : List Row) (names : List Text) → length (names_behind names rs) ≤ length names + words_of_rows rs
behind_few [] names = (let e = ap length (behind_nil names) in omega (arith, e))
behind_few (r ∷ rs) names = (let e = ap length (behind_step names r rs) in let here = placed_few r.args names in let more = behind_few rs (placed_all names r.args) in omega (arith, e, here, more))

rows_few : (ls : List Text) (n : ℕ) → words_of_rows (rows n ls) ≤ total ls
rows_few [] n = (let e = ap words_of_rows (rows_nil n) in omega (arith, e))
rows_few (l ∷ ls) n = go (words l) refl (rows_few ls (n + 1))
  where
    go : (ws : List Text) → words l ≡ ws → words_of_rows (rows (n + 1) ls) ≤ total ls → words_of_rows (rows n (l ∷ ls)) ≤ total (l ∷ ls)
    go [] e more = (let is = ap words_of_rows (rows_skip n l ls e) in omega (arith, is, more))
    go (w ∷ ws) e more = (let is = ap words_of_rows (rows_more n l ls w ws e) in let long : length (words l) ≡ suc (length ws) = ap length e in omega (arith, is, long, more))

pub some_text : (input : Text) → length input ≤ max_input → text_fault input ≡ None → (text : Text) × IsRangesText input text
some_text input short e =
    let names = names_of input in
    let l : length input ≤ 4194304 = short in
    let few : length names ≤ 4294967295 = omega (arith, behind_few (rows_of input) [], rows_few (lines input) 1, total_le input, l) in
    let t = told names few (rows_of input) 0 first_desk tt e in
    (t.0, record { fine = e; tells = t.1 })
