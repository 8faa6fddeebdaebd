-- A text of lines writes one text at most.
use Rattle.std.proofs.Common.{◌≡◌, ℕ, zero, suc, List, [], ◌∷◌, ◌++◌, Option, Some, None, Result, Ok, Err, ◌⊎◌, inl, inr, refl, sym, ap, ◌∙◌, subst}
use Rattle.std.proofs.lemmas.Option.{none-some}
use Rattle.std.specs.List.{AllByRecursion}
use Rattle.session_values.specs.Tables.{Tables}
use Rattle.range_tables.specs.declared.range_op.RangeOp.{RangeOp}
use Rattle.range_tables.specs.declared.range_symbol.RangeSymbol.{RangeSymbol}
use Rattle.range_tables.specs.Symbols.{RangeCommutesWith}
use Rattle.text_lines.specs.Text.{Text}
use Rattle.text_lines.specs.Rows.{Row}
use Rattle.range_tables.specs.declared.refusal.RangeRefusal.{RangeRefusal}
use Rattle.range_tables.specs.declared.step.Flaw.{Flaw}
use Rattle.range_tables.specs.declared.step.Step.{Step}
use Rattle.range_tables.specs.declared.step.Step.TheVariants.{Hold, Free, Do}
use Rattle.range_tables.specs.Faults.{Holds, names_of, rows_of, text_fault, words_in}
use Rattle.range_tables.specs.Session.{Delays, Desk, IsDelayed, IsDone, IsFirstAgainst, IsKept, IsRangesText, Passes, Tells, WritesBy, delay_text, first_desk}
use Rattle.range_tables.specs.Steps.{step_of}

-- ---- what delays an operation
none_first : (op : RangeOp) (xs : List RangeSymbol) (i : ℕ) → AllByRecursion (RangeCommutesWith op) xs → IsFirstAgainst op xs i → ⊥
none_first op [] i a f = f
none_first op (x ∷ xs) zero a f = f a.0
none_first op (x ∷ xs) (suc i) a f = none_first op xs i a.1 f.1

none_delays : (op : RangeOp) (hold : Option (List RangeSymbol)) (i : ℕ) → Passes op hold → Delays op hold i → ⊥
none_delays op None i a d = d
none_delays op (Some xs) i a d = none_first op xs i a d

none_delayed : (op : RangeOp) (holds : Holds) (h i : ℕ) → AllByRecursion (Passes op) holds → IsDelayed op holds h i → ⊥
none_delayed op [] h i a d = d
none_delayed op (x ∷ xs) zero i a d = none_delays op x i a.0 d
none_delayed op (x ∷ xs) (suc h) i a d = none_delayed op xs h i a.1 d.1

one_first : (op : RangeOp) (xs : List RangeSymbol) (i j : ℕ) → IsFirstAgainst op xs i → IsFirstAgainst op xs j → i ≡ j
one_first op [] i j f g = absurd f
one_first op (x ∷ xs) zero zero f g = refl
one_first op (x ∷ xs) zero (suc j) f g = absurd (f g.0)
one_first op (x ∷ xs) (suc i) zero f g = absurd (g f.0)
one_first op (x ∷ xs) (suc i) (suc j) f g = ap (λ (n : ℕ). suc n) (one_first op xs i j f.1 g.1)

one_delays : (op : RangeOp) (hold : Option (List RangeSymbol)) (i j : ℕ) → Delays op hold i → Delays op hold j → i ≡ j
one_delays op None i j f g = absurd f
one_delays op (Some xs) i j f g = one_first op xs i j f g

one_hold : (op : RangeOp) (holds : Holds) (h k i j : ℕ) → IsDelayed op holds h i → IsDelayed op holds k j → h ≡ k
one_hold op [] h k i j d e = absurd d
one_hold op (x ∷ xs) zero zero i j d e = refl
one_hold op (x ∷ xs) zero (suc k) i j d e = absurd (none_delays op x i e.0 d)
one_hold op (x ∷ xs) (suc h) zero i j d e = absurd (none_delays op x j d.0 e)
one_hold op (x ∷ xs) (suc h) (suc k) i j d e = ap (λ (n : ℕ). suc n) (one_hold op xs h k i j d.1 e.1)

one_symbol : (op : RangeOp) (holds : Holds) (h i j : ℕ) → IsDelayed op holds h i → IsDelayed op holds h j → i ≡ j
one_symbol op [] h i j d e = absurd d
one_symbol op (x ∷ xs) zero i j d e = one_delays op x i j d e
one_symbol op (x ∷ xs) (suc h) i j d e = one_symbol op xs h i j d.1 e.1

-- ---- what a step writes
record Same (line more : Text) (s t : Tables) (m n : ℕ) : Type 0 where
  lines : line ≡ more
  tables : s ≡ t
  asked : m ≡ n

asked_same : (names : List Text) (d : Desk) (op : RangeOp) (line more : Text) (s t : Tables) → IsDone names d op line s ⊎ IsKept d op line s → IsDone names d op more t ⊎ IsKept d op more t → (line ≡ more) × (s ≡ t)
asked_same names d op line more s t (inl a) (inl b) = (a.line_is ∙ sym b.line_is, a.tables_are ∙ sym b.tables_are)
asked_same names d op line more s t (inl a) (inr b) = absurd (none_delayed op d.holds b.hold b.symbol a.free b.delayed)
asked_same names d op line more s t (inr a) (inl b) = absurd (none_delayed op d.holds a.hold a.symbol b.free a.delayed)
asked_same names d op line more s t (inr a) (inr b) =
    let h : a.hold ≡ b.hold = one_hold op d.holds a.hold b.hold a.symbol b.symbol a.delayed b.delayed in
    let moved : IsDelayed op d.holds b.hold a.symbol = subst (λ k. IsDelayed op d.holds k a.symbol) h a.delayed in
    let i : a.symbol ≡ b.symbol = one_symbol op d.holds b.hold a.symbol b.symbol moved b.delayed in
    (a.line_is ∙ ap (λ (k : ℕ). delay_text d.asked k a.symbol) h ∙ ap (delay_text d.asked b.hold) i ∙ sym b.line_is, a.tables_are ∙ sym b.tables_are)

same_writes : (names : List Text) (d : Desk) (step : Result Step Flaw) (line more : Text) (s t : Tables) (m n : ℕ) → WritesBy names d step line s m → WritesBy names d step more t n → Same line more s t m n
same_writes names d (Err f) line more s t m n a b = absurd a
same_writes names d (Ok (Hold symbols)) line more s t m n a b = record { lines = a.0 ∙ sym b.0; tables = a.1 ∙ sym b.1; asked = a.2 ∙ sym b.2 }
same_writes names d (Ok (Free k)) line more s t m n a b = record { lines = a.0 ∙ sym b.0; tables = a.1 ∙ sym b.1; asked = a.2 ∙ sym b.2 }
same_writes names d (Ok (Do op)) line more s t m n a b =
    let e : (line ≡ more) × (s ≡ t) = asked_same names d op line more s t a.0 b.0 in
    record { lines = e.0; tables = e.1; asked = a.1 ∙ sym b.1 }

abbrev make : Tables → Holds → ℕ → Desk
make ts hs n = record { tables = ts; holds = hs; asked = n }

same_desk : (a b : Desk) → a.tables ≡ b.tables → a.holds ≡ b.holds → a.asked ≡ b.asked → a ≡ b
same_desk a b e f g = ap (λ (ts : Tables). make ts a.holds a.asked) e ∙ ap (λ (hs : Holds). make b.tables hs a.asked) f ∙ ap (make b.tables b.holds) g

-- ---- what lines write
tells_one : (names : List Text) (rs : List Row) (d : Desk) (t u : Text) → Tells names d rs t → Tells names d rs u → t ≡ u
tells_one names [] d t u a b = a ∙ sym b
tells_one names (r ∷ rs) d t u (line, rest, next, does, told, is) (more, left, other, does_too, told_too, is_too) =
    let w : Same line more next.tables other.tables next.asked other.asked = same_writes names d (step_of r.name (words_in names r)) line more next.tables other.tables next.asked other.asked does.writes does_too.writes in
    let e : next ≡ other = same_desk next other w.tables (does.holds ∙ sym does_too.holds) w.asked in
    let moved : Tells names other rs rest = subst (λ x. Tells names x rs rest) e told in
    is ∙ ap (λ (x : Text). x ++ rest) w.lines ∙ ap (λ (x : Text). more ++ x) (tells_one names rs other rest left moved told_too) ∙ sym is_too

pub one_text : (input t u : Text) → IsRangesText input t → IsRangesText input u → t ≡ u
one_text input t u a b = tells_one (names_of input) (rows_of input) first_desk t u a.tells b.tells

pub fine_text : (input t : Text) (e : RangeRefusal) → IsRangesText input t → text_fault input ≡ Some e → ⊥
fine_text input t e a f = none-some e (sym a.fine ∙ f)
