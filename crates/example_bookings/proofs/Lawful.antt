-- A list of bookings is a script.
use Rattle.std.proofs.Common.{◌≡◌, ℕ, zero, suc, ◌*◌, ◌<◌, ◌≤◌, List, Some, slice_get, [], ◌∷◌, length, eqb, ◌&&◌, cond, Bool, true, false, sym, ap, arith}
use Rattle.session_values.specs.declared.op.Op.{Op}
use Rattle.session_values.specs.Dialogue.{Entry, Follows}
use Rattle.session_values.specs.Kinds.{is_adding}
use Rattle.session_values.specs.Sums.{sum_below}
use Rattle.session_values.specs.Tables.{start}
use Rattle.session_values.proofs.EntriesFacts.{same_call, no_call}
use Rattle.session_journal.specs.Opening.{IsOpening, Pair, entries_of, tables_of}
use Rattle.session_journal.proofs.Openings.{no_opening, start_is}
use Rattle.session_journal.proofs.ListLawful.{none_there, nothing_there}
use Rattle.session_journal.specs.Script.{IsScript, adds_on}
use Rattle.example_bookings.specs.declared.booking.Booking.{Booking}
use Rattle.example_bookings.specs.Bookings.{answer, booking_at, booking_tables, bookings_meaning, bookings_opened, dialogue, look_up}
use Rattle.example_bookings.proofs.Dialogues.{ends, fits, foresight, values}

one_if_adding : Op → ℕ → ℕ
one_if_adding op i = cond {A = ℕ} (is_adding op.kind && eqb op.table i) 1 0

one_at_most : (c : Bool) → cond {A = ℕ} c 1 0 ≤ 1
one_at_most true = omega arith
one_at_most false = omega arith

-- a booking adds at most one key to a table, since its first call reads
adds : (b : Booking) (i : ℕ) (es : List Entry) → Follows (dialogue b) es → adds_on i es ≤ 1
adds b i [] w = omega arith
adds b i (e ∷ []) w = omega (arith, one_at_most (is_adding e.op.kind && eqb e.op.table i))
adds b i (e ∷ f ∷ []) w =
    let none : cond {A = ℕ} (is_adding e.op.kind && eqb e.op.table i) 1 0 ≡ 0 = ap (λ (o : Op). cond {A = ℕ} (is_adding o.kind && eqb o.table i) 1 0) (sym (same_call (look_up b) e.op w.0)) in
    omega (arith, none, one_at_most (is_adding f.op.kind && eqb f.op.table i))
adds b i (e ∷ f ∷ g ∷ es) w = no_call (answer b e.reply) g.op w.1.1.0

pub sum_same : (n k : ℕ) → sum_below n (λ t. k) ≡ n * k
sum_same zero k = grind arith
sum_same (suc n) k = let h : sum_below n (λ t. k) ≡ n * k = sum_same n k in grind (arith, h)

-- ---- the tables open empty
opening_same : start booking_tables ≡ tables_of booking_tables bookings_opened
unfolding bookings_opened
opening_same = start_is booking_tables

may_open : IsOpening booking_tables bookings_opened
unfolding bookings_opened
may_open = no_opening booking_tables

pub none_open : (i : ℕ) → 0 ≡ length (entries_of bookings_opened i)
unfolding bookings_opened
none_open i = none_there booking_tables i

pub nothing_open : (i k : ℕ) (e : Pair) → k < length (entries_of bookings_opened i) → slice_get (entries_of bookings_opened i) k ≡ Some e
unfolding bookings_opened
nothing_open i k e l = nothing_there booking_tables i k e l

pub lawful : (bs : List Booking) → length bs ≤ 20000 → IsScript (bookings_meaning bs)
lawful bs few = record {
  opening = opening_same;
  opened = may_open;
  fits = λ t rs op e. fits (booking_at bs t) rs op e;
  values = λ t rs h. values (booking_at bs t) rs h;
  ends = λ t. record { answers = ends (booking_at bs t) };
  adds = λ t i es w. adds (booking_at bs t) i es w;
  entry = λ t. foresight (booking_at bs t) [];
  told = λ t rs h. foresight (booking_at bs t) rs;
  due = λ t rs h. foresight (booking_at bs t) rs;
  few_requests = few;
  few_calls = omega (arith, sum_same (length bs) 2, few);
  few_adds = λ i. omega (arith, sum_same (length bs) 1, few);
}
