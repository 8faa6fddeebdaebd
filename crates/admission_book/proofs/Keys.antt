-- How many keys a table has at most.
use Rattle.std.proofs.Common.{◌≡◌, ℕ, zero, suc, ◌+◌, ◌<◌, ◌≤◌, List, [], ◌∷◌, ◌++◌, length, Bool, true, false, cond, ◌&&◌, eqb, refl, sym, ◌∙◌, ap, subst, arith}
use Rattle.std.specs.List.{AllByRecursion}
use Rattle.std.proofs.lemmas.Bool.{eqb-true, eq-eqb}
use Rattle.session_values.specs.declared.op.Op.{Op}
use Rattle.session_values.specs.Kinds.{is_adding}
use Rattle.session_values.specs.Tables.{table, size_of}
use Rattle.session_values.proofs.Sizes.{one_if}
use Rattle.session_values.proofs.Sums.{sum_below_le, sum_below_zero, sum_more, sum_same}
use Rattle.session_journal.proofs.Values.{run_few}
use Rattle.session_values.specs.Dialogue.{Entry}
use Rattle.session_journal.specs.Journal.{DoneOperation, entry_of, done_operations, of_ticket, in_order, begun, after}
use Rattle.session_values.specs.Dialogue.{Calls}
use Rattle.session_values.specs.Sums.{sum_below}
use Rattle.session_journal.specs.Script.{Meaning, IsScript, adds_on, room}
use Rattle.admission_book.specs.Book.{Book}
use Rattle.session_journal.specs.EventsInTurn.{IsOpen, now}
use Rattle.admission_book.specs.Lawful.{Lawful}
use Rattle.session_values.proofs.EntriesFacts.{follows_more}
use Rattle.session_values.proofs.Numbers.{lesser}
use Rattle.session_journal.proofs.Events.{OnlyBegun, only_begun}
use Rattle.session_journal.proofs.EventCounts.{few_begun}

-- ---- by ticket
adds_by_ticket : (n i : ℕ) (ds : List DoneOperation) → AllByRecursion (λ d. d.ticket < n) ds → adds_on i (in_order ds) ≡ sum_below n (λ t. adds_on i (of_ticket t ds))
adds_by_ticket n i [] a = sym (sum_below_zero n)
adds_by_ticket n i (d ∷ ds) a =
    let x : ℕ = one_if (is_adding d.op.kind && eqb d.op.table i) in
    let each : (t : ℕ) → adds_on i (cond (eqb d.ticket t) (entry_of d ∷ of_ticket t ds) (of_ticket t ds)) ≡ cond (eqb d.ticket t) (x + adds_on i (of_ticket t ds)) (adds_on i (of_ticket t ds)) = λ t. split (eqb d.ticket t) t in
    omega (arith, adds_by_ticket n i ds a.1, sum_same n _ _ each, sum_more n d.ticket x (λ t. adds_on i (of_ticket t ds)) a.0)
  where
    split : (b : Bool) (t : ℕ) → adds_on i (cond b (entry_of d ∷ of_ticket t ds) (of_ticket t ds)) ≡ cond b (one_if (is_adding d.op.kind && eqb d.op.table i) + adds_on i (of_ticket t ds)) (adds_on i (of_ticket t ds))
    split true t = refl
    split false t = refl

sum_less : (n t : ℕ) (f g : ℕ → ℕ) → ((u : ℕ) → f u ≤ g u) → t < n → f t < g t → sum_below n f < sum_below n g
sum_less zero t f g h l s = absurd (omega arith)
sum_less (suc n) t f g h l s = by_last (eqb t n) refl (λ k. sum_less n t f g h k s)
  where
    by_last : (b : Bool) → eqb t n ≡ b → (t < n → sum_below n f < sum_below n g) → sum_below (suc n) f < sum_below (suc n) g
    by_last true e k = let P : ℕ → Type 0 = λ j. f j < g j in omega (arith, sum_below_le n f g h, subst P (eqb-true t n e) s)
    by_last false e k = omega (arith, k (lesser t n l e), h n)

adds_push : (i : ℕ) (es : List Entry) (e : Entry) → adds_on i (es ++ e ∷ []) ≡ adds_on i es + one_if (is_adding e.op.kind && eqb e.op.table i)
adds_push i [] e = omega arith
adds_push i (x ∷ es) e = omega (arith, adds_push i es e)

-- no more adding operations are done on a table than its room, and fewer while an adding call of an open ticket is still to come
pub adds_few : (m : Meaning) (b : Book) → IsScript m → Lawful m b → (i : ℕ) → adds_on i (in_order (done_operations b.journal)) ≤ room m i
adds_few m b S L i =
    let ds : List DoneOperation = done_operations b.journal in
    let n : ℕ = m.requests in
    let o : OnlyBegun b.journal = only_begun m (length b.records) b.journal L.turns in
    let all : AllByRecursion (λ d. d.ticket < n) ds = wider ds o.done_operations in
    omega (arith, adds_by_ticket n i ds all, sum_below_le n (λ t. adds_on i (of_ticket t ds)) (λ t. m.adds t i) (λ t. S.adds t i (of_ticket t ds) (L.follows t)))
  where
    wider : (ds : List DoneOperation) → AllByRecursion (λ d. d.ticket < begun b.journal) ds → AllByRecursion (λ d. d.ticket < m.requests) ds
    wider [] a = tt
    wider (d ∷ ds) a = (omega (arith, a.0, few_begun m (length b.records) b.journal L.turns), wider ds a.1)

pub adds_fewer : (m : Meaning) (b : Book) → IsScript m → Lawful m b → (t : ℕ) (op : Op) → IsOpen b.journal t → now m b.journal t ≡ Calls op → is_adding op.kind ≡ true → adds_on op.table (in_order (done_operations b.journal)) < room m op.table
adds_fewer m b S L t op opened calls adding =
    let i : ℕ = op.table in
    let ds : List DoneOperation = done_operations b.journal in
    let n : ℕ = m.requests in
    let o : OnlyBegun b.journal = only_begun m (length b.records) b.journal L.turns in
    let all : AllByRecursion (λ d. d.ticket < n) ds = wider ds o.done_operations in
    let e : Entry = record { op = op; reply = op.key } in
    let one : one_if (is_adding op.kind && eqb op.table i) ≡ 1 = ap (λ (b : Bool). one_if (b && eqb op.table i)) adding ∙ ap one_if (eq-eqb op.table op.table refl) in
    let more : adds_on i (of_ticket t ds) < m.adds t i = omega (arith, adds_push i (of_ticket t ds) e, one, S.adds t i (of_ticket t ds ++ e ∷ []) (follows_more (m.next t) (of_ticket t ds) e (L.follows t) calls)) in
    let within : t < n = omega (arith, opened.begun, few_begun m (length b.records) b.journal L.turns) in
    omega (arith, adds_by_ticket n i ds all, sum_less n t (λ u. adds_on i (of_ticket u ds)) (λ u. m.adds u i) (λ u. S.adds u i (of_ticket u ds) (L.follows u)) within more)
  where
    wider : (ds : List DoneOperation) → AllByRecursion (λ d. d.ticket < begun b.journal) ds → AllByRecursion (λ d. d.ticket < m.requests) ds
    wider [] a = tt
    wider (d ∷ ds) a = (omega (arith, a.0, few_begun m (length b.records) b.journal L.turns), wider ds a.1)

-- a table has no more keys than it opens with and its room together, and fewer while such a call is still to come
pub keys_few : (m : Meaning) (b : Book) → IsScript m → Lawful m b → (i : ℕ) → size_of (table (after m.opening b.journal) i) ≤ size_of (table m.opening i) + room m i
keys_few m b S L i = omega (arith, run_few m.opening (in_order (done_operations b.journal)) i, adds_few m b S L i)

pub keys_fewer : (m : Meaning) (b : Book) → IsScript m → Lawful m b → (t : ℕ) (op : Op) → IsOpen b.journal t → now m b.journal t ≡ Calls op → is_adding op.kind ≡ true → size_of (table (after m.opening b.journal) op.table) < size_of (table m.opening op.table) + room m op.table
keys_fewer m b S L t op opened calls adding = omega (arith, run_few m.opening (in_order (done_operations b.journal)) op.table, adds_fewer m b S L t op opened calls adding)
