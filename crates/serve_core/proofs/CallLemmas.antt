-- A closed hall's journal has as many operations as the serial run makes.
use Rattle.std.proofs.Common.{◌≡◌, ◌≢◌, ℕ, zero, suc, ◌+◌, ◌<◌, ◌≤◌, Bool, true, false, cond, List, [], ◌∷◌, ◌++◌, length, Some, None, refl, sym, ap, ◌∙◌, subst, arith, append-nil, length-append}
use Rattle.std.specs.Prelude.{◌==◌}
use Rattle.std.specs.List.{AllByRecursion}
use Rattle.std.proofs.lemmas.Bool.Decides.{nat_tests}
use Rattle.session_values.specs.declared.op.Op.{Op}
use Rattle.session_values.specs.declared.reply.Reply.{Reply}
use Rattle.session_values.specs.Dialogue.{Next, Calls, Answers, Dialogue, Entry, rest, replies, Follows}
use Rattle.session_values.specs.Serial.{Session, Served, serve, serial, tables_before}
use Rattle.session_values.specs.Tables.{Tables, reply, step}
use Rattle.session_journal.specs.declared.event.Event.{Event}
use Rattle.session_journal.specs.Foreknown.{Foreknown}
use Rattle.session_journal.specs.Journal.{DoneOperation, entry_of, done_operations, of_ticket, by_ticket, entries, ended, begun}
use Rattle.session_journal.specs.Script.{Meaning, session_of}
use Rattle.session_journal.proofs.Serial.{serve-calls, serve-answers}
use Rattle.session_journal.proofs.Events.{only_begun}
use Rattle.session_hall.specs.Closings.{ClosedView, IsDone}
use Rattle.serve_faults.specs.Session.{serial_calls}
use Rattle.hall_rule.proofs.Foreknown.{no_more}

-- ---- the entries of a serving are what its dialogue calls
serve_stops : (f : Dialogue) (ts : Tables) (op : Op) → f [] ≡ Calls op → serve zero f ts ≡ record { entries = []; answer = None; after = ts }
serve_stops f ts op e = ap (λ (x : Next). elim x as (λ _. Served) [ Calls o ↦ record { entries = []; answer = None; after = ts } | Answers s ↦ record { entries = []; answer = Some s; after = ts } ]) e

serve_follows : (n : ℕ) (f : Dialogue) (ts : Tables) → Follows f (serve n f ts).entries
serve_follows zero f ts = elim (f []) as (λ x. f [] ≡ x → Follows f (serve zero f ts).entries) [
  | Calls op ↦ λ e. subst (λ (s : Served). Follows f s.entries) (sym (serve_stops f ts op e)) tt
  | Answers r ↦ λ e. subst (λ (s : Served). Follows f s.entries) (sym (serve-answers zero f ts r e)) tt
] refl
serve_follows (suc n) f ts = elim (f []) as (λ x. f [] ≡ x → Follows f (serve (suc n) f ts).entries) [
  | Calls op ↦ λ e. subst (λ (s : Served). Follows f s.entries) (sym (serve-calls n f ts op e)) (e, serve_follows n (rest f (reply ts op ∷ [])) (step ts op))
  | Answers r ↦ λ e. subst (λ (s : Served). Follows f s.entries) (sym (serve-answers (suc n) f ts r e)) tt
] refl

follows_past : (f : Dialogue) (es back : List Entry) → Follows f (es ++ back) → Follows (rest f (replies es)) back
follows_past f [] back h = h
follows_past f (e ∷ es) back h = follows_past (rest f (e.reply ∷ [])) es back h.1

-- nothing follows entries after which the dialogue answers
nothing_behind : (f : Dialogue) (es back all : List Entry) (r : Reply) → es ++ back ≡ all → Follows f all → f (replies es) ≡ Answers r → length es ≡ length all
nothing_behind f es back all r is h a =
    let past : Follows (rest f (replies es)) back = follows_past f es back (subst (Follows f) (sym is) h) in
    let none : back ≡ [] = no_more (rest f (replies es)) r back (ap f (append-nil (replies es)) ∙ a) past in
    let whole : length es + length back ≡ length all = sym (length-append es back) ∙ ap (λ (xs : List Entry). length xs) is in
    let short : length back ≡ 0 = ap (λ (xs : List Entry). length xs) none in
    omega (arith, whole, short)

-- ---- the operations of all tickets
of_own : (n : ℕ) (d : DoneOperation) (ds : List DoneOperation) → d.ticket ≡ n → length (of_ticket n (d ∷ ds)) ≡ suc (length (of_ticket n ds))
of_own n d ds e = pick (d.ticket == n) (grind (arith, nat_tests))
  where
    pick : (b : Bool) → b ≡ true → length (cond b (entry_of d ∷ of_ticket n ds) (of_ticket n ds)) ≡ suc (length (of_ticket n ds))
    pick true t = refl
    pick false t = absurd (cc)

of_other : (n : ℕ) (d : DoneOperation) (ds : List DoneOperation) → d.ticket ≢ n → length (of_ticket n (d ∷ ds)) ≡ length (of_ticket n ds)
of_other n d ds e = pick (d.ticket == n) (grind (arith, nat_tests))
  where
    pick : (b : Bool) → b ≡ false → length (cond b (entry_of d ∷ of_ticket n ds) (of_ticket n ds)) ≡ length (of_ticket n ds)
    pick true t = absurd (cc)
    pick false t = refl

not_below : (n : ℕ) (d : DoneOperation) (ds : List DoneOperation) → n ≤ d.ticket → length (by_ticket n (d ∷ ds)) ≡ length (by_ticket n ds)
not_below zero d ds h = refl
not_below (suc n) d ds h =
    let rest_is = not_below n d ds (omega arith) in
    let one = of_other n d ds (λ e. omega arith) in
    omega (arith, rest_is, one, length-append (by_ticket n (d ∷ ds)) (of_ticket n (d ∷ ds)), length-append (by_ticket n ds) (of_ticket n ds))

below : (n : ℕ) (d : DoneOperation) (ds : List DoneOperation) → d.ticket < n → length (by_ticket n (d ∷ ds)) ≡ suc (length (by_ticket n ds))
below zero d ds h = absurd (omega arith)
below (suc n) d ds h = by (d.ticket == n) refl (below n d ds)
  where
    whole : length (by_ticket (suc n) (d ∷ ds)) ≡ length (by_ticket n (d ∷ ds)) + length (of_ticket n (d ∷ ds))
    whole = length-append (by_ticket n (d ∷ ds)) (of_ticket n (d ∷ ds))

    parts : length (by_ticket (suc n) ds) ≡ length (by_ticket n ds) + length (of_ticket n ds)
    parts = length-append (by_ticket n ds) (of_ticket n ds)

    by : (b : Bool) → (d.ticket == n) ≡ b → (d.ticket < n → length (by_ticket n (d ∷ ds)) ≡ suc (length (by_ticket n ds))) → length (by_ticket (suc n) (d ∷ ds)) ≡ suc (length (by_ticket (suc n) ds))
    by true e rest =
        let same : d.ticket ≡ n = grind (arith, nat_tests) in
        let own = of_own n d ds same in
        let others = not_below n d ds (omega arith) in
        omega (arith, own, others, whole, parts)
    by false e rest =
        let other : d.ticket ≢ n = λ q. grind (arith, nat_tests) in
        let none = of_other n d ds other in
        let more = rest (omega (arith, h, other)) in
        omega (arith, none, more, whole, parts)

by_ticket_long : (n : ℕ) (ds : List DoneOperation) → AllByRecursion (λ (d : DoneOperation). d.ticket < n) ds → length (by_ticket n ds) ≡ length ds
by_ticket_long n [] h = nothing n
  where
    nothing : (k : ℕ) → length (by_ticket k []) ≡ 0
    nothing zero = refl
    nothing (suc k) = omega (arith, nothing k, length-append (by_ticket k []) [])
by_ticket_long n (d ∷ ds) h = omega (arith, below n d ds h.0, by_ticket_long n ds h.1)

serial_long : (s : Session) (ds : List DoneOperation) (n : ℕ) → ((t : ℕ) → t < n → length (of_ticket t ds) ≡ length (serial s t).entries) → length (by_ticket n ds) ≡ serial_calls s n
unfolding serial_calls
serial_long s ds zero h = refl
serial_long s ds (suc n) h =
    let before = serial_long s ds n (λ t lt. h t (omega arith)) in
    let one = h n (omega arith) in
    omega (arith, before, one, length-append (by_ticket n ds) (of_ticket n ds))

-- ---- closed halls
module _ (m : Meaning) (d : ClosedView) (done : IsDone m d) where
  entries_long : (t : ℕ) → t < m.requests → length (entries d.journal t) ≡ length (serial (session_of m) t).entries
  entries_long t lt =
      let end = done.all_ended t lt in
      let ended_here : ended done.book.journal t ≡ Some end.0 = ap (λ (J : List Event). ended J t) (sym done.journal_is) ∙ end.1 in
      let is_begun : t < begun done.book.journal = subst (λ (n : ℕ). t < n) (sym done.all_begun ∙ ap begun done.journal_is) lt in
      let known : Foreknown m done.book.journal t = done.told.foreknown t is_begun in
      let here : length (entries done.book.journal t) ≡ length (serial (session_of m) t).entries =
      nothing_behind (m.next t) (entries done.book.journal t) known.entries.back (serial (session_of m) t).entries end.0 known.entries.is (serve_follows (m.length t) (m.next t) (tables_before (session_of m) t)) (done.lawful.answered t end.0 ended_here) in
      ap (λ (J : List Event). length (entries J t)) done.journal_is ∙ here

  all_below : AllByRecursion (λ (x : DoneOperation). x.ticket < m.requests) (done_operations d.journal)
  all_below =
      let here : AllByRecursion (λ (x : DoneOperation). x.ticket < begun done.book.journal) (done_operations done.book.journal) = (only_begun m (length done.book.records) done.book.journal done.lawful.turns).done_operations in
      let there : AllByRecursion (λ (x : DoneOperation). x.ticket < begun d.journal) (done_operations d.journal) = subst (λ (J : List Event). AllByRecursion (λ (x : DoneOperation). x.ticket < begun J) (done_operations J)) (sym done.journal_is) here in
      subst (λ (n : ℕ). AllByRecursion (λ (x : DoneOperation). x.ticket < n) (done_operations d.journal)) done.all_begun there

  pub calls_done : length (done_operations d.journal) ≡ serial_calls (session_of m) m.requests
  calls_done = sym (by_ticket_long m.requests (done_operations d.journal) all_below) ∙ serial_long (session_of m) (done_operations d.journal) m.requests entries_long
