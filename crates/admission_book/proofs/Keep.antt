-- The methods of a book keep it lawful.
use Rattle.std.proofs.Common.{◌≡◌, ℕ, suc, ◌<◌, ◌≤◌, ◌≢◌, List, [], ◌∷◌, ◌++◌, length, ◌⊎◌, inl, inr, Option, Some, None, Bool, true, false, cond, eqb, get_or, refl, sym, ◌∙◌, ap, subst, arith}
use Rattle.std.specs.Option.{IsSome}
use Rattle.std.proofs.Math.ListN.{set}
use Rattle.std.proofs.lemmas.List.{get_or-set_same, get_or-set_other, length-set}
use Rattle.std.proofs.lemmas.Bool.Decides.{nat_tests}
use Rattle.std.proofs.lemmas.Option.{none-some, same_Some}
use Rattle.std.proofs.lemmas.Bool.{eqb-true, eqb-false, cases_lt, cases_eq}
use Rattle.std.specs.List.{AllByRecursion}
use Rattle.session_values.specs.declared.op.Op.{Op}
use Rattle.session_values.specs.declared.value.Value.{Value}
use Rattle.session_values.specs.declared.reply.Reply.{Reply}
use Rattle.symbolic_ops.specs.declared.symbol.Symbol.{Symbol}
use Rattle.session_journal.specs.declared.event.Event.{Event}
use Rattle.session_journal.specs.declared.event.Event.TheVariants.{Begin, Done, Delay, End}
use Rattle.session_values.specs.Tables.{reply}
use Rattle.symbolic_ops.specs.Matching.{Matches, Covered}
use Rattle.symbolic_ops.proofs.Above.{covered_through}
use Rattle.symbolic_ops.specs.Commuting.{CommutesWith, CommutesWithAll}
use Rattle.session_values.specs.Dialogue.{Entry}
use Rattle.session_journal.specs.Journal.{DoneOperation, entry_of, done_operations, Replays, of_ticket, in_order, InversionsCommute, entries, begun, end_of, caller_of, ended, owner, after}
use Rattle.session_values.specs.Dialogue.{Calls, Answers, rest, replies, Follows}
use Rattle.session_journal.specs.Script.{IsForesight, Meaning}
use Rattle.admission_book.specs.Book.{Serving, Book, record_of, kept_for, Holds, IsFree, with_event, after_begin, after_narrow, after_admit, after_delay, after_done, after_end}
use Rattle.session_journal.specs.EventsInTurn.{IsForeseen, IsOpen, declared_after, now, is_delayed, ComeInTurn}
use Rattle.admission_book.specs.Lawful.{Lawful}
use Rattle.session_journal.proofs.Replay.{Replays-append}
use Rattle.session_journal.proofs.Regroup.{InversionsCommute-push}
use Rattle.session_values.proofs.EntriesFacts.{follows_more}
use Rattle.session_values.proofs.Lists.{all_push, all_weaker}
use Rattle.session_journal.proofs.Events.{done_operations-append, in_order-append, done_operations_stay, begun_stays, begun_more, first_same, owner_other, owner_new, ended_other, ended_new, entries_other, entries_more, ComeInTurn-push, OnlyBegun, only_begun}
use Rattle.admission_book.proofs.Records.{within, at_set, set_other, CommutesWithAll-narrow, CommutesWithAll-each}

-- what younger tickets have in flight, after one record is replaced
in_flight_set : (b : Book) (J : List Event) (k : List (Option Reply)) (c : ℕ) (x : Option Serving) (t : ℕ) (f : List Symbol)
    → ((d : ℕ) (z : Serving) (op : Op) → record_of b d ≡ Some z → t < z.ticket → z.flight ≡ Some op → CommutesWithAll op f)
    → ((z : Serving) (op : Op) → x ≡ Some z → t < z.ticket → z.flight ≡ Some op → CommutesWithAll op f)
    → (d : ℕ) (z : Serving) (op : Op) → record_of (record { journal = J; kept = k; records = set b.records c x }) d ≡ Some z → t < z.ticket → z.flight ≡ Some op → CommutesWithAll op f
in_flight_set b J k c x t f old new d z op at l fl =
    elim (at_set b.records c d x z at) [
      | inl h ↦ new z op h.1 l fl
      | inr h ↦ old d z op h.1 l fl
    ]

-- what holds of a record goes on to hold where its ticket's part of the journal stays
holds_on : (m : Meaning) (b b2 : Book) (c : ℕ) (s : Serving) → Holds m b c s → done_operations b2.journal ≡ done_operations b.journal → begun b.journal ≤ begun b2.journal → ended b2.journal s.ticket ≡ ended b.journal s.ticket → owner b2.journal s.ticket ≡ owner b.journal s.ticket
    → ((d : ℕ) (z : Serving) (op : Op) → record_of b2 d ≡ Some z → s.ticket < z.ticket → z.flight ≡ Some op → CommutesWithAll op s.foresight) → Holds m b2 c s
holds_on m b b2 c s h same more e o fl =
    let P : List DoneOperation → Type 0 = λ ds. IsForesight (rest (m.next s.ticket) (replies (of_ticket s.ticket ds))) s.foresight in
    let C : List DoneOperation → Type 0 = λ ds. Covered s.foresight (declared_after m s.ticket (of_ticket s.ticket ds)) in
    let Q : List DoneOperation → Type 0 = λ ds. AllByRecursion (λ d. s.ticket < d.ticket → CommutesWithAll d.op s.foresight) ds in
    record {
      is_open = record { begun = omega (arith, h.is_open.begun); not_ended = e ∙ h.is_open.not_ended };
      owner = o ∙ h.owner;
      foresight = subst P (sym same) h.foresight;
      declared = subst C (sym same) h.declared;
      flight = λ op k. ap (λ (ds : List DoneOperation). m.next s.ticket (replies (of_ticket s.ticket ds))) same ∙ h.flight op k;
      done = subst Q (sym same) h.done;
      in_flight = fl;
    }

-- what is declared after one operation more
declared_more : (m : Meaning) (t : ℕ) (es : List Entry) (e : Entry) → declared_after m t (es ++ e ∷ []) ≡ m.told t (replies (es ++ e ∷ []))
declared_more m t [] e = refl
declared_more m t (x ∷ es) e = refl

-- two records of one ticket are of one caller
pub one_caller : (m : Meaning) (b : Book) → Lawful m b → (c d : ℕ) (s z : Serving) → record_of b c ≡ Some s → record_of b d ≡ Some z → s.ticket ≡ z.ticket → c ≡ d
one_caller m b L c d s z p q e = same_Some c d (sym (L.records c s p).owner ∙ ap (owner b.journal) e ∙ (L.records d z q).owner)

-- the record of a ticket, where one record is replaced by one of its ticket
placed_set : (l : List (Option Serving)) (c : ℕ) (s x : Serving) (t : ℕ) → get_or l c None ≡ Some s → x.ticket ≡ s.ticket → (d : ℕ) × (z : Serving) × (get_or l d None ≡ Some z) × (z.ticket ≡ t) → (d : ℕ) × (z : Serving) × (get_or (set l c (Some x)) d None ≡ Some z) × (z.ticket ≡ t)
placed_set l c s x t at same (d, z, p, q) =
    elim (eqb d c) as (λ b. eqb d c ≡ b → (d : ℕ) × (z : Serving) × (get_or (set l c (Some x)) d None ≡ Some z) × (z.ticket ≡ t)) [
      | true ↦ λ e. let is : d ≡ c = eqb-true d c e in
          let P : ℕ → Type 0 = λ j. get_or l j None ≡ Some z in
          (c, x, get_or-set_same l c (Some x) None (within l c s at), same ∙ ap (λ (y : Serving). y.ticket) (same_Some s z (sym at ∙ subst P is p)) ∙ q)
      | false ↦ λ e. (d, z, set_other l c d (Some x) z (eqb-false d c e) p, q)
    ] refl

-- the record of a ticket, where the record of another caller is replaced
placed_apart : (l : List (Option Serving)) (c : ℕ) (x : Option Serving) (t : ℕ) → (p : (d : ℕ) × (z : Serving) × (get_or l d None ≡ Some z) × (z.ticket ≡ t)) → p.0 ≢ c → (d : ℕ) × (z : Serving) × (get_or (set l c x) d None ≡ Some z) × (z.ticket ≡ t)
placed_apart l c x t (d, z, p, q) apart = (d, z, set_other l c d x z apart p, q)

-- ---- narrow
pub keeps_narrow : (m : Meaning) (b : Book) (c : ℕ) (s : Serving) (f : List Symbol) → Lawful m b → record_of b c ≡ Some s → s.flight ≡ None → Covered f s.foresight → IsForesight (rest (m.next s.ticket) (replies (entries b.journal s.ticket))) f → Lawful m (after_narrow b c s f)
keeps_narrow m b c s f L at idle cov fore =
    let x : Serving = record { ticket = s.ticket; foresight = f; flight = s.flight } in
    let k : c < length b.records = within b.records c s at in
    let here : Holds m b c s = L.records c s at in
    let new_flight : (t : ℕ) (g : List Symbol) (z : Serving) (op : Op) → ◌≡◌ {A = Option Serving} (Some x) (Some z) → t < z.ticket → z.flight ≡ Some op → CommutesWithAll op g = λ t g z op e l fl. absurd (none-some op (sym idle ∙ ap (λ (y : Serving). y.flight) (same_Some x z e) ∙ fl)) in
    let b2 : Book = after_narrow b c s f in
    record {
      replays = L.replays;
      follows = L.follows;
      answered = L.answered;
      kept = L.kept;
      inversions = L.inversions;
      records = λ d z e. elim (at_set b.records c d (Some x) z e) [
        | inl h ↦ let P : ℕ → Type 0 = λ j. Holds m b2 j z in let Q : Serving → Type 0 = λ y. Holds m b2 c y in
            subst P (sym h.0) (subst Q (same_Some x z h.1) (record {
              is_open = here.is_open;
              owner = here.owner;
              foresight = fore;
              declared = covered_through f s.foresight (declared_after m s.ticket (entries b.journal s.ticket)) cov here.declared;
              flight = here.flight;
              done = all_weaker _ _ (λ d g l. CommutesWithAll-narrow d.op f s.foresight cov (g l)) (done_operations b.journal) here.done;
              in_flight = in_flight_set b b.journal b.kept c (Some x) s.ticket f (λ d z op p l fl. CommutesWithAll-narrow op f s.foresight cov (here.in_flight d z op p l fl)) (new_flight s.ticket f);
            }))
        | inr h ↦ holds_on m b b2 d z (L.records d z h.1) refl (omega arith) refl refl (in_flight_set b b.journal b.kept c (Some x) z.ticket z.foresight (L.records d z h.1).in_flight (new_flight z.ticket z.foresight))
      ];
      placed = λ t o. placed_set b.records c s x t at refl (L.placed t o);
      turns = let P : ℕ → Type 0 = λ n. ComeInTurn m n [] b.journal in subst P (sym (length-set b.records c (Some x))) L.turns;
    }

-- ---- admit
-- an operation that no older open ticket is against goes in flight
pub keeps_admit : (m : Meaning) (b : Book) (c : ℕ) (s : Serving) (op : Op) → Lawful m b → record_of b c ≡ Some s → now m b.journal s.ticket ≡ Calls op → IsFree b s.ticket op → Lawful m (after_admit b c s op)
keeps_admit m b c s op L at calls free =
    let x : Serving = record { ticket = s.ticket; foresight = s.foresight; flight = Some op } in
    let here : Holds m b c s = L.records c s at in
    let b2 : Book = after_admit b c s op in
    let new_flight : (d : ℕ) (y : Serving) → record_of b d ≡ Some y → (z : Serving) (o : Op) → ◌≡◌ {A = Option Serving} (Some x) (Some z) → y.ticket < z.ticket → z.flight ≡ Some o → CommutesWithAll o y.foresight = λ d y p z o e l fl.
    let is : x ≡ z = same_Some x z e in
    let same : op ≡ o = same_Some op o (ap (λ (w : Serving). w.flight) is ∙ fl) in
    let t : s.ticket ≡ z.ticket = ap (λ (w : Serving). w.ticket) is in
    let P : Op → Type 0 = λ a. CommutesWithAll a y.foresight in
    subst P same (CommutesWithAll-each op y.foresight (free d y p (omega arith))) in
    record {
      replays = L.replays;
      follows = L.follows;
      answered = L.answered;
      kept = L.kept;
      inversions = L.inversions;
      records = λ d z e. elim (at_set b.records c d (Some x) z e) [
        | inl h ↦ let P : ℕ → Type 0 = λ j. Holds m b2 j z in let Q : Serving → Type 0 = λ y. Holds m b2 c y in
            subst P (sym h.0) (subst Q (same_Some x z h.1) (record {
              is_open = here.is_open;
              owner = here.owner;
              foresight = here.foresight;
              declared = here.declared;
              flight = λ o k. calls ∙ ap (λ (a : Op). Calls a) (same_Some op o k);
              done = here.done;
              in_flight = in_flight_set b b.journal b.kept c (Some x) s.ticket s.foresight here.in_flight (new_flight c s at);
            }))
        | inr h ↦ holds_on m b b2 d z (L.records d z h.1) refl (omega arith) refl refl (in_flight_set b b.journal b.kept c (Some x) z.ticket z.foresight (L.records d z h.1).in_flight (new_flight d z h.1))
      ];
      placed = λ t o. placed_set b.records c s x t at refl (L.placed t o);
      turns = let P : ℕ → Type 0 = λ n. ComeInTurn m n [] b.journal in subst P (sym (length-set b.records c (Some x))) L.turns;
    }

-- ---- a Delay
pub keeps_delay : (m : Meaning) (b : Book) (t : ℕ) (op : Op) (older : ℕ) (y : Symbol) → Lawful m b → IsOpen b.journal t → now m b.journal t ≡ Calls op → older < t → (CommutesWith op y → ⊥) → IsOpen b.journal older → IsForeseen m b.journal older y → Lawful m (after_delay b t op older y)
keeps_delay m b t op older y L opened calls less against older_open named =
    elim (is_delayed b.journal t) as (λ v. is_delayed b.journal t ≡ v → Lawful m (cond v b (with_event b (Delay t op older y)))) [
      | true ↦ λ e. L
      | false ↦ λ e. noted e
    ] refl
  where
    noted : is_delayed b.journal t ≡ false → Lawful m (with_event b (Delay t op older y))
    noted e =
        let J : List Event = b.journal in
        let v : Event = Delay t op older y in
        let b2 : Book = with_event b v in
        let same : done_operations (J ++ v ∷ []) ≡ done_operations J = done_operations_stay J v refl in
        let count : begun (J ++ v ∷ []) ≡ begun J = begun_stays J v refl in
        let P : List DoneOperation → Type 0 = λ ds. Replays (m.opening) (in_order ds) in
        record {
          replays = subst P (sym same) L.replays;
          follows = λ u. let F : List DoneOperation → Type 0 = λ ds. Follows (m.next u) (of_ticket u ds) in subst F (sym same) (L.follows u);
          answered = λ u r h. ap (λ (ds : List DoneOperation). m.next u (replies (of_ticket u ds))) same ∙ L.answered u r (sym (first_same (end_of u) J v refl) ∙ h);
          kept = λ u. L.kept u ∙ sym (first_same (end_of u) J v refl);
          inversions = subst InversionsCommute (sym same) L.inversions;
          records = λ d z h. holds_on m b b2 d z (L.records d z h) same (omega arith) (first_same (end_of z.ticket) J v refl) (first_same (caller_of z.ticket) J v refl) (L.records d z h).in_flight;
          placed = λ u o. L.placed u (record { begun = omega (arith, o.begun, count); not_ended = sym (first_same (end_of u) J v refl) ∙ o.not_ended });
          turns = ComeInTurn-push m (length b.records) [] J v L.turns (record { is_open = opened; calls = calls; is_older = less; older_is_open = older_open; symbol = against; named = named; once = e });
        }

-- ---- begin
pub keeps_begin : (m : Meaning) (b : Book) (c : ℕ) (f : List Symbol) → Lawful m b → begun b.journal < m.requests → c < length b.records → record_of b c ≡ None → IsForesight (m.next (begun b.journal)) f → Covered f (m.entry (begun b.journal)) → Lawful m (after_begin b c f)
keeps_begin m b c f L left caller empty fore declared =
    let J : List Event = b.journal in
    let n : ℕ = begun J in
    let v : Event = Begin n c in
    let x : Serving = record { ticket = n; foresight = f; flight = None } in
    let b2 : Book = after_begin b c f in
    let known : OnlyBegun J = only_begun m (length b.records) J L.turns in
    let same : done_operations (J ++ v ∷ []) ≡ done_operations J = done_operations_stay J v refl in
    let count : begun (J ++ v ∷ []) ≡ suc n = begun_more J n c in
    let P : List DoneOperation → Type 0 = λ ds. Replays (m.opening) (in_order ds) in
    let no_flight : (t : ℕ) (g : List Symbol) (z : Serving) (op : Op) → ◌≡◌ {A = Option Serving} (Some x) (Some z) → t < z.ticket → z.flight ≡ Some op → CommutesWithAll op g = λ t g z op e l fl. absurd (none-some op (ap (λ (y : Serving). y.flight) (same_Some x z e) ∙ fl)) in
    record {
      replays = subst P (sym same) L.replays;
      follows = λ u. let F : List DoneOperation → Type 0 = λ ds. Follows (m.next u) (of_ticket u ds) in subst F (sym same) (L.follows u);
      answered = λ u r h. ap (λ (ds : List DoneOperation). m.next u (replies (of_ticket u ds))) same ∙ L.answered u r (sym (first_same (end_of u) J v refl) ∙ h);
      kept = λ u. L.kept u ∙ sym (first_same (end_of u) J v refl);
      inversions = subst InversionsCommute (sym same) L.inversions;
      records = λ d z e. elim (at_set b.records c d (Some x) z e) [
        | inl h ↦ let A : ℕ → Type 0 = λ j. Holds m b2 j z in let B : Serving → Type 0 = λ y. Holds m b2 c y in
            subst A (sym h.0) (subst B (same_Some x z h.1) (record {
              is_open = record { begun = omega arith; not_ended = first_same (end_of n) J v refl ∙ known.ended n (omega arith) };
              owner = owner_new J n c (known.owner n (omega arith));
              foresight = let F : List Entry → Type 0 = λ es. IsForesight (rest (m.next n) (replies es)) f in subst F (sym (ap (of_ticket n) same ∙ none_of n (done_operations J) known.done_operations)) fore;
              declared = let G : List Entry → Type 0 = λ es. Covered f (declared_after m n es) in subst G (sym (ap (of_ticket n) same ∙ none_of n (done_operations J) known.done_operations)) declared;
              flight = λ op k. absurd (none-some op k);
              done = let D : List DoneOperation → Type 0 = λ ds. AllByRecursion (λ d. n < d.ticket → CommutesWithAll d.op f) ds in subst D (sym same) (all_weaker _ _ (λ d l k. absurd (omega arith)) (done_operations J) known.done_operations);
              in_flight = in_flight_set b (J ++ v ∷ []) b.kept c (Some x) n f (λ d z op p l fl. absurd (omega (arith, (L.records d z p).is_open.begun))) (no_flight n f);
            }))
        | inr h ↦ holds_on m b b2 d z (L.records d z h.1) same (omega arith) (first_same (end_of z.ticket) J v refl) (owner_other J n c z.ticket (apart z.ticket n (L.records d z h.1).is_open.begun)) (in_flight_set b (J ++ v ∷ []) b.kept c (Some x) z.ticket z.foresight (L.records d z h.1).in_flight (no_flight z.ticket z.foresight))
      ];
      placed = λ t o. elim (latest t n (omega (arith, o.begun, count))) [
        | inl e ↦ (c, x, get_or-set_same b.records c (Some x) None caller, sym e)
        | inr l ↦ let p : (d : ℕ) × (z : Serving) × (record_of b d ≡ Some z) × (z.ticket ≡ t) = L.placed t (record { begun = l; not_ended = sym (first_same (end_of t) J v refl) ∙ o.not_ended }) in placed_apart b.records c (Some x) t p (not_here p.0 p.1 p.2)
      ];
      turns = let Q : ℕ → Type 0 = λ k. ComeInTurn m k [] (J ++ v ∷ []) in subst Q (sym (length-set b.records c (Some x))) (ComeInTurn-push m (length b.records) [] J v L.turns (record { next = refl; left = left; caller = caller; others = λ u o. all_ended u o (ended J u) refl }));
    }
  where
    apart : (t n : ℕ) → t < n → t ≢ n
    apart t n l = omega arith

    latest : (t n : ℕ) → t < suc n → (t ≡ n) ⊎ (t < n)
    latest t n l = grind arith

    none_of : (n : ℕ) (ds : List DoneOperation) → AllByRecursion (λ d. d.ticket < n) ds → of_ticket n ds ≡ []
    none_of n [] a = refl
    none_of n (d ∷ ds) a = ap (λ (w : Bool). cond w (entry_of d ∷ of_ticket n ds) (of_ticket n ds)) (other d.ticket n a.0) ∙ none_of n ds a.1
      where
        other : (t n : ℕ) → t < n → eqb t n ≡ false
        other t n l = grind (arith, nat_tests)

    not_here : (d : ℕ) (z : Serving) → record_of b d ≡ Some z → d ≢ c
    not_here d z p e = let P : ℕ → Type 0 = λ j. record_of b j ≡ Some z in none-some z (sym empty ∙ subst P e p)

    all_ended : (u : ℕ) → owner b.journal u ≡ Some c → (r : Option Reply) → ended b.journal u ≡ r → IsSome (ended b.journal u)
    all_ended u o (Some r) e = let P : Option Reply → Type 0 = λ w. IsSome w in subst P (sym e) refl
    all_ended u o None e =
        let P : Option ℕ → Type 0 = λ w. w ≡ Some c in
        let known : OnlyBegun b.journal = only_begun m (length b.records) b.journal L.turns in
        let less : u < begun b.journal = elim (cases_lt u (begun b.journal)) [ inl l ↦ l | inr g ↦ absurd (none-some c (sym (known.owner u g) ∙ o)) ] in
        let p : (d : ℕ) × (z : Serving) × (record_of b d ≡ Some z) × (z.ticket ≡ u) = L.placed u (record { begun = less; not_ended = e }) in
        absurd (not_here p.0 p.1 p.2 (same_Some p.0 c (sym (L.records p.0 p.1 p.2).owner ∙ ap (owner b.journal) p.3 ∙ o)))

-- ---- done
-- the operation in flight is done, with its reply after the journal, and its ticket narrows
pub keeps_done : (m : Meaning) (b : Book) (c : ℕ) (s : Serving) (op : Op) (r : Value) (f : List Symbol) → Lawful m b → record_of b c ≡ Some s → s.flight ≡ Some op → r ≡ reply (after m.opening b.journal) op → Covered f s.foresight → IsForesight (rest (m.next s.ticket) (replies (entries b.journal s.ticket ++ record { op = op; reply = r } ∷ []))) f → Covered f (m.told s.ticket (replies (entries b.journal s.ticket ++ record { op = op; reply = r } ∷ []))) → Lawful m (after_done b c s op r f)
keeps_done m b c s op r f L at flying is cov fore told =
    let J : List Event = b.journal in
    let t : ℕ = s.ticket in
    let v : Event = Done t op r in
    let x : Serving = record { ticket = t; foresight = f; flight = None } in
    let new : DoneOperation = record { ticket = t; op = op; reply = r } in
    let b2 : Book = after_done b c s op r f in
    let here : Holds m b c s = L.records c s at in
    let calls : now m J t ≡ Calls op = here.flight op flying in
    let ds : done_operations (J ++ v ∷ []) ≡ done_operations J ++ new ∷ [] = done_operations-append J (v ∷ []) in
    let count : begun (J ++ v ∷ []) ≡ begun J = begun_stays J v refl in
    let matches : Matches s.foresight op = here.foresight.covers.each [] op tt (to_rest t (entries J t) op calls) in
    let no_flight : (u : ℕ) (g : List Symbol) (z : Serving) (o : Op) → ◌≡◌ {A = Option Serving} (Some x) (Some z) → u < z.ticket → z.flight ≡ Some o → CommutesWithAll o g = λ u g z o e l fl. absurd (none-some o (ap (λ (y : Serving). y.flight) (same_Some x z e) ∙ fl)) in
    record {
      replays = let P : List DoneOperation → Type 0 = λ es. Replays (m.opening) (in_order es) in
          let Q : List Entry → Type 0 = λ es. Replays (m.opening) es in
          subst P (sym ds) (subst Q (sym (in_order-append (done_operations J) (new ∷ []))) (Replays-append (m.opening) (in_order (done_operations J)) (record { op = op; reply = r } ∷ []) L.replays (sym is, tt)));
      follows = λ u. elim (cases_eq u t) [
        | inl e ↦ let P : ℕ → Type 0 = λ j. Follows (m.next j) (entries (J ++ v ∷ []) j) in let Q : List Entry → Type 0 = λ es. Follows (m.next t) es in
            subst P (sym e) (subst Q (sym (entries_more J t op r)) (follows_more (m.next t) (entries J t) (record { op = op; reply = r }) (L.follows t) calls))
        | inr n ↦ let Q : List Entry → Type 0 = λ es. Follows (m.next u) es in subst Q (sym (entries_other J t op r u n)) (L.follows u)
      ];
      answered = λ u a h. let k : ended J u ≡ Some a = sym (first_same (end_of u) J v refl) ∙ h in
          let n : u ≢ t = λ e. none-some a (sym here.is_open.not_ended ∙ ap (ended J) (sym e) ∙ k) in
          ap (λ (es : List Entry). m.next u (replies es)) (entries_other J t op r u n) ∙ L.answered u a k;
      kept = λ u. L.kept u ∙ sym (first_same (end_of u) J v refl);
      inversions = subst InversionsCommute (sym ds) (InversionsCommute-push (done_operations J) new L.inversions (all_weaker _ _ (λ d k l. (k l).each op matches) (done_operations J) here.done));
      records = λ d z e. elim (at_set b.records c d (Some x) z e) [
        | inl h ↦ let A : ℕ → Type 0 = λ j. Holds m b2 j z in let B : Serving → Type 0 = λ y. Holds m b2 c y in
            subst A (sym h.0) (subst B (same_Some x z h.1) (record {
              is_open = record { begun = omega (arith, here.is_open.begun, count); not_ended = first_same (end_of t) J v refl ∙ here.is_open.not_ended };
              owner = first_same (caller_of t) J v refl ∙ here.owner;
              foresight = let F : List Entry → Type 0 = λ es. IsForesight (rest (m.next t) (replies es)) f in subst F (sym (entries_more J t op r)) fore;
              declared = let G : List Entry → Type 0 = λ es. Covered f (declared_after m t es) in subst G (sym (entries_more J t op r)) (let H : List Symbol → Type 0 = λ l. Covered f l in subst H (sym (declared_more m t (entries J t) (record { op = op; reply = r }))) told);
              flight = λ o k. absurd (none-some o k);
              done = let D : List DoneOperation → Type 0 = λ es. AllByRecursion (λ d. t < d.ticket → CommutesWithAll d.op f) es in
                  subst D (sym ds) (all_push _ (done_operations J) new (all_weaker _ _ (λ d k l. CommutesWithAll-narrow d.op f s.foresight cov (k l)) (done_operations J) here.done) (λ l. absurd (omega arith)));
              in_flight = in_flight_set b (J ++ v ∷ []) b.kept c (Some x) t f (λ d z o p l fl. CommutesWithAll-narrow o f s.foresight cov (here.in_flight d z o p l fl)) (no_flight t f);
            }))
        | inr h ↦
            let old : Holds m b d z = L.records d z h.1 in
            let n : z.ticket ≢ t = λ e. h.0 (one_caller m b L d c z s h.1 at e) in
            let F : List Entry → Type 0 = λ es. IsForesight (rest (m.next z.ticket) (replies es)) z.foresight in
            let D : List DoneOperation → Type 0 = λ es. AllByRecursion (λ d. z.ticket < d.ticket → CommutesWithAll d.op z.foresight) es in
            record {
              is_open = record { begun = omega (arith, old.is_open.begun, count); not_ended = first_same (end_of z.ticket) J v refl ∙ old.is_open.not_ended };
              owner = first_same (caller_of z.ticket) J v refl ∙ old.owner;
              foresight = subst F (sym (entries_other J t op r z.ticket n)) old.foresight;
              declared = let G : List Entry → Type 0 = λ es. Covered z.foresight (declared_after m z.ticket es) in subst G (sym (entries_other J t op r z.ticket n)) old.declared;
              flight = λ o k. ap (λ (es : List Entry). m.next z.ticket (replies es)) (entries_other J t op r z.ticket n) ∙ old.flight o k;
              done = subst D (sym ds) (all_push _ (done_operations J) new old.done (λ l. old.in_flight c s op at l flying));
              in_flight = in_flight_set b (J ++ v ∷ []) b.kept c (Some x) z.ticket z.foresight old.in_flight (no_flight z.ticket z.foresight);
            }
      ];
      placed = λ u o. placed_set b.records c s x u at refl (L.placed u (record { begun = omega (arith, o.begun, count); not_ended = sym (first_same (end_of u) J v refl) ∙ o.not_ended }));
      turns = let Q : ℕ → Type 0 = λ k. ComeInTurn m k [] (J ++ v ∷ []) in subst Q (sym (length-set b.records c (Some x))) (ComeInTurn-push m (length b.records) [] J v L.turns (record { is_open = here.is_open; calls = calls }));
    }
  where
    append_nil : (vs : List Value) → vs ++ [] ≡ vs
    append_nil [] = refl
    append_nil (w ∷ vs) = ap (λ (us : List Value). w ∷ us) (append_nil vs)

    to_rest : (t : ℕ) (es : List Entry) (op : Op) → m.next t (replies es) ≡ Calls op → rest (m.next t) (replies es) [] ≡ Calls op
    to_rest t es op e = ap (m.next t) (append_nil (replies es)) ∙ e

-- ---- end
-- a ticket with nothing in flight ends with what it answers
pub keeps_end : (m : Meaning) (b : Book) (c : ℕ) (s : Serving) (r : Reply) → Lawful m b → record_of b c ≡ Some s → s.flight ≡ None → now m b.journal s.ticket ≡ Answers r → s.ticket < length b.kept → Lawful m (after_end b c s r)
keeps_end m b c s r L at idle says room =
    let J : List Event = b.journal in
    let t : ℕ = s.ticket in
    let v : Event = End t r in
    let b2 : Book = after_end b c s r in
    let here : Holds m b c s = L.records c s at in
    let same : done_operations (J ++ v ∷ []) ≡ done_operations J = done_operations_stay J v refl in
    let count : begun (J ++ v ∷ []) ≡ begun J = begun_stays J v refl in
    let P : List DoneOperation → Type 0 = λ ds. Replays (m.opening) (in_order ds) in
    let no_record : (u : ℕ) (g : List Symbol) (z : Serving) (o : Op) → ◌≡◌ {A = Option Serving} None (Some z) → u < z.ticket → z.flight ≡ Some o → CommutesWithAll o g = λ u g z o e l fl. absurd (none-some z e) in
    record {
      replays = subst P (sym same) L.replays;
      follows = λ u. let F : List DoneOperation → Type 0 = λ ds. Follows (m.next u) (of_ticket u ds) in subst F (sym same) (L.follows u);
      answered = λ u a h. ap (λ (ds : List DoneOperation). m.next u (replies (of_ticket u ds))) same ∙ (elim (cases_eq u t) [
        | inl e ↦ let A : ℕ → Type 0 = λ j. now m J j ≡ Answers a in
            let q : r ≡ a = same_Some r a (sym (ended_new J t r here.is_open.not_ended) ∙ ap (ended (J ++ v ∷ [])) (sym e) ∙ h) in
            subst A (sym e) (says ∙ ap (λ (w : Reply). Answers w) q)
        | inr n ↦ L.answered u a (sym (ended_other J t r u n) ∙ h)
      ]);
      kept = λ u. elim (cases_eq u t) [
        | inl e ↦ let A : ℕ → Type 0 = λ j. kept_for b2 j ≡ ended (J ++ v ∷ []) j in
            subst A (sym e) (get_or-set_same b.kept t (Some r) None room ∙ sym (ended_new J t r here.is_open.not_ended))
        | inr n ↦ get_or-set_other b.kept t u (Some r) None n ∙ L.kept u ∙ sym (ended_other J t r u n)
      ];
      inversions = subst InversionsCommute (sym same) L.inversions;
      records = λ d z e. elim (at_set b.records c d None z e) [
        | inl h ↦ absurd (none-some z h.1)
        | inr h ↦ let n : z.ticket ≢ t = λ q. h.0 (one_caller m b L d c z s h.1 at q) in
            holds_on m b b2 d z (L.records d z h.1) same (omega arith) (ended_other J t r z.ticket n) (first_same (caller_of z.ticket) J v refl) (in_flight_set b (J ++ v ∷ []) (set b.kept t (Some r)) c None z.ticket z.foresight (L.records d z h.1).in_flight (no_record z.ticket z.foresight))
      ];
      placed = λ u o.
          let n : u ≢ t = λ e. none-some r (sym o.not_ended ∙ ap (ended (J ++ v ∷ [])) e ∙ ended_new J t r here.is_open.not_ended) in
          let p : (d : ℕ) × (z : Serving) × (record_of b d ≡ Some z) × (z.ticket ≡ u) = L.placed u (record { begun = omega (arith, o.begun, count); not_ended = sym (ended_other J t r u n) ∙ o.not_ended }) in
          placed_apart b.records c None u p (λ e. n (sym p.3 ∙ one_ticket p.0 p.1 p.2 e));
      turns = let Q : ℕ → Type 0 = λ k. ComeInTurn m k [] (J ++ v ∷ []) in subst Q (sym (length-set b.records c None)) (ComeInTurn-push m (length b.records) [] J v L.turns (record { is_open = here.is_open; answers = says }));
    }
  where
    one_ticket : (d : ℕ) (z : Serving) → record_of b d ≡ Some z → d ≡ c → z.ticket ≡ s.ticket
    one_ticket d z p e = let P : ℕ → Type 0 = λ j. record_of b j ≡ Some z in ap (λ (y : Serving). y.ticket) (same_Some z s (sym (subst P e p) ∙ at))
