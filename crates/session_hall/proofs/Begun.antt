-- Which tickets a caller has begun, as the journal grows: only the caller's own beginnings add one.
use Rattle.std.proofs.Common.{◌≡◌, ◌≢◌, ℕ, ◌==◌, List, [], ◌∷◌, ◌++◌, length, Some, Bool, true, false, cond, refl, sym, ◌∙◌, ap, subst, append-nil, arith}
use Rattle.std.specs.List.{AllByRecursion}
use Rattle.std.proofs.lemmas.Bool.{ne_eqb}
use Rattle.std.proofs.lemmas.Option.{same_Some}
use Rattle.session_values.proofs.Lists.{all_push, all_weaker}
use Rattle.session_values.specs.declared.op.Op.{Op}
use Rattle.symbolic_ops.specs.declared.symbol.Symbol.{Symbol}
use Rattle.session_journal.specs.declared.event.Event.{Event}
use Rattle.session_journal.specs.declared.event.Event.TheVariants.{Begin, Done, Delay, End}
use Rattle.session_journal.specs.Journal.{caller_of, owner}
use Rattle.session_journal.specs.Script.{Meaning}
use Rattle.session_journal.specs.EventsInTurn.{ComeInTurn, MayCome, is_delayed}
use Rattle.session_journal.proofs.Events.{ComeInTurn-push, first_stays, only_begun, owner_new, through_turns}
use Rattle.admission_book.specs.Book.{Book, after_delay, with_event}
use Rattle.admission_book.specs.Lawful.{Lawful}
use Rattle.hall_rule.specs.Contents.{IsOfOther, IsSince}
use Rattle.session_hall.specs.Begun.{tickets_by}

cond_more : (b : Bool) (t : ℕ) (l m r : List ℕ) → l ≡ m ++ r → cond b (t ∷ l) l ≡ cond b (t ∷ m) m ++ r
cond_more true t l m r e = ap (λ (x : List ℕ). t ∷ x) e
cond_more false t l m r e = e

pub tickets-append : (c : ℕ) (J K : List Event) → tickets_by c (J ++ K) ≡ tickets_by c J ++ tickets_by c K
tickets-append c [] K = refl
tickets-append c (Begin t d ∷ J) K = cond_more (d == c) t (tickets_by c (J ++ K)) (tickets_by c J) (tickets_by c K) (tickets-append c J K)
tickets-append c (Done t op r ∷ J) K = tickets-append c J K
tickets-append c (Delay t op older y ∷ J) K = tickets-append c J K
tickets-append c (End t r ∷ J) K = tickets-append c J K

-- ---- the event is no beginning, or the ticket that begins is the caller's that it names
abbrev OwnBegin : List Event → Event → Type 0
OwnBegin J (Begin t c) = owner J t ≡ Some c
OwnBegin J _ = Unit {0}

module _ (J : List Event) (e : Event) where
  own_more : (f : Event) → OwnBegin J f → OwnBegin (J ++ e ∷ []) f
  own_more (Begin t c) o = first_stays (caller_of t) J (e ∷ []) c o
  own_more (Done t op r) o = tt
  own_more (Delay t op older y) o = tt
  own_more (End t r) o = tt

  own_last : (m : Meaning) (callers : ℕ) (f : Event) → ComeInTurn m callers [] J → MayCome m callers J f → f ≡ e → OwnBegin (J ++ f ∷ []) f
  own_last m callers (Begin t c) h k s = owner_new J t c ((only_begun m callers J h).owner t (omega (arith, k.next)))
  own_last m callers (Done t op r) h k s = tt
  own_last m callers (Delay t op older y) h k s = tt
  own_last m callers (End t r) h k s = tt

-- each beginning in a journal is such a one
abbrev Keeps : Meaning → ℕ → List Event → Type 0
Keeps m callers K = ComeInTurn m callers [] K × AllByRecursion (OwnBegin K) K

keep : (m : Meaning) (callers : ℕ) (K : List Event) (e : Event) → Keeps m callers K → MayCome m callers K e → Keeps m callers (K ++ e ∷ [])
keep m callers K e p k = (
  ComeInTurn-push m callers [] K e p.0 k,
  all_push (OwnBegin (K ++ e ∷ [])) K e (all_weaker (OwnBegin K) (OwnBegin (K ++ e ∷ [])) (own_more K e) K p.1) (own_last K e m callers e p.0 k refl),
)

own_begins : (m : Meaning) (callers : ℕ) (J : List Event) → ComeInTurn m callers [] J → AllByRecursion (OwnBegin J) J
own_begins m callers J h = (through_turns m callers (Keeps m callers) (keep m callers) [] J (tt, tt) h).1

all_behind : {X : Type 0} (P : X → Type 0) (xs ys : List X) → AllByRecursion P (xs ++ ys) → AllByRecursion P ys
all_behind P [] ys h = h
all_behind P (x ∷ xs) ys h = all_behind P xs ys h.1

-- no event of others' tickets is a beginning of the caller's
none_begun : (J : List Event) (c : ℕ) (since : List Event) → AllByRecursion (OwnBegin J) since → AllByRecursion (λ e. IsOfOther J c e) since → tickets_by c since ≡ []
none_begun J c [] o a = refl
none_begun J c (Begin t d ∷ K) o a = let n : d ≢ c = λ e. a.0.2 (same_Some a.0.0 c (sym a.0.1 ∙ o.0 ∙ ap Some e)) in
    ap (λ (b : Bool). cond b (t ∷ tickets_by c K) (tickets_by c K)) (ne_eqb d c n) ∙ none_begun J c K o.1 a.1
none_begun J c (Done t op r ∷ K) o a = none_begun J c K o.1 a.1
none_begun J c (Delay t op older y ∷ K) o a = none_begun J c K o.1 a.1
none_begun J c (End t r ∷ K) o a = none_begun J c K o.1 a.1

-- since the caller's note, the caller has begun none
pub begun_since : (m : Meaning) (noted found : Book) (c : ℕ) → Lawful m found → IsSince noted found c → tickets_by c found.journal ≡ tickets_by c noted.journal
begun_since m noted found c l s =
    let P : List Event → Type 0 = λ K. AllByRecursion (OwnBegin found.journal) K in
    let all = subst P (sym s.grows) (own_begins m (length found.records) found.journal l.turns) in
    ap (tickets_by c) (sym s.grows) ∙ tickets-append c noted.journal s.since
    ∙ ap (λ (l : List ℕ). tickets_by c noted.journal ++ l) (none_begun found.journal c s.since (all_behind (OwnBegin found.journal) noted.journal s.since all) s.of_others)
    ∙ append-nil (tickets_by c noted.journal)

-- ---- an event that is no beginning changes nothing of it
pub still_begun : (c : ℕ) (J : List Event) (e : Event) → tickets_by c (e ∷ []) ≡ [] → tickets_by c (J ++ e ∷ []) ≡ tickets_by c J
still_begun c J e n = tickets-append c J (e ∷ []) ∙ ap (λ (l : List ℕ). tickets_by c J ++ l) n ∙ append-nil (tickets_by c J)

pub delay_begun : (c : ℕ) (b : Book) (t : ℕ) (op : Op) (older : ℕ) (y : Symbol) → tickets_by c (after_delay b t op older y).journal ≡ tickets_by c b.journal
delay_begun c b t op older y = go (is_delayed b.journal t)
  where
    go : (x : Bool) → tickets_by c (cond x b (with_event b (Delay t op older y))).journal ≡ tickets_by c b.journal
    go true = refl
    go false = still_begun c b.journal (Delay t op older y) refl
