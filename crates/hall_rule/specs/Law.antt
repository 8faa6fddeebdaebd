-- The law of the rule: a giving back that may be done keeps it.
use Rattle.std.specs.Prelude.{◌≡◌, ◌≢◌, ℕ, zero, suc, ◌+◌, ◌<◌, ◌≤◌, ◌⊎◌, List, [], ◌∷◌, ◌++◌, length, Option, Some, None, slice_get, slice_set}
use Rattle.std.specs.List.{AllByRecursion}
use Rattle.std.proofs.Common.{inl, inr, refl, sym, ap, ◌∙◌, subst, append_assoc, append-nil, arith, set}
use Rattle.std.proofs.lemmas.List.{length-set}
use Rattle.std.proofs.lemmas.Option.{none-some, same_Some}
use Rattle.session_values.specs.Tables.{Container}
use Rattle.session_journal.specs.declared.event.Event.{Event}
use Rattle.session_journal.specs.Journal.{owner, caller_of, ticket_of}
use Rattle.session_journal.specs.Script.{Meaning}
use Rattle.admission_book.specs.Book.{Book, record_of}
use Rattle.session_journal.proofs.Events.{first_stays}
use Rattle.turn_board.specs.Maps.{FitsTurns, SameTurns, overlay, overlay_from, in_place_of}
use Rattle.hall_rule.specs.Contents.{Content, Register, Shard, share, needed, IsOfOther, IsShard, IsSince, IsNote}
use Rattle.hall_rule.specs.Tie.{Tied, Moves}

-- ---- contents in places
pub same_script : {S : Type 0} (s z : S) (b d : Book)
    → ◌≡◌ {A = Content S} (Register s b) (Register z d) → s ≡ z
same_script {S} s z b d e = cc

pub same_book : {S : Type 0} (s z : S) (b d : Book)
    → ◌≡◌ {A = Content S} (Register s b) (Register z d) → b ≡ d
same_book {S} s z b d e = cc

pub same_container : {S : Type 0} (c d : Container) (r q : ℕ)
    → ◌≡◌ {A = Content S} (Shard c r) (Shard d q) → c ≡ d
same_container {S} c d r q e = cc

pub same_room : {S : Type 0} (c d : Container) (r q : ℕ)
    → ◌≡◌ {A = Content S} (Shard c r) (Shard d q) → r ≡ q
same_room {S} c d r q e = cc

pub apart_contents : {S : Type 0} (s : S) (b : Book) (c : Container) (r : ℕ)
    → ◌≡◌ {A = Content S} (Register s b) (Shard c r) → ⊥
apart_contents {S} s b c r e = cc

pub lies_within : {X : Type 0} (l : List X) (i : ℕ) (x : X) → slice_get l i ≡ Some x → i < length l
lies_within {X} [] i x h = absurd (none-some x h)
lies_within (y ∷ l) zero x h = omega arith
lies_within (y ∷ l) (suc i) x h = omega (arith, lies_within l i x h)

got_set : {X : Type 0} (l : List X) (c d : ℕ) (x y : X) → slice_get (set l c x) d ≡ Some y
    → ((d ≡ c) × (x ≡ y)) ⊎ ((d ≢ c) × (slice_get l d ≡ Some y))
got_set {X} [] c d x y h = absurd (none-some y h)
got_set {X} (z ∷ l) zero zero x y h = inl (refl, same_Some x y h)
got_set (z ∷ l) zero (suc d) x y h = inr (λ e. omega arith, h)
got_set (z ∷ l) (suc c) zero x y h = inr (λ e. omega arith, h)
got_set (z ∷ l) (suc c) (suc d) x y h = elim (got_set l c d x y h) [
  | inl p ↦ inl (ap suc p.0, p.1)
  | inr p ↦ inr (λ e. p.0 (omega arith), p.1)
]

plus_suc : (i k : ℕ) → suc i + k ≡ i + suc k
plus_suc i k = omega arith

plus_none : (i : ℕ) → i + 0 ≡ i
plus_none i = omega arith

from_zero : (i : ℕ) → 0 + i ≡ i
from_zero i = omega arith

module _ {C : Type 0} (new : ℕ → Option C) where
  overlay_length : (i : ℕ) (cs : List C) → length (overlay_from i new cs) ≡ length cs
  overlay_length i [] = refl
  overlay_length i (c ∷ cs) = ap suc (overlay_length (suc i) cs)

  overlay_given : (i k : ℕ) (x : C) (cs : List C) → new (i + k) ≡ Some x → k < length cs
      → slice_get (overlay_from i new cs) k ≡ Some x
  overlay_given i k x [] e l = absurd (omega arith)
  overlay_given i zero x (c ∷ cs) e l = ap (λ (o : Option C). Some (in_place_of o c))
      (ap new (sym (plus_none i)) ∙ e)
  overlay_given i (suc k) x (c ∷ cs) e l = overlay_given (suc i) k x cs (ap new (plus_suc i k) ∙ e)
      (omega arith)

  overlay_kept : (i k : ℕ) (cs : List C) → new (i + k) ≡ None
      → slice_get (overlay_from i new cs) k ≡ slice_get cs k
  overlay_kept i k [] e = refl
  overlay_kept i zero (c ∷ cs) e = ap (λ (o : Option C). Some (in_place_of o c))
      (ap new (sym (plus_none i)) ∙ e)
  overlay_kept i (suc k) (c ∷ cs) e = overlay_kept (suc i) k cs (ap new (plus_suc i k) ∙ e)

-- ---- events of others
All-append : (P : Event → Type 0) (es fs : List Event) → AllByRecursion P es → AllByRecursion P fs
    → AllByRecursion P (es ++ fs)
All-append P [] fs a b = b
All-append P (e ∷ es) fs a b = (a.0, All-append P es fs a.1 b)

All-weaker : (P Q : Event → Type 0) → ((e : Event) → P e → Q e) → (es : List Event)
    → AllByRecursion P es → AllByRecursion Q es
All-weaker P Q f [] a = tt
All-weaker P Q f (e ∷ es) a = (f e a.0, All-weaker P Q f es a.1)

-- an event of another caller's ticket stays one as the journal grows
stays_other : (J more : List Event) (c : ℕ) (e : Event) → IsOfOther J c e
    → IsOfOther (J ++ more) c e
stays_other J more c e (d, o, n) = (d, first_stays (caller_of (ticket_of e)) J more d o, n)

-- what a caller did is, for every other caller, what others did
since_more : (noted before now : Book) (more : List Event) (c caller : ℕ) → c ≢ caller
    → record_of now c ≡ record_of before c → before.journal ++ more ≡ now.journal
    → AllByRecursion (λ e. owner now.journal (ticket_of e) ≡ Some caller) more
    → IsSince noted before c → IsSince noted now c
since_more noted before now more c caller apart same grows own n =
    let J : List Event → Type 0 = λ K. AllByRecursion (λ e. IsOfOther K c e) (n.since ++ more) in
    record {
      own = n.own ∙ sym same;
      since = n.since ++ more;
      grows = sym (append_assoc noted.journal n.since more) ∙ ap (λ (K : List Event). K ++ more)
          n.grows ∙ grows;
      of_others = subst J grows (All-append _ n.since more
          (All-weaker _ _ (λ e o. stays_other before.journal more c e o) n.since n.of_others)
          (All-weaker _ _ (λ e o. (
            caller,
            ap (λ (K : List Event). owner K (ticket_of e)) grows ∙
                o,
            λ q. apart (sym q),
          )) more own));
    }

-- nothing came since
pub just_now : (b : Book) (c : ℕ) → IsSince b b c
just_now b c = record { own = refl; since = []; grows = append-nil b.journal; of_others = tt }

module _ {S : Type 0} (meaning : S → Meaning) (contents notes : List (Content S)) (caller : ℕ)
    (old new : ℕ → Option (Content S))
    (t : Tied meaning contents notes) (agrees : FitsTurns contents old) (k : Moves meaning (length contents) caller old new) where
  same_register : ◌≡◌ {A = Content S} (Register t.script t.book) (Register k.script k.before)
  same_register = same_Some _ _ (sym t.register ∙ agrees 0 (Register k.script k.before) k.was)

  script_is : t.script ≡ k.script
  script_is = same_script t.script k.script t.book k.before same_register

  book_is : t.book ≡ k.before
  book_is = same_book t.script k.script t.book k.before same_register

  -- a shard that was given back
  given_shard : (j : ℕ) (x : Content S) → new (suc j) ≡ Some x
      → IsShard (meaning k.script) (length contents) k.now.journal j x
  given_shard j x h =
      let p : (y : Container) × (r : ℕ) × (old (suc j) ≡ Some (Shard y r)) × (x ≡ Shard (share (meaning k.script) (length contents) k.now.journal j) r) = k.held j x h in
      let q : IsShard (meaning t.script) (length contents) t.book.journal j (Shard p.0 p.1) = t.shards j (Shard p.0 p.1) (agrees (suc j) (Shard p.0 p.1) p.2) in
      let e : p.1 ≡ q.room = same_room {S = S} p.0 q.container p.1 q.room q.is in
      let P : S → Type 0 = λ s. needed (meaning s) (length contents) j ≤ q.room in
      record {
        container = share (meaning k.script) (length contents) k.now.journal j;
        room = p.1;
        is = p.3;
        share_is = refl;
        enough = omega (arith, e, subst P script_is q.enough);
      }

  -- one that wasn't held
  free_shard : (j : ℕ) (x : Content S) → new (suc j) ≡ None → slice_get contents (suc j) ≡ Some x
      → IsShard (meaning k.script) (length contents) k.now.journal j x
  free_shard j x h at =
      let P : S → Type 0 = λ s. IsShard (meaning s) (length contents) t.book.journal j x in
      let Q : Book → Type 0 = λ b. IsShard (meaning k.script) (length contents) b.journal j x in
      let q : IsShard (meaning k.script) (length contents) k.before.journal j x = subst Q book_is (subst P script_is (t.shards j x at)) in
      record {
        container = q.container;
        room = q.room;
        is = q.is;
        share_is = q.share_is ∙ k.free j h;
        enough = q.enough;
      }

  any_shard : (j : ℕ) (x : Content S) → slice_get (overlay new contents) (suc j) ≡ Some x
      → IsShard (meaning k.script) (length contents) k.now.journal j x
  any_shard j x h = go (new (suc j)) refl
    where
      go : (o : Option (Content S)) → new (suc j) ≡ o
          → IsShard (meaning k.script) (length contents) k.now.journal j x
      go None e = free_shard j x e (sym (overlay_kept new 0 (suc j) contents
          (ap new (from_zero (suc j)) ∙ e)) ∙ h)
      go (Some y) e =
          let w : suc j < length contents = omega (arith, lies_within (overlay new contents) (suc j) x h, overlay_length new 0 contents) in
          let q : y ≡ x = same_Some y x (sym (overlay_given new 0 (suc j) y contents (ap new (from_zero (suc j)) ∙ e) w) ∙ h) in
          let P : Content S → Type 0 = λ z. IsShard (meaning k.script) (length contents) k.now.journal j z in
          subst P q (given_shard j y e)

  other_note : (c : ℕ) (x : Content S) → c ≢ caller → IsNote t.script t.book c x
      → IsNote k.script k.now c x
  other_note c x apart n =
      let P : Book → Type 0 = λ b. IsSince n.noted b c in
      record {
        noted = n.noted;
        is = n.is ∙ ap (λ (s : S). Register s n.noted) script_is;
        since = since_more n.noted k.before k.now k.more c caller apart (k.others c apart) k.grows
            k.own (subst P book_is n.since);
      }

  moves_keep : Tied meaning (overlay new contents) (set notes caller (Register k.script k.now))
  moves_keep = record {
    script = k.script;
    book = k.now;
    register = overlay_given new 0 0 (Register k.script k.now) contents k.is
        (lies_within contents 0 _ t.register);
    lawful = k.lawful;
    callers = k.callers ∙ ap (λ (b : Book). length b.records) (sym book_is) ∙ t.callers ∙ sym
        (length-set notes caller (Register k.script k.now));
    shards = λ j x h. let P : ℕ → Type 0 = λ n. IsShard (meaning k.script) n k.now.journal j x in subst P (sym (overlay_length new 0 contents)) (any_shard j x h);
    noted = λ c x h. elim (got_set notes caller c (Register k.script k.now) x h) [
      | inl p ↦ record { noted = k.now; is = sym p.1; since = just_now k.now c }
      | inr p ↦ other_note c x p.0 (t.noted c x p.1)
    ];
  }

-- where the rule holds and a caller gives the book back as it may, the rule holds of the contents
-- with the new ones in their places, and of the notes with the book as the caller's
pub tie_kept : {S : Type 0} (meaning : S → Meaning) (contents notes : List (Content S))
    (caller : ℕ) (old new : ℕ → Option (Content S)) (book : Content S)
    → Tied meaning contents notes → FitsTurns contents old → SameTurns old new → new 0 ≡ Some book
    → caller < length notes → Moves meaning (length contents) caller old new
    → Tied meaning (overlay new contents) (slice_set notes caller book)
tie_kept {S} meaning contents notes caller old new book t fits same has near k =
    let e : Register k.script k.now ≡ book = same_Some (Register k.script k.now) book (sym k.is ∙ has) in
    let P : Content S → Type 0 = λ b. Tied meaning (overlay new contents) (slice_set notes caller b) in
    subst P e (moves_keep meaning contents notes caller old new t fits k)
