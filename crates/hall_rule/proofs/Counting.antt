-- What the rule says of the counted book.
use Rattle.std.proofs.Common.{◌≡◌, ℕ, suc, ◌<◌, ◌/◌, ◌%◌, ◌⊎◌, inl, inr, List, [], ◌∷◌, ◌++◌, length, Option, Some, None, Bool, true, false, cond, eqb, append-nil, append_assoc, refl, sym, ◌∙◌, ap, subst, arith}
use Rattle.std.proofs.lemmas.Option.{same_Some, none-some}
use Rattle.std.specs.Prelude.{slice_get}
use Rattle.std.specs.List.{AllByRecursion}
use Rattle.session_values.specs.Tables.{Tables, table}
use Rattle.session_journal.specs.declared.event.Event.{Event}
use Rattle.session_journal.specs.declared.event.Event.TheVariants.{Begin, Done, Delay, End}
use Rattle.session_journal.specs.Journal.{caller_of, owner, ticket_of}
use Rattle.session_journal.specs.Script.{Meaning, IsScript}
use Rattle.shard_tables.specs.Parts.{part}
use Rattle.admission_book.specs.Book.{Book}
use Rattle.session_journal.specs.EventsInTurn.{MayCome, ComeInTurn}
use Rattle.admission_book.specs.Lawful.{Lawful}
use Rattle.admission_book.specs.Methods.{Grows}
use Rattle.session_journal.proofs.Events.{first_new, first_same, first_stays, through_turns}
use Rattle.admission_book.proofs.Foreknown.{foreknown, regrouped_lawful}
use Rattle.hall_rule.specs.Contents.{Content, Register, Shard, IsNote, IsOfOther, IsShard, shards_in}
use Rattle.hall_rule.specs.Counted.{ReplaysByTicket}
use Rattle.hall_rule.specs.Tie.{Tied}
use Rattle.hall_rule.specs.Law.{same_script, same_book}
use Rattle.turn_board.proofs.Rows.{get-within}

-- ---- the last of a list
abbrev last_or : {X : Type 0} → X → List X → X
last_or a [] = a
last_or a (x ∷ xs) = last_or x xs

last_or-is : {X : Type 0} (a : X) (xs : List X) (x : X) → last_or a (xs ++ x ∷ []) ≡ x
last_or-is a [] x = refl
last_or-is a (y ∷ xs) x = last_or-is y xs x

same_last : {X : Type 0} (xs ys : List X) (x y : X) → xs ++ x ∷ [] ≡ ys ++ y ∷ [] → x ≡ y
same_last xs ys x y e = sym (last_or-is x xs x) ∙ ap (last_or x) e ∙ last_or-is x ys y

-- a list is empty, or has a last element
record HasLast {X : Type 0} (xs : List X) : Type 0 where
  front : List X
  last : X
  is : xs ≡ front ++ last ∷ []

ends : {X : Type 0} (xs : List X) → (xs ≡ []) ⊎ HasLast xs
ends [] = inl refl
ends {X} (x ∷ xs) = elim (ends xs) [
  | inl e ↦ inr (record { front = []; last = x; is = ap (λ (l : List X). x ∷ l) e })
  | inr l ↦ inr (record { front = x ∷ l.front; last = l.last; is = ap (λ (k : List X). x ∷ k) l.is })
]

All-last : {X : Type 0} (P : X → Type 0) (xs : List X) (x : X) → AllByRecursion P (xs ++ x ∷ []) → P x
All-last P [] x a = a.0
All-last P (y ∷ xs) x a = All-last P xs x a.1

-- ---- each ticket's caller is one of the book's
owned : (m : Meaning) (callers : ℕ) (J : List Event) → ComeInTurn m callers [] J → (t c : ℕ) → owner J t ≡ Some c → c < callers
owned m callers J h = through_turns m callers (λ K. (t c : ℕ) → owner K t ≡ Some c → c < callers) keep [] J (λ t c e. absurd (none-some c e)) h
  where
    keep : (K : List Event) (e : Event) → ((t c : ℕ) → owner K t ≡ Some c → c < callers) → MayCome m callers K e → (t c : ℕ) → owner (K ++ e ∷ []) t ≡ Some c → c < callers
    keep K (Begin u d) p k t c o = go (owner K t) refl
      where
        new : (b : Bool) → ◌≡◌ {A = Option ℕ} (elim (cond b (Some d) None) [ Some x ↦ Some x | None ↦ None ]) (Some c) → c < callers
        new true e = let P : ℕ → Type 0 = λ a. a < callers in subst P (same_Some d c e) k.caller
        new false e = absurd (none-some c e)

        go : (w : Option ℕ) → owner K t ≡ w → c < callers
        go (Some x) e = let P : ℕ → Type 0 = λ a. a < callers in subst P (same_Some x c (sym (first_stays (caller_of t) K (Begin u d ∷ []) x e) ∙ o)) (p t x e)
        go None e = new (eqb u t) (sym (first_new (caller_of t) K (Begin u d ∷ []) e) ∙ o)
    keep K (Done u op r) p k t c o = p t c (sym (first_same (caller_of t) K (Done u op r) refl) ∙ o)
    keep K (Delay u op older y) p k t c o = p t c (sym (first_same (caller_of t) K (Delay u op older y) refl) ∙ o)
    keep K (End u r) p k t c o = p t c (sym (first_same (caller_of t) K (End u r) refl) ∙ o)

module _ {S : Type 0} (meaning : S → Meaning) (contents notes : List (Content S)) (t : Tied meaning contents notes) where
  pub note_grows : (c : ℕ) (x : Content S) → slice_get notes c ≡ Some x → (noted : Book) × (x ≡ Register t.script noted) × Grows noted.journal t.book.journal
  note_grows c x e =
      let n : IsNote t.script t.book c x = t.noted c x e in
      (n.noted, n.is, record { more = n.since.since; is = sym n.since.grows })

  -- a note after which nothing came
  no_more : (c : ℕ) (x : Content S) → slice_get notes c ≡ Some x → (n : IsNote t.script t.book c x) → n.since.since ≡ [] → (d : ℕ) × (noted : Book) × (slice_get notes d ≡ Some (Register t.script noted)) × (noted.journal ≡ t.book.journal)
  no_more c x at n e = (
    c,
    n.noted,
    at ∙ ap Some n.is,
    sym (append-nil n.noted.journal) ∙ ap (λ (l : List Event). n.noted.journal ++ l) (sym e) ∙ n.since.grows,
  )

  -- the last event since a note is of another caller's ticket
  last_of_other : (c : ℕ) (x : Content S) (n : IsNote t.script t.book c x) (l : HasLast n.since.since) → IsOfOther t.book.journal c l.last
  last_of_other c x n l =
      let P : List Event → Type 0 = λ es. AllByRecursion (λ e. IsOfOther t.book.journal c e) es in
      All-last (λ e. IsOfOther t.book.journal c e) l.front l.last (subst P l.is n.since.of_others)

  -- it is the journal's last one
  ends_with : (c : ℕ) (x : Content S) (n : IsNote t.script t.book c x) (l : HasLast n.since.since) → (n.noted.journal ++ l.front) ++ l.last ∷ [] ≡ t.book.journal
  ends_with c x n l = append_assoc n.noted.journal l.front (l.last ∷ []) ∙ ap (λ (es : List Event). n.noted.journal ++ es) (sym l.is) ∙ n.since.grows

  -- who made the journal's last event has the whole journal in its note
  pub whole_note : 0 < length notes → (c : ℕ) × (noted : Book) × (slice_get notes c ≡ Some (Register t.script noted)) × (noted.journal ≡ t.book.journal)
  whole_note some =
      let x : (x : Content S) × (slice_get notes 0 ≡ Some x) = get-within notes 0 some in
      let n : IsNote t.script t.book 0 x.0 = t.noted 0 x.0 x.1 in
      elim (ends n.since.since) [
        | inl e ↦ no_more 0 x.0 x.1 n e
        | inr l ↦ made l (last_of_other 0 x.0 n l)
      ]
    where
      first : (x : Content S) × (slice_get notes 0 ≡ Some x)
      first = get-within notes 0 some

      first_note : IsNote t.script t.book 0 first.0
      first_note = t.noted 0 first.0 first.1

      made : (l : HasLast first_note.since.since) → IsOfOther t.book.journal 0 l.last → (c : ℕ) × (noted : Book) × (slice_get notes c ≡ Some (Register t.script noted)) × (noted.journal ≡ t.book.journal)
      made l o =
          let near : o.0 < length notes = omega (arith, owned (meaning t.script) (length t.book.records) t.book.journal t.lawful.turns (ticket_of l.last) o.0 o.1, t.callers) in
          let y : (y : Content S) × (slice_get notes o.0 ≡ Some y) = get-within notes o.0 near in
          let k : IsNote t.script t.book o.0 y.0 = t.noted o.0 y.0 y.1 in
          elim (ends k.since.since) [
            | inl e ↦ no_more o.0 y.0 y.1 k e
            | inr j ↦ absurd (clash k j (last_of_other o.0 y.0 k j))
          ]
        where
          clash : {y : Content S} (k : IsNote t.script t.book o.0 y) (j : HasLast k.since.since) → IsOfOther t.book.journal o.0 j.last → ⊥
          clash {y} k j q =
              let same : j.last ≡ l.last = same_last (k.noted.journal ++ j.front) (first_note.noted.journal ++ l.front) j.last l.last (ends_with o.0 y k j ∙ sym (ends_with 0 first.0 first_note l)) in
              let e : owner t.book.journal (ticket_of j.last) ≡ owner t.book.journal (ticket_of l.last) = ap (λ (v : Event). owner t.book.journal (ticket_of v)) same in
              q.2 (same_Some q.0 o.0 (sym q.1 ∙ e ∙ o.1))

  module _ (script : S) (book : Book) (at : slice_get contents 0 ≡ Some (Register script book)) where
    same : ◌≡◌ {A = Content S} (Register t.script t.book) (Register script book)
    same = same_Some _ _ (sym t.register ∙ at)

    script_is : t.script ≡ script
    script_is = same_script t.script script t.book book same

    book_is : t.book ≡ book
    book_is = same_book t.script script t.book book same

    lawful_book : Lawful (meaning script) book
    lawful_book =
        let P : S → Type 0 = λ s. Lawful (meaning s) book in
        let Q : Book → Type 0 = λ b. Lawful (meaning t.script) b in
        subst P script_is (subst Q book_is t.lawful)

    shard_is : (j : ℕ) (x : Content S) → slice_get contents (suc j) ≡ Some x → IsShard (meaning script) (length contents) book.journal j x
    shard_is j x e =
        let P : S → Type 0 = λ s. IsShard (meaning s) (length contents) book.journal j x in
        let Q : Book → Type 0 = λ b. IsShard (meaning t.script) (length contents) b.journal j x in
        subst P script_is (subst Q book_is (t.shards j x e))

    abbrev m : Meaning
    m = meaning script

    pub replays_by_ticket : IsScript (meaning script) → ReplaysByTicket (meaning script) script contents notes book
    replays_by_ticket kept = record {
      replays = (regrouped_lawful m book lawful_book).replays;
      tables = (regrouped_lawful m book lawful_book).same;
      shards = λ j x e.
          let k : IsShard m (length contents) book.journal j x = shard_is j x e in
          (k.room, k.is ∙ ap (λ c. Shard c k.room) (k.share_is ∙ ap (λ (ts : Tables). part (shards_in m (length contents)) (j % shards_in m (length contents)) (table ts (j / shards_in m (length contents)))) (sym (regrouped_lawful m book lawful_book).same)));
      foreknown = λ u near. foreknown m book kept lawful_book u near;
      fronts = λ c x e.
          let g : (noted : Book) × (x ≡ Register t.script noted) × Grows noted.journal t.book.journal = note_grows c x e in
          let P : Book → Type 0 = λ b. Grows g.0.journal b.journal in
          (g.0, g.1 ∙ ap (λ (s : S). Register s g.0) script_is, subst P book_is g.2);
      whole = λ some.
          let w : (c : ℕ) × (noted : Book) × (slice_get notes c ≡ Some (Register t.script noted)) × (noted.journal ≡ t.book.journal) = whole_note some in
          (w.0, w.1, w.2 ∙ ap (λ (s : S). Some (Register s w.1)) script_is, w.3 ∙ ap (λ (b : Book). b.journal) book_is);
    }

pub counted : {S : Type 0} (meaning : S → Meaning) (contents notes : List (Content S)) (script : S) (book : Book) → IsScript (meaning script) → Tied meaning contents notes → slice_get contents 0 ≡ Some (Register script book) → ReplaysByTicket (meaning script) script contents notes book
counted meaning contents notes script book kept t at = replays_by_ticket meaning contents notes t script book at kept
