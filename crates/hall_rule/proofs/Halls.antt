-- A hall as it is opened and as it is closed.
use Rattle.std.proofs.Common.{◌≡◌, ℕ, zero, suc, ◌<◌, ◌≤◌, ◌/◌, ◌%◌, List, [], ◌∷◌, ◌++◌, length, replicate, Option, Some, None, refl, sym, ◌∙◌, ap, subst, arith}
use Rattle.std.specs.Prelude.{slice_get}
use Rattle.std.proofs.lemmas.List.{length-replicate}
use Rattle.std.proofs.lemmas.Option.{none-some, same_Some}
use Rattle.session_values.specs.declared.reply.Reply.{Reply}
use Rattle.session_values.specs.Serial.{tables_before}
use Rattle.session_values.specs.Tables.{Container, Tables, table}
use Rattle.session_journal.specs.Journal.{begun, ended}
use Rattle.session_journal.specs.Script.{Meaning, IsScript, session_of}
use Rattle.shard_tables.specs.Parts.{part}
use Rattle.admission_book.specs.Book.{Book, Serving, opened, record_of}
use Rattle.admission_book.specs.Lawful.{Lawful}
use Rattle.session_journal.specs.EventsInTurn.{IsOpen}
use Rattle.session_journal.proofs.Events.{begun-append}
use Rattle.admission_book.proofs.Foreknown.{opened_lawful}
use Rattle.admission_book.proofs.Foreknown as book
use Rattle.admission_book.proofs.Records.{within}
use Rattle.session_journal.proofs.EventCounts.{few_begun}
use Rattle.turn_board.proofs.Rows.{get-within}
use Rattle.hall_rule.specs.Contents.{Content, Register, Shard, shards_in, share, tables_after, IsShard, IsNote}
use Rattle.hall_rule.specs.Tie.{Tied}
use Rattle.hall_rule.specs.Halls.{AllEnded, IsFresh, IsOut, first_content}
use Rattle.hall_rule.specs.Law.{same_script, same_book, just_now}

-- ---- opening
got_replicate : {X : Type 0} (n : ℕ) (x y : X) (i : ℕ) → slice_get (replicate n x) i ≡ Some y → y ≡ x
got_replicate zero x y i e = absurd (none-some y e)
got_replicate (suc n) x y zero e = sym (same_Some x y e)
got_replicate (suc n) x y (suc i) e = got_replicate n x y i e

pub opened_tied : {S : Type 0} (meaning : S → Meaning) (script : S) (callers : ℕ) (shards : List (Content S)) → ((j : ℕ) (x : Content S) → slice_get shards j ≡ Some x → IsFresh (meaning script) (suc (length shards)) j x) → Tied meaning (first_content meaning script callers ∷ shards) (replicate callers (first_content meaning script callers))
opened_tied {S} meaning script callers shards fresh = record {
  script = script;
  book = opened (meaning script).requests callers;
  register = refl;
  lawful = opened_lawful (meaning script) callers;
  callers = length-replicate {A = Option Serving} callers None ∙ sym (length-replicate callers (first_content meaning script callers));
  shards = λ j x e.
      let f : IsFresh (meaning script) (suc (length shards)) j x = fresh j x e in
      record { container = share (meaning script) (suc (length shards)) [] j; room = f.room; is = f.is; share_is = refl; enough = f.enough };
  noted = λ c x e. record { noted = opened (meaning script).requests callers; is = got_replicate callers (first_content meaning script callers) x c e; since = just_now (opened (meaning script).requests callers) c };
}

-- ---- closing
module _ {S : Type 0} (meaning : S → Meaning) (script : S) (contents notes : List (Content S)) (lawful : IsScript (meaning script)) (t : Tied meaning contents notes) (some : 0 < length notes) (out : (c : ℕ) (x : Content S) → slice_get notes c ≡ Some x → IsOut (meaning script) script c x) where
  abbrev m : Meaning
  m = meaning script

  first : (x : Content S) × (slice_get notes 0 ≡ Some x)
  first = get-within notes 0 some

  first_note : IsNote t.script t.book 0 first.0
  first_note = t.noted 0 first.0 first.1

  first_out : IsOut m script 0 first.0
  first_out = out 0 first.0 first.1

  script_is : t.script ≡ script
  script_is = same_script t.script script first_note.noted first_out.book (sym first_note.is ∙ first_out.is)

  -- a caller's record in the book is empty
  no_record : (c : ℕ) → c < length notes → record_of t.book c ≡ None
  no_record c l =
      let r : (x : Content S) × (slice_get notes c ≡ Some x) = get-within notes c l in
      let n : IsNote t.script t.book c r.0 = t.noted c r.0 r.1 in
      let o : IsOut m script c r.0 = out c r.0 r.1 in
      sym n.since.own ∙ ap (λ (d : Book). record_of d c) (same_book t.script script n.noted o.book (sym n.is ∙ o.is)) ∙ o.no_ticket

  lawful_here : Lawful m t.book
  lawful_here = let P : S → Type 0 = λ s. Lawful (meaning s) t.book in subst P script_is t.lawful

  none_open : (u : ℕ) → IsOpen t.book.journal u → ⊥
  none_open u o =
      let p : (c : ℕ) × (s : Serving) × (record_of t.book c ≡ Some s) × (s.ticket ≡ u) = lawful_here.placed u o in
      none-some p.1 (sym (no_record p.0 (omega (arith, within t.book.records p.0 p.1 p.2, t.callers))) ∙ p.2)

  all_begun : begun t.book.journal ≡ m.requests
  all_begun =
      let low : m.requests ≤ begun first_out.book.journal = first_out.all in
      let e : begun first_out.book.journal ≡ begun first_note.noted.journal = ap (λ (d : Book). begun d.journal) (sym (same_book t.script script first_note.noted first_out.book (sym first_note.is ∙ first_out.is))) in
      let g : begun (first_note.noted.journal ++ first_note.since.since) ≡ begun t.book.journal = ap begun first_note.since.grows in
      omega (arith, low, e, g, begun-append first_note.noted.journal first_note.since.since, few_begun m (length t.book.records) t.book.journal lawful_here.turns)

  has_ended : (u : ℕ) → u < begun t.book.journal → (r : Reply) × (ended t.book.journal u ≡ Some r)
  has_ended u l = go (ended t.book.journal u) refl
    where
      go : (o : Option Reply) → ended t.book.journal u ≡ o → (r : Reply) × (ended t.book.journal u ≡ Some r)
      go None e = absurd (none_open u (record { begun = l; not_ended = e }))
      go (Some r) e = (r, e)

  tables_are : tables_after m t.book.journal ≡ tables_before (session_of m) m.requests
  tables_are = book.all_ended m t.book lawful lawful_here has_ended ∙ ap (tables_before (session_of m)) all_begun

  pub all_ended : AllEnded m script contents (length contents)
  all_ended = record {
    book = t.book;
    register = t.register ∙ ap (λ (s : S). Some (Register s t.book)) script_is;
    lawful = lawful_here;
    all_begun = all_begun;
    all_ended = λ u l. has_ended u (omega (arith, l, all_begun));
    parts = λ j x e.
        let P : S → Type 0 = λ s. IsShard (meaning s) (length contents) t.book.journal j x in
        let k : IsShard m (length contents) t.book.journal j x = subst P script_is (t.shards j x e) in
        (k.room, k.is ∙ ap (λ (c : Container). Shard c k.room) (k.share_is ∙ ap (λ (ts : Tables). part (shards_in m (length contents)) (j % shards_in m (length contents)) (table ts (j / shards_in m (length contents)))) tables_are));
  }
