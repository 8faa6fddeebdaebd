-- What is in hand stays one change of the counted contents, as the book in hand changes again.
use Rattle.std.proofs.Common.{◌≡◌, ℕ, suc, List, [], ◌++◌, length, Option, Some, None, refl, sym, ◌∙◌, ap, subst, append_assoc}
use Rattle.std.specs.List.{AllByRecursion}
use Rattle.std.proofs.lemmas.Option.{same_Some}
use Rattle.session_values.proofs.Lists.{all_join, all_weaker}
use Rattle.session_values.specs.Tables.{Container}
use Rattle.session_journal.specs.declared.event.Event.{Event}
use Rattle.session_journal.specs.Journal.{caller_of, done_operations, owner, ticket_of}
use Rattle.session_journal.specs.Script.{Meaning}
use Rattle.session_journal.proofs.Events.{first_stays}
use Rattle.admission_book.specs.Book.{Book, record_of}
use Rattle.admission_book.specs.Lawful.{Lawful}
use Rattle.admission_book.specs.Methods.{BookView}
use Rattle.turn_board.specs.Hands.{put_back}
use Rattle.hall_rule.specs.declared.held.Held.{Held}
use Rattle.hall_rule.specs.declared.held.Held.TheVariants as value
use Rattle.hall_rule.specs.Contents.{Content, Register, Shard, share}
use Rattle.hall_rule.specs.Law.{same_book, same_room, same_script}
use Rattle.hall_rule.specs.Shards.{content_of}
use Rattle.hall_rule.specs.Tie.{Moves}
use Rattle.hall_rule.proofs.Shares.{share_quiet}
use Rattle.session_hall.proofs.Giving.{Changes}

-- the events that were the caller's stay so as the journal grows
still_own : (J more : List Event) (caller : ℕ) (es : List Event)
    → AllByRecursion (λ e. owner J (ticket_of e) ≡ Some caller) es
    → AllByRecursion (λ e. owner (J ++ more) (ticket_of e) ≡ Some caller) es
still_own J more caller es a = all_weaker _ _ (λ e o. first_stays (caller_of (ticket_of e)) J more caller o) es a

module _ {S : Type 0} (meaning : S → Meaning) (turns caller : ℕ)
    (old mid : ℕ → Option (Content S)) (k : Moves meaning turns caller old mid) (script : S)
    (b : Book) (here : mid 0 ≡ Some (Register script b)) where
  register_is : ◌≡◌ {A = Content S} (Register k.script k.now) (Register script b)
  register_is = same_Some _ _ (sym k.is ∙ here)

  pub script_here : k.script ≡ script
  script_here = same_script k.script script k.now b register_is

  pub book_here : k.now ≡ b
  book_here = same_book k.script script k.now b register_is

  -- each shard in hand is one that was counted, and its part of the tables after the book in hand
  pub shard_in_hand : (j : ℕ) (x : Content S) → mid (suc j) ≡ Some x
      → (y : Container) × (room : ℕ) × (old (suc j) ≡ Some (Shard y room))
      × (x ≡ Shard (share (meaning script) turns b.journal j) room)
  shard_in_hand j x e =
      let p : (y : Container) × (room : ℕ) × (old (suc j) ≡ Some (Shard y room)) × (x ≡ Shard (share (meaning k.script) turns k.now.journal j) room) = k.held j x e in
      (p.0, p.1, p.2, p.3 ∙ (λ i. Shard (share (meaning (script_here i)) turns (book_here i).journal j) p.1))

  -- what may be given back may be given back with one more change of the book and of the shards in
  -- hand
  pub moves_on : (new : ℕ → Option (Content S)) (d : Book) (more : List Event)
      → new 0 ≡ Some (Register script d) → Lawful (meaning script) d
      → Changes (meaning script) caller b d more
      → ((j : ℕ) (x : Content S) → new (suc j) ≡ Some x
      → (y : Container) × (room : ℕ) × (mid (suc j) ≡ Some (Shard y room))
      × (x ≡ Shard (share (meaning script) turns d.journal j) room))
      → ((j : ℕ) → new (suc j) ≡ None → (mid (suc j) ≡ None)
      × (share (meaning script) turns b.journal j ≡ share (meaning script) turns d.journal j))
      → Moves meaning turns caller old new
  moves_on new d more is lawful ch held free =
      let J : List Event → Type 0 = λ K. AllByRecursion (λ e. owner K (ticket_of e) ≡ Some caller) k.more in
      let grows : k.now.journal ++ more ≡ d.journal = ap (λ (w : Book). w.journal ++ more) book_here ∙ ch.grows in
      record {
        script = script;
        before = k.before;
        now = d;
        was = k.was ∙ ap (λ (s : S). Some (Register s k.before)) script_here;
        is = is;
        lawful = lawful;
        callers = ch.callers ∙ ap (λ (w : Book). length w.records) (sym book_here) ∙ k.callers;
        others = λ c apart. ch.others c apart ∙ ap (λ (w : Book). record_of w c) (sym book_here) ∙ k.others c apart;
        more = k.more ++ more;
        grows = sym (append_assoc k.before.journal k.more more) ∙ ap (λ (K : List Event). K ++ more) k.grows ∙ grows;
        own = all_join _ k.more more (subst J grows (still_own k.now.journal more caller k.more k.own)) ch.own;
        held = λ j x e.
            let p : (y : Container) × (room : ℕ) × (mid (suc j) ≡ Some (Shard y room)) × (x ≡ Shard (share (meaning script) turns d.journal j) room) = held j x e in
            let q : (y : Container) × (room : ℕ) × (old (suc j) ≡ Some (Shard y room)) × (Shard p.0 p.1 ≡ Shard (share (meaning script) turns b.journal j) room) = shard_in_hand j (Shard p.0 p.1) p.2 in
            (q.0, q.1, q.2, p.3 ∙ ap (Shard (share (meaning script) turns d.journal j)) (same_room {S = S} p.0 _ p.1 q.1 q.3));
        free = λ j e.
            let p : (mid (suc j) ≡ None) × (share (meaning script) turns b.journal j ≡ share (meaning script) turns d.journal j) = free j e in
            ap (λ (s : S). share (meaning s) turns k.before.journal j) (sym script_here) ∙ k.free j p.0
            ∙ (λ i. share (meaning (script_here i)) turns (book_here i).journal j) ∙ p.1;
      }

-- the same where the book in hand is changed without a Done event, and the shards in hand stay
pub moves_quiet : {S : Type 0} (meaning : S → Meaning) (turns caller : ℕ)
    (old : ℕ → Option (Content S)) (b d : BookView S) (xs : List (ℕ × Held S))
    → Moves meaning turns caller old (put_back content_of (value.Register b) xs)
    → d.script ≡ b.script → Lawful (meaning d.script) d.book → (more : List Event)
    → done_operations more ≡ [] → Changes (meaning b.script) caller b.book d.book more
    → Moves meaning turns caller old (put_back content_of (value.Register d) xs)
moves_quiet {S} meaning turns caller old b d xs k kept lawful more quiet ch =
    let L : S → Type 0 = λ s. Lawful (meaning s) d.book in
    let still : (j : ℕ) → share (meaning b.script) turns b.book.journal j ≡ share (meaning b.script) turns d.book.journal j = λ j. share_quiet (meaning b.script) turns b.book.journal more j quiet ∙ ap (λ (J : List Event). share (meaning b.script) turns J j) ch.grows in
    moves_on meaning turns caller old (put_back content_of (value.Register b) xs) k b.script b.book refl (put_back content_of (value.Register d) xs) d.book more
    (ap (λ (s : S). Some (Register s d.book)) kept) (subst L kept lawful) ch
    (λ j x e.
    let p : (y : Container) × (room : ℕ) × (old (suc j) ≡ Some (Shard y room)) × (x ≡ Shard (share (meaning b.script) turns b.book.journal j) room) = shard_in_hand meaning turns caller old (put_back content_of (value.Register b) xs) k b.script b.book refl j x e in
    (share (meaning b.script) turns b.book.journal j, p.1, e ∙ ap Some p.3, p.3 ∙ ap (λ (c : Container). Shard c p.1) (still j)))
    (λ j e. (e, still j))
