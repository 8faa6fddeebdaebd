-- What a caller finds when it takes the book.
use Rattle.std.proofs.Common.{◌≡◌, ℕ, suc, ◌<◌, List, Some, length, sym, ◌∙◌, ap, subst, arith}
use Rattle.std.proofs.lemmas.Option.{same_Some, slice_get_within}
use Rattle.std.specs.Prelude.{slice_get}
use Rattle.session_values.specs.Tables.{Container}
use Rattle.session_journal.specs.Script.{Meaning}
use Rattle.admission_book.specs.Book.{Book}
use Rattle.admission_book.specs.Lawful.{Lawful}
use Rattle.admission_book.specs.Methods.{BookView}
use Rattle.turn_board.specs.Boards.{SameNote, Gained, Tells, held, note, caller, caller_count}
use Rattle.hall_rule.specs.Contents.{Content, Register, Shard, IsShard, IsSince, IsNote, share}
use Rattle.hall_rule.specs.Law.{same_script, same_book, same_container, apart_contents}
use Rattle.hall_rule.specs.Tie.{Tied}
use Rattle.session_hall.specs.Callers.{book_in}
use Rattle.session_hall.specs.Findings.{Finds, HasBook, IsTied, turns_at}
use Rattle.session_hall.specs.Stages.{SeatOf}

-- the rule over the meaning of its script alone
pub one_meaning : {S : Type 0} (meaning : S → Meaning) (script : S) (contents notes : List (Content S)) (t : Tied meaning contents notes) → t.script ≡ script → Tied (λ (s : S). meaning script) contents notes
one_meaning {S} meaning script contents notes t e =
    let P : S → Type 0 = λ s. Lawful (meaning s) t.book in
    record {
      script = t.script;
      book = t.book;
      register = t.register;
      lawful = subst P e t.lawful;
      callers = t.callers;
      shards = λ j x h. let Q : S → Type 0 = λ s. IsShard (meaning s) (length contents) t.book.journal j x in subst Q e (t.shards j x h);
      noted = t.noted;
    }

-- what the rule tells a caller of its hall
module _ {S : Type 0} (meaning : S → Meaning) (script : S) (turns : ℕ) (p q : SeatOf S) (noted : note p ≡ Some (Register script (book_in (note p)))) (v : SameNote p q) (t : Tells (Tied meaning) turns q) where
  note_at : slice_get t.notes (caller p) ≡ Some (Register script (book_in (note p)))
  note_at = ap (slice_get t.notes) (sym v.caller_is) ∙ t.noted ∙ v.note_is ∙ noted

  my_note : IsNote t.tied.script t.tied.book (caller p) (Register script (book_in (note p)))
  my_note = t.tied.noted (caller p) (Register script (book_in (note p))) note_at

  pub script_here : t.tied.script ≡ script
  script_here = sym (same_script script t.tied.script (book_in (note p)) my_note.noted my_note.is)

  pub tells : Tells (Tied (λ (s : S). meaning script)) turns q
  tells = record {
    contents = t.contents;
    notes = t.notes;
    tied = one_meaning meaning script t.contents t.notes t.tied script_here;
    turns_is = t.turns_is;
    callers = t.callers;
    own = t.own;
    noted = t.noted;
  }

  pub is_tied : turns_at q ≡ turns → IsTied (meaning script) q
  is_tied e = let P : ℕ → Type 0 = λ n. Tells (Tied (λ (s : S). meaning script)) n q in subst P (sym e) tells

  pub finds_book : Finds (meaning script) (book_in (note p)) t.tied.book (caller p) (caller_count p)
  finds_book =
      let P : S → Type 0 = λ s. Lawful (meaning s) t.tied.book in
      let Q : Book → Type 0 = λ d. IsSince d t.tied.book (caller p) in
      let near : caller p < length t.notes = slice_get_within t.notes (caller p) (Register script (book_in (note p))) note_at in
      let e : length t.notes ≡ caller_count q = t.callers in
      let r : caller_count q ≡ caller_count p = v.caller_count_is in
      record {
        lawful = subst P script_here t.tied.lawful;
        callers_are = t.tied.callers ∙ e ∙ r;
        near = omega (arith, near, e, r);
        since = subst Q (sym (same_book script t.tied.script (book_in (note p)) my_note.noted my_note.is)) my_note.since;
      }

  -- a turn that is held is behind turn 0, or a shard
  pub shard_at : (j : ℕ) (x : Content S) → held q (suc j) ≡ Some x → IsShard (meaning script) turns t.tied.book.journal j x
  shard_at j x h =
      let P : S → Type 0 = λ s. IsShard (meaning s) turns t.tied.book.journal j x in
      let Q : ℕ → Type 0 = λ n. IsShard (meaning t.tied.script) n t.tied.book.journal j x in
      subst P script_here (subst Q t.turns_is (t.tied.shards j x (t.own (suc j) x h)))

  pub share_at : (j : ℕ) (x : Container) (room : ℕ) → held q (suc j) ≡ Some (Shard x room) → x ≡ share (meaning script) turns t.tied.book.journal j
  share_at j x room h =
      let k : IsShard (meaning script) turns t.tied.book.journal j (Shard x room) = shard_at j (Shard x room) h in
      same_container {S = S} x k.container room k.room k.is ∙ k.share_is

  -- the book was taken
  module _ (b : BookView S) (g : Gained p q 0 (Register b.script b.book)) where
    registers : ◌≡◌ {A = Content S} (Register t.tied.script t.tied.book) (Register b.script b.book)
    registers = same_Some _ _ (sym t.tied.register ∙ t.own 0 (Register b.script b.book) g.here)

    script_is : b.script ≡ script
    script_is = sym (same_script t.tied.script b.script t.tied.book b.book registers) ∙ script_here

    book_is : t.tied.book ≡ b.book
    book_is = same_book t.tied.script b.script t.tied.book b.book registers

    pub has_book : HasBook p q meaning script turns b
    has_book =
        let P : Book → Type 0 = λ d. Finds (meaning script) (book_in (note p)) d (caller p) (caller_count p) in
        let f : Finds (meaning script) (book_in (note p)) b.book (caller p) (caller_count p) = subst P book_is finds_book in
        let Q : S → Type 0 = λ s. Lawful (meaning s) b.book in
        record {
          script_is = script_is;
          lawful = subst Q (sym script_is) f.lawful;
          finds = f;
          here = g.here ∙ ap (λ (s : S). Some (Register s b.book)) script_is;
          others = g.others;
          lost_still = g.lost_is;
          asks_more = g.asks_is;
          givings_still = g.givings_is;
          shares = λ j x room h. share_at j x room h ∙ ap (λ (d : Book). share (meaning script) turns d.journal j) book_is;
          rule = tells;
        }

-- the book's turn holds the book
pub no_shard : {S : Type 0} (meaning : S → Meaning) (turns : ℕ) (p q : SeatOf S) (t : Tells (Tied meaning) turns q) (c : Container) (room : ℕ) → Gained p q 0 (Shard c room) → ⊥
no_shard {S} meaning turns p q t c room g = apart_contents t.tied.script t.tied.book c room (same_Some _ _ (sym t.tied.register ∙ t.own 0 (Shard c room) g.here))
