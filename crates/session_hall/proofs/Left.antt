-- A hall whose callers are all out.
use Rattle.std.proofs.Common.{◌≡◌, ℕ, zero, suc, ◌+◌, ◌*◌, ◌/◌, ◌%◌, ◌<◌, ◌≤◌, List, [], ◌∷◌, ◌++◌, length, map, drop, get_or, append_assoc, append-nil, Option, Some, IsSome, is_some, refl, sym, ◌∙◌, ap, subst, arith}
use Rattle.std.specs.Prelude.{slice_get}
use Rattle.std.proofs.lemmas.List.{length-map, map-append}
use Rattle.std.proofs.lemmas.Option.{slice_get_within, same_Some}
use Rattle.std.specs.List.{AllByRecursion}
use Rattle.session_values.specs.declared.reply.Reply.{Reply}
use Rattle.session_values.specs.Serial.{serial_replies, tables_before}
use Rattle.session_values.specs.Tables.{Container, table}
use Rattle.session_journal.specs.declared.event.Event.{Event}
use Rattle.session_journal.specs.Journal.{begun, ended, after}
use Rattle.session_journal.specs.Script.{Meaning, session_of}
use Rattle.shard_tables.specs.Parts.{part}
use Rattle.admission_book.specs.Book.{Book, record_of}
use Rattle.admission_book.specs.Methods.{BookView, Grows}
use Rattle.admission_book.specs.Lawful.{Lawful}
use Rattle.turn_board.specs.Boards.{AllEnd, Ends, note, turn_count}
use Rattle.hall_rule.specs.declared.held.Held.{Held}
use Rattle.hall_rule.specs.declared.held.Held.TheVariants as value
use Rattle.shard_tables.specs.declared.part.Part.{Part}
use Rattle.hall_rule.specs.Contents.{Content, Register, Shard, shards_in}
use Rattle.hall_rule.specs.Halls.{AllEnded, IsOut}
use Rattle.hall_rule.specs.Law.{same_script, same_book, same_container, apart_contents}
use Rattle.shard_tables.specs.Either.{shard_view}
use Rattle.hall_rule.specs.Shards.{content_of}
use Rattle.hall_rule.specs.Tie.{Tied}
use Rattle.hall_rule.proofs.Counting.{note_grows, whole_note}
use Rattle.hall_rule.proofs.Halls.{all_ended}
use Rattle.session_hall.specs.declared.caller.Caller.{Caller}
use Rattle.session_hall.specs.declared.hall.Hall.{Hall}
use Rattle.session_hall.specs.declared.stage.Stage.{Stage}
use Rattle.session_hall.specs.declared.stage.Stage.TheVariants.{Out}
use Rattle.session_hall.specs.Callers.{IsCallerOf, book_in, book_of, foresight_of}
use Rattle.session_hall.specs.Closings.{HasLeft, IsDone, IsNotedBy, IsTable, Leaves}
use Rattle.session_hall.specs.Names.{script_of}
use Rattle.session_hall.specs.Stages.{SeatOf, Stands}
use Rattle.session_hall.proofs.OneShard.{shards_are}
use Rattle.session_hall.proofs.Giving.{is_told}
use Rattle.turn_board.proofs.Rows.{get-within, map-get, map-read}
use Rattle.turn_board.proofs.Moving.{first_of}

-- ---- the callers' seats
pub same_seats : {S : Type 0} (xs ys : List (Caller S)) → xs ≡ ys → map (λ (c : Caller S). c.seat) xs ≡ map (λ (c : Caller S). c.seat) ys
same_seats xs ys e = ap (map (λ c. c.seat)) e

module _ {S : Type 0} (meaning : S → Meaning) (h : Hall S) (i : ℕ) (c : Caller S) (l : Leaves meaning h i c) where
  stands_out : Stands (meaning (script_of h)) (turn_count h.board) Out (foresight_of c) (book_of c) c.seat c.hands.pairs
  stands_out = let P : Stage → Type 0 = λ s. Stands (meaning (script_of h)) (turn_count h.board) s (foresight_of c) (book_of c) c.seat c.hands.pairs in subst P l.out l.caller.stands

  ends_here : Ends h.board h.sizes.callers i c.seat
  ends_here = record { seat = l.caller.seat; caller_is = l.caller.number_is ∙ l.number_is; caller_count_is = l.caller.caller_count_is; free = stands_out.2.free }

  out_here : (x : Content S) → note c.seat ≡ Some x → IsOut (meaning (script_of h)) (script_of h) i x
  out_here x e = record {
    book = book_of c;
    is = same_Some x (Register (script_of h) (book_of c)) (sym e ∙ l.caller.noted);
    no_ticket = ap (record_of (book_of c)) (sym (l.caller.number_is ∙ l.number_is)) ∙ stands_out.0;
    all = stands_out.1;
  }

module _ {S : Type 0} (meaning : S → Meaning) (h : Hall S) (callers : List (Caller S)) (all : length callers ≡ h.sizes.callers) (some : 0 < h.sizes.callers) (leave : (i : ℕ) (c : Caller S) → slice_get callers i ≡ Some c → Leaves meaning h i c) (seats : List (SeatOf S)) (seats_are : seats ≡ map (λ (c : Caller S). c.seat) callers) where
  seat_at : (i : ℕ) (s : SeatOf S) → slice_get seats i ≡ Some s → (c : Caller S) × (slice_get callers i ≡ Some c) × (c.seat ≡ s)
  seat_at i s e = map-read (λ (c : Caller S). c.seat) callers i s (ap (λ (l : List (SeatOf S)). slice_get l i) (sym seats_are) ∙ e)

  as_many : length seats ≡ h.sizes.callers
  as_many = ap length seats_are ∙ length-map callers (λ (c : Caller S). c.seat) ∙ all

  pub all_end : AllEnd h.board (length seats) seats
  all_end = λ i s e.
      let c : (c : Caller S) × (slice_get callers i ≡ Some c) × (c.seat ≡ s) = seat_at i s e in
      let P : SeatOf S → Type 0 = λ z. Ends h.board (length seats) i z in
      let Q : ℕ → Type 0 = λ n. Ends h.board n i c.0.seat in
      subst P c.2 (subst Q (sym as_many) (ends_here meaning h i c.0 (leave i c.0 c.1)))

  pub some_seats : 0 < length seats
  some_seats = omega (arith, as_many, some)

  pub first : (c : Caller S) × (slice_get callers 0 ≡ Some c)
  first = get-within callers 0 (omega (arith, all, some))

  pub first_caller : IsCallerOf meaning h first.0
  first_caller = (leave 0 first.0 first.1).caller

  module _ (values : List (Held S)) (turns : length values ≡ turn_count h.board) (notes : List (Content S)) (noted : map Some notes ≡ map note seats) (tied : Tied meaning (map content_of values) notes) where
    notes_many : length notes ≡ length seats
    notes_many = sym (length-map notes (λ (x : Content S). Some x)) ∙ ap length noted ∙ length-map seats note

    -- whose note it is
    noted_at : (c : ℕ) (x : Content S) → slice_get notes c ≡ Some x → (d : Caller S) × (slice_get callers c ≡ Some d) × (note d.seat ≡ Some x)
    noted_at c x e =
        let at : ◌≡◌ {A = Option (Option (Content S))} (slice_get (map note seats) c) (Some (Some x)) = ap (λ (l : List (Option (Content S))). slice_get l c) (sym noted) ∙ map-get (λ (y : Content S). Some y) notes c x e in
        let s : (s : SeatOf S) × (slice_get seats c ≡ Some s) × (note s ≡ Some x) = map-read note seats c (Some x) at in
        let d : (d : Caller S) × (slice_get callers c ≡ Some d) × (d.seat ≡ s.0) = seat_at c s.0 s.1 in
        (d.0, d.1, ap note d.2 ∙ s.2)

    notes_out : (c : ℕ) (x : Content S) → slice_get notes c ≡ Some x → IsOut (meaning (script_of h)) (script_of h) c x
    notes_out c x e =
        let d : (d : Caller S) × (slice_get callers c ≡ Some d) × (note d.seat ≡ Some x) = noted_at c x e in
        out_here meaning h c d.0 (leave c d.0 d.1) x d.2

    turns_are : length values ≡ 1 + length (meaning (script_of h)).shape * h.sizes.shards
    turns_are = turns ∙ first_caller.turns_are ∙ ap (λ (a : ℕ). 1 + a * h.sizes.shards) (sym first_caller.tables_are)

    -- there is a record for each caller
    as_many_records : (a : ℕ) (e : AllEnded (meaning (script_of h)) (script_of h) (map content_of values) a) → length e.book.records ≡ h.sizes.callers
    as_many_records a e =
        let same : tied.book ≡ e.book = same_book tied.script (script_of h) tied.book e.book (same_Some _ _ (sym tied.register ∙ e.register)) in
        ap (λ (b : Book). length b.records) (sym same) ∙ tied.callers ∙ notes_many ∙ as_many

    -- what stands in the callers' notes
    whole_in : (i : ℕ) (b : Book) → slice_get notes i ≡ Some (Register tied.script b) → b.journal ≡ tied.book.journal → (j : ℕ) × (c : Caller S) × (slice_get callers j ≡ Some c) × ((book_of c).journal ≡ tied.book.journal)
    whole_in i b e same =
        let r : (d : Caller S) × (slice_get callers i ≡ Some d) × (note d.seat ≡ Some (Register tied.script b)) = noted_at i (Register tied.script b) e in
        (i, r.0, r.1, ap (λ (o : Option (Content S)). (book_in o).journal) r.2 ∙ same)

    whole_journal : (i : ℕ) × (c : Caller S) × (slice_get callers i ≡ Some c) × ((book_of c).journal ≡ tied.book.journal)
    whole_journal =
        let w : (i : ℕ) × (noted : Book) × (slice_get notes i ≡ Some (Register tied.script noted)) × (noted.journal ≡ tied.book.journal) = whole_note meaning (map content_of values) notes tied (omega (arith, notes_many, some_seats)) in
        whole_in w.0 w.1 w.2 w.3

    front_journal : (i : ℕ) (c : Caller S) → slice_get callers i ≡ Some c → Grows (book_of c).journal tied.book.journal
    front_journal i c e =
        let x : Content S = Register (script_of h) (book_of c) in
        let seat : slice_get seats i ≡ Some c.seat = ap (λ (l : List (SeatOf S)). slice_get l i) seats_are ∙ map-get (λ (d : Caller S). d.seat) callers i c e in
        let at : ◌≡◌ {A = Option (Option (Content S))} (slice_get (map Some notes) i) (Some (Some x)) = ap (λ (l : List (Option (Content S))). slice_get l i) noted ∙ map-get note seats i c.seat seat ∙ ap Some (leave i c e).caller.noted in
        let y : (y : Content S) × (slice_get notes i ≡ Some y) × (Some y ≡ Some x) = map-read (λ (z : Content S). Some z) notes i (Some x) at in
        let g : (b : Book) × (x ≡ Register tied.script b) × Grows b.journal tied.book.journal = note_grows meaning (map content_of values) notes tied i x (y.1 ∙ y.2) in
        let P : Book → Type 0 = λ b. Grows b.journal tied.book.journal in
        subst P (sym (same_book (script_of h) tied.script (book_of c) g.0 g.1)) g.2

    noted_by : (a : ℕ) (e : AllEnded (meaning (script_of h)) (script_of h) (map content_of values) a) → IsNotedBy callers e.book.journal
    noted_by a e =
        let same : tied.book ≡ e.book = same_book tied.script (script_of h) tied.book e.book (same_Some _ _ (sym tied.register ∙ e.register)) in
        let P : Book → Type 0 = λ b. IsNotedBy callers b.journal in
        subst P same (record { whole = whole_journal; fronts = front_journal })

    pub has_left : HasLeft meaning h callers values
    has_left =
        let P : ℕ → Type 0 = λ a. AllEnded (meaning (script_of h)) (script_of h) (map content_of values) a in
        let all : AllEnded (meaning (script_of h)) (script_of h) (map content_of values) (length values) = subst P (length-map values content_of) (all_ended meaning (script_of h) (map content_of values) notes first_caller.script_kept tied (omega (arith, notes_many, some_seats)) notes_out) in
        record {
          script_kept = first_caller.script_kept;
          some_shards = first_caller.some_shards;
          long = turns_are;
          few = omega (arith, turns, first_caller.few_turns);
          ended = all;
          callers = as_many_records (length values) all;
          noted = noted_by (length values) all;
        }

-- ---- the book, and the shards behind it
pub split_values : {S : Type 0} (meaning : S → Meaning) (h : Hall S) (callers : List (Caller S)) (values rest : List (Held S)) (v : Held S) → HasLeft meaning h callers values → v ≡ get_or values 0 v → rest ≡ drop 1 values → values ≡ v ∷ rest
split_values {S} meaning h callers values rest v l e is = first_of values v (omega (arith, l.long)) e ∙ ap (λ (xs : List (Held S)). v ∷ xs) (sym is)

some_is : {X : Type 0} (o : Option X) (x : X) → o ≡ Some x → IsSome o
some_is o x e = ap is_some e

module _ {S : Type 0} (meaning : S → Meaning) (h : Hall S) (callers : List (Caller S)) (values rest : List (Held S)) (v : Held S) (is : values ≡ v ∷ rest) (l : HasLeft meaning h callers values) where
  abbrev m : Meaning
  m = meaning (script_of h)

  register_at : content_of v ≡ Register (script_of h) l.ended.book
  register_at = same_Some _ _ (ap (λ (xs : List (Held S)). slice_get (map content_of xs) 0) (sym is) ∙ l.ended.register)

  pub no_table : (p : Part) → v ≡ value.Table p → ⊥
  no_table p e = apart_contents (script_of h) l.ended.book (shard_view p).container (shard_view p).room (sym register_at ∙ ap content_of e)

  pub all_tables : AllByRecursion IsTable rest
  all_tables = go rest (λ j x e.
      let p = l.ended.parts j (content_of x) (ap (λ (xs : List (Held S)). slice_get (map content_of xs) (suc j)) is ∙ map-get content_of rest j x e) in
      table_of x _ p.0 p.1)
    where
      table_of : (x : Held S) (d : Container) (r : ℕ) → content_of x ≡ Shard d r → IsTable x
      table_of (value.Table p) d r e = tt
      table_of (value.Register b) d r e = absurd (apart_contents b.script b.book d r e)

      go : (xs : List (Held S)) → ((j : ℕ) (x : Held S) → slice_get xs j ≡ Some x → IsTable x) → AllByRecursion IsTable xs
      go [] f = tt
      go (x ∷ xs) f = (f 0 x refl, go xs (λ j y e. f (suc j) y e))

  module _ (b : BookView S) (at : v ≡ value.Register b) where
    same_here : ◌≡◌ {A = Content S} (Register b.script b.book) (Register (script_of h) l.ended.book)
    same_here = ap content_of (sym at) ∙ register_at

    script_is : b.script ≡ script_of h
    script_is = same_script b.script (script_of h) b.book l.ended.book same_here

    book_is : b.book ≡ l.ended.book
    book_is = same_book b.script (script_of h) b.book l.ended.book same_here

    pub lawful_here : Lawful (meaning b.script) b.book
    lawful_here =
        let P : S → Type 0 = λ s. Lawful (meaning s) b.book in
        let Q : Book → Type 0 = λ w. Lawful m w in
        subst P (sym script_is) (subst Q (sym book_is) l.ended.lawful)

    pub ended_here : (t : ℕ) → t < (meaning b.script).requests → IsSome (ended b.book.journal t)
    ended_here t near =
        let P : S → Type 0 = λ s. t < (meaning s).requests in
        let e : (r : Reply) × (ended l.ended.book.journal t ≡ Some r) = l.ended.all_ended t (subst P script_is near) in
        some_is (ended b.book.journal t) e.0 (ap (λ (w : Book). ended w.journal t) book_is ∙ e.1)

    pub noted_here : (J : List Event) → J ≡ b.book.journal → IsNotedBy callers J
    noted_here J e = let P : List Event → Type 0 = λ K. IsNotedBy callers K in subst P (sym (e ∙ ap (λ (w : Book). w.journal) book_is)) l.noted

    module _ (J : List Event) (journal : J ≡ b.book.journal) (replies : List Reply) (serial : replies ≡ serial_replies (session_of (meaning b.script)) (meaning b.script).requests) (tables : after (meaning b.script).opening J ≡ tables_before (session_of (meaning b.script)) (meaning b.script).requests) (parts : List Part) (parts_are : map value.Table parts ≡ rest) where
      abbrev sh : ℕ
      sh = shards_in (meaning (script_of h)) (length values)

      J_is : J ≡ l.ended.book.journal
      J_is = journal ∙ ap (λ (w : Book). w.journal) book_is

      parts_many : length parts ≡ length m.shape * h.sizes.shards
      parts_many =
          let e : length values ≡ suc (length parts) = ap length is ∙ ap suc (sym (ap length parts_are) ∙ length-map parts value.Table) in
          omega (arith, e, l.long)

      part_is : (j : ℕ) (x : Part) → slice_get parts j ≡ Some x → (shard_view x).container ≡ part h.sizes.shards (j % h.sizes.shards) (table (tables_before (session_of m) m.requests) (j / h.sizes.shards))
      part_is j x e =
          let at_values : slice_get (map content_of values) (suc j) ≡ Some (content_of (value.Table x)) = ap (λ (xs : List (Held S)). slice_get (map content_of xs) (suc j)) is ∙ map-get content_of rest j (value.Table x) (ap (λ (xs : List (Held S)). slice_get xs j) (sym parts_are) ∙ map-get value.Table parts j x e) in
          let p : (r : ℕ) × (content_of (value.Table x) ≡ Shard (part sh (j % sh) (table (tables_before (session_of m) m.requests) (j / sh))) r) = l.ended.parts j (content_of (value.Table x)) at_values in
          let here : (shard_view x).container ≡ part sh (j % sh) (table (tables_before (session_of m) m.requests) (j / sh)) = same_container {S = S} (shard_view x).container (part sh (j % sh) (table (tables_before (session_of m) m.requests) (j / sh))) (shard_view x).room p.0 p.1 in
          here ∙ ap (λ (a : ℕ). part a (j % a) (table (tables_before (session_of m) m.requests) (j / a))) shards_known
        where
          shards_known : sh ≡ h.sizes.shards
          shards_known = shards_are (length values) (length m.shape) h.sizes.shards l.long (some_tables (length m.shape) h.sizes.shards (omega (arith, slice_get_within parts j x e, parts_many)))
            where
              some_tables : (a n : ℕ) → 0 < a * n → 0 < a
              some_tables zero n p = absurd (omega (arith, p))
              some_tables (suc a) n p = omega arith

      pub is_done : IsDone m (record { journal = J; replies = replies; parts = parts; shards = h.sizes.shards; callers = h.sizes.callers })
      is_done = record {
        script_kept = l.script_kept;
        book = l.ended.book;
        journal_is = J_is;
        callers_are = l.callers;
        lawful = l.ended.lawful;
        told = is_told m l.ended.book l.script_kept l.ended.lawful;
        all_begun = ap begun J_is ∙ l.ended.all_begun;
        all_ended = λ t near. let e : (r : Reply) × (ended l.ended.book.journal t ≡ Some r) = l.ended.all_ended t near in (e.0, ap (λ (K : List Event). ended K t) J_is ∙ e.1);
        replies = serial ∙ ap (λ (s : S). serial_replies (session_of (meaning s)) (meaning s).requests) script_is;
        tables = ap (λ (s : S). after (meaning s).opening J) (sym script_is) ∙ tables ∙ ap (λ (s : S). tables_before (session_of (meaning s)) (meaning s).requests) script_is;
        some_shards = l.some_shards;
        parts_are = parts_many;
        parts = part_is;
      }

-- ---- the shards are moved out
module _ {S : Type 0} where
  pub parts_long : (parts : List Part) (rest : List (Held S)) → map value.Table parts ≡ rest → length parts ≡ length rest
  parts_long parts rest e = sym (length-map {B = Held S} parts value.Table) ∙ ap length e

  pub parts_next : (xs ys : List (Held S)) (a : Held S) (p : Part) (parts later : List Part) (all : List (Held S)) → 0 < length xs → a ≡ get_or xs 0 a → ys ≡ drop 1 xs → a ≡ value.Table p → later ≡ parts ++ p ∷ [] → map value.Table parts ++ xs ≡ all → map value.Table later ++ ys ≡ all
  parts_next xs ys a p parts later all h e rest at is m =
      (λ i. map value.Table (is i) ++ rest i)
      ∙ ap (λ (l : List (Held S)). l ++ drop 1 xs) (map-append value.Table parts (p ∷ []))
      ∙ append_assoc (map value.Table parts) (value.Table p ∷ []) (drop 1 xs)
      ∙ ap (λ (l : List (Held S)). map value.Table parts ++ l) (ap (λ (z : Held S). z ∷ drop 1 xs) (sym at) ∙ sym (first_of xs a h e))
      ∙ m

  pub parts_all : (xs : List (Held S)) (parts : List Part) (all : List (Held S)) → length xs ≤ 0 → map value.Table parts ++ xs ≡ all → map value.Table parts ≡ all
  parts_all [] parts all h m = sym (append-nil (map value.Table parts)) ∙ m
  parts_all (x ∷ xs) parts all h m = absurd (omega (arith, h))

  pub tables_next : (xs ys : List (Held S)) → ys ≡ drop 1 xs → AllByRecursion IsTable xs → AllByRecursion IsTable ys
  tables_next [] ys e t = let P : List (Held S) → Type 0 = λ l. AllByRecursion IsTable l in subst P (sym e) tt
  tables_next (x ∷ xs) ys e t = let P : List (Held S) → Type 0 = λ l. AllByRecursion IsTable l in subst P (sym e) t.1

  pub no_book : (xs : List (Held S)) (a : Held S) (b : BookView S) → 0 < length xs → a ≡ get_or xs 0 a → a ≡ value.Register b → AllByRecursion IsTable xs → ⊥
  no_book [] a b h e at t = absurd (omega (arith, h))
  no_book (x ∷ xs) a b h e at t = let P : Held S → Type 0 = λ z. IsTable z in subst P (sym e ∙ at) t.0
