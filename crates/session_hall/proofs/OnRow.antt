-- An operation is done on the shards of its turns, wherever these are in a caller's hands.
use Rattle.std.proofs.Common.{◌≡◌, ◌≢◌, ℕ, suc, ◌+◌, ◌*◌, ◌-◌, ◌/◌, ◌%◌, ◌<◌, ◌≤◌, List, length, ◌⊎◌, inl, inr, Option, Some, None, IfSome, IsSomeAnd, Bool, true, false, cond, eqb, pos, refl, sym, ◌∙◌, ap, subst, arith}
use Rattle.std.proofs.lemmas.Bool.{eq-eqb, eqb-false, eqb-true, ne_eqb}
use Rattle.std.proofs.lemmas.Nat.{div-mul-add, mod-mul-add}
use Rattle.std.proofs.lemmas.Option.{slice_get_within}
use Rattle.session_values.specs.declared.op.Op.{Op}
use Rattle.session_values.specs.declared.value.Value.{Value}
use Rattle.session_values.specs.declared.value.Value.TheVariants.{Num}
use Rattle.session_values.specs.Dialogue.{Calls}
use Rattle.session_values.specs.Kinds.{arguments, home}
use Rattle.session_values.specs.Sums.{sum_below}
use Rattle.session_values.specs.Tables.{Container, Fits, after_on, kind_of, reply, reply_on, size_of, table}
use Rattle.session_values.proofs.Sums.{sum_alike}
use Rattle.session_journal.specs.declared.event.Event.{Event}
use Rattle.session_journal.specs.EventsInTurn.{IsOpen, now}
use Rattle.session_journal.specs.Journal.{done_operations, in_order}
use Rattle.session_journal.specs.Script.{IsScript, Meaning, adds_on, room}
use Rattle.session_journal.proofs.Serving.{opening_few}
use Rattle.shard_tables.specs.Parts.{part, shard_of}
use Rattle.shard_tables.proofs.PartSizes.{part_sizes}
use Rattle.admission_book.specs.Book.{Book}
use Rattle.admission_book.specs.Lawful.{Lawful}
use Rattle.admission_book.proofs.Keys.{adds_fewer, keys_few}
use Rattle.turn_board.specs.Hands.{Once, in_hands}
use Rattle.hall_rule.specs.declared.held.Held.{Held}
use Rattle.hall_rule.specs.Contents.{Content, IsShard, Shard, share, shards_in, tables_after}
use Rattle.hall_rule.specs.Law.{same_container}
use Rattle.hall_rule.specs.Shards.{content_of}
use Rattle.hall_rule.specs.Turns.{ChangedBy, IsTurnOf, place, span}
use Rattle.hall_rule.proofs.Shares.{keyless_stays, kind_share, kind_table, reply-is, share_few, share_reply}
use Rattle.session_hall.specs.OnShards.{CanWorkHere, CanWorkIn, HasWorkedIn, WorkedUnder, keys_of, keys_of_row}
use Rattle.session_hall.specs.Working.{CanDo}
use Rattle.session_hall.proofs.Giving.{opens}
use Rattle.session_hall.proofs.OneShard.{keyless_reply, product_small, shards_are, to_shard}
use Rattle.session_hall.proofs.TurnSets.{row_low, some_span, turn_in, turn_out}

-- whether a turn is the operation's
pub turn_or_not : (n : ℕ) (op : Op) (j : ℕ) → IsTurnOf n op j ⊎ (IsTurnOf n op j → ⊥)
turn_or_not n op j = by_table (eqb (j / n) op.table) refl
  where
    by_shard : j / n ≡ op.table → arguments op.kind ≢ 0 → (b : Bool) → eqb (shard_of n op.key) (j % n) ≡ b → IsTurnOf n op j ⊎ (IsTurnOf n op j → ⊥)
    by_shard at some true e = inl (record { table = at; shard = λ k. eqb-true (shard_of n op.key) (j % n) e })
    by_shard at some false e = inr (λ i. eqb-false (shard_of n op.key) (j % n) e (i.shard (omega (arith, some))))

    by_key : j / n ≡ op.table → (b : Bool) → eqb (arguments op.kind) 0 ≡ b → IsTurnOf n op j ⊎ (IsTurnOf n op j → ⊥)
    by_key at true e = let z : arguments op.kind ≡ 0 = eqb-true (arguments op.kind) 0 e in inl (record { table = at; shard = λ k. absurd (omega (arith, k, z)) })
    by_key at false e = by_shard at (eqb-false (arguments op.kind) 0 e) (eqb (shard_of n op.key) (j % n)) refl

    by_table : (b : Bool) → eqb (j / n) op.table ≡ b → IsTurnOf n op j ⊎ (IsTurnOf n op j → ⊥)
    by_table true e = by_key (eqb-true (j / n) op.table e) (eqb (arguments op.kind) 0) refl
    by_table false e = inr (λ i. eqb-false (j / n) op.table e i.table)

-- ---- the numbers of a hall and the turns of an operation that fits its tables
module _ (m : Meaning) (tables n turns : ℕ) (tables_are : length m.shape ≡ tables) (some : 0 < n) (few_turns : turns ≤ 57) (turns_are : turns ≡ 1 + tables * n) (op : Op) (fits : Fits m.shape op) where
  in_table : op.table < length m.shape
  in_table = slice_get_within m.shape op.table (home op.kind) fits.table

  pub shards_known : shards_in m turns ≡ n
  shards_known = shards_are turns (length m.shape) n (turns_are ∙ ap (λ (a : ℕ). 1 + a * n) (sym tables_are)) (omega (arith, in_table))

  row_fits : place n op + span n op ≤ tables * n
  row_fits = row_low n op some tables (omega (arith, in_table, tables_are))

  pub few_table : op.table ≤ 57
  few_table =
      let small : op.table ≤ op.table * n = product_small op.table n some in
      let at : op.table * n ≤ place n op = omega arith in
      omega (arith, small, at, row_fits, turns_are, few_turns)

  pub near_row : (first many : ℕ) → first ≡ suc (place n op) → many ≡ span n op → first + many ≤ turns
  near_row first many fe me = omega (arith, fe, me, row_fits, turns_are)

-- ---- a turn of the row is one of the operation's, and the other way round
module _ (n : ℕ) (op : Op) (some : 0 < n) (first many : ℕ) (fe : first ≡ suc (place n op)) (me : many ≡ span n op) where
  pub of_row : (u : ℕ) → first ≤ u → u < first + many → (j : ℕ) × (u ≡ suc j) × IsTurnOf n op j
  of_row u from below = (u - 1, omega (arith, fe, from), turn_in n op some (u - 1) (omega (arith, fe, from)) (omega (arith, fe, me, from, below)))

  pub to_row : (j : ℕ) → IsTurnOf n op j → (first ≤ suc j) × (suc j < first + many)
  to_row j i =
      let r : (place n op ≤ j) × (j < place n op + span n op) = turn_out n op some j i in
      (omega (arith, fe, r.0), omega (arith, fe, me, r.1))

  pub some_row : 0 < many
  some_row = omega (arith, me, some_span n op some)

  -- with a key, the row has one turn
  pub one_row : 0 < arguments op.kind → many ≡ 1
  one_row key = me ∙ ap (λ (b : Bool). cond b n 1) (ne_eqb (arguments op.kind) 0 (λ e. omega (arith, e, key)))

  pub first_of : 0 < arguments op.kind → (j : ℕ) → IsTurnOf n op j → suc j ≡ first
  first_of key j i = let r : (first ≤ suc j) × (suc j < first + many) = to_row j i in omega (arith, r.0, r.1, one_row key)

  pub op_first : (j : ℕ) → suc j ≡ first → IsTurnOf n op j
  op_first j e = turn_in n op some j (omega (arith, e, fe)) (omega (arith, e, fe, some_span n op some))

by_key : (op : Op) (P : Type 0) → (arguments op.kind ≡ 0 → P) → (0 < arguments op.kind → P) → P
by_key op P a d = go (eqb (arguments op.kind) 0) refl
  where
    go : (x : Bool) → eqb (arguments op.kind) 0 ≡ x → P
    go true e = a (eqb-true (arguments op.kind) 0 e)
    go false e = let z : arguments op.kind ≢ 0 = eqb-false (arguments op.kind) 0 e in d (omega (arith, z))

-- ---- what is in hand of the operation's turns is the part of the tables after a book's journal
module _ {S : Type 0} (m : Meaning) (turns n : ℕ) (known : IsScript m) (sk : shards_in m turns ≡ n) (some : 0 < n) (op : Op) (fits : Fits m.shape op)
    (first many : ℕ) (fe : first ≡ suc (place n op)) (me : many ≡ span n op) (near : first + many ≤ 57) (xs : List (ℕ × Held S)) (once : Once content_of xs)
    (b : Book) (L : Lawful m b) (ours : (j : ℕ) (x : Content S) → IsTurnOf n op j → in_hands content_of xs (suc j) ≡ Some x → IsShard m turns b.journal j x) where
  mine : (j : ℕ) → IsTurnOf n op j → IsTurnOf (shards_in m turns) op j
  mine j i = let P : ℕ → Type 0 = λ a. IsTurnOf a op j in subst P (sym sk) i

  can_do : (t : ℕ) → IsOpen b.journal t → now m b.journal t ≡ Calls op → (j : ℕ) (x : Content S) → IsTurnOf n op j → in_hands content_of xs (suc j) ≡ Some x → CanDo op x
  can_do t opened calls j x i e =
      let s : IsShard m turns b.journal j x = ours j x i e in
      let sh : ℕ = shards_in m turns in
      let at : j / sh ≡ op.table = (mine j i).table in
      let P : Content S → Type 0 = λ y. CanDo op y in
      let kind : kind_of s.container ≡ home op.kind = ap kind_of s.share_is ∙ kind_share m (opens m known) turns b.journal j op.table (home op.kind) at fits.table in
      let keys : size_of s.container ≡ size_of (share m turns b.journal j) = ap size_of s.share_is in
      let adds : adds_on (j / sh) (in_order (done_operations b.journal)) ≡ adds_on op.table (in_order (done_operations b.journal)) = ap (λ (a : ℕ). adds_on a (in_order (done_operations b.journal))) at in
      let need : room m (j / sh) ≡ room m op.table = ap (room m) at in
      subst P (sym s.is) (
        kind,
        λ adding.
            let less : adds_on op.table (in_order (done_operations b.journal)) < room m op.table = adds_fewer m b known L t op opened calls adding in
            omega (arith, keys, adds, share_few m turns b.journal j, less, need, s.enough),
      )

  -- it may be done on each of its shards that is in hand
  pub can_work_here : (t : ℕ) → IsOpen b.journal t → now m b.journal t ≡ Calls op → CanWorkHere op first many xs
  can_work_here t opened calls = record {
    turns = near;
    some = some_row n op some first many fe me;
    once = once;
    each = λ u from below. do_if u from below (in_hands content_of xs u) refl;
  }
    where
      do_if : (u : ℕ) → first ≤ u → u < first + many → (o : Option (Content S)) → in_hands content_of xs u ≡ o → IfSome o (λ y. CanDo op y)
      do_if u from below None e = tt
      do_if u from below (Some x) e =
          let z : (j : ℕ) × (u ≡ suc j) × IsTurnOf n op j = of_row n op some first many fe me u from below in
          can_do t opened calls z.0 x z.2 (ap (in_hands content_of xs) (sym z.1) ∙ e)

  -- ---- all turns of the operation are in hand
  module _ (there : (u : ℕ) → first ≤ u → u < first + many → in_hands content_of xs u ≡ None → ⊥) where
    -- what stands under a turn of the row
    record IsThere (u : ℕ) : Type 0 where
      j : ℕ
      turn_is : u ≡ suc j
      of_operation : IsTurnOf n op j
      x : Content S
      at : in_hands content_of xs (suc j) ≡ Some x
      shard : IsShard m turns b.journal j x

    is_there : (u : ℕ) → first ≤ u → u < first + many → IsThere u
    is_there u from below = go (in_hands content_of xs u) refl
      where
        go : (o : Option (Content S)) → in_hands content_of xs u ≡ o → IsThere u
        go None e = absurd (there u from below e)
        go (Some x) e =
            let z : (j : ℕ) × (u ≡ suc j) × IsTurnOf n op j = of_row n op some first many fe me u from below in
            let at : in_hands content_of xs (suc z.0) ≡ Some x = ap (in_hands content_of xs) (sym z.1) ∙ e in
            record { j = z.0; turn_is = z.1; of_operation = z.2; x = x; at = at; shard = ours z.0 x z.2 at }

    -- these are the parts of the tables after this journal
    abbrev pub AreShares : List Event → Type 0
    AreShares K = (j : ℕ) (d : Container) (r : ℕ) → in_hands content_of xs (suc j) ≡ Some (Shard d r) → IsTurnOf n op j → d ≡ share m turns K j

    keys_there : (K : List Event) → AreShares K → (u : ℕ) (w : IsThere u) → keys_of (in_hands content_of xs u) ≡ size_of (share m turns K w.j)
    keys_there K shares u w =
        let at : in_hands content_of xs (suc w.j) ≡ Some (Shard w.shard.container w.shard.room) = w.at ∙ ap Some w.shard.is in
        ap (λ (v : ℕ). keys_of (in_hands content_of xs v)) w.turn_is ∙ ap keys_of at ∙ ap size_of (shares w.j w.shard.container w.shard.room at w.of_operation)

    -- the keys of all shards of a table are the table's
    total : arguments op.kind ≡ 0 → (K : List Event) → AreShares K → sum_below many (keys_of_row xs first) ≡ size_of (table (tables_after m K) op.table)
    total none K shares =
        ap (λ (a : ℕ). sum_below a (keys_of_row xs first)) all_shards
        ∙ sum_alike n (keys_of_row xs first) (λ i. size_of (part n i (table (tables_after m K) op.table))) part_at
        ∙ part_sizes n (table (tables_after m K) op.table) some
      where
        no_key : eqb (arguments op.kind) 0 ≡ true
        no_key = eq-eqb (arguments op.kind) 0 none

        all_shards : many ≡ n
        all_shards = me ∙ ap (λ (x : Bool). cond x n 1) no_key

        first_is : first ≡ suc (op.table * n)
        first_is = let e : place n op ≡ op.table * n + 0 = ap (λ (x : Bool). op.table * n + cond x 0 (shard_of n op.key)) no_key in omega (arith, e, fe)

        part_at : (i : ℕ) → i < n → keys_of_row xs first i ≡ size_of (part n i (table (tables_after m K) op.table))
        part_at i l =
            let w : IsThere (first + i) = is_there (first + i) (omega arith) (omega (arith, l, all_shards)) in
            let back : w.j ≡ op.table * n + i = omega (arith, w.turn_is, first_is) in
            let P : ℕ → Type 0 = λ a. size_of (part a ((op.table * n + i) % a) (table (tables_after m K) ((op.table * n + i) / a))) ≡ size_of (part n i (table (tables_after m K) op.table)) in
            let goal : size_of (part n ((op.table * n + i) % n) (table (tables_after m K) ((op.table * n + i) / n))) ≡ size_of (part n i (table (tables_after m K) op.table)) = (λ j. size_of (part n (mod-mul-add op.table n i l j) (table (tables_after m K) (div-mul-add op.table n i l j)))) in
            keys_there K shares (first + i) w ∙ ap (λ (j : ℕ). size_of (share m turns K j)) back ∙ subst P (sym sk) goal

    shares_here : AreShares b.journal
    shares_here j d r e i = let s : IsShard m turns b.journal j (Shard d r) = ours j (Shard d r) i e in same_container {S = S} d s.container r s.room s.is ∙ s.share_is

    pub can_work : (t : ℕ) → IsOpen b.journal t → now m b.journal t ≡ Calls op → CanWorkIn op first many xs
    can_work t opened calls = record {
      turns = near;
      some = some_row n op some first many fe me;
      once = once;
      each = λ u from below.
          let w : IsThere u = is_there u from below in
          let P : Option (Content S) → Type 0 = λ o. IsSomeAnd o (λ y. CanDo op y) in
          subst P (sym (ap (in_hands content_of xs) w.turn_is ∙ w.at)) (can_do t opened calls w.j w.x w.of_operation w.at);
      few = λ none.
          let less : size_of (table (tables_after m b.journal) op.table) ≤ size_of (table m.opening op.table) + room m op.table = keys_few m b known L op.table in
          let small : room m op.table ≤ 200000 = known.few_adds op.table in
          omega (arith, total none b.journal shares_here, less, small, opening_few m known op.table);
    }

    -- ---- the operation was done
    module _ (ys : List (ℕ × Held S)) (v : Value) (w : HasWorkedIn op first many xs ys v) where
      pub once_worked : Once content_of ys
      once_worked = by_key op (Once content_of ys) (λ none. let P : List (ℕ × Held S) → Type 0 = λ l. Once content_of l in subst P (sym (w.0 none).0) once) (λ key. (w.1 key).once)

      pub changed : (j : ℕ) → IsTurnOf n op j → ChangedBy op (in_hands content_of xs (suc j)) (in_hands content_of ys (suc j))
      changed j i = by_key op (ChangedBy op (in_hands content_of xs (suc j)) (in_hands content_of ys (suc j))) keyless keyed
        where
          keyless : arguments op.kind ≡ 0 → ChangedBy op (in_hands content_of xs (suc j)) (in_hands content_of ys (suc j))
          keyless none =
              let r : (first ≤ suc j) × (suc j < first + many) = to_row n op some first many fe me j i in
              let z : IsThere (suc j) = is_there (suc j) r.0 r.1 in
              let s : IsShard m turns b.journal z.j z.x = z.shard in
              let at : in_hands content_of xs (suc j) ≡ Some z.x = ap (in_hands content_of xs) z.turn_is ∙ z.at in
              let e : in_hands content_of ys (suc j) ≡ in_hands content_of xs (suc j) = ap (λ (l : List (ℕ × Held S)). in_hands content_of l (suc j)) (w.0 none).0 in
              let P : Option (Content S) → Type 0 = λ o. ChangedBy op (in_hands content_of xs (suc j)) o in
              let Q : Option (Content S) → Type 0 = λ o. ChangedBy op o o in
              subst P (sym e) (subst Q (sym at) (s.container, s.room, s.is, s.is ∙ ap (λ (d : Container). Shard d s.room) (sym (keyless_stays s.container op none))))

          keyed : 0 < arguments op.kind → ChangedBy op (in_hands content_of xs (suc j)) (in_hands content_of ys (suc j))
          keyed key =
              let z : WorkedUnder op first xs ys v = w.1 key in
              let here : suc j ≡ first = first_of n op some first many fe me key j i in
              let s : (d : Container) × (r : ℕ) × (z.old ≡ Shard d r) × (z.new ≡ Shard (after_on d op) r) × (v ≡ reply_on d op) = to_shard op z.old z.new v z.worked in
              let P : Option (Content S) → Type 0 = λ o. ChangedBy op o (in_hands content_of ys (suc j)) in
              let Q : Option (Content S) → Type 0 = λ o. ChangedBy op (Some z.old) o in
              subst P (sym (ap (in_hands content_of xs) here ∙ z.was)) (subst Q (sym (ap (in_hands content_of ys) here ∙ z.is)) (s.0, s.1, s.2, s.3))

      pub others : (j : ℕ) → (IsTurnOf n op j → ⊥) → in_hands content_of ys (suc j) ≡ in_hands content_of xs (suc j)
      others j apart = by_key op (in_hands content_of ys (suc j) ≡ in_hands content_of xs (suc j))
          (λ none. ap (λ (l : List (ℕ × Held S)). in_hands content_of l (suc j)) (w.0 none).0)
          (λ key. (w.1 key).others (suc j) (λ e. apart (op_first n op some first many fe me j e)))

      -- v is its reply after every journal whose parts these are
      pub reply_at : (K : List Event) → AreShares K → reply (tables_after m K) op ≡ v
      reply_at K shares = by_key op (reply (tables_after m K) op ≡ v) keyless keyed
        where
          keyless : arguments op.kind ≡ 0 → reply (tables_after m K) op ≡ v
          keyless none =
              reply-is (tables_after m K) op
              ∙ keyless_reply (table (tables_after m K) op.table) op none (kind_table m (opens m known) K op.table (home op.kind) fits.table)
              ∙ ap (λ (a : ℕ). Num (pos a)) (sym (total none K shares))
              ∙ sym (w.0 none).1

          keyed : 0 < arguments op.kind → reply (tables_after m K) op ≡ v
          keyed key =
              let z : WorkedUnder op first xs ys v = w.1 key in
              let s : (d : Container) × (r : ℕ) × (z.old ≡ Shard d r) × (z.new ≡ Shard (after_on d op) r) × (v ≡ reply_on d op) = to_shard op z.old z.new v z.worked in
              let i : IsTurnOf n op (place n op) = op_first n op some first many fe me (place n op) (sym fe) in
              let is : s.0 ≡ share m turns K (place n op) = shares (place n op) s.0 s.1 (ap (in_hands content_of xs) (sym fe) ∙ z.was ∙ ap Some s.2) i in
              share_reply m turns K (place n op) op (mine (place n op) i) key ∙ ap (λ (d : Container). reply_on d op) (sym is) ∙ sym s.4

      pub reply_here : reply (tables_after m b.journal) op ≡ v
      reply_here = reply_at b.journal shares_here
