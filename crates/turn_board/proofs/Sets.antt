-- What an asking for a set of turns tells, in the words of a contract.
use Rattle.std.proofs.Common.{◌≡◌, ◌≢◌, ℕ, ◌+◌, ◌-◌, ◌^◌, ◌<◌, ◌≤◌, ◌⊎◌, inl, inr, List, [], length, get_or, Bool, true, false, cond, ◌&&◌, min, refl, sym, ap, ap₂, ◌∙◌, arith}
use Rattle.std.specs.Prelude.{Some, None, slice_get, ◌==◌, bit_and}
use Rattle.std.proofs.lemmas.Nat.{and_le_l}
use Rattle.std.proofs.lemmas.Nat.Bits.{bit_at_and, bit_at-lt, bit_at_not, bit_at-zero, bit_at-trailing_zeros}
use Rattle.std.proofs.lemmas.Option.{none-some}
use Rattle.std.proofs.lemmas.List.{get_or_past}
use mathlib.Core.Logic.{dite}
use native.Mathlib.Decide.{dec_lt}
use Rattle.std.specs.Int.{bit_at, bit_not, trailing_zeros, w64}
use Rattle.turn_steps.specs.Seated.{TableId}
use Rattle.turn_steps.specs.declared.view.View.{View}
use Rattle.turn_steps.specs.declared.view.Place.TheVariants.{Vacant, Lies}
use Rattle.turn_steps.specs.Tied.{counted, place}
use Rattle.turn_steps.specs.Steps.{asked, asked_view, given_view, lies, lost_at, one_more_lost, note_of, caller_of}
use Rattle.turn_steps.specs.Passes.{Token, Placed, IsSeated, held, lost}
use Rattle.turn_board.specs.Moving.{Emptied}
use Rattle.turn_board.specs.Boards.{SameNote, Tells, MissedAll}
use Rattle.turn_board.proofs.AtSeat.{at, told}
use Rattle.turn_steps.proofs.Rows.{two, row-length, row-here, row-past, changed-here, changed-else, get-within}

-- no turn of the set was found taken
pub none-taken : (found set : ℕ) → bit_and found set ≡ 0 → (u : ℕ) → bit_at set u ≡ 1 → bit_at found u ≡ 0
none-taken found set e u s = two (bit_at found u) (λ x. x ≡ 0) (bit_at-lt found u) (λ _. refl)
    (λ f. absurd (let z : min (bit_at found u) (bit_at set u) ≡ 0 = sym (bit_at_and found set u) ∙ ap (λ (n : ℕ). bit_at n u) e ∙ bit_at-zero u in omega arith))

pub positive : (n : ℕ) → (n ≡ 0 → ⊥) → 0 < n
positive n ne = omega arith

-- the bits that are cleared again are those that were just set
module _ (found set : ℕ) (f-fits : found < 2 ^ 64) (s-fits : set < 2 ^ 64) where
  won-set : ℕ
  won-set = bit_and set (bit_not w64 found)

  mask-at : (u : ℕ) → u < 64 → bit_at (bit_not w64 (bit_and set (bit_not w64 found))) u ≡ 1 - min (bit_at set u) (1 - bit_at found u)
  mask-at u h = bit_at_not w64 (bit_and set (bit_not w64 found)) u (let l = and_le_l set (bit_not w64 found) in omega arith) h
      ∙ ap (λ (b : ℕ). 1 - b) (bit_at_and set (bit_not w64 found) u ∙ ap (min (bit_at set u)) (bit_at_not w64 found u f-fits h))

  pub cleared : (u : ℕ) → u < 64 → bit_at (bit_not w64 (bit_and set (bit_not w64 found))) u ≡ 0 → (bit_at set u ≡ 1) × (bit_at found u ≡ 0)
  cleared u h e = let m = mask-at u h in let a = bit_at-lt set u in let b = bit_at-lt found u in (omega arith, omega arith)

  pub not-cleared : (u : ℕ) → u < 64 → bit_at (bit_not w64 (bit_and set (bit_not w64 found))) u ≡ 1 → bit_at set u ≡ 1 → bit_at found u ≡ 1
  not-cleared u h e s = let m = mask-at u h in let b = bit_at-lt found u in omega arith

  -- where no bit was just set
  pub nothing-won : bit_and set (bit_not w64 found) ≡ 0 → (u : ℕ) → u < 64 → bit_at set u ≡ 1 → bit_at found u ≡ 1
  nothing-won e u h s =
      let m = sym (bit_at_and set (bit_not w64 found) u) ∙ ap (λ (n : ℕ). bit_at n u) e ∙ bit_at-zero u in let n = bit_at_not w64 found u f-fits h in
      let b = bit_at-lt found u in omega arith

  -- and where one was
  pub one-won : bit_and set (bit_not w64 found) ≢ 0 → ((u : ℕ) → bit_at set u ≡ 1 → bit_at found u ≡ 1) → ⊥
  one-won ne all' =
      let low = bit_at-trailing_zeros w64 (bit_and set (bit_not w64 found)) (positive (bit_and set (bit_not w64 found)) ne) (let l = and_le_l set (bit_not w64 found) in omega arith) in
      let u = trailing_zeros w64 (bit_and set (bit_not w64 found)) in
      let near : u < 64 = low.0 in
      let m = sym (bit_at_and set (bit_not w64 found) u) ∙ low.1 in let n = bit_at_not w64 found u f-fits near in
      let a = bit_at-lt set u in let b = bit_at-lt found u in let f = all' u (omega arith) in omega arith

module _ {V C : Type 0} (holds : List C → List C → Type 0) (id : TableId) (p q : Token V C) (set found : ℕ) (seated : IsSeated id p) (same-table : q.table_id ≡ p.table_id) (same-id : q.id ≡ p.id)
    (a : asked holds id.slots set p.me found q.me) where
  abbrev v : View C
  v = p.me.0

  view-is : q.me.0 ≡ asked_view id.slots set found a.0 v
  view-is = ap (λ m. m.0) a.2

  won : ℕ → Bool
  won u = (bit_at set u == 1) && (bit_at found u == 0)

  abbrev won' : ℕ → Bool
  won' u = (bit_at set u == 1) && (bit_at found u == 0)

  abbrev missed' : ℕ → Bool
  missed' u = (bit_at set u == 1) && (bit_at found u == 1)

  both : (u x y : ℕ) (f : ℕ → ℕ → Bool) → bit_at set u ≡ x → bit_at found u ≡ y → f (bit_at set u) (bit_at found u) ≡ f x y
  both u x y f e g = ap₂ f e g

  lose-set : (u : ℕ) → bit_at set u ≡ 0 → won' u ≡ false
  lose-set u e = ap (λ (b : ℕ). (b == 1) && (bit_at found u == 0)) e

  lose-found : (u : ℕ) → bit_at found u ≡ 1 → won' u ≡ false
  lose-found u e = two (bit_at set u) (λ x. ((x == 1) && (bit_at found u == 0)) ≡ false) (bit_at-lt set u) (λ _. refl) (λ _. ap (λ (b : ℕ). b == 0) e)

  keep-set : (u : ℕ) → bit_at set u ≡ 0 → missed' u ≡ false
  keep-set u e = ap (λ (b : ℕ). (b == 1) && (bit_at found u == 1)) e

  keep-found : (u : ℕ) → bit_at found u ≡ 0 → missed' u ≡ false
  keep-found u e = two (bit_at set u) (λ x. ((x == 1) && (bit_at found u == 1)) ≡ false) (bit_at-lt set u) (λ _. refl) (λ _. ap (λ (b : ℕ). b == 1) e)

  pub held-else : (u : ℕ) → won' u ≡ false → held q u ≡ held p u
  held-else u e = ap (λ (x : View C). counted x u) view-is ∙ changed-else id.slots v.counts None won' (slice_get a.0) u seated.placed.counts e

  pub place-else : (u : ℕ) → won' u ≡ false → place q.me.0 u ≡ place v u
  place-else u e = ap (λ (x : View C). place x u) view-is ∙ changed-else id.slots v.places Vacant won' (λ y. lies (slice_get a.0 y)) u seated.placed.places e

  lost-else : (u : ℕ) → missed' u ≡ false → lost q u ≡ lost p u
  lost-else u e = ap (λ (x : View C). lost_at x u) view-is ∙ changed-else id.slots v.lost 0 missed' (λ y. one_more_lost (counted v y) (lost_at v y)) u seated.placed.losses e

  pub now-lie : (u : ℕ) → u < id.slots → bit_at set u ≡ 1 → bit_at found u ≡ 0 → (c : C) × (held q u ≡ Some c) × (place q.me.0 u ≡ Lies c)
  now-lie u near s f = let g = get-within a.0 u (let h : length a.0 ≡ id.slots = a.1 in omega arith) in let e : won' u ≡ true = both u 1 0 (λ x y. (x == 1) && (y == 0)) s f in (
    g.0,
    ap (λ (x : View C). counted x u) view-is ∙ changed-here id.slots v.counts None won' (slice_get a.0) u near e ∙ g.1,
    ap (λ (x : View C). place x u) view-is ∙ changed-here id.slots v.places Vacant won' (λ y. lies (slice_get a.0 y)) u near e ∙ ap lies g.1,
  )

  pub losses-now : (u : ℕ) → u < id.slots → (bit_at set u ≡ 1 → held p u ≡ None) → lost q u ≡ lost p u + min (bit_at found u) (bit_at set u)
  losses-now u near none' = two (bit_at set u) (λ x. lost q u ≡ lost p u + min (bit_at found u) x) (bit_at-lt set u)
      (λ z. lost-else u (keep-set u z) ∙ (omega arith))
      (λ o. two (bit_at found u) (λ y. lost q u ≡ lost p u + min y 1) (bit_at-lt found u) (λ z. lost-else u (keep-found u z) ∙ (omega arith))
      (λ f. ap (λ (x : View C). lost_at x u) view-is ∙ changed-here id.slots v.lost 0 missed' (λ y. one_more_lost (counted v y) (lost_at v y)) u near (both u 1 1 (λ x y. (x == 1) && (y == 1)) o f) ∙ ap (λ h. one_more_lost h (lost_at v u)) (none' o)))

  pub set-placed : Placed id q
  set-placed = record {
    of_table = same-table ∙ seated.placed.of_table;
    empty = ap (λ m. m.1) a.2 ∙ seated.placed.empty;
    counts = ap (λ (x : View C). length x.counts) view-is ∙ row-length 0 id.slots (λ u. cond (won' u) (slice_get a.0 u) (counted v u));
    places = ap (λ (x : View C). length x.places) view-is ∙ row-length 0 id.slots (λ u. cond (won' u) (lies (slice_get a.0 u)) (place v u));
    losses = ap (λ (x : View C). length x.lost) view-is ∙ row-length 0 id.slots (λ u. cond (missed' u) (one_more_lost (counted v u) (lost_at v u)) (lost_at v u));
    one = (seated.placed.one.0, seated.placed.one.1, ap (λ (x : View C). x.speaks) view-is ∙ seated.placed.one.2);
  }

  pub set-tells : {R : Type 0} → Tells holds id.slots (at R q)
  set-tells {R} = told R holds id.slots q seated.placed.one.0 seated.placed.one.1 (ap (λ (x : View C). x.speaks) view-is ∙ seated.placed.one.2) a.3

  pub set-spoken : {R : Type 0} → SameNote (at R p) (at R q)
  set-spoken = record {
    caller_is = ap (λ (x : View C). caller_of x.speaks) view-is;
    note_is = ap (λ (x : View C). note_of x.speaks) view-is;
    caller_count_is = ap (λ (x : View C). x.caller_count) view-is;
    given_is = ap (λ (x : View C). x.given) view-is;
    change_is = ap (λ (x : View C). x.change) view-is;
  }

  places-past : (u : ℕ) → id.slots ≤ u → place q.me.0 u ≡ Vacant
  places-past u h = get_or_past q.me.0.places u Vacant (let l = set-placed.places in omega arith)

  -- the values were moved out
  module _ (r : Token V C) (e : Emptied set id.slots q r) where
    pub all-out : IsSeated id r
    all-out = record {
      placed = record {
        of_table = e.table ∙ set-placed.of_table;
        empty = e.none ∙ set-placed.empty;
        counts = ap length e.counts ∙ set-placed.counts;
        places = e.long ∙ set-placed.places;
        losses = ap length e.lost ∙ set-placed.losses;
        one = (set-placed.one.0, set-placed.one.1, e.speaks ∙ set-placed.one.2);
      };
      vacant = λ u. dite (dec_lt u id.slots)
          (λ h. two (bit_at set u) (λ _. place r.me.0 u ≡ Vacant) (bit_at-lt set u) (λ z. e.others u z ∙ place-else u (lose-set u z) ∙ seated.vacant u) (λ o. e.out u h o))
          (λ h. let k : id.slots ≤ u = omega arith in e.later u k ∙ places-past u k);
    }

    pub all-spoken : {R : Type 0} → SameNote (at R p) (at R r)
    all-spoken = record {
      caller_is = ap caller_of e.speaks ∙ ap (λ (x : View C). caller_of x.speaks) view-is;
      note_is = ap note_of e.speaks ∙ ap (λ (x : View C). note_of x.speaks) view-is;
      caller_count_is = e.caller_count ∙ ap (λ (x : View C). x.caller_count) view-is;
      given_is = e.given ∙ ap (λ (x : View C). x.given) view-is;
      change_is = e.change ∙ ap (λ (x : View C). x.change) view-is;
    }

    pub all-others : (u : ℕ) → bit_at set u ≡ 0 → held r u ≡ held p u
    all-others u z = ap (λ l. get_or l u None) e.counts ∙ held-else u (lose-set u z)

    pub all-lost : ((u : ℕ) → bit_at set u ≡ 1 → bit_at found u ≡ 0) → (u : ℕ) → lost r u ≡ lost p u
    all-lost free u = ap (λ l. get_or l u 0) e.lost ∙ two (bit_at set u) (λ _. lost q u ≡ lost p u) (bit_at-lt set u) (λ z. lost-else u (keep-set u z)) (λ o. lost-else u (keep-found u (free u o)))

    pub all-asks : r.me.0.asks ≡ p.me.0.asks + 1
    all-asks = e.asks ∙ ap (λ (x : View C). x.asks) view-is

    pub all-givings : r.me.0.givings ≡ p.me.0.givings
    all-givings = e.givings ∙ ap (λ (x : View C). x.givings) view-is

    pub all-tells : {R : Type 0} → Tells holds id.slots (at R r)
    all-tells {R} = let o : Tells holds id.slots (at R q) = set-tells {R = R} in record {
      contents = o.contents;
      notes = o.notes;
      tied = o.tied;
      turns_is = o.turns_is;
      callers = o.callers ∙ sym e.caller_count;
      own = λ u c h. o.own u c (sym (ap (λ l. get_or l u None) e.counts) ∙ h);
      noted = ap (λ l. slice_get o.notes (caller_of l)) e.speaks ∙ o.noted ∙ sym (ap note_of e.speaks);
    }

  -- the turns that were just got were given back
  module _ (few : id.slots ≤ 57) (f-fits : found < 2 ^ 64) (s-fits : set < 2 ^ 64) where
    pub untouched : (u : ℕ) → u < id.slots → bit_at (bit_not w64 (bit_and set (bit_not w64 found))) u ≡ 0 → (c : C) × (counted q.me.0 u ≡ Some c) × (place q.me.0 u ≡ Lies c)
    untouched u near z = let b = cleared found set f-fits s-fits u (omega arith) z in now-lie u near b.0 b.1

    module _ (free : (u : ℕ) → bit_at set u ≡ 1 → held p u ≡ None) (r : Token V C) (r-table : r.table_id ≡ q.table_id) (r-id : r.id ≡ q.id)
        (r-is : r.me ≡ (given_view id.slots (bit_not w64 (bit_and set (bit_not w64 found))) (counted q.me.0) q.me.0.speaks q.me.0.given q.me.0.change q.me.0, q.me.1)) where
      r-view : r.me.0 ≡ given_view id.slots (bit_not w64 (bit_and set (bit_not w64 found))) (counted q.me.0) q.me.0.speaks q.me.0.given q.me.0.change q.me.0
      r-view = ap (λ m. m.0) r-is

      abbrev gone : ℕ → Bool
      gone u = bit_at (bit_not w64 (bit_and set (bit_not w64 found))) u == 0

      lost-bits : (u : ℕ) → u < id.slots → bit_at (bit_not w64 (bit_and set (bit_not w64 found))) u ≡ 1 → won' u ≡ false
      lost-bits u near o = two (bit_at set u) (λ x. ((x == 1) && (bit_at found u == 0)) ≡ false) (bit_at-lt set u) (λ _. refl)
          (λ s. ap (λ (b : ℕ). b == 0) (not-cleared found set f-fits s-fits u (omega arith) o s))

      pub back-held : (u : ℕ) → held r u ≡ held p u
      back-held u = ap (λ (x : View C). counted x u) r-view ∙ dite (dec_lt u id.slots)
          (λ h. row-here id.slots (λ y. cond (gone y) None (counted q.me.0 y)) None u h ∙ two (bit_at (bit_not w64 (bit_and set (bit_not w64 found))) u) (λ x. cond (x == 0) None (counted q.me.0 u) ≡ held p u) (bit_at-lt (bit_not w64 (bit_and set (bit_not w64 found))) u)
          (λ z. sym (free u (cleared found set f-fits s-fits u (omega arith) z).0))
          (λ o. held-else u (lost-bits u h o)))
          (λ h. let k : id.slots ≤ u = omega arith in row-past 0 id.slots (λ y. cond (gone y) None (counted q.me.0 y)) None u k ∙ sym (get_or_past v.counts u None (let l = seated.placed.counts in omega arith)))

      back-place : (u : ℕ) → place r.me.0 u ≡ Vacant
      back-place u = ap (λ (x : View C). place x u) r-view ∙ dite (dec_lt u id.slots)
          (λ h. row-here id.slots (λ y. cond (gone y) Vacant (place q.me.0 y)) Vacant u h ∙ two (bit_at (bit_not w64 (bit_and set (bit_not w64 found))) u) (λ x. cond (x == 0) Vacant (place q.me.0 u) ≡ Vacant) (bit_at-lt (bit_not w64 (bit_and set (bit_not w64 found))) u)
          (λ z. refl)
          (λ o. place-else u (lost-bits u h o) ∙ seated.vacant u))
          (λ h. let k : id.slots ≤ u = omega arith in row-past 0 id.slots (λ y. cond (gone y) Vacant (place q.me.0 y)) Vacant u k)

      pub back-sits : IsSeated id r
      back-sits = record {
        placed = record {
          of_table = r-table ∙ set-placed.of_table;
          empty = ap (λ m. m.1) r-is ∙ set-placed.empty;
          counts = ap (λ (x : View C). length x.counts) r-view ∙ row-length 0 id.slots (λ y. cond (gone y) None (counted q.me.0 y));
          places = ap (λ (x : View C). length x.places) r-view ∙ row-length 0 id.slots (λ y. cond (gone y) Vacant (place q.me.0 y));
          losses = ap (λ (x : View C). length x.lost) r-view ∙ set-placed.losses;
          one = (set-placed.one.0, set-placed.one.1, ap (λ (x : View C). x.speaks) r-view ∙ set-placed.one.2);
        };
        vacant = back-place;
      }

      pub back-spoken : {R : Type 0} → SameNote (at R p) (at R r)
      back-spoken = record {
        caller_is = ap (λ (x : View C). caller_of x.speaks) r-view ∙ ap (λ (x : View C). caller_of x.speaks) view-is;
        note_is = ap (λ (x : View C). note_of x.speaks) r-view ∙ ap (λ (x : View C). note_of x.speaks) view-is;
        caller_count_is = ap (λ (x : View C). x.caller_count) r-view ∙ ap (λ (x : View C). x.caller_count) view-is;
        given_is = ap (λ (x : View C). x.given) r-view ∙ ap (λ (x : View C). x.given) view-is;
        change_is = ap (λ (x : View C). x.change) r-view ∙ ap (λ (x : View C). x.change) view-is;
      }

      pub back-lost : (u : ℕ) → lost r u ≡ lost q u
      back-lost u = ap (λ (x : View C). lost_at x u) r-view

      pub back-asks : r.me.0.asks ≡ q.me.0.asks
      back-asks = ap (λ (x : View C). x.asks) r-view

      pub back-givings : r.me.0.givings ≡ p.me.0.givings + 1
      back-givings = ap (λ (x : View C). x.givings) r-view ∙ ap (λ (x : View C). x.givings + 1) view-is

      pub back-tells : {R : Type 0} → Tells holds id.slots (at R r)
      back-tells {R} = let o : Tells holds id.slots (at R q) = set-tells {R = R} in record {
        contents = o.contents;
        notes = o.notes;
        tied = o.tied;
        turns_is = o.turns_is;
        callers = o.callers ∙ ap (λ (x : View C). x.caller_count) (sym r-view);
        own = λ u c e. two (bit_at set u) (λ _. slice_get o.contents u ≡ Some c) (bit_at-lt set u)
            (λ z. o.own u c (held-else u (lose-set u z) ∙ sym (back-held u) ∙ e))
            (λ s. absurd (none-some c (sym (free u s) ∙ sym (back-held u) ∙ e)));
        noted = ap (λ (x : View C). slice_get o.notes (caller_of x.speaks)) r-view ∙ o.noted ∙ sym (ap (λ (x : View C). note_of x.speaks) r-view);
      }

    -- there is none to give back
    module _ (within : (u : ℕ) → bit_at set u ≡ 1 → u < id.slots) (nothing : bit_and set (bit_not w64 found) ≡ 0) where
      pub all-found : (u : ℕ) → bit_at set u ≡ 1 → bit_at found u ≡ 1
      all-found u s = nothing-won found set f-fits s-fits nothing u (let h = within u s in omega arith) s

      none-got : (u : ℕ) → won' u ≡ false
      none-got u = two (bit_at set u) (λ _. won' u ≡ false) (bit_at-lt set u) (lose-set u) (λ s. lose-found u (all-found u s))

      pub still-held : (u : ℕ) → held q u ≡ held p u
      still-held u = held-else u (none-got u)

      pub still-sits : IsSeated id q
      still-sits = record { placed = set-placed; vacant = λ u. place-else u (none-got u) ∙ seated.vacant u }

  -- some turn of the set was found taken: p before the call, q after the asking, r at its end
  module _ (within : (u : ℕ) → bit_at set u ≡ 1 → u < id.slots) (free : (u : ℕ) → bit_at set u ≡ 1 → held p u ≡ None) (r : Token V C) (r-held : (u : ℕ) → held r u ≡ held p u) (r-lost : (u : ℕ) → lost r u ≡ lost q u) where
    lost-bit : (u : ℕ) → bit_at set u ≡ 1 → lost r u ≡ lost p u + min (bit_at found u) (bit_at set u)
    lost-bit u s = r-lost u ∙ losses-now u (within u s) (free u)

    lost-rest : (u : ℕ) → bit_at set u ≡ 0 → lost r u ≡ lost p u
    lost-rest u z = r-lost u ∙ lost-else u (keep-set u z)

    -- whose lost rose was found taken
    is-free : (u : ℕ) → bit_at set u ≡ 1 → lost r u ≡ lost p u → bit_at found u ≡ 0
    is-free u s e = let n = lost-bit u s in let b = bit_at-lt found u in omega arith

    is-taken : (u : ℕ) → bit_at set u ≡ 1 → lost r u ≡ lost p u + 1 → bit_at found u ≡ 1
    is-taken u s e = let n = lost-bit u s in let b = bit_at-lt found u in omega arith

    module _ (t : ℕ) (asked' : bit_at set t ≡ 1) (taken : bit_at found t ≡ 1) (least : (u : ℕ) → u < t → min (bit_at found u) (bit_at set u) ≡ 0)
        (r-asks : r.me.0.asks ≡ q.me.0.asks) (won-back : (u : ℕ) → bit_at set u ≡ 1 → bit_at found u ≡ 0 → r.me.0.givings ≡ p.me.0.givings + 1)
        (no-back : ((u : ℕ) → bit_at set u ≡ 1 → bit_at found u ≡ 1) → r.me.0.givings ≡ p.me.0.givings) where
      lost-below : (u : ℕ) → u < t → lost r u ≡ lost p u
      lost-below u h = two (bit_at set u) (λ _. lost r u ≡ lost p u) (bit_at-lt set u) (λ z. lost-rest u z)
          (λ o. lost-bit u o ∙ (let l = least u h in omega arith))

      lost-above : (u : ℕ) → (lost r u ≡ lost p u) ⊎ ((bit_at set u ≡ 1) × (lost r u ≡ lost p u + 1))
      lost-above u = two (bit_at set u) (λ _. (lost r u ≡ lost p u) ⊎ ((bit_at set u ≡ 1) × (lost r u ≡ lost p u + 1))) (bit_at-lt set u) (λ z. inl (lost-rest u z))
          (λ o. let n = lost-bit u o in two (bit_at found u) (λ _. (lost r u ≡ lost p u) ⊎ ((bit_at set u ≡ 1) × (lost r u ≡ lost p u + 1))) (bit_at-lt found u)
          (λ z. inl (n ∙ (omega arith))) (λ f. inr (o, n ∙ (omega arith))))

      pub missed-all : {R : Type 0} → MissedAll (at R p) (at R r) set t
      missed-all = record {
        asked = asked';
        held_is = r-held;
        here = lost-bit t asked' ∙ (omega arith);
        below = lost-below;
        above = λ u h. lost-above u;
        asks_is = r-asks ∙ ap (λ (x : View C). x.asks) view-is;
        some_won = λ u s e. won-back u s (is-free u s e);
        none_won = λ h. no-back (λ u s. is-taken u s (h u s));
      }

  pub set-alone : (t : ℕ) → t < id.slots → bit_at found t ≡ 1 → held p t ≡ None → p.me.0.caller_count ≢ 1
  set-alone t near taken none' sole = let c = a.4 sole ((seated.placed.one.0, seated.placed.one.1), [], seated.placed.one.2) t near taken in none-some c.0 (sym none' ∙ c.1)
