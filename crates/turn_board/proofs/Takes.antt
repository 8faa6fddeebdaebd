-- What an asking for one turn tells, in the words of a contract.
use Rattle.std.proofs.Common.{◌≡◌, ◌≢◌, ℕ, zero, suc, ◌*◌, ◌^◌, ◌<◌, List, [], length, Bool, true, false, cond, ◌&&◌, refl, sym, ap, ap₂, ◌∙◌, arith, length-set, get_or-set_same, get_or-set_other}
use Rattle.std.specs.Prelude.{Some, None, slice_get, ◌==◌, bit_and}
use Rattle.std.proofs.lemmas.Nat.{pow_pos}
use Rattle.std.proofs.lemmas.Nat.Bits.{and_pow, bit_at-pow_same, bit_at-pow_other, bit_at-lt}
use Rattle.std.proofs.lemmas.Option.{none-some}
use mathlib.Core.Logic.{dite}
use native.Mathlib.Decide.{ℕ_discrete}
use Rattle.std.specs.Int.{bit_at}
use Rattle.turn_steps.specs.Seated.{TableId}
use Rattle.turn_steps.specs.declared.view.View.{View}
use Rattle.turn_steps.specs.declared.view.Place.TheVariants.{Vacant, Lies}
use Rattle.turn_steps.specs.Tied.{counted, place}
use Rattle.turn_steps.specs.Steps.{asked, asked_view, lies, lost_at, one_more_lost, put_place, note_of, caller_of}
use Rattle.turn_steps.specs.Passes.{Token, Placed, IsSeated, held, lost}
use Rattle.turn_board.specs.Boards.{SameNote, Gained, Missed, Tells}
use Rattle.turn_board.proofs.AtSeat.{at, told}
use Rattle.turn_steps.proofs.Rows.{row-length, changed-here, changed-else, get-within}

-- the bit t of the word that was found is not set where the test says so
pub found-free : (found t : ℕ) → bit_and found (2 ^ t) ≡ 0 → bit_at found t ≡ 0
found-free found t e = zero-of (bit_at found t) (2 ^ t) (pow_pos t) (sym (and_pow found t) ∙ e)
  where
    zero-of : (b p : ℕ) → 0 < p → b * p ≡ 0 → b ≡ 0
    zero-of zero p h g = refl
    zero-of (suc b) p h g = absurd (grind arith)

pub found-taken : (found t : ℕ) → bit_and found (2 ^ t) ≢ 0 → bit_at found t ≡ 1
found-taken found t ne = one-of (bit_at found t) (bit_at-lt found t) (λ z. ne (and_pow found t ∙ ap (λ (b : ℕ). b * 2 ^ t) z ∙ (let g : 0 * 2 ^ t ≡ 0 = omega arith in g)))
  where
    one-of : (b : ℕ) → b < 2 → (b ≡ 0 → ⊥) → b ≡ 1
    one-of b h n = omega arith

module _ {V C : Type 0} (holds : List C → List C → Type 0) (id : TableId) (p q : Token V C) (t found : ℕ) (near : t < id.slots) (sits : Placed id p) (same-table : q.table_id ≡ p.table_id) (same-id : q.id ≡ p.id)
    (a : asked holds id.slots (2 ^ t) p.me found q.me) where
  abbrev v : View C
  v = p.me.0

  abbrev w : View C
  w = asked_view id.slots (2 ^ t) found a.0 v

  view-is : q.me.0 ≡ w
  view-is = ap (λ m. m.0) a.2

  abbrev won : ℕ → Bool
  won u = (bit_at (2 ^ t) u == 1) && (bit_at found u == 0)

  abbrev missed : ℕ → Bool
  missed u = (bit_at (2 ^ t) u == 1) && (bit_at found u == 1)

  won-else : (u : ℕ) → u ≢ t → won u ≡ false
  won-else u ne = ap (λ (b : ℕ). (b == 1) && (bit_at found u == 0)) (bit_at-pow_other t u ne)

  missed-else : (u : ℕ) → u ≢ t → missed u ≡ false
  missed-else u ne = ap (λ (b : ℕ). (b == 1) && (bit_at found u == 1)) (bit_at-pow_other t u ne)

  test-at : (x : ℕ) (f : ℕ → ℕ → Bool) → bit_at found t ≡ x → f (bit_at (2 ^ t) t) (bit_at found t) ≡ f 1 x
  test-at x f e = ap₂ f (bit_at-pow_same t) e

  held-else : (u : ℕ) → won u ≡ false → held q u ≡ held p u
  held-else u e = ap (λ (x : View C). counted x u) view-is ∙ changed-else id.slots v.counts None won (slice_get a.0) u sits.counts e

  place-else : (u : ℕ) → won u ≡ false → place q.me.0 u ≡ place v u
  place-else u e = ap (λ (x : View C). place x u) view-is ∙ changed-else id.slots v.places Vacant won (λ y. lies (slice_get a.0 y)) u sits.places e

  lost-else : (u : ℕ) → missed u ≡ false → lost q u ≡ lost p u
  lost-else u e = ap (λ (x : View C). lost_at x u) view-is ∙ changed-else id.slots v.lost 0 missed (λ y. one_more_lost (counted v y) (lost_at v y)) u sits.losses e

  pub still-placed : Placed id q
  still-placed = record {
    of_table = same-table ∙ sits.of_table;
    empty = ap (λ m. m.1) a.2 ∙ sits.empty;
    counts = ap (λ (x : View C). length x.counts) view-is ∙ row-length 0 id.slots (λ u. cond (won u) (slice_get a.0 u) (counted v u));
    places = ap (λ (x : View C). length x.places) view-is ∙ row-length 0 id.slots (λ u. cond (won u) (lies (slice_get a.0 u)) (place v u));
    losses = ap (λ (x : View C). length x.lost) view-is ∙ row-length 0 id.slots (λ u. cond (missed u) (one_more_lost (counted v u) (lost_at v u)) (lost_at v u));
    one = (sits.one.0, sits.one.1, ap (λ (x : View C). x.speaks) view-is ∙ sits.one.2);
  }

  pub same-spoken : {R : Type 0} → SameNote (at R p) (at R q)
  same-spoken = record { caller_is = ap (λ (x : View C). caller_of x.speaks) view-is; note_is = ap (λ (x : View C). note_of x.speaks) view-is; caller_count_is = ap (λ (x : View C). x.caller_count) view-is; given_is = ap (λ (x : View C). x.given) view-is; change_is = ap (λ (x : View C). x.change) view-is }

  pub tells-still : {R : Type 0} → Tells holds id.slots (at R q)
  tells-still {R} = told R holds id.slots q sits.one.0 sits.one.1 (ap (λ (x : View C). x.speaks) view-is ∙ sits.one.2) a.3

  -- the turn was free
  module _ (free : bit_at found t ≡ 0) where
    won-here : won t ≡ true
    won-here = test-at 0 (λ x y. (x == 1) && (y == 0)) free

    missed-none : (u : ℕ) → missed u ≡ false
    missed-none u = dite (ℕ_discrete u t) (λ e. ap missed e ∙ test-at 0 (λ x y. (x == 1) && (y == 1)) free) (λ ne. missed-else u ne)

    pub now-lies : (c : C) × (held q t ≡ Some c) × (place q.me.0 t ≡ Lies c)
    now-lies = let g = get-within a.0 t (let h : length a.0 ≡ id.slots = a.1 in omega arith) in (
      g.0,
      ap (λ (x : View C). counted x t) view-is ∙ changed-here id.slots v.counts None won (slice_get a.0) t near won-here ∙ g.1,
      ap (λ (x : View C). place x t) view-is ∙ changed-here id.slots v.places Vacant won (λ y. lies (slice_get a.0 y)) t near won-here ∙ ap lies g.1,
    )

    -- after the value was moved out
    module _ (r : Token V C) (r-table : r.table_id ≡ q.table_id) (r-id : r.id ≡ q.id) (r-me : r.me ≡ (put_place t Vacant q.me.0, [])) where
      r-view : r.me.0 ≡ put_place t Vacant q.me.0
      r-view = ap (λ m. m.0) r-me

      pub gained : {R : Type 0} (c : C) → held q t ≡ Some c → Gained (at R p) (at R r) t c
      gained c e = record {
        here = ap (λ (x : View C). counted x t) r-view ∙ e;
        others = λ u ne. ap (λ (x : View C). counted x u) r-view ∙ held-else u (won-else u ne);
        lost_is = λ u. ap (λ (x : View C). lost_at x u) r-view ∙ lost-else u (missed-none u);
        asks_is = ap (λ (x : View C). x.asks) r-view ∙ ap (λ (x : View C). x.asks) view-is;
        givings_is = ap (λ (x : View C). x.givings) r-view ∙ ap (λ (x : View C). x.givings) view-is;
      }

      pub tells-now : {R : Type 0} → Tells holds id.slots (at R r)
      tells-now {R} = let o : Tells holds id.slots (at R q) = tells-still {R = R} in record {
        contents = o.contents;
        notes = o.notes;
        tied = o.tied;
        turns_is = o.turns_is;
        callers = o.callers ∙ ap (λ (x : View C). x.caller_count) (sym r-view);
        own = λ u c e. o.own u c (sym (ap (λ (x : View C). counted x u) r-view) ∙ e);
        noted = ap (λ (x : View C). slice_get o.notes (caller_of x.speaks)) r-view ∙ o.noted ∙ sym (ap (λ (x : View C). note_of x.speaks) r-view);
      }

      pub sits-now : ((u : ℕ) → place v u ≡ Vacant) → IsSeated id r
      sits-now vacant = record {
        placed = record {
          of_table = r-table ∙ still-placed.of_table;
          empty = ap (λ m. m.1) r-me;
          counts = ap (λ (x : View C). length x.counts) r-view ∙ still-placed.counts;
          places = ap (λ (x : View C). length x.places) r-view ∙ length-set q.me.0.places t Vacant ∙ still-placed.places;
          losses = ap (λ (x : View C). length x.lost) r-view ∙ still-placed.losses;
          one = (still-placed.one.0, still-placed.one.1, ap (λ (x : View C). x.speaks) r-view ∙ still-placed.one.2);
        };
        vacant = λ u. ap (λ (x : View C). place x u) r-view
            ∙ dite (ℕ_discrete u t)
            (λ e. ap (place (put_place t Vacant q.me.0)) e ∙ get_or-set_same q.me.0.places t Vacant Vacant (let h : length q.me.0.places ≡ id.slots = still-placed.places in omega arith))
            (λ ne. get_or-set_other q.me.0.places t u Vacant Vacant ne ∙ place-else u (won-else u ne) ∙ vacant u);
      }

      pub spoken-now : {R : Type 0} → SameNote (at R p) (at R r)
      spoken-now = record {
        caller_is = ap (λ (x : View C). caller_of x.speaks) r-view ∙ ap (λ (x : View C). caller_of x.speaks) view-is;
        note_is = ap (λ (x : View C). note_of x.speaks) r-view ∙ ap (λ (x : View C). note_of x.speaks) view-is;
        caller_count_is = ap (λ (x : View C). x.caller_count) r-view ∙ ap (λ (x : View C). x.caller_count) view-is;
        given_is = ap (λ (x : View C). x.given) r-view ∙ ap (λ (x : View C). x.given) view-is;
        change_is = ap (λ (x : View C). x.change) r-view ∙ ap (λ (x : View C). x.change) view-is;
      }

  -- the turn was taken
  module _ (taken : bit_at found t ≡ 1) where
    won-none : (u : ℕ) → won u ≡ false
    won-none u = dite (ℕ_discrete u t) (λ e. ap won e ∙ test-at 1 (λ x y. (x == 1) && (y == 0)) taken) (λ ne. won-else u ne)

    pub now-missed : {R : Type 0} → held p t ≡ None → Missed (at R p) (at R q) t
    now-missed none' = record {
      held_is = λ u. held-else u (won-none u);
      here = ap (λ (x : View C). lost_at x t) view-is ∙ changed-here id.slots v.lost 0 missed (λ y. one_more_lost (counted v y) (lost_at v y)) t near (test-at 1 (λ x y. (x == 1) && (y == 1)) taken) ∙ ap (λ o. one_more_lost o (lost_at v t)) none';
      others = λ u ne. lost-else u (missed-else u ne);
      asks_is = ap (λ (x : View C). x.asks) view-is;
      givings_is = ap (λ (x : View C). x.givings) view-is;
    }

    pub sits-still : ((u : ℕ) → place v u ≡ Vacant) → IsSeated id q
    sits-still vacant = record { placed = still-placed; vacant = λ u. place-else u (won-none u) ∙ vacant u }

    pub not-alone : held p t ≡ None → p.me.0.caller_count ≢ 1
    not-alone none' sole = let c = a.4 sole ((sits.one.0, sits.one.1), [], sits.one.2) t near taken in none-some c.0 (sym none' ∙ c.1)
