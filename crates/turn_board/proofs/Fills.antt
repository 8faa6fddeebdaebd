-- Moving the values of the hands into their slots, one after another.
use Rattle.std.proofs.Common.{◌≡◌, ◌≢◌, ℕ, zero, suc, ◌+◌, ◌^◌, ◌<◌, ◌≤◌, List, [], ◌∷◌, ◌++◌, length, get_or, cond, max, refl, sym, ap, ap₂, ◌∙◌, subst, arith, length-set, get_or-set_same, get_or-set_other}
use Rattle.std.specs.Prelude.{Some, None, ◌==◌, bit_or}
use Rattle.std.proofs.lemmas.Nat.Bits.{bit_at_or, bit_at-lt, bit_at-pow_same, bit_at-pow_other, bit_at-zero, bit_at_not}
use Rattle.std.proofs.lemmas.Option.{none-some}
use mathlib.Core.Logic.{dite}
use native.Mathlib.Decide.{ℕ_discrete, dec_lt}
use Rattle.std.specs.Int.{bit_at, bit_not, w64}
use Rattle.turn_steps.specs.Seated.{TableId}
use Rattle.turn_steps.specs.declared.view.View.{View}
use Rattle.turn_steps.specs.declared.view.Place.TheVariants.{Vacant, Lies}
use Rattle.turn_steps.specs.Tied.{counted, place}
use Rattle.turn_steps.specs.Maps.{SameTurns}
use Rattle.turn_steps.specs.Steps.{put_place, given_view, noted, lost_at, note_of, caller_of}
use Rattle.turn_steps.specs.Passes.{Token, Placed, IsSeated, held}
use Rattle.turn_board.specs.Hands.{in_hands, put_back, Once}
use Rattle.turn_board.specs.Moving.{Filled}
use Rattle.turn_board.specs.Boards.{BookedAll}
use Rattle.turn_board.proofs.AtSeat.{at}
use Rattle.turn_steps.proofs.Rows.{two, row-length, row-here, row-past}
use Rattle.turn_steps.proofs.Gives.{cases}
use Rattle.turn_board.proofs.Several.{else-in, once-last, last-in, else-last}
use Rattle.turn_board.proofs.Returns.{held-near, has-book}

-- the values that stood in xs and stand no more in rest were moved, and the set has their turns
pub record Filling {V C : Type 0} (content : V → C) (xs rest : List (ℕ × V)) (set : ℕ) (p q : Token V C) : Type 0 where
  pub table : q.table_id ≡ p.table_id
  pub id : q.id ≡ p.id
  pub none : q.me.1 ≡ p.me.1
  pub speaks : q.me.0.speaks ≡ p.me.0.speaks
  pub counts : q.me.0.counts ≡ p.me.0.counts
  pub lost : q.me.0.lost ≡ p.me.0.lost
  pub given : q.me.0.given ≡ p.me.0.given
  pub caller_count : q.me.0.caller_count ≡ p.me.0.caller_count
  pub asks : q.me.0.asks ≡ p.me.0.asks
  pub givings : q.me.0.givings ≡ p.me.0.givings
  pub change : q.me.0.change ≡ p.me.0.change
  pub long : length q.me.0.places ≡ length p.me.0.places
  pub waits : (u : ℕ) (c : C) → in_hands content rest u ≡ Some c → bit_at set u ≡ 0
  pub there : (u : ℕ) → bit_at set u ≡ 1 → (c : C) × (in_hands content xs u ≡ Some c) × (place q.me.0 u ≡ Lies c)
  pub others : (u : ℕ) → bit_at set u ≡ 0 → (in_hands content xs u ≡ in_hands content rest u) × (place q.me.0 u ≡ place p.me.0 u)

module _ {V C : Type 0} (content : V → C) where
  pub none-in : (l : List (ℕ × V)) (u : ℕ) → l ≡ [] → in_hands content l u ≡ None
  none-in l u e = ap (λ k. in_hands content k u) e

  pub starts : (xs : List (ℕ × V)) (p : Token V C) → Filling content xs xs 0 p p
  starts xs p = record {
    table = refl;
    id = refl;
    none = refl;
    speaks = refl;
    counts = refl;
    lost = refl;
    given = refl;
    caller_count = refl;
    asks = refl;
    givings = refl;
    change = refl;
    long = refl;
    waits = λ u c e. bit_at-zero u;
    there = λ u o. absurd (let z = bit_at-zero u in omega arith);
    others = λ u z. (refl, refl);
  }

  pub done : (xs rest : List (ℕ × V)) (set : ℕ) (p q : Token V C) → rest ≡ [] → Filling content xs rest set p q → Filled content xs set p q
  done xs rest set p q e f = record {
    table = f.table;
    id = f.id;
    none = f.none;
    speaks = f.speaks;
    counts = f.counts;
    lost = f.lost;
    given = f.given;
    caller_count = f.caller_count;
    asks = f.asks;
    givings = f.givings;
    change = f.change;
    long = f.long;
    there = f.there;
    others = λ u z. let o = f.others u z in (o.0 ∙ none-in rest u e, o.1);
  }

  module _ (xs rest more : List (ℕ × V)) (set t : ℕ) (x : V) (p q r : Token V C) (f : Filling content xs rest set p q) (is : rest ≡ more ++ (t, x) ∷ []) (once : Once content rest) (near : t < length p.me.0.places) (nothing : p.me.1 ≡ [])
      (r-table : r.table_id ≡ q.table_id) (r-id : r.id ≡ q.id) (r-is : r.me ≡ (put_place t (Lies (content x)) q.me.0, [])) where
    once-of : (0 < t) × (in_hands content more t ≡ None) × Once content more
    once-of = once-last content more t x (subst (Once content) is once)

    here : in_hands content rest t ≡ Some (content x)
    here = ap (λ l. in_hands content l t) is ∙ last-in content more t x once-of.1

    else-rest : (u : ℕ) → u ≢ t → in_hands content rest u ≡ in_hands content more u
    else-rest u ne = ap (λ l. in_hands content l u) is ∙ else-last content more t u x (λ s. ne (sym s))

    unset : bit_at set t ≡ 0
    unset = f.waits t (content x) here

    set-here : bit_at (bit_or set (2 ^ t)) t ≡ 1
    set-here = bit_at_or set (2 ^ t) t ∙ ap₂ max unset (bit_at-pow_same t)

    set-else : (u : ℕ) → u ≢ t → bit_at (bit_or set (2 ^ t)) u ≡ bit_at set u
    set-else u ne = bit_at_or set (2 ^ t) u ∙ ap (max (bit_at set u)) (bit_at-pow_other t u ne) ∙ (omega arith)

    place-here : place r.me.0 t ≡ Lies (content x)
    place-here = ap (λ m. place m.0 t) r-is ∙ get_or-set_same q.me.0.places t (Lies (content x)) Vacant (let l = f.long in omega arith)

    place-else : (u : ℕ) → u ≢ t → place r.me.0 u ≡ place q.me.0 u
    place-else u ne = ap (λ m. place m.0 u) r-is ∙ get_or-set_other q.me.0.places t u (Lies (content x)) Vacant ne

    pub one-more : Filling content xs more (bit_or set (2 ^ t)) p r
    one-more = record {
      table = r-table ∙ f.table;
      id = r-id ∙ f.id;
      none = ap (λ m. m.1) r-is ∙ sym nothing;
      speaks = ap (λ m. m.0.speaks) r-is ∙ f.speaks;
      counts = ap (λ m. m.0.counts) r-is ∙ f.counts;
      lost = ap (λ m. m.0.lost) r-is ∙ f.lost;
      given = ap (λ m. m.0.given) r-is ∙ f.given;
      caller_count = ap (λ m. m.0.caller_count) r-is ∙ f.caller_count;
      asks = ap (λ m. m.0.asks) r-is ∙ f.asks;
      givings = ap (λ m. m.0.givings) r-is ∙ f.givings;
      change = ap (λ m. m.0.change) r-is ∙ f.change;
      long = ap (λ m. length m.0.places) r-is ∙ length-set q.me.0.places t (Lies (content x)) ∙ f.long;
      waits = λ u c e. dite (ℕ_discrete u t)
          (λ s. absurd (none-some c (sym (ap (in_hands content more) s ∙ once-of.1) ∙ e)))
          (λ ne. set-else u ne ∙ f.waits u c (else-rest u ne ∙ e));
      there = λ u o. dite (ℕ_discrete u t)
          (λ s. (content x, ap (in_hands content xs) s ∙ (f.others t unset).0 ∙ here, ap (place r.me.0) s ∙ place-here))
          (λ ne. let h = f.there u (sym (set-else u ne) ∙ o) in (h.0, h.1, place-else u ne ∙ h.2));
      others = λ u z. dite (ℕ_discrete u t)
          (λ s. absurd (let k = ap (bit_at (bit_or set (2 ^ t))) s in let j = set-here in omega arith))
          (λ ne. let h = f.others u (sym (set-else u ne) ∙ z) in (h.0 ∙ else-rest u ne, place-else u ne ∙ h.1));
    }

    pub rest-once : Once content more
    rest-once = once-of.2

once-positive : {V C : Type 0} (content : V → C) (xs : List (ℕ × V)) → Once content xs → (u : ℕ) (c : C) → in_hands content xs u ≡ Some c → 0 < u
once-positive content [] o u c e = absurd (none-some c e)
once-positive content (x ∷ xs) o u c e = dite (ℕ_discrete x.0 u)
    (λ s. (let h : 0 < x.0 = o.0 in omega arith))
    (λ ne. once-positive content xs o.2 u c (sym (else-in content x.0 u x.1 xs ne) ∙ e))

pub after-zero : {V C : Type 0} (content : V → C) (book : V) (xs : List (ℕ × V)) (u : ℕ) → 0 < u → put_back content book xs u ≡ in_hands content xs u
after-zero content book xs zero h = absurd (omega arith)
after-zero content book xs (suc u) h = refl

pub from-mask : (mask u : ℕ) → mask < 2 ^ 64 → u < 64 → bit_at (bit_not w64 mask) u ≡ 0 → bit_at mask u ≡ 1
from-mask mask u fits near e = let m = bit_at_not w64 mask u fits near in let b = bit_at-lt mask u in omega arith

module _ {V C : Type 0} (content : V → C) (id : TableId) (few : id.slots ≤ 57) (p : Token V C) (seated : IsSeated id p) (book : V) (xs : List (ℕ × V)) (once : Once content xs) (same : SameTurns (held p) (put_back content book xs))
    (m : Token V C) (m-is : m.me ≡ (put_place 0 (Lies (content book)) p.me.0, [])) where
  pub book-held : (c : C) × (held p 0 ≡ Some c)
  book-held = has-book (held p) (put_back content book xs) (content book) same refl

  near-zero : 0 < id.slots
  near-zero = held-near p.me.0 id.slots 0 book-held.0 seated.placed.counts book-held.1

  pub waiting : (u : ℕ) (c : C) → in_hands content xs u ≡ Some c → ((d : C) × (held m u ≡ Some d)) × (place m.me.0 u ≡ Vacant)
  waiting u c e =
      let pos = once-positive content xs once u c e in
      let h = cases (held p u) ((d : C) × (held p u ≡ Some d)) (λ n. absurd (none-some c (sym (same.0 u n) ∙ after-zero content book xs u pos ∙ e))) (λ d g. (d, g)) in
      ((h.0, ap (λ y. counted y.0 u) m-is ∙ h.1), ap (λ y. place y.0 u) m-is ∙ get_or-set_other p.me.0.places 0 u (Lies (content book)) Vacant (λ s. omega arith) ∙ seated.vacant u)

  module _ (set : ℕ) (q : Token V C) (f : Filled content xs set m q) where
    zero-unset : bit_at set 0 ≡ 0
    zero-unset = two (bit_at set 0) (λ x. x ≡ 0) (bit_at-lt set 0) (λ _. refl) (λ o. absurd (let h = f.there 0 o in let k = once-positive content xs once 0 h.0 h.1 in omega arith))

    zero-place : place q.me.0 0 ≡ Lies (content book)
    zero-place = (f.others 0 zero-unset).1 ∙ ap (λ y. place y.0 0) m-is ∙ get_or-set_same p.me.0.places 0 (Lies (content book)) Vacant (let l = seated.placed.places in let n = near-zero in omega arith)

    with-one : (u : ℕ) → u ≢ 0 → bit_at (bit_or set 1) u ≡ bit_at set u
    with-one u ne = bit_at_or set 1 u ∙ ap (max (bit_at set u)) (bit_at-pow_other 0 u ne) ∙ (omega arith)

    one-set : bit_at (bit_or set 1) 0 ≡ 1
    one-set = bit_at_or set 1 0 ∙ ap₂ max zero-unset (bit_at-pow_same 0)

    pub all-lie : (u : ℕ) → bit_at (bit_or set 1) u ≡ 1 → (c : C) × (put_back content book xs u ≡ Some c) × (place q.me.0 u ≡ Lies c)
    all-lie zero o = (content book, refl, zero-place)
    all-lie (suc u) o = f.there (suc u) (sym (with-one (suc u) (λ s. omega arith)) ∙ o)

    pub filled-placed : Placed id m → Placed id q
    filled-placed x = record { of_table = f.table ∙ x.of_table; empty = f.none ∙ x.empty; counts = ap length f.counts ∙ x.counts; places = f.long ∙ x.places; losses = ap length f.lost ∙ x.losses; one = (x.one.0, x.one.1, f.speaks ∙ x.one.2) }

    module _ (fits : bit_or set 1 < 2 ^ 64) (r : Token V C) (change : ℕ × List C)
        (r-is : r.me ≡ (given_view id.slots (bit_not w64 (bit_or set 1)) (put_back content book xs) (noted (Some (content book)) q.me.0.speaks) (q.me.0.given + 1) change q.me.0, q.me.1)) where
      abbrev M : ℕ
      M = bit_not w64 (bit_or set 1)

      r-view : r.me.0 ≡ given_view id.slots (bit_not w64 (bit_or set 1)) (put_back content book xs) (noted (Some (content book)) q.me.0.speaks) (q.me.0.given + 1) change q.me.0
      r-view = ap (λ y. y.0) r-is

      -- a bit that stays set is of a turn that was not held
      kept-bit : (u : ℕ) → u < id.slots → bit_at M u ≡ 1 → (u ≢ 0) × (bit_at set u ≡ 0)
      kept-bit u near e = let n = bit_at_not w64 (bit_or set 1) u fits (omega arith) in
          let other : u ≢ 0 = λ s. (let k = ap (bit_at (bit_or set 1)) s in let o = one-set in omega arith) in
          (other, sym (with-one u other) ∙ (let b = bit_at-lt (bit_or set 1) u in omega arith))

      all-gone : (u : ℕ) → held r u ≡ None
      all-gone u = ap (λ (x : View C). counted x u) r-view ∙ dite (dec_lt u id.slots)
          (λ h. row-here id.slots (λ y. cond (bit_at M y == 0) None (put_back content book xs y)) None u h
          ∙ two (bit_at M u) (λ x. cond (x == 0) None (put_back content book xs u) ≡ None) (bit_at-lt M u) (λ z. refl)
          (λ o. let k = kept-bit u h o in after-zero content book xs u (let n = k.0 in omega arith) ∙ (f.others u k.1).0))
          (λ h. let k : id.slots ≤ u = omega arith in row-past 0 id.slots (λ y. cond (bit_at M y == 0) None (put_back content book xs y)) None u k)

      all-vacant : (u : ℕ) → place r.me.0 u ≡ Vacant
      all-vacant u = ap (λ (x : View C). place x u) r-view ∙ dite (dec_lt u id.slots)
          (λ h. row-here id.slots (λ y. cond (bit_at M y == 0) Vacant (place q.me.0 y)) Vacant u h
          ∙ two (bit_at M u) (λ x. cond (x == 0) Vacant (place q.me.0 u) ≡ Vacant) (bit_at-lt M u) (λ z. refl)
          (λ o. let k = kept-bit u h o in (f.others u k.1).1 ∙ ap (λ y. place y.0 u) m-is ∙ get_or-set_other p.me.0.places 0 u (Lies (content book)) Vacant k.0 ∙ seated.vacant u))
          (λ h. let k : id.slots ≤ u = omega arith in row-past 0 id.slots (λ y. cond (bit_at M y == 0) Vacant (place q.me.0 y)) Vacant u k)

      speaks-now : r.me.0.speaks ≡ (seated.placed.one.0, content book) ∷ []
      speaks-now = ap (λ (x : View C). x.speaks) r-view ∙ ap (noted (Some (content book))) (f.speaks ∙ ap (λ y. y.0.speaks) m-is ∙ seated.placed.one.2)

      all-noted : note_of r.me.0.speaks ≡ Some (content book)
      all-noted = ap note_of speaks-now

      all-caller : caller_of r.me.0.speaks ≡ caller_of p.me.0.speaks
      all-caller = ap caller_of speaks-now ∙ sym (ap caller_of seated.placed.one.2)

      all-caller_count : r.me.0.caller_count ≡ p.me.0.caller_count
      all-caller_count = ap (λ (x : View C). x.caller_count) r-view ∙ f.caller_count ∙ ap (λ y. y.0.caller_count) m-is

      all-given : r.me.0.given ≡ p.me.0.given + 1
      all-given = ap (λ (x : View C). x.given) r-view ∙ ap (λ (n : ℕ). n + 1) (f.given ∙ ap (λ y. y.0.given) m-is)

      all-losses : (u : ℕ) → lost_at r.me.0 u ≡ lost_at p.me.0 u
      all-losses u = ap (λ (x : View C). lost_at x u) r-view ∙ ap (λ l. get_or l u 0) f.lost ∙ ap (λ y. lost_at y.0 u) m-is

      all-asks : r.me.0.asks ≡ p.me.0.asks
      all-asks = ap (λ (x : View C). x.asks) r-view ∙ f.asks ∙ ap (λ y. y.0.asks) m-is

      all-givings : r.me.0.givings ≡ p.me.0.givings + 1
      all-givings = ap (λ (x : View C). x.givings) r-view ∙ ap (λ (n : ℕ). n + 1) (f.givings ∙ ap (λ y. y.0.givings) m-is)

      pub all-change : r.me.0.change ≡ change
      all-change = ap (λ (x : View C). x.change) r-view

      pub booked-all : {R : Type 0} → BookedAll (at R p) (at R r) (content book)
      booked-all = record { nothing = all-gone; noted = all-noted; caller_is = all-caller; caller_count_is = all-caller_count; given_is = all-given; lost_is = all-losses; asks_is = all-asks; givings_is = all-givings }

      pub all-sits : r.table_id ≡ id → IsSeated id r
      all-sits table = record {
        placed = record {
          of_table = table;
          empty = ap (λ y. y.1) r-is ∙ f.none ∙ ap (λ y. y.1) m-is;
          counts = ap (λ (x : View C). length x.counts) r-view ∙ row-length 0 id.slots (λ y. cond (bit_at M y == 0) None (put_back content book xs y));
          places = ap (λ (x : View C). length x.places) r-view ∙ row-length 0 id.slots (λ y. cond (bit_at M y == 0) Vacant (place q.me.0 y));
          losses = ap (λ (x : View C). length x.lost) r-view ∙ ap length f.lost ∙ ap (λ y. length y.0.lost) m-is ∙ seated.placed.losses;
          one = (seated.placed.one.0, content book, speaks-now);
        };
        vacant = all-vacant;
      }
