-- What a giving back leaves, in the words of a contract.
use Rattle.std.proofs.Common.{◌≡◌, ◌≢◌, ℕ, ◌+◌, ◌-◌, ◌^◌, ◌<◌, ◌≤◌, List, [], ◌∷◌, length, Bool, true, false, cond, sym, ap, ap₂, ◌∙◌, subst, arith, eq-eqb, ne_eqb, get_or-set_same, get_or-set_other}
use Rattle.std.specs.Prelude.{Option, Some, None, ◌==◌, slice_index_or}
use Rattle.std.proofs.lemmas.Nat.{pow_below}
use Rattle.std.proofs.lemmas.Nat.Bits.{bit_at-pow_same, bit_at-pow_other, bit_at_not}
use Rattle.std.proofs.lemmas.Option.{none-some}
use Rattle.std.proofs.lemmas.List.{get_or_past}
use mathlib.Core.Logic.{dite}
use native.Mathlib.Decide.{dec_lt, ℕ_discrete}
use Rattle.std.specs.Int.{bit_at, bit_not, w64}
use Rattle.turn_steps.specs.Seated.{TableId}
use Rattle.turn_steps.specs.declared.view.View.{View}
use Rattle.turn_steps.specs.declared.view.Place.TheVariants.{Vacant, Lies}
use Rattle.turn_steps.specs.Tied.{counted, place}
use Rattle.turn_steps.specs.Steps.{Sits, booked, given_view, put_place, lost_at, note_of, caller_of, noted}
use Rattle.turn_steps.specs.Passes.{Token, IsSeated, held, lost}
use Rattle.turn_board.specs.Hands.{HandsView, put_back}
use Rattle.turn_board.specs.Boards.{SameNote, Released, Booked, Changed}
use Rattle.turn_board.proofs.AtSeat.{at}
use Rattle.turn_steps.specs.Maps.{SameTurns}
use Rattle.turn_steps.proofs.Rows.{row-length, row-here, row-past}
use Rattle.turn_steps.proofs.Gives.{cases}

-- the complement of one bit
pub cleared-here : (t : ℕ) → t < 64 → bit_at (bit_not w64 (2 ^ t)) t ≡ 0
cleared-here t h = bit_at_not w64 (2 ^ t) t (pow_below t 64 h) h ∙ ap (λ (b : ℕ). 1 - b) (bit_at-pow_same t)

pub cleared-else : (t u : ℕ) → t < 64 → u < 64 → u ≢ t → bit_at (bit_not w64 (2 ^ t)) u ≡ 1
cleared-else t u h k ne = bit_at_not w64 (2 ^ t) u (pow_below t 64 h) k ∙ ap (λ (b : ℕ). 1 - b) (bit_at-pow_other t u ne)

module _ {V C : Type 0} (id : TableId) (v : View C) (t mask : ℕ) (new : ℕ → Option C) (speaks : List (ℕ × C)) (given : ℕ) (change : ℕ × List C) (q : Token V C)
    (q-is : q.me ≡ (given_view id.slots mask new speaks given change v, [])) (zero-here : bit_at mask t ≡ 0) (ones : (u : ℕ) → u < id.slots → u ≢ t → bit_at mask u ≡ 1) (near : t < id.slots) where
  view-is : q.me.0 ≡ given_view id.slots mask new speaks given change v
  view-is = ap (λ m. m.0) q-is

  gone : ℕ → Bool
  gone u = bit_at mask u == 0

  gone-here : (bit_at mask t == 0) ≡ true
  gone-here = eq-eqb (bit_at mask t) 0 zero-here

  gone-else : (u : ℕ) → u < id.slots → u ≢ t → (bit_at mask u == 0) ≡ false
  gone-else u h ne = let o = ones u h ne in ne_eqb (bit_at mask u) 0 (λ e. omega arith)

  pub held-here : held q t ≡ None
  held-here = ap (λ (x : View C). counted x t) view-is ∙ row-here id.slots (λ u. cond (bit_at mask u == 0) None (new u)) None t near ∙ ap (λ (b : Bool). cond b None (new t)) gone-here

  pub held-else : (u : ℕ) → u < id.slots → u ≢ t → held q u ≡ new u
  held-else u h ne = ap (λ (x : View C). counted x u) view-is ∙ row-here id.slots (λ y. cond (bit_at mask y == 0) None (new y)) None u h ∙ ap (λ (b : Bool). cond b None (new u)) (gone-else u h ne)

  pub held-past : (u : ℕ) → id.slots ≤ u → held q u ≡ None
  held-past u h = ap (λ (x : View C). counted x u) view-is ∙ row-past 0 id.slots (λ y. cond (bit_at mask y == 0) None (new y)) None u h

  pub lost-same : (u : ℕ) → lost q u ≡ lost_at v u
  lost-same u = ap (λ (x : View C). lost_at x u) view-is

  pub place-now : (u : ℕ) → (u ≢ t → place v u ≡ Vacant) → place q.me.0 u ≡ Vacant
  place-now u rest' = ap (λ (x : View C). place x u) view-is
      ∙ dite (dec_lt u id.slots)
      (λ h. row-here id.slots (λ y. cond (bit_at mask y == 0) Vacant (place v y)) Vacant u h
      ∙ dite (ℕ_discrete u t)
      (λ e. ap (λ (y : ℕ). cond (bit_at mask y == 0) Vacant (place v y)) e ∙ ap (λ (b : Bool). cond b Vacant (place v t)) gone-here)
      (λ ne. ap (λ (b : Bool). cond b Vacant (place v u)) (gone-else u h ne) ∙ rest' ne))
      (λ h. row-past 0 id.slots (λ y. cond (bit_at mask y == 0) Vacant (place v y)) Vacant u (let k : id.slots ≤ u = omega arith in k))

  pub sits : q.table_id ≡ id → length v.lost ≡ id.slots → ((k : ℕ) × (c : C) × (speaks ≡ (k, c) ∷ [])) → ((u : ℕ) → u ≢ t → place v u ≡ Vacant) → IsSeated id q
  sits same long one rest' = record {
    placed = record {
      of_table = same;
      empty = ap (λ m. m.1) q-is;
      counts = ap (λ (x : View C). length x.counts) view-is ∙ row-length 0 id.slots (λ u. cond (bit_at mask u == 0) None (new u));
      places = ap (λ (x : View C). length x.places) view-is ∙ row-length 0 id.slots (λ u. cond (bit_at mask u == 0) Vacant (place v u));
      losses = ap (λ (x : View C). length x.lost) view-is ∙ long;
      one = (one.0, one.1, ap (λ (x : View C). x.speaks) view-is ∙ one.2);
    };
    vacant = λ u. place-now u (rest' u);
  }

-- a turn that is held stands below the number of turns
pub held-near : {C : Type 0} (v : View C) (n t : ℕ) (c : C) → length v.counts ≡ n → counted v t ≡ Some c → t < n
held-near v n t c long e = dite (dec_lt t n) (λ h. h) (λ h. absurd (none-some c (sym (get_or_past v.counts t None (let k : length v.counts ≤ t = omega arith in k)) ∙ e)))

-- one turn is given back as it was: p before, m after its value was laid into the slot, q after the step
module _ {V C : Type 0} (id : TableId) (few : id.slots ≤ 57) (p : Token V C) (seated : IsSeated id p) (t : ℕ) (x : C) (is : held p t ≡ Some x) (m : Token V C) (m-is : m.me ≡ (put_place t (Lies x) p.me.0, [])) where
  below : t < id.slots
  below = held-near p.me.0 id.slots t x seated.placed.counts is

  mid : View C
  mid = put_place t (Lies x) p.me.0

  m-view : m.me.0 ≡ put_place t (Lies x) p.me.0
  m-view = ap (λ y. y.0) m-is

  pub freed : (u : ℕ) → u < id.slots → bit_at (bit_not w64 (2 ^ t)) u ≡ 0 → (d : C) × (counted m.me.0 u ≡ Some d) × (place m.me.0 u ≡ Lies d)
  freed u h e = dite (ℕ_discrete u t)
      (λ s. (x, ap₂ counted m-view s ∙ is, ap₂ place m-view s ∙ get_or-set_same p.me.0.places t (Lies x) Vacant (let l : length p.me.0.places ≡ id.slots = seated.placed.places in let b : t < id.slots = below in omega arith)))
      (λ ne. absurd (let b : t < id.slots = below in let o = cleared-else t u (omega arith) (omega arith) ne in omega arith))

  module _ (q : Token V C) (same-table : q.table_id ≡ p.table_id) (same-id : q.id ≡ p.id) (q-is : q.me ≡ (given_view id.slots (bit_not w64 (2 ^ t)) (counted m.me.0) m.me.0.speaks m.me.0.given m.me.0.change m.me.0, m.me.1)) where
    zero-bit : bit_at (bit_not w64 (2 ^ t)) t ≡ 0
    zero-bit = cleared-here t (let b : t < id.slots = below in omega arith)

    one-bits : (u : ℕ) → u < id.slots → u ≢ t → bit_at (bit_not w64 (2 ^ t)) u ≡ 1
    one-bits u h ne = cleared-else t u (let b : t < id.slots = below in omega arith) (omega arith) ne

    q-now : q.me ≡ (given_view id.slots (bit_not w64 (2 ^ t)) (counted p.me.0) p.me.0.speaks p.me.0.given p.me.0.change (put_place t (Lies x) p.me.0), [])
    q-now = q-is ∙ ap (λ y. (given_view id.slots (bit_not w64 (2 ^ t)) (counted y.0) y.0.speaks y.0.given y.0.change y.0, y.1)) m-is

    pub gave : {R : Type 0} → Released (at R p) (at R q) t
    gave = record {
      here = held-here id (put_place t (Lies x) p.me.0) t (bit_not w64 (2 ^ t)) (counted p.me.0) p.me.0.speaks p.me.0.given p.me.0.change q q-now zero-bit one-bits below;
      others = λ u ne. dite (dec_lt u id.slots)
          (λ h. held-else id (put_place t (Lies x) p.me.0) t (bit_not w64 (2 ^ t)) (counted p.me.0) p.me.0.speaks p.me.0.given p.me.0.change q q-now zero-bit one-bits below u h ne)
          (λ h. let k : id.slots ≤ u = omega arith in held-past id (put_place t (Lies x) p.me.0) t (bit_not w64 (2 ^ t)) (counted p.me.0) p.me.0.speaks p.me.0.given p.me.0.change q q-now zero-bit one-bits below u k
          ∙ sym (get_or_past p.me.0.counts u None (let l : length p.me.0.counts ≡ id.slots = seated.placed.counts in omega arith)));
      lost_is = λ u. lost-same id (put_place t (Lies x) p.me.0) t (bit_not w64 (2 ^ t)) (counted p.me.0) p.me.0.speaks p.me.0.given p.me.0.change q q-now zero-bit one-bits below u;
      asks_is = ap (λ y. y.0.asks) q-now;
      givings_is = ap (λ y. y.0.givings) q-now;
    }

    pub sits-again : IsSeated id q
    sits-again = sits id (put_place t (Lies x) p.me.0) t (bit_not w64 (2 ^ t)) (counted p.me.0) p.me.0.speaks p.me.0.given p.me.0.change q q-now zero-bit one-bits below (same-table ∙ seated.placed.of_table) seated.placed.losses seated.placed.one
        (λ u ne. get_or-set_other p.me.0.places t u (Lies x) Vacant ne ∙ seated.vacant u)

    pub spoken-again : {R : Type 0} → SameNote (at R p) (at R q)
    spoken-again = record { caller_is = ap (λ y. caller_of y.0.speaks) q-now; note_is = ap (λ y. note_of y.0.speaks) q-now; caller_count_is = ap (λ y. y.0.caller_count) q-now; given_is = ap (λ y. y.0.given) q-now; change_is = ap (λ y. y.0.change) q-now }

-- who is to give the book back holds turn 0
pub has-book : {C : Type 0} (old new : ℕ → Option C) (b : C) → SameTurns old new → new 0 ≡ Some b → (c : C) × (old 0 ≡ Some c)
has-book {C} old new b same e = cases (old 0) ((c : C) × (old 0 ≡ Some c)) (λ n. absurd (none-some b (sym (same.0 0 n) ∙ e))) (λ c f. (c, f))

-- the book is given back: p before, m after its value was laid into the slot, q after the step
module _ {V C : Type 0} (id : TableId) (few : id.slots ≤ 57) (p : Token V C) (seated : IsSeated id p) (new : ℕ → Option C) (b : C) (has : new 0 ≡ Some b) (same : SameTurns (held p) new) (mask : ℕ) (zero-bit : bit_at mask 0 ≡ 0) (ones : (u : ℕ) → 0 < u → u < id.slots → bit_at mask u ≡ 1)
    (m : Token V C) (m-is : m.me ≡ (put_place 0 (Lies b) p.me.0, [])) (q : Token V C) (change : ℕ × List C)
    (q-is : q.me ≡ (given_view id.slots mask new (noted (Some b) m.me.0.speaks) (m.me.0.given + 1) change m.me.0, m.me.1)) where
  private-below : 0 < id.slots
  private-below = let h = has-book (held p) new b same has in held-near p.me.0 id.slots 0 h.0 seated.placed.counts h.1

  book-now : q.me ≡ (given_view id.slots mask new (noted (Some b) p.me.0.speaks) (p.me.0.given + 1) change (put_place 0 (Lies b) p.me.0), [])
  book-now = q-is ∙ ap (λ y. (given_view id.slots mask new (noted (Some b) y.0.speaks) (y.0.given + 1) change y.0, y.1)) m-is

  one-else : (u : ℕ) → u < id.slots → u ≢ 0 → bit_at mask u ≡ 1
  one-else u h ne = ones u (omega arith) h

  speaks-now : noted (Some b) p.me.0.speaks ≡ (seated.placed.one.0, b) ∷ []
  speaks-now = ap (noted (Some b)) seated.placed.one.2

  book-gone : held q 0 ≡ None
  book-gone = held-here id (put_place 0 (Lies b) p.me.0) 0 mask new (noted (Some b) p.me.0.speaks) (p.me.0.given + 1) change q book-now zero-bit one-else private-below

  others-new : (u : ℕ) → 0 < u → held q u ≡ new u
  others-new u pos = dite (dec_lt u id.slots)
      (λ h. held-else id (put_place 0 (Lies b) p.me.0) 0 mask new (noted (Some b) p.me.0.speaks) (p.me.0.given + 1) change q book-now zero-bit one-else private-below u h (λ e. omega arith))
      (λ h. let k : id.slots ≤ u = omega arith in held-past id (put_place 0 (Lies b) p.me.0) 0 mask new (noted (Some b) p.me.0.speaks) (p.me.0.given + 1) change q book-now zero-bit one-else private-below u k
      ∙ sym (same.0 u (get_or_past p.me.0.counts u None (let l : length p.me.0.counts ≡ id.slots = seated.placed.counts in omega arith))))

  book-noted : note_of q.me.0.speaks ≡ new 0
  book-noted = ap (λ y. note_of y.0.speaks) book-now ∙ ap note_of speaks-now ∙ sym has

  book-caller : caller_of q.me.0.speaks ≡ caller_of p.me.0.speaks
  book-caller = ap (λ y. caller_of y.0.speaks) book-now ∙ ap caller_of speaks-now ∙ sym (ap caller_of seated.placed.one.2)

  book-caller_count : q.me.0.caller_count ≡ p.me.0.caller_count
  book-caller_count = ap (λ y. y.0.caller_count) book-now

  book-given : q.me.0.given ≡ p.me.0.given + 1
  book-given = ap (λ y. y.0.given) book-now

  book-lost : (u : ℕ) → lost q u ≡ lost p u
  book-lost u = ap (λ y. lost_at y.0 u) book-now

  book-asks : q.me.0.asks ≡ p.me.0.asks
  book-asks = ap (λ y. y.0.asks) book-now

  book-givings : q.me.0.givings ≡ p.me.0.givings + 1
  book-givings = ap (λ y. y.0.givings) book-now

  pub book-change : q.me.0.change ≡ change
  book-change = ap (λ y. y.0.change) book-now

  pub booked-now : {R : Type 0} → Booked (at R p) (at R q) new
  booked-now = record { book = book-gone; others = others-new; noted = book-noted; caller_is = book-caller; caller_count_is = book-caller_count; given_is = book-given; lost_is = book-lost; asks_is = book-asks; givings_is = book-givings }

  pub book-sits : q.table_id ≡ p.table_id → IsSeated id q
  book-sits same-table = sits id (put_place 0 (Lies b) p.me.0) 0 mask new (noted (Some b) p.me.0.speaks) (p.me.0.given + 1) change q book-now zero-bit one-else private-below (same-table ∙ seated.placed.of_table) seated.placed.losses (seated.placed.one.0, b, speaks-now)
      (λ u ne. get_or-set_other p.me.0.places 0 u (Lies b) Vacant ne ∙ seated.vacant u)

-- all bits of the complement of 1 but the first one
pub kept-ones : (slots : ℕ) → slots ≤ 57 → (u : ℕ) → 0 < u → u < slots → bit_at (bit_not w64 1) u ≡ 1
kept-ones slots few u pos near = cleared-else 0 u (omega arith) (omega arith) (λ e. omega arith)

-- what the step that gives the book back tells, of the values themselves
pub given-back : {V C : Type 0} (content : V → C) (slots : ℕ) (m q : Token V C) (copy book : V) (list hands : HandsView V) → copy ≡ book → list ≡ hands → (mask : ℕ) → booked (put_back content copy list.pairs) slots mask m.me q.me → booked (put_back content book hands.pairs) slots mask m.me q.me
given-back {V} {C} content slots m q copy book list hands e f mask b = subst (λ (x : V × HandsView V). booked (put_back content x.0 x.1.pairs) slots mask m.me q.me) (λ k. (e k, f k)) b

-- it is one change of counted contents: p before the call, m before the step, q after it
pub changed-now : {V R C : Type 0} (p m q : Token V C) (new : ℕ → Option C) (slots mask : ℕ) → booked new slots mask m.me q.me → m.me.0.counts ≡ p.me.0.counts → m.me.0.change ≡ p.me.0.change → Changed (at R p) (at R q) slots new
changed-now p m q new slots mask b counts change = record {
  contents = b.1;
  turns_is = b.4;
  before = λ t c e. b.5 t c (ap (λ l. slice_index_or l t None) counts ∙ e);
  after = ap (λ y. y.0.change.1) b.2;
  later = let a = ap (λ (y : Sits _ _). y.0.change.0) b.2 in let o = ap (λ (y : ℕ × List _). y.0) change in let h = b.3 in omega arith;
}
