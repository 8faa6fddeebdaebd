-- Walking the turns of a set, from the least on.
use Rattle.std.proofs.Common.{◌≡◌, ◌≢◌, ℕ, zero, suc, ◌+◌, ◌^◌, ◌<◌, ◌≤◌, ◌-◌, List, [], ◌∷◌, ◌++◌, length, Bool, true, false, cond, min, refl, sym, ap, ◌∙◌, arith, eq-eqb, ne_eqb, append_assoc, append-nil, length-append, length-set, get_or-set_same, get_or-set_other}
use Rattle.std.specs.Prelude.{Option, Some, None, ◌==◌, bit_and}
use Rattle.std.proofs.lemmas.List.{map-append}
use Rattle.std.proofs.lemmas.Nat.{and_le_l}
use Rattle.std.proofs.lemmas.Nat.Bits.{bit_at-lt, bit_at_and, bit_at-zero, bit_at-trailing_zeros}
use Rattle.std.proofs.lemmas.Option.{none-some}
use mathlib.Core.Logic.{dite}
use native.Mathlib.Decide.{ℕ_discrete, dec_lt}
use Rattle.std.specs.Int.{bit_at, bit_not, trailing_zeros, w64}
use Rattle.turn_steps.specs.declared.view.Place.TheVariants.{Vacant}
use Rattle.turn_steps.specs.Maps.{bits_of}
use Rattle.turn_steps.specs.Tied.{place}
use Rattle.turn_steps.specs.Steps.{put_place}
use Rattle.turn_steps.specs.Passes.{Token}
use Rattle.turn_steps.proofs.Gives.{cases}
use Rattle.turn_board.specs.Hands.{in_hands, Once}
use Rattle.turn_board.specs.Moving.{Emptied, TakenOut}
use Rattle.turn_board.proofs.Returns.{cleared-here, cleared-else}

pub with-bit : (set t : ℕ) → bit_at set t ≡ 1 → bits_of set (t + 1) ≡ bits_of set t ++ t ∷ []
with-bit set t e = ap (bits_of set) (let g : t + 1 ≡ suc t = omega arith in g) ∙ ap (λ (b : Bool). cond b (bits_of set t ++ t ∷ []) (bits_of set t)) (eq-eqb (bit_at set t) 1 e)

pub without-bit : (set t : ℕ) → bit_at set t ≡ 0 → bits_of set (t + 1) ≡ bits_of set t
without-bit set t e = ap (bits_of set) (let g : t + 1 ≡ suc t = omega arith in g) ∙ ap (λ (b : Bool). cond b (bits_of set t ++ t ∷ []) (bits_of set t)) (ne_eqb (bit_at set t) 1 (λ o. omega arith))

-- more turns have no fewer bits
more-one : (set n : ℕ) → length (bits_of set n) ≤ length (bits_of set (suc n))
more-one set n = grows (bit_at set n == 1) (bits_of set n) n
  where
    grows : (b : Bool) (l : List ℕ) (a : ℕ) → length l ≤ length (cond b (l ++ a ∷ []) l)
    grows true l a = let h = length-append l (a ∷ []) in omega arith
    grows false l a = omega arith

pub more-bits : (set n m : ℕ) → length (bits_of set n) ≤ length (bits_of set (m + n))
more-bits set n zero = let g : 0 + n ≡ n = omega arith in let q = ap (λ (i : ℕ). length (bits_of set i)) g in omega arith
more-bits set n (suc m) = let h = more-bits set n m in let k = more-one set (m + n) in let g : suc m + n ≡ suc (m + n) = omega arith in let q = ap (λ (i : ℕ). length (bits_of set i)) g in omega arith

-- no turn of the set stands between
pub bits-gap : (set t k : ℕ) → ((u : ℕ) → t ≤ u → u < k + t → bit_at set u ≡ 0) → bits_of set (k + t) ≡ bits_of set t
bits-gap set t zero gap = ap (bits_of set) (omega arith)
bits-gap set t (suc k) gap = ap (bits_of set) (let g : suc k + t ≡ k + t + 1 = omega arith in g)
    ∙ without-bit set (k + t) (gap (k + t) (omega arith) (omega arith))
    ∙ bits-gap set t k (λ u h b. gap u h (omega arith))

-- the turns of a set below t were passed, and the others are left
pub record Walk (set left n t : ℕ) : Type 0 where
  pub within : t ≤ n
  pub passed : (u : ℕ) → u < t → bit_at left u ≡ 0
  pub still : (u : ℕ) → t ≤ u → u < 64 → bit_at left u ≡ bit_at set u

pub walk-start : (set n : ℕ) → Walk set set n 0
walk-start set n = record { within = omega arith; passed = λ u h. absurd (omega arith); still = λ u h k. refl }

-- no turn is left
pub walk-end : (set left n t : ℕ) → n ≤ 57 → Walk set left n t → left ≡ 0 → (u : ℕ) → t ≤ u → u < n → bit_at set u ≡ 0
walk-end set left n t few w e u h near = sym (w.still u h (omega arith)) ∙ ap (λ (l : ℕ). bit_at l u) e ∙ bit_at-zero u

module _ (set left n t : ℕ) (w : Walk set left n t) (some' : left ≢ 0) (fits : left < 2 ^ 64) where
  positive : (l : ℕ) → l ≢ 0 → 0 < l
  positive l ne = omega arith

  lowest : (trailing_zeros w64 left < 64) × (bit_at left (trailing_zeros w64 left) ≡ 1) × ((i : ℕ) → i < trailing_zeros w64 left → bit_at left i ≡ 0)
  lowest = bit_at-trailing_zeros w64 left (positive left some') fits

  pub low-near : trailing_zeros w64 left < 64
  low-near = lowest.0

  pub low-from : t ≤ trailing_zeros w64 left
  low-from = dite (dec_lt (trailing_zeros w64 left) t) (λ h. absurd (let z = w.passed (trailing_zeros w64 left) h in let o = lowest.1 in omega arith)) (λ h. (let g : t ≤ trailing_zeros w64 left = omega arith in g))

  pub low-set : bit_at set (trailing_zeros w64 left) ≡ 1
  low-set = sym (w.still (trailing_zeros w64 left) low-from lowest.0) ∙ lowest.1

  pub low-gap : (u : ℕ) → t ≤ u → u < trailing_zeros w64 left → bit_at set u ≡ 0
  low-gap u h b = let l = lowest.0 in sym (w.still u h (omega arith)) ∙ lowest.2 u b

  cleared-bit : (u : ℕ) → bit_at (bit_and left (bit_not w64 (2 ^ trailing_zeros w64 left))) u ≡ min (bit_at left u) (bit_at (bit_not w64 (2 ^ trailing_zeros w64 left)) u)
  cleared-bit u = bit_at_and left (bit_not w64 (2 ^ trailing_zeros w64 left)) u

  here-zero : bit_at (bit_and left (bit_not w64 (2 ^ trailing_zeros w64 left))) (trailing_zeros w64 left) ≡ 0
  here-zero = let z = cleared-here (trailing_zeros w64 left) lowest.0 in let b = cleared-bit (trailing_zeros w64 left) in omega arith

  pub walk-next : trailing_zeros w64 left < n → Walk set (bit_and left (bit_not w64 (2 ^ trailing_zeros w64 left))) n (trailing_zeros w64 left + 1)
  walk-next near = record {
    within = omega arith;
    passed = λ u h. dite (ℕ_discrete u (trailing_zeros w64 left))
        (λ e. ap (bit_at (bit_and left (bit_not w64 (2 ^ trailing_zeros w64 left)))) e ∙ here-zero)
        (λ ne. let z = lowest.2 u (omega arith) in let b = cleared-bit u in omega arith);
    still = λ u h k. let f = low-from in let o = cleared-else (trailing_zeros w64 left) u lowest.0 k (λ e. omega arith) in let b = cleared-bit u in let l = bit_at-lt left u in
        (let g : bit_at (bit_and left (bit_not w64 (2 ^ trailing_zeros w64 left))) u ≡ bit_at left u = omega arith in g) ∙ w.still u (omega arith) k;
  }

  pub less-left : bit_and left (bit_not w64 (2 ^ trailing_zeros w64 left)) < left
  less-left = less (bit_and left (bit_not w64 (2 ^ trailing_zeros w64 left))) (and_le_l left (bit_not w64 (2 ^ trailing_zeros w64 left)))
      (λ e. let z = here-zero in let o = lowest.1 in let q = ap (λ (l : ℕ). bit_at l (trailing_zeros w64 left)) e in omega arith)
    where
      less : (m : ℕ) → m ≤ left → (m ≡ left → ⊥) → m < left
      less m h ne = omega arith

module _ {V C : Type 0} (set t : ℕ) (p q : Token V C) (e : Emptied set t p q) where
  -- on to the next turn of the set
  pub emptied-to : (n : ℕ) → t ≤ n → ((u : ℕ) → t ≤ u → u < n → bit_at set u ≡ 0) → Emptied set n p q
  emptied-to n h gap = record {
    table = e.table;
    id = e.id;
    none = e.none;
    speaks = e.speaks;
    counts = e.counts;
    lost = e.lost;
    given = e.given;
    caller_count = e.caller_count;
    asks = e.asks;
    givings = e.givings;
    change = e.change;
    long = e.long;
    out = λ u near o. dite (dec_lt u t) (λ b. e.out u b o) (λ b. absurd (let z = gap u (omega arith) near in omega arith));
    later = λ u k. e.later u (omega arith);
    others = e.others;
  }

  pub emptied-one : (r : Token V C) → bit_at set t ≡ 1 → t < length p.me.0.places → p.me.1 ≡ [] → r.table_id ≡ q.table_id → r.id ≡ q.id → r.me ≡ (put_place t Vacant q.me.0, []) → Emptied set (t + 1) p r
  emptied-one r o near nothing table id is = record {
    table = table ∙ e.table;
    id = id ∙ e.id;
    none = ap (λ m. m.1) is ∙ sym nothing;
    speaks = ap (λ m. m.0.speaks) is ∙ e.speaks;
    counts = ap (λ m. m.0.counts) is ∙ e.counts;
    lost = ap (λ m. m.0.lost) is ∙ e.lost;
    given = ap (λ m. m.0.given) is ∙ e.given;
    caller_count = ap (λ m. m.0.caller_count) is ∙ e.caller_count;
    asks = ap (λ m. m.0.asks) is ∙ e.asks;
    givings = ap (λ m. m.0.givings) is ∙ e.givings;
    change = ap (λ m. m.0.change) is ∙ e.change;
    long = ap (λ m. length m.0.places) is ∙ length-set q.me.0.places t Vacant ∙ e.long;
    out = λ u h b. ap (λ m. place m.0 u) is ∙ dite (ℕ_discrete u t)
        (λ s. ap (place (put_place t Vacant q.me.0)) s ∙ get_or-set_same q.me.0.places t Vacant Vacant (let l = e.long in omega arith))
        (λ ne. get_or-set_other q.me.0.places t u Vacant Vacant ne ∙ e.out u (omega arith) b);
    later = λ u h. ap (λ m. place m.0 u) is ∙ get_or-set_other q.me.0.places t u Vacant Vacant (λ s. omega arith) ∙ e.later u (omega arith);
    others = λ u z. ap (λ m. place m.0 u) is ∙ get_or-set_other q.me.0.places t u Vacant Vacant (λ s. (let k = ap (bit_at set) s in omega arith)) ∙ e.others u z;
  }

-- pairs at the end of a list
module _ {V C : Type 0} (content : V → C) where
  pub in-longer : (xs ys : List (ℕ × V)) (u : ℕ) (c : C) → in_hands content xs u ≡ Some c → in_hands content (xs ++ ys) u ≡ Some c
  in-longer [] ys u c e = absurd (none-some c e)
  in-longer (x ∷ xs) ys u c e = go (x.0 == u) (in-longer xs ys u c) e
    where
      go : (b : Bool) → (in_hands content xs u ≡ Some c → in_hands content (xs ++ ys) u ≡ Some c) → cond b (Some (content x.1)) (in_hands content xs u) ≡ Some c → cond b (Some (content x.1)) (in_hands content (xs ++ ys) u) ≡ Some c
      go true rest h = h
      go false rest h = rest h

  pub in-end : (xs ys : List (ℕ × V)) (u : ℕ) → in_hands content xs u ≡ None → in_hands content (xs ++ ys) u ≡ in_hands content ys u
  in-end [] ys u e = refl
  in-end (x ∷ xs) ys u e = go (x.0 == u) (in-end xs ys u) e
    where
      go : (b : Bool) → (in_hands content xs u ≡ None → in_hands content (xs ++ ys) u ≡ in_hands content ys u) → cond b (Some (content x.1)) (in_hands content xs u) ≡ None → cond b (Some (content x.1)) (in_hands content (xs ++ ys) u) ≡ in_hands content ys u
      go true rest h = absurd (none-some (content x.1) (sym h))
      go false rest h = rest h

  pub here-in : (t : ℕ) (x : V) (l : List (ℕ × V)) → in_hands content ((t, x) ∷ l) t ≡ Some (content x)
  here-in t x l = ap (λ (b : Bool). cond b (Some (content x)) (in_hands content l t)) (eq-eqb t t refl)

  pub else-in : (t u : ℕ) (x : V) (l : List (ℕ × V)) → t ≢ u → in_hands content ((t, x) ∷ l) u ≡ in_hands content l u
  else-in t u x l ne = ap (λ (b : Bool). cond b (Some (content x)) (in_hands content l u)) (ne_eqb t u ne)

  pub once-end : (xs : List (ℕ × V)) (t : ℕ) (v : V) → Once content xs → 0 < t → in_hands content xs t ≡ None → Once content (xs ++ (t, v) ∷ [])
  once-end [] t v o h e = (h, refl, tt)
  once-end (x ∷ xs) t v o h e = dite (ℕ_discrete x.0 t)
      (λ s. absurd (none-some (content x.1) (sym e ∙ ap (in_hands content (x ∷ xs)) (sym s) ∙ here-in x.0 x.1 xs)))
      (λ ne. (o.0, in-end xs ((t, v) ∷ []) x.0 o.1 ∙ else-in t x.0 v [] (λ s. ne (sym s)), once-end xs t v o.2 h (sym (else-in x.0 t x.1 xs ne) ∙ e)))

  -- ---- the last pair of hands in which each turn stands once

  none-front : (xs ys : List (ℕ × V)) (u : ℕ) → in_hands content (xs ++ ys) u ≡ None → in_hands content xs u ≡ None
  none-front xs ys u e = cases (in_hands content xs u) (in_hands content xs u ≡ None) (λ n. n) (λ c s. absurd (none-some c (sym e ∙ in-longer xs ys u c s)))

  pub last-in : (xs : List (ℕ × V)) (t : ℕ) (x : V) → in_hands content xs t ≡ None → in_hands content (xs ++ (t, x) ∷ []) t ≡ Some (content x)
  last-in xs t x e = in-end xs ((t, x) ∷ []) t e ∙ here-in t x []

  pub else-last : (xs : List (ℕ × V)) (t u : ℕ) (x : V) → t ≢ u → in_hands content (xs ++ (t, x) ∷ []) u ≡ in_hands content xs u
  else-last xs t u x ne = cases (in_hands content xs u) (in_hands content (xs ++ (t, x) ∷ []) u ≡ in_hands content xs u)
      (λ n. in-end xs ((t, x) ∷ []) u n ∙ else-in t u x [] ne ∙ sym n) (λ c s. in-longer xs ((t, x) ∷ []) u c s ∙ sym s)

  pub once-last : (xs : List (ℕ × V)) (t : ℕ) (x : V) → Once content (xs ++ (t, x) ∷ []) → (0 < t) × (in_hands content xs t ≡ None) × Once content xs
  once-last [] t x o = (o.0, refl, tt)
  once-last (y ∷ ys) t x o =
      let r = once-last ys t x o.2 in
      let ne : y.0 ≢ t = λ s. none-some (content x) (sym o.1 ∙ ap (in_hands content (ys ++ (t, x) ∷ [])) s ∙ last-in ys t x r.1) in
      (r.0, else-in y.0 t y.1 ys ne ∙ r.1, (o.0, none-front ys ((t, x) ∷ []) y.0 o.1, r.2))

module _ {V C : Type 0} (content : V → C) (set : ℕ) (counts : ℕ → Option C) (before : List (ℕ × V)) where
  pub taken_out-start : TakenOut content set 0 counts before before
  taken_out-start = record { new = []; added = sym (append-nil before); rising = refl; once = tt; here = λ u h. absurd (omega arith); others = λ u z. refl; later = λ u h. refl }

  module _ (t : ℕ) (after : List (ℕ × V)) (l : TakenOut content set t counts before after) where
    pub taken_out-to : (n : ℕ) → t ≤ n → ((u : ℕ) → t ≤ u → u < n → bit_at set u ≡ 0) → TakenOut content set n counts before after
    taken_out-to n h gap = record {
      new = l.new;
      added = l.added;
      rising = l.rising ∙ sym (ap (bits_of set) (let g : n ≡ n - t + t = omega arith in g) ∙ bits-gap set t (n - t) (λ u a b. gap u a (omega arith)));
      once = l.once;
      here = λ u near o. dite (dec_lt u t) (λ b. l.here u b o) (λ b. absurd (let z = gap u (omega arith) near in omega arith));
      others = l.others;
      later = λ u k. l.later u (omega arith);
    }

    pub taken_out-one : (v : V) → bit_at set t ≡ 1 → 0 < t → counts t ≡ Some (content v) → TakenOut content set (t + 1) counts before (after ++ (t, v) ∷ [])
    taken_out-one v bit pos is = record {
      new = l.new ++ (t, v) ∷ [];
      added = ap (λ (y : List (ℕ × V)). y ++ (t, v) ∷ []) l.added ∙ append_assoc before l.new ((t, v) ∷ []);
      rising = map-append (λ (x : ℕ × V). x.0) l.new ((t, v) ∷ []) ∙ ap (λ (y : List ℕ). y ++ t ∷ []) l.rising ∙ sym (with-bit set t bit);
      once = once-end content l.new t v l.once pos (l.later t (omega arith));
      here = λ u near o. dite (ℕ_discrete u t)
          (λ e. (content v, ap counts e ∙ is, ap (in_hands content (l.new ++ (t, v) ∷ [])) e ∙ in-end content l.new ((t, v) ∷ []) t (l.later t (omega arith)) ∙ here-in content t v []))
          (λ ne. let x = l.here u (omega arith) o in (x.0, x.1, in-longer content l.new ((t, v) ∷ []) u x.0 x.2));
      others = λ u z. in-end content l.new ((t, v) ∷ []) u (l.others u z) ∙ else-in content t u v [] (λ e. (let q = ap (bit_at set) e in omega arith));
      later = λ u k. in-end content l.new ((t, v) ∷ []) u (l.later u (omega arith)) ∙ else-in content t u v [] (λ e. omega arith);
    }
