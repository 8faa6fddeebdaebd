-- Taking the slot of a held turn, and laying it back, keep the rule.
use Rattle.std.proofs.Common.{◌≡◌, ◌≢◌, ℕ, zero, suc, ◌<◌, ◌⊎◌, inl, inr, List, [], ◌∷◌, length, get_or, set, refl, sym, ap, ap₂, ◌∙◌, subst, arith, length-set, get_or-set_same, get_or-set_other}
use Rattle.std.specs.Prelude.{Option, Some, None}
use mathlib.Core.Option.{some, none, some-injective}
use mathlib.Core.Option as maybe
use mathlib.Core.Logic.{dite}
use native.Mathlib.Decide.{ℕ_discrete}
use lib.ListN.{get_elem?}
use Rattle.std.specs.Int.{bit_at}
use Rattle.atomic_table.specs.Table.{State, takes, gives, rest, Allows}
use Rattle.atomic_table.proofs.Lists.{set_here, set_else}
use Rattle.turn_steps.specs.declared.view.View.{View}
use Rattle.turn_steps.specs.declared.view.Place.{Place}
use Rattle.turn_steps.specs.declared.view.Place.TheVariants.{Vacant, Away, Lies}
use Rattle.turn_steps.specs.Tied.{Tied, TurnOk, InPlace, counted, place}
use Rattle.turn_steps.specs.Steps.{Sits, put_place, lies_as, reached, laid, laid_view}
use Rattle.turn_steps.proofs.Rows.{set-set}
use Rattle.turn_steps.proofs.Moved.{Same, Mine, Owns, no-change, moved}

module _ {V C : Type 0} (content : V → C) (holds : List C → List C → Type 0) (caller_count : ℕ) where
  module _ (s : State (Option V) (View C)) (r : Tied content holds caller_count s) (id : ℕ) (v : View C) (t : ℕ) (h : maybe.Option (Option V)) (p : Place C) (c : C)
      (at : get_elem? s.views id ≡ some v) (is : counted v t ≡ Some c) (room : t < length v.places) (lying : InPlace content (set s.homes t h) t p) where
    abbrev w : View C
    w = put_place t p v

    abbrev SameAt : ℕ → Type 0
    SameAt = Same content holds caller_count s r id v w (get_or s.words 7 0) (set s.words 14 (get_or s.words 14 0)) (set s.homes t h) r.contents r.notes r.owner

    abbrev MineAt : ℕ → Type 0
    MineAt = Mine content holds caller_count s r id v w (get_or s.words 7 0) (set s.words 14 (get_or s.words 14 0)) (set s.homes t h) r.contents r.notes r.owner

    bit-one : (k : ℕ) (o : ℕ) → o ≡ suc k → TurnOk content caller_count r.owner r.seat_of r.contents r.notes s t o → (bit_at (get_or s.words 7 0) t ≡ 1) × (k < caller_count)
    bit-one k zero e q = absurd (omega arith)
    bit-one k (suc o) e q = (q.0, (let g : o < caller_count = q.1 in omega arith))

    own : MineAt t
    own = let x = (r.each_view id v at).held t c is in let k : ℕ = x.3.0 in let b = bit-one k (r.owner t) x.3.1 (r.each_turn t x.0) in record {
      ours = λ j e. ap r.seat_of (let g : suc j ≡ suc k = sym e ∙ x.3.1 in let q : j ≡ k = omega arith in q) ∙ x.3.2;
      owns = subst (λ (o : ℕ). Owns content holds caller_count s r id v w (get_or s.words 7 0) (set s.words 14 (get_or s.words 14 0)) (set s.homes t h) r.contents r.notes r.owner t o) (sym x.3.1) (b.0, b.1, x.3.2, (c, is));
      held = λ d e. (x.1 ∙ sym is ∙ e, subst (InPlace content (set s.homes t h) t) (sym (get_or-set_same v.places t p Vacant room)) lying, x.3);
    }

    else : (u : ℕ) → u ≢ t → SameAt u
    else u ne = record { bit = refl; owned = refl; home = set_else s.homes t u h ne; content_is = refl; count = refl; put = get_or-set_other v.places t u p Vacant ne }

    each : (u : ℕ) → u < length s.homes → SameAt u ⊎ MineAt u
    each u near = dite (ℕ_discrete u t) (λ e. inr (subst MineAt (sym e) own)) (λ ne. inl (else u ne))

    pub slot-tied : Tied content holds caller_count record { words = set s.words 14 (get_or s.words 14 0); homes = set s.homes t h; views = set s.views id w }
    slot-tied = moved content holds caller_count s r id v w (get_or s.words 7 0) (set s.words 14 (get_or s.words 14 0)) (set s.homes t h) r.contents r.notes r.owner at (length-set s.homes t h) (get_or-set_other s.words 14 7 (get_or s.words 14 0) 0 (λ e. absurd (omega arith))) (length-set s.words 14 (get_or s.words 14 0) ∙ r.words) each
        (λ u d e. ((r.each_view id v at).held u d e).0) ((r.each_view id v at).spoken) (λ k ne. refl) r.now (no-change r.now r.contents v w r.opened (r.changes id v at) refl refl) r.turns r.callers r.tied

  found : (homes : List (maybe.Option (Option V))) (t : ℕ) (p : Place C) → p ≢ Away → InPlace content homes t p → (y : Option V) × (get_elem? homes t ≡ some (some y)) × (lies_as content y ≡ p)
  found homes t Vacant ne h = (None, h, refl)
  found homes t Away ne h = absurd (ne refl)
  found homes t (Lies c) ne h = (Some h.0, h.1, ap Lies h.2)

  pub reaches : (slots id : ℕ) (me : Sits V C) (t : ℕ) (c : C) → counted me.0 t ≡ Some c → place me.0 t ≢ Away → length me.0.places ≡ slots → t < slots
      → Allows (Tied content holds caller_count) slots id me 14 (λ n. n) (λ _ m. reached content t me m)
  reaches slots id me t c is there' long near s r wide at small =
      let x = (r.each_view id me.0 at).held t c is in
      let f = found s.homes t (place me.0 t) there' x.2 in
      (put_place t Away me.0, takes t f.0, f.1, slot-tied s r id me.0 t none Away c at is (let g : t < length me.0.places = omega arith in g) tt, (f.0, refl, f.2))

  laying : (homes : List (maybe.Option (Option V))) (t : ℕ) (y : Option V) → t < length homes → InPlace content (set homes t (some y)) t (lies_as content y)
  laying homes t None near = set_here homes t (some None) near
  laying homes t (Some x) near = (x, set_here homes t (some (Some x)) near, refl)

  pub lays-at : (slots id : ℕ) (v : View C) (t : ℕ) (y : Option V) (more : List (ℕ × Option V)) (c : C) → counted v t ≡ Some c → length v.places ≡ slots → t < slots
      → Allows (Tied content holds caller_count) slots id (v, (t, y) ∷ more) 14 (λ n. n) (λ _ m. laid content (v, (t, y) ∷ more) m)
  lays-at slots id v t y more c is long near s r wide at small =
      (put_place t (lies_as content y) v, gives, tt, slot-tied s r id v t (some y) (lies_as content y) c at is (let g : t < length v.places = omega arith in g) (laying s.homes t y (let g : t < length s.homes = omega arith in g)), refl)

  pub lays : (slots id : ℕ) (me : Sits V C) (t : ℕ) (y : Option V) (more : List (ℕ × Option V)) (c : C) → me ≡ (me.0, (t, y) ∷ more) → counted me.0 t ≡ Some c → length me.0.places ≡ slots → t < slots
      → Allows (Tied content holds caller_count) slots id me 14 (λ n. n) (λ _ m. laid content me m)
  lays slots id me t y more c e is long near = subst (λ (m : Sits V C). Allows (Tied content holds caller_count) slots id m 14 (λ n. n) (λ _ m'. laid content m m')) (sym e) (lays-at slots id me.0 t y more c is long near)

pub step_one : (V C : Type 0) (v : View C) (t : ℕ) (y : Option V) (aim : ℕ) (m : Sits V C) {l : List (ℕ × Option V)} → aim ≡ t → l ≡ [] → m ≡ (put_place aim Away v, (aim, y) ∷ l) → m ≡ (put_place t Away v, (t, y) ∷ [])
step_one V C v t y aim m e f g = g ∙ ap₂ {A = ℕ} {B = List (ℕ × Option V)} {C = Sits V C} (λ u k. (put_place u Away v, (u, y) ∷ k)) e f

-- the way of one value: its slot is taken, read and written, and laid back
module _ {V C : Type 0} (content : V → C) (v : View C) (t : ℕ) (y new : Option V) (m1 m2 : Sits V C) (first : m1 ≡ (put_place t Away v, (t, y) ∷ [])) where
  pub between : m2 ≡ (m1.0, (t, new) ∷ rest m1.1) → m2 ≡ (put_place t Away v, (t, new) ∷ [])
  between e = e ∙ ap (λ (m : Sits V C). (m.0, (t, new) ∷ rest m.1)) first

  pub finally : (m3 : Sits V C) → m2 ≡ (m1.0, (t, new) ∷ rest m1.1) → laid content m2 m3 → m3 ≡ (put_place t (lies_as content new) v, [])
  finally m3 e l = l ∙ ap (λ (m : Sits V C). (laid_view content m.1 m.0, rest m.1)) (between e)
      ∙ (λ i. (record { speaks = v.speaks; counts = v.counts; places = set-set v.places t Away (lies_as content new) i; lost = v.lost; given = v.given; caller_count = v.caller_count; asks = v.asks; givings = v.givings; change = v.change }, []))
