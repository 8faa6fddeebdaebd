-- Asking for a set of turns keeps the rule.
use Rattle.std.proofs.Common.{◌≡◌, ℕ, zero, suc, ◌<◌, ◌≤◌, ◌⊎◌, inl, inr, List, [], ◌∷◌, length, get_or, set, Bool, true, false, cond, ◌&&◌, max, refl, sym, ap, ap₂, ◌∙◌, subst, arith, suc-ne-zero, length-set, get_or-set_same}
use Rattle.std.specs.Prelude.{Option, Some, None, slice_get, ◌==◌, bit_or}
use Rattle.std.proofs.lemmas.Nat.Bits.{bit_at_or, bit_at-lt}
use Rattle.std.proofs.lemmas.Option.{none-some}
use mathlib.Core.Option.{some, some-injective}
use mathlib.Core.Logic.{dite}
use native.Mathlib.Decide.{dec_lt}
use lib.ListN.{get_elem?}
use Rattle.std.specs.Int.{bit_at}
use Rattle.atomic_table.specs.Table.{State, keeps, Allows}
use Rattle.atomic_table.proofs.Lists.{set_here}
use Rattle.turn_steps.specs.declared.view.View.{View}
use Rattle.turn_steps.specs.declared.view.Place.TheVariants.{Vacant, Lies}
use Rattle.turn_steps.specs.Tied.{Tied, TurnOk, InPlace, Lying, counted, place}
use Rattle.turn_steps.specs.Steps.{Sits, Told, asked, asked_view, lies}
use Rattle.turn_steps.proofs.Rows.{by_bool, two, row-here, row-past}
use Rattle.turn_steps.proofs.Moved.{there, Same, Mine, Owns, no-change, moved}

abbrev pub won : ℕ → ℕ → Bool
won a b = (a == 1) && (b == 0)

pub won-true : (a b : ℕ) → a < 2 → b < 2 → won a b ≡ true → (a ≡ 1) × (b ≡ 0)
won-true a b ha hb = two a (λ x. won x b ≡ true → (x ≡ 1) × (b ≡ 0)) ha (λ _ e. absurd (cc)) (λ _. two b (λ y. won 1 y ≡ true → (◌≡◌ {A = ℕ} 1 1) × (y ≡ 0)) hb (λ _ e. (refl, refl)) (λ _ e. absurd (cc)))

pub won-false : (a b : ℕ) → a < 2 → b < 2 → won a b ≡ false → max b a ≡ b
won-false a b ha hb = two a (λ x. won x b ≡ false → max b x ≡ b) ha (λ _ e. omega arith) (λ _. two b (λ y. won 1 y ≡ false → max y 1 ≡ y) hb (λ _ e. absurd (cc)) (λ _ e. refl))

module _ {V C : Type 0} (content : V → C) (holds : List C → List C → Type 0) (caller_count : ℕ) where
  -- what the rule tells a seat
  pub tells : (s : State (Option V) (View C)) (r : Tied content holds caller_count s) (id slots : ℕ) (v : View C) → length s.homes ≡ slots → get_elem? s.views id ≡ some v → Told holds slots v
  tells s r id slots v wide at = let h = r.each_view id v at in record {
    contents = r.contents;
    notes = r.notes;
    tied = r.tied;
    turns_is = r.turns ∙ wide;
    own = λ t c e. (h.held t c e).1;
    spoken = λ i k c e. let g = h.spoken i k c e in (r.callers ∙ sym g.0, g.3);
  }

  module _ (s : State (Option V) (View C)) (r : Tied content holds caller_count s) (id : ℕ) (v : View C) (set' slots k0 : ℕ) (c0 : C) (wide : length s.homes ≡ slots) (at : get_elem? s.views id ≡ some v) (one : v.speaks ≡ (k0, c0) ∷ []) (free : (t : ℕ) → bit_at set' t ≡ 1 → counted v t ≡ None) where
    word : ℕ
    word = get_or s.words 7 0

    abbrev got : ℕ → Bool
    got t = won (bit_at set' t) (bit_at (get_or s.words 7 0) t)

    abbrev w : View C
    w = asked_view slots set' (get_or s.words 7 0) r.contents v

    abbrev owner' : ℕ → ℕ
    owner' t = cond (got t) (suc k0) (r.owner t)

    spoken : (v.caller_count ≡ caller_count) × (k0 < caller_count) × (r.seat_of k0 ≡ id) × (slice_get r.notes k0 ≡ Some c0)
    spoken = (r.each_view id v at).spoken 0 k0 c0 (ap (λ (l : List (ℕ × C)). get_elem? l 0) one)

    count-at : (t : ℕ) → t < slots → counted w t ≡ cond (got t) (slice_get r.contents t) (counted v t)
    count-at t h = row-here slots (λ u. cond (got u) (slice_get r.contents u) (counted v u)) None t h

    place-at : (t : ℕ) → t < slots → place w t ≡ cond (got t) (lies (slice_get r.contents t)) (place v t)
    place-at t h = row-here slots (λ u. cond (got u) (lies (slice_get r.contents u)) (place v u)) Vacant t h

    free-turn : (t : ℕ) → t < length s.homes → bit_at (get_or s.words 7 0) t ≡ 0 → (o : ℕ) → r.owner t ≡ o → TurnOk content caller_count r.owner r.seat_of r.contents r.notes s t o → (o ≡ 0) × ((c : C) × (slice_get r.contents t ≡ Some c) × Lying content s.homes t c)
    free-turn t h z zero e k = (refl, k.1)
    free-turn t h z (suc o) e k = absurd (let a : bit_at (get_or s.words 7 0) t ≡ 1 = k.0 in omega arith)

    new-bit : (t : ℕ) → bit_at (bit_or (get_or s.words 7 0) set') t ≡ max (bit_at (get_or s.words 7 0) t) (bit_at set' t)
    new-bit t = bit_at_or (get_or s.words 7 0) set' t

    abbrev SameAt : ℕ → Type 0
    SameAt = Same content holds caller_count s r id v w (bit_or (get_or s.words 7 0) set') (set s.words 7 (bit_or (get_or s.words 7 0) set')) s.homes r.contents r.notes owner'

    abbrev MineAt : ℕ → Type 0
    MineAt = Mine content holds caller_count s r id v w (bit_or (get_or s.words 7 0) set') (set s.words 7 (bit_or (get_or s.words 7 0) set')) s.homes r.contents r.notes owner'

    stays : (t : ℕ) → t < slots → got t ≡ false → SameAt t
    stays t h e = record {
      bit = new-bit t ∙ won-false (bit_at set' t) (bit_at (get_or s.words 7 0) t) (bit_at-lt set' t) (bit_at-lt (get_or s.words 7 0) t) e;
      owned = ap (λ (b : Bool). cond b (suc k0) (r.owner t)) e;
      home = refl;
      content_is = refl;
      count = count-at t h ∙ ap (λ (b : Bool). cond b (slice_get r.contents t) (counted v t)) e;
      put = place-at t h ∙ ap (λ (b : Bool). cond b (lies (slice_get r.contents t)) (place v t)) e;
    }

    gains : (t : ℕ) → t < length s.homes → got t ≡ true → MineAt t
    gains t near e =
        let h : t < slots = omega arith in
        let bits = won-true (bit_at set' t) (bit_at (get_or s.words 7 0) t) (bit_at-lt set' t) (bit_at-lt (get_or s.words 7 0) t) e in
        let f = free-turn t near bits.1 (r.owner t) refl (r.each_turn t near) in
        let c : C = f.1.0 in
        let is : counted w t ≡ Some c = count-at t h ∙ ap (λ (b : Bool). cond b (slice_get r.contents t) (counted v t)) e ∙ f.1.1 in
        let put : place w t ≡ Lies c = place-at t h ∙ ap (λ (b : Bool). cond b (lies (slice_get r.contents t)) (place v t)) e ∙ ap lies f.1.1 in
        let own : owner' t ≡ suc k0 = ap (λ (b : Bool). cond b (suc k0) (r.owner t)) e in
        let set-bit : bit_at (bit_or (get_or s.words 7 0) set') t ≡ 1 = new-bit t ∙ ap₂ max bits.1 bits.0 in
        record {
          ours = λ k g. absurd (suc-ne-zero k (sym g ∙ f.0));
          owns = subst (λ (o : ℕ). Owns content holds caller_count s r id v w (bit_or (get_or s.words 7 0) set') (set s.words 7 (bit_or (get_or s.words 7 0) set')) s.homes r.contents r.notes owner' t o) (sym own) (set-bit, spoken.1, spoken.2, (c, is));
          held = λ d g. (f.1.1 ∙ sym is ∙ g, subst (InPlace content s.homes t) (sym put) f.1.2, (k0, own, spoken.2));
        }

    each : (t : ℕ) → t < length s.homes → SameAt t ⊎ MineAt t
    each t near = by_bool (got t) (λ _. SameAt t ⊎ MineAt t) (λ e. inr (gains t near e)) (λ e. inl (stays t (let h : t < slots = omega arith in h) e))

    within : (t : ℕ) (c : C) → counted w t ≡ Some c → t < length s.homes
    within t c e = dite (dec_lt t slots) (λ h. (let g : t < length s.homes = omega arith in g))
        (λ h. absurd (none-some c (sym (row-past 0 slots (λ u. cond (got u) (slice_get r.contents u) (counted v u)) None t (let g : slots ≤ t = omega arith in g)) ∙ e)))

    spoken_notes : (i k : ℕ) (c : C) → get_elem? v.speaks i ≡ some (k, c) → (v.caller_count ≡ caller_count) × (k < caller_count) × (r.seat_of k ≡ id) × (slice_get r.notes k ≡ Some c)
    spoken_notes = (r.each_view id v at).spoken

    pub asked-tied : Tied content holds caller_count record { words = set s.words 7 (bit_or (get_or s.words 7 0) set'); homes = s.homes; views = set s.views id w }
    asked-tied = moved content holds caller_count s r id v w (bit_or (get_or s.words 7 0) set') (set s.words 7 (bit_or (get_or s.words 7 0) set')) s.homes r.contents r.notes owner' at refl (get_or-set_same s.words 7 (bit_or (get_or s.words 7 0) set') 0 (let h : length s.words ≡ 15 = r.words in omega arith)) (length-set s.words 7 (bit_or (get_or s.words 7 0) set') ∙ r.words) each within spoken_notes (λ k ne. refl) r.now (no-change r.now r.contents v w r.opened (r.changes id v at) refl refl) r.turns r.callers r.tied

    -- a board of one caller has no other seat that could hold a turn
    alone : v.caller_count ≡ 1 → (t : ℕ) → t < length s.homes → bit_at (get_or s.words 7 0) t ≡ 1 → (o : ℕ) → TurnOk content caller_count r.owner r.seat_of r.contents r.notes s t o → (c : C) × (counted v t ≡ Some c)
    alone sole t h bit zero k = absurd (let a : bit_at (get_or s.words 7 0) t ≡ 0 = k.0 in omega arith)
    alone sole t h bit (suc o) k =
        let caller_count-is : v.caller_count ≡ caller_count = spoken.0 in let mine : k0 < caller_count = spoken.1 in let its : o < caller_count = k.1 in let same : o ≡ k0 = omega arith in
        let sits : get_elem? s.views id ≡ some k.2.0 = ap (get_elem? s.views) (sym (ap r.seat_of same ∙ spoken.2)) ∙ k.2.2 in
        (k.2.1, ap (λ (x : View C). counted x t) (some-injective v k.2.0 (sym at ∙ sits)) ∙ k.2.3)

  pub asks : (slots id : ℕ) (me : Sits V C) (set' k0 : ℕ) (c0 : C) → me.0.speaks ≡ (k0, c0) ∷ [] → ((t : ℕ) → bit_at set' t ≡ 1 → counted me.0 t ≡ None)
      → Allows (Tied content holds caller_count) slots id me 7 (λ n. bit_or n set') (asked holds slots set' me)
  asks slots id me set' k0 c0 one free s r wide at small =
      let v : View C = me.0 in
      let w : View C = asked_view slots set' (get_or s.words 7 0) r.contents v in
      let tied = asked-tied s r id v set' slots k0 c0 wide at one free in (
        w,
        keeps,
        tt,
        tied,
        (
          r.contents,
          r.turns ∙ wide,
          refl,
          tells record { words = set s.words 7 (bit_or (get_or s.words 7 0) set'); homes = s.homes; views = set s.views id w } tied id slots w wide (set_here s.views id w (there s.views id v at)),
          λ sole _ t h bit. let near : t < length s.homes = omega arith in alone s r id v set' slots k0 c0 wide at one free sole t near bit (r.owner t) (r.each_turn t near),
        ),
      )
