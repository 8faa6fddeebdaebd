-- Giving turns back keeps the rule, alone or with new contents and a new note.
use Rattle.std.proofs.Common.{◌≡◌, ◌≢◌, ℕ, zero, suc, ◌+◌, ◌<◌, ◌≤◌, ◌⊎◌, inl, inr, List, [], ◌∷◌, length, get_or, set, Bool, true, false, cond, min, refl, sym, ap, ap₂, ◌∙◌, subst, arith, length-set, get_or-set_same, eq-eqb, ne_eqb}
use Rattle.std.specs.Prelude.{Option, Some, None, slice_get, ◌==◌, bit_and}
use Rattle.std.proofs.lemmas.Nat.Bits.{bit_at_and, bit_at-lt}
use Rattle.std.proofs.lemmas.Option.{none-some}
use mathlib.Core.Option.{some, some-injective, some-ne-none}
use mathlib.Core.Logic.{dite}
use native.Mathlib.Decide.{dec_lt}
use lib.ListN.{get_elem?}
use Rattle.std.specs.Int.{bit_at}
use Rattle.atomic_table.specs.Table.{State, keeps, Allows}
use Rattle.turn_steps.specs.declared.view.View.{View}
use Rattle.turn_steps.specs.declared.view.Place.TheVariants.{Vacant, Lies}
use Rattle.turn_steps.specs.Maps.{overlay, FitsTurns, SameTurns}
use Rattle.turn_steps.specs.Tied.{Tied, TurnOk, InPlace, counted, place}
use Rattle.turn_steps.specs.Steps.{Sits, given_view, noted, returned, booked}
use Rattle.turn_steps.proofs.Rows.{two, row-here, row-past, get-set_same, get-set_other, overlay-length, overlay-some, overlay-none}
use Rattle.turn_steps.proofs.Moved.{Same, Mine, Owns, Follows, no-change, moved}

pub cases : {C : Type 0} (o : Option C) (P : Type 0) → (o ≡ None → P) → ((c : C) → o ≡ Some c → P) → P
cases None P p q = p refl
cases (Some c) P p q = q c refl

only : {C : Type 0} (k0 : ℕ) (b : C) (i k : ℕ) (c : C) → get_elem? {A = ℕ × C} ((k0, b) ∷ []) i ≡ some (k, c) → (k0 ≡ k) × (b ≡ c)
only {C} k0 b zero k c e = let g = some-injective {A = ℕ × C} (k0, b) (k, c) e in (ap (λ (x : ℕ × C). x.0) g, ap (λ (x : ℕ × C). x.1) g)
only {C} k0 b (suc i) k c e = absurd (some-ne-none {A = ℕ × C} (k, c) (sym e))

module _ {V C : Type 0} (content : V → C) (holds : List C → List C → Type 0) (caller_count : ℕ) where
  module _ (s : State (Option V) (View C)) (r : Tied content holds caller_count s) (id slots mask : ℕ) (v : View C) (new : ℕ → Option C) (speaks : List (ℕ × C)) (given : ℕ) (change : ℕ × List C) (contents notes : List C)
      (at : get_elem? s.views id ≡ some v) (wide : length s.homes ≡ slots)
      (changed : (t : ℕ) (d : C) → t < slots → new t ≡ Some d → slice_get contents t ≡ Some d)
      (unchanged : (t : ℕ) → new t ≡ None → slice_get contents t ≡ slice_get r.contents t)
      (same : SameTurns (counted v) new)
      (freed : (t : ℕ) → t < slots → bit_at mask t ≡ 0 → (d : C) × (new t ≡ Some d) × (place v t ≡ Lies d)) where
    abbrev w : View C
    w = given_view slots mask new speaks given change v

    abbrev word : ℕ
    word = bit_and (get_or s.words 7 0) mask

    abbrev owner' : ℕ → ℕ
    owner' t = cond (bit_at mask t == 0) 0 (r.owner t)

    abbrev SameAt : ℕ → Type 0
    SameAt = Same content holds caller_count s r id v w word (set s.words 7 word) s.homes contents notes owner'

    abbrev MineAt : ℕ → Type 0
    MineAt = Mine content holds caller_count s r id v w word (set s.words 7 word) s.homes contents notes owner'

    abbrev OwnsAt : ℕ → ℕ → Type 0
    OwnsAt = Owns content holds caller_count s r id v w word (set s.words 7 word) s.homes contents notes owner'

    count-at : (t : ℕ) → t < slots → counted w t ≡ cond (bit_at mask t == 0) None (new t)
    count-at t h = row-here slots (λ u. cond (bit_at mask u == 0) None (new u)) None t h

    place-at : (t : ℕ) → t < slots → place w t ≡ cond (bit_at mask t == 0) Vacant (place v t)
    place-at t h = row-here slots (λ u. cond (bit_at mask u == 0) Vacant (place v u)) Vacant t h

    word-at : (t : ℕ) → bit_at word t ≡ min (bit_at (get_or s.words 7 0) t) (bit_at mask t)
    word-at t = bit_at_and (get_or s.words 7 0) mask t

    is-zero : (t : ℕ) → bit_at mask t ≡ 0 → (bit_at mask t == 0) ≡ true
    is-zero t e = eq-eqb (bit_at mask t) 0 e

    is-one : (t : ℕ) → bit_at mask t ≡ 1 → (bit_at mask t == 0) ≡ false
    is-one t e = ne_eqb (bit_at mask t) 0 (λ g. omega arith)

    was : (t : ℕ) (d : C) → new t ≡ Some d → (c : C) × (counted v t ≡ Some c)
    was t d e = cases (counted v t) ((c : C) × (counted v t ≡ Some c)) (λ n. absurd (none-some d (sym (same.0 t n) ∙ e))) (λ c g. (c, g))

    held-bit : (t k : ℕ) (o : ℕ) → o ≡ suc k → TurnOk content caller_count r.owner r.seat_of r.contents r.notes s t o → (bit_at (get_or s.words 7 0) t ≡ 1) × (k < caller_count)
    held-bit t k zero e q = absurd (omega arith)
    held-bit t k (suc o) e q = (q.0, (let g : o < caller_count = q.1 in omega arith))

    ours : (t : ℕ) (c : C) → counted v t ≡ Some c → (k : ℕ) → r.owner t ≡ suc k → r.seat_of k ≡ id
    ours t c is j e = let x = (r.each_view id v at).held t c is in let k : ℕ = x.3.0 in
        ap r.seat_of (let g : suc j ≡ suc k = sym e ∙ x.3.1 in let q : j ≡ k = omega arith in q) ∙ x.3.2

    frees : (t : ℕ) → t < length s.homes → bit_at mask t ≡ 0 → MineAt t
    frees t near z =
        let h : t < slots = omega arith in
        let f = freed t h z in
        let c = was t f.0 f.1 in
        let x = (r.each_view id v at).held t c.0 c.1 in
        let zero-owner : owner' t ≡ 0 = ap (λ (b : Bool). cond b 0 (r.owner t)) (is-zero t z) in
        let low : bit_at word t ≡ 0 = word-at t ∙ ap (min (bit_at (get_or s.words 7 0) t)) z ∙ (let m : min (bit_at (get_or s.words 7 0) t) 0 ≡ 0 = omega arith in m) in
        let gone : counted w t ≡ None = count-at t h ∙ ap (λ (b : Bool). cond b None (new t)) (is-zero t z) in
        record {
          ours = ours t c.0 c.1;
          owns = subst (OwnsAt t) (sym zero-owner) (low, (f.0, changed t f.0 h f.1, subst (InPlace content s.homes t) f.2 x.2));
          held = λ d e. absurd (none-some d (sym gone ∙ e));
        }

    keeps-own : (t : ℕ) (d : C) → t < length s.homes → bit_at mask t ≡ 1 → new t ≡ Some d → MineAt t
    keeps-own t d near o e =
        let h : t < slots = omega arith in
        let c = was t d e in
        let x = (r.each_view id v at).held t c.0 c.1 in
        let b = held-bit t x.3.0 (r.owner t) x.3.1 (r.each_turn t near) in
        let own : owner' t ≡ suc x.3.0 = ap (λ (b : Bool). cond b 0 (r.owner t)) (is-one t o) ∙ x.3.1 in
        let high : bit_at word t ≡ 1 = word-at t ∙ ap₂ min b.0 o in
        let is : counted w t ≡ Some d = count-at t h ∙ ap (λ (b : Bool). cond b None (new t)) (is-one t o) ∙ e in
        let put : place w t ≡ place v t = place-at t h ∙ ap (λ (b : Bool). cond b Vacant (place v t)) (is-one t o) in
        record {
          ours = ours t c.0 c.1;
          owns = subst (OwnsAt t) (sym own) (high, b.1, x.3.2, (d, is));
          held = λ a g. (changed t d h e ∙ sym is ∙ g, subst (InPlace content s.homes t) (sym put) x.2, (x.3.0, own, x.3.2));
        }

    stays : (t : ℕ) → t < length s.homes → bit_at mask t ≡ 1 → new t ≡ None → SameAt t
    stays t near o e =
        let h : t < slots = omega arith in
        let small : bit_at (get_or s.words 7 0) t < 2 = bit_at-lt (get_or s.words 7 0) t in
        record {
          bit = word-at t ∙ ap (min (bit_at (get_or s.words 7 0) t)) o ∙ (let m : min (bit_at (get_or s.words 7 0) t) 1 ≡ bit_at (get_or s.words 7 0) t = omega arith in m);
          owned = ap (λ (b : Bool). cond b 0 (r.owner t)) (is-one t o);
          home = refl;
          content_is = unchanged t e;
          count = count-at t h ∙ ap (λ (b : Bool). cond b None (new t)) (is-one t o) ∙ e ∙ sym (same.1 t e);
          put = place-at t h ∙ ap (λ (b : Bool). cond b Vacant (place v t)) (is-one t o);
        }

    each : (t : ℕ) → t < length s.homes → SameAt t ⊎ MineAt t
    each t near = two (bit_at mask t) (λ _. SameAt t ⊎ MineAt t) (bit_at-lt mask t) (λ z. inr (frees t near z))
        (λ o. cases (new t) (SameAt t ⊎ MineAt t) (λ e. inl (stays t near o e)) (λ d e. inr (keeps-own t d near o e)))

    within : (t : ℕ) (c : C) → counted w t ≡ Some c → t < length s.homes
    within t c e = dite (dec_lt t slots) (λ h. (let g : t < length s.homes = omega arith in g))
        (λ h. absurd (none-some c (sym (row-past 0 slots (λ u. cond (bit_at mask u == 0) None (new u)) None t (let g : slots ≤ t = omega arith in g)) ∙ e)))

    pub given-tied : ((i k : ℕ) (c : C) → get_elem? speaks i ≡ some (k, c) → (v.caller_count ≡ caller_count) × (k < caller_count) × (r.seat_of k ≡ id) × (slice_get notes k ≡ Some c))
        → ((k : ℕ) → r.seat_of k ≢ id → slice_get notes k ≡ slice_get r.notes k) → (now : ℕ) → Follows r.now r.contents v now contents w → length contents ≡ length s.homes → length notes ≡ caller_count → holds contents notes
        → Tied content holds caller_count record { words = set s.words 7 word; homes = s.homes; views = set s.views id w }
    given-tied spoken_notes others now follows full all ok = moved content holds caller_count s r id v w word (set s.words 7 word) s.homes contents notes owner' at refl (get_or-set_same s.words 7 word 0 (let h : length s.words ≡ 15 = r.words in omega arith)) (length-set s.words 7 word ∙ r.words) each within spoken_notes others now follows full all ok

  pub returns : (slots id : ℕ) (me : Sits V C) (mask : ℕ) → ((t : ℕ) → t < slots → bit_at mask t ≡ 0 → (d : C) × (counted me.0 t ≡ Some d) × (place me.0 t ≡ Lies d))
      → Allows (Tied content holds caller_count) slots id me 7 (λ n. bit_and n mask) (λ _ m. returned slots mask me m)
  returns slots id me mask freed s r wide at small =
      let v : View C = me.0 in (
        given_view slots mask (counted v) v.speaks v.given v.change v,
        keeps,
        tt,
        given-tied s r id slots mask v (counted v) v.speaks v.given v.change r.contents r.notes at wide (λ t d h e. ((r.each_view id v at).held t d e).1) (λ t e. refl) ((λ t e. e), (λ t e. e)) freed
            ((r.each_view id v at).spoken) (λ k ne. refl) r.now (no-change r.now r.contents v (given_view slots mask (counted v) v.speaks v.given v.change v) r.opened (r.changes id v at) refl refl) r.turns r.callers r.tied,
        refl,
      )

  -- the view after the book was given back has the newest change
  new-follows : (s : State (Option V) (View C)) (r : Tied content holds caller_count s) (id slots mask : ℕ) (v : View C) (k0 : ℕ) (c0 : C) (new : ℕ → Option C) (book : C) → v.speaks ≡ (k0, c0) ∷ [] → noted (new 0) v.speaks ≡ (k0, book) ∷ [] → get_elem? s.views id ≡ some v
      → Follows r.now r.contents v (suc r.now) (overlay new r.contents) (given_view slots mask new (noted (new 0) v.speaks) (v.given + 1) (suc r.now, overlay new r.contents) v)
  new-follows s r id slots mask v k0 c0 new book one is at = record {
    heard = λ i k c e. let x = only k0 c0 i k c (sym (ap (λ (l : List (ℕ × C)). get_elem? l i) one) ∙ e) in
        (0, book, ap (λ (l : List (ℕ × C)). get_elem? l 0) is ∙ ap (λ (m : ℕ). some (m, book)) x.0);
    opened = omega arith;
    own = (omega arith, λ e. refl);
    others = λ u h. let near : u.change.0 ≤ r.now = h.0 in (omega arith, λ e. absurd (omega arith));
    newest = inl refl;
  }

  module _ (moves : ℕ → ℕ → (ℕ → Option C) → (ℕ → Option C) → Type 0)
      (kept : (contents notes : List C) (caller : ℕ) (old new : ℕ → Option C) (book : C) → holds contents notes → FitsTurns contents old → SameTurns old new → new 0 ≡ Some book → caller < length notes → moves (length contents) caller old new → holds (overlay new contents) (set notes caller book)) where
    pub books : (slots id : ℕ) (me : Sits V C) (mask k0 : ℕ) (c0 : C) (new : ℕ → Option C) (book : C) → me.0.speaks ≡ (k0, c0) ∷ [] → new 0 ≡ Some book → SameTurns (counted me.0) new → moves slots k0 (counted me.0) new
        → ((t : ℕ) → t < slots → bit_at mask t ≡ 0 → (d : C) × (new t ≡ Some d) × (place me.0 t ≡ Lies d))
        → Allows (Tied content holds caller_count) slots id me 7 (λ n. bit_and n mask) (λ _ m. booked new slots mask me m)
    books slots id me mask k0 c0 new book one has same may freed s r wide at small =
        let v : View C = me.0 in
        let spoken = (r.each_view id v at).spoken 0 k0 c0 (ap (λ (l : List (ℕ × C)). get_elem? l 0) one) in
        let is : noted (new 0) v.speaks ≡ (k0, book) ∷ [] = ap₂ noted has one in
        let caller_count-is : length r.notes ≡ caller_count = r.callers in
        let fits : FitsTurns r.contents (counted v) = λ t c e. ((r.each_view id v at).held t c e).1 in
        let near : k0 < length r.notes = (let g : k0 < caller_count = spoken.1 in omega arith) in (
          given_view slots mask new (noted (new 0) v.speaks) (v.given + 1) (suc r.now, overlay new r.contents) v,
          keeps,
          tt,
          given-tied s r id slots mask v new (noted (new 0) v.speaks) (v.given + 1) (suc r.now, overlay new r.contents) (overlay new r.contents) (set r.notes k0 book) at wide
              (λ t d h e. overlay-some 0 new r.contents t d (let g : length r.contents ≡ length s.homes = r.turns in omega arith) (ap new (omega arith) ∙ e))
              (λ t e. overlay-none 0 new r.contents t (ap new (omega arith) ∙ e))
              same freed
              (λ i k c e. let x = only k0 book i k c (sym (ap (λ (l : List (ℕ × C)). get_elem? l i) is) ∙ e) in
              (spoken.0, subst (λ (j : ℕ). j < caller_count) x.0 spoken.1, ap r.seat_of (sym x.0) ∙ spoken.2, ap (slice_get (set r.notes k0 book)) (sym x.0) ∙ get-set_same r.notes k0 book near ∙ ap Some x.1))
              (λ k ne. get-set_other r.notes k0 k book (λ e. ne (ap r.seat_of e ∙ spoken.2)))
              (suc r.now) (new-follows s r id slots mask v k0 c0 new book one is at)
              (overlay-length 0 new r.contents ∙ r.turns) (length-set r.notes k0 book ∙ r.callers)
              (kept r.contents r.notes k0 (counted v) new book r.tied fits same has near (subst (λ (n : ℕ). moves n k0 (counted v) new) (sym (r.turns ∙ wide)) may)),
          (r.now, r.contents, refl, (r.changes id v at).0, r.turns ∙ wide, fits),
        )
