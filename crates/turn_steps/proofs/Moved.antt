-- A step of one seat keeps the rule where each turn either stays as it was or is the seat's own.
use Rattle.std.proofs.Common.{◌≡◌, ◌≢◌, ℕ, zero, suc, ◌<◌, ◌≤◌, ◌⊎◌, inr, ⊎_elim, refl, List, [], ◌∷◌, length, get_or, set, sym, ap, ◌∙◌, subst, arith}
use mathlib.Core.Option.{some, some-injective}
use mathlib.Core.Option as maybe
use mathlib.Core.Logic.{dite}
use native.Mathlib.Decide.{ℕ_discrete}
use lib.ListN.{get_elem?}
use Rattle.std.specs.Prelude.{Option, Some, slice_get}
use Rattle.std.specs.Int.{bit_at}
use Rattle.atomic_table.specs.Table.{State}
use Rattle.atomic_table.proofs.Lists.{at_set, set_here, set_else}
use Rattle.turn_steps.specs.declared.view.View.{View}
use Rattle.turn_steps.specs.declared.view.Place.{Place}
use Rattle.turn_steps.specs.declared.view.Place.TheVariants.{Vacant, Away, Lies}
use Rattle.turn_steps.specs.Tied.{Tied, TurnOk, ViewOk, InPlace, Lying, Left, Heard, counted, place}

pub there : {A : Type 0} (l : List A) (i : ℕ) (a : A) → get_elem? l i ≡ some a → i < length l
there [] i a e = absurd (maybe.some-ne-none a (sym e))
there (x ∷ xs) zero a e = omega arith
there (x ∷ xs) (suc i) a e = let h = there xs i a e in omega arith

-- the view w follows v: it speaks for the same callers, and its change is v's or a new one
pub record Follows {C : Type 0} (before : ℕ) (old : List C) (v : View C) (now : ℕ) (contents : List C) (w : View C) : Type 0 where
  pub heard : (i k : ℕ) (c : C) → get_elem? v.speaks i ≡ some (k, c) → (j : ℕ) × (d : C) × (get_elem? w.speaks j ≡ some (k, d))
  pub opened : 0 < now
  pub own : Left now contents w
  pub others : (u : View C) → Left before old u → Left now contents u
  pub newest : (w.change.0 ≡ now) ⊎ ((now ≡ before) × (w.change.0 ≡ v.change.0))

pub no-change : {C : Type 0} (now : ℕ) (contents : List C) (v w : View C) → 0 < now → Left now contents v → w.speaks ≡ v.speaks → w.change ≡ v.change → Follows now contents v now contents w
no-change {C} now contents v w pos left same change = record {
  heard = λ i k c e. (i, c, ap (λ (l : List (ℕ × C)). get_elem? l i) same ∙ e);
  opened = pos;
  own = subst (λ (x : ℕ × List C). (x.0 ≤ now) × (x.0 ≡ now → x.1 ≡ contents)) (sym change) left;
  others = λ u h. h;
  newest = inr (refl, ap (λ (x : ℕ × List C). x.0) change);
}

module _ {V C : Type 0} (content : V → C) (holds : List C → List C → Type 0) (caller_count : ℕ) where
  abbrev pub St : Type 0
  St = State (Option V) (View C)

  module _ (s : St) (r : Tied content holds caller_count s) (id : ℕ) (v w : View C) (word : ℕ) (words : List ℕ) (homes : List (maybe.Option (Option V))) (contents notes : List C) (owner : ℕ → ℕ) where
    abbrev pub after : St
    after = record { words = words; homes = homes; views = set s.views id w }

    pub record Same (t : ℕ) : Type 0 where
      pub bit : bit_at word t ≡ bit_at (get_or s.words 7 0) t
      pub owned : owner t ≡ r.owner t
      pub home : get_elem? homes t ≡ get_elem? s.homes t
      pub content_is : slice_get contents t ≡ slice_get r.contents t
      pub count : counted w t ≡ counted v t
      pub put : place w t ≡ place v t

    abbrev pub Owns : ℕ → ℕ → Type 0
    Owns t zero = (bit_at word t ≡ 0) × ((c : C) × (slice_get contents t ≡ Some c) × Lying content homes t c)
    Owns t (suc k) = (bit_at word t ≡ 1) × (k < caller_count) × (r.seat_of k ≡ id) × ((c : C) × (counted w t ≡ Some c))

    pub record Mine (t : ℕ) : Type 0 where
      pub ours : (k : ℕ) → r.owner t ≡ suc k → r.seat_of k ≡ id
      pub owns : Owns t (owner t)
      pub held : (c : C) → counted w t ≡ Some c → (slice_get contents t ≡ Some c) × InPlace content homes t (place w t) × ((k : ℕ) × (owner t ≡ suc k) × (r.seat_of k ≡ id))

    module _ (at : get_elem? s.views id ≡ some v) (as_long : length homes ≡ length s.homes) (shown : get_or words 7 0 ≡ word) (all_words : length words ≡ 15) where
      abbrev Was : ℕ → ℕ → Type 0
      Was t o = TurnOk content caller_count r.owner r.seat_of r.contents r.notes s t o

      abbrev Is : ℕ → ℕ → Type 0
      Is t o = TurnOk content caller_count owner r.seat_of contents notes after t o

      lying : (t : ℕ) (c : C) → get_elem? homes t ≡ get_elem? s.homes t → Lying content s.homes t c → Lying content homes t c
      lying t c e l = (l.0, e ∙ l.1, l.2)

      in_place : (t : ℕ) → get_elem? homes t ≡ get_elem? s.homes t → (p : Place C) → InPlace content s.homes t p → InPlace content homes t p
      in_place t e Vacant h = e ∙ h
      in_place t e Away h = h
      in_place t e (Lies c) h = lying t c e h

      same_turn : (t : ℕ) → Same t → (o : ℕ) → Was t o → Is t o
      same_turn t a zero b = (ap (λ (n : ℕ). bit_at n t) shown ∙ a.bit ∙ b.0, (b.1.0, a.content_is ∙ b.1.1, lying t b.1.0 a.home b.1.2))
      same_turn t a (suc k) b = (
        ap (λ (n : ℕ). bit_at n t) shown ∙ a.bit ∙ b.0,
        b.1,
        dite (ℕ_discrete (r.seat_of k) id)
            (λ e. (w, b.2.1, ap (get_elem? (set s.views id w)) e ∙ set_here s.views id w (there s.views id v at), a.count ∙ ap (λ (x : View C). counted x t) (some-injective v b.2.0 (sym at ∙ ap (get_elem? s.views) (sym e) ∙ b.2.2)) ∙ b.2.3))
            (λ n. (b.2.0, b.2.1, set_else s.views id (r.seat_of k) w n ∙ b.2.2, b.2.3)),
      )

      own_turn : (t o : ℕ) → Owns t o → Is t o
      own_turn t zero b = (ap (λ (n : ℕ). bit_at n t) shown ∙ b.0, b.1)
      own_turn t (suc k) b = (
        ap (λ (n : ℕ). bit_at n t) shown ∙ b.0,
        b.1,
        (w, b.3.0, ap (get_elem? (set s.views id w)) b.2 ∙ set_here s.views id w (there s.views id v at), b.3.1),
      )

      module _ (each : (t : ℕ) → t < length s.homes → Same t ⊎ Mine t)
          (within : (t : ℕ) (c : C) → counted w t ≡ Some c → t < length s.homes)
          (spoken_notes : (i k : ℕ) (c : C) → get_elem? w.speaks i ≡ some (k, c) → (w.caller_count ≡ caller_count) × (k < caller_count) × (r.seat_of k ≡ id) × (slice_get notes k ≡ Some c))
          (others : (k : ℕ) → r.seat_of k ≢ id → slice_get notes k ≡ slice_get r.notes k) where
        each_turn : (t : ℕ) → t < length homes → Is t (owner t)
        each_turn t h = let near : t < length s.homes = omega arith in
            ⊎_elim (λ (a : Same t). subst (Is t) (sym a.owned) (same_turn t a (r.owner t) (r.each_turn t near))) (λ (m : Mine t). own_turn t (owner t) m.owns) (each t near)

        abbrev Held : (j t : ℕ) → C → Place C → Type 0
        Held j t c p = (slice_get contents t ≡ Some c) × InPlace content homes t p × ((k : ℕ) × (owner t ≡ suc k) × (r.seat_of k ≡ j))

        near' : (t : ℕ) → t < length s.homes → t < length homes
        near' t h = omega arith

        held_same : (j t : ℕ) (c : C) (p : Place C) → Same t → (slice_get r.contents t ≡ Some c) → InPlace content s.homes t p → ((k : ℕ) × (r.owner t ≡ suc k) × (r.seat_of k ≡ j)) → Held j t c p
        held_same j t c p a h i o = (a.content_is ∙ h, in_place t a.home p i, (o.0, a.owned ∙ o.1, o.2))

        held_mine : (t : ℕ) (c : C) → counted w t ≡ Some c → t < length s.homes → Held id t c (place w t)
        held_mine t c e near = ⊎_elim
            (λ (a : Same t). let h = (r.each_view id v at).held t c (sym a.count ∙ e) in subst (Held id t c) (sym a.put) (held_same id t c (place v t) a h.1 h.2 h.3))
            (λ (m : Mine t). m.held c e) (each t near)

        held_other : (j : ℕ) (u : View C) → j ≢ id → get_elem? s.views j ≡ some u → (t : ℕ) (c : C) → counted u t ≡ Some c → Held j t c (place u t)
        held_other j u ne e t c f = let h = (r.each_view j u e).held t c f in ⊎_elim
            (λ (a : Same t). held_same j t c (place u t) a h.1 h.2 h.3)
            (λ (m : Mine t). absurd (ne (sym h.3.2 ∙ m.ours h.3.0 h.3.1))) (each t h.0)

        mine_view : ViewOk content caller_count owner r.seat_of contents notes after id w
        mine_view = record { spoken = spoken_notes; held = λ t c e. let near = within t c e in let h = held_mine t c e near in (near' t near, h.0, h.1, h.2) }

        other_view : (j : ℕ) (u : View C) → j ≢ id → get_elem? s.views j ≡ some u → ViewOk content caller_count owner r.seat_of contents notes after j u
        other_view j u ne e = let old = r.each_view j u e in record {
          spoken = λ i k c f. let h = old.spoken i k c f in (h.0, h.1, h.2, others k (λ g. ne (sym h.2 ∙ g)) ∙ h.3);
          held = λ t c f. let h = held_other j u ne e t c f in (near' t (old.held t c f).0, h.0, h.1, h.2);
        }

        each_view : (j : ℕ) (u : View C) → get_elem? (set s.views id w) j ≡ some u → ViewOk content caller_count owner r.seat_of contents notes after j u
        each_view j u e = ⊎_elim
            (λ (h : (j ≡ id) × (w ≡ u)). subst (λ (x : ℕ × View C). ViewOk content caller_count owner r.seat_of contents notes after x.0 x.1) (λ i. (sym h.0 i, h.1 i)) mine_view)
            (λ (h : (j ≢ id) × (get_elem? s.views j ≡ some u)). other_view j u h.0 h.1) (at_set s.views id j w u e)

        module _ (now : ℕ) (follows : Follows r.now r.contents v now contents w) where
          own-view : get_elem? (set s.views id w) id ≡ some w
          own-view = set_here s.views id w (there s.views id v at)

          each_caller : (k : ℕ) → k < caller_count → Heard r.seat_of (set s.views id w) k
          each_caller k near = let h = r.each_caller k near in dite (ℕ_discrete (r.seat_of k) id)
              (λ e. let same : h.0 ≡ v = some-injective h.0 v (sym h.3 ∙ ap (get_elem? s.views) e ∙ at) in
              let x = follows.heard h.1 k h.2 (ap (λ (y : View C). get_elem? y.speaks h.1) (sym same) ∙ h.4) in
              (w, x.0, x.1, ap (get_elem? (set s.views id w)) e ∙ own-view, x.2))
              (λ n. (h.0, h.1, h.2, set_else s.views id (r.seat_of k) w n ∙ h.3, h.4))

          changes : (j : ℕ) (u : View C) → get_elem? (set s.views id w) j ≡ some u → Left now contents u
          changes j u e = ⊎_elim
              (λ (h : (j ≡ id) × (w ≡ u)). subst (Left now contents) h.1 follows.own)
              (λ (h : (j ≢ id) × (get_elem? s.views j ≡ some u)). follows.others u (r.changes j u h.1)) (at_set s.views id j w u e)

          latest : (j : ℕ) × (u : View C) × (get_elem? (set s.views id w) j ≡ some u) × (u.change.0 ≡ now)
          latest = ⊎_elim
              (λ (h : w.change.0 ≡ now). (id, w, own-view, h))
              (λ (h : (now ≡ r.now) × (w.change.0 ≡ v.change.0)). let l = r.latest in dite (ℕ_discrete l.0 id)
              (λ e. (id, w, own-view, h.1 ∙ ap (λ (x : View C). x.change.0) (some-injective v l.1 (sym at ∙ ap (get_elem? s.views) (sym e) ∙ l.2)) ∙ l.3 ∙ sym h.0))
              (λ n. (l.0, l.1, set_else s.views id l.0 w n ∙ l.2, l.3 ∙ sym h.0)))
              follows.newest

        pub moved : (now : ℕ) → Follows r.now r.contents v now contents w → length contents ≡ length s.homes → length notes ≡ caller_count → holds contents notes → Tied content holds caller_count after
        moved now follows full all keeps = record {
          owner = owner;
          seat_of = r.seat_of;
          contents = contents;
          notes = notes;
          now = now;
          words = all_words;
          turns = full ∙ sym as_long;
          small = (let g : length s.homes ≤ 57 = r.small in omega arith);
          callers = all;
          tied = keeps;
          each_turn = each_turn;
          each_view = each_view;
          each_caller = each_caller now follows;
          opened = follows.opened;
          changes = changes now follows;
          latest = latest now follows;
        }
