-- Cutting a caller off and putting callers together keep the rule.
use Rattle.std.proofs.Common.{◌≡◌, ◌≢◌, ℕ, zero, suc, ◌+◌, ◌<◌, ◌≤◌, ◌⊎◌, inl, inr, ⊎_elim, List, [], ◌∷◌, ◌++◌, length, get_or, set, Bool, cond, ltb, ltb-true, ltb-false, refl, sym, ap, ◌∙◌, subst, arith, eq-eqb, ne_eqb, length-set}
use Rattle.std.specs.Prelude.{Option, Some, None, slice_get, ◌==◌}
use Rattle.std.proofs.lemmas.Option.{none-some}
use mathlib.Core.Option.{some, some-injective, some-ne-none}
use mathlib.Core.Logic.{dite}
use native.Mathlib.Decide.{ℕ_discrete}
use lib.ListN.{get_elem?}
use Rattle.atomic_table.specs.Table.{State, Splits, Joins}
use Rattle.atomic_table.proofs.Lists.{at_set, set_here, set_else, at_longer, at_last}
use Rattle.turn_steps.specs.declared.view.View.{View}
use Rattle.turn_steps.specs.Tied.{Tied, TurnOk, ViewOk, Left, Heard, counted, all_speak}
use Rattle.turn_steps.specs.Steps.{left_view, right_view, both_views, spent_view, tail, head, later}
use Rattle.turn_steps.proofs.Rows.{by_bool, row-past, row-here}
use Rattle.turn_steps.proofs.Moved.{there}

pub at_end : {A : Type 0} (l : List A) (a b : A) (j : ℕ) → get_elem? (l ++ a ∷ []) j ≡ some b → (get_elem? l j ≡ some b) ⊎ ((j ≡ length l) × (a ≡ b))
at_end [] a b zero e = inr (refl, some-injective a b e)
at_end [] a b (suc j) e = absurd (some-ne-none b (sym e))
at_end (x ∷ xs) a b zero e = inl e
at_end (x ∷ xs) a b (suc j) e = ⊎_elim (λ h. inl h) (λ h. inr (ap suc h.0, h.1)) (at_end xs a b j e)

pub at_either : {A : Type 0} (xs ys : List A) (a : A) (i : ℕ) → get_elem? (xs ++ ys) i ≡ some a → (get_elem? xs i ≡ some a) ⊎ ((m : ℕ) × (get_elem? ys m ≡ some a))
at_either [] ys a i e = inr (i, e)
at_either (x ∷ xs) ys a zero e = inl e
at_either (x ∷ xs) ys a (suc i) e = at_either xs ys a i e

pub at-behind : {A : Type 0} (xs ys : List A) (a : A) (i n : ℕ) → n ≡ length xs + i → get_elem? ys i ≡ some a → get_elem? (xs ++ ys) n ≡ some a
at-behind [] ys a i n is e = ap (get_elem? ys) (let g : n ≡ i = omega arith in g) ∙ e
at-behind (x ∷ xs) ys a i zero is e = absurd (omega arith)
at-behind (x ∷ xs) ys a i (suc n) is e = at-behind xs ys a i n (omega arith) e

-- another caller than the first stands in the rest
in-rest : {C : Type 0} (k0 : ℕ) (c0 : C) (xs : List (ℕ × C)) (i k : ℕ) (c : C) → k ≢ k0 → get_elem? {A = ℕ × C} ((k0, c0) ∷ xs) i ≡ some (k, c) → (j : ℕ) × (get_elem? xs j ≡ some (k, c))
in-rest {C} k0 c0 xs zero k c ne e = absurd (ne (sym (ap (λ (x : ℕ × C). x.0) (some-injective {A = ℕ × C} (k0, c0) (k, c) e))))
in-rest k0 c0 xs (suc i) k c ne e = (i, e)

-- a list that is not empty has its head, and the rest of it
module _ {A : Type 0} where
  pub none-at : (t n : ℕ) (d : A) → get_or (Rattle.turn_steps.specs.Maps.row 0 n (λ _. d)) t d ≡ d
  none-at t n d = dite (native.Mathlib.Decide.dec_lt t n) (λ h. row-here n (λ _. d) d t h) (λ h. row-past 0 n (λ _. d) d t (let k : n ≤ t = omega arith in k))

-- the callers rise
pub rising : {C : Type 0} (note : C) (n from i k : ℕ) (c : C) → get_elem? (all_speak from n note) i ≡ some (k, c) → from ≤ k
rising note zero from i k c e = absurd (some-ne-none {A = ℕ × _} (k, c) (sym e))
rising note (suc n) from zero k c e = let h : from ≡ k = ap (λ x. x.0) (some-injective {A = ℕ × _} (from, note) (k, c) e) in omega arith
rising note (suc n) from (suc i) k c e = let h = rising note n (suc from) i k c e in omega arith

module _ {V C : Type 0} (content : V → C) (holds : List C → List C → Type 0) (caller_count : ℕ) where
  module _ (s : State (Option V) (View C)) (r : Tied content holds caller_count s) where
    -- a seat that holds no turn is nobody's holder
    pub not-holder : (id : ℕ) (v : View C) → get_elem? s.views id ≡ some v → ((t : ℕ) → counted v t ≡ None) → (k t : ℕ) (u : View C) (c : C) → get_elem? s.views (r.seat_of k) ≡ some u → counted u t ≡ Some c → r.seat_of k ≢ id
    not-holder id v at none' k t u c sits has e =
        let same : u ≡ v = some-injective u v (sym sits ∙ ap (get_elem? s.views) e ∙ at) in
        none-some c (sym (none' t) ∙ ap (λ (x : View C). counted x t) (sym same) ∙ has)

    module _ (id : ℕ) (v : View C) (k0 : ℕ) (c0 : C) (xs : List (ℕ × C)) (at : get_elem? s.views id ≡ some v) (none' : (t : ℕ) → counted v t ≡ None) (one : v.speaks ≡ (k0, c0) ∷ xs)
        (apart : (i k : ℕ) (c : C) → get_elem? xs i ≡ some (k, c) → k ≢ k0) where
      seat' : ℕ → ℕ
      seat' k = cond (k == k0) (length s.views) (r.seat_of k)

      seat-new : (k : ℕ) → k ≡ k0 → cond (k == k0) (length s.views) (r.seat_of k) ≡ length s.views
      seat-new k e = ap (λ (b : Bool). cond b (length s.views) (r.seat_of k)) (eq-eqb k k0 e)

      seat-old : (k : ℕ) → k ≢ k0 → cond (k == k0) (length s.views) (r.seat_of k) ≡ r.seat_of k
      seat-old k ne = ap (λ (b : Bool). cond b (length s.views) (r.seat_of k)) (ne_eqb k k0 ne)

      spoken : (v.caller_count ≡ caller_count) × (k0 < caller_count) × (r.seat_of k0 ≡ id) × (slice_get r.notes k0 ≡ Some c0)
      spoken = (r.each_view id v at).spoken 0 k0 c0 (ap (λ (l : List (ℕ × C)). get_elem? l 0) one)

      tail-spoken : (i k : ℕ) (c : C) → get_elem? (tail v.speaks) i ≡ some (k, c) → (k ≢ k0) × (v.caller_count ≡ caller_count) × (k < caller_count) × (r.seat_of k ≡ id) × (slice_get r.notes k ≡ Some c)
      tail-spoken i k c e = let there' : get_elem? xs i ≡ some (k, c) = sym (ap (λ (l : List (ℕ × C)). get_elem? (tail l) i) one) ∙ e in
          let h = (r.each_view id v at).spoken (suc i) k c (ap (λ (l : List (ℕ × C)). get_elem? l (suc i)) one ∙ there') in (apart i k c there', h.0, h.1, h.2, h.3)

      elsewhere : (k : ℕ) → r.seat_of k ≢ id → k ≢ k0
      elsewhere k ne e = ne (ap r.seat_of e ∙ spoken.2)

      abbrev cut : State (Option V) (View C)
      cut = record { words = s.words; homes = s.homes; views = set s.views id (left_view v) ++ right_view v ∷ [] }

      abbrev after-seat : ℕ → ℕ
      after-seat k = cond (k == k0) (length s.views) (r.seat_of k)

      turn-cut : (t o : ℕ) → TurnOk content caller_count r.owner r.seat_of r.contents r.notes s t o → TurnOk content caller_count r.owner after-seat r.contents r.notes cut t o
      turn-cut t zero b = b
      turn-cut t (suc k) b = let ne = not-holder id v at none' k t b.2.0 b.2.1 b.2.2 b.2.3 in (
        b.0,
        b.1,
        (
          b.2.0,
          b.2.1,
          ap (get_elem? (set s.views id (left_view v) ++ right_view v ∷ [])) (seat-old k (elsewhere k ne)) ∙ at_longer (set s.views id (left_view v)) (right_view v ∷ []) (r.seat_of k) b.2.0 (set_else s.views id (r.seat_of k) (left_view v) ne ∙ b.2.2),
          b.2.3,
        ),
      )

      abbrev Ok : ℕ → View C → Type 0
      Ok = ViewOk content caller_count r.owner after-seat r.contents r.notes cut

      left-ok : Ok id (left_view v)
      left-ok = record {
        spoken = λ i k c e. let h = tail-spoken i k c e in (h.1, h.2, seat-old k h.0 ∙ h.3, h.4);
        held = λ t c e. absurd (none-some c (sym (none' t) ∙ e));
      }

      right-spoken : (i k : ℕ) (c : C) → get_elem? {A = ℕ × C} ((k0, c0) ∷ []) i ≡ some (k, c) → (v.caller_count ≡ caller_count) × (k < caller_count) × (after-seat k ≡ length s.views) × (slice_get r.notes k ≡ Some c)
      right-spoken zero k c e = let p = some-injective {A = ℕ × C} (k0, c0) (k, c) e in let ek : k0 ≡ k = ap (λ (x : ℕ × C). x.0) p in
          (spoken.0, subst (λ (n : ℕ). n < caller_count) ek spoken.1, seat-new k (sym ek), ap (slice_get r.notes) (sym ek) ∙ spoken.3 ∙ ap (λ (x : ℕ × C). Some x.1) p)
      right-spoken (suc i) k c e = absurd (some-ne-none {A = ℕ × C} (k, c) (sym e))

      right-ok : Ok (length s.views) (right_view v)
      right-ok = record {
        spoken = λ i k c e. right-spoken i k c (sym (ap (λ (l : List (ℕ × C)). get_elem? (head l) i) one) ∙ e);
        held = λ t c e. absurd (none-some c (sym (none-at t (length v.counts) None) ∙ e));
      }

      other-ok : (j : ℕ) (u : View C) → j ≢ id → get_elem? s.views j ≡ some u → Ok j u
      other-ok j u ne e = let old = r.each_view j u e in record {
        spoken = λ i k c f. let h = old.spoken i k c f in (h.0, h.1, seat-old k (elsewhere k (λ g. ne (sym h.2 ∙ g))) ∙ h.2, h.3);
        held = λ t c f. let h = old.held t c f in (h.0, h.1, h.2, (h.3.0, h.3.1, seat-old h.3.0 (elsewhere h.3.0 (λ g. ne (sym h.3.2 ∙ g))) ∙ h.3.2));
      }

      each-cut : (j : ℕ) (u : View C) → get_elem? (set s.views id (left_view v) ++ right_view v ∷ []) j ≡ some u → Ok j u
      each-cut j u e = ⊎_elim
          (λ (h : get_elem? (set s.views id (left_view v)) j ≡ some u). ⊎_elim
          (λ (x : (j ≡ id) × (left_view v ≡ u)). subst (λ (y : ℕ × View C). Ok y.0 y.1) (λ i. (sym x.0 i, x.1 i)) left-ok)
          (λ (x : (j ≢ id) × (get_elem? s.views j ≡ some u)). other-ok j u x.0 x.1)
          (at_set s.views id j (left_view v) u h))
          (λ (h : (j ≡ length (set s.views id (left_view v))) × (right_view v ≡ u)). subst (λ (y : ℕ × View C). Ok y.0 y.1) (λ i. (sym (h.0 ∙ length-set s.views id (left_view v)) i, h.1 i)) right-ok)
          (at_end (set s.views id (left_view v)) (right_view v) u j e)

      left-view : get_elem? (set s.views id (left_view v) ++ right_view v ∷ []) id ≡ some (left_view v)
      left-view = at_longer (set s.views id (left_view v)) (right_view v ∷ []) id (left_view v) (set_here s.views id (left_view v) (there s.views id v at))

      else-view : (j : ℕ) (u : View C) → j ≢ id → get_elem? s.views j ≡ some u → get_elem? (set s.views id (left_view v) ++ right_view v ∷ []) j ≡ some u
      else-view j u ne e = at_longer (set s.views id (left_view v)) (right_view v ∷ []) j u (set_else s.views id j (left_view v) ne ∙ e)

      caller-cut : (k : ℕ) → k < caller_count → Heard after-seat (set s.views id (left_view v) ++ right_view v ∷ []) k
      caller-cut k near = let h = r.each_caller k near in dite (ℕ_discrete k k0)
          (λ e. (
            right_view v,
            0,
            c0,
            ap (get_elem? (set s.views id (left_view v) ++ right_view v ∷ [])) (seat-new k e) ∙ at_last (set s.views id (left_view v)) (right_view v) (length s.views) (length-set s.views id (left_view v)),
            ap (λ (l : List (ℕ × C)). get_elem? (head l) 0) one ∙ ap (λ (m : ℕ). some (m, c0)) (sym e),
          ))
          (λ n. dite (ℕ_discrete (r.seat_of k) id)
          (λ e. let same : h.0 ≡ v = some-injective h.0 v (sym h.3 ∙ ap (get_elem? s.views) e ∙ at) in
          let x = in-rest k0 c0 xs h.1 k h.2 n (sym (ap (λ (l : List (ℕ × C)). get_elem? l h.1) one) ∙ ap (λ (y : View C). get_elem? y.speaks h.1) (sym same) ∙ h.4) in
          (left_view v, x.0, h.2, ap (get_elem? (set s.views id (left_view v) ++ right_view v ∷ [])) (seat-old k n ∙ e) ∙ left-view, ap (λ (l : List (ℕ × C)). get_elem? (tail l) x.0) one ∙ x.1))
          (λ m. (h.0, h.1, h.2, ap (get_elem? (set s.views id (left_view v) ++ right_view v ∷ [])) (seat-old k n) ∙ else-view (r.seat_of k) h.0 m h.3, h.4)))

      changes-cut : (j : ℕ) (u : View C) → get_elem? (set s.views id (left_view v) ++ right_view v ∷ []) j ≡ some u → Left r.now r.contents u
      changes-cut j u e = ⊎_elim
          (λ (h : get_elem? (set s.views id (left_view v)) j ≡ some u). ⊎_elim
          (λ (x : (j ≡ id) × (left_view v ≡ u)). subst (Left r.now r.contents) x.1 (r.changes id v at))
          (λ (x : (j ≢ id) × (get_elem? s.views j ≡ some u)). r.changes j u x.1)
          (at_set s.views id j (left_view v) u h))
          (λ (h : (j ≡ length (set s.views id (left_view v))) × (right_view v ≡ u)). subst (Left r.now r.contents) h.1 (r.changes id v at))
          (at_end (set s.views id (left_view v)) (right_view v) u j e)

      latest-cut : (j : ℕ) × (u : View C) × (get_elem? (set s.views id (left_view v) ++ right_view v ∷ []) j ≡ some u) × (u.change.0 ≡ r.now)
      latest-cut = let l = r.latest in dite (ℕ_discrete l.0 id)
          (λ e. (id, left_view v, left-view, ap (λ (x : View C). x.change.0) (some-injective v l.1 (sym at ∙ ap (get_elem? s.views) (sym e) ∙ l.2)) ∙ l.3))
          (λ n. (l.0, l.1, else-view l.0 l.1 n l.2, l.3))

      pub cut-tied : Tied content holds caller_count cut
      cut-tied = record {
        owner = r.owner;
        seat_of = after-seat;
        contents = r.contents;
        notes = r.notes;
        now = r.now;
        words = r.words;
        turns = r.turns;
        small = r.small;
        callers = r.callers;
        tied = r.tied;
        each_turn = λ t h. turn-cut t (r.owner t) (r.each_turn t h);
        each_view = each-cut;
        each_caller = caller-cut;
        opened = r.opened;
        changes = changes-cut;
        latest = latest-cut;
      }

  pub parts : (id : ℕ) (v : View C) (k0 : ℕ) (c0 : C) (xs : List (ℕ × C)) → ((t : ℕ) → counted v t ≡ None) → v.speaks ≡ (k0, c0) ∷ xs → ((i k : ℕ) (c : C) → get_elem? xs i ≡ some (k, c) → k ≢ k0)
      → Splits (Tied content holds caller_count) id v (left_view v) (right_view v)
  parts id v k0 c0 xs none' one apart s r at = cut-tied s r id v k0 c0 xs at none' one apart

  module _ (s : State (Option V) (View C)) (r : Tied content holds caller_count s) (id other : ℕ) (v w : View C) (at : get_elem? s.views id ≡ some v) (ne : ¬ (other ≡ id)) (at' : get_elem? (set s.views id (both_views v w)) other ≡ some w)
      (none-v : (t : ℕ) → counted v t ≡ None) (none-w : (t : ℕ) → counted w t ≡ None) (same-caller_count : w.caller_count ≡ v.caller_count) where
    abbrev to-seat : ℕ → ℕ
    to-seat k = cond (r.seat_of k == other) id (r.seat_of k)

    moves-to : (k : ℕ) → r.seat_of k ≡ other → to-seat k ≡ id
    moves-to k e = ap (λ (b : Bool). cond b id (r.seat_of k)) (eq-eqb (r.seat_of k) other e)

    remains : (k : ℕ) → r.seat_of k ≢ other → to-seat k ≡ r.seat_of k
    remains k n = ap (λ (b : Bool). cond b id (r.seat_of k)) (ne_eqb (r.seat_of k) other n)

    was-other : get_elem? s.views other ≡ some w
    was-other = sym (set_else s.views id other (both_views v w) ne) ∙ at'

    abbrev joined : State (Option V) (View C)
    joined = record { words = s.words; homes = s.homes; views = set (set s.views id (both_views v w)) other spent_view }

    abbrev JoinedOk : ℕ → View C → Type 0
    JoinedOk = ViewOk content caller_count r.owner to-seat r.contents r.notes joined

    turn-joined : (t o : ℕ) → TurnOk content caller_count r.owner r.seat_of r.contents r.notes s t o → TurnOk content caller_count r.owner to-seat r.contents r.notes joined t o
    turn-joined t zero b = b
    turn-joined t (suc k) b =
        let n1 = not-holder s r id v at none-v k t b.2.0 b.2.1 b.2.2 b.2.3 in
        let n2 = not-holder s r other w was-other none-w k t b.2.0 b.2.1 b.2.2 b.2.3 in (
          b.0,
          b.1,
          (
            b.2.0,
            b.2.1,
            ap (get_elem? (set (set s.views id (both_views v w)) other spent_view)) (remains k n2) ∙ set_else (set s.views id (both_views v w)) other (r.seat_of k) spent_view n2 ∙ set_else s.views id (r.seat_of k) (both_views v w) n1 ∙ b.2.2,
            b.2.3,
          ),
        )

    both-ok : JoinedOk id (both_views v w)
    both-ok = record {
      spoken = λ i k c e. ⊎_elim
          (λ (h : get_elem? w.speaks i ≡ some (k, c)). let x = (r.each_view other w was-other).spoken i k c h in (sym same-caller_count ∙ x.0, x.1, moves-to k x.2, x.3))
          (λ (h : (m : ℕ) × (get_elem? v.speaks m ≡ some (k, c))). let x = (r.each_view id v at).spoken h.0 k c h.1 in (x.0, x.1, remains k (λ g. ne (sym g ∙ x.2)) ∙ x.2, x.3))
          (at_either w.speaks v.speaks (k, c) i e);
      held = λ t c e. absurd (none-some c (sym (none-v t) ∙ e));
    }

    spent-ok : JoinedOk other spent_view
    spent-ok = record { spoken = λ i k c e. absurd (some-ne-none {A = ℕ × C} (k, c) (sym e)); held = λ t c e. absurd (none-some c e) }

    rest-ok : (j : ℕ) (u : View C) → j ≢ id → j ≢ other → get_elem? s.views j ≡ some u → JoinedOk j u
    rest-ok j u n1 n2 e = let old = r.each_view j u e in record {
      spoken = λ i k c f. let h = old.spoken i k c f in (h.0, h.1, remains k (λ g. n2 (sym h.2 ∙ g)) ∙ h.2, h.3);
      held = λ t c f. let h = old.held t c f in (h.0, h.1, h.2, (h.3.0, h.3.1, remains h.3.0 (λ g. n2 (sym h.3.2 ∙ g)) ∙ h.3.2));
    }

    each-joined : (j : ℕ) (u : View C) → get_elem? (set (set s.views id (both_views v w)) other spent_view) j ≡ some u → JoinedOk j u
    each-joined j u e = ⊎_elim
        (λ (x : (j ≡ other) × (spent_view ≡ u)). subst (λ (y : ℕ × View C). JoinedOk y.0 y.1) (λ i. (sym x.0 i, x.1 i)) spent-ok)
        (λ (x : (j ≢ other) × (get_elem? (set s.views id (both_views v w)) j ≡ some u)). ⊎_elim
        (λ (y : (j ≡ id) × (both_views v w ≡ u)). subst (λ (z : ℕ × View C). JoinedOk z.0 z.1) (λ i. (sym y.0 i, y.1 i)) both-ok)
        (λ (y : (j ≢ id) × (get_elem? s.views j ≡ some u)). rest-ok j u y.0 x.0 y.1)
        (at_set s.views id j (both_views v w) u x.1))
        (at_set (set s.views id (both_views v w)) other j spent_view u e)

    both-view : get_elem? (set (set s.views id (both_views v w)) other spent_view) id ≡ some (both_views v w)
    both-view = set_else (set s.views id (both_views v w)) other id spent_view (λ e. ne (sym e)) ∙ set_here s.views id (both_views v w) (there s.views id v at)

    third-view : (j : ℕ) (u : View C) → j ≢ id → j ≢ other → get_elem? s.views j ≡ some u → get_elem? (set (set s.views id (both_views v w)) other spent_view) j ≡ some u
    third-view j u n1 n2 e = set_else (set s.views id (both_views v w)) other j spent_view n2 ∙ set_else s.views id j (both_views v w) n1 ∙ e

    caller-joined : (k : ℕ) → k < caller_count → Heard to-seat (set (set s.views id (both_views v w)) other spent_view) k
    caller-joined k near = let h = r.each_caller k near in dite (ℕ_discrete (r.seat_of k) other)
        (λ e. let same : h.0 ≡ w = some-injective h.0 w (sym h.3 ∙ ap (get_elem? s.views) e ∙ was-other) in
        (both_views v w, h.1, h.2, ap (get_elem? (set (set s.views id (both_views v w)) other spent_view)) (moves-to k e) ∙ both-view, at_longer w.speaks v.speaks h.1 (k, h.2) (ap (λ (y : View C). get_elem? y.speaks h.1) (sym same) ∙ h.4)))
        (λ n. dite (ℕ_discrete (r.seat_of k) id)
        (λ e. let same : h.0 ≡ v = some-injective h.0 v (sym h.3 ∙ ap (get_elem? s.views) e ∙ at) in
        (both_views v w, length w.speaks + h.1, h.2, ap (get_elem? (set (set s.views id (both_views v w)) other spent_view)) (remains k n ∙ e) ∙ both-view, at-behind w.speaks v.speaks (k, h.2) h.1 (length w.speaks + h.1) refl (ap (λ (y : View C). get_elem? y.speaks h.1) (sym same) ∙ h.4)))
        (λ m. (h.0, h.1, h.2, ap (get_elem? (set (set s.views id (both_views v w)) other spent_view)) (remains k n) ∙ third-view (r.seat_of k) h.0 m n h.3, h.4)))

    abbrev LeftAs : ℕ × List C → Type 0
    LeftAs x = (x.0 ≤ r.now) × (x.0 ≡ r.now → x.1 ≡ r.contents)

    both-left : Left r.now r.contents (both_views v w)
    both-left = by_bool (ltb v.change.0 w.change.0) (λ b. LeftAs (cond b w.change v.change)) (λ _. r.changes other w was-other) (λ _. r.changes id v at)

    spent-left : Left r.now r.contents (spent_view {C = C})
    spent-left = (omega arith, λ e. absurd (let h = r.opened in omega arith))

    changes-joined : (j : ℕ) (u : View C) → get_elem? (set (set s.views id (both_views v w)) other spent_view) j ≡ some u → Left r.now r.contents u
    changes-joined j u e = ⊎_elim
        (λ (x : (j ≡ other) × (spent_view ≡ u)). subst (Left r.now r.contents) x.1 spent-left)
        (λ (x : (j ≢ other) × (get_elem? (set s.views id (both_views v w)) j ≡ some u)). ⊎_elim
        (λ (y : (j ≡ id) × (both_views v w ≡ u)). subst (Left r.now r.contents) y.1 both-left)
        (λ (y : (j ≢ id) × (get_elem? s.views j ≡ some u)). r.changes j u y.1)
        (at_set s.views id j (both_views v w) u x.1))
        (at_set (set s.views id (both_views v w)) other j spent_view u e)

    -- the later of the two changes is the newest where either is
    newest-left : v.change.0 ≡ r.now → (later v.change w.change).0 ≡ r.now
    newest-left e = by_bool (ltb v.change.0 w.change.0) (λ b. (cond b w.change v.change).0 ≡ r.now)
        (λ t. absurd (let h = ltb-true v.change.0 w.change.0 t in let k = (r.changes other w was-other).0 in omega arith)) (λ _. e)

    newest-right : w.change.0 ≡ r.now → (later v.change w.change).0 ≡ r.now
    newest-right e = by_bool (ltb v.change.0 w.change.0) (λ b. (cond b w.change v.change).0 ≡ r.now)
        (λ _. e) (λ f. let h = ltb-false v.change.0 w.change.0 f in let k = (r.changes id v at).0 in omega arith)

    latest-joined : (j : ℕ) × (u : View C) × (get_elem? (set (set s.views id (both_views v w)) other spent_view) j ≡ some u) × (u.change.0 ≡ r.now)
    latest-joined = let l = r.latest in dite (ℕ_discrete l.0 id)
        (λ e. (id, both_views v w, both-view, newest-left (ap (λ (x : View C). x.change.0) (some-injective v l.1 (sym at ∙ ap (get_elem? s.views) (sym e) ∙ l.2)) ∙ l.3)))
        (λ n. dite (ℕ_discrete l.0 other)
        (λ e. (id, both_views v w, both-view, newest-right (ap (λ (x : View C). x.change.0) (some-injective w l.1 (sym was-other ∙ ap (get_elem? s.views) (sym e) ∙ l.2)) ∙ l.3)))
        (λ m. (l.0, l.1, third-view l.0 l.1 n m l.2, l.3)))

    pub joined-tied : Tied content holds caller_count joined
    joined-tied = record {
      owner = r.owner;
      seat_of = to-seat;
      contents = r.contents;
      notes = r.notes;
      now = r.now;
      words = r.words;
      turns = r.turns;
      small = r.small;
      callers = r.callers;
      tied = r.tied;
      each_turn = λ t h. turn-joined t (r.owner t) (r.each_turn t h);
      each_view = each-joined;
      each_caller = caller-joined;
      opened = r.opened;
      changes = changes-joined;
      latest = latest-joined;
    }

  pub merges : (id other : ℕ) (v w : View C) → ((t : ℕ) → counted v t ≡ None) → ((t : ℕ) → counted w t ≡ None) → w.caller_count ≡ v.caller_count → Joins (Tied content holds caller_count) id v other w (both_views v w) spent_view
  merges id other v w none-v none-w same s r at ne at' = joined-tied s r id other v w at ne at' none-v none-w same
