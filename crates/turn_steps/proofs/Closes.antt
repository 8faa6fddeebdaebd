-- A table at its end, where one pass speaks for all callers and holds no turn.
use Rattle.std.proofs.Common.{◌≡◌, ℕ, zero, suc, ◌<◌, List, length, map, sym, ap, ◌∙◌, arith}
use Rattle.std.specs.Prelude.{Option, Some, None, slice_get}
use Rattle.std.proofs.lemmas.List.{length-map}
use Rattle.std.proofs.lemmas.Option.{none-some, same_Some}
use mathlib.Core.Option.{some, some-injective}
use lib.ListN.{get_elem?}
use Rattle.atomic_table.specs.Table.{State}
use Rattle.turn_steps.specs.declared.view.View.{View}
use Rattle.turn_steps.specs.Tied.{Tied, TurnOk, Lying, counted}
use Rattle.turn_steps.specs.Closings.{SpeaksForAll}
use Rattle.turn_steps.proofs.Rows.{map-get, same-lists}

module _ {V C : Type 0} (content : V → C) (holds : List C → List C → Type 0) (caller_count : ℕ) (s : State (Option V) (View C)) (r : Tied content holds caller_count s) (id : ℕ) (v : View C) (at : get_elem? s.views id ≡ some v)
    (none' : (t : ℕ) → counted v t ≡ None) (all : SpeaksForAll v) where
  pub caller_count-is : v.caller_count ≡ caller_count
  caller_count-is = let h = all.1 0 all.0 in ((r.each_view id v at).spoken 0 0 h.0 h.1).0

  -- no turn is taken
  free : (t o : ℕ) → TurnOk content caller_count r.owner r.seat_of r.contents r.notes s t o → (c : C) × (slice_get r.contents t ≡ Some c) × Lying content s.homes t c
  free t zero b = b.1
  free t (suc k) b = absurd (
      let q = caller_count-is in let near : k < caller_count = b.1 in let h = all.1 k (omega arith) in
      let sits = ((r.each_view id v at).spoken k k h.0 h.1).2 in
      let same : b.2.0 ≡ v = some-injective b.2.0 v (sym b.2.2 ∙ ap (get_elem? s.views) sits ∙ at) in
      none-some b.2.1 (sym (none' t) ∙ ap (λ (x : View C). counted x t) (sym same) ∙ b.2.3))

  pub notes-are : (length r.notes ≡ v.caller_count) × ((k : ℕ) (c : C) → k < v.caller_count → get_elem? v.speaks k ≡ some (k, c) → slice_get r.notes k ≡ Some c)
  notes-are = (r.callers ∙ sym caller_count-is, λ k c near e. ((r.each_view id v at).spoken k k c e).3)

  module _ (xs : List (Option V)) (long : length s.homes ≡ length xs) (there' : (k : ℕ) (y : Option V) → get_elem? s.homes k ≡ some (some y) → get_elem? xs k ≡ some y) where
    pub lies-at : (t : ℕ) → t < length xs → (x : V) × (get_elem? xs t ≡ some (Some x)) × (slice_get r.contents t ≡ Some (content x))
    lies-at t h = let f = free t (r.owner t) (r.each_turn t (omega arith)) in (f.2.0, there' t (Some f.2.0) f.2.1, f.1 ∙ ap Some (sym f.2.2))

    pub final-contents : (ys : List V) → length ys ≡ length xs → ((t : ℕ) → t < length xs → (x : V) × (get_elem? xs t ≡ some (Some x)) × (slice_get ys t ≡ Some x)) → map content ys ≡ r.contents
    final-contents ys as-long got = same-lists (map content ys) r.contents (length-map ys content ∙ as-long ∙ sym long ∙ sym r.turns)
        (λ t h. let near : t < length xs = (let l = length-map ys content in omega arith) in let a = lies-at t near in let b = got t near in
        let same : b.0 ≡ a.0 = same_Some b.0 a.0 (some-injective (Some b.0) (Some a.0) (sym b.1 ∙ a.1)) in
        map-get content ys t b.0 b.2 ∙ ap (λ (x : V). Some (content x)) same ∙ sym a.2)
