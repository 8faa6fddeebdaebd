-- A table over all values meets the rule, and its first view has all callers.
use Rattle.std.proofs.Common.{◌≡◌, ℕ, zero, suc, ◌+◌, ◌<◌, ◌≤◌, List, [], ◌∷◌, length, get_or, map, replicate, refl, sym, ap, ◌∙◌, subst, arith}
use Rattle.std.specs.Prelude.{Option, Some, None, slice_get}
use Rattle.std.proofs.lemmas.List.{length-map, length-replicate}
use Rattle.std.proofs.lemmas.Option.{none-some, same_Some}
use Rattle.std.proofs.lemmas.Nat.Bits.{bit_at-zero}
use mathlib.Core.Option.{some, some-injective, some-ne-none}
use lib.ListN.{get_elem?}
use Rattle.atomic_table.specs.Table.{State, opening}
use Rattle.turn_steps.specs.declared.view.View.{View}
use Rattle.turn_steps.specs.Tied.{Tied, ViewOk, Left, first_view, all_speak}
use Rattle.turn_steps.proofs.CallerCounts.{none-at}

same-note : {C : Type 0} (n k : ℕ) (c : C) → k < n → slice_get (replicate n c) k ≡ Some c
same-note zero k c h = absurd (omega arith)
same-note (suc n) zero c h = refl
same-note (suc n) (suc k) c h = same-note n k c (omega arith)

spoken-in : {C : Type 0} (note : C) (n from i k : ℕ) (c : C) → get_elem? (all_speak from n note) i ≡ some (k, c) → (k < from + n) × (note ≡ c)
spoken-in note zero from i k c e = absurd (some-ne-none {A = ℕ × _} (k, c) (sym e))
spoken-in note (suc n) from zero k c e = let p = some-injective {A = ℕ × _} (from, note) (k, c) e in let h : from ≡ k = ap (λ x. x.0) p in (omega arith, ap (λ x. x.1) p)
spoken-in note (suc n) from (suc i) k c e = let h = spoken-in note n (suc from) i k c e in let b : k < suc from + n = h.0 in (omega arith, h.1)

speaks-at : {C : Type 0} (note : C) (n from k : ℕ) → k < n → get_elem? (all_speak from n note) k ≡ some (from + k, note)
speaks-at note zero from k h = absurd (omega arith)
speaks-at note (suc n) from zero h = ap (λ (m : ℕ). some (m, note)) (omega arith)
speaks-at note (suc n) from (suc k) h = speaks-at note n (suc from) k (omega arith) ∙ ap (λ (m : ℕ). some (m, note)) (omega arith)

module _ {V C : Type 0} (content : V → C) where
  lies-in : (values : List V) (t : ℕ) → t < length values → (c : C) × (slice_get (map content values) t ≡ Some c) × ((x : V) × (get_elem? (map some (map Some values)) t ≡ some (some (Some x))) × (content x ≡ c))
  lies-in [] t h = absurd (omega arith)
  lies-in (v ∷ vs) zero h = (content v, refl, (v, refl, refl))
  lies-in (v ∷ vs) (suc t) h = lies-in vs t (omega arith)

  module _ (holds : List C → List C → Type 0) (values : List V) (caller_count : ℕ) (note : C) where
    abbrev start : State (Option V) (View C)
    start = opening (replicate 15 0) (map Some values) (first_view (length values) caller_count note (map content values))

    abbrev Ok : ℕ → View C → Type 0
    Ok = ViewOk content caller_count (λ _. 0) (λ _. 0) (map content values) (replicate caller_count note) start

    first-ok : Ok 0 (first_view (length values) caller_count note (map content values))
    first-ok = record {
      spoken = λ i k c e. let h = spoken-in note caller_count 0 i k c e in let near : k < caller_count = (let b : k < 0 + caller_count = h.0 in omega arith) in (refl, near, refl, same-note caller_count k note near ∙ ap Some h.1);
      held = λ t c e. absurd (none-some c (sym (none-at t (length values) None) ∙ e));
    }

    each-ok : (j : ℕ) (v : View C) → get_elem? (first_view (length values) caller_count note (map content values) ∷ []) j ≡ some v → Ok j v
    each-ok zero v e = subst (Ok 0) (some-injective (first_view (length values) caller_count note (map content values)) v e) first-ok
    each-ok (suc j) v e = absurd (some-ne-none v (sym e))

    each-left : (j : ℕ) (v : View C) → get_elem? (first_view (length values) caller_count note (map content values) ∷ []) j ≡ some v → Left 1 (map content values) v
    each-left zero v e = subst (Left 1 (map content values)) (some-injective (first_view (length values) caller_count note (map content values)) v e) (omega arith, λ _. refl)
    each-left (suc j) v e = absurd (some-ne-none v (sym e))

    homes-long : length (map some (map Some values)) ≡ length values
    homes-long = length-map (map Some values) some ∙ length-map values Some

    pub opened : length values ≤ 57 → holds (map content values) (replicate caller_count note) → Tied content holds caller_count start
    opened few ok = record {
      owner = λ _. 0;
      seat_of = λ _. 0;
      contents = map content values;
      notes = replicate caller_count note;
      now = 1;
      words = refl;
      turns = length-map values content ∙ sym homes-long;
      small = (let h = homes-long in omega arith);
      callers = length-replicate caller_count note;
      tied = ok;
      each_turn = λ t h. (bit_at-zero t, lies-in values t (let q = homes-long in omega arith));
      each_view = each-ok;
      each_caller = λ k h. (first_view (length values) caller_count note (map content values), k, note, refl, speaks-at note caller_count 0 k h ∙ ap (λ (m : ℕ). some (m, note)) (let g : 0 + k ≡ k = omega arith in g));
      opened = omega arith;
      changes = each-left;
      latest = (0, first_view (length values) caller_count note (map content values), refl, refl);
    }

pub first-content : {V C : Type 0} (content : V → C) (values : List V) (x : V) (b : C) → x ≡ get_or values 0 x → slice_get (map content values) 0 ≡ Some b → content x ≡ b
first-content content [] x b e f = absurd (none-some b f)
first-content content (v ∷ vs) x b e f = ap content e ∙ same_Some (content v) b f
