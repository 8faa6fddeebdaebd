use Rattle.std.proofs.Common.{arith, refl, sym, ap, ◌∙◌, ◌≡◌, ◌≤◌, ℕ, [], ◌∷◌, List, zero, suc, Bool, false, set, get_or, get_or-set_other}
use Rattle.std.specs.Prelude.{slice_get}
use Rattle.std.proofs.lemmas.Option.{none-some}
use mathlib.Core.Option.{some, some-injective}
use mathlib.Core.Logic.{dite}
use native.Mathlib.Decide.{ℕ_discrete}
use lib.ListN.{get_elem?}
use Rattle.std.specs.Mem.Slots.{slots_items, slots_filled, slots_len}
use Rattle.turn_steps.proofs.Rows.{get-last, get-longer}
use Rattle.turn_steps.proofs.close.empty_out.Goals as goal

pub unreachable-requires : goal.unreachable-requires
unreachable-requires g c =
    let inv = c.loop-turn.invariant in
    let has = c.requires.slots.1 c.loop-turn.turn (let a = c.loop-turn-test.true in let b = inv.count in let d = c.requires.slots.2 in let e = c.slot_count.ensures in omega arith) in
    none-some has.0 (sym c.in-None.is ∙ some-injective _ _ (sym c.take.ensures.value ∙ ap (λ l. get_elem? l c.loop-turn.turn) inv.items ∙ has.1))

gone-here : (l : List Bool) (i : ℕ) → get_or (set l i false) i false ≡ false
gone-here [] i = refl
gone-here (x ∷ xs) zero = refl
gone-here (x ∷ xs) (suc i) = gone-here xs i

pub loop-turn-preserved : goal.loop-turn-preserved
loop-turn-preserved g c =
    let inv = c.loop-turn.invariant in
    let o = c.take.ensures.others in
    let t : ℕ = c.loop-turn.turn in
    let count = inv.count in
    let len = inv.len in
    let long = c.loop-turn.kept.ok.0 in
    record {
      full = λ k h near. ap (λ l. get_or l k false) o.1 ∙ get_or-set_other (slots_filled c.loop-turn.closed.slots) t k false false (λ e. omega arith) ∙ inv.full k (omega arith) (let q = o.2 in omega arith);
      gone = λ k h. dite (ℕ_discrete k t)
          (λ e. ap (λ l. get_or l k false) o.1 ∙ ap (get_or (set (slots_filled c.loop-turn.closed.slots) t false) k) refl ∙ ap (λ j. get_or (set (slots_filled c.loop-turn.closed.slots) t false) j false) e ∙ gone-here (slots_filled c.loop-turn.closed.slots) t)
          (λ ne. ap (λ l. get_or l k false) o.1 ∙ get_or-set_other (slots_filled c.loop-turn.closed.slots) t k false false ne ∙ inv.gone k (omega arith));
      items = o.0 ∙ inv.items;
      count = o.2 ∙ inv.count;
      near = (let a = c.loop-turn-test.true in let b = c.slot_count.ensures in let q = o.2 in omega arith);
      len = c.push_reserved.ensures.len ∙ (omega arith);
      room = c.push_reserved.ensures.capacity ∙ inv.room;
      values = λ k h. dite (ℕ_discrete k t)
          (λ e. (
            c.in-Some.value,
            ap (get_elem? (slots_items c.args.closed.now.slots)) e ∙ ap (λ l. get_elem? l t) (sym inv.items) ∙ c.take.ensures.value ∙ ap some c.in-Some.is,
            ap (λ l. slice_get l k) c.push_reserved.ensures.items ∙ get-last c.loop-turn.kept.items c.in-Some.value k (omega arith),
          ))
          (λ ne. let old = inv.values k (omega arith) in (old.0, old.1, ap (λ l. slice_get l k) c.push_reserved.ensures.items ∙ get-longer c.loop-turn.kept.items (c.in-Some.value ∷ []) k old.0 old.2));
    }

pub returns-clause-values : goal.returns-clause-values
returns-clause-values g c =
    let inv = c.loop-turn.invariant in
    let count = inv.count in
    let near = inv.near in
    let done : slots_len c.loop-turn.closed.slots ≤ c.loop-turn.turn = (let a = c.loop-turn-test.false in let b = c.slot_count.ensures in omega arith) in
    ((let l = inv.len in omega arith), λ t h. inv.values t (omega arith))
