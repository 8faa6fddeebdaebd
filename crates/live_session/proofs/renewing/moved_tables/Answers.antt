use Rattle.std.proofs.Common.{◌≡◌, ◌+◌, ◌++◌, ◌∷◌, [], ◌<◌, ℕ, List, get_or, length, map, take, sym, ap, subst, ◌∙◌, arith}
use Rattle.std.specs.List.{AllByRecursion}
use Rattle.session_values.specs.Opening.{IsPair, Pair, tables_of}
use Rattle.session_values.specs.Tables.{Container, Tables, kind_of}
use Rattle.shard_tables.specs.Slots.{factor_of}
use Rattle.shard_tables.specs.declared.part.Part.{Part}
use Rattle.live_session.specs.Held.{container_in, factors_in, held, lists_in}
use Rattle.live_session.specs.Moving.{moved_entries, place_in}
use Rattle.live_session.proofs.Filled.{factors_push, held_push, pairs_push, tables_push, take_push}
use Rattle.live_session.proofs.renewing.moved_tables.Goals as goal

pub loop-part-preserved : goal.loop-part-preserved
loop-part-preserved c =
    let g : List Pair → List Pair = moved_entries (place_in c.args.places.now) in
    let ps : List Part = c.args.tables.now.parts.items in
    let i = c.loop-part.part-index in
    let p : Part = c.part-item.result in
    let inv = c.loop-part.invariant in
    let seen : c.deref-part-items.result.now ≡ ps = c.deref-part-items.ensures.value in
    let low : i < length c.deref-part-items.result.now = omega arith in
    let next : take (i + 1) ps ≡ take i ps ++ p ∷ [] = take_push ps i p (omega (arith, low, ap (λ (qs : List Part). length qs) seen)) (subst (λ (qs : List Part). p ≡ get_or qs i p) seen c.part-item.is) in
    let first : Tables = tables_of (map kind_of (held (take i ps))) (map g (lists_in (take i ps))) in
    record {
      held = ap held c.push_reserved.ensures.items
          ∙ held_push c.loop-part.parts.items c.in_ok-part.part
          ∙ (λ j. inv.held j ++ c.in_ok-part.ensures.entered j ∷ [])
          ∙ sym (tables_push g (take i ps) p)
          ∙ ap (λ (qs : List Part). tables_of (map kind_of (held qs)) (map g (lists_in qs))) (sym next);
      pairs = subst (λ (qs : List Part). AllByRecursion (AllByRecursion IsPair) (map g (lists_in qs))) (sym next) (pairs_push g (take i ps) p inv.pairs c.in_ok-part.ensures.pairs);
      factors = subst (λ (qs : List Part). AllByRecursion (λ (n : ℕ). n ≡ factor_of c.args.seed) (factors_in qs)) (sym c.push_reserved.ensures.items) (factors_push (λ (n : ℕ). n ≡ factor_of c.args.seed) c.loop-part.parts.items c.in_ok-part.part inv.factors c.in_ok-part.ensures.factor);
      long = omega (arith, inv.long, c.push_reserved.ensures.len);
      room = omega (arith, inv.room, c.push_reserved.ensures.capacity);
    }
