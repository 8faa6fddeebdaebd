use Rattle.std.proofs.Common.{◌≡◌, ◌<◌, ◌+◌, ◌∷◌, [], ℕ, Bool, List, length, length-append, take, Some, slice_get, true, false, ap, arith, sym, subst, ◌∙◌, ◌⊎◌, inl, inr}
use Rattle.text_lines.specs.Text.{Text}
use Rattle.live_session.specs.Moving.{flag, kept, place_in, set_before}
use Rattle.live_session.proofs.Kept.{kept_long, kept_nil, kept_same, none_kept, placed_kept, place_pushed, set_few}
use Rattle.live_session.proofs.renewing.kept_names.Goals.{then-flags-place+in_ok-place, else-flags-place}
use Rattle.live_session.proofs.renewing.kept_names.Goals as goal

pub loop-place-init : goal.loop-place-init
loop-place-init c = record {
  names = c.with_seed-new.ensures ∙ sym (kept_nil c.args.flags.now);
  places = λ i l. absurd (omega (arith, l));
  many = ap (λ (ns : List ℕ). length ns) c.in_ok-places.ensures.items;
  long = c.in_ok-places.ensures.len;
  room = omega (arith, c.in_ok-places.ensures.capacity, c.len.ensures.len);
}

pub place-requires : goal.place-requires
place-requires c =
    let i = c.loop-place.place in
    let below : i < length c.args.names.now = omega (arith, c.loop-place-test.true, c.len-place-end.ensures.len) in
    let long = ap (λ (ns : List Text). length ns) c.loop-place.invariant.names ∙ kept_long c.args.flags.now c.args.names.now i (omega (arith, below)) in
    omega (arith, long, set_few i c.args.flags.now, c.loop-place-test.true, c.len-place-end.type_inv)

pub loop-place-preserved : goal.loop-place-preserved
loop-place-preserved c =
    let fs : List Bool = c.args.flags.now in
    let ns : List Text = c.args.names.now in
    let i = c.loop-place.place in
    let inv = c.loop-place.invariant in
    let below : i < length ns = omega (arith, c.loop-place-test.true, c.len-place-end.ensures.len) in
    let long = ap (λ (l : List Text). length l) inv.names ∙ kept_long fs ns i (omega (arith, below)) in
    record {
      names = elim c.if-flags-place.branch [
        | then-flags-place+in_ok-place w ↦ w.new-is ∙ w.in_ok-place.ensures.list ∙ placed_kept fs ns i w.text.result.now c.loop-place.new inv.names c.len-place-end.ensures.distinct w.if-flags-place.true w.text.ensures
        | else-flags-place w ↦ w.new-is ∙ inv.names ∙ sym (kept_same fs ns i w.if-flags-place.false (omega (arith, below, c.requires)))
      ];
      places = place_pushed fs i c.loop-place.places.items c.push_reserved.new.self.items _ c.push_reserved.ensures.items inv.places inv.many (c.len-in-loop-place.ensures.len ∙ long);
      many = (let l = length-append c.loop-place.places.items (c.len-in-loop-place.result ∷ []) in omega (arith, ap (λ (ns : List ℕ). length ns) c.push_reserved.ensures.items, l, inv.many));
      long = omega (arith, inv.long, c.push_reserved.ensures.len);
      room = omega (arith, inv.room, c.push_reserved.ensures.capacity);
    }
