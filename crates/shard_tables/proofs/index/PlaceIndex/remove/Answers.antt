use Rattle.std.proofs.Common.{◌≡◌, ◌<◌, ◌-◌, ℕ, Some, length, map, position, get_or, sym, ap, ◌∙◌, subst, arith}
use Rattle.std.specs.List.{swap_remove}
use Rattle.session_values.specs.declared.value.Value.TheVariants.{Nil}
use Rattle.shard_tables.specs.Keys.{is_under}
use Rattle.shard_tables.specs.Slots.{IndexView, IsIndex, IsIndexOf, IsIndexBut, place_in}
use Rattle.shard_tables.proofs.Lists.{index_parted}
use Rattle.shard_tables.proofs.Places.{place_within}
use Rattle.shard_tables.proofs.index.PlaceIndex.remove.Goals as goal

pub free-requires-clause-index : goal.free-requires-clause-index
free-requires-clause-index g c =
    let key_of = g.T.Keyed.key_of in
    let items = c.args.items.now in
    let table = c.self.inside.table in
    let place = c.in_ok-place.place in
    let P : IndexView → Type 0 = λ v. IsIndexOf (map key_of items) v in
    let index : IsIndex table.factor table.bits (map key_of items) table.slots.items = subst P (sym c.self.view_is) c.requires.index in
    let z = c.index-items-items.result in
    let here : Some place ≡ place_in (get_or table.slots.items c.seek-slot.result 0) = sym c.in_ok-place.was ∙ c.place.ensures in
    let within : place < length items = (place_within (is_under key_of c.args.key) items place z (here ∙ c.seek-slot.ensures.place)).0 in
    let F : ℕ → Type 0 = λ f. IsIndexBut f c.rename.new.self.bits (swap_remove (map key_of items) place Nil) c.rename.new.self.slots.items c.seek-slot.result in
    let Q : ℕ → Type 0 = λ b. IsIndexBut table.factor b (swap_remove (map key_of items) place Nil) c.rename.new.self.slots.items c.seek-slot.result in
    subst F (sym c.rename.ensures.factor)
    (subst Q (sym c.rename.ensures.bits)
    (index_parted key_of table.factor table.bits items table.slots.items c.rename.new.self.slots.items c.seek-slot.result c.seek-last.result place (length items - 1) z
    c.requires.different index within (omega (arith, within)) c.index-items-items.is here
    (c.seek-last.ensures.place ∙ ap (λ k. position (is_under key_of k) items) c.key.ensures) c.rename.ensures.index))
