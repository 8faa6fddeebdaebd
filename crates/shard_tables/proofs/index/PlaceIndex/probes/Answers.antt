use Rattle.std.proofs.Common.{◌≡◌, ◌<◌, ◌≤◌, ◌^◌, ℕ, ◌+◌, length, map, position, get_or, sym, ap, ◌∙◌, subst, arith}
use Rattle.std.proofs.Math.Nat.{pow-le-pow_right}
use Rattle.std.proofs.lemmas.List.{length-map}
use Rattle.shard_tables.specs.Keys.{is_under}
use Rattle.shard_tables.specs.Slots.{IndexView, IsIndex, IsIndexOf, IsSearch, start_by, distance, place_in}
use Rattle.shard_tables.proofs.Changes.{few_passed}
use Rattle.shard_tables.proofs.Distances.{same_distance, distance-lt}
use Rattle.shard_tables.proofs.index.PlaceIndex.probes.Goals as goal

pub overflow_cast-result : goal.overflow_cast-result
overflow_cast-result g c =
    let bits = c.self.inside.table.bits in
    let within : c.start-start.result < 2 ^ bits = c.start-start.ensures.within in
    let far = distance-lt (2 ^ bits) c.start-start.result c.seek.result within c.seek.ensures.within in
    let big : 2 ^ bits ≤ 2 ^ 31 = pow-le-pow_right {n = 2} (omega arith) {i = bits} {j = 31} c.self.inside.table.few in
    record { fits = omega (arith, far, big, c.distance.ensures) }

pub overflow_add-result : goal.overflow_add-result
overflow_add-result g c =
    let bits = c.self.inside.table.bits in
    let within : c.start-start.result < 2 ^ bits = c.start-start.ensures.within in
    let far = distance-lt (2 ^ bits) c.start-start.result c.seek.result within c.seek.ensures.within in
    let big : 2 ^ bits ≤ 2 ^ 31 = pow-le-pow_right {n = 2} (omega arith) {i = bits} {j = 31} c.self.inside.table.few in
    record { fits = omega (arith, far, big, c.distance.ensures) }

pub returns-clause-few : goal.returns-clause-few
returns-clause-few g c =
    let items = c.args.items.now in
    let table = c.self.inside.table in
    let P : IndexView → Type 0 = λ v. IsIndexOf (map g.T.Keyed.key_of items) v in
    let index : IsIndex table.factor table.bits (map g.T.Keyed.key_of items) table.slots.items = subst P (sym c.self.view_is) c.requires.index in
    let starts : c.start-start.result ≡ start_by table.factor c.args.key table.bits = c.start-start.ensures.slot in
    let passed = few_passed (2 ^ table.bits) (length (map g.T.Keyed.key_of items)) table.slots.items (start_by table.factor c.args.key table.bits) c.seek.result index.places
    (omega (arith, starts, c.start-start.ensures.within)) c.seek.ensures.within c.seek.ensures.path in
    omega (arith, passed, c.distance.ensures, ap (λ (h : ℕ). distance (2 ^ table.bits) h c.seek.result) starts, length-map items g.T.Keyed.key_of)

pub returns-clause-search : goal.returns-clause-search
returns-clause-search g c =
    let items = c.args.items.now in
    let table = c.self.inside.table in
    let m = 2 ^ table.bits in
    let h = start_by table.factor c.args.key table.bits in
    let starts : c.start-start.result ≡ h = c.start-start.ensures.slot in
    let h_in : h < m = omega (arith, starts, c.start-start.ensures.within) in
    let far : c.distance.result ≡ distance m h c.seek.result = c.distance.ensures ∙ ap (λ (s : ℕ). distance m s c.seek.result) starts in
    let P : IndexView → Type 0 = λ v. IsSearch v c.args.key (position (is_under g.T.Keyed.key_of c.args.key) items) (c.distance.result + 1) in
    subst P c.self.view_is (record {
      path = λ s l b. c.seek.ensures.path s l (omega (arith, b, far));
      end = λ s l e.
          let same : c.seek.result ≡ s = same_distance m h c.seek.result s h_in c.seek.ensures.within l (omega (arith, e, far)) in
          ap (λ (t : ℕ). place_in (get_or table.slots.items t 0)) (sym same) ∙ c.seek.ensures.place;
    })
