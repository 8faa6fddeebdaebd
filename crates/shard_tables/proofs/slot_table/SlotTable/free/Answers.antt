use Rattle.std.proofs.Common.{◌≡◌, ◌<◌, ◌≤◌, ◌+◌, ◌-◌, ◌^◌, ℕ, length, map, get_or, refl, sym, ap, ◌∙◌, subst, arith}
use Rattle.session_values.specs.declared.value.Value.{Value}
use Rattle.session_values.specs.declared.value.Value.TheVariants.{Nil}
use Rattle.std.proofs.Math.ListN.{set}
use Rattle.std.specs.List.{swap_remove}
use Rattle.std.proofs.lemmas.List.{length-map, get_or_read}
use Rattle.shard_tables.specs.declared.slot_table.SlotTable.{SlotTable}
use Rattle.shard_tables.specs.Slots.{start_by, distance, after, start_in, IsIndex}
use Rattle.shard_tables.proofs.Distances.{distance-after}
use Rattle.shard_tables.proofs.Freeing.{IsFreeing, same_freeing, began, more, next_few, kept, moved, ended, hole_in}
use Rattle.shard_tables.proofs.Entries.{changed_swap, out_length}
use Rattle.shard_tables.proofs.slot_table.SlotTable.free.Goals as goal
use Rattle.shard_tables.proofs.slot_table.SlotTable.free.Goals.{then-distance, else-distance}

pub loop-held-init : goal.loop-held-init
loop-held-init g c =
    let factor = c.args.self.now.factor in
    let bits = c.args.self.now.bits in
    let all = map g.T.Keyed.key_of c.args.items.now in
    let keys = swap_remove all c.args.place Nil in
    let less = out_length all c.args.place (omega (arith, c.requires.place, length-map c.args.items.now g.T.Keyed.key_of)) in
    let P : ℕ → Type 0 = λ n. IsFreeing factor bits keys c.args.slot c.args.self.now.slots.items c.args.slot n in
    record {
      bits = refl;
      factor = refl;
      freeing = subst P (sym c.after-next.ensures.next) (began factor bits keys c.args.self.now.slots.items c.args.slot c.requires.index (omega (arith, c.requires.room, less, length-map c.args.items.now g.T.Keyed.key_of)));
    }

pub loop-held-smaller : goal.loop-held-smaller
loop-held-smaller g c =
    let factor = c.args.self.now.factor in
    let bits = c.loop-held.self.bits in
    let xs = c.loop-held.self.slots.items in
    let all = map g.T.Keyed.key_of c.args.items.now in
    let keys = swap_remove all c.args.place Nil in
    let less = out_length all c.args.place (omega (arith, c.requires.place, length-map c.args.items.now g.T.Keyed.key_of)) in
    let inv = c.loop-held.invariant in
    let room : length keys + 1 < 2 ^ bits = omega (arith, c.requires.room, less, length-map c.args.items.now g.T.Keyed.key_of, ap (λ (b : ℕ). 2 ^ b) inv.bits) in
    let from_in : c.args.slot < 2 ^ bits = omega (arith, hole_in factor c.args.self.now.bits keys c.args.self.now.slots.items c.args.slot c.requires.index, ap (λ (b : ℕ). 2 ^ b) inv.bits) in
    let held : c.index-held.result.now ≡ get_or xs c.loop-held.next 0 = get_or_read xs c.loop-held.next c.index-held.result.now (omega (arith, inv.freeing.next_in, inv.freeing.but.places.long)) c.index-held.ensures 0 in
    let on = more factor bits keys c.args.slot xs c.loop-held.hole c.loop-held.next (omega arith) room from_in inv.freeing (omega (arith, held, c.if-held-eq0.false)) in
    let same : c.if-distance.self.bits ≡ bits = elim c.if-distance.branch [
      | then-distance w ↦ ap (λ (s : SlotTable). s.bits) w.self-is
      | else-distance w ↦ ap (λ (s : SlotTable). s.bits) w.self-is
    ] in
    let step : distance (2 ^ c.if-distance.self.bits) c.args.slot c.after-next-in-loop-held.result ≡ distance (2 ^ bits) c.args.slot c.loop-held.next + 1 =
    ap (λ (n : ℕ). distance (2 ^ c.if-distance.self.bits) c.args.slot n) c.after-next-in-loop-held.ensures.next
    ∙ ap (λ (b : ℕ). distance (2 ^ b) c.args.slot (after (2 ^ b) c.loop-held.next)) same
    ∙ distance-after (2 ^ bits) c.args.slot c.loop-held.next from_in inv.freeing.next_in on in
    omega (arith, step, on, ap (λ (b : ℕ). 2 ^ b) same)

pub loop-held-preserved : goal.loop-held-preserved
loop-held-preserved g c =
    let factor = c.args.self.now.factor in
    let bits = c.loop-held.self.bits in
    let xs = c.loop-held.self.slots.items in
    let all = map g.T.Keyed.key_of c.args.items.now in
    let keys = swap_remove all c.args.place Nil in
    let less = out_length all c.args.place (omega (arith, c.requires.place, length-map c.args.items.now g.T.Keyed.key_of)) in
    let inv = c.loop-held.invariant in
    let hole = c.loop-held.hole in
    let next = c.loop-held.next in
    let small : bits ≤ 64 = omega (arith, c.loop-held.self.few) in
    let room : length keys + 1 < 2 ^ bits = omega (arith, c.requires.room, less, length-map c.args.items.now g.T.Keyed.key_of, ap (λ (b : ℕ). 2 ^ b) inv.bits) in
    let from_in : c.args.slot < 2 ^ bits = omega (arith, hole_in factor c.args.self.now.bits keys c.args.self.now.slots.items c.args.slot c.requires.index, ap (λ (b : ℕ). 2 ^ b) inv.bits) in
    let held : c.index-held.result.now ≡ get_or xs next 0 = get_or_read xs next c.index-held.result.now (omega (arith, inv.freeing.next_in, inv.freeing.but.places.long)) c.index-held.ensures 0 in
    let taken : 0 < get_or xs next 0 = omega (arith, held, c.if-held-eq0.false) in
    let few = next_few factor bits keys c.args.slot xs hole next small room from_in inv.freeing in
    let place : c.index-held.result.now - 1 ≡ get_or xs next 0 - 1 = omega (arith, held) in
    let starts : c.start-start.result ≡ start_in factor bits keys (get_or xs next 0) =
    c.start-start.ensures.slot ∙ ap (λ (f : ℕ). start_by f c.key_after.result bits) inv.factor ∙ ap (λ (k : Value). start_by factor k bits) (c.key_after.ensures ∙ ap (λ (p : ℕ). get_or keys p Nil) place) in
    let back : c.distance-in-loop-held.result ≡ distance (2 ^ bits) (start_in factor bits keys (get_or xs next 0)) next = c.distance-in-loop-held.ensures ∙ ap (λ (h : ℕ). distance (2 ^ bits) h next) starts in
    elim c.if-distance.branch [
      | then-distance w ↦
          let same : c.if-distance.self.bits ≡ bits = ap (λ (s : SlotTable). s.bits) w.self-is in
          let ch = changed_swap xs w.swap.new.self.items hole next (omega (arith, hole_in factor bits keys xs hole inv.freeing.but, inv.freeing.but.places.long)) (omega (arith, inv.freeing.next_in, inv.freeing.but.places.long)) w.swap.ensures.items in
          record {
            bits = same ∙ inv.bits;
            factor = ap (λ (s : SlotTable). s.factor) w.self-is ∙ inv.factor;
            freeing = same_freeing factor bits c.if-distance.self.bits keys c.args.slot w.swap.new.self.items c.if-distance.self.slots.items next c.if-distance.hole (after (2 ^ bits) next) c.after-next-in-loop-held.result
                same (ap (λ (s : SlotTable). s.slots.items) w.self-is) w.hole-is (c.after-next-in-loop-held.ensures.next ∙ ap (λ (b : ℕ). after (2 ^ b) next) same)
                (moved factor bits keys c.args.slot xs hole next small room from_in inv.freeing w.swap.new.self.items taken (omega (arith, w.if-distance.true, back, c.distance.ensures)) ch);
          }
      | else-distance w ↦
          let same : c.if-distance.self.bits ≡ bits = ap (λ (s : SlotTable). s.bits) w.self-is in
          record {
            bits = same ∙ inv.bits;
            factor = ap (λ (s : SlotTable). s.factor) w.self-is ∙ inv.factor;
            freeing = same_freeing factor bits c.if-distance.self.bits keys c.args.slot xs c.if-distance.self.slots.items hole c.if-distance.hole (after (2 ^ bits) next) c.after-next-in-loop-held.result
                same (ap (λ (s : SlotTable). s.slots.items) w.self-is) w.hole-is (c.after-next-in-loop-held.ensures.next ∙ ap (λ (b : ℕ). after (2 ^ b) next) same)
                (kept factor bits keys c.args.slot xs hole next small room from_in inv.freeing taken (omega (arith, w.if-distance.false, back, c.distance.ensures)));
          }
    ]

pub returns-clause-index : goal.returns-clause-index
returns-clause-index g c =
    let factor = c.args.self.now.factor in
    let bits = c.loop-held.self.bits in
    let xs = c.loop-held.self.slots.items in
    let all = map g.T.Keyed.key_of c.args.items.now in
    let keys = swap_remove all c.args.place Nil in
    let less = out_length all c.args.place (omega (arith, c.requires.place, length-map c.args.items.now g.T.Keyed.key_of)) in
    let inv = c.loop-held.invariant in
    let room : length keys + 1 < 2 ^ bits = omega (arith, c.requires.room, less, length-map c.args.items.now g.T.Keyed.key_of, ap (λ (b : ℕ). 2 ^ b) inv.bits) in
    let from_in : c.args.slot < 2 ^ bits = omega (arith, hole_in factor c.args.self.now.bits keys c.args.self.now.slots.items c.args.slot c.requires.index, ap (λ (b : ℕ). 2 ^ b) inv.bits) in
    let held : c.index-held.result.now ≡ get_or xs c.loop-held.next 0 = get_or_read xs c.loop-held.next c.index-held.result.now (omega (arith, inv.freeing.next_in, inv.freeing.but.places.long)) c.index-held.ensures 0 in
    let P : ℕ → Type 0 = λ b. IsIndex factor b keys (set xs c.loop-held.hole 0) in
    subst P inv.bits (ended factor bits keys c.args.slot xs c.loop-held.hole c.loop-held.next (omega (arith, c.loop-held.self.few)) room from_in inv.freeing (omega (arith, held, c.if-held-eq0.true)))
