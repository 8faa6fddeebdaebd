use Rattle.std.proofs.Common.{◌≡◌, ◌<◌, ◌+◌, ◌-◌, ◌^◌, ℕ, inl, inr, false, length, map, get_or, sym, ap, ◌∙◌, subst, arith}
use Rattle.session_values.specs.declared.value.Value.TheVariants.{Nil}
use Rattle.session_values.specs.Values.{value_eq}
use Rattle.std.proofs.lemmas.Bool.{cases_lt}
use Rattle.std.proofs.lemmas.List.{length-map, get_or-map, get_or_read}
use Rattle.shard_tables.specs.Slots.{start_by, distance}
use Rattle.shard_tables.proofs.Distances.{distance-self, distance-after, same_distance}
use Rattle.shard_tables.proofs.Masks.{start-lt}
use Rattle.shard_tables.proofs.Changes.{goes_on}
use Rattle.shard_tables.proofs.Searches.{met, holds_none, holds_place}
use Rattle.shard_tables.proofs.Positions.{no_position, at_position}
use Rattle.shard_tables.proofs.slot_table.SlotTable.seek.Goals as goal
use Rattle.shard_tables.proofs.slot_table.SlotTable.seek.Goals.{then-held-eq0-via-then-held-eq0, then-held-eq0-via-else-held-eq0+then-is_same}

pub loop-key-init : goal.loop-key-init
loop-key-init g c =
    let factor = c.args.self.now.factor in
    let bits = c.args.self.now.bits in
    let h = start_by factor c.args.key bits in
    record {
      within = c.start-slot.ensures.within;
      passed = λ u l b. absurd (omega (arith, b, ap (distance (2 ^ bits) h) c.start-slot.ensures.slot, distance-self (2 ^ bits) h));
    }

pub returns-then-held-eq0-clause-place : goal.returns-then-held-eq0-clause-place
returns-then-held-eq0-clause-place g c =
    let factor = c.args.self.now.factor in
    let bits = c.args.self.now.bits in
    let xs = c.args.self.now.slots.items in
    let slot = c.loop-key.slot in
    let inv = c.loop-key.invariant in
    let keys = map g.T.Keyed.key_of c.args.items.now in
    let held : c.index-held.result.now ≡ get_or xs slot 0 = get_or_read xs slot c.index-held.result.now (omega (arith, inv.within, c.requires.index.places.long)) c.index-held.ensures 0 in
    elim c.then-held-eq0.branch [
      | then-held-eq0-via-then-held-eq0 w ↦
          let free : get_or xs slot 0 ≡ 0 = sym held ∙ w.if-held-eq0.true in
          holds_none (get_or xs slot 0) free
          ∙ sym (no_position g.T.Keyed.key_of c.args.items.now c.args.key (λ p l. met factor bits keys xs c.args.key slot p (omega (arith, c.args.self.now.few)) c.requires.index inv.within free (λ u v b. (inv.passed u v b).1) l))
      | then-held-eq0-via-else-held-eq0+then-is_same w ↦
          let taken : 0 < get_or xs slot 0 = omega (arith, held, w.if-held-eq0.false) in
          let within : get_or xs slot 0 - 1 < length c.args.items.now = omega (arith, taken, c.requires.index.places.few slot, length-map c.args.items.now g.T.Keyed.key_of) in
          let place : c.index-held.result.now - 1 ≡ get_or xs slot 0 - 1 = omega (arith, held) in
          let item = w.index-items-held.result in
          let read : item ≡ get_or c.args.items.now (get_or xs slot 0 - 1) item = w.index-items-held.is ∙ ap (λ (p : ℕ). get_or c.args.items.now p item) place in
          let is : w.key.result ≡ get_or keys (get_or xs slot 0 - 1) Nil = w.key.ensures ∙ ap g.T.Keyed.key_of read ∙ sym (get_or-map g.T.Keyed.key_of c.args.items.now (get_or xs slot 0 - 1) item Nil within) in
          holds_place (get_or xs slot 0) taken
          ∙ sym (at_position g.T.Keyed.key_of c.args.items.now c.args.key (get_or xs slot 0 - 1) c.requires.different within (ap (value_eq c.args.key) (sym is) ∙ sym w.is_same.ensures ∙ w.if-is_same.true))
    ]

pub loop-key-smaller : goal.loop-key-smaller
loop-key-smaller g c =
    let factor = c.args.self.now.factor in
    let bits = c.args.self.now.bits in
    let xs = c.args.self.now.slots.items in
    let slot = c.loop-key.slot in
    let inv = c.loop-key.invariant in
    let h = start_by factor c.args.key bits in
    let h_in : h < 2 ^ bits = start-lt factor c.args.key bits (omega (arith, c.args.self.now.few)) in
    let held : c.index-held.result.now ≡ get_or xs slot 0 = get_or_read xs slot c.index-held.result.now (omega (arith, inv.within, c.requires.index.places.long)) c.index-held.ensures 0 in
    let on = goes_on (2 ^ bits) (length (map g.T.Keyed.key_of c.args.items.now)) xs h slot c.requires.index.places (omega (arith, c.requires.room, length-map c.args.items.now g.T.Keyed.key_of)) h_in inv.within (λ u l b. (inv.passed u l b).0) (omega (arith, held, c.if-held-eq0.false)) in
    let step : distance (2 ^ bits) h c.after-slot.result ≡ distance (2 ^ bits) h slot + 1 = ap (distance (2 ^ bits) h) c.after-slot.ensures.next ∙ distance-after (2 ^ bits) h slot h_in inv.within on in
    omega (arith, step, on)

pub loop-key-preserved : goal.loop-key-preserved
loop-key-preserved g c =
    let factor = c.args.self.now.factor in
    let bits = c.args.self.now.bits in
    let xs = c.args.self.now.slots.items in
    let slot = c.loop-key.slot in
    let inv = c.loop-key.invariant in
    let keys = map g.T.Keyed.key_of c.args.items.now in
    let h = start_by factor c.args.key bits in
    let h_in : h < 2 ^ bits = start-lt factor c.args.key bits (omega (arith, c.args.self.now.few)) in
    let held : c.index-held.result.now ≡ get_or xs slot 0 = get_or_read xs slot c.index-held.result.now (omega (arith, inv.within, c.requires.index.places.long)) c.index-held.ensures 0 in
    let taken : 0 < get_or xs slot 0 = omega (arith, held, c.if-held-eq0.false) in
    let on = goes_on (2 ^ bits) (length keys) xs h slot c.requires.index.places (omega (arith, c.requires.room, length-map c.args.items.now g.T.Keyed.key_of)) h_in inv.within (λ u l b. (inv.passed u l b).0) taken in
    let step : distance (2 ^ bits) h c.after-slot.result ≡ distance (2 ^ bits) h slot + 1 = ap (distance (2 ^ bits) h) c.after-slot.ensures.next ∙ distance-after (2 ^ bits) h slot h_in inv.within on in
    let within : get_or xs slot 0 - 1 < length c.args.items.now = omega (arith, taken, c.requires.index.places.few slot, length-map c.args.items.now g.T.Keyed.key_of) in
    let place : c.index-held.result.now - 1 ≡ get_or xs slot 0 - 1 = omega (arith, held) in
    let item = c.index-items-held.result in
    let read : item ≡ get_or c.args.items.now (get_or xs slot 0 - 1) item = c.index-items-held.is ∙ ap (λ (p : ℕ). get_or c.args.items.now p item) place in
    let is : c.key.result ≡ get_or keys (get_or xs slot 0 - 1) Nil = c.key.ensures ∙ ap g.T.Keyed.key_of read ∙ sym (get_or-map g.T.Keyed.key_of c.args.items.now (get_or xs slot 0 - 1) item Nil within) in
    let other : value_eq c.args.key (get_or keys (get_or xs slot 0 - 1) Nil) ≡ false = ap (value_eq c.args.key) (sym is) ∙ sym c.is_same.ensures ∙ c.if-is_same.false in
    record {
      within = c.after-slot.ensures.within;
      passed = λ u l b. elim (cases_lt (distance (2 ^ bits) h u) (distance (2 ^ bits) h slot)) [
        | inl d ↦ inv.passed u l d
        | inr d ↦
            let same : slot ≡ u = same_distance (2 ^ bits) h slot u h_in inv.within l (omega (arith, b, d, step)) in
            let P : ℕ → Type 0 = λ v. (0 < get_or xs v 0) × (value_eq c.args.key (get_or keys (get_or xs v 0 - 1) Nil) ≡ false) in
            subst P same (taken, other)
      ];
    }
