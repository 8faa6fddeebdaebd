use Rattle.std.proofs.Common.{arith, refl, sym, ap, ◌∙◌, ◌≡◌, ◌≢◌, ℕ, ◌<◌, ◌^◌, None, min, get_or}
use Rattle.std.specs.Prelude.{bit_and}
use Rattle.std.proofs.lemmas.Nat.{and_le_l}
use Rattle.std.proofs.lemmas.Nat.Bits.{bit_at_and, bit_at-trailing_zeros, bit_at-lt}
use Rattle.std.specs.Int.{bit_at, trailing_zeros, w64}
use Rattle.turn_board.proofs.Sets.{none-taken, one-won, positive, now-lie, set-placed, set-tells, set-spoken, all-out, all-spoken, all-others, all-lost, all-asks, all-givings, all-tells, untouched, back-sits, back-spoken, back-held, back-lost, back-asks, back-givings, back-tells, all-found, still-held, still-sits, missed-all, set-alone}
use Rattle.turn_board.proofs.board.Board.try_take_all.Goals as goal

both-one : (a b : ℕ) → a < 2 → b < 2 → min a b ≡ 1 → (a ≡ 1) × (b ≡ 1)
both-one a b ha hb e = (omega arith, omega arith)

-- the least bit that was asked for and found taken
least : (f s : ℕ) → f < 2 ^ 64 → bit_and f s ≢ 0 → (bit_at s (trailing_zeros w64 (bit_and f s)) ≡ 1) × (bit_at f (trailing_zeros w64 (bit_and f s)) ≡ 1) × ((u : ℕ) → u < trailing_zeros w64 (bit_and f s) → min (bit_at f u) (bit_at s u) ≡ 0)
least f s fits ne =
    let low = bit_at-trailing_zeros w64 (bit_and f s) (positive (bit_and f s) ne) (let l = and_le_l f s in omega arith) in
    let t : ℕ = trailing_zeros w64 (bit_and f s) in
    let bits = both-one (bit_at f t) (bit_at s t) (bit_at-lt f t) (bit_at-lt s t) (sym (bit_at_and f s t) ∙ low.1) in
    (bits.1, bits.0, λ u h. sym (bit_at_and f s u) ∙ low.2 u h)

pub returns-then-won-eq0-clause-seat : goal.returns-then-won-eq0-clause-seat
returns-then-won-eq0-clause-seat g c =
    let e = c.ask-found.ensures in
    let id = c.args.self.now.words.table.shared.table_id in
    let p = c.args.seat.now.pass.token in
    let q = c.ask-found.new.pass.token in
    let f = c.ask-found.result in (
      still-sits g.R.TieRule.holds id p q c.args.turns f c.requires.seat e.0 e.1 e.2 c.args.self.now.words.few c.ask-found.type_inv c.ranges.turns.fits (λ u b. (c.requires.set u b).1) c.if-won-eq0.true,
      set-spoken g.R.TieRule.holds id p q c.args.turns f c.requires.seat e.0 e.1 e.2,
    )

pub returns-then-won-eq0-clause-answer : goal.returns-then-won-eq0-clause-answer
returns-then-won-eq0-clause-answer g c =
    let holds = g.R.TieRule.holds in
    let e = c.ask-found.ensures in
    let id = c.args.self.now.words.table.shared.table_id in
    let p = c.args.seat.now.pass.token in
    let q = c.ask-found.new.pass.token in
    let f = c.ask-found.result in
    let s = c.args.turns in
    let near = λ (u : ℕ) (b : bit_at c.args.turns u ≡ 1). (c.requires.set u b).1 in
    let free = λ (u : ℕ) (b : bit_at c.args.turns u ≡ 1). (c.requires.set u b).2 in
    let l = least f s c.ask-found.type_inv c.if-taken-eq0.false in
    let t : ℕ = trailing_zeros w64 (bit_and f s) in
    let none' = all-found holds id p q s f c.requires.seat e.0 e.1 e.2 c.args.self.now.words.few c.ask-found.type_inv c.ranges.turns.fits near c.if-won-eq0.true in (
      refl,
      missed-all holds id p q s f c.requires.seat e.0 e.1 e.2 near free q (still-held holds id p q s f c.requires.seat e.0 e.1 e.2 c.args.self.now.words.few c.ask-found.type_inv c.ranges.turns.fits near c.if-won-eq0.true) (λ u. refl)
          t l.0 l.1 l.2 refl (λ u b z. absurd (let o = none' u b in omega arith)) (λ _. ap (λ m. m.0.givings) e.2.2),
      set-alone holds id p q s f c.requires.seat e.0 e.1 e.2 t (near t l.0) l.1 (free t l.0),
      set-tells holds id p q s f c.requires.seat e.0 e.1 e.2,
    )

pub returns-clause-seat : goal.returns-clause-seat
returns-clause-seat g c =
    let e = c.ask-found.ensures in
    let r = c.give_back.ensures in
    let id = c.args.self.now.words.table.shared.table_id in
    let p = c.args.seat.now.pass.token in
    let q = c.ask-found.new.pass.token in
    let f = c.ask-found.result in
    let free = λ (u : ℕ) (b : bit_at c.args.turns u ≡ 1). (c.requires.set u b).2 in (
      back-sits g.R.TieRule.holds id p q c.args.turns f c.requires.seat e.0 e.1 e.2 c.args.self.now.words.few c.ask-found.type_inv c.ranges.turns.fits free c.give_back.new.pass.token r.0 r.1 r.2,
      back-spoken g.R.TieRule.holds id p q c.args.turns f c.requires.seat e.0 e.1 e.2 c.args.self.now.words.few c.ask-found.type_inv c.ranges.turns.fits free c.give_back.new.pass.token r.0 r.1 r.2,
    )

pub returns-clause-answer : goal.returns-clause-answer
returns-clause-answer g c =
    let holds = g.R.TieRule.holds in
    let e = c.ask-found.ensures in
    let r = c.give_back.ensures in
    let id = c.args.self.now.words.table.shared.table_id in
    let p = c.args.seat.now.pass.token in
    let q = c.ask-found.new.pass.token in
    let f = c.ask-found.result in
    let fits = c.ask-found.type_inv in
    let few = c.args.self.now.words.few in
    let s = c.args.turns in
    let near = λ (u : ℕ) (b : bit_at c.args.turns u ≡ 1). (c.requires.set u b).1 in
    let free = λ (u : ℕ) (b : bit_at c.args.turns u ≡ 1). (c.requires.set u b).2 in
    let l = least f s fits c.if-taken-eq0.false in
    let t : ℕ = trailing_zeros w64 (bit_and f s) in
    let back = back-givings holds id p q s f c.requires.seat e.0 e.1 e.2 few fits c.ranges.turns.fits free c.give_back.new.pass.token r.0 r.1 r.2 in (
      refl,
      missed-all holds id p q s f c.requires.seat e.0 e.1 e.2 near free c.give_back.new.pass.token
          (back-held holds id p q s f c.requires.seat e.0 e.1 e.2 few fits c.ranges.turns.fits free c.give_back.new.pass.token r.0 r.1 r.2)
          (back-lost holds id p q s f c.requires.seat e.0 e.1 e.2 few fits c.ranges.turns.fits free c.give_back.new.pass.token r.0 r.1 r.2)
          t l.0 l.1 l.2
          (back-asks holds id p q s f c.requires.seat e.0 e.1 e.2 few fits c.ranges.turns.fits free c.give_back.new.pass.token r.0 r.1 r.2)
          (λ _ _ _. back) (λ all'. absurd (one-won f s fits c.ranges.turns.fits c.if-won-eq0.false all')),
      set-alone holds id p q s f c.requires.seat e.0 e.1 e.2 t (near t l.0) l.1 (free t l.0),
      back-tells holds id p q s f c.requires.seat e.0 e.1 e.2 few fits c.ranges.turns.fits free c.give_back.new.pass.token r.0 r.1 r.2,
    )

pub returns-then-taken-eq0-clause-seat : goal.returns-then-taken-eq0-clause-seat
returns-then-taken-eq0-clause-seat g c = let e = c.ask-found.ensures in (
  all-out g.R.TieRule.holds c.args.self.now.words.table.shared.table_id c.args.seat.now.pass.token c.ask-found.new.pass.token c.args.turns c.ask-found.result c.requires.seat e.0 e.1 e.2 c.take_out_all.new.seat.pass.token c.take_out_all.ensures.seat,
  all-spoken g.R.TieRule.holds c.args.self.now.words.table.shared.table_id c.args.seat.now.pass.token c.ask-found.new.pass.token c.args.turns c.ask-found.result c.requires.seat e.0 e.1 e.2 c.take_out_all.new.seat.pass.token c.take_out_all.ensures.seat,
)

pub returns-then-taken-eq0-clause-answer : goal.returns-then-taken-eq0-clause-answer
returns-then-taken-eq0-clause-answer g c =
    let e = c.ask-found.ensures in
    let l = c.take_out_all.ensures in
    let id = c.args.self.now.words.table.shared.table_id in
    let p = c.args.seat.now.pass.token in
    let q = c.ask-found.new.pass.token in
    let f = c.ask-found.result in
    let s = c.args.turns in
    let r = c.take_out_all.new.seat.pass.token in (
      record {
        new = l.pairs.new;
        added = l.pairs.added;
        rising = l.pairs.rising;
        once = l.pairs.once;
        here = λ u o. let x = l.pairs.here u (c.requires.set u o).1 o in (x.0, ap (λ y. get_or y u None) l.seat.counts ∙ x.1, x.2);
        others = λ u z. (all-others g.R.TieRule.holds id p q s f c.requires.seat e.0 e.1 e.2 r l.seat u z, l.pairs.others u z);
        lost_is = all-lost g.R.TieRule.holds id p q s f c.requires.seat e.0 e.1 e.2 r l.seat (none-taken f s c.if-taken-eq0.true);
        asks_is = all-asks g.R.TieRule.holds id p q s f c.requires.seat e.0 e.1 e.2 r l.seat;
        givings_is = all-givings g.R.TieRule.holds id p q s f c.requires.seat e.0 e.1 e.2 r l.seat;
      },
      all-tells g.R.TieRule.holds id p q s f c.requires.seat e.0 e.1 e.2 r l.seat,
    )

pub ask-found-requires-clause-free : goal.ask-found-requires-clause-free
ask-found-requires-clause-free g c = λ u b. (c.requires.set u b).2

pub give_back-requires-clause-pass : goal.give_back-requires-clause-pass
give_back-requires-clause-pass g c = c.ask-found.ensures.0 ∙ c.requires.seat.placed.of_table

pub give_back-requires-clause-lies : goal.give_back-requires-clause-lies
give_back-requires-clause-lies g c = let e = c.ask-found.ensures in
    untouched g.R.TieRule.holds c.args.self.now.words.table.shared.table_id c.args.seat.now.pass.token c.ask-found.new.pass.token c.args.turns c.ask-found.result c.requires.seat e.0 e.1 e.2 c.args.self.now.words.few c.ask-found.type_inv c.ranges.turns.fits

pub take_out_all-requires-clause-seat : goal.take_out_all-requires-clause-seat
take_out_all-requires-clause-seat g c = let e = c.ask-found.ensures in
    set-placed g.R.TieRule.holds c.args.self.now.words.table.shared.table_id c.args.seat.now.pass.token c.ask-found.new.pass.token c.args.turns c.ask-found.result c.requires.seat e.0 e.1 e.2

pub take_out_all-requires-clause-lies : goal.take_out_all-requires-clause-lies
take_out_all-requires-clause-lies g c = λ u b. let e = c.ask-found.ensures in
    let x = now-lie g.R.TieRule.holds c.args.self.now.words.table.shared.table_id c.args.seat.now.pass.token c.ask-found.new.pass.token c.args.turns c.ask-found.result c.requires.seat e.0 e.1 e.2 u (c.requires.set u b).1 b
    (none-taken c.ask-found.result c.args.turns c.if-taken-eq0.true u b) in
    (x.0, (c.requires.set u b).0, x.1, x.2)
