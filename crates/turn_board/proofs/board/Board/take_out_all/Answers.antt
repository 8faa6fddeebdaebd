use Rattle.std.proofs.Common.{arith, refl, sym, ap, ◌∙◌, subst, ◌≡◌, ℕ, ◌+◌, ◌-◌, ◌<◌, ◌∷◌, [], None, length, get_or, length-append}
use Rattle.std.specs.Prelude.{bit_and}
use Rattle.std.proofs.lemmas.List.{length-map}
use Rattle.std.proofs.lemmas.Nat.{one_shl}
use Rattle.std.specs.Int.{bit_not, trailing_zeros, w64}
use Rattle.turn_steps.specs.Maps.{bits_of}
use Rattle.turn_board.specs.Moving.{TakenOut}
use Rattle.turn_steps.specs.Passes.{held}
use Rattle.turn_board.proofs.Returns.{held-near}
use Rattle.turn_board.proofs.Several.{Walk, walk-start, walk-end, walk-next, low-near, low-from, low-set, low-gap, less-left, with-bit, more-bits, emptied-to, emptied-one, taken_out-start, taken_out-to, taken_out-one}
use Rattle.turn_board.proofs.board.Board.take_out_all.Goals as goal

pub loop-left-init : goal.loop-left-init
loop-left-init g c = record {
  turn = 0;
  walk = walk-start c.args.set c.args.self.now.words.table.shared.table_id.slots;
  emptied = record { table = refl; id = refl; none = refl; speaks = refl; counts = refl; lost = refl; given = refl; caller_count = refl; asks = refl; givings = refl; change = refl; long = refl; out = λ u h. absurd (omega arith); later = λ u h. refl; others = λ u z. refl };
  taken_out = taken_out-start g.R.TieRule.content c.args.set (held c.args.seat.now.pass.token) c.args.hands.now.pairs;
  room = refl;
}

pub take_out-value-requires-clause-turn : goal.take_out-value-requires-clause-turn
take_out-value-requires-clause-turn g c =
    let inv = c.loop-left.invariant in
    let x = c.requires.lies (trailing_zeros w64 c.loop-left.left) (low-set c.args.set c.loop-left.left c.args.self.now.words.table.shared.table_id.slots inv.turn inv.walk c.loop-left-test.true c.loop-left.auto.left-fits.fits) in
    held-near c.args.seat.now.pass.token.me.0 _ (trailing_zeros w64 c.loop-left.left) x.0 c.requires.seat.counts x.2

pub take_out-value-requires-clause-lies : goal.take_out-value-requires-clause-lies
take_out-value-requires-clause-lies g c =
    let inv = c.loop-left.invariant in
    let n = c.args.self.now.words.table.shared.table_id.slots in
    let t : ℕ = trailing_zeros w64 c.loop-left.left in
    let x = c.requires.lies t (low-set c.args.set c.loop-left.left n inv.turn inv.walk c.loop-left-test.true c.loop-left.auto.left-fits.fits) in
    (x.0, ap (λ l. get_or l t None) inv.emptied.counts ∙ x.2, inv.emptied.later t (low-from c.args.set c.loop-left.left n inv.turn inv.walk c.loop-left-test.true c.loop-left.auto.left-fits.fits) ∙ x.3)

pub push-requires : goal.push-requires
push-requires g c =
    let inv = c.loop-left.invariant in
    let n : ℕ = c.args.self.now.words.table.shared.table_id.slots in
    let t : ℕ = trailing_zeros w64 c.loop-left.left in
    let bit = low-set c.args.set c.loop-left.left n inv.turn inv.walk c.loop-left-test.true c.loop-left.auto.left-fits.fits in
    let x = c.requires.lies t bit in
    let near : t < n = held-near c.args.seat.now.pass.token.me.0 _ t x.0 c.requires.seat.counts x.2 in
    let l = taken_out-to g.R.TieRule.content c.args.set (held c.args.seat.now.pass.token) c.args.hands.now.pairs inv.turn c.loop-left.hands.pairs inv.taken_out t
    (low-from c.args.set c.loop-left.left n inv.turn inv.walk c.loop-left-test.true c.loop-left.auto.left-fits.fits) (low-gap c.args.set c.loop-left.left n inv.turn inv.walk c.loop-left-test.true c.loop-left.auto.left-fits.fits) in
    let more = more-bits c.args.set (t + 1) (n - (t + 1)) in
    let all = ap (λ i. length (bits_of c.args.set i)) (let q : n - (t + 1) + (t + 1) ≡ n = omega arith in q) in
    let one = ap length (with-bit c.args.set t bit) ∙ length-append (bits_of c.args.set t) (t ∷ []) in
    let so-far = sym (length-map l.new (λ y. y.0)) ∙ ap length l.rising in
    let long = ap length l.added ∙ length-append c.args.hands.now.pairs l.new in
    let room = c.requires.room in
    let same = inv.room in
    omega arith

pub loop-left-smaller : goal.loop-left-smaller
loop-left-smaller g c =
    let inv = c.loop-left.invariant in
    let n = c.args.self.now.words.table.shared.table_id.slots in
    let t : ℕ = trailing_zeros w64 c.loop-left.left in
    let e = one_shl t 64 (low-near c.args.set c.loop-left.left n inv.turn inv.walk c.loop-left-test.true c.loop-left.auto.left-fits.fits) in
    subst (λ (b : ℕ). bit_and c.loop-left.left (bit_not w64 b) < c.loop-left.left) (sym e) (less-left c.args.set c.loop-left.left n inv.turn inv.walk c.loop-left-test.true c.loop-left.auto.left-fits.fits)

pub loop-left-preserved : goal.loop-left-preserved
loop-left-preserved g c =
    let inv = c.loop-left.invariant in
    let n : ℕ = c.args.self.now.words.table.shared.table_id.slots in
    let t : ℕ = trailing_zeros w64 c.loop-left.left in
    let ne = c.loop-left-test.true in
    let fits = c.loop-left.auto.left-fits.fits in
    let e = one_shl t 64 (low-near c.args.set c.loop-left.left n inv.turn inv.walk ne fits) in
    let bit = low-set c.args.set c.loop-left.left n inv.turn inv.walk ne fits in
    let from = low-from c.args.set c.loop-left.left n inv.turn inv.walk ne fits in
    let gap = low-gap c.args.set c.loop-left.left n inv.turn inv.walk ne fits in
    let x = c.requires.lies t bit in
    let near : t < n = held-near c.args.seat.now.pass.token.me.0 _ t x.0 c.requires.seat.counts x.2 in
    let l = c.take_out-value.ensures.seat in
    let m = emptied-to c.args.set inv.turn c.args.seat.now.pass.token c.loop-left.seat.pass.token inv.emptied t from gap in
    let k = taken_out-to g.R.TieRule.content c.args.set (held c.args.seat.now.pass.token) c.args.hands.now.pairs inv.turn c.loop-left.hands.pairs inv.taken_out t from gap in
    record {
      turn = t + 1;
      walk = subst (λ (b : ℕ). Walk c.args.set (bit_and c.loop-left.left (bit_not w64 b)) n (t + 1)) (sym e) (walk-next c.args.set c.loop-left.left n inv.turn inv.walk ne fits near);
      emptied = emptied-one c.args.set t c.args.seat.now.pass.token c.loop-left.seat.pass.token m c.take_out-value.new.seat.pass.token bit (let q = c.requires.seat.places in omega arith) c.requires.seat.empty l.0 l.1 l.2;
      taken_out = subst (λ y. TakenOut g.R.TieRule.content c.args.set (t + 1) (held c.args.seat.now.pass.token) c.args.hands.now.pairs y) (sym c.push.ensures.pairs)
          (taken_out-one g.R.TieRule.content c.args.set (held c.args.seat.now.pass.token) c.args.hands.now.pairs t c.loop-left.hands.pairs k c.take_out-value.result bit x.1 (ap (λ y. get_or y t None) (sym inv.emptied.counts) ∙ c.take_out-value.ensures.value));
      room = c.push.ensures.room ∙ inv.room;
    }

pub returns-clause-seat : goal.returns-clause-seat
returns-clause-seat g c =
    let inv = c.loop-left.invariant in
    let n = c.args.self.now.words.table.shared.table_id.slots in
    emptied-to c.args.set inv.turn c.args.seat.now.pass.token c.loop-left.seat.pass.token inv.emptied n inv.walk.within (walk-end c.args.set c.loop-left.left n inv.turn c.args.self.now.words.few inv.walk c.loop-left-test.false)

pub returns-clause-pairs : goal.returns-clause-pairs
returns-clause-pairs g c =
    let inv = c.loop-left.invariant in
    let n = c.args.self.now.words.table.shared.table_id.slots in
    taken_out-to g.R.TieRule.content c.args.set (held c.args.seat.now.pass.token) c.args.hands.now.pairs inv.turn c.loop-left.hands.pairs inv.taken_out n inv.walk.within (walk-end c.args.set c.loop-left.left n inv.turn c.args.self.now.words.few inv.walk c.loop-left-test.false)
