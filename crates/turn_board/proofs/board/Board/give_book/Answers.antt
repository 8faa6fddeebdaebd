use Rattle.std.proofs.Common.{◌≡◌, ℕ, zero, suc, refl, sym, ap, ap₂, ◌∙◌, arith, get_or-set_same}
use Rattle.std.proofs.lemmas.Nat.Bits.{bit_at-pow_other}
use Rattle.std.specs.Int.{bit_at, bit_not, w64}
use Rattle.turn_steps.specs.declared.view.Place.TheVariants.{Vacant, Lies}
use Rattle.turn_steps.specs.Tied.{place}
use Rattle.turn_steps.specs.Maps.{overlay}
use Rattle.turn_board.specs.Boards.{held}
use Rattle.turn_board.specs.Hands.{put_back}
use Rattle.turn_board.proofs.Returns.{held-near, has-book, cleared-here, kept-ones, given-back, changed-now, booked-now, book-sits}
use Rattle.turn_board.proofs.board.Board.give_book.Goals as goal

only-zero : (u : ℕ) → bit_at 1 u ≡ 1 → u ≡ 0
only-zero zero e = refl
only-zero (suc u) e = absurd (let z = bit_at-pow_other 0 (suc u) (λ k. omega arith) in omega arith)

pub returns-clause-seat : goal.returns-clause-seat
returns-clause-seat g c =
    let id = c.args.self.now.words.table.shared.table_id in
    let p = c.args.seat.now.pass.token in
    let m = c.lower.new.seat.pass.token in
    let q = c.settle.new.seat.pass.token in
    let content = g.R.TieRule.content in
    let x = given-back content id.slots m q c.of-copy.result.value c.args.book c.of-list.result.value c.args.hands.now c.of-copy.ensures c.of-list.ensures (bit_not w64 1) c.settle.ensures.booked in
    book-sits id c.args.self.now.words.few p c.requires.seat (put_back content c.args.book c.args.hands.now.pairs) (content c.args.book) refl c.requires.held (bit_not w64 1) (cleared-here 0 (omega arith)) (kept-ones id.slots c.args.self.now.words.few) m c.lower.ensures.2 q (suc x.0, overlay (put_back content c.args.book c.args.hands.now.pairs) x.1) x.2 (c.settle.ensures.seat.0 ∙ c.lower.ensures.0)

pub returns-clause-booked : goal.returns-clause-booked
returns-clause-booked g c =
    let id = c.args.self.now.words.table.shared.table_id in
    let p = c.args.seat.now.pass.token in
    let m = c.lower.new.seat.pass.token in
    let q = c.settle.new.seat.pass.token in
    let content = g.R.TieRule.content in
    let x = given-back content id.slots m q c.of-copy.result.value c.args.book c.of-list.result.value c.args.hands.now c.of-copy.ensures c.of-list.ensures (bit_not w64 1) c.settle.ensures.booked in
    booked-now id c.args.self.now.words.few p c.requires.seat (put_back content c.args.book c.args.hands.now.pairs) (content c.args.book) refl c.requires.held (bit_not w64 1) (cleared-here 0 (omega arith)) (kept-ones id.slots c.args.self.now.words.few) m c.lower.ensures.2 q (suc x.0, overlay (put_back content c.args.book c.args.hands.now.pairs) x.1) x.2

pub returns-clause-changed : goal.returns-clause-changed
returns-clause-changed g c =
    let m = c.lower.new.seat.pass.token in
    let q = c.settle.new.seat.pass.token in
    let content = g.R.TieRule.content in
    let x = given-back content c.args.self.now.words.table.shared.table_id.slots m q c.of-copy.result.value c.args.book c.of-list.result.value c.args.hands.now c.of-copy.ensures c.of-list.ensures (bit_not w64 1) c.settle.ensures.booked in
    changed-now c.args.seat.now.pass.token m q (put_back content c.args.book c.args.hands.now.pairs) c.args.self.now.words.table.shared.table_id.slots (bit_not w64 1) x (ap (λ y. y.0.counts) c.lower.ensures.2) (ap (λ y. y.0.change) c.lower.ensures.2)

pub lower-requires-clause-held : goal.lower-requires-clause-held
lower-requires-clause-held g c = has-book (held c.args.seat.now) (put_back g.R.TieRule.content c.args.book c.args.hands.now.pairs) (g.R.TieRule.content c.args.book) c.requires.held refl

pub lower-requires-clause-turn : goal.lower-requires-clause-turn
lower-requires-clause-turn g c = let h = has-book (held c.args.seat.now) (put_back g.R.TieRule.content c.args.book c.args.hands.now.pairs) (g.R.TieRule.content c.args.book) c.requires.held refl in
    held-near c.args.seat.now.pass.token.me.0 _ 0 h.0 c.requires.seat.placed.counts h.1

pub settle-requires-clause-lies : goal.settle-requires-clause-lies
settle-requires-clause-lies g c = λ u near o.
    let p = c.args.seat.now.pass.token in
    let z = only-zero u o in
    let h = has-book (held c.args.seat.now) (put_back g.R.TieRule.content c.args.book c.args.hands.now.pairs) (g.R.TieRule.content c.args.book) c.requires.held refl in
    let long = held-near p.me.0 _ 0 h.0 c.requires.seat.placed.counts h.1 in
    let places = c.requires.seat.placed.places in (
      g.R.TieRule.content c.of-copy.result.value,
      ap (put_back g.R.TieRule.content c.of-copy.result.value c.of-list.result.value.pairs) z,
      ap₂ place (ap (λ m. m.0) c.lower.ensures.2) z ∙ get_or-set_same p.me.0.places 0 (Lies (g.R.TieRule.content c.args.book)) Vacant (omega arith) ∙ ap (λ v. Lies (g.R.TieRule.content v)) (sym c.of-copy.ensures),
    )
