use Rattle.std.proofs.Common.{arith, refl, sym, ap, ◌∙◌, subst, ◌≡◌, ℕ, suc, ◌<◌, ◌^◌, Some}
use Rattle.std.specs.Prelude.{bit_or}
use Rattle.std.proofs.lemmas.Nat.{or_lt}
use Rattle.turn_board.specs.Hands.{HandsView, put_back}
use Rattle.std.specs.Int.{bit_not, w64}
use Rattle.turn_steps.specs.declared.view.Place.TheVariants.{Lies}
use Rattle.turn_steps.specs.Tied.{place}
use Rattle.turn_steps.specs.Maps.{overlay}
use Rattle.turn_board.specs.Boards.{held}
use Rattle.turn_board.proofs.Returns.{held-near, has-book, given-back, changed-now}
use Rattle.turn_board.proofs.Fills.{waiting, all-lie, booked-all, all-sits}
use Rattle.turn_board.proofs.board.Board.give_all.Goals as goal

or-fits : (s : ℕ) → s < 2 ^ 64 → bit_or s 1 < 2 ^ 64
or-fits s h = or_lt 64 s 1 h (omega arith)

pub returns-clause-seat : goal.returns-clause-seat
returns-clause-seat g c =
    let id = c.args.self.now.words.table.shared.table_id in
    let p = c.args.seat.now.pass.token in
    let xs = c.args.hands.now.pairs in
    let m = c.lower.new.seat.pass.token in
    let s : ℕ = c.lower_all-mask.result in
    let q = c.lower_all-mask.new.seat.pass.token in
    let r = c.settle.new.seat.pass.token in
    let content = g.R.TieRule.content in
    let x = given-back content id.slots q r c.of-copy.result.value c.args.book c.of-list.result.value c.args.hands.now c.of-copy.ensures c.of-list.ensures (bit_not w64 (bit_or s 1)) c.settle.ensures.booked in
    all-sits content id c.args.self.now.words.few p c.requires.seat c.args.book xs c.requires.once c.requires.held m c.lower.ensures.2 s q c.lower_all-mask.ensures.seat (or-fits s c.lower_all-mask.type_inv) r (suc x.0, overlay (put_back content c.args.book xs) x.1) x.2
    (c.settle.ensures.seat.0 ∙ c.lower_all-mask.ensures.seat.table ∙ c.lower.ensures.0 ∙ c.requires.seat.placed.of_table)

pub returns-clause-booked : goal.returns-clause-booked
returns-clause-booked g c =
    let id = c.args.self.now.words.table.shared.table_id in
    let p = c.args.seat.now.pass.token in
    let xs = c.args.hands.now.pairs in
    let m = c.lower.new.seat.pass.token in
    let s : ℕ = c.lower_all-mask.result in
    let q = c.lower_all-mask.new.seat.pass.token in
    let r = c.settle.new.seat.pass.token in
    let content = g.R.TieRule.content in
    let x = given-back content id.slots q r c.of-copy.result.value c.args.book c.of-list.result.value c.args.hands.now c.of-copy.ensures c.of-list.ensures (bit_not w64 (bit_or s 1)) c.settle.ensures.booked in
    booked-all content id c.args.self.now.words.few p c.requires.seat c.args.book xs c.requires.once c.requires.held m c.lower.ensures.2 s q c.lower_all-mask.ensures.seat (or-fits s c.lower_all-mask.type_inv) r (suc x.0, overlay (put_back content c.args.book xs) x.1) x.2

pub returns-clause-changed : goal.returns-clause-changed
returns-clause-changed g c =
    let q = c.lower_all-mask.new.seat.pass.token in
    let r = c.settle.new.seat.pass.token in
    let content = g.R.TieRule.content in
    let f = c.lower_all-mask.ensures.seat in
    let x = given-back content c.args.self.now.words.table.shared.table_id.slots q r c.of-copy.result.value c.args.book c.of-list.result.value c.args.hands.now c.of-copy.ensures c.of-list.ensures (bit_not w64 (bit_or c.lower_all-mask.result 1)) c.settle.ensures.booked in
    changed-now c.args.seat.now.pass.token q r (put_back content c.args.book c.args.hands.now.pairs) c.args.self.now.words.table.shared.table_id.slots (bit_not w64 (bit_or c.lower_all-mask.result 1)) x (f.counts ∙ ap (λ y. y.0.counts) c.lower.ensures.2) (f.change ∙ ap (λ y. y.0.change) c.lower.ensures.2)

pub lower-requires-clause-held : goal.lower-requires-clause-held
lower-requires-clause-held g c =
    has-book (held c.args.seat.now) (put_back g.R.TieRule.content c.args.book c.args.hands.now.pairs) (g.R.TieRule.content c.args.book) c.requires.held refl

pub lower-requires-clause-turn : goal.lower-requires-clause-turn
lower-requires-clause-turn g c =
    let h = has-book (held c.args.seat.now) (put_back g.R.TieRule.content c.args.book c.args.hands.now.pairs) (g.R.TieRule.content c.args.book) c.requires.held refl in
    held-near c.args.seat.now.pass.token.me.0 _ 0 h.0 c.requires.seat.placed.counts h.1

pub lower_all-mask-requires-clause-held : goal.lower_all-mask-requires-clause-held
lower_all-mask-requires-clause-held g c =
    let id = c.args.self.now.words.table.shared.table_id in
    let p = c.args.seat.now.pass.token in
    let xs = c.args.hands.now.pairs in
    let m = c.lower.new.seat.pass.token in
    waiting g.R.TieRule.content id c.args.self.now.words.few p c.requires.seat c.args.book xs c.requires.once c.requires.held m c.lower.ensures.2

pub settle-requires-clause-lies : goal.settle-requires-clause-lies
settle-requires-clause-lies g c = λ u near o.
    let id = c.args.self.now.words.table.shared.table_id in
    let p = c.args.seat.now.pass.token in
    let xs = c.args.hands.now.pairs in
    let m = c.lower.new.seat.pass.token in
    let s : ℕ = c.lower_all-mask.result in
    let q = c.lower_all-mask.new.seat.pass.token in
    subst (λ (v : g.row.V.Denot × HandsView g.row.V.Denot). (x : g.row.R-Content.Denot) × (put_back g.R.TieRule.content v.0 v.1.pairs u ≡ Some x) × (place q.me.0 u ≡ Lies x)) (λ k. (sym c.of-copy.ensures k, sym c.of-list.ensures k))
    (all-lie g.R.TieRule.content id c.args.self.now.words.few p c.requires.seat c.args.book xs c.requires.once c.requires.held m c.lower.ensures.2 s q c.lower_all-mask.ensures.seat u o)
