use Rattle.std.proofs.Common.{sym, ◌∙◌, subst, ◌≡◌, ◌<◌, ℕ, Some}
use Rattle.std.proofs.lemmas.Nat.{one_shl}
use Rattle.std.specs.Int.{bit_at, bit_not, w64}
use Rattle.turn_steps.specs.declared.view.Place.TheVariants.{Lies}
use Rattle.turn_steps.specs.Tied.{counted, place}
use Rattle.turn_steps.specs.Steps.{given_view}
use Rattle.turn_board.proofs.Returns.{held-near, freed, gave, sits-again, spoken-again}
use Rattle.turn_steps.proofs.Rows.{few-turns}
use Rattle.turn_board.proofs.board.Board.give.Goals as goal

pub returns-clause-seat : goal.returns-clause-seat
returns-clause-seat g c =
    let t : ℕ = c.args.turn in
    let p = c.args.seat.now.pass.token in
    let m = c.lower.new.seat.pass.token in
    let q = c.give_back.new.pass.token in
    let id = c.args.self.now.words.table.shared.table_id in
    let near = held-near p.me.0 id.slots t _ c.requires.seat.placed.counts c.requires.same in
    let e = one_shl t 64 (few-turns t id.slots c.args.self.now.words.few near) in
    let q-is = subst (λ (b : ℕ). q.me ≡ (given_view id.slots (bit_not w64 b) (counted m.me.0) m.me.0.speaks m.me.0.given m.me.0.change m.me.0, m.me.1)) e c.give_back.ensures.2 in
    let table = c.give_back.ensures.0 ∙ c.lower.ensures.0 in
    let seat-id = c.give_back.ensures.1 ∙ c.lower.ensures.1 in (
      sits-again id c.args.self.now.words.few p c.requires.seat t (g.R.TieRule.content c.args.value) c.requires.same m c.lower.ensures.2 q table seat-id q-is,
      spoken-again id c.args.self.now.words.few p c.requires.seat t (g.R.TieRule.content c.args.value) c.requires.same m c.lower.ensures.2 q table seat-id q-is,
    )

pub returns-clause-gave : goal.returns-clause-gave
returns-clause-gave g c =
    let t : ℕ = c.args.turn in
    let p = c.args.seat.now.pass.token in
    let m = c.lower.new.seat.pass.token in
    let q = c.give_back.new.pass.token in
    let id = c.args.self.now.words.table.shared.table_id in
    let near = held-near p.me.0 id.slots t _ c.requires.seat.placed.counts c.requires.same in
    let e = one_shl t 64 (few-turns t id.slots c.args.self.now.words.few near) in
    let q-is = subst (λ (b : ℕ). q.me ≡ (given_view id.slots (bit_not w64 b) (counted m.me.0) m.me.0.speaks m.me.0.given m.me.0.change m.me.0, m.me.1)) e c.give_back.ensures.2 in
    gave id c.args.self.now.words.few p c.requires.seat t (g.R.TieRule.content c.args.value) c.requires.same m c.lower.ensures.2 q (c.give_back.ensures.0 ∙ c.lower.ensures.0) (c.give_back.ensures.1 ∙ c.lower.ensures.1) q-is

pub lower-requires-clause-turn : goal.lower-requires-clause-turn
lower-requires-clause-turn g c = held-near c.args.seat.now.pass.token.me.0 _ c.args.turn _ c.requires.seat.placed.counts c.requires.same

pub give_back-requires-clause-pass : goal.give_back-requires-clause-pass
give_back-requires-clause-pass g c = c.lower.ensures.0 ∙ c.requires.seat.placed.of_table

pub give_back-requires-clause-lies : goal.give_back-requires-clause-lies
give_back-requires-clause-lies g c =
    let t : ℕ = c.args.turn in
    let p = c.args.seat.now.pass.token in
    let m = c.lower.new.seat.pass.token in
    let id = c.args.self.now.words.table.shared.table_id in
    let near = held-near p.me.0 id.slots t _ c.requires.seat.placed.counts c.requires.same in
    let e = one_shl t 64 (few-turns t id.slots c.args.self.now.words.few near) in
    subst (λ (b : ℕ). (u : ℕ) → u < id.slots → bit_at (bit_not w64 b) u ≡ 0 → (d : g.row.R-Content.Denot) × (counted m.me.0 u ≡ Some d) × (place m.me.0 u ≡ Lies d)) (sym e)
    (freed id c.args.self.now.words.few p c.requires.seat t (g.R.TieRule.content c.args.value) c.requires.same m c.lower.ensures.2)
