use Rattle.std.proofs.Common.{arith, refl, sym, ap, ◌∙◌, subst, ℕ}
use Rattle.std.specs.Prelude.{bit_and}
use Rattle.std.specs.Int.{bit_at}
use Rattle.std.proofs.lemmas.Nat.{one_shl}
use Rattle.std.proofs.lemmas.Nat.Bits.{bit_at-pow_other}
use mathlib.Core.Logic.{dite}
use native.Mathlib.Decide.{ℕ_discrete}
use Rattle.turn_steps.specs.Tied.{counted}
use Rattle.turn_steps.specs.Steps.{asked}
use Rattle.turn_board.proofs.Takes.{found-free, found-taken, still-placed, same-spoken, tells-still, now-lies, gained, tells-now, sits-now, spoken-now, now-missed, sits-still, not-alone}
use Rattle.turn_steps.proofs.Rows.{few-turns}
use Rattle.turn_board.proofs.board.Board.try_take.Goals as goal

pub returns-then-found-bit-ne0-clause-seat : goal.returns-then-found-bit-ne0-clause-seat
returns-then-found-bit-ne0-clause-seat g c =
    let t : ℕ = c.args.turn in
    let e = one_shl t 64 (few-turns t _ c.args.self.now.words.few c.requires.turn) in
    let p = c.args.seat.now.pass.token in
    let q = c.ask-found.new.pass.token in
    let id = c.args.self.now.words.table.shared.table_id in
    let r = c.ask-found.result in
    let a = subst (λ (b : ℕ). asked g.R.TieRule.holds id.slots b p.me r q.me) e c.ask-found.ensures.2 in
    let taken = found-taken r t (λ z. c.if-found-bit-ne0.true (ap (bit_and r) e ∙ z)) in
    let same = c.ask-found.ensures in (
      sits-still g.R.TieRule.holds id p q t r c.requires.turn c.requires.seat.placed same.0 same.1 a taken c.requires.seat.vacant,
      same-spoken g.R.TieRule.holds id p q t r c.requires.turn c.requires.seat.placed same.0 same.1 a,
    )

pub returns-then-found-bit-ne0-clause-answer : goal.returns-then-found-bit-ne0-clause-answer
returns-then-found-bit-ne0-clause-answer g c =
    let t : ℕ = c.args.turn in
    let e = one_shl t 64 (few-turns t _ c.args.self.now.words.few c.requires.turn) in
    let p = c.args.seat.now.pass.token in
    let q = c.ask-found.new.pass.token in
    let id = c.args.self.now.words.table.shared.table_id in
    let r = c.ask-found.result in
    let a = subst (λ (b : ℕ). asked g.R.TieRule.holds id.slots b p.me r q.me) e c.ask-found.ensures.2 in
    let taken = found-taken r t (λ z. c.if-found-bit-ne0.true (ap (bit_and r) e ∙ z)) in
    let same = c.ask-found.ensures in (
      refl,
      now-missed g.R.TieRule.holds id p q t r c.requires.turn c.requires.seat.placed same.0 same.1 a taken c.requires.free,
      not-alone g.R.TieRule.holds id p q t r c.requires.turn c.requires.seat.placed same.0 same.1 a taken c.requires.free,
      tells-still g.R.TieRule.holds id p q t r c.requires.turn c.requires.seat.placed same.0 same.1 a,
    )

pub returns-clause-seat : goal.returns-clause-seat
returns-clause-seat g c =
    let t : ℕ = c.args.turn in
    let e = one_shl t 64 (few-turns t _ c.args.self.now.words.few c.requires.turn) in
    let p = c.args.seat.now.pass.token in
    let q = c.ask-found.new.pass.token in
    let id = c.args.self.now.words.table.shared.table_id in
    let r = c.ask-found.result in
    let a = subst (λ (b : ℕ). asked g.R.TieRule.holds id.slots b p.me r q.me) e c.ask-found.ensures.2 in
    let free = found-free r t (ap (bit_and r) (sym e) ∙ c.if-found-bit-ne0.false) in
    let same = c.ask-found.ensures in
    let l = c.take_out.ensures.seat in (
      sits-now g.R.TieRule.holds id p q t r c.requires.turn c.requires.seat.placed same.0 same.1 a free c.take_out.new.seat.pass.token l.0 l.1 l.2 c.requires.seat.vacant,
      spoken-now g.R.TieRule.holds id p q t r c.requires.turn c.requires.seat.placed same.0 same.1 a free c.take_out.new.seat.pass.token l.0 l.1 l.2,
    )

pub returns-clause-answer : goal.returns-clause-answer
returns-clause-answer g c =
    let t : ℕ = c.args.turn in
    let e = one_shl t 64 (few-turns t _ c.args.self.now.words.few c.requires.turn) in
    let p = c.args.seat.now.pass.token in
    let q = c.ask-found.new.pass.token in
    let id = c.args.self.now.words.table.shared.table_id in
    let r = c.ask-found.result in
    let a = subst (λ (b : ℕ). asked g.R.TieRule.holds id.slots b p.me r q.me) e c.ask-found.ensures.2 in
    let free = found-free r t (ap (bit_and r) (sym e) ∙ c.if-found-bit-ne0.false) in
    let same = c.ask-found.ensures in
    let l = c.take_out.ensures.seat in (
      gained g.R.TieRule.holds id p q t r c.requires.turn c.requires.seat.placed same.0 same.1 a free c.take_out.new.seat.pass.token l.0 l.1 l.2 (g.R.TieRule.content c.take_out.result) c.take_out.ensures.value,
      tells-now g.R.TieRule.holds id p q t r c.requires.turn c.requires.seat.placed same.0 same.1 a free c.take_out.new.seat.pass.token l.0 l.1 l.2,
    )

pub ask-found-requires-clause-free : goal.ask-found-requires-clause-free
ask-found-requires-clause-free g c = λ u one.
    let t : ℕ = c.args.turn in
    let e = one_shl t 64 (few-turns t _ c.args.self.now.words.few c.requires.turn) in
    dite (ℕ_discrete u t) (λ same. ap (counted c.args.seat.now.pass.token.me.0) same ∙ c.requires.free)
    (λ ne. absurd (let z = bit_at-pow_other t u ne in let b = ap (λ (n : ℕ). bit_at n u) (sym e) ∙ one in omega arith))

pub take_out-requires-clause-seat : goal.take_out-requires-clause-seat
take_out-requires-clause-seat g c =
    let t : ℕ = c.args.turn in
    let e = one_shl t 64 (few-turns t _ c.args.self.now.words.few c.requires.turn) in
    let p = c.args.seat.now.pass.token in
    let q = c.ask-found.new.pass.token in
    let id = c.args.self.now.words.table.shared.table_id in
    let r = c.ask-found.result in
    let a = subst (λ (b : ℕ). asked g.R.TieRule.holds id.slots b p.me r q.me) e c.ask-found.ensures.2 in
    let same = c.ask-found.ensures in
    still-placed g.R.TieRule.holds id p q t r c.requires.turn c.requires.seat.placed same.0 same.1 a

pub take_out-requires-clause-lies : goal.take_out-requires-clause-lies
take_out-requires-clause-lies g c =
    let t : ℕ = c.args.turn in
    let e = one_shl t 64 (few-turns t _ c.args.self.now.words.few c.requires.turn) in
    let p = c.args.seat.now.pass.token in
    let q = c.ask-found.new.pass.token in
    let id = c.args.self.now.words.table.shared.table_id in
    let r = c.ask-found.result in
    let a = subst (λ (b : ℕ). asked g.R.TieRule.holds id.slots b p.me r q.me) e c.ask-found.ensures.2 in
    let same = c.ask-found.ensures in
    now-lies g.R.TieRule.holds id p q t r c.requires.turn c.requires.seat.placed same.0 same.1 a (found-free r t (ap (bit_and r) (sym e) ∙ c.if-found-bit-ne0.false))
