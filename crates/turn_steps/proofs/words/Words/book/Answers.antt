use Rattle.std.proofs.Common.{arith, ap, subst, ℕ}
use Rattle.turn_steps.specs.Steps.{caller_of}
use Rattle.turn_steps.specs.Passes.{held}
use Rattle.turn_steps.proofs.Gives.{books}
use Rattle.turn_steps.proofs.words.Words.book.Goals as goal

pub fetch_and-requires : goal.fetch_and-requires
fetch_and-requires g c =
    let p = c.args.pass.now.token in
    let slots = c.args.self.now.table.shared.table_id.slots in
    let one = c.requires.pass.one in
    let new = g.K.Change.new in (
      c.requires.pass.of_table,
      (let h = c.args.self.now.words in omega arith),
      books g.R.TieRule.content g.R.TieRule.holds _ g.R.TieRule.moves g.R.TieRule.kept slots p.id p.me c.args.mask one.0 one.1 new c.requires.note.0 one.2 c.requires.note.1 c.requires.held
          (subst (λ (k : ℕ). g.R.TieRule.moves slots k (held p) new) (ap caller_of one.2) c.requires.moves) c.requires.lies,
    )
