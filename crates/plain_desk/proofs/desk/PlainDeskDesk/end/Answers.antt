use Rattle.std.proofs.Common.{◌≡◌, arith, length, subst, sym, ap, ◌∙◌}
use Rattle.session_values.specs.Dialogue.{Answers}
use Rattle.symbolic_ops.specs.Foresight.{ForesightView}
use Rattle.session_journal.specs.Desks.{next_of}
use Rattle.plain_desk.specs.PlainDesks.{PlainView}
use Rattle.plain_desk.proofs.Serving.{end_kept}
use Rattle.plain_desk.proofs.desk.PlainDeskDesk.end.Goals as goal

pub invariant_of-self : goal.invariant_of-self
invariant_of-self g c =
    let N : PlainView g.row.S.Denot → Type 0 = λ v. next_of (g.S.Script.meaning v.script) v.desk ≡ Answers c.args.reply in
    let until : c.len.result ≡ length c.self.inside.entries.items = omega (arith, c.len.ensures, c.self.inside.entries.ok) in
    end_kept _ _ _ _ _ _ _ _ _ _ _ _ _ _ _ _ _ c.args.reply
    (ap (λ (v : PlainView g.row.S.Denot). v.desk.waiting) c.self.view_is ∙ c.requires.idle)
    (ap (λ (v : PlainView g.row.S.Denot). v.desk.ended) c.self.view_is ∙ c.requires.going)
    (subst N (sym c.self.view_is) c.requires.answers)
    c.push_reserved.ensures.items until c.push_reserved.ensures.capacity (ap (λ (f : ForesightView). f.room) c.clear.ensures) c.self.invariant
