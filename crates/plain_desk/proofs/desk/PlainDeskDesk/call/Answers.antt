use Rattle.std.proofs.Common.{◌≡◌, ◌<◌, arith, subst, sym, ap, ◌∙◌, length, vec_capacity}
use Rattle.session_values.specs.Dialogue.{Calls, Entry}
use Rattle.session_values.specs.Tables.{Tables, reply}
use Rattle.symbolic_ops.specs.Matching.{Matches}
use Rattle.session_journal.specs.Desks.{next_of}
use Rattle.plain_desk.specs.PlainDesks.{PlainView, tables_at}
use Rattle.plain_desk.proofs.Serving.{call_kept, same_kept, tables_before_call}
use Rattle.plain_desk.proofs.desk.PlainDeskDesk.call.Goals as goal

pub invariant_of-self-in_err-reply : goal.invariant_of-self-in_err-reply
invariant_of-self-in_err-reply g c = same_kept _ _ _ _ _ _ _ _ _ _ _ _ _ _ _ c.reserve.ensures.items c.in_err-reply.ensures.err c.reserve.ensures.capacity c.self.invariant

pub invariant_of-self-2 : goal.invariant_of-self-2
invariant_of-self-2 g c =
    let N : PlainView g.row.S.Denot → Type 0 = λ v. next_of (g.S.Script.meaning v.script) v.desk ≡ Calls c.args.op in
    let M : PlainView g.row.S.Denot → Type 0 = λ v. Matches v.desk.present c.args.op in
    let e : Entry = record { op = c.args.op; reply = c.in_ok-reply.reply } in
    let l : length c.reserve.new.self.items < vec_capacity c.reserve.new.self = omega (arith, c.in_ok-reserve.ensures.ok, c.reserve.new.self.ok) in
    call_kept _ _ _ _ _ _ _ _ _ _ _ _ _ _ _ e
    (ap (λ (v : PlainView g.row.S.Denot). v.desk.waiting) c.self.view_is ∙ c.requires.idle)
    (subst N (sym c.self.view_is) c.requires.next) (subst M (sym c.self.view_is) c.requires.matches)
    c.in_ok-reply.ensures.reply c.in_ok-reply.ensures.tables c.apply.ensures.kinds
    c.reserve.ensures.items l c.self.invariant

pub returns-clause-reply : goal.returns-clause-reply
returns-clause-reply g c =
    let N : PlainView g.row.S.Denot → Type 0 = λ v. next_of (g.S.Script.meaning v.script) v.desk ≡ Calls c.args.op in
    let M : PlainView g.row.S.Denot → Type 0 = λ v. Matches v.desk.present c.args.op in
    let at = tables_before_call _ _ _ _ _ _ _ c.args.op
    (ap (λ (v : PlainView g.row.S.Denot). v.desk.waiting) c.self.view_is ∙ c.requires.idle)
    (subst N (sym c.self.view_is) c.requires.next) (subst M (sym c.self.view_is) c.requires.matches)
    c.self.invariant.is_open c.self.invariant.idle in
    c.in_ok-reply.ensures.reply
    ∙ ap (λ (ts : Tables). reply ts c.args.op) at
    ∙ ap (λ (v : PlainView g.row.S.Denot). reply (tables_at (g.S.Script.meaning v.script) v.desk) c.args.op) c.self.view_is
