use Rattle.std.proofs.Common.{arith}
use Rattle.trace_audit.proofs.Keeps.{field_answer, keeps_answer}
use Rattle.trace_audit.proofs.audit_desk.AuditDesk.reply_to.Goals as goal

pub index_mut-requires : goal.index_mut-requires
index_mut-requires g c = omega (arith, (c.self.invariant.set c.in-Some.t c.in-Some.is).0, c.self.invariant.count, c.self.inside.tickets.ok)

pub invariant_of-self : goal.invariant_of-self
invariant_of-self g c = keeps_answer _ _ _ _ _ c.index_mut.result.now c.reply_to.new.self c.in-Some.is c.index_mut.ensures.value c.reply_to.ensures.entries c.reply_to.ensures.answer c.self.invariant

pub returns : goal.returns
returns g c = field_answer _ _ _ _ _ _ _ _ _ c.index_mut.result.now c.reply_to.new.self c.self.view_is c.in-Some.is c.index_mut.ensures.value c.reply_to.ensures.entries c.reply_to.ensures.kept c.reply_to.ensures.answer c.self.invariant
