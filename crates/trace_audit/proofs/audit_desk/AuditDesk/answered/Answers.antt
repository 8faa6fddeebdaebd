use Rattle.std.proofs.Common.{arith}
use Rattle.trace_audit.proofs.Keeps.{field_answered, field_keeps}
use Rattle.trace_audit.proofs.audit_desk.AuditDesk.answered.Goals as goal

pub index_mut-requires : goal.index_mut-requires
index_mut-requires g c = omega (arith, (c.self.invariant.set c.in-Some.t c.in-Some.is).0, c.self.invariant.count, c.self.inside.tickets.ok)

pub invariant_of-self : goal.invariant_of-self
invariant_of-self g c = field_keeps g.S.Script.meaning _ _ _ _ _ _ c.index_mut.result.now c.answered.new.self _ c.self.view_is c.in-Some.is c.index_mut.ensures.value c.answered.ensures c.requires c.self.invariant

pub returns : goal.returns
returns g c = field_answered _ _ _ _ _ _ _ c.index_mut.result.now c.answered.new.self _ c.self.view_is c.in-Some.is c.index_mut.ensures.value c.answered.ensures c.self.invariant
