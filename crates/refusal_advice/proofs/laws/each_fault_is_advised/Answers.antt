use Rattle.refusal_advice.proofs.Faults.{fault_stands}
use Rattle.refusal_advice.proofs.laws.each_fault_is_advised.Goals as goal

pub returns : goal.returns
returns c = fault_stands
