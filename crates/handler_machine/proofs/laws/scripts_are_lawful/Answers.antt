use Rattle.std.proofs.Common.{refl}
use Rattle.handler_machine.proofs.Lawful.{is_script}
use Rattle.handler_machine.proofs.laws.scripts_are_lawful.Goals as goal

pub returns : goal.returns
returns c = record { session = λ s. refl; lawful = is_script }
