use Rattle.handler_machine.specs.Scripts.{meaning}
use Rattle.serve_single.specs.Auditing.{script_of_audited}
use Rattle.serve_single.proofs.auditing.write_verdict.Goals as goal

pub verdict_line-line-requires : goal.verdict_line-line-requires
verdict_line-line-requires g c = (meaning (script_of_audited c.args.audited.now), c.requires)
