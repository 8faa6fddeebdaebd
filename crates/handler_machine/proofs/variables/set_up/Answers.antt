use Rattle.std.proofs.Common.{◌∙◌}
use Rattle.handler_machine.proofs.Answering.{same_values}
use Rattle.handler_machine.proofs.variables.set_up.Goals as goal

pub returns-clause-values : goal.returns-clause-values
returns-clause-values c = same_values c.clear_from.new.env c.args.args.now (λ k h. c.clear_from.ensures.kept k h ∙ c.put_args.ensures.values k h) c.clear_from.ensures.nil
