use Rattle.std.proofs.Common.{List, ℕ, Some, rules, subst}
use Rattle.serve_faults.specs.Answer.{CommandAnswers}
use Rattle.serve_faults.specs.Answer as answer
use Rattle.serve_faults.specs.Command.TheVariants.{Ranges}
use Rattle.foresight_c.proofs.Endings.{none_by, whole_by}
use Rattle.foresight_c.proofs.calling.answer_ranges.Goals as goal

pub returns-in-Ok : goal.returns-in-Ok
returns-in-Ok c =
    whole_by Ranges c.args.text.now c.as_slice.result.now _ _ _ _ _ _ (subst (λ (t : List ℕ). CommandAnswers (Some Ranges) c.args.text.now (answer.Text t)) (search rules) c.in-Ok.ensures.text) c.hand_over.ensures

pub returns-in-Err : goal.returns-in-Err
returns-in-Err c = none_by Ranges _ _ _ _ _ _ _ c.in-Err.status c.in-Err.ensures.ended c.hand_ending.ensures
