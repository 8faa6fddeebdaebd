use Rattle.serve_faults.specs.Ways.{describing}
use Rattle.foresight_c.proofs.Endings.{given_by, none_by}
use Rattle.foresight_c.proofs.calling.answer_handlers.Goals as goal

pub returns-in-Ok : goal.returns-in-Ok
returns-in-Ok c = given_by (describing c.args.shown) _ _ _ _ _ _ _ _ c.in-Ok.ensures.text c.hand_text.ensures

pub returns-in-Err : goal.returns-in-Err
returns-in-Err c = none_by (describing c.args.shown) _ _ _ _ _ _ _ c.in-Err.status c.in-Err.ensures.ended c.hand_ending.ensures
