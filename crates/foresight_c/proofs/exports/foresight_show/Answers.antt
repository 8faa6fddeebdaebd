use Rattle.foresight_c.proofs.exports.foresight_show.Goals as goal

pub returns : goal.returns
returns c = c.answer_call.ensures 0 0
