use Rattle.foresight_c.proofs.Serving.{dumps_on}
use Rattle.foresight_c.proofs.session_exports.foresight_session_dump.Goals as goal

pub returns-in-Some : goal.returns-in-Some
returns-in-Some c = dumps_on _ _ c.in-Some.desk.value c.deref.result.now _ _ _ _ _ _ c.in-Some.ensures.value c.of.ensures c.deref.ensures c.dump-number.ensures
