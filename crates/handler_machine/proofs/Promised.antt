-- The declarations of a handler of a program are lawful at each desk.
use Rattle.std.proofs.Common.{◌+◌}
use Rattle.check_meaning.specs.Code.{Code, IsNumbered, points}
use Rattle.check_meaning.specs.Dialogue.{Env, entry, run}
use Rattle.declaration_insertion.specs.Promises.{ArePromised, Declarations}
use Rattle.handler_machine.specs.Serving.{Promises}
use Rattle.handler_machine.proofs.Counts.{counted, points_below}

pub promised : (code : Code) (declared : Declarations) (env : Env) → IsNumbered code 1 → ArePromised code declared env → Promises (1 + points code) declared (entry env) (run code env)
promised code declared env w p = record {
  within = points_below code w env;
  few = p.few;
  known = p.known;
  covered = p.covered;
  matched = p.matched;
  covers = λ rs front past held is more op k h. p.covers rs front past held is more op k h;
  counted = counted code env;
}
