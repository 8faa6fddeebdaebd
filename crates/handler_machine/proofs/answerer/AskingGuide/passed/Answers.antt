use Rattle.std.proofs.Common.{false}
use Rattle.check_meaning.specs.Dialogue.{env_of}
use Rattle.handler_machine.proofs.Asked.{asked_passed}
use Rattle.handler_machine.proofs.answerer.AskingGuide.passed.Goals as goal

pub returns : goal.returns
returns g c whole start next now =
    let A = g.A.Answerer in
    asked_passed A.Step A.shape A.sure whole start.1 c.args._host.now c.args._point (env_of c.args._env.now) false next now
