use Rattle.std.proofs.Common.{IfOk, OnErr, sym, subst}
use Rattle.check_meaning.specs.Code.{block_code}
use Rattle.check_meaning.specs.Dialogue.{Env, env_of, next, run}
use Rattle.check_meaning.specs.Keeps.{CallsFit}
use Rattle.handler_machine.specs.Asking.{Runs, Breaks}
use Rattle.handler_machine.proofs.Asked.{asked_first, whole_runs, whole_breaks, whole_unsure, whole_stays}
use Rattle.handler_machine.proofs.answerer.run_body.Goals as goal

pub walk_body-requires-clause-serves : goal.walk_body-requires-clause-serves
walk_body-requires-clause-serves g c =
    let A = g.A.Answerer in
    let code = block_code c.args.body.now in
    let whole = run code (env_of c.set_up.new.env) in
    (whole, (record {}, c.args.who.now), asked_first A.Step A.shape A.sure whole c.args.who.now (subst (λ (e : Env). CallsFit (A.shape c.args.who.now) (next code e)) (sym c.set_up.ensures.values) c.requires.fits))

pub returns : goal.returns
returns g c =
    let A = g.A.Answerer in
    let code = block_code c.args.body.now in
    let old = c.args.who.now in
    let new = c.walk_body.new.host in
    let r = c.walk_body.result in
    let whole = run code (env_of c.set_up.new.env) in
    let led = c.walk_body.ensures whole (record {}, old) (asked_first A.Step A.shape A.sure whole old (subst (λ (e : Env). CallsFit (A.shape old) (next code e)) (sym c.set_up.ensures.values) c.requires.fits)) in
    record {
      runs = subst (λ (e : Env). IfOk r (λ reply. Runs A.Step (next code e) old new reply)) c.set_up.ensures.values (whole_runs A.Step A.shape A.sure whole old new r led);
      breaks = subst (λ (e : Env). OnErr r (Breaks A.Step (next code e) old new)) c.set_up.ensures.values (whole_breaks A.Step A.shape A.sure whole old new r led);
      unsure = whole_unsure A.Step A.shape A.sure whole old new r led;
      stays = whole_stays A.Step A.shape A.sure whole old new r led;
    }
