use Rattle.handler_check.specs.Dialogue.{env_of, next}
use Rattle.handler_check.specs.Resolved.{code_at}
use Rattle.live_session.proofs.Runs.{run_factors, served_whole}
use Rattle.live_session.proofs.running.run_alone.Goals as goal

pub returns-clause-answer : goal.returns-clause-answer
returns-clause-answer c =
    (served_whole (code_at c.args.checked.now c.args.h) (env_of c.args.args.now) c.args.tables.now c.run_handler.new.who c.in-Ok.reply c.in-Ok.ensures.runs c.requires.room).0

pub returns-clause-after : goal.returns-clause-after
returns-clause-after c =
    (served_whole (code_at c.args.checked.now c.args.h) (env_of c.args.args.now) c.args.tables.now c.run_handler.new.who c.in-Ok.reply c.in-Ok.ensures.runs c.requires.room).1

pub returns-clause-values : goal.returns-clause-values
returns-clause-values c =
    (served_whole (code_at c.args.checked.now c.args.h) (env_of c.args.args.now) c.args.tables.now c.run_handler.new.who c.in-Ok.reply c.in-Ok.ensures.runs c.requires.room).2

pub returns-clause-factors : goal.returns-clause-factors
returns-clause-factors c =
    run_factors (next (code_at c.args.checked.now c.args.h) (env_of c.args.args.now)) c.args.tables.now c.run_handler.new.who c.in-Ok.reply c.in-Ok.ensures.runs
