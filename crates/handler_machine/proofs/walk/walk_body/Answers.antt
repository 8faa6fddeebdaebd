use Rattle.std.proofs.Common.{sym, subst}
use Rattle.check_meaning.specs.Ahead.{Ahead, goes}
use Rattle.check_meaning.specs.Code.{block_code}
use Rattle.check_meaning.specs.Dialogue.{env_of}
use Rattle.check_meaning.proofs.Runs.{run_goes}
use Rattle.handler_machine.proofs.Wholes.{ends_on, ends_answered, ends_err}
use Rattle.handler_machine.proofs.walk.walk_body.Goals as goal

pub walk_rounds-requires-clause-serves : goal.walk_rounds-requires-clause-serves
walk_rounds-requires-clause-serves g c =
    let r = c.requires.serves in
    (r.0, r.1, goes, subst (λ (a : Ahead). g.G.Guide.Serves c.args.guide.now r.0 r.1 c.args.host.now a) (sym (run_goes (block_code c.args.body.now) (env_of c.args.env.now))) r.2)

pub returns-in_err-walk_rounds : goal.returns-in_err-walk_rounds
returns-in_err-walk_rounds g c whole start now =
    let led = c.walk_rounds.ensures whole start goes (subst (λ (a : Ahead). g.G.Guide.Serves c.args.guide.now whole start c.args.host.now a) (sym (run_goes (block_code c.args.body.now) (env_of c.args.env.now))) now) in
    ends_err (g.G.Guide.Serves c.walk_rounds.new.guide whole start c.walk_rounds.new.host) (g.G.Guide.Stops c.walk_rounds.new.guide whole start c.walk_rounds.new.host) (env_of c.walk_rounds.new.env) c.walk_rounds.new.reply c.walk_rounds.result led _ c.from_residual.result c.in_err-walk_rounds.was c.from_residual.ensures.0

pub returns-in-On : goal.returns-in-On
returns-in-On g c whole start now =
    let led = c.walk_rounds.ensures whole start goes (subst (λ (a : Ahead). g.G.Guide.Serves c.args.guide.now whole start c.args.host.now a) (sym (run_goes (block_code c.args.body.now) (env_of c.args.env.now))) now) in
    ends_on (g.G.Guide.Serves c.walk_rounds.new.guide whole start c.walk_rounds.new.host) (g.G.Guide.Stops c.walk_rounds.new.guide whole start c.walk_rounds.new.host) (env_of c.walk_rounds.new.env) c.walk_rounds.new.reply c.walk_rounds.result led _ c.nil_reply.result c.in_ok-walk_rounds.was c.in-On.is c.nil_reply.ensures

pub returns-in-Answered : goal.returns-in-Answered
returns-in-Answered g c whole start now =
    let led = c.walk_rounds.ensures whole start goes (subst (λ (a : Ahead). g.G.Guide.Serves c.args.guide.now whole start c.args.host.now a) (sym (run_goes (block_code c.args.body.now) (env_of c.args.env.now))) now) in
    ends_answered (g.G.Guide.Serves c.walk_rounds.new.guide whole start c.walk_rounds.new.host) (g.G.Guide.Stops c.walk_rounds.new.guide whole start c.walk_rounds.new.host) (env_of c.walk_rounds.new.env) c.walk_rounds.new.reply c.walk_rounds.result led _ c.in_ok-walk_rounds.was c.in-Answered.is
