use Rattle.std.proofs.Common.{◌≡◌, ap, sym, ◌∙◌, subst}
use Rattle.session_journal.specs.Script.{Meaning}
use Rattle.handler_machine.specs.Scripts.{ScriptsView, meaning}
use Rattle.trace_audit.specs.Desk.{AuditView, MayAnswer}
use Rattle.trace_audit.proofs.Running.{events_are, may_answer, run_next, script_is}
use Rattle.trace_audit.proofs.sessions.run_ticket.Goals as goal

pub answered-requires : goal.answered-requires
answered-requires c =
    let m : Meaning = meaning c.args.scripts.now in
    let same : c.run_ticket.new.who.script ≡ c.args.scripts.now = script_is m c.args.t c.args.desk.now c.turn.new.self c.run_ticket.new.who c.in-Ok.reply c.requires.run c.requires.exists c.turn.ensures c.in-Ok.ensures.runs ∙ c.requires.script in
    subst (λ (s : ScriptsView). MayAnswer (meaning s) c.run_ticket.new.who c.in-Ok.reply) (sym same)
    (may_answer m c.args.t c.args.desk.now c.turn.new.self c.run_ticket.new.who c.in-Ok.reply c.requires.run c.requires.exists c.turn.ensures c.in-Ok.ensures.runs c.requires.lawful)

pub returns-clause-script : goal.returns-clause-script
returns-clause-script c =
    ap (λ (d : AuditView ScriptsView). d.script) c.answered.ensures
    ∙ script_is (meaning c.args.scripts.now) c.args.t c.args.desk.now c.turn.new.self c.run_ticket.new.who c.in-Ok.reply c.requires.run c.requires.exists c.turn.ensures c.in-Ok.ensures.runs

pub returns-clause-events : goal.returns-clause-events
returns-clause-events c =
    ap (λ (d : AuditView ScriptsView). d.events) c.answered.ensures
    ∙ events_are (meaning c.args.scripts.now) c.args.t c.args.desk.now c.turn.new.self c.run_ticket.new.who c.in-Ok.reply c.requires.run c.requires.exists c.turn.ensures c.in-Ok.ensures.runs

pub returns-clause-run : goal.returns-clause-run
returns-clause-run c =
    run_next (meaning c.args.scripts.now) c.args.t c.args.desk.now c.turn.new.self c.run_ticket.new.who c.in-Ok.reply c.requires.run c.requires.exists c.turn.ensures c.in-Ok.ensures.runs c.answered.new.self c.answered.ensures
