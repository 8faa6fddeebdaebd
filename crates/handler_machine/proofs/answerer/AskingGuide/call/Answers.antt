use Rattle.handler_machine.proofs.Asked.{match_map, asked_fits, asked_more, asked_stop}
use Rattle.handler_machine.proofs.answerer.AskingGuide.call.Goals as goal

pub answer-requires : goal.answer-requires
answer-requires g c =
    let A = g.A.Answerer in
    let s = c.requires in
    asked_fits A.Step A.shape A.sure s.0 s.1.1 c.args.host.now c.args.op s.2 s.3

pub returns : goal.returns
returns g c whole start next now =
    let A = g.A.Answerer in
    match_map c.answer.result _ _ _ _
    (λ v h. asked_more A.Step A.shape A.sure whole start.1 c.args.host.now c.answer.new.self c.args.op next v now c.answer.ensures.stays h)
    (λ e h. asked_stop A.Step A.shape A.sure whole start.1 c.args.host.now c.answer.new.self _ now c.answer.ensures.stays h.0 h.1) c.answer.ensures.step
