use Rattle.std.proofs.Common.{rules, ℕ, List, [], ◌∷◌, ◌++◌, ap, ◌∙◌}
use Rattle.hall_serving.proofs.KeptHomes.{serves_kept}
use Rattle.hall_serving.proofs.kept_next.serve_next_kept.Goals as goal

pub returns-clause-served : goal.returns-clause-served
returns-clause-served g c =
    let more = c.serve_kept-reply.ensures.begun ∙ c.in-Some.ensures.began.begun_more ∙ ap (λ (l : List ℕ). l ++ c.in-Some.ticket ∷ []) c.keep.ensures.still.begun_still in
    serves_kept c.answering.ensures c.foreknowing.ensures g.S.Tickets.meaning c.args.crew.hall.now c.args.holding.now c.serve_kept-reply.new.holding c.args.crew.plan.now c.in-Some.ticket c.serve_kept-reply.result
    c.serve_kept-reply.ensures.holding.0 more c.args.crew.same (search rules) c.serve_kept-reply.ensures.idle c.serve_kept-reply.ensures.known
