use Rattle.std.proofs.Common.{◌≡◌, List, ℕ, refl, rules, subst, sym}
use Rattle.serve_words.specs.declared.command.Command.TheVariants.{Work}
use Rattle.serve_words.specs.Session.{session_text}
use Rattle.byte_ends.specs.Changes.{change}
use Rattle.serve_core.specs.declared.outcome.Outcome.{Outcome}
use Rattle.serve_core.specs.declared.writing.Later.TheVariants.{Summary}
use Rattle.serve_core.specs.declared.writing.Writing.TheVariants.{AtEnd}
use Rattle.serve_core.specs.Runs.{AnswersTo}
use Rattle.serve_core.specs.Serving.{EndsSession}
use Rattle.serve_core.proofs.EndLemmas.{memory_to}
use Rattle.serve_core.proofs.SessionEnds.{work_answers}
use Rattle.serve_core.proofs.working.work.Goals as goal

pub returns-in-Ok : goal.returns-in-Ok
returns-in-Ok g c =
    let out = change g.O.Sink.held g.O.Sink.faults c.args.out.now c.serve_bytes.new.out in
    let made : c.as_bytes.result.now ≡ session_text c.args.requests c.args.start = search (rules, c.in-Ok.ensures.text) in
    let ends = subst (λ (b : List ℕ). EndsSession (AtEnd (Summary c.args.requests)) 4 4 b out c.serve_bytes.result.status c.serve_bytes.result.closed) made c.serve_bytes.ensures in
    λ bytes. work_answers c.args.requests c.args.start bytes out c.serve_bytes.result.status c.serve_bytes.result.closed ends

pub returns-in-Err : goal.returns-in-Err
returns-in-Err g c =
    let out = change g.O.Sink.held g.O.Sink.faults c.args.out.now c.args.out.now in
    λ bytes. subst (λ (o : Outcome). AnswersTo (Work c.args.requests c.args.start) bytes out o.status o.closed) (sym c.unserved.ensures) (memory_to (Work c.args.requests c.args.start) bytes out refl)
