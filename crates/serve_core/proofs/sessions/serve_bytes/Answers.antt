use Rattle.std.proofs.Common.{◌≡◌, ◌≤◌, ◌∙◌, Some, rules, subst, sym}
use Rattle.session_values.specs.Limits.{max_requests}
use Rattle.session_hall.specs.Closings.{IsDone}
use Rattle.handler_machine.specs.Scripts.{ScriptsView, meaning}
use Rattle.reply_sheet.specs.Printable.{ArePrintableReplies}
use Rattle.hall_writing.specs.Jobs.{replies_of}
use Rattle.byte_ends.specs.Changes.{change}
use Rattle.serve_faults.specs.Input.{parts_of}
use Rattle.serve_single.proofs.FileLemmas.{can_serve, replies_print}
use Rattle.serve_core.specs.declared.writing.Writing.{Writing}
use Rattle.serve_core.specs.declared.writing.Writing.TheVariants.{AtEnd, Replies}
use Rattle.serve_core.specs.Serving.{EndsSession}
use Rattle.serve_core.proofs.FileLemmas.{loaded_ends}
use Rattle.serve_core.proofs.sessions.serve_bytes.Goals as goal

pub serve_then_write-requires-clause-can : goal.serve_then_write-requires-clause-can
serve_then_write-requires-clause-can g c κs within = can_serve (parts_of c.args.bytes.now) c.in-Ok.loaded c.in-Ok.ensures.loaded

pub serve_ready_lines-status-requires-clause-few : goal.serve_ready_lines-status-requires-clause-few
serve_ready_lines-status-requires-clause-few g c κs within =
    let can = can_serve (parts_of c.args.bytes.now) c.in-Ok.loaded c.in-Ok.ensures.loaded in
    subst (λ (v : ScriptsView). (meaning v).requests ≤ max_requests) (sym c.in-Ok-open_lines.ensures.script) can.servable.few

pub serve_ready_lines-status-requires-clause-printable : goal.serve_ready_lines-status-requires-clause-printable
serve_ready_lines-status-requires-clause-printable g c κs within =
    let can = can_serve (parts_of c.args.bytes.now) c.in-Ok.loaded c.in-Ok.ensures.loaded in
    subst (λ (v : ScriptsView). ArePrintableReplies c.in-Ok.loaded.names (replies_of (meaning v))) (sym c.in-Ok-open_lines.ensures.script) (replies_print c.in-Ok.loaded can)

pub open_lines-requires : goal.open_lines-requires
open_lines-requires g c = record { can = can_serve (parts_of c.args.bytes.now) c.in-Ok.loaded c.in-Ok.ensures.loaded }

pub returns-in-Ok-open_lines : goal.returns-in-Ok-open_lines
returns-in-Ok-open_lines g c =
    let out = change g.O.Sink.held g.O.Sink.faults c.args.out.now c.serve_ready_lines-status.new.out in
    let is : c.args.writing ≡ Replies = search rules in
    let opened = c.in-Ok-open_lines.ensures in
    let e = c.serve_ready_lines-status.ensures in
    let status = c.serve_ready_lines-status.result.0 in
    let closed = c.serve_ready_lines-status.result.1 in
    let done = subst (λ (v : ScriptsView). IsDone (meaning v) closed) opened.script e.done in
    subst (λ (w : Writing). EndsSession w c.args.sizes.callers c.args.sizes.shards c.args.bytes.now out status (Some closed)) (sym is)
    (loaded_ends Replies c.args.sizes.callers c.args.sizes.shards c.args.bytes.now c.in-Ok.loaded out status (Some closed) c.in-Ok.ensures.input c.in-Ok.ensures.loaded
    (record { done = done; callers_are = e.callers_are ∙ opened.callers; shards_are = e.shards_are ∙ opened.shards; left = e.left; ends = e.ends }))

pub returns : goal.returns
returns g c =
    let out = change g.O.Sink.held g.O.Sink.faults c.args.out.now c.serve_then_write.new.out in
    let is : c.args.writing ≡ AtEnd c.in-AtEnd.later = search rules in
    let r = c.serve_then_write.result in
    subst (λ (w : Writing). EndsSession w c.args.sizes.callers c.args.sizes.shards c.args.bytes.now out r.status r.closed) (sym is)
    (loaded_ends (AtEnd c.in-AtEnd.later) c.args.sizes.callers c.args.sizes.shards c.args.bytes.now c.in-Ok.loaded out r.status r.closed c.in-Ok.ensures.input c.in-Ok.ensures.loaded c.serve_then_write.ensures)
