use Rattle.std.proofs.Common.{◌≡◌, ◌≤◌, ℕ, List, length, sym, ap, ◌∙◌, subst}
use Rattle.session_values.specs.Limits.{max_requests}
use Rattle.session_values.specs.declared.reply.Reply.{Reply}
use Rattle.reply_sheet.specs.Printable.{ArePrintableReplies}
use Rattle.reply_sheet.specs.declared.arrival.Arrival.{Arrival}
use Rattle.serve_core.proofs.GatherLemmas.{served_few, served_long, served_print}
use Rattle.serve_core.proofs.gathering.write_served.Goals as goal

pub write_clients-whole-requires-clause-replied : goal.write_clients-whole-requires-clause-replied
write_clients-whole-requires-clause-replied g c =
    ap (λ (xs : List Arrival). length xs) c.arrivals.ensures
    ∙ served_long c.args.loaded.now c.args.sizes.callers c.args.sizes.shards c.args.served c.requires.served
    ∙ ap (λ (xs : List Reply). length xs) (sym c.replies.ensures)

pub write_clients-whole-requires-clause-few : goal.write_clients-whole-requires-clause-few
write_clients-whole-requires-clause-few g c =
    subst (λ (xs : List Reply). length xs ≤ max_requests) (sym c.replies.ensures)
    (served_few c.args.loaded.now c.args.sizes.callers c.args.sizes.shards c.args.served c.requires.can c.requires.served)

pub write_clients-whole-requires-clause-printable :
    goal.write_clients-whole-requires-clause-printable
write_clients-whole-requires-clause-printable g c =
    subst (ArePrintableReplies c.args.loaded.now.names) (sym c.replies.ensures)
    (served_print c.args.loaded.now c.args.sizes.callers c.args.sizes.shards c.args.served c.requires.can c.requires.served)
