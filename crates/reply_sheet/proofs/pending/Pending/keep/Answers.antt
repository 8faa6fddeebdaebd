-- The reply is set at its place, where none was kept.
use Rattle.std.proofs.Common.{◌≡◌, ℕ, ◌+◌, ◌-◌, ◌<◌, ◌≤◌, ◌++◌, None, Some, length, replicate, slice_set, take, ap, ◌∙◌, arith}
use Rattle.reply_sheet.specs.Pending.{PendingView, waiting_of, with_kept}
use Rattle.reply_sheet.proofs.PendingLemmas.{Kept, filled_same, kept_there, missing_there, padded, waiting_long}
use Rattle.reply_sheet.proofs.pending.Pending.keep.Goals.{then-place-len+in-Ok, else-place-len}
use Rattle.reply_sheet.proofs.pending.Pending.keep.Goals as goal

pub returns-then-is_none-clause-kept : goal.returns-then-is_none-clause-kept
returns-then-is_none-clause-kept c =
    let s = c.self.inside in
    let place : ℕ = c.args.ticket - s.first in
    let ls = c.if-place-len.self-inside.kept.items in
    let is = c.self.invariant in
    let high : s.next ≤ c.args.ticket = (let no = c.if-ticket-self.false in omega (arith, no)) in
    let few : length s.kept.items ≤ s.tickets - s.first = (let l = is.2 in omega (arith, l)) in
    let room : place + 1 ≤ s.tickets - s.first = (let r = c.requires in let v = ap (λ (p : PendingView). p.next + length p.waiting) c.self.view_is in let l = waiting_long s.kept.items (s.next - s.first) (s.tickets - s.first) few in let low = is.0 in let top = is.1 in omega (arith, r, v, l, low, top, few, high)) in
    let same : padded ls (s.tickets - s.first) ≡ padded s.kept.items (s.tickets - s.first) = elim c.if-place-len.branch [
      | then-place-len+in-Ok w ↦ ap (λ x. padded x.kept.items (s.tickets - s.first)) w.self-inside-is ∙ ap (λ (ks : Kept). padded ks (s.tickets - s.first)) w.in-Ok.ensures.items
          ∙ ap (λ (n : ℕ). padded (take (place + 1) s.kept.items ++ replicate (place + 1 - n) None) (s.tickets - s.first)) s.kept.ok.0
          ∙ filled_same s.kept.items (place + 1) (s.tickets - s.first) (let l = c.len.ensures in let t = w.if-place-len.true in let k = s.kept.ok.0 in omega (arith, l, t, k)) room
      | else-place-len w ↦ ap (λ x. padded x.kept.items (s.tickets - s.first)) w.self-inside-is
    ] in
    let first : c.if-place-len.self-inside.first ≡ s.first = elim c.if-place-len.branch [ then-place-len+in-Ok w ↦ ap (λ x. x.first) w.self-inside-is | else-place-len w ↦ ap (λ x. x.first) w.self-inside-is ] in
    let next : c.if-place-len.self-inside.next ≡ s.next = elim c.if-place-len.branch [ then-place-len+in-Ok w ↦ ap (λ x. x.next) w.self-inside-is | else-place-len w ↦ ap (λ x. x.next) w.self-inside-is ] in
    let tickets : c.if-place-len.self-inside.tickets ≡ s.tickets = elim c.if-place-len.branch [ then-place-len+in-Ok w ↦ ap (λ x. x.tickets) w.self-inside-is | else-place-len w ↦ ap (λ x. x.tickets) w.self-inside-is ] in
    let within : place < length ls = elim c.if-place-len.branch [
      | then-place-len+in-Ok w ↦ (let e = ap (λ x. length x.kept.items) w.self-inside-is in let l = w.in-Ok.ensures.len in let k = w.resize.new.self.ok.0 in omega (arith, e, l, k))
      | else-place-len w ↦ (let e = ap (λ x. length x.kept.items) w.self-inside-is in let l = c.len.ensures in let t = w.if-place-len.false in let k = s.kept.ok.0 in omega (arith, e, l, t, k))
    ] in
    let all = kept_there s.kept.items ls s.first s.next s.tickets c.args.ticket c.args.reply is.0 high within same (missing_there ls place c.index.result.now c.index.ensures c.if-is_none.ensures) in
    (λ i. record { next = next i; waiting = waiting_of (slice_set ls place (Some c.args.reply)) (next i - first i) (tickets i - first i) })
    ∙ all ∙ ap (λ (p : PendingView). with_kept p c.args.ticket c.args.reply) c.self.view_is
