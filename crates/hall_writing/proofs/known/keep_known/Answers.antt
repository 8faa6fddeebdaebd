-- One more reply is kept, up to the first that hasn't ended.
use Rattle.std.proofs.Common.{◌≡◌, ◌∙◌, ◌<◌, ◌≤◌, ℕ, inl, inr, Option, None, IsSome, refl, sym, subst, arith}
use Rattle.std.proofs.lemmas.Bool.{cases_lt}
use Rattle.std.proofs.lemmas.Option.{slice_get_within}
use Rattle.session_values.specs.declared.reply.Reply.{Reply}
use Rattle.session_journal.specs.Journal.{ended}
use Rattle.session_hall.specs.Holdings.{present_book}
use Rattle.session_hall.specs.Names.{script_of}
use Rattle.reply_sheet.specs.Pending.{PendingView}
use Rattle.hall_writing.specs.Jobs.{replies_of}
use Rattle.hall_writing.specs.Sheets.{IsKept, KeepsEnded}
use Rattle.hall_writing.proofs.Sheets.{keeps_more, keeps_own, keeps_still, next_kept}
use Rattle.hall_writing.proofs.known.keep_known.Goals as goal

no_some : (o : Option Reply) → o ≡ None → IsSome o → ⊥
no_some o e s = none (subst (λ (x : Option Reply). IsSome x) e s)
  where
    none : IsSome {T = Reply} None → ⊥
    none h = cc

module _ (p q : PendingView) (n : ℕ) (next : q.next ≡ p.next) (run : (t : ℕ) → p.next ≤ t → t < n → IsKept q t) where
  below : (t : ℕ) → t < n → IsKept q t
  below t l = elim (cases_lt t p.next) [ inl low ↦ inl (omega (arith, low, next)) | inr high ↦ run t high l ]

  ended_to : (many : ℕ) (known : ℕ → Option Reply) → p.next ≤ n → known n ≡ None → KeepsEnded many p.next known q
  ended_to many known far none t few all = elim (cases_lt t n) [ inl l ↦ below t l | inr h ↦ absurd (no_some (known n) none (all n far h)) ]

  ended_all : (many : ℕ) (known : ℕ → Option Reply) → many ≤ n → KeepsEnded many p.next known q
  ended_all many known far t few all = below t (omega (arith, few, far))

pub loop-ticket-init : goal.loop-ticket-init
loop-ticket-init g c = record {
  keeps = c.requires.keeps;
  still = λ t k. k;
  next = refl;
  run = λ t a b. absurd (omega (arith, a, b, c.next-ticket.ensures));
}

pub returns-in_default-clause-keeps : goal.returns-in_default-clause-keeps
returns-in_default-clause-keeps g c = c.loop-ticket.invariant.keeps

pub returns-in_default-clause-still : goal.returns-in_default-clause-still
returns-in_default-clause-still g c = c.loop-ticket.invariant.still

pub returns-in_default-clause-next : goal.returns-in_default-clause-next
returns-in_default-clause-next g c = c.loop-ticket.invariant.next

pub returns-in_default-clause-ended : goal.returns-in_default-clause-ended
returns-in_default-clause-ended g c =
    let inv = c.loop-ticket.invariant in
    ended_to c.args.pending.now c.loop-ticket.pending c.loop-ticket.ticket inv.next inv.run _ (λ t. ended (present_book c.args.holding.now).journal t) (omega (arith, c.loop-ticket.auto.ticket, c.next-ticket.ensures)) (sym c.in_default.ensures.ended)

pub keep-requires : goal.keep-requires
keep-requires g c =
    let there = c.in-Some.ensures.serial in
    let low = slice_get_within (replies_of (g.S.Tickets.meaning (script_of c.args.hall.now))) c.loop-ticket.ticket c.in-Some.reply there in
    omega (arith, low, c.loop-ticket.invariant.keeps.room)

pub loop-ticket-preserved : goal.loop-ticket-preserved
loop-ticket-preserved g c =
    let inv = c.loop-ticket.invariant in
    let t = c.loop-ticket.ticket in
    let r = c.in-Some.reply in
    let was = c.loop-ticket.pending in
    let now = c.keep.new.self in
    let replies = replies_of (g.S.Tickets.meaning (script_of c.args.hall.now)) in
    let there = c.in-Some.ensures.serial in
    let kept = c.keep.ensures.kept in
    let long = slice_get_within replies t r there in
    let own : IsKept now t = keeps_own was now t r kept (omega (arith, long, inv.keeps.room)) in
    record {
      keeps = keeps_more replies was now t r inv.keeps there kept c.keep.ensures.room;
      still = λ u h. keeps_still was now t r kept u (inv.still u h);
      next = next_kept was now t r kept ∙ inv.next;
      run = λ u a b. elim (cases_lt u t) [
        | inl l ↦ keeps_still was now t r kept u (inv.run u a l)
        | inr h ↦ (let same : t ≡ u = omega (arith, h, b) in subst (IsKept now) same own)
      ];
    }

pub returns-clause-keeps : goal.returns-clause-keeps
returns-clause-keeps g c = c.loop-ticket.invariant.keeps

pub returns-clause-still : goal.returns-clause-still
returns-clause-still g c = c.loop-ticket.invariant.still

pub returns-clause-next : goal.returns-clause-next
returns-clause-next g c = c.loop-ticket.invariant.next

pub returns-clause-ended : goal.returns-clause-ended
returns-clause-ended g c =
    let inv = c.loop-ticket.invariant in
    ended_all c.args.pending.now c.loop-ticket.pending c.loop-ticket.ticket inv.next inv.run _ (λ t. ended (present_book c.args.holding.now).journal t) (omega (arith, c.requires.few, c.loop-ticket-test.false))
