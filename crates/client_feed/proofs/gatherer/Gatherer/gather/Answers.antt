-- Gathering begins, goes on and ends.
use Rattle.std.proofs.Common.{◌≡◌, ℕ, suc, ◌-◌, ◌<◌, inl, inr, sym, subst, arith}
use Rattle.reply_sheet.specs.Arrivals.{IsDrawn}
use Rattle.client_feed.specs.Ends.{GathererView}
use Rattle.client_feed.proofs.Gathering.{Gathering, ended, no_none, one_more, some_left, starts}
use Rattle.client_feed.proofs.gatherer.Gatherer.gather.Goals.{then-most-left, else-most-left, in-None, in-Some+then-wanted-eq0}
use Rattle.client_feed.proofs.gatherer.Gatherer.gather.Goals as goal

pub loop-init : goal.loop-init
loop-init g c =
    elim c.if-most-left.branch [
      | then-most-left w ↦ starts c.args.self.now c.args.out.now c.args.most c.left-left.result c.if-most-left.wanted c.left-left.ensures.left (inl (w.wanted-is, w.if-most-left.true)) c.requires
      | else-most-left w ↦ starts c.args.self.now c.args.out.now c.args.most c.left-left.result c.if-most-left.wanted c.left-left.ensures.left (inr (w.wanted-is, w.if-most-left.false)) c.requires
    ]

pub take_next-requires : goal.take_next-requires
take_next-requires g c =
    let some : 0 < c.loop.wanted = omega (arith, c.if-wanted-eq0.false) in
    some_left c.args.self.now c.loop.self c.args.out.now c.loop.out c.args.most c.loop.wanted some c.loop.invariant

pub push-requires : goal.push-requires
push-requires g c =
    let some : 0 < c.loop.wanted = omega (arith, c.if-wanted-eq0.false) in
    omega (arith, some, c.loop.invariant.fits)

pub loop-preserved : goal.loop-preserved
loop-preserved g c =
    let P : GathererView → Type 0 = λ v. Gathering c.args.self.now v c.args.out.now c.loop.out c.args.most c.loop.wanted in
    subst P (sym c.in_default.ensures) c.loop.invariant

pub loop-preserved-in-Some-take_next : goal.loop-preserved-in-Some-take_next
loop-preserved-in-Some-take_next g c =
    let P : ℕ → Type 0 = λ n. Gathering c.args.self.now c.loop.self c.args.out.now c.loop.out c.args.most n in
    let e : c.loop.wanted ≡ suc (c.loop.wanted - 1) = omega (arith, c.if-wanted-eq0.false) in
    one_more c.args.self.now c.loop.self c.args.out.now c.loop.out c.args.most (c.loop.wanted - 1) c.in-Some-take_next.next c.take_next.new.self c.push.new.self (subst P e c.loop.invariant) c.in-Some-take_next.ensures c.push.ensures

pub returns-clause-gathered : goal.returns-clause-gathered
returns-clause-gathered g c =
    elim c.match-next.branch [
      | in-None w ↦ absurd (no_none c.next.result w.in-None.is c.next.ensures.steps)
      | in-Some+then-wanted-eq0 w ↦ (let P : ℕ → Type 0 = λ n. Gathering c.args.self.now c.loop.self c.args.out.now c.loop.out c.args.most n in ended c.args.self.now c.loop.self c.args.out.now c.loop.out c.args.most (subst P w.if-wanted-eq0.true c.loop.invariant))
    ]

pub returns-clause-drawn : goal.returns-clause-drawn
returns-clause-drawn g c =
    let P : GathererView → Type 0 = λ v. IsDrawn v.counts v.got in
    subst P c.self-2.view_is c.self-2.invariant.2
