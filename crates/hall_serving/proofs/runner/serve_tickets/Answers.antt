use Rattle.std.proofs.Common.{rules, ◌≡◌, ◌∙◌}
use Rattle.session_journal.specs.Journal.{ended}
use Rattle.session_hall.specs.Holdings.{StaysHolding, begun_at, present_book}
use Rattle.hall_serving.specs.KeptJobs.{SeesAndGives}
use Rattle.hall_serving.proofs.Running.{one_given, then_waited, waited_unseen}
use Rattle.hall_serving.proofs.runner.serve_tickets.Goals.{then-takes_long, else-takes_long}
use Rattle.hall_serving.proofs.runner.serve_tickets.Goals as goal

-- whoever has the book then, the ticket is the last that was begun
pub after-requires-clause-last : goal.after-requires-clause-last
after-requires-clause-last g c =
    let p = c.serve_next_kept.new.holding in
    let q = c.if-takes_long.holding in
    let left : begun_at q ≡ begun_at p = elim c.if-takes_long.branch [ then-takes_long w ↦ search rules | else-takes_long w ↦ search rules ] in
    record {
      before = begun_at c.hold_meanwhile.new.holding;
      begun_is = left ∙ c.in-Some-serve_next_kept.ensures.served.begun_more;
    }

-- and whatever may take long finds the book given back
pub after-requires-clause-unkept : goal.after-requires-clause-unkept
after-requires-clause-unkept g c long = elim c.if-takes_long.branch [
  | then-takes_long w ↦ search rules
  | else-takes_long w ↦ search rules
]

pub loop-preserved : goal.loop-preserved
loop-preserved g c =
    let t = c.in-Some-serve_next_kept.ticket in
    let p = c.serve_next_kept.new.holding in
    let q = c.if-takes_long.holding in
    let seen = g.A.AfterEnd.Seen in
    let given_on = g.A.AfterEnd.Given in
    let waited = then_waited (SeesAndGives seen given_on) c.args.holding.now c.loop.holding c.hold_meanwhile.new.holding c.args.after.now c.loop.after c.hold_meanwhile.new.after
    c.loop.invariant.given c.hold_meanwhile.ensures.still.begun_still (waited_unseen seen given_on c.loop.after c.hold_meanwhile.new.after c.hold_meanwhile.ensures.waited) in
    let left : StaysHolding g.S.Tickets.meaning c.args.crew.hall.now p q × (q.caller.stage ≡ p.caller.stage) × (begun_at q ≡ begun_at p) =
    elim c.if-takes_long.branch [ then-takes_long w ↦ search rules | else-takes_long w ↦ search rules ] in
    record {
      holding = search (rules, left);
      between = search (rules, left);
      takes = search rules;
      given = one_given (SeesAndGives seen given_on) c.args.holding.now c.hold_meanwhile.new.holding q c.args.after.now c.hold_meanwhile.new.after c.after.new.self waited t
          (left.2 ∙ c.in-Some-serve_next_kept.ensures.served.begun_more)
          (c.see.new.self, λ u. ended (present_book c.hold_meanwhile.new.holding).journal u, c.see.ensures.seen, c.after.ensures.given);
    }

pub returns-in_default-clause-given : goal.returns-in_default-clause-given
returns-in_default-clause-given g c =
    let seen = g.A.AfterEnd.Seen in
    let given_on = g.A.AfterEnd.Given in
    record {
      last = c.hold_meanwhile.new.after;
      all = then_waited (SeesAndGives seen given_on) c.args.holding.now c.loop.holding c.serve_next_kept.new.holding c.args.after.now c.loop.after c.hold_meanwhile.new.after
          c.loop.invariant.given (c.in_default.ensures.served.begun_still ∙ c.hold_meanwhile.ensures.still.begun_still) (waited_unseen seen given_on c.loop.after c.hold_meanwhile.new.after c.hold_meanwhile.ensures.waited);
      known = λ u. ended (present_book c.hold_meanwhile.new.holding).journal u;
      via = c.see.new.self;
      sees = c.see.ensures.seen;
      goes_on = c.meanwhile.ensures.given;
    }
