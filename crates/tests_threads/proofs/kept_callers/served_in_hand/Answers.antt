use Rattle.std.proofs.Common.{◌≡◌, ◌∙◌, None, sym, ap, arith, subst}
use Rattle.session_journal.specs.Script.{Meaning}
use Rattle.session_hall.specs.declared.caller.Caller.{Caller}
use Rattle.session_hall.specs.declared.hall.Hall.{Hall}
use Rattle.session_hall.specs.declared.holding.Holding.{Holding}
use Rattle.session_hall.specs.Callers.{IsCallerOf}
use Rattle.session_hall.specs.Closings.{Leaves}
use Rattle.session_hall.specs.Holdings.{IsHoldingOf, IsHoldingWith}
use Rattle.session_hall.specs.Names.{id_of, hall_name, script_of}
use Rattle.session_hall.proofs.Moving.{first_at}
use Rattle.tests_threads.proofs.OneCaller.{between, one_leaves}
use Rattle.tests_threads.proofs.kept_callers.served_in_hand.Goals as goal

-- without a book in hand a holding is its caller, and no more
taken : {S : Type 0} (meaning : S → Meaning) (h : Hall S) (a : Caller S) (y : Holding S) → y.caller ≡ a → y.book ≡ None → IsCallerOf meaning h a → IsHoldingOf meaning h y
taken {S} meaning h a y of none is =
    let Q : Caller S → Type 0 = λ d. IsCallerOf meaning h d in
    subst (λ b. IsHoldingWith meaning (id_of (hall_name h)) (script_of h) y.caller b) (sym none) (subst Q (sym of) is)

given : {S : Type 0} (meaning : S → Meaning) (h : Hall S) (a : Caller S) (y : Holding S) → a ≡ y.caller → y.book ≡ None → IsHoldingOf meaning h y → IsCallerOf meaning h a
given {S} meaning h a y of none is =
    let Q : Caller S → Type 0 = λ d. IsCallerOf meaning h d in
    subst Q (sym of) (subst (λ b. IsHoldingWith meaning (id_of (hall_name h)) (script_of h) y.caller b) none is)

pub serve_both-first-requires-clause-holding : goal.serve_both-first-requires-clause-holding
serve_both-first-requires-clause-holding g c κs within =
    let one = c.requires.one in
    let long = one.count in
    let first = one.opens 0 c.remove.result (first_at c.args.left.items c.remove.result (omega (arith, long)) c.remove.ensures.value) in
    taken g.S.Tickets.meaning c.args.hall c.remove.result c.over-holding.result c.over-holding.ensures.caller c.over-holding.ensures.none first.caller

pub serve_both-first-requires-clause-stage : goal.serve_both-first-requires-clause-stage
serve_both-first-requires-clause-stage g c κs within =
    let one = c.requires.one in
    let long = one.count in
    let first = one.opens 0 c.remove.result (first_at c.args.left.items c.remove.result (omega (arith, long)) c.remove.ensures.value) in
    between _ (ap (λ (a : Caller _). a.stage) c.over-holding.ensures.caller ∙ first.idle)

pub close-requires-clause-callers : goal.close-requires-clause-callers
close-requires-clause-callers g c =
    let one = c.requires.one in
    let long = one.count in
    let first = one.opens 0 c.remove.result (first_at c.args.left.items c.remove.result (omega (arith, long)) c.remove.ensures.value) in
    let back = c.into_caller.ensures.caller in
    let ends : Leaves g.S.Tickets.meaning c.args.hall 0 c.into_caller.result = record {
      caller = given g.S.Tickets.meaning c.args.hall c.into_caller.result c.serve_both-first.new.holding back c.serve_both-first.ensures.none c.serve_both-first.ensures.holding.0;
      number_is = ap (λ (a : Caller _). a.number) back ∙ c.serve_both-first.ensures.holding.1 ∙ ap (λ (a : Caller _). a.number) c.over-holding.ensures.caller ∙ first.number_is;
      out = ap (λ (a : Caller _). a.stage) back ∙ c.serve_both-first.ensures.out;
    } in
    one_leaves g.S.Tickets.meaning c.args.hall c.args.left.items c.remove.new.self.items c.from_vec.result c.into_caller.result one.count c.remove.ensures.items
    (c.from_vec.ensures ∙ c.push_reserved.ensures.items) ends
