use Rattle.std.proofs.Common.{◌≡◌, true}
use Rattle.trace_audit.specs.Judging.{front_of, may_begin}
use Rattle.trace_audit.proofs.Taking.{begin_no, begin_yes, may_begin_numbers, next_ticket}
use Rattle.trace_audit.proofs.judging.take_begin.Goals as goal

pub returns-then-not-may_begin : goal.returns-then-not-may_begin
returns-then-not-may_begin c = λ rs. begin_no (front_of c.args.front.now) (front_of c.args.front.now) c.args.t c.args.caller (cc) rs

pub begin-requires-clause-left : goal.begin-requires-clause-left
begin-requires-clause-left c =
    let e : may_begin (front_of c.args.front.now) c.args.t c.args.caller ≡ true = cc in
    (may_begin_numbers (front_of c.args.front.now) c.args.t c.args.caller e).1

pub begin-requires-clause-few : goal.begin-requires-clause-few
begin-requires-clause-few c =
    let e : may_begin (front_of c.args.front.now) c.args.t c.args.caller ≡ true = cc in
    next_ticket _ _ _ _ c.requires.1 (may_begin_numbers (front_of c.args.front.now) c.args.t c.args.caller e).1

pub begin-requires-clause-next : goal.begin-requires-clause-next
begin-requires-clause-next c =
    let e : may_begin (front_of c.args.front.now) c.args.t c.args.caller ≡ true = cc in
    (may_begin_numbers (front_of c.args.front.now) c.args.t c.args.caller e).0

pub begin-requires-clause-caller : goal.begin-requires-clause-caller
begin-requires-clause-caller c =
    let e : may_begin (front_of c.args.front.now) c.args.t c.args.caller ≡ true = cc in
    (may_begin_numbers (front_of c.args.front.now) c.args.t c.args.caller e).2

pub returns : goal.returns
returns c =
    let e : may_begin (front_of c.args.front.now) c.args.t c.args.caller ≡ true = cc in
    λ rs. begin_yes (front_of c.args.front.now) _ c.args.t c.args.caller e c.begin.ensures rs
