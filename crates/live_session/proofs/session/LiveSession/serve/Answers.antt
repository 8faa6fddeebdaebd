use Rattle.std.proofs.Common.{◌≡◌, ◌-◌, ◌≤◌, ◌++◌, ℕ, length, rules, None, sym, ap, ◌∙◌, subst, arith, length-append}
use Rattle.std.proofs.lemmas.Bool.Decides.{nat_tests}
use Rattle.text_lines.specs.Text.{Text}
use Rattle.live_session.specs.Batches.{LineDone, stop_at}
use Rattle.live_session.proofs.Batching.{at_end, goes_on, none_yet, one_line}
use Rattle.live_session.proofs.session.LiveSession.serve.Goals as goal

pub lines-init : goal.lines-init
lines-init c = record { utf8 = search rules; so_far = none_yet c.args.self.now c.args.text.now c.args.most c.args.out.now.held }

pub lines-preserved : goal.lines-preserved
lines-preserved c =
    let a = c.serve_line-answered.ensures.answered in
    let at : ℕ = length c.args.text.now - length c.lines.rest.now in
    let behind : ℕ = length c.args.text.now - length c.first_line.result.1.now in
    let none : stop_at c.serve_line-answered.result at behind ≡ None = sym c.stop.ensures ∙ c.in_default.is in
    let on : c.serve_line-answered.new.out.held ≡ c.lines.out.held ++ a.0 = a.1 ∙ ap (λ (x : Text). x ++ a.0) c.has_room.ensures.held in
    let done : LineDone c.lines.self c.first_line.result.0.now c.served-requests.result a.0 c.serve_line-answered.new.self =
    subst (λ (k : ℕ). LineDone c.lines.self c.first_line.result.0.now k a.0 c.serve_line-answered.new.self) (sym c.served-requests.ensures.count)
    (goes_on c.lines.self c.first_line.result.0.now c.serve_line-answered.result a.0 c.serve_line-answered.new.self at behind none a.3) in
    let long = ap (λ (x : Text). length x) on in
    let sum = length-append c.lines.out.held a.0 in
    let within : length c.serve_line-answered.new.out.held ≤ c.args.most = omega (arith, long, sum, a.2, c.has_room.ensures.within c.if-not-has_room.false) in
    record {
      utf8 = search rules;
      so_far = one_line c.args.self.now c.args.text.now c.args.most c.args.out.now.held c.lines.self c.lines.rest.now c.lines.requests c.lines.out.held c.lines.invariant.so_far
          c.first_line.result.0.now c.first_line.result.1.now c.first_line.ensures.lines c.first_line.ensures.back c.first_line.ensures.left
          c.served-requests.result a.0 c.serve_line-answered.new.self c.serve_line-answered.new.out.held done on within;
    }

pub returns : goal.returns
returns c =
    at_end c.args.self.now c.args.text.now c.args.most c.args.out.now.held c.lines.self c.lines.rest.now c.lines.requests c.lines.out.held c.lines.invariant.so_far
    (grind (arith, nat_tests, c.is_empty.ensures, c.lines-test.false))
