use Rattle.std.proofs.Common.{◌≤◌, sym, ap, ◌∙◌, arith}
use Rattle.turn_board.proofs.laws.changes_tell.Goals as goal

pub returns : goal.returns
returns g c = λ caller_count s t r q there back.
    let l = r.latest in
    let w = there l.0 l.1 l.2 in
    let m = q.latest in
    let v = back m.0 m.1 m.2 in
    let old = r.changes l.0 l.1 l.2 in
    let new = q.changes l.0 w.0 w.1 in
    let up : r.now ≤ q.now = (let a = new.0 in let e = ap (λ x. x.0) w.2 in let n = l.3 in omega arith) in
    let down : q.now ≤ r.now = (let a = (r.changes m.0 v.0 v.1).0 in let e = ap (λ x. x.0) v.2 in let n = m.3 in omega arith) in
    sym (old.1 l.3) ∙ sym (ap (λ x. x.1) w.2) ∙ new.1 (let e = ap (λ x. x.0) w.2 in let n = l.3 in omega arith)
