use Rattle.std.proofs.Common.{ℕ, ◌+◌, ◌*◌, ◌%◌, ◌^◌, ◌<◌, ◌≤◌, sym, subst, pow_mono, arith}
use Rattle.std.proofs.lemmas.Nat.{one_shl}
use Rattle.session_hall.proofs.applying.row_of.Goals as goal

pub overflow_sub-result : goal.overflow_sub-result
overflow_sub-result c =
    let low : c.args.first < 64 = omega (arith, c.requires) in
    let high : c.args.first + c.args.many < 64 = omega (arith, c.requires) in
    let rises : c.args.first ≤ c.args.first + c.args.many = omega arith in
    subst (λ (a : ℕ). a ≤ (1 * 2 ^ (c.args.first + c.args.many)) % 2 ^ 64) (sym (one_shl c.args.first 64 low))
    (subst (λ (b : ℕ). 2 ^ c.args.first ≤ b) (sym (one_shl (c.args.first + c.args.many) 64 high)) (pow_mono rises))
