use Rattle.std.proofs.Common.{◌≡◌, ◌≤◌, nat_lt, false, length, sym, ◌∙◌, arith}
use Rattle.std.proofs.lemmas.Bool.Decides.{nat_tests}
use Rattle.live_session.proofs.ArgumentLemmas.{no_name}
use Rattle.live_session.proofs.argument.is_symbol_at.Goals as goal

pub returns-else-place-len : goal.returns-else-place-len
returns-else-place-len c =
    let past : length c.args.names.now ≤ c.args.place = omega (arith, c.if-place-len.false, c.len.ensures.len) in
    let low : nat_lt c.args.place c.len.result ≡ false = grind (arith, nat_tests, c.if-place-len.false) in
    low ∙ sym (no_name c.args.names.now c.args.place past)
