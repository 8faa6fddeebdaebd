use Rattle.std.proofs.Common.{◌≡◌, ℕ, suc, ◌+◌, ◌<◌, List, length, map, take, get_or, set, ap, ◌∙◌, arith}
use Rattle.foresight_c.specs.declared.values.COperation.{COperation}
use Rattle.foresight_c.specs.Fronts.{put_at_front}
use Rattle.foresight_c.specs.Values.{told_symbol}
use Rattle.foresight_c.proofs.PutFronts.{put_all, put_one}
use Rattle.foresight_c.proofs.session_counts.put_symbols.Goals as goal

pub loop-i-preserved : goal.loop-i-preserved
loop-i-preserved c =
    let room : List COperation = c.args.room.now in
    let list = c.args.list.now in
    let i : ℕ = c.loop-i.i in
    let e : suc i ≡ i + 1 = omega arith in
    let place : i < length room = omega (arith, c.loop-i-test.true, c.min-count.ensures) in
    let within : i < length list = omega (arith, c.loop-i-test.true, c.min-count.ensures) in
    let told : c.told_symbol.result ≡ told_symbol (get_or list i c.index-list-i.result) = c.told_symbol.ensures ∙ ap told_symbol c.index-list-i.is in
    ap (λ (ys : List COperation). set ys i c.told_symbol.result) c.loop-i.invariant
    ∙ ap (λ (y : COperation). set (put_at_front room (map told_symbol (take i list))) i y) told
    ∙ put_one told_symbol room list i c.index-list-i.result place within
    ∙ ap (λ (j : ℕ). put_at_front room (map told_symbol (take j list))) e

pub returns : goal.returns
returns c = c.loop-i.invariant ∙ put_all told_symbol c.args.room.now c.args.list.now c.loop-i.i (omega (arith, c.loop-i-test.false, c.min-count.ensures))
