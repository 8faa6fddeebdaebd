use Rattle.std.proofs.Common.{[], List, Contains, subst, ap}
use Rattle.std.specs.Prelude.{slice_index_or}
use Rattle.symbolic_ops.specs.declared.symbol.Symbol.{Symbol}
use Rattle.check_meaning.specs.declared.tree.CheckedStmt.{CheckedStmt}
use Rattle.check_meaning.specs.Code.{block_code}
use Rattle.may_use_analysis.specs.Flow.{Flow}
use Rattle.may_use_analysis.specs.Ordered.{Are}
use Rattle.may_use_analysis.specs.Recorded.{Recorded}
use Rattle.may_use_analysis.specs.PointList.{PointList}
use Rattle.may_use_analysis.proofs.Sets.{stored_lent}
use Rattle.may_use_analysis.proofs.TopLemmas.{handler_stored}
use Rattle.may_use_analysis.proofs.Unique.{none_in_nil}
use Rattle.may_use_analysis.proofs.WarmLemmas.{warm_none}
use Rattle.may_use_analysis.proofs.handler.handler_lists.Goals as goal

pub returns : goal.returns
returns c =
    let body = block_code c.args.handler.now.body in
    let entry = c.in_ok-entry.entry in
    let nothing = c.new-nothing.result in
    let out = c.before_block.new.out in
    let k = c.in_ok-keep.ensures in
    let set' = subst (λ (z : List CheckedStmt). Are entry (Flow (block_code z) (Contains nothing))) c.as_slice-body.ensures c.in_ok-entry.ensures.set in
    let set = subst (λ (z : List Symbol). Are entry (Flow body (Contains z))) c.new-nothing.ensures set' in
    let lists' = subst (λ (z : List CheckedStmt). Recorded (block_code z) (Contains nothing) c.in_ok-lists.lists out) c.as_slice-body.ensures c.in_ok-entry.ensures.lists in
    let lists'' = subst (λ (z : List Symbol). Recorded body (Contains z) c.in_ok-lists.lists out) c.new-nothing.ensures lists' in
    let lists = subst (λ (z : List PointList). Recorded body (Contains []) z out) c.in_ok-lists.ensures lists'' in
    handler_stored body c.requires k.0 out c.keep.new.self (stored_lent c.as_slice.result.now entry k.0 (Flow body (Contains [])) c.as_slice.ensures.symbols k.1 c.as_slice.ensures.order set) lists k.2

pub before_block-requires-clause-warm : goal.before_block-requires-clause-warm
before_block-requires-clause-warm c =
    let none = λ (s : Symbol) (m : Contains c.new-start.result s). absurd (none_in_nil s (subst (λ (z : List Symbol). Contains z s) c.new-start.ensures m)) in
    c.in_ok-spread_block.ensures.warm c.new-nothing.result none (warm_none c.new-heads.result (block_code c.as_slice-body.result.now) (Contains c.new-nothing.result) (λ i. ap (λ (z : List (List Symbol)). slice_index_or z i []) c.new-heads.ensures))
