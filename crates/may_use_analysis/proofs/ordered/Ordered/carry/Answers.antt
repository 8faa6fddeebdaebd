use Rattle.std.proofs.Common.{◌≡◌, length, map, ap, ◌∙◌}
use Rattle.std.proofs.lemmas.List.{length-map}
use Rattle.may_use_analysis.specs.Steps.{back}
use Rattle.may_use_analysis.specs.Stores.{step_of}
use Rattle.may_use_analysis.proofs.Members.{carried_members, written_back}
use Rattle.may_use_analysis.proofs.ordered.Ordered.carry.Goals as goal

pub returns-then-is_any_changed : goal.returns-then-is_any_changed
returns-then-is_any_changed c =
    let step = step_of c.args.store in
    let xs = c.self.inside.symbols.items in
    let put = c.put_before.ensures ∙ ap (map (back step)) c.as_mut_slice.ensures.value in
    let long : length c.put_before.new.list ≡ length xs = ap length put ∙ length-map xs (back step) in
    let written = written_back c.self.inside.symbols.len c.put_before.new.list xs long c.self.inside.symbols.ok.0 in
    carried_members step c.args.self.now _ c.put_in_order-self-inside.new.list.items (written ∙ put ∙ ap (map (back step)) c.self.view_is) c.put_in_order-self-inside.ensures.members
