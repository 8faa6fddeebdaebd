use Rattle.std.proofs.Common.{ℕ, ◌<◌, Bool, true, false, List, length, get_or, subst}
use Rattle.std.specs.Bool.{OnTrue}
use Rattle.may_use_analysis.specs.declared.kept.Kept.{Kept}
use Rattle.may_use_analysis.specs.declared.kept.Kept.TheVariants.{Count}
use Rattle.may_use_analysis.specs.PointList.{AreKept, IsHeld}
use Rattle.may_use_analysis.proofs.KeptLemmas.{all_kept}
use Rattle.may_use_analysis.proofs.kept.PointLists.are_kept.Goals as goal

pub returns : goal.returns
returns c = go c.are_held.result (subst (λ (z : List Kept). OnTrue c.are_held.result ((k : ℕ) → k < length z → IsHeld (get_or z k (Count 0)))) c.as_slice.ensures.value c.are_held.ensures)
  where
    go : (b : Bool) → OnTrue b ((k : ℕ) → k < length c.self.inside.entries.items → IsHeld (get_or c.self.inside.entries.items k (Count 0))) → OnTrue b (AreKept c.args.self.now)
    go true h = subst AreKept c.self.view_is (all_kept c.self.inside.entries.items h)
    go false h = tt
