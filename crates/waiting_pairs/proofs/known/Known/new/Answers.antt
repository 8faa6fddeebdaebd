use Rattle.std.proofs.Common.{List, refl, sym, subst, Global}
use Rattle.std.specs.Prelude.{Vec}
use Rattle.std.specs.List.{All}
use Rattle.waiting_pairs.specs.declared.asked.Asked.{Asked}
use Rattle.waiting_pairs.specs.declared.sought.Sought.{Sought}
use Rattle.waiting_pairs.specs.Chosen.{AreAmong, Chosen}
use Rattle.waiting_pairs.proofs.ChosenLists.{all_nil}
use Rattle.waiting_pairs.proofs.known.Known.new.Goals as goal

pub returns : goal.returns
returns c = record {
  asked_is = refl;
  ops = subst (λ (z : List Asked). AreAmong c.in_ok-ops.ops.items z) c.deref.ensures.value c.in_ok-ops.ensures;
  lists = subst (λ (z : List (Sought × Vec Asked Global)). All (λ e. Chosen e.0.symbol c.args.asked.items e.1.items) z) (sym c.new.ensures.empty)
      (all_nil (λ (e : Sought × Vec Asked Global). Chosen e.0.symbol c.args.asked.items e.1.items));
}
