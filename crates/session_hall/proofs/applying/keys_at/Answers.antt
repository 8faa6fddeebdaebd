use Rattle.std.proofs.Common.{subst}
use Rattle.hall_rule.specs.declared.held.Held.{Held}
use Rattle.hall_rule.specs.Shards.{content_of}
use Rattle.session_hall.specs.Working.{IsAnyShard}
use Rattle.session_hall.proofs.applying.keys_at.Goals as goal

pub unreachable-requires : goal.unreachable-requires
unreachable-requires g c =
    let P : Held g.row.S.Denot → Type 0 = λ x. IsAnyShard (content_of x) in
    subst P c.in-Register.is (c.requires.shard c.get.result.now c.get.ensures)
