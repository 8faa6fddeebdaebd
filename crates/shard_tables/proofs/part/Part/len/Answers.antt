use Rattle.std.proofs.Common.{sym, subst}
use Rattle.session_values.specs.Opening.{AreApart}
use Rattle.shard_tables.specs.Keys.{AreDifferent}
use Rattle.shard_tables.specs.Shards.{MapView, SetView}
use Rattle.shard_tables.specs.declared.part.Part.{Part}
use Rattle.shard_tables.specs.Either.{entries_in}
use Rattle.shard_tables.proofs.Either.{members_apart, pairs_apart}
use Rattle.shard_tables.proofs.part.Part.len.Goals as goal

pub returns-in-Bindings-clause-apart : goal.returns-in-Bindings-clause-apart
returns-in-Bindings-clause-apart c =
    let P : Part → Type 0 = λ p. AreApart (entries_in p) in
    let D : MapView → Type 0 = λ s. AreDifferent (λ e. e.0) s.entries in
    subst P (sym c.in-Bindings.is) (pairs_apart c.in-Bindings.shard.value.entries (subst D c.deref.ensures c.len.ensures.different))

pub returns-in-Members-clause-apart : goal.returns-in-Members-clause-apart
returns-in-Members-clause-apart c =
    let P : Part → Type 0 = λ p. AreApart (entries_in p) in
    let D : SetView → Type 0 = λ s. AreDifferent (λ k. k) s.entries in
    subst P (sym c.in-Members.is) (members_apart c.in-Members.shard.value.entries (subst D c.deref-in-Members.ensures c.len-in-Members.ensures.different))
