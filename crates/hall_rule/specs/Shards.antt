-- What counts of the value of a turn.
use Rattle.shard_tables.specs.Either.{shard_view}
use Rattle.hall_rule.specs.declared.held.Held.{Held}
use Rattle.hall_rule.specs.declared.held.Held.TheVariants.{Register, Table}
use Rattle.hall_rule.specs.Contents.{Content}
use Rattle.hall_rule.specs.Contents as contents

-- what counts of the value of a turn
abbrev pub content_of : {S : Type 0} → Held S → Content S
content_of (Register b) = contents.Register b.script b.book
content_of (Table p) = contents.Shard (shard_view p).container (shard_view p).room
