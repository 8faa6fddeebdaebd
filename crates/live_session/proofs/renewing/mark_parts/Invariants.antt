use Rattle.std.proofs.Common.{◌≡◌, take}
use Rattle.std.specs.List.{AllByRecursion}
use Rattle.session_values.specs.Opening.{AreApart}
use Rattle.live_session.specs.Held.{lists_in}
use Rattle.live_session.specs.Moving.{marked_by_all}
use Rattle.live_session.proofs.renewing.mark_parts.Given as goal

-- those of the first tables
abbrev pub invariant-loop-part : goal.invariant-loop-part
invariant-loop-part l = record {
  marked : l.flags.items ≡ marked_by_all l.fn.flags.items (lists_in (take l.part-index l.parts));
  apart : AllByRecursion AreApart (lists_in (take l.part-index l.parts));
}
