use Rattle.std.proofs.Common.{refl}
use Rattle.may_use_analysis.proofs.handler.short_lists.Goals as goal

pub returns-in_ok-at-in-Some-clause-refused : goal.returns-in_ok-at-in-Some-clause-refused
returns-in_ok-at-in-Some-clause-refused c = record {
  kept = c.in_ok-lists.lists;
  lists = c.in_ok-lists.ensures;
  excess = c.in-Some.excess;
  first = c.in-Some.ensures;
  count_is = refl;
  place = c.in_ok-at-in-Some.ensures;
}
