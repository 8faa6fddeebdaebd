use Rattle.std.proofs.Common.{sym, ◌∙◌}
use Rattle.range_tables.proofs.WordLemmas.{absent_place}
use Rattle.range_tables.proofs.word.place.Goals as goal

pub returns-in-None : goal.returns-in-None
returns-in-None c = absent_place c.args.names.now c.args.word.now c.len.result c.len.ensures.len (sym c.in-None.is ∙ c.find.ensures.index)
