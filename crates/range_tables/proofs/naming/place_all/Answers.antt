use Rattle.std.proofs.Common.{◌∙◌, arith}
use Rattle.text_lines.proofs.TakenLemmas.{found_room}
use Rattle.range_tables.proofs.NameLemmas.{says_all, says_names}
use Rattle.range_tables.proofs.naming.place_all.Goals as goal

pub words-preserved : goal.words-preserved
words-preserved c = record {
  names = says_names c.words.words c.next_value.new.self c.words.names c.next_value.new.names c.in_ok-next_value.field-0 c.in_ok-next_value.ensures.steps ∙ c.words.invariant.names;
  room = omega (arith, found_room c.words.words c.next_value.new.self c.words.names c.next_value.new.names c.in_ok-next_value.field-0 c.in_ok-next_value.ensures.steps, c.words.invariant.room);
}

pub returns-clause-names : goal.returns-clause-names
returns-clause-names c =
    says_all c.words.words c.next_value.new.self c.words.names c.next_value.new.names c.in_ok-next_value.field-0 c.in_ok-next_value.ensures.steps c.in_default.is ∙ c.words.invariant.names
