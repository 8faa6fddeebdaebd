use Rattle.text_lines.proofs.TakenLemmas.{found_room}
use Rattle.table_lines.proofs.WordLemmas.{says_kept}
use Rattle.table_lines.proofs.words.take.Goals as goal

pub returns-in-Ok-clause-kept : goal.returns-in-Ok-clause-kept
returns-in-Ok-clause-kept c = says_kept c.args.words.now c.next_value.new.self c.args.names.now c.next_value.new.names c.in-Ok.found c.in-Ok.ensures.steps

pub returns-in-Ok-clause-room : goal.returns-in-Ok-clause-room
returns-in-Ok-clause-room c = found_room c.args.words.now c.next_value.new.self c.args.names.now c.next_value.new.names c.in-Ok.found c.in-Ok.ensures.steps
