use Rattle.std.proofs.Common.{Some, None, ap, ◌∙◌}
use Rattle.text_lines.proofs.TakenLemmas.{found_taken}
use Rattle.table_lines.proofs.WordLemmas.{same_refusal, set_bad, set_reads}
use Rattle.table_lines.proofs.words.set_entry.Goals as goal

pub returns-in-Some-key-clause-ok : goal.returns-in-Some-key-clause-ok
returns-in-Some-key-clause-ok c =
    set_reads c.args.names.now c.take.new.names c.args.words.rest.now c.take.new.words.rest.now c.in-Some-key.key
    (found_taken c.args.words c.take.new.words c.args.names.now c.take.new.names c.in_ok-key.field-0 c.in-Some.key (Some c.in-Some-key.key) c.in_ok-key.ensures.steps c.in-Some.is c.in-Some-key.is)
    c.in_default-next.ensures.steps.0

pub returns-in-None-clause-refused : goal.returns-in-None-clause-refused
returns-in-None-clause-refused c = λ e is some.
    set_bad c.args.names.now c.take.new.names c.args.words.rest.now c.take.new.words.rest.now c.args.line
    (found_taken c.args.words c.take.new.words c.args.names.now c.take.new.names c.in_ok-key.field-0 c.in-Some.key None c.in_ok-key.ensures.steps c.in-Some.is c.in-None.is)
    c.in_default-next.ensures.steps.0 ∙ ap Some (same_refusal _ e is)
