use Rattle.std.proofs.Common.{Some, None, refl, ap, ◌∙◌}
use Rattle.text_lines.proofs.TakenLemmas.{found_taken}
use Rattle.table_lines.proofs.WordLemmas.{map_bad, map_reads, same_refusal}
use Rattle.table_lines.proofs.words.map_entry.Goals as goal

pub returns-in-Some-Some-clause-ok : goal.returns-in-Some-Some-clause-ok
returns-in-Some-Some-clause-ok c =
    map_reads c.args.names.now c.take.new.names c.take-2.new.names c.args.words.rest.now c.take.new.words.rest.now c.take-2.new.words.rest.now c.in-Some-Some.key c.in-Some-Some.value
    (found_taken c.args.words c.take.new.words c.args.names.now c.take.new.names c.in_ok-key.field-0 c.in-Some.key (Some c.in-Some-Some.key) c.in_ok-key.ensures.steps c.in-Some.is c.in-Some-Some.is-0)
    (found_taken c.take.new.words c.take-2.new.words c.take.new.names c.take-2.new.names c.in_ok-value.field-0 c.in-Some-2.value (Some c.in-Some-Some.value) c.in_ok-value.ensures.steps c.in-Some-2.is c.in-Some-Some.is-1)
    c.in_default-next.ensures.steps.0

pub returns-in_default-3-clause-refused : goal.returns-in_default-3-clause-refused
returns-in_default-3-clause-refused c = λ e is some.
    map_bad c.args.names.now c.take.new.names c.take-2.new.names c.args.words.rest.now c.take.new.words.rest.now c.take-2.new.words.rest.now (Some c.in_default-3.field-0-0) None c.args.line refl
    (found_taken c.args.words c.take.new.words c.args.names.now c.take.new.names c.in_ok-key.field-0 c.in-Some.key (Some c.in_default-3.field-0-0) c.in_ok-key.ensures.steps c.in-Some.is c.in_default-3.is-0)
    (found_taken c.take.new.words c.take-2.new.words c.take.new.names c.take-2.new.names c.in_ok-value.field-0 c.in-Some-2.value None c.in_ok-value.ensures.steps c.in-Some-2.is c.in_default-3.is-1)
    c.in_default-next.ensures.steps.0 ∙ ap Some (same_refusal _ e is)

pub returns-in_default-3-2-clause-refused : goal.returns-in_default-3-2-clause-refused
returns-in_default-3-2-clause-refused c = λ e is some.
    map_bad c.args.names.now c.take.new.names c.take-2.new.names c.args.words.rest.now c.take.new.words.rest.now c.take-2.new.words.rest.now None c.in-Some-2.value c.args.line refl
    (found_taken c.args.words c.take.new.words c.args.names.now c.take.new.names c.in_ok-key.field-0 c.in-Some.key None c.in_ok-key.ensures.steps c.in-Some.is c.in_default-3.is-0)
    (found_taken c.take.new.words c.take-2.new.words c.take.new.names c.take-2.new.names c.in_ok-value.field-0 c.in-Some-2.value c.in-Some-2.value c.in_ok-value.ensures.steps c.in-Some-2.is refl)
    c.in_default-next.ensures.steps.0 ∙ ap Some (same_refusal _ e is)
