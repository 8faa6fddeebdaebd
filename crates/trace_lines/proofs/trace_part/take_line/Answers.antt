use Rattle.std.proofs.Common.{◌≡◌, List, length, Option, Some, None, OnOk, sym, ap, ◌∙◌, subst, arith}
use Rattle.session_values.proofs.Named.{begins_same}
use Rattle.session_journal.specs.declared.event.Event.{Event}
use Rattle.text_lines.specs.Rows.{Row, row_of}
use Rattle.text_lines.specs.Text.{words}
use Rattle.trace_lines.specs.declared.refusal.TraceRefusal.{TraceRefusal}
use Rattle.trace_lines.specs.declared.refusal.TraceRefusal.TheVariants.{BadEvent, TooManyEvents}
use Rattle.trace_lines.specs.EventRows.{row_event}
use Rattle.trace_lines.proofs.Rows.{fault_bad, fault_many, fine_pushed, pushed_later, row_fault_kept, row_is}
use Rattle.trace_lines.proofs.trace_part.take_line.Goals as goal

pub returns-then-seen-ge-MAX_EVENTS-clause-refused : goal.returns-then-seen-ge-MAX_EVENTS-clause-refused
returns-then-seen-ge-MAX_EVENTS-clause-refused c = λ e is other.
    let k : TooManyEvents c.args.line.number ≡ e = cc in
    let same : length c.events-seen.result.now ≡ length c.args.trace.now.events = ap (λ (es : List Event). length es) c.events-seen.ensures.events in
    fault_many c.args.names.now c.args.tables.places.now c.args.tables.kinds.now (length c.args.trace.now.events) (row_of c.args.line.number c.args.line.word.now (words c.args.line.words.rest.now)) (omega (arith, c.if-seen-ge-MAX_EVENTS.true, same)) ∙ ap (λ x. Some x) k

pub returns-in-Ok-Some-clause-fine : goal.returns-in-Ok-Some-clause-fine
returns-in-Ok-Some-clause-fine c =
    let ns = c.read_event.new.names in let ts = c.args.tables.places.now in let ks = c.args.tables.kinds.now in
    let row : Row = row_of c.args.line.number c.args.line.word.now (words c.args.line.words.rest.now) in
    let seen = length c.args.trace.now.events in
    let same : length c.events-seen.result.now ≡ seen = ap (λ (es : List Event). length es) c.events-seen.ensures.events in
    let is : row_event ns ts ks row ≡ Some c.in-Ok-Some.e = row_is ns ts ks row ∙ sym (c.in-Ok-Some.ensures.event ns (begins_same ns)) ∙ c.in-Ok-Some.field-0-is in
    subst (λ (o : Option TraceRefusal). OnOk c.push.result (o ≡ None)) (sym (row_fault_kept c.args.names.now ns ts ks c.read_event.ensures.kept c.requires.known seen row))
    (fine_pushed ns ts ks seen row c.in-Ok-Some.e c.push.result (omega (arith, c.if-seen-ge-MAX_EVENTS.false, same)) is)

pub returns-in-Ok-Some-clause-pushed : goal.returns-in-Ok-Some-clause-pushed
returns-in-Ok-Some-clause-pushed c =
    let ns = c.read_event.new.names in let ts = c.args.tables.places.now in let ks = c.args.tables.kinds.now in
    let row : Row = row_of c.args.line.number c.args.line.word.now (words c.args.line.words.rest.now) in
    pushed_later ns ts ks row c.in-Ok-Some.e c.push.result c.args.trace.now c.push.new.trace
    (λ later le. row_is later ts ks row ∙ sym (c.in-Ok-Some.ensures.event later le) ∙ c.in-Ok-Some.field-0-is) c.push.ensures.pushed

pub returns-in-Ok-None-clause-refused : goal.returns-in-Ok-None-clause-refused
returns-in-Ok-None-clause-refused c = λ e is other.
    let ns = c.read_event.new.names in let ts = c.args.tables.places.now in let ks = c.args.tables.kinds.now in
    let row : Row = row_of c.args.line.number c.args.line.word.now (words c.args.line.words.rest.now) in
    let seen = length c.args.trace.now.events in
    let k : BadEvent c.args.line.number ≡ e = cc in
    let same : length c.events-seen.result.now ≡ seen = ap (λ (es : List Event). length es) c.events-seen.ensures.events in
    row_fault_kept c.args.names.now ns ts ks c.read_event.ensures.kept c.requires.known seen row
    ∙ fault_bad ns ts ks seen row (omega (arith, c.if-seen-ge-MAX_EVENTS.false, same)) (row_is ns ts ks row ∙ sym (c.in-Ok-None.ensures.event ns (begins_same ns)) ∙ c.in-Ok-None.field-0-is)
    ∙ ap (λ x. Some x) k
