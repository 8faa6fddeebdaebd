use Rattle.std.proofs.Common.{◌∙◌, ap}
use Rattle.session_values.specs.declared.op.Op.{Op}
use Rattle.session_values.specs.Kinds.{is_read}
use Rattle.admission_book.proofs.Touches.{apart, both}
use Rattle.admission_book.proofs.touched_tables.TouchedTables.may_be_against.Goals as goal

pub returns-then-not-reads : goal.returns-then-not-reads
returns-then-not-reads c = λ none. apart c.args.op.now c.args.self.now c.op.inside.table c.reads.result (ap (λ (o : Op). o.table) c.op.view_is) (c.reads.ensures ∙ ap (λ (o : Op). is_read o.kind) c.op.view_is) c.bounds.ensures c.if-self-group.false (λ _. none)

pub returns-else-not-reads : goal.returns-else-not-reads
returns-else-not-reads c = λ none. apart c.args.op.now c.args.self.now c.op.inside.table c.reads.result (ap (λ (o : Op). o.table) c.op.view_is) (c.reads.ensures ∙ ap (λ (o : Op). is_read o.kind) c.op.view_is) c.bounds.ensures c.if-self-group.false (λ some. both c.reads.result none some)
