use Rattle.text_lines.specs.Rows.{rows}
use Rattle.text_lines.specs.Text.{lines}
use Rattle.trace_lines.proofs.Rows.{is_trace}
use Rattle.trace_lines.proofs.trace_part.read_trace.Goals as goal

pub returns-clause-ok : goal.returns-clause-ok
returns-clause-ok c =
    is_trace c.args.names.now c.events_of.new.names c.args.tables.now c.args.shape.now (rows c.args.first (lines c.args.text.now)) c.events_of.result
    c.events_of.ensures.names c.events_of.ensures.fine c.events_of.ensures.events c.events_of.ensures.lines
