-- A trace part has one text of what is judged of it.
use Rattle.std.proofs.Common.{◌≡◌, ℕ, List, [], sym, ap, ◌∙◌, subst}
use Rattle.handler_syntax.specs.Language.{File}
use Rattle.handler_check.specs.Resolved.{shape_of}
use Rattle.handler_syntax.proofs.Facts.{one_tree}
use Rattle.session_journal.proofs.OneVerdict.{one}
use Rattle.session_journal.specs.Traces.{TraceView}
use Rattle.session_journal.specs.Verdicts.{IsVerdict}
use Rattle.session_journal.specs.Bare.{bare_script}
use Rattle.trace_lines.specs.VerdictText.{verdict_text}
use Rattle.trace_lines.proofs.OneTrace.{one_trace}
use Rattle.serve_faults.specs.Audited.{IsAudited, IsTraceOf, audited_parts, event_rows_of}
use Rattle.serve_faults.specs.Traced.{table_places}
use Rattle.serve_faults.specs.Session.{session_of_parts}

pub one_judged : (input s t : List ℕ) → IsAudited input s → IsAudited input t → s ≡ t
one_judged input s t h k =
    let same : h.file ≡ k.file = one_tree [] (audited_parts input).handlers h.file k.file h.is_session.program.form k.is_session.program.form in
    let trace : h.trace ≡ k.trace = one_trace _ h.names k.names (table_places k.file) (shape_of k.file) (event_rows_of input) h.trace k.trace (subst (λ (f : File). IsTraceOf input f h.names h.trace) same h.is_trace) k.is_trace in
    let there : IsVerdict (bare_script (session_of_parts (audited_parts input) k.file)) k.trace.events h.verdict = subst (λ (u : TraceView). IsVerdict (bare_script (session_of_parts (audited_parts input) k.file)) u.events h.verdict) trace (subst (λ (f : File). IsVerdict (bare_script (session_of_parts (audited_parts input) f)) h.trace.events h.verdict) same h.is_verdict) in
    let verdict : h.verdict ≡ k.verdict = one (bare_script (session_of_parts (audited_parts input) k.file)) k.trace.events h.verdict k.verdict there k.is_verdict in
    h.text_is ∙ ap (λ (u : TraceView). verdict_text u h.verdict) trace ∙ ap (verdict_text k.trace) verdict ∙ sym k.text_is
