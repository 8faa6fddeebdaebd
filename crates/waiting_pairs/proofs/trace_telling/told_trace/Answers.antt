use Rattle.waiting_pairs.proofs.trace_telling.told_trace.Goals as goal

pub returns-clause-told : goal.returns-clause-told
returns-clause-told c = record { audited = c.in_ok-audited.audited; is_audited = c.in_ok-audited.ensures.loaded; is_told = c.in_ok-text.ensures }
