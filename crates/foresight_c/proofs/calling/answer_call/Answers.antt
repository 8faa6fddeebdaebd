use Rattle.foresight_c.specs.declared.calling.Call.TheVariants.{Check, Show, Ranges, Audit, Serve, Dump}
use Rattle.foresight_c.proofs.Endings.{of_call}
use Rattle.foresight_c.proofs.calling.answer_call.Goals as goal

pub returns-in-Check : goal.returns-in-Check
returns-in-Check c = λ callers shards. of_call _ Check callers shards _ _ _ _ _ _ _ c.in-Check.is c.answer_handlers.ensures

pub returns-in-Show : goal.returns-in-Show
returns-in-Show c = λ callers shards. of_call _ Show callers shards _ _ _ _ _ _ _ c.in-Show.is c.answer_handlers-in-Show.ensures

pub returns-in-Ranges : goal.returns-in-Ranges
returns-in-Ranges c = λ callers shards. of_call _ Ranges callers shards _ _ _ _ _ _ _ c.in-Ranges.is c.answer_ranges.ensures

pub returns-in-Audit : goal.returns-in-Audit
returns-in-Audit c = λ callers shards. of_call _ Audit callers shards _ _ _ _ _ _ _ c.in-Audit.is c.answer_trace.ensures

pub returns-in-Serve : goal.returns-in-Serve
returns-in-Serve c = λ callers shards. of_call _ Serve callers shards _ _ _ _ _ _ _ c.in-Serve.is (c.answer_session.ensures callers shards)

pub returns-in-Dump : goal.returns-in-Dump
returns-in-Dump c = λ callers shards. of_call _ Dump callers shards _ _ _ _ _ _ _ c.in-Dump.is (c.answer_session-in-Dump.ensures callers shards)
