use Rattle.serve_faults.proofs.MadeSession.{is_input, is_session, unrefused}
use Rattle.serve_faults.proofs.Phrases.{made_file}
use Rattle.serve_faults.proofs.made_laws.made_session_breaks_no_rule.Goals as goal

pub returns-clause-input : goal.returns-clause-input
returns-clause-input c = λ requests start few. is_input requests start few

pub returns-clause-session : goal.returns-clause-session
returns-clause-session c = λ requests start few. (made_file, is_session requests start few)

pub returns-clause-unrefused : goal.returns-clause-unrefused
returns-clause-unrefused c = λ requests start few fault refused. unrefused requests start few fault refused
