use Rattle.std.proofs.Common.{List, [], ℕ, sym, subst}
use Rattle.serve_faults.specs.Command.TheVariants.{Dump}
use Rattle.serve_faults.specs.Answer.{IsDumped}
use Rattle.serve_faults.specs.Input.{IsInput, is_divided}
use Rattle.file_laws.specs.Reopened.{MeetsLimits, reopened}
use Rattle.file_laws.proofs.ReadBack.{dumped_again, ends_again, is_marked, opens_again}
use Rattle.file_laws.proofs.laws.dumps_read_back.Goals as goal

pub returns-clause-answer : goal.returns-clause-answer
returns-clause-answer c = λ callers shards input text answer limits others parts.
    (let d = answer.1 in
    let m : MeetsLimits input _ = subst (MeetsLimits input) d.text_is limits in
    subst (λ (t : List ℕ). IsInput (Dump others parts) (reopened input t []) × IsDumped (reopened input t []) t) (sym d.text_is)
    (dumped_again input d.file d.is_session answer.0.short (is_marked (is_divided input) answer.0.parts) m.few m.short others parts answer.0.utf8))

pub returns-clause-opens : goal.returns-clause-opens
returns-clause-opens c = λ callers shards input requests file is session few. opens_again input file session is.short (is_marked (is_divided input) is.parts) few requests

pub returns-clause-ends : goal.returns-clause-ends
returns-clause-ends c = λ callers shards input file is session few. ends_again input file session is.short (is_marked (is_divided input) is.parts) few
