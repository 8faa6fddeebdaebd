use Rattle.may_use_analysis.proofs.TopLemmas.{same_later, one_refusal, apart}
use Rattle.may_use_analysis.proofs.laws.one_answer.Goals as goal

pub returns : goal.returns
returns c = record { lists = same_later; refusal = one_refusal; apart = apart }
