use Rattle.std.proofs.Common.{rules}
use Rattle.session_values.proofs.listed.Listed.len.Goals as goal

pub returns : goal.returns
returns c = search rules
