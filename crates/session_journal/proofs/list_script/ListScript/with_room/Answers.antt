use Rattle.std.proofs.Common.{rules}
use Rattle.session_journal.proofs.list_script.ListScript.with_room.Goals as goal

pub returns : goal.returns
returns c = search rules
