use Rattle.session_journal.proofs.ListLawful.{nothing_there}
use Rattle.session_journal.proofs.list_script.ListScriptScript.opening_entry.Goals as goal

pub returns : goal.returns
returns c = nothing_there c.args.self.now.shape c.args._table c.args._i _ c.requires.entry
