use Rattle.std.proofs.Common.{sym, subst}
use Rattle.syntax_printer.specs.Canonical.{canonical_text}
use Rattle.handler_syntax.specs.SameTree.{SameTree}
use Rattle.handler_syntax.proofs.Facts.{one_tree}
use Rattle.handler_syntax.proofs.Files.{text_again}
use Rattle.handler_syntax.proofs.SameText.{same_text}
use Rattle.handler_syntax.proofs.laws.canonical_text_is_kept.Goals as goal

pub returns : goal.returns
returns c = λ names ws file read distinct within named form.
    let again = text_again names ws file distinct within named in
    let same : SameTree file read = subst (SameTree file) (one_tree names (canonical_text names file) again.0 read again.1 form) again.2 in
    sym (same_text names file read same)
