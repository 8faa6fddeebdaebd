use Rattle.std.proofs.Common.{◌≡◌, ◌∙◌, string_bytes}
use Rattle.syntax_printer.specs.Canonical.{canonical_text}
use Rattle.syntax_printer.specs.Points.{nothing_shown}
use Rattle.syntax_printer.proofs.Own.{own_is_canonical}
use Rattle.syntax_printer.proofs.ReadBack.{reads_back}
use Rattle.syntax_printer.proofs.file.print.Goals as goal

pub returns-clause-text : goal.returns-clause-text
returns-clause-text c = c.in_ok-text.ensures ∙ own_is_canonical c.args.names.now nothing_shown c.args.file.now

pub returns-clause-words : goal.returns-clause-words
returns-clause-words c = λ readable.
    let names = c.args.names.now in
    let file = c.args.file.now in
    let text : string_bytes c.in_ok-text.text ≡ canonical_text names file = c.in_ok-text.ensures ∙ own_is_canonical names nothing_shown file in
    reads_back names file _ c.len-count.ensures.distinct text readable
