use Rattle.std.proofs.Common.{◌≡◌, sym, ◌∙◌, ap, subst, string_bytes}
use Rattle.syntax_printer.specs.Canonical.{canonical_text}
use Rattle.handler_syntax.specs.Keeps.{IsKept, IsReadAs}
use Rattle.handler_syntax.proofs.Files.{text_again}
use Rattle.handler_syntax.proofs.printing.print.Goals as goal

pub returns-in-Ok : goal.returns-in-Ok
returns-in-Ok c =
    let names = c.args.names.now in
    let file = c.args.file.now in
    let kept : IsKept file = subst IsKept c.file.view_is c.file.invariant in
    let within = kept.limits in
    let text : string_bytes c.in-Ok.text ≡ canonical_text names file = c.in-Ok.ensures.text ∙ ap (canonical_text names) c.file.view_is in
    record {
      text = text;
      back = λ named. subst (IsReadAs names file) (sym text) (text_again names within.0 file c.len-count.ensures.distinct within.1 named);
    }
