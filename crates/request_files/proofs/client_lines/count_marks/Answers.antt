use Rattle.std.proofs.Common.{◌≡◌, length, ap, arith}
use Rattle.std.proofs.lemmas.Bool.Decides.{nat_tests}
use Rattle.request_files.specs.Clients.{marks_in}
use Rattle.text_lines.proofs.TextLemmas.{none_left}
use Rattle.request_files.proofs.client_lines.count_marks.Goals as goal

pub returns : goal.returns
returns c =
    let none : length c.lines.rest.now ≡ 0 = grind (arith, nat_tests, c.is_empty.ensures, c.lines-test.false) in
    omega (arith, ap marks_in (none_left c.lines.rest.now none), c.lines.invariant.marks)
