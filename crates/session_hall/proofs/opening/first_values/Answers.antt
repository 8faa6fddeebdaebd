use Rattle.std.proofs.Common.{◌*◌, subst, length}
use Rattle.session_hall.specs.Openings.{NewParts}
use Rattle.session_hall.proofs.Opened.{first_values}
use Rattle.session_hall.proofs.opening.first_values.Goals as goal

pub returns : goal.returns
returns g c =
    first_values g.S.Script.meaning c.args.script c.args.shards c.args.callers c.args.shape.now c.in_ok-book.book c.insert.new.self.items c.requires.shape
    c.in_ok-book.ensures.script c.in_ok-book.ensures.opened c.script.ensures.lawful c.in_ok-values.values.items
    (subst (λ z. NewParts (g.S.Script.meaning z) c.args.shards (length c.args.shape.now * c.args.shards) c.in_ok-values.values.items) c.script.ensures.script c.in_ok-values.ensures)
    c.in_ok-insert.ensures.items
