-- A client's number has two digits at most.
use Rattle.std.proofs.Common.{ap, length, ◌∙◌, arith}
use Rattle.std.proofs.lemmas.Fmt.{length-decimal-le}
use Rattle.reply_sheet.proofs.client_line.push_client_line.Goals as goal

pub push_line-requires-clause-room : goal.push_line-requires-clause-room
push_line-requires-clause-room c =
    let digits = length-decimal-le 2 c.args.client (omega arith) (omega arith) (omega arith) in
    omega (arith, digits, ap length (c.as_bytes.ensures.value ∙ c.format.ensures.text), c.push.ensures.reserved, c.push-2.ensures.reserved, c.requires.room)
