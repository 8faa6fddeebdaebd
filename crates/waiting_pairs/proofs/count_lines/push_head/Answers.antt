use Rattle.std.proofs.Common.{string_bytes}
use Rattle.std.specs.Prelude.{codes}
use Rattle.std.specs.Fmt.{decimal}
use Rattle.waiting_pairs.proofs.CountLemmas.{three}
use Rattle.waiting_pairs.proofs.count_lines.push_head.Goals as goal

pub returns : goal.returns
returns c = three (string_bytes c.args.out.now) (codes "# ") (decimal c.args.count) (codes " delays: count, waits, operation, for, symbol\n")
    (string_bytes c.push_str.new.self) (string_bytes c.push_number.new.out) (string_bytes c.push_str-2.new.self) c.in_ok-push_str.ensures.bytes c.in_ok-push_number.ensures c.in_ok-push_str-2.ensures.bytes
