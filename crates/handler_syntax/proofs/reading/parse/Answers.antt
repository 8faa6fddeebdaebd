use Rattle.std.proofs.Common.{◌^◌, length, arith}
use Rattle.syntax_trees.specs.Mentions.{file_mentions}
use Rattle.handler_syntax.proofs.Bounded.{all_below}
use Rattle.handler_syntax.proofs.Rising.{places_rise}
use Rattle.handler_syntax.proofs.reading.parse.Goals as goal

pub invariant_of-result : goal.invariant_of-result
invariant_of-result c =
    let parsed = c.in-Ok.ensures in
    let few = parsed.few in
    record {
      limits = (_, parsed.ok);
      rise = places_rise c.args.names.now c.args.source.now c.in-Ok.tree parsed.ok;
      places = all_below (length c.parse.new.names) (2 ^ 32) (file_mentions c.in-Ok.tree) (omega (arith, few, c.requires.short, c.requires.room)) parsed.printable;
    }
