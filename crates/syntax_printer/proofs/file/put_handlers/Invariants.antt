use Rattle.std.proofs.Common.{◌≡◌, drop}
use Rattle.std.specs.List.{AllByRecursion, flat_map}
use Rattle.syntax_printer.specs.Countable.{IsCountableHandler}
use Rattle.syntax_printer.specs.Put.{put_handlers_text}
use Rattle.syntax_trees.specs.Mentions.{AreNamed, handler_mentions}
use Rattle.syntax_printer.proofs.Loops.{Owes}
use Rattle.syntax_printer.proofs.file.put_handlers.Given as goal

abbrev pub invariant-loop-handler : goal.invariant-loop-handler
invariant-loop-handler g l =
    let a = g.D.Declarations.at_points l.at in
    record {
      text : Owes g.T.TextSink.IsDue (put_handlers_text l.names a 0 l.handlers) (put_handlers_text l.names a l.spot.handler (drop l.handler-index l.handlers)) l.fn.out l.out;
      depth : l.spot.depth ≡ 0;
      point : l.spot.point ≡ 0;
      handler : l.spot.handler ≡ l.handler-index;
      countable : AllByRecursion IsCountableHandler (drop l.handler-index l.handlers);
      named : AreNamed l.names (flat_map handler_mentions (drop l.handler-index l.handlers));
    }
