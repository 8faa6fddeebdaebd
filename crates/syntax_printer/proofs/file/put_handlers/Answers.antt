use Rattle.std.proofs.Common.{◌+◌, ap, ◌∙◌}
use Rattle.syntax_trees.specs.Mentions.{handler_mentions}
use Rattle.syntax_printer.specs.Countable.{IsCountableHandler}
use Rattle.syntax_printer.specs.declared.spot.Spot.{Spot}
use Rattle.syntax_printer.proofs.Loops.{all_turn, named_turn}
use Rattle.syntax_printer.proofs.Written.{handlers_end, handlers_turn}
use Rattle.syntax_printer.proofs.file.put_handlers.Goals as goal

pub put_handler-requires-clause-named : goal.put_handler-requires-clause-named
put_handler-requires-clause-named g c = (named_turn c.args.names.now handler_mentions c.args.handlers.now c.loop-handler.handler-index _ _ c.loop-handler-test.true c.handler-item.is c.loop-handler.invariant.named).0

pub put_handler-requires-clause-countable : goal.put_handler-requires-clause-countable
put_handler-requires-clause-countable g c = (all_turn IsCountableHandler c.args.handlers.now c.loop-handler.handler-index _ _ c.loop-handler-test.true c.handler-item.is c.loop-handler.invariant.countable).0

pub loop-handler-preserved : goal.loop-handler-preserved
loop-handler-preserved g c =
    let a = g.D.Declarations.at_points c.args.at.now in
    let names = c.args.names.now in
    let xs = c.args.handlers.now in
    let i = c.loop-handler.handler-index in
    let x = c.handler-item.result in
    let next = c.next_handler-spot.ensures in
    record {
      text = handlers_turn names a xs i c.loop-handler.spot.handler c.next_handler-spot.result.handler x x c.loop-handler-test.true c.handler-item.is (ap (λ (s : Spot). s.handler) next) c.loop-handler.invariant.text c.put_handler.ensures;
      depth = ap (λ (s : Spot). s.depth) next ∙ c.loop-handler.invariant.depth;
      point = ap (λ (s : Spot). s.point) next ∙ c.loop-handler.invariant.point;
      handler = ap (λ (s : Spot). s.handler) next ∙ ap (λ n. n + 1) c.loop-handler.invariant.handler;
      countable = (all_turn IsCountableHandler xs i x x c.loop-handler-test.true c.handler-item.is c.loop-handler.invariant.countable).1;
      named = (named_turn names handler_mentions xs i x x c.loop-handler-test.true c.handler-item.is c.loop-handler.invariant.named).1;
    }

pub returns : goal.returns
returns g c = handlers_end c.args.names.now (g.D.Declarations.at_points c.args.at.now) c.args.handlers.now c.loop-handler.handler-index c.loop-handler.spot.handler c.loop-handler-test.false c.loop-handler.invariant.text
