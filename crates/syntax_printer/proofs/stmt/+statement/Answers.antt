use Rattle.std.proofs.Common.{◌≡◌, ◌+◌, ap, ◌∙◌, subst, arith, rules}
use Rattle.syntax_trees.specs.Mentions.{stmt_mentions}
use Rattle.syntax_printer.proofs.Counted.{before_at, block_points_few, fits_at, points_few, size_turn}
use Rattle.syntax_printer.proofs.Loops.{adds_both, named_turn}
use Rattle.syntax_printer.proofs.Parts.{named_choice, named_repeat}
use Rattle.syntax_trees.proofs.Sizes.{block_size, stmt_size, choice_smaller, repeat_smaller, member_smaller}
use Rattle.syntax_printer.proofs.Written.{block_end, block_turn, choice_adds, points_turn, repeat_adds}
use Rattle.syntax_printer.specs.declared.spot.Spot.{Spot}
use Rattle.syntax_printer.specs.Lines.{block_points, stmt_part, written}
use Rattle.syntax_printer.specs.Put.{at_of, part_at, parts_of, put_block_text, put_branch_text, put_part_text, put_point_text}
use Rattle.byte_ends.specs.Texts.{Adds}
use Rattle.syntax_printer.proofs.stmt.+statement.Goals as goal

pub put_statement-put_choice-requires : goal.put_statement-put_choice-requires
put_statement-put_choice-requires g t c =
    let smaller = choice_smaller _ _ _ _ _ _ _ c.in-Choose.is c.as_slice.ensures c.as_slice-in-Choose.ensures in
    let named = named_choice c.args.names.now _ _ _ _ _ _ _ c.in-Choose.is c.as_slice.ensures c.as_slice-in-Choose.ensures c.requires.named in
    search rules

pub put_statement-put_repeat-requires : goal.put_statement-put_repeat-requires
put_statement-put_repeat-requires g t c =
    let smaller = repeat_smaller _ _ _ _ _ _ _ _ c.in-Repeat.is c.as_slice-in-Repeat.ensures in
    let named = named_repeat c.args.names.now _ _ _ _ _ _ _ _ c.in-Repeat.is c.as_slice-in-Repeat.ensures c.requires.named in
    search rules

pub put_block-put_statement-next-requires : goal.put_block-put_statement-next-requires
put_block-put_statement-next-requires g t c =
    let xs = c.args.block.now in
    let i = c.loop-s.s-index in
    let x = c.s-item.result in
    let smaller = member_smaller xs i x x c.loop-s-test.true c.s-item.is in
    let named = (named_turn c.args.names.now stmt_mentions xs i x x c.loop-s-test.true c.s-item.is c.loop-s.invariant.named).0 in
    let turn = size_turn xs i x x c.loop-s-test.true c.s-item.is in
    let fits = fits_at c.before-in-loop-s.ensures (stmt_size x) (omega (arith, smaller, c.requires.fits.0)) (omega (arith, turn, c.loop-s.invariant.fits, c.requires.fits.1)) in
    search rules

pub put_block-loop-s-preserved : goal.put_block-loop-s-preserved
put_block-loop-s-preserved g t c =
    let a = g.D.Declarations.at_points c.args.at.now in
    let names = c.args.names.now in
    let part = stmt_part names (at_of names a c.args.spot) in
    let xs = c.args.block.now in
    let i = c.loop-s.s-index in
    let x = c.s-item.result in
    let spot = c.before-in-loop-s.ensures in
    let after : c.put_statement-next.result ≡ c.loop-s.next + (part x).points = subst (λ (s : Spot). c.put_statement-next.result ≡ s.point + (part_at names a s x).points) spot c.put_statement-next.ensures.next in
    let adds : Adds g.T.TextSink.IsDue (written a.shown ((part x).lines c.args.spot.depth c.loop-s.next)) c.loop-s.out c.put_statement-next.new.out =
    subst (λ (s : Spot). Adds g.T.TextSink.IsDue (put_part_text a s (part_at names a s x)) c.loop-s.out c.put_statement-next.new.out) spot c.put_statement-next.ensures.text in
    record {
      text = block_turn a.shown part xs i x x c.args.spot.depth c.loop-s.next c.put_statement-next.result c.loop-s-test.true c.s-item.is after c.loop-s.invariant.text adds;
      next = omega (arith, after, points_turn a.shown part xs i x x c.loop-s-test.true c.s-item.is, c.loop-s.invariant.next);
      fits = omega (arith, after, points_few names (at_of names a c.args.spot) x, size_turn xs i x x c.loop-s-test.true c.s-item.is, c.loop-s.invariant.fits);
      named = (named_turn names stmt_mentions xs i x x c.loop-s-test.true c.s-item.is c.loop-s.invariant.named).1;
    }

pub put_block-returns-clause-text : goal.put_block-returns-clause-text
put_block-returns-clause-text g t c =
    let a = g.D.Declarations.at_points c.args.at.now in
    let names = c.args.names.now in
    block_end a.shown (stmt_part names (at_of names a c.args.spot)) c.args.block.now c.loop-s.s-index c.args.spot.depth c.loop-s.next c.loop-s-test.false c.loop-s.invariant.text

pub put_choice-returns-clause-text : goal.put_choice-returns-clause-text
put_choice-returns-clause-text g t c =
    let a = g.D.Declarations.at_points c.args.at.now in
    let names = c.args.names.now in
    let spot = c.args.spot in
    let second : Adds g.T.TextSink.IsDue (put_branch_text names a (record { handler = spot.handler; depth = spot.depth; point = c.put_branch-middle.result }) c.args.choice.no.now) c.put_middle.new.out c.put_branch-next.new.out =
    subst (λ (s : Spot). Adds g.T.TextSink.IsDue (put_branch_text names a s c.args.choice.no.now) c.put_middle.new.out c.put_branch-next.new.out) c.before-2.ensures c.put_branch-next.ensures.text in
    choice_adds names (at_of names a spot) a.shown c.args.choice.cond.now (parts_of names a spot c.args.choice.yes.now) (parts_of names a spot c.args.choice.no.now) spot.depth spot.point c.put_branch-middle.result
    c.put_branch-middle.ensures.next c.put_if.ensures c.put_branch-middle.ensures.text c.put_middle.ensures second c.put_close.ensures

pub put_choice-returns-clause-next : goal.put_choice-returns-clause-next
put_choice-returns-clause-next g t c =
    let a = g.D.Declarations.at_points c.args.at.now in
    let names = c.args.names.now in
    let no = c.args.choice.no.now in
    let second : c.put_branch-next.result ≡ c.put_branch-middle.result + (1 + block_points (parts_of names a c.args.spot no)) =
    subst (λ (s : Spot). c.put_branch-next.result ≡ s.point + (1 + block_points (parts_of names a s no))) c.before-2.ensures c.put_branch-next.ensures.next in
    omega (arith, second, c.put_branch-middle.ensures.next)

pub put_repeat-returns-clause-text : goal.put_repeat-returns-clause-text
put_repeat-returns-clause-text g t c =
    let a = g.D.Declarations.at_points c.args.at.now in
    let names = c.args.names.now in
    let spot = c.args.spot in
    let body = c.args.repeat.body.now in
    let inside = c.inside-inner.ensures in
    let inner : Adds g.T.TextSink.IsDue (put_block_text names a (record { handler = spot.handler; depth = spot.depth + 1; point = spot.point }) body) c.put_repeat_head.new.out c.put_block-last.new.out =
    subst (λ (s : Spot). Adds g.T.TextSink.IsDue (put_block_text names a s body) c.put_repeat_head.new.out c.put_block-last.new.out) inside c.put_block-last.ensures.text in
    let last : c.put_block-last.result ≡ spot.point + block_points (parts_of names a spot body) =
    subst (λ (s : Spot). c.put_block-last.result ≡ s.point + block_points (parts_of names a s body)) inside c.put_block-last.ensures.next in
    let behind : Adds g.T.TextSink.IsDue (put_point_text names a (record { handler = spot.handler; depth = spot.depth; point = c.put_block-last.result })) c.put_close.new.out c.put_point.new.out =
    subst (λ (s : Spot). Adds g.T.TextSink.IsDue (put_point_text names a s) c.put_close.new.out c.put_point.new.out) c.before-2.ensures c.put_point.ensures.text in
    repeat_adds names (at_of names a spot) a.shown c.args.repeat.turns c.args.repeat.name (parts_of names a spot body) spot.depth spot.point c.put_block-last.result last c.put_repeat_head.ensures inner c.put_close.ensures behind

pub put_repeat-returns-clause-next : goal.put_repeat-returns-clause-next
put_repeat-returns-clause-next g t c =
    let a = g.D.Declarations.at_points c.args.at.now in
    let names = c.args.names.now in
    let spot = c.args.spot in
    let body = c.args.repeat.body.now in
    let last : c.put_block-last.result ≡ spot.point + block_points (parts_of names a spot body) =
    subst (λ (s : Spot). c.put_block-last.result ≡ s.point + block_points (parts_of names a s body)) c.inside-inner.ensures c.put_block-last.ensures.next in
    let next : c.put_point.result ≡ c.put_block-last.result + 1 = subst (λ (s : Spot). c.put_point.result ≡ s.point + 1) c.before-2.ensures c.put_point.ensures.next in
    omega (arith, last, next)

pub put_branch-returns-clause-text : goal.put_branch-returns-clause-text
put_branch-returns-clause-text g t c =
    let a = g.D.Declarations.at_points c.args.at.now in
    let names = c.args.names.now in
    let block = c.args.block.now in
    let inside = c.inside-inner.ensures in
    let point : Adds g.T.TextSink.IsDue (put_point_text names a (record { handler = c.args.spot.handler; depth = c.args.spot.depth + 1; point = c.args.spot.point })) c.args.out.now c.put_point-first.new.out =
    subst (λ (s : Spot). Adds g.T.TextSink.IsDue (put_point_text names a s) c.args.out.now c.put_point-first.new.out) inside c.put_point-first.ensures.text in
    let first : c.put_point-first.result ≡ c.args.spot.point + 1 = c.put_point-first.ensures.next ∙ ap (λ (s : Spot). s.point + 1) inside in
    let spot = before_at c.before-2.ensures inside first in
    let rest : Adds g.T.TextSink.IsDue (put_block_text names a (record { handler = c.args.spot.handler; depth = c.args.spot.depth + 1; point = c.args.spot.point + 1 }) block) c.put_point-first.new.out c.put_block.new.out =
    subst (λ (s : Spot). Adds g.T.TextSink.IsDue (put_block_text names a s block) c.put_point-first.new.out c.put_block.new.out) spot c.put_block.ensures.text in
    adds_both point rest

pub put_choice-put_branch-next-requires : goal.put_choice-put_branch-next-requires
put_choice-put_branch-next-requires g t c =
    let a = g.D.Declarations.at_points c.args.at.now in
    let few = block_points_few c.args.names.now (at_of c.args.names.now a c.args.spot) c.args.choice.yes.now in
    let fits = fits_at c.before-2.ensures (1 + block_size c.args.choice.no.now) (omega (arith, c.requires.fits.0)) (omega (arith, few, c.put_branch-middle.ensures.next, c.requires.fits.1)) in
    search rules

pub put_repeat-put_point-requires : goal.put_repeat-put_point-requires
put_repeat-put_point-requires g t c =
    let a = g.D.Declarations.at_points c.args.at.now in
    let names = c.args.names.now in
    let body = c.args.repeat.body.now in
    let few = block_points_few names (at_of names a c.args.spot) body in
    let last : c.put_block-last.result ≡ c.args.spot.point + block_points (parts_of names a c.args.spot body) =
    subst (λ (s : Spot). c.put_block-last.result ≡ s.point + block_points (parts_of names a s body)) c.inside-inner.ensures c.put_block-last.ensures.next in
    let point = ap (λ (s : Spot). s.point) c.before-2.ensures in
    omega (arith, few, last, point, c.requires.fits.1)
