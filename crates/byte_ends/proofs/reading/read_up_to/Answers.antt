use Rattle.std.proofs.Common.{◌≡◌, ◌+◌, ◌<◌, length, arith}
use Rattle.std.proofs.lemmas.List.{length-take}
use Rattle.byte_ends.proofs.EndsLemmas.{long_taken, exact_taken, lost_more}
use Rattle.byte_ends.proofs.reading.read_up_to.Goals as goal

pub returns-then-is_err-clause-lost : goal.returns-then-is_err-clause-lost
returns-then-is_err-clause-lost g c =
    let gives = c.in-Bytes.ensures.gives in
    lost_more (g.I.Source.left c.args.source.now) (g.I.Source.left c.pieces.source) (g.I.Source.left c.read.new.self) c.pieces.bytes.items c.in-Bytes.n _ (c.args.most + 1) c.pieces.invariant.taken gives.2
    (omega (arith, gives.1, c.read.auto.buf, length-take c.min-left.result c.pieces.buf, c.min-left.ensures, c.len-in-pieces.ensures, c.pieces.bytes.ok.0, c.pieces.invariant.bound))

pub returns-clause-large : goal.returns-clause-large
returns-clause-large g c _ =
    let long : c.args.most < length c.pieces.bytes.items = omega (arith, c.pieces-test.false, c.len.ensures, c.pieces.bytes.ok.0) in
    long_taken (g.I.Source.left c.args.source.now) (g.I.Source.left c.pieces.source) c.pieces.bytes.items c.args.most c.pieces.invariant.taken long

pub returns-clause-gone : goal.returns-clause-gone
returns-clause-gone g c _ =
    let all : length c.pieces.bytes.items ≡ c.args.most + 1 = omega (arith, c.pieces-test.false, c.len.ensures, c.pieces.bytes.ok.0, c.pieces.invariant.bound) in
    exact_taken (g.I.Source.left c.args.source.now) (g.I.Source.left c.pieces.source) c.pieces.bytes.items (c.args.most + 1) c.pieces.invariant.taken all
