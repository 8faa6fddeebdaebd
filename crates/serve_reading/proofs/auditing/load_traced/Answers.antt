use Rattle.std.proofs.Common.{arith}
use Rattle.request_files.proofs.TraceSizes.{line_within}
use Rattle.serve_reading.proofs.auditing.load_traced.Goals as goal

pub read_traced-requires-clause-first : goal.read_traced-requires-clause-first
read_traced-requires-clause-first c = omega (arith, c.requires.place.line, line_within c.args.bytes.now, c.requires.short)
