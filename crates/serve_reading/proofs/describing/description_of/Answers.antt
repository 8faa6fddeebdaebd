use Rattle.serve_reading.proofs.Loading.{described_by, reason_of}
use Rattle.serve_reading.proofs.describing.description_of.Goals as goal

pub returns-in-Ok-described_file-clause-input : goal.returns-in-Ok-described_file-clause-input
returns-in-Ok-described_file-clause-input c = (let p = c.in-Ok.ensures.parsed in p.input c.args.shown)

pub returns-in-Ok-described_file-clause-text : goal.returns-in-Ok-described_file-clause-text
returns-in-Ok-described_file-clause-text c =
    described_by c.args.shown c.args.bytes.now _ _ _ _ _ c.in-Ok.ensures.parsed c.in-Ok-described_file.ensures.text (let a = c.in-Ok.tree-is in cc) (let b = c.in-Ok.names-is in cc)

pub returns-in-Err-clause-refused : goal.returns-in-Err-clause-refused
returns-in-Err-clause-refused c = reason_of c.args.shown c.args.bytes.now c.in-Err.e _ c.in-Err.ensures.refused (let a = c.in-Err.e-is in cc)
