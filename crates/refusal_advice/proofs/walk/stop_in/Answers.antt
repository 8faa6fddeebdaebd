use Rattle.std.proofs.Common.{◌≡◌, ◌∙◌, length, ap, arith}
use Rattle.refusal_advice.specs.Parts.{parts_of}
use Rattle.refusal_advice.proofs.Stopping.{failed, found_none, found_some, read}
use Rattle.refusal_advice.specs.Classes.{classes}
use Rattle.refusal_advice.specs.Walk.{allows}
use Rattle.std.specs.List.{filter}
use Rattle.refusal_advice.proofs.walk.stop_in.Goals as goal

pub over-reader-requires-clause-short : goal.over-reader-requires-clause-short
over-reader-requires-clause-short c = c.requires

pub over-reader-requires-clause-room : goal.over-reader-requires-clause-room
over-reader-requires-clause-room c = omega (arith, ap length c.names_for-names.ensures)

pub returns-in_err-parts : goal.returns-in_err-parts
returns-in_err-parts c = failed _ _ c.from_residual.result c.from_residual.ensures.1

pub returns-in_err-word : goal.returns-in_err-word
returns-in_err-word c = failed _ _ c.from_residual-in_err-word.result c.from_residual-in_err-word.ensures.1

pub returns-in_err-wanted-in-Some : goal.returns-in_err-wanted-in-Some
returns-in_err-wanted-in-Some c = failed _ _ c.from_residual-in_err-wanted-in-Some.result c.from_residual-in_err-wanted-in-Some.ensures.1

pub returns-in-Some : goal.returns-in-Some
returns-in-Some c =
    let start = read c.args.at c.args.source.now c.names_for-names.result c.over-reader.result.words c.over-reader.result.end (parts_of c.in_ok-parts.parts.items) c.over-reader.ensures.words c.names_for-names.ensures c.over-reader.ensures.end c.in_ok-parts.ensures in
    let found = found_some _ (parts_of c.find.new.parts.items) c.in_ok-word.field-0 c.in-Some.word c.in-Some.last c.in_ok-word.ensures c.in-Some.is in
    let same : c.as_slice.result.now ≡ c.find.new.parts.items = c.as_slice.ensures.value in
    (parts_of c.find.new.parts.items, start ∙ found, c.in_ok-wanted-in-Some.ensures ∙ ap (λ l. filter (allows (parts_of l)) classes) same)

pub returns : goal.returns
returns c =
    let start = read c.args.at c.args.source.now c.names_for-names.result c.over-reader.result.words c.over-reader.result.end (parts_of c.in_ok-parts.parts.items) c.over-reader.ensures.words c.names_for-names.ensures c.over-reader.ensures.end c.in_ok-parts.ensures in
    start ∙ found_none _ (parts_of c.find.new.parts.items) c.in_ok-word.field-0 c.in_ok-word.ensures c.in-None.is
